use Rattle.std.proofs.Common.{◌≡◌, ◌+◌, ◌*◌, ◌++◌, drop}
use Rattle.goal_terms.specs.Words.{types, leading_args, bounds_of}
use Rattle.goal_terms.specs.Own.{parts_read}
use Rattle.goal_terms.proofs.types.+read.Given as goal

-- the levels that are left, and then how near a function stands to the next type
abbrev pub decreases-type_of : goal.decreases-type_of
decreases-type_of l = 8 * l.levels + 7

abbrev pub decreases-type_at : goal.decreases-type_at
decreases-type_at l = 8 * l.levels + 6

abbrev pub decreases-tuple_type : goal.decreases-tuple_type
decreases-tuple_type l = 8 * l.levels + 5

abbrev pub decreases-array_type : goal.decreases-array_type
decreases-array_type l = 8 * l.levels + 5

abbrev pub decreases-slice_type : goal.decreases-slice_type
decreases-slice_type l = 8 * l.levels + 5

abbrev pub decreases-ref_type : goal.decreases-ref_type
decreases-ref_type l = 8 * l.levels + 5

abbrev pub decreases-raw_ptr_type : goal.decreases-raw_ptr_type
decreases-raw_ptr_type l = 8 * l.levels + 5

abbrev pub decreases-adt_type : goal.decreases-adt_type
decreases-adt_type l = 8 * l.levels + 5

abbrev pub decreases-fn_def_type : goal.decreases-fn_def_type
decreases-fn_def_type l = 8 * l.levels + 5

abbrev pub decreases-projection_type : goal.decreases-projection_type
decreases-projection_type l = 8 * l.levels + 5

abbrev pub decreases-associated_type : goal.decreases-associated_type
decreases-associated_type l = 8 * l.levels + 5

abbrev pub decreases-opaque_type : goal.decreases-opaque_type
decreases-opaque_type l = 8 * l.levels + 5

abbrev pub decreases-fn_ptr_type : goal.decreases-fn_ptr_type
decreases-fn_ptr_type l = 8 * l.levels + 5

abbrev pub decreases-closure_type : goal.decreases-closure_type
decreases-closure_type l = 8 * l.levels + 5

abbrev pub decreases-dynamic_type : goal.decreases-dynamic_type
decreases-dynamic_type l = 8 * l.levels + 5

abbrev pub decreases-boxed_type : goal.decreases-boxed_type
decreases-boxed_type l = 8 * l.levels + 4

abbrev pub decreases-principal_of : goal.decreases-principal_of
decreases-principal_of l = 8 * l.levels + 4

abbrev pub decreases-bounds_of : goal.decreases-bounds_of
decreases-bounds_of l = 8 * l.levels + 4

abbrev pub decreases-first_type : goal.decreases-first_type
decreases-first_type l = 8 * l.levels + 3

abbrev pub decreases-types_of : goal.decreases-types_of
decreases-types_of l = 8 * l.levels + 3

abbrev pub decreases-leading_args : goal.decreases-leading_args
decreases-leading_args l = 8 * l.levels + 3

abbrev pub decreases-push_bound : goal.decreases-push_bound
decreases-push_bound l = 8 * l.levels + 3

abbrev pub decreases-push_type : goal.decreases-push_type
decreases-push_type l = 8 * l.levels + 2

abbrev pub decreases-arg_of : goal.decreases-arg_of
decreases-arg_of l = 8 * l.levels + 2

abbrev pub decreases-type_within : goal.decreases-type_within
decreases-type_within l = 8 * l.levels

-- what was read, with what the parts from this one on come to
abbrev pub invariant-types_of-loop-part : goal.invariant-types_of-loop-part
invariant-types_of-loop-part l = l.made.items ++ types (parts_read (drop l.part-index l.parts)) ≡ types (parts_read l.parts)

abbrev pub invariant-leading_args-loop-part : goal.invariant-leading_args-loop-part
invariant-leading_args-loop-part l = l.made ++ leading_args (parts_read (drop l.part-index l.parts)) ≡ leading_args (parts_read l.parts)

abbrev pub invariant-bounds_of-loop-i : goal.invariant-bounds_of-loop-i
invariant-bounds_of-loop-i l = l.made ++ bounds_of (parts_read (drop l.i l.parts)) ≡ bounds_of (parts_read l.parts)
