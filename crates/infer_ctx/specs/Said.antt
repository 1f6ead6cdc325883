-- What is said of look-ups that failed.
use Rattle.std.specs.Prelude.{Bool, true, false, List, slice_set, Option, Some, [], ◌∷◌}
use Rattle.infer_ctx.specs.Words.{ExprId, Ty, ExprOrPatId, Assignment, folded, InferenceDiagnostic, has_unknown, Seen}
use Rattle.hir_types.specs.declared.ids.ExprOrPatId.TheVariants as node
use Rattle.infer_result.specs.declared.diagnostics.InferenceDiagnostic.TheVariants as diagnostic

-- that what the call e calls has the type t and is no function, unless `{unknown}` stands in t
abbrev pub said_unless : Bool → List (Option InferenceDiagnostic) → ExprId → Ty → List (Option InferenceDiagnostic)
said_unless true ds e t = ds
said_unless false ds e t = slice_set ds e.0 (Some (diagnostic.ExpectedFunction e t))

abbrev pub said_at : List (Option InferenceDiagnostic) → ExprOrPatId → Ty → List (Option InferenceDiagnostic)
said_at ds (node.ExprId e) t = said_unless (has_unknown t) ds e t
said_at ds (node.PatId p) t = ds

-- of one look-up
abbrev pub said_of : Assignment → List (Option InferenceDiagnostic) → Seen → List (Option InferenceDiagnostic)
said_of a ds x = said_at ds x.node (folded a x.ty)

-- of each of them, beside what else is said
abbrev pub said : Assignment → List Seen → List (Option InferenceDiagnostic) → List (Option InferenceDiagnostic)
said a [] ds = ds
said a (x ∷ seen) ds = said a seen (said_of a ds x)
