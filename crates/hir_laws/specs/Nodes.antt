-- What stands at the position of a node.
use Rattle.std.specs.Prelude.{ℕ, ◌+◌, ◌-◌, Bool, true, false, length, nat_lt, if◌then◌else◌, slice_get, Option, Some, None}
use Rattle.std.specs.Option.{option_and_then}
use Rattle.hir_laws.specs.Words.{RawPat, RawBody, Node, inner, the_body}
use Rattle.hir_types.specs.declared.ids.ExprOrPatId.TheVariants as node
use Rattle.hir_laws.specs.Words.hir_raw.declared.raw.RawPat.TheVariants as pat
use Rattle.hir_laws.specs.Words.hir_raw.declared.later.LaterPat.TheVariants as later_pat
use Rattle.hir_laws.specs.Binders.{bound_binding}

-- the pattern with this position, where it is one
abbrev pub pattern_at : RawBody → ℕ → Option RawPat
pattern_at b i = if nat_lt i (length b.exprs) then None else slice_get b.pats (i - length b.exprs)

-- the binding that the node at this position binds, by its number
abbrev pub bound_at : RawBody → ℕ → Option ℕ
bound_at b i = option_and_then bound_binding (pattern_at b i)

abbrev pub is_or : Option RawPat → Bool
is_or (Some (pat.Later (later_pat.Or parts))) = true
is_or _ = false

-- the pattern that a node is, where it is one
abbrev pub pattern_of : RawBody → Node → Option RawPat
pattern_of b the_body = None
pattern_of b (inner (node.ExprId e)) = None
pattern_of b (inner (node.PatId p)) = slice_get b.pats p.0
