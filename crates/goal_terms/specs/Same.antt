-- Terms that can be the same, and projections that can be of themselves.
use Rattle.std.specs.Prelude.{◌≡◌, ℕ, ◌+◌}
use Rattle.goal_terms.specs.Words.{TypeAliasId, Term, hole, apply, Respects, Fill, staying}
use Rattle.hir_types.specs.declared.head.Hole.TheVariants as hole_of

-- each hole as the one of its kind that is `n` further on
abbrev pub moved : ℕ → Fill
moved n (hole_of.Ty k) = hole (hole_of.Ty (n + k))
moved n (hole_of.Int k) = hole (hole_of.Int (n + k))
moved n (hole_of.Const k) = hole (hole_of.Const (n + k))

-- the two have a common instance, each with holes of its own
pub record CanBeSame (h w : Term) : Type 0 where
  pub left : Fill
  pub right : Fill
  pub left_respects : Respects left
  pub right_respects : Respects right
  pub same : apply left h ≡ apply right w

-- the type can be the alias at these arguments, as it stands
pub record CanBeItself (k : TypeAliasId) (args ty : Term) : Type 0 where
  pub at : Fill
  pub respects : Respects at
  pub same : apply at ty ≡ staying k (apply at args)
