-- What opening a type does to a table and to a list of origins.
use Rattle.std.specs.Prelude.{◌≡◌, ℕ, List, [], ◌∷◌, ◌++◌, map}
use Rattle.std.proofs.Common.{refl, ap, ◌∙◌}
use Rattle.infer_table.specs.Words.{HoleKind, Term, term}
use Rattle.infer_table.specs.declared.open.Origin.{Origin}
use Rattle.infer_table.specs.Bindings.{Substitution}

-- the holes that stand for aliases, each with its alias
abbrev pub origins_of : List Origin → List (ℕ × Term)
origins_of = map (λ o. (o.hole, term o.alias))

-- holes were made, and none was bound
pub record OnlyMakes (before after : Substitution) : Type 0 where
  pub log : after.log ≡ before.log
  pub made : (kinds : List HoleKind) × (after.kinds ≡ before.kinds ++ kinds)

append_assoc : (a b c : List HoleKind) → (a ++ b) ++ c ≡ a ++ (b ++ c)
append_assoc [] b c = refl
append_assoc (x ∷ a) b c = ap (λ (z : List HoleKind). x ∷ z) (append_assoc a b c)

pub makes_both : {s m z : Substitution} → OnlyMakes s m → OnlyMakes m z → OnlyMakes s z
makes_both {s = s} {m = m} x y = record {
  log = y.log ∙ x.log;
  made = (x.made.0 ++ y.made.0, y.made.1 ∙ ap (λ (z : List HoleKind). z ++ y.made.0) x.made.1 ∙ append_assoc s.kinds x.made.0 y.made.0);
}
