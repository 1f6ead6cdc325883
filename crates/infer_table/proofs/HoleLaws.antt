-- Laws of growth: what grew twice grew, and so did a table with one hole more or one pair less.
use Rattle.std.specs.Prelude.{◌≡◌, ◌++◌, List, [], ◌∷◌, Option, Some, None}
use Rattle.std.proofs.Common.{refl, sym, ap, ◌∙◌, subst, append_assoc}
use Rattle.infer_table.specs.Words.{HoleKind}
use Rattle.infer_table.specs.Own.{WaitingPair, State, with_new_hole, IsFront, Grew, TakesKnown}
use Rattle.infer_table.proofs.UndoLaws.{front_itself, grew_itself}

front_twice : {X : Type 0} (xs ys zs : List X) → IsFront xs ys → IsFront ys zs → IsFront xs zs
front_twice xs ys zs f g = (f.0 ++ g.0, g.1 ∙ ap (λ us. us ++ g.0) f.1 ∙ append_assoc xs f.0 g.0)

pub grew_twice : (s t u : State) → Grew s t → Grew t u → Grew s u
grew_twice s t u f g = record {
  kinds = front_twice s.substitution.kinds t.substitution.kinds u.substitution.kinds f.kinds g.kinds;
  log = front_twice s.substitution.log t.substitution.log u.substitution.log f.log g.log;
  made = front_twice s.pairs.made t.pairs.made u.pairs.made f.made g.made;
  taken = front_twice s.pairs.taken t.pairs.taken u.pairs.taken f.taken g.taken;
  diverging = front_twice s.diverging t.diverging u.diverging f.diverging g.diverging;
}

-- a table that is as before
pub grew_by_nothing : (s t : State) → t ≡ s → Grew s t
grew_by_nothing s t e = let P : State → Type 0 = Grew s in subst P (sym e) (grew_itself s)

with_hole_grew : (s : State) (k : HoleKind) → Grew s (with_new_hole s k)
with_hole_grew s k = record {
  kinds = (k ∷ [], refl);
  log = front_itself s.substitution.log;
  made = front_itself s.pairs.made;
  taken = front_itself s.pairs.taken;
  diverging = front_itself s.diverging;
}

pub grew_by_hole : (s t : State) (k : HoleKind) → t ≡ with_new_hole s k → Grew s t
grew_by_hole s t k e = let P : State → Type 0 = Grew s in subst P (sym e) (with_hole_grew s k)

pub grew_by_taking : (s t : State) (p : Option WaitingPair) → TakesKnown s t p → Grew s t
grew_by_taking s t None h = grew_by_nothing s t h.unchanged
grew_by_taking s t (Some p) h = h.grown
