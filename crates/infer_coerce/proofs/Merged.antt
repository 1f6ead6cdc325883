-- The common type of the alternatives of a node, and its type where they have none in common.
use Rattle.std.proofs.Common.{refl, ◌≡◌, inl, inr, subst, ◌⊎◌, sym, ◌∙◌, Option, Some, None, true}
use Rattle.infer_coerce.specs.Words.{ExprId, Ty, Scope, with_new_hole, hole_count, stays_with, Given, InferenceContext, IsSound, IsFine}
use Rattle.hir_types.specs.declared.head.HoleKind.TheVariants as kind
use Rattle.hir_types.specs.declared.ty.Ty.TheVariants as ty
use Rattle.infer_coerce.proofs.Words.{grew_by_hole, fine_hole, fine_grown}
use Rattle.infer_coerce.specs.Own.{IsCoerced, Completes, CompletesAs, Merges, CoerceMany}
use Rattle.infer_coerce.specs.declared.coerce_many.CoerceMany.TheVariants as common
use Rattle.infer_coerce.proofs.Holes.{holed, holed_sound}

-- ---- one alternative more

-- one that could be coerced to the common type
pub coerced_merges : (g : Given) (e : ExprId) (t u : Ty) (old new : InferenceContext) → IsFine g.scope old.goals.table u → IsCoerced true g e t u old new → Merges g e t (common.Is u) (common.Is u) old new
coerced_merges g e t u old new fine h = record {
  follows = h.follows;
  clock = h.clock;
  fine = fine_grown g.scope old.goals.table new.goals.table u h.follows.grew fine;
  coerced_to = λ v is. (let same : u ≡ v = cc in (true, subst (λ w. IsCoerced true g e t w old new) same h, is));
  each = λ a k. (let under = h.each a k in inl (refl, (under.0, under.2)));
}

-- ---- none in common

-- a new hole, where nothing is expected
pub hole_completes : {sc : Scope} (x : Option Ty) (m : CoerceMany) (c : InferenceContext) → IsSound sc c → x ≡ None → (m ≡ common.Nothing) ⊎ (m ≡ common.Unknown) → Completes sc x m (ty.Var (hole_count c.goals.table)) c (holed c kind.Ty)
hole_completes x m c s none is = record {
  result = refl;
  asked = refl;
  clock = refl;
  grew = grew_by_hole c.goals.table (with_new_hole c.goals.table kind.Ty) kind.Ty refl;
  stays = stays_with c.goals (with_new_hole c.goals.table kind.Ty);
  sound = holed_sound c kind.Ty s;
  fine = fine_hole _ c.goals.table;
  is = any_completes is;
}
  where
    any_completes : (m ≡ common.Nothing) ⊎ (m ≡ common.Unknown) → CompletesAs x m (ty.Var (hole_count c.goals.table))
    any_completes (inl h) = subst (λ k. CompletesAs x k (ty.Var (hole_count c.goals.table))) (sym h) tt
    any_completes (inr h) = subst (λ k. CompletesAs x k (ty.Var (hole_count c.goals.table))) (sym h) (λ u is. (let z : None ≡ Some u = sym none ∙ is in absurd (cc)))
