-- The goals of the parts of a type that is copied.
use Rattle.std.proofs.Common.{◌≡◌, Bool, true, false, refl, sym, subst, List, [], ◌∷◌, map, Option, Some, None}
use Rattle.std.proofs.lemmas.Option.{same_Some}
use Rattle.goal_search.specs.Words.{Head, Mutability, Term, hole, leaf, pair, Kind, System, self_type, only, is_among, Each, Copied, with_parts, by_impls, unclear, copied_head, copied, with_part, types_of}
use Rattle.hir_types.specs.declared.head.Head.TheVariants as head
use Rattle.hir_types.specs.declared.ty.Mutability.TheVariants as mutability
use Rattle.goal_search.specs.declared.rows.Copies.TheVariants as copies
use Rattle.goal_search.specs.Own.{asked_list, copied_asked, CopiedAre, CopiesIf, CopiesAre, IsDone, PredIsDone}
use Rattle.goal_search.proofs.Walking.{stay_done}

pub self_done : (w : Term) → IsDone w → IsDone (self_type w)
self_done (pair (pair m t) b) d = record { read = d.read.0.1; heads = d.heads.1.2 }
self_done (pair (hole k) b) d = record { read = tt; heads = tt }
self_done (pair (leaf h) b) d = record { read = tt; heads = tt }
self_done (hole k) d = record { read = tt; heads = tt }
self_done (leaf h) d = record { read = tt; heads = tt }

with_part_done : (a : Term) (o : Option (List Term)) (ts : List Term) → IsDone a → ((us : List Term) → o ≡ Some us → Each IsDone us) → with_part a o ≡ Some ts → Each IsDone ts
with_part_done (pair (leaf head.TypePart) t) (Some us) ts d h e =
    subst (Each IsDone) (same_Some (t ∷ us) ts e) (record { read = d.read.1; heads = d.heads.2 }, h us refl)
with_part_done (pair (leaf head.ConstPart) t) (Some us) ts d h e = subst (Each IsDone) (same_Some us ts e) (h us refl)
with_part_done (pair (leaf head.TypePart) t) None ts d h e = cc
with_part_done (pair (leaf head.ConstPart) t) None ts d h e = cc
with_part_done (pair (leaf _) t) o ts d h e = cc
with_part_done (pair (hole k) t) o ts d h e = cc
with_part_done (pair (pair a c) t) o ts d h e = cc
with_part_done (leaf x) o ts d h e = cc
with_part_done (hole k) o ts d h e = cc

types_done : (b : Term) (ts : List Term) → IsDone b → types_of b ≡ Some ts → Each IsDone ts
types_done (hole k) ts d e = cc
types_done (leaf h) ts d e = subst (Each IsDone) (same_Some [] ts e) tt
types_done (pair a b) ts d e =
    with_part_done a (types_of b) ts (record { read = d.read.0; heads = d.heads.1 }) (λ us e'. types_done b us (record { read = d.read.1; heads = d.heads.2 }) e') e

end_done : IsDone (leaf head.End)
end_done = record { read = tt; heads = tt }

with_parts_in : {a b : Term} → with_parts a ≡ with_parts b → a ≡ b
with_parts_in e = cc

ref_parts : (m : Mutability) (ts us : Term) → copied_head (head.Ref m) ts ≡ with_parts us → IsDone us
ref_parts mutability.Not ts us e = subst IsDone (with_parts_in e) end_done
ref_parts mutability.Mut ts us e = cc

head_parts : (h : Head) (ts us : Term) → IsDone ts → copied_head h ts ≡ with_parts us → IsDone us
head_parts head.Never ts us d e = subst IsDone (with_parts_in e) end_done
head_parts (head.FnDef id) ts us d e = subst IsDone (with_parts_in e) end_done
head_parts (head.FnPtr s) ts us d e = subst IsDone (with_parts_in e) end_done
head_parts (head.RawPtr m) ts us d e = subst IsDone (with_parts_in e) end_done
head_parts (head.Ref m) ts us d e = ref_parts m ts us e
head_parts head.Tuple ts us d e = subst IsDone (with_parts_in e) d
head_parts head.Array ts us d e = subst IsDone (with_parts_in e) d
head_parts _ ts us d e = cc

copied_parts_done : (t us : Term) → IsDone t → copied t ≡ with_parts us → IsDone us
copied_parts_done (pair (leaf h) ts) us d e = head_parts h ts us (record { read = d.read.1; heads = d.heads.2 }) e
copied_parts_done (pair (hole k) ts) us d e = cc
copied_parts_done (pair (pair a b) ts) us d e = cc
copied_parts_done (leaf h) us d e = cc
copied_parts_done (hole k) us d e = cc

goals_done : (c : Kind) (ts : List Term) → Each IsDone ts → Each (PredIsDone hole) (map (copied_asked c) ts)
goals_done c [] d = tt
goals_done c (t ∷ ts) d = (record { heads = (refl, (tt, tt, d.0.heads), tt); fills = stay_done (only t) }, goals_done c ts d.1)

pub copies_done : (f : System) (c : Kind) (w : Term) (goals : _) → IsDone w → CopiesAre f c w (copies.Of goals) → Each (PredIsDone hole) (asked_list goals.items)
copies_done f c w goals d p = by_among (is_among f.copied c) p
  where
    by_row : (row : Copied) → copied (self_type w) ≡ row → CopiedAre c row (copies.Of goals) → Each (PredIsDone hole) (asked_list goals.items)
    by_row (with_parts ts) e p = subst (Each (PredIsDone hole)) (sym p.2) (goals_done c p.0 (types_done ts p.0 (copied_parts_done (self_type w) ts (self_done w d) e) p.1))
    by_row by_impls e p = cc
    by_row unclear e p = cc

    by_among : (a : Bool) → CopiesIf a c w (copies.Of goals) → Each (PredIsDone hole) (asked_list goals.items)
    by_among true p = by_row (copied (self_type w)) refl p
    by_among false p = cc
