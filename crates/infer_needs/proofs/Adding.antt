-- Proofs and entries that are added behind others.
use Rattle.std.specs.Prelude.{◌≡◌, ◌++◌, ℕ, List, slice_get, Some}
use Rattle.std.proofs.Common.{sym, ap, ◌∙◌, subst, append_assoc}
use Rattle.infer_needs.specs.Words.{TypeAliasId, GenericArg, Ty, RawFacts, IsFront, Asked, System, Proof, asked_goal, AddsProofs, IsListedAs, HasEntry}
use Rattle.hir_types.specs.declared.goal.Goal.TheVariants as goal
use Rattle.hir_types.specs.declared.ty.Ty.TheVariants as ty
use Rattle.infer_needs.proofs.Words.{get_left, front_itself}
use Rattle.infer_needs.specs.Own.{HasProofOf, AreEntries, AddsEntries}

-- ---- proofs that are added

pub adds_none : (raw : RawFacts) (f : System) (ps : List Proof) → AddsProofs raw f ps ps
adds_none raw f ps = record { behind = front_itself ps; right = λ h. h; drawn = λ h. h }

pub adds_then : (raw : RawFacts) (f : System) (ps qs rs : List Proof) → AddsProofs raw f ps qs → AddsProofs raw f qs rs → AddsProofs raw f ps rs
adds_then raw f ps qs rs a b = record {
  behind = (a.behind.0 ++ b.behind.0, b.behind.1 ∙ ap (λ l. l ++ b.behind.0) a.behind.1 ∙ append_assoc ps a.behind.0 b.behind.0);
  right = λ h. b.right (a.right h);
  drawn = λ h. b.drawn (a.drawn h);
}

pub front_get : {X : Type 0} (xs ys : List X) → IsFront xs ys → (i : ℕ) (x : X) → slice_get xs i ≡ Some x → slice_get ys i ≡ Some x
front_get xs ys f i x e = subst (λ zs. slice_get zs i ≡ Some x) (sym f.1) (get_left xs f.0 i x e)

-- ---- what stays so

pub has_later : (ps qs : List Proof) (a : Asked) → IsFront ps qs → HasProofOf ps a → HasProofOf qs a
has_later ps qs a p h = (h.0, h.1, front_get ps qs p h.0 h.1 h.2, h.3)

pub listed_later : (js ks : List (Ty × Ty)) (k : TypeAliasId) (xs : List GenericArg) (t : Ty) → IsFront js ks → IsListedAs js k xs t → IsListedAs ks k xs t
listed_later js ks k xs t p h = (h.0, front_get js ks p h.0 (ty.Projection k xs, t) h.1)

pub entry_later : (js ks : List (Ty × Ty)) (a : Asked) → IsFront js ks → HasEntry js a → HasEntry ks a
entry_later js ks a p h = (h.0, h.1, h.2, listed_later js ks h.0 h.1 h.2 p h.3, h.4)

pub entries_later : (ps qs : List Proof) (js : List (Ty × Ty)) → IsFront ps qs → AreEntries ps js → AreEntries qs js
entries_later ps qs js p h n x at =
    let k = h n x at in
    record { alias = k.alias; args = k.args; is = k.is; proved = has_later ps qs (asked_goal (goal.Projection k.alias k.args x.1)) p k.proved; read = k.read; known = k.known; other = k.other; written = k.written }

-- ---- entries that are added

pub lists_none : (ps qs : List Proof) (js : List (Ty × Ty)) → IsFront ps qs → AddsEntries ps qs js js
lists_none ps qs js p = record { behind = front_itself js; right = entries_later ps qs js p }

pub lists_then : (ps qs rs : List Proof) (js ks ls : List (Ty × Ty)) → AddsEntries ps qs js ks → AddsEntries qs rs ks ls → AddsEntries ps rs js ls
lists_then ps qs rs js ks ls a b = record {
  behind = (a.behind.0 ++ b.behind.0, b.behind.1 ∙ ap (λ l. l ++ b.behind.0) a.behind.1 ∙ append_assoc js a.behind.0 b.behind.0);
  right = λ h. b.right (a.right h);
}
