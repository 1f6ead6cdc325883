-- Tables of `fn f() { need(1u8) }` over the facts of `Impls` in which goals hold: the proof of `u8: Tr` is listed, that `<u8 as Tr>::Out` is
-- `bool` may be, and nothing is complained of.
use Rattle.std.proofs.Common.{ℕ, zero, suc, ◌≡◌, inl, List, [], ◌∷◌, map, refl, sym, ap, subst, ◌∙◌, Some, slice_get}
use Rattle.infer_needs.specs.Words.{ExprOrPatId, Ty, Term, chain, arg_term, term_bool, term_uint, type_args, Fill, IsRead, Aliases, staying, Asked, only, answers, Proof, Holds, AreProofs, Gap, InferenceResult, IsAboutAlias, IsFound, AreFound, HasGap, HoldsUnknown, HoldsNoHole, GoalsHold}
use Rattle.hir_types.specs.declared.ids.ExprOrPatId.TheVariants as node
use Rattle.hir_types.specs.declared.ty.Ty.TheVariants as ty
use Rattle.hir_types.specs.declared.ty.UintTy.TheVariants as uint
use Rattle.infer_needs.proofs.Words.{u8, one_u8}
use Rattle.infer_needs.proofs.Samples.Impls.{out, facts, own_body, u8_term, bool_term, char_term, found_as}
use Rattle.infer_needs.proofs.Samples.Sources.{IsBare, bare_read, neither, nothing, asks_u8}
use Rattle.infer_needs.proofs.Samples.ImplProofs.{by_impl, u8_holds}
use Rattle.infer_needs.proofs.Samples.AliasProofs.{out_is_bool, out_asks, out_holds}
use Rattle.infer_needs.proofs.Samples.Needed.{given, table_of, needed, none_asked, sources, are_sources}

-- ---- goals hold

abbrev pub proofs : List Proof
proofs = by_impl u8 0 [] [] ∷ out_is_bool ∷ []

pub are_proofs : (A : Aliases) (s : Fill) → AreProofs facts sources A s proofs
are_proofs A s zero x is = (let one : by_impl u8 0 [] [] ≡ x = cc in subst (Holds facts sources A s proofs 0) one (u8_holds sources are_sources A s proofs 0))
are_proofs A s (suc zero) x is = (let one : out_is_bool ≡ x = cc in subst (Holds facts sources A s proofs 1) one (out_holds sources are_sources A s proofs 1))
are_proofs A s (suc (suc n)) x is = absurd (cc)

module _ (js : List (Ty × Ty)) where
  abbrev right : InferenceResult
  right = table_of u8 proofs js []

  no_gap : (n : ExprOrPatId) (x : Gap) → HasGap right n x → ⊥
  no_gap (node.ExprId k) x h = (let none : slice_get [] k.0 ≡ Some h.gaps = h.at in cc)
  no_gap (node.PatId k) x h = (let none : slice_get [] k.0 ≡ Some h.gaps = h.at in cc)

  pub goals_hold : AreFound right → GoalsHold own_body (given one_u8) right
  goals_hold found = record {
    system = sources;
    of_item = are_sources;
    proofs = λ s filling. are_proofs (answers sources 8).Alias s;
    needs = λ n a h. inl (record { number = 0; proof = by_impl u8 0 [] []; listed = refl; goal = asks_u8 ∙ sym (needed one_u8 u8 u8_term (term_uint uint.U8) proofs js [] n a h).1 });
    gaps = λ n x h. absurd (no_gap n x h);
    once = λ n x y h k same. absurd (no_gap n x h);
    found = found;
    entries = λ n a b h known reads about. absurd (none_asked one_u8 u8 u8_term (term_uint uint.U8) proofs js [] sources 8 n a b h reads about);
  }

-- without an entry
pub without_entry : GoalsHold own_body (given one_u8) (right [])
without_entry = goals_hold [] (record { each = λ n x is. absurd (cc); once = λ j k x y is other same. absurd (cc) })

-- with the one that the impl says
abbrev pub entry : Ty × Ty
entry = (ty.Projection out (type_args (u8 ∷ [])), ty.Bool)

pub out_known : HoldsUnknown (found_as u8_term bool_term).parts → ⊥
out_known = neither (neither (neither nothing (neither nothing nothing)) nothing) (neither nothing nothing)

pub out_whole : HoldsNoHole (found_as u8_term bool_term).parts
out_whole = (((tt, (tt, tt)), tt), (tt, tt))

pub no_bool : (x : Term) → bool_term ≡ staying out x → ⊥
no_bool x h = cc

pub out_bare : IsBare (found_as u8_term bool_term).parts
out_bare = (((tt, (tt, tt)), tt), (tt, tt))

pub about_out : IsAboutAlias (found_as u8_term bool_term)
about_out = record { alias = out; is = refl; known = out_known; other = λ h. no_bool (only u8_term) h }

pub char_known : HoldsUnknown (found_as u8_term char_term).parts → ⊥
char_known = neither (neither (neither nothing (neither nothing nothing)) nothing) (neither nothing nothing)

-- any table of these proofs and that entry
module _ (r : InferenceResult) (are : r.proofs ≡ proofs) (listed : r.projections ≡ entry ∷ []) where
  is_found : IsFound r entry
  is_found = record {
    alias = out;
    args = type_args (u8 ∷ []);
    is = refl;
    proved = record { number = 1; proof = out_is_bool; listed = ap (λ ps. slice_get ps 1) are; goal = refl };
    read = subst (λ (a : Asked). IsRead a.parts) (sym out_asks) (bare_read (found_as u8_term bool_term).parts out_bare);
    known = λ h. out_known (subst (λ (a : Asked). HoldsUnknown a.parts) out_asks h);
    other = λ h. no_bool (chain (map arg_term (type_args (u8 ∷ [])))) (sym term_bool ∙ h);
    whole = subst (λ (a : Asked). HoldsNoHole a.parts) (sym out_asks) out_whole;
  }

  each_found : (n : ℕ) (x : Ty × Ty) → slice_get (entry ∷ []) n ≡ Some x → IsFound r x
  each_found zero x is = (let one : entry ≡ x = cc in subst (IsFound r) one is_found)
  each_found (suc n) x is = absurd (cc)

  one_entry : (j k : ℕ) (x y : Ty × Ty) → slice_get (entry ∷ []) j ≡ Some x → slice_get (entry ∷ []) k ≡ Some y → x.0 ≡ y.0 → j ≡ k
  one_entry zero zero x y is other same = refl
  one_entry zero (suc k) x y is other same = absurd (cc)
  one_entry (suc j) k x y is other same = absurd (cc)

  pub found_once : AreFound r
  found_once = record {
    each = λ n x is. each_found n x (subst (λ js. slice_get js n ≡ Some x) listed is);
    once = λ j k x y is other. one_entry j k x y (subst (λ js. slice_get js j ≡ Some x) listed is) (subst (λ js. slice_get js k ≡ Some y) listed other);
  }

pub with_entry : GoalsHold own_body (given one_u8) (right (entry ∷ []))
with_entry = goals_hold (entry ∷ []) (found_once (right (entry ∷ [])) refl refl)
