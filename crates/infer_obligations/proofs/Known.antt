-- What a body knows of the types of what its definition takes and gives, found out before anything is known of a hole.
use Rattle.std.specs.Prelude.{◌≡◌, ◌<◌, ◌+◌, ℕ, List, [], ◌∷◌, ◌++◌, get_or, take, length, Option, Some, None}
use Rattle.std.proofs.Common.{sym, ap, subst, ◌∙◌}
use Rattle.std.proofs.lemmas.List.{take_more}
use Rattle.infer_obligations.specs.Words.{DefWithBodyId, TypeRefId, Ty, folded_itself, RawFacts, RawType, Scope, scope_of, written_type, inputs_of, return_type, State, new_state, resolved_type, System, TypeReads, IsTypeRead, IsSystemOf, scope_item, IsInHand, IsKnownAs, EachIsKnownAs, AreOwnTypes, aliases_of, written_inputs}

-- ---- one type

module _ (sc : Scope) (f : System) (n : ℕ) (state : State) (new : state ≡ new_state) (t : Ty) where
  as_it_is : resolved_type state t ≡ t
  as_it_is = ap (λ (s : State). resolved_type s t) new ∙ folded_itself t

  pub known_read : (u : Ty) → IsTypeRead f n (resolved_type state t) (Some u) → IsInHand sc state u → IsKnownAs sc f n t (Some u)
  known_read u read hand = (subst (λ v. TypeReads f n v u) as_it_is read, subst (λ s. IsInHand sc s u) new hand)

  pub known_not : (u : Ty) → IsTypeRead f n (resolved_type state t) (Some u) → (IsInHand sc state u → ⊥) → IsKnownAs sc f n t None
  known_not u read never = record {
    found = Some u;
    is = subst (λ v. TypeReads f n v u) as_it_is read;
    cannot = λ v same hand. (let one : u ≡ v = cc in never (subst (λ s. IsInHand sc s u) (sym new) (subst (IsInHand sc new_state) (sym one) hand)));
  }

  pub known_none : IsTypeRead f n (resolved_type state t) None → IsKnownAs sc f n t None
  known_none none = record { found = None; is = subst (λ v. IsTypeRead f n v None) as_it_is none; cannot = λ v same hand. absurd (cc) }

-- ---- several

module _ (sc : Scope) (f : System) (n : ℕ) (types : List RawType) where
  one_more : (ws : List TypeRefId) (os : List (Option Ty)) (w : TypeRefId) (o : Option Ty) → EachIsKnownAs sc f n types ws os → IsKnownAs sc f n (written_type types w) o → EachIsKnownAs sc f n types (ws ++ w ∷ []) (os ++ o ∷ [])
  one_more [] [] w o h k = (k, tt)
  one_more (v ∷ ws) (p ∷ os) w o h k = (h.0, one_more ws os w o h.1 k)
  one_more [] (p ∷ os) w o h k = absurd h
  one_more (v ∷ ws) [] w o h k = absurd h

  pub each_more : (ws : List TypeRefId) (i : ℕ) (w : TypeRefId) (t : Ty) (os : List (Option Ty)) (o : Option Ty) → i < length ws → w ≡ get_or ws i w → t ≡ written_type types w → EachIsKnownAs sc f n types (take i ws) os → IsKnownAs sc f n t o → EachIsKnownAs sc f n types (take (i + 1) ws) (os ++ o ∷ [])
  each_more ws i w t os o within is written h k =
      let taken : take (i + 1) ws ≡ take i ws ++ w ∷ [] = take_more ws i w within ∙ ap (λ v. take i ws ++ v ∷ []) (sym is) in
      subst (λ vs. EachIsKnownAs sc f n types vs (os ++ o ∷ [])) (sym taken) (one_more (take i ws) os w o h (subst (λ u. IsKnownAs sc f n u o) written k))

-- ---- of a definition

module _ (raw : RawFacts) (d : DefWithBodyId) where
  -- where no associated type is written
  pub own_written : (inputs : List (Option Ty)) (t : Ty) → aliases_of raw d ≡ [] → inputs ≡ written_inputs raw d → t ≡ return_type raw d → AreOwnTypes raw d inputs (Some t)
  own_written inputs t none takes gives = record {
    as_written = λ h. (takes, ap (λ (u : Ty). Some u) gives);
    as_read = λ h. absurd (h none);
  }

  -- where one is
  pub own_read : (f : System) (inputs : List (Option Ty)) (output : Option Ty) → (aliases_of raw d ≡ [] → ⊥) → IsSystemOf raw (scope_item raw d) f → EachIsKnownAs (scope_of raw d) f raw.limits.goal_depth raw.types (inputs_of raw d) inputs → IsKnownAs (scope_of raw d) f raw.limits.goal_depth (return_type raw d) output → AreOwnTypes raw d inputs output
  own_read f inputs output some of takes gives = record {
    as_written = λ h. absurd (some h);
    as_read = λ h. record { sources = f; of_item = of; takes = takes; gives = gives };
  }
