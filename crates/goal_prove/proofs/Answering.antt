-- What the code has in hand, as steps to a proof have it.
use Rattle.std.specs.Prelude.{◌≡◌, ◌⊎◌, ◌+◌, ◌<◌, ◌++◌, ℕ, List, [], ◌∷◌, length, take, slice_get, Some, refl}
use Rattle.std.proofs.Common.{inl, inr, sym, ap, ◌∙◌, subst, get_or}
use Rattle.std.proofs.lemmas.List.{map_more}
use Rattle.std.proofs.lemmas.Option.{slice_get_read}
use Rattle.goal_prove.specs.Words.{RawFacts, Fill, Term, Kind, Asked, Rule, System, IsItself, IsNeverItself, Answer, Decides, Proof, asked_of, asked_list, rule_of, rules_of, IsFront, Goal, asked_goal}
use Rattle.goal_prove.proofs.Words.{itself_or, get_left, entry_is}
use Rattle.goal_prove.specs.Words.goal_search.declared.answer.Answer.TheVariants as answer
use Rattle.goal_prove.specs.Words.goal_search.declared.sources.Rule.{Rule as SearchRule}
use Rattle.goal_prove.specs.Words.goal_search.declared.sources.Asked.{Asked as SearchAsked}
use Rattle.goal_prove.specs.Own.{IsProofAs, IsNamed, IsProofFor, AreProofsFor, ArePredsProved, IsPredProved}
use Rattle.goal_prove.proofs.Adding.{adds_then}
use Rattle.goal_prove.proofs.Children.{named_before, named_last, children_then}

-- the rule that was taken
pub same_rule : (rs : List SearchRule) (i : ℕ) (x : SearchRule) → x ≡ get_or rs i x → (r : Rule) → slice_get (rules_of rs) i ≡ Some r → rule_of x ≡ r
same_rule rs i x is r at = entry_is rule_of rs i x r is at

module _ (raw : RawFacts) (f : System) (p : Fill) where
  later : (ps qs : List Proof) → IsFront ps qs → (q : Asked) (k : ℕ) → IsProofFor raw f p ps q k → IsProofFor raw f p qs q k
  later ps qs front q k h = record {
    target = h.target;
    reads = h.reads;
    proof = h.proof;
    at = subst (λ zs. slice_get zs k ≡ Some h.proof) (sym front.1) (get_left ps front.0 k h.proof h.at);
    read = h.read;
    same = h.same;
  }

  all_later : (ps qs : List Proof) → IsFront ps qs → (gs : List Asked) (ks : List ℕ) → AreProofsFor raw f p ps gs ks → AreProofsFor raw f p qs gs ks
  all_later ps qs front [] [] h = tt
  all_later ps qs front [] (k ∷ ks) h = absurd h
  all_later ps qs front (g ∷ gs) [] h = absurd h
  all_later ps qs front (g ∷ gs) (k ∷ ks) h = (later ps qs front g k h.0, all_later ps qs front gs ks h.1)

  one_more : (ps : List Proof) (gs : List Asked) (ks : List ℕ) (g : Asked) (k : ℕ) → AreProofsFor raw f p ps gs ks → IsProofFor raw f p ps g k → AreProofsFor raw f p ps (gs ++ g ∷ []) (ks ++ k ∷ [])
  one_more ps [] [] g k h is = (is, tt)
  one_more ps [] (j ∷ ks) g k h is = absurd h
  one_more ps (x ∷ gs) [] g k h is = absurd h
  one_more ps (x ∷ gs) (j ∷ ks) g k h is = (h.0, one_more ps gs ks g k h.1 is)

  -- of the predicates before the next, and of the next
  pub next_proved : (ps qs zs : List Proof) (gs : List SearchAsked) (i : ℕ) (x : SearchAsked) (ks : List ℕ) (k : ℕ) → i < length gs → x ≡ get_or gs i x → ArePredsProved raw f p ps qs (asked_list (take i gs)) ks → IsPredProved raw f p qs zs (asked_of x) k
      → ArePredsProved raw f p ps zs (asked_list (take (i + 1) gs)) (ks ++ k ∷ [])
  next_proved ps qs zs gs i x ks k less at before is =
      let front = is.adds.behind in
      let more = map_more asked_of gs i x less ∙ ap (λ y. asked_list (take i gs) ++ asked_of y ∷ []) (sym at) in
      record {
        adds = adds_then raw f ps qs zs before.adds is.adds;
        roots = children_then (IsNamed ks) (λ j. Some k ≡ Some j) (IsNamed (ks ++ k ∷ [])) ps qs zs front (named_before ks k) (named_last ks k) before.roots is.roots;
        found = subst (λ ys. AreProofsFor raw f p zs ys (ks ++ k ∷ [])) (sym more)
            (one_more zs (asked_list (take i gs)) ks (asked_of x) k (all_later qs zs front (asked_list (take i gs)) ks before.found) is.found);
      }

-- a projection whose sides were not found to be the same
pub not_itself : (c : Kind) (w : Term) (a : Answer) → Decides (IsItself c w) (IsNeverItself c w) a → (a ≡ answer.No) ⊎ (a ≡ answer.Undecided) → IsItself c w → ⊥
not_itself c w answer.Yes d (inl e) i = cc
not_itself c w answer.Yes d (inr e) i = cc
not_itself c w answer.No d o i = itself_or c w i d
not_itself c w answer.Undecided d o i = d.0 i

-- ---- lists of proofs

pub entry_of_goal : (ps : List Proof) (i : ℕ) (x : Proof) → i < length ps → x ≡ get_or ps i x → (g : Goal) (a b : SearchAsked) → asked_of a ≡ asked_goal x.goal → asked_of b ≡ asked_goal g → asked_of a ≡ asked_of b → IsProofAs ps g i
entry_of_goal ps i x less is g a b of_a of_b same = (x, slice_get_read ps (length ps) i x refl less is, sym of_a ∙ (same ∙ of_b))
