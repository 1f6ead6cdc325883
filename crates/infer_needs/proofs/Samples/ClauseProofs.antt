-- Proofs in the scope of `fn need<T: Tr>(x: T)`, over `Impls`: the clause that it states proves `T: Tr`, and no clause proves `u8: Tr`.
use Rattle.std.proofs.Common.{ℕ, zero, suc, ◌≡◌, inl, inr, List, [], ◌∷◌, refl, sym, ap, subst, ◌∙◌, true, true≢false, Some, slice_get}
use Rattle.std.specs.Prelude.{option_map}
use Rattle.infer_needs.specs.Words.{Goal, GenericDefId, arg_as_type, Term, node, term, term_param, RawGoal, Fill, Aliases, Asked, Rule, System, implements, asked_at, only, is_among, Proof, Has, own_params, type_at, args_at, goal_at, preds_or_none, IsStated, asked_goal, filled_goal, IsSame, IsClause, IsSource, Holds, AreProofs, fact, IsSystemOf}
use Rattle.hir_types.specs.declared.head.Head.TheVariants as head
use Rattle.hir_types.specs.declared.ids.GenericDefId.TheVariants as generic
use Rattle.hir_types.specs.declared.ty.Ty.TheVariants as ty
use Rattle.infer_needs.specs.Words.goal_facts.declared.proof.ProofSource.TheVariants as source
use Rattle.infer_needs.specs.Words.goal_facts.Environment.{Follows}
use Rattle.infer_needs.proofs.Words.{get_mapped, get_in_map, type_layer, args_are, w, function, top_arg}
use Rattle.infer_needs.proofs.Samples.Impls.{tr, facts, bound, u8_term, implemented}
use Rattle.infer_needs.proofs.Samples.Sources.{same_bare, bare_same, asks, asks_is}

abbrev stating : GenericDefId
stating = generic.FunctionId function

abbrev t_term : Term
t_term = node (head.Param 0) []

-- ---- what it states, and what follows

bound_is : goal_at facts (own_params 1) (bound (w 2)) ≡ implemented t_term
bound_is =
    let xs = own_params 1 in
    let self : type_at facts xs (w 2) ≡ t_term = type_layer facts xs (w 2) ∙ (ap (λ z. term (arg_as_type z)) (top_arg (ty.Param 0)) ∙ term_param 0) in
    let args : args_at facts xs (w 2 ∷ []) ≡ only t_term = args_are facts xs (w 2 ∷ []) ∙ ap only self in
    λ i. record { kind = implements tr; parts = args i }

one_stated : (i : ℕ) (g : RawGoal) → slice_get (bound (w 2) ∷ []) i ≡ Some g → goal_at facts (own_params 1) g ≡ implemented t_term
one_stated zero g is = (let one : bound (w 2) ≡ g = cc in subst (λ x. goal_at facts (own_params 1) x ≡ implemented t_term) one bound_is)
one_stated (suc i) g is = absurd (cc)

stated_is : (d : Asked) → IsStated facts stating d → d ≡ implemented t_term
stated_is d (inl (t, is, e)) = absurd (cc)
stated_is d (inr (i, g, is, e)) = e ∙ one_stated i g is

no_supers : (k i : ℕ) (g : RawGoal) → slice_get (preds_or_none (option_map (λ x. x.preds) (slice_get facts.traits k))) i ≡ Some g → ⊥
no_supers zero i g is = cc
no_supers (suc k) i g is = cc

follows_is : (n : ℕ) (d : Asked) → Follows facts (IsStated facts stating) n d → d ≡ implemented t_term
follows_is zero d h = stated_is d h
follows_is (suc n) d (inl h) = follows_is n d h
follows_is (suc n) d (inr (c, h, q)) = absurd (no_supers q.trait_.0 q.says.0 q.says.1 q.says.2)

stated_follows : (n : ℕ) → Follows facts (IsStated facts stating) n (implemented t_term)
stated_follows zero = inr (0, bound (w 2), refl, sym bound_is)
stated_follows (suc n) = inl (stated_follows n)

asks_param : asked_goal (asks (ty.Param 0)) ≡ implemented t_term
asks_param = asks_is (ty.Param 0) t_term (term_param 0)

differ : only t_term ≡ only u8_term → ⊥
differ h = cc

module _ (s : System) (of : IsSystemOf facts stating s) (A : Aliases) (p : Fill) (ps : List Proof) (n : ℕ) where
  clause_is : (i : ℕ) (r : Rule) → slice_get s.clauses i ≡ Some r → r.head ≡ implemented t_term
  clause_is i r is =
      let d = get_in_map fact of.clauses.stated i r (subst (λ rs. slice_get rs i ≡ Some r) of.clauses.are is) in
      ap (λ (x : Rule). x.head) (sym d.2) ∙ follows_is 8 d.0 (of.clauses.closed.only i d.0 d.1)

  -- ---- refused

  -- `u8: Tr` by whatever clause
  pub by_clause : (x : Proof) (c : Goal) → slice_get ps n ≡ Some x → asked_goal x.goal ≡ implemented u8_term → x.source ≡ source.Clause c → AreProofs facts s A p ps → ⊥
  by_clause x c is goal by h =
      let holds = h n x is in
      let clause : IsClause s A (filled_goal p x.goal) c holds.asks = subst (λ y. IsSource facts s A p (filled_goal p x.goal) y holds.asks) by holds.source in
      let same : IsSame A (implemented t_term) (implemented u8_term) = subst (IsSame A (implemented t_term)) (ap (asked_at p) goal) (subst (λ d. IsSame A d (filled_goal p x.goal)) (clause_is clause.at clause.clause clause.listed) clause.same) in
      differ (same_bare A (implemented t_term) (implemented u8_term) ((tt, (tt, tt)), tt) ((tt, (tt, tt)), tt) same)

  -- ---- taken

  abbrev by_own : Proof
  by_own = record { goal = asks (ty.Param 0); source = source.Clause (asks (ty.Param 0)); children = [] }

  has_clause : Has of.clauses.stated (implemented t_term)
  has_clause = of.clauses.closed.all (implemented t_term) (stated_follows 8)

  -- `T: Tr` by the clause that is stated
  pub own_holds : Holds facts s A p ps n by_own
  own_holds =
      let is : implemented t_term ≡ filled_goal p (asks (ty.Param 0)) = sym (ap (asked_at p) asks_param) in
      record {
        asks = [];
        source = record {
          «at» = has_clause.0;
          clause = fact (implemented t_term);
          listed = subst (λ rs. slice_get rs has_clause.0 ≡ Some (fact (implemented t_term))) (sym of.clauses.are) (get_mapped fact of.clauses.stated has_clause.0 (implemented t_term) has_clause.1);
          is = asks_param;
          same = subst (IsSame A (implemented t_term)) is (bare_same A (implemented t_term) ((tt, (tt, tt)), tt));
          asks = refl;
        };
        sized = λ among _. true≢false (sym (subst (λ ts. is_among ts (implements tr) ≡ true) of.sized among));
        children = tt;
      }
