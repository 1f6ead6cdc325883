-- Listed proofs fit: those that no other asks for are of goals that nodes need, or that these read as, or that are listed; and what a source asks for
-- fits where its goal does.
use Rattle.std.specs.Prelude.{◌≡◌, ◌<◌, ◌≤◌, ◌+◌, ℕ, zero, suc, true, List, [], ◌∷◌, length, map, slice_get, Option, Some, None, refl}
use Rattle.std.proofs.Common.{inl, inr, arith, sym, ap, ◌∙◌, subst, true≢false}
use Rattle.std.proofs.lemmas.Option.{same_Some, slice_get_within}
use Rattle.hir_types.specs.declared.head.Head.TheVariants as head
use Rattle.hir_types.specs.declared.head.Hole.TheVariants as hole_of
use Rattle.hir_types.specs.declared.ty.GenericArg.TheVariants as arg
use Rattle.hir_types.specs.declared.ty.Mutability.TheVariants as mutability
use Rattle.hir_types.specs.declared.ty.Ty.TheVariants as ty
use Rattle.infer_needs.specs.Words.goal_facts.declared.proof.ProofSource.TheVariants as source
use Rattle.infer_needs.specs.Words.{Head, Hole, Goal, DefWithBodyId, ImplId, AliasBound, GenericArg, TraitRef, Ty, Ty-F, out-Ty, roll-out-Ty, in_ty, Term, hole, leaf, pair, occurs, ty_step, term, terms, term_at, term_error, RawBody, RawFacts, RawGoal, RawImpl, RawTraitRef, Scope, scope_of, alias_params, has_params, body_of, IsLawful, width, Kind, implements, projects, Asked, Rule, System, asked_at, self_type, only, Each, answers, Fill, IsRead, Aliases, ReadsAs, with_part, types_of, with_parts, copied_head, copied, CopiesParts, Proof, ProofSource, holes, goal_at, asked_goal, impl_holes, trait_rule, assoc_rule, rules_for, filled_goal, arg_at, args_fill, IsSame, IsImplAt, IsSource, AreProofsOf, Holds, IsSystemOf, AreRightProofs, IsNamed, IsIn, IsTaken, TakesFrom, IsReadAt, AreDrawn, AddsProofs, IsWritten, Gap, InferenceResult, scope_item, with_goals, GoalReads, IsTableOf, given}
use Rattle.goal_facts.specs.Own.{said_trait}
use Rattle.infer_needs.proofs.Words.{answers_sound, apply_hole, hole_filling, read_reads, reads_one, get_in_map, goal_holes, asked_itself, each_get}
use Rattle.infer_needs.specs.Own.{IsFitSource, IsFitProof, ProofsFit, are_types, is_fit, Fits, AskedFits, GoalIsFit, all_needs, IsOneOf, IsRootOf, AreRootsOf, AddsRootsOf}
use Rattle.infer_needs.proofs.Closed.{both}
use Rattle.infer_needs.proofs.FitEntries.{IsRight, need_right, read_right}
use Rattle.infer_needs.proofs.FitNeeds.{impl_goal_fits}
use Rattle.infer_needs.proofs.FitSources.{both_true}
use Rattle.infer_needs.proofs.FitTypes.{fit_type, fit_goal}
use Rattle.infer_needs.proofs.Provable.{same_scope}
use Rattle.infer_needs.proofs.ReadsFit.{split, hole_params_fit, asked_filled}
use Rattle.infer_needs.proofs.ReadsYes.{clauses_plain, impl_goal_written}
use Rattle.infer_needs.proofs.Rooted.{all_roots, node_needs_it}

-- ---- types are no arguments

first_leaf : (x : Ty-F GenericArg Ty AliasBound TraitRef) (a b c : Term) → ty_step (in_ty terms x) ≡ pair (pair a b) c → ⊥
first_leaf Ty-F.Bool a b c e = cc
first_leaf _ a b c e = cc

no_end : (x : Ty-F GenericArg Ty AliasBound TraitRef) (c : Term) → ty_step (in_ty terms x) ≡ pair (leaf head.End) c → ⊥
no_end Ty-F.Bool c e = cc
no_end _ c e = cc

type_is : (t : Ty) → term t ≡ ty_step (in_ty terms (out-Ty t))
type_is t = ap term (sym (roll-out-Ty t)) ∙ term_at (out-Ty t)

not_args : (t : Ty) (x y : Term) → are_types x ≡ true → term t ≡ pair x y → ⊥
not_args t (pair a b) y are e = first_leaf (out-Ty t) a b y (sym (type_is t) ∙ e)
not_args t (leaf head.End) y are e = no_end (out-Ty t) y (sym (type_is t) ∙ e)
not_args t _ y are e = true≢false (sym are)

-- ---- terms that fit, without holes

module _ (raw : RawFacts) (n : ℕ) where
  pub record IsGoodTerm (t : Term) : Type 0 where
    pub fits : Fits raw n t
    pub written : IsWritten t

  good_first : (a b : Term) → IsGoodTerm (pair a b) → IsGoodTerm a
  good_first a b h = record { fits = (split raw n a b h.fits).first; written = h.written.0 }

  good_rest : (a b : Term) → IsGoodTerm (pair a b) → IsGoodTerm b
  good_rest a b h = record { fits = (split raw n a b h.fits).rest; written = h.written.1 }

  good_in : (x t : Term) → IsIn x t → IsGoodTerm t → IsGoodTerm x
  good_in x (hole k) e h = subst IsGoodTerm (sym e) h
  good_in x (leaf y) e h = subst IsGoodTerm (sym e) h
  good_in x (pair a b) (inl e) h = subst IsGoodTerm (sym e) h
  good_in x (pair a b) (inr (inl p)) h = good_in x a p (good_first a b h)
  good_in x (pair a b) (inr (inr p)) h = good_in x b p (good_rest a b h)

  -- a type in a goal that fits
  good_inside : (t : Ty) (c : Kind) (w : Term) → AskedFits raw n c w → IsWritten w → IsIn (term t) w → IsGoodTerm (term t)
  good_inside t (implements i) w h written p = good_in (term t) w p (record { fits = h.1; written = written })
  good_inside t (projects k) (pair x y) h written (inl e) =
      let taken = (split raw n (leaf (head.AssociatedType k)) x h.0).follow in
      absurd (not_args t x y (both (has_params (alias_params raw k) (width x)) (are_types x) taken).1 e)
  good_inside t (projects k) (pair x y) h written (inr (inl p)) = good_in (term t) x p (record { fits = (split raw n (leaf (head.AssociatedType k)) x h.0).rest; written = written.0 })
  good_inside t (projects k) (pair x y) h written (inr (inr p)) = good_in (term t) y p (record { fits = h.1; written = written.1 })
  good_inside t (projects k) (hole j) h written p = absurd h
  good_inside t (projects k) (leaf x) h written p = absurd h

  good_error : IsGoodTerm (term ty.Error)
  good_error = subst IsGoodTerm (sym term_error) (record { fits = refl; written = (tt, tt) })

  -- ---- what is taken from such a goal

  abbrev pub IsGoodArg : GenericArg → Type 0
  IsGoodArg x = (t : Ty) × (x ≡ arg.Ty t) × IsGoodTerm (term t)

  pub taken_good : (c : Kind) (w : Term) → AskedFits raw n c w → IsWritten w → (x : GenericArg) → IsTaken w x → IsGoodArg x
  taken_good c w h written (arg.Ty t) (inl e) = (t, refl, subst (λ u. IsGoodTerm (term u)) (sym e) good_error)
  taken_good c w h written (arg.Ty t) (inr p) = (t, refl, good_inside t c w h written p)
  taken_good c w h written _ k = absurd k

  -- ---- parts of a type that is copied

  part_good : (a b : Term) (o : Option (List Term)) → IsGoodTerm (pair a b) → ((us : List Term) → o ≡ Some us → Each IsGoodTerm us) → (ts : List Term) → with_part a o ≡ Some ts → Each IsGoodTerm ts
  part_good (pair (leaf head.TypePart) t) b (Some us) h more ts e =
      subst (Each IsGoodTerm) (same_Some (t ∷ us) ts e) (good_rest (leaf head.TypePart) t (good_first (pair (leaf head.TypePart) t) b h), more us refl)
  part_good (pair (leaf head.ConstPart) t) b (Some us) h more ts e = subst (Each IsGoodTerm) (same_Some us ts e) (more us refl)
  part_good _ b o h more ts e = cc

  types_good : (parts : Term) → IsGoodTerm parts → (ts : List Term) → types_of parts ≡ Some ts → Each IsGoodTerm ts
  types_good (hole k) h ts e = cc
  types_good (leaf x) h ts e = subst (Each IsGoodTerm) (same_Some [] ts e) tt
  types_good (pair a b) h ts e = part_good a b (types_of b) h (λ us same. types_good b (good_rest a b h) us same) ts e

  good_end : IsGoodTerm (leaf head.End)
  good_end = record { fits = refl; written = tt }

  head_good : (x : Head) (ps parts : Term) → IsGoodTerm ps → copied_head x ps ≡ with_parts parts → IsGoodTerm parts
  head_good head.Never ps parts h e = subst IsGoodTerm (let same : leaf head.End ≡ parts = cc in same) good_end
  head_good (head.FnDef id) ps parts h e = subst IsGoodTerm (let same : leaf head.End ≡ parts = cc in same) good_end
  head_good (head.FnPtr s) ps parts h e = subst IsGoodTerm (let same : leaf head.End ≡ parts = cc in same) good_end
  head_good (head.RawPtr m) ps parts h e = subst IsGoodTerm (let same : leaf head.End ≡ parts = cc in same) good_end
  head_good (head.Ref mutability.Not) ps parts h e = subst IsGoodTerm (let same : leaf head.End ≡ parts = cc in same) good_end
  head_good head.Tuple ps parts h e = subst IsGoodTerm (let same : ps ≡ parts = cc in same) h
  head_good head.Array ps parts h e = subst IsGoodTerm (let same : ps ≡ parts = cc in same) h
  head_good _ ps parts h e = cc

  copied_good : (u parts : Term) → IsGoodTerm u → copied u ≡ with_parts parts → IsGoodTerm parts
  copied_good (pair (leaf x) ps) parts h e = head_good x ps parts (good_rest (leaf x) ps h) e
  copied_good (pair (hole k) ps) parts h e = cc
  copied_good (pair (pair a b) ps) parts h e = cc
  copied_good (leaf x) parts h e = cc
  copied_good (hole k) parts h e = cc

  self_good : (w : Term) → IsGoodTerm w → IsGoodTerm (self_type w)
  self_good (pair (pair m t) b) h = good_rest m t (good_first (pair m t) b h)
  self_good (pair (leaf x) b) h = good_end
  self_good (pair (hole k) b) h = good_end
  self_good (leaf x) h = good_end
  self_good (hole k) h = good_end

  only_fits : (t : Term) → IsGoodTerm t → Fits raw n (only t)
  only_fits t h = both_true (is_fit raw n t) true h.fits refl

-- ---- the predicates of an impl

rules_preds : (raw : RawFacts) (p : RawImpl) (o : Option RawTraitRef) (i : ℕ) (r : Rule) → slice_get (rules_for raw p o) i ≡ Some r → r.preds ≡ map (goal_at raw (impl_holes p)) p.preds
rules_preds raw p None i r at = absurd (cc)
rules_preds raw p (Some t) zero r at = ap (λ (x : Rule). x.preds) (sym (same_Some (trait_rule raw p t) r at))
rules_preds raw p (Some t) (suc i) r at = (let q = get_in_map (assoc_rule raw p t) p.types i r at in ap (λ (x : Rule). x.preds) (sym q.2))

there : {X : Type 0} (xs : List X) (i : ℕ) → i < length xs → (x : X) × (slice_get xs i ≡ Some x)
there [] i less = absurd (omega (arith, less))
there (x ∷ xs) zero less = (x, refl)
there (x ∷ xs) (suc i) less = there xs i (omega (arith, less))

module _
    (raw : RawFacts) (law : IsLawful raw) (d : DefWithBodyId) (b : RawBody) (of_body : body_of raw d ≡ Some b) (r : InferenceResult) (table : IsTableOf raw d r)
    (f : System) (of_item : IsSystemOf raw (scope_item raw d) f) where
  abbrev sc : Scope
  sc = scope_of raw d

  abbrev n : ℕ
  n = sc.params

  abbrev depth : ℕ
  depth = raw.limits.goal_depth

  abbrev P : Aliases
  P = (answers f depth).Alias

  abbrev Right : Asked → Type 0
  Right a = IsRight raw law d b of_body r table f of_item a

  abbrev Good : Term → Type 0
  Good t = IsGoodTerm raw n t

  reads_right : (a c : Asked) → GoalReads f depth a c → Right a → Right c
  reads_right a c reads h = read_right raw law d b of_body r table f of_item a c reads h

  -- ---- what a source asks for

  -- the parts of what is copied
  parts_right : (c : Kind) (w : Term) → AskedFits raw n c w → IsWritten w → (ts : List Term) → CopiesParts f c w ts → Each Right (map (λ t. record { kind = c; parts = only t }) ts)
  parts_right (projects k) w h written ts copies = absurd (true≢false (sym copies.among))
  parts_right (implements i) w h written ts copies =
      all_right ts (types_good raw n copies.parts (copied_good raw n (self_type w) copies.parts (self_good raw n w (record { fits = h.1; written = written })) copies.copied) ts copies.types)
    where
      all_right : (us : List Term) → Each Good us → Each Right (map (λ t. record { kind = implements i; parts = only t }) us)
      all_right [] all = tt
      all_right (t ∷ us) all = (record { fits = (refl, only_fits raw n t all.0); written = ((tt, all.0.written), tt) }, all_right us all.1)

  -- the predicates of an impl at such arguments
  module _ (id : ImplId) (p : RawImpl) (listed : slice_get raw.impls id.0 ≡ Some p) (xs : List GenericArg) (many : length xs ≡ length p.params) (args : (k : ℕ) (x : GenericArg) → slice_get xs k ≡ Some x → IsGoodArg raw n x) where
    abbrev s : Fill
    s = args_fill hole xs

    abbrev count : ℕ
    count = length p.params

    fill_by : (o : Option GenericArg) (x : GenericArg) → o ≡ Some x → IsGoodArg raw n x → (k : Hole) → Good (arg_at hole o k)
    fill_by o x is h k =
        let own : o ≡ Some (arg.Ty h.0) = is ∙ ap Some h.1 in
        subst (λ z. Good (arg_at hole z k)) (sym own) (subst Good (sym (apply_hole (term h.0))) h.2)

    fill_good : (g : RawGoal) (k : Hole) → occurs k (goal_at raw (holes count) g).parts ≡ true → Good (s k)
    fill_good g k o =
        let q = goal_holes raw count g k o in
        let less : q.0 < length xs = subst (λ m. q.0 < m) (sym many) q.1 in
        let x = there xs q.0 less in
        subst (λ j. Good (s j)) (sym q.2) (fill_by (slice_get xs q.0) x.0 x.1 (args q.0 x.0 x.1) (hole_of.Ty q.0))

    pred_right : (k : ℕ) (g : RawGoal) → slice_get p.preds k ≡ Some g → Right (asked_at s (goal_at raw (holes count) g))
    pred_right k g at = record {
      fits = asked_filled raw n s (goal_at raw (holes count) g) (impl_goal_fits raw law n (holes count) (hole_params_fit raw n count) id.0 p listed k g at) (λ j o. (fill_good g j o).fits);
      written = impl_goal_written raw law id.0 p listed k g at s (λ j o. (fill_good g j o).written);
    }

    preds_right : (gs : List RawGoal) → ((k : ℕ) (g : RawGoal) → slice_get gs k ≡ Some g → Right (asked_at s (goal_at raw (holes count) g))) → Each Right (map (asked_at s) (map (goal_at raw (holes count)) gs))
    preds_right [] each = tt
    preds_right (g ∷ gs) each = (each 0 g refl, preds_right gs (λ k x at. each (suc k) x at))

    pub asked_right : Each Right (map (asked_at s) (map (goal_at raw (holes count)) p.preds))
    asked_right = preds_right p.preds pred_right

  impl_right : (a : Asked) (id : ImplId) (xs : List GenericArg) (qs : List Asked) → IsImplAt raw P hole a id xs qs → ((k : ℕ) (x : GenericArg) → slice_get xs k ≡ Some x → IsGoodArg raw n x) → Each Right qs
  impl_right a id xs qs h args =
      let preds = rules_preds raw h.item (said_trait raw h.item.trait_) h.at h.rule h.of in
      subst (Each Right) (sym (h.asks ∙ ap (map (asked_at (args_fill hole xs))) preds)) (asked_right id h.item h.listed xs h.as_many args)

  nothing_asked : (qs : List Asked) → qs ≡ [] → Each Right qs
  nothing_asked qs none = subst (Each Right) (sym none) tt

  by_source : (a : Asked) (src : ProofSource) → Right a → (w : Term) → ReadsAs P a.parts w → TakesFrom w src → (qs : List Asked) → IsSource raw f P hole a src qs → Each Right qs
  by_source a (source.Clause c) right w reads takes qs h =
      nothing_asked qs (h.asks ∙ each_get (λ (z : Rule). z.preds ≡ []) f.clauses h.at h.clause (clauses_plain raw (scope_item raw d) f of_item) h.listed)
  by_source a (source.Impl id xs) right w reads takes qs h =
      let own = reads_right a (record { kind = a.kind; parts = w }) (record { kind = refl; parts = reads }) right in
      impl_right a id xs qs h.1 (λ k x at. taken_good raw n a.kind w own.fits own.written x (takes k x at))
  by_source a source.BuiltIn right w reads takes qs (inl h) = nothing_asked qs h.0
  by_source a source.BuiltIn right w reads takes qs (inr (free, inl h)) = nothing_asked qs h.0
  by_source a source.BuiltIn right w reads takes qs (inr (free, inr (inl h))) = nothing_asked qs h.0
  by_source a source.BuiltIn right w reads takes qs (inr (free, inr (inr (u, ts, here, copies, are)))) =
      let own = reads_right a (record { kind = a.kind; parts = u }) (record { kind = refl; parts = here }) right in
      subst (Each Right) (sym are) (parts_right a.kind u own.fits own.written ts copies)

  -- ---- what is asked for

  -- the goal that is read, of which it is the same as what is asked
  same_right : (q : Asked) (g : Goal) → IsRead (asked_goal g).parts → IsSame P (filled_goal hole g) q → Right q → Right (asked_goal g)
  same_right q g read same h =
      let parts = (asked_goal g).parts in
      let here : ReadsAs P parts same.1 = subst (λ t. ReadsAs P t same.1) (apply_hole parts) same.2 in
      let is : same.1 ≡ parts = reads_one P (answers_sound f depth).one hole parts same.1 parts here (read_reads P parts read) in
      reads_right q (asked_goal g) (record { kind = same.0; parts = subst (ReadsAs P q.parts) is same.3 }) h

  child_right : (ps : List Proof) (m : ℕ) (qs : List Asked) (ks : List ℕ) → AreProofsOf P hole ps m qs ks → Each Right qs → (k : ℕ) → IsNamed ks k → IsReadAt ps k → (y : Proof) → slice_get ps k ≡ Some y → Right (asked_goal y.goal)
  child_right ps m [] [] h all k named read y at = absurd (let none : None ≡ Some k = named.1 in cc)
  child_right ps m [] (j ∷ ks) h all k named read y at = absurd h
  child_right ps m (q ∷ qs) [] h all k named read y at = absurd h
  child_right ps m (q ∷ qs) (j ∷ ks) h all k (zero, e) read y at =
      let own : h.0.proof ≡ y = same_Some h.0.proof y (sym h.0.at ∙ (ap (slice_get ps) (same_Some j k e) ∙ at)) in
      let known : read.proof ≡ y = same_Some read.proof y (sym read.at ∙ at) in
      same_right q y.goal (subst (λ (z : Proof). IsRead (asked_goal z.goal).parts) known read.read) (subst (λ (z : Proof). IsSame P (filled_goal hole z.goal) q) own h.0.same) all.0
  child_right ps m (q ∷ qs) (j ∷ ks) h all k (suc i, e) read y at = child_right ps m qs ks h.1 all.1 k (i, e) read y at

  -- ---- from those that no other asks for

  root_right : (g : Goal) → IsRootOf raw (scope_item raw d) f (all_needs raw b r) g → Right (asked_goal g)
  root_right g (inl o) = needed (asked_goal g) o
    where
      needed : (a : Asked) → IsOneOf (all_needs raw b r) a → Right a
      needed a o = (let q = node_needs_it raw d b r a o in need_right raw law d b of_body r table f of_item q.0 q.1.at a q.1.among)
  root_right g (inr (other, inl (a, o, reads))) =
      let q = node_needs_it raw d b r a o in
      reads_right a (asked_goal g) reads (need_right raw law d b of_body r table f of_item q.0 q.1.at a q.1.among)
  root_right g (inr (other, inr right)) = record { fits = subst (λ (m : ℕ). GoalIsFit raw m (asked_goal g)) (same_scope raw d b of_body) right.fits; written = right.written }

  module _ (ps : List Proof) (are : AreRightProofs raw f ps) (drawn : AreDrawn raw f ps) (roots : AreRootsOf raw (scope_item raw d) f (all_needs raw b r) ps) where
    holds_at : (k : ℕ) (x : Proof) → slice_get ps k ≡ Some x → Holds raw f P hole ps k x
    holds_at k x at = are hole hole_filling k x at

    asks_right : (k : ℕ) (x : Proof) (at : slice_get ps k ≡ Some x) → Right (asked_goal x.goal) → Each Right (holds_at k x at).asks
    asks_right k x at right =
        let h = holds_at k x at in
        let own = drawn k x at in
        by_source (asked_goal x.goal) x.source right own.target own.reads own.takes h.asks (subst (λ a. IsSource raw f P hole a x.source h.asks) (asked_itself (asked_goal x.goal)) h.source)

    -- down from those behind it
    right_at : (m k : ℕ) (x : Proof) → length ps ≤ k + m → slice_get ps k ≡ Some x → Right (asked_goal x.goal)
    right_at zero k x all at = (let less = slice_get_within ps k x at in absurd (omega (arith, less, all)))
    right_at (suc m) k x all at = elim (roots.each k x at) [
      | inl c ↦ (
          let parent = right_at m c.parent c.proof (omega (arith, all, c.behind)) c.at in
          let h = holds_at c.parent c.proof c.at in
          child_right ps c.parent h.asks c.proof.children h.children (asks_right c.parent c.proof c.at parent) k c.named ((drawn c.parent c.proof c.at).children k c.named) x at
          )
      | inr root ↦ root_right x.goal root
    ]

    proof_right : (k : ℕ) (x : Proof) → slice_get ps k ≡ Some x → Right (asked_goal x.goal)
    proof_right k x at = right_at (length ps) k x (omega arith) at

    source_fits : (a : Asked) (src : ProofSource) → Right a → (w : Term) → ReadsAs P a.parts w → TakesFrom w src → IsFitSource sc src
    source_fits a (source.Impl id xs) right w reads takes = λ k x at.
        let own = reads_right a (record { kind = a.kind; parts = w }) (record { kind = refl; parts = reads }) right in
        let q = taken_good raw n a.kind w own.fits own.written x (takes k x at) in
        (q.0, q.1, fit_type sc q.0 q.2.fits q.2.written)
    source_fits a (source.Clause c) right w reads takes = tt
    source_fits a source.BuiltIn right w reads takes = tt

    -- each is of a goal that fits, at arguments that do
    pub proofs_fit : (k : ℕ) (x : Proof) → slice_get ps k ≡ Some x → IsFitProof sc x
    proofs_fit k x at =
        let right = proof_right k x at in
        let own = drawn k x at in
        record { goal = fit_goal sc x.goal right.fits right.written; source = source_fits (asked_goal x.goal) x.source right own.target own.reads own.takes }

  -- where none was before
  pub added_fit : (ps : List Proof) → AddsProofs raw f [] ps → AddsRootsOf raw (scope_item raw d) f (all_needs raw b r) [] ps → (js : List (Ty × Ty)) (gss hss : List (List Gap)) → ProofsFit d (given raw d b) (with_goals ps js gss hss r)
  added_fit ps adds roots js gss hss =
      let drawn = adds.drawn (λ k x at. absurd (let none : None ≡ Some x = at in cc)) in
      record {
        system = f;
        of_item = of_item;
        each = proofs_fit ps (adds.right (λ s filling k x at. absurd (let none : None ≡ Some x = at in cc))) drawn (all_roots (all_needs raw b r) ps roots);
        drawn = drawn;
      }
