-- Proofs by each source, of a goal that reads so.
use Rattle.std.specs.Prelude.{◌≡◌, ◌≤◌, ◌++◌, ℕ, true, List, [], ◌∷◌, length, map, slice_get, Some, None, refl, Result, IfOk, suc, zero}
use Rattle.std.proofs.Common.{inl, inr, sym, ap, ap₂, ◌∙◌, subst}
use Rattle.std.proofs.lemmas.Result.{IfOk-weaker}
use Rattle.std.specs.declared.alloc.AllocError.{AllocError}
use Rattle.std.proofs.lemmas.Option.{same_Some}
use Rattle.goal_prove.specs.Words.{ImplId, GenericDefId, Goal, Hole, GenericArg, Term, hole, apply, occurs, RawImpl, RawFacts, apply_agree, Fill, IsFilling, Aliases, Reads, ReadsAs, stands, Kind, Asked, Rule, System, asked_at, key, only, is_among, Each, IsToldBy, IsItself, answers, CopiesParts, known_below, log_of, fill_of, HasHeads, IsDone, RuleHasHeads, Proof, ProofSource, asked_goal, ComesFrom, ImplHasRule, filled_goal, args_fill, IsUnshadowed, IsClause, IsImplAt, IsListedBound, IsBuiltIn, IsSource, IsProofOf, AreProofsOf, Holds, IsSystemOf}
use Rattle.goal_prove.specs.Words.goal_answers.Steps.{Tells}
use Rattle.goal_prove.proofs.Words.{apply_hole, reads_may, reads_agree, reads_within, answers_sound, head_tells, may_done, reads_at, each_of_get, get_within, each_get, within, clause_closed, hole_filling}
use Rattle.goal_prove.specs.Words.goal_facts.declared.proof.ProofSource.TheVariants as source
use Rattle.goal_prove.specs.Own.{Found, IsGood, IsGoodGoal, deep_alias, ReadsTo, IsAsked, IsFree, IsFit, IsProved, IsProofFor, AreProofsFor, ArePredsProved, PredIsAsked, fill_args, AddsProofs, IsProofAt, IsPushed, IsNamed, AddsChildrenBut, IsDrawn, IsReadAt, IsTaken, TakesFrom}
use Rattle.goal_prove.proofs.Adding.{adds_none, adds_then, adds_one, found_last}
use Rattle.goal_prove.proofs.Children.{children_none, children_last}
use Rattle.goal_prove.proofs.Aliases.{aliases_good}
use Rattle.goal_prove.proofs.Fitting.{yes_here, may_here, unshadowed_here}
use Rattle.goal_prove.proofs.Impled.{IsFilled, rule_filled, preds_good, fill_args_length, fill_is, args_taken, stands_occurs}

-- ---- what was pushed

module _ (raw : RawFacts) (f : System) (g : Goal) where
  at_end : (ps qs zs : List Proof) (k : ℕ) (x : Proof) → x.goal ≡ g → AddsProofs raw f ps qs → AddsChildrenBut (IsNamed x.children) ps qs → ((s : Fill) → IsFilling s → Holds raw f (deep_alias raw f) s qs (length qs) x) → IsDrawn (deep_alias raw f) qs x → IsPushed qs zs x k
      → IsProved raw f ps zs g k
  at_end ps qs zs k x same adds roots holds drawn pushed =
      let adds_all = adds_then raw f ps qs (qs ++ x ∷ []) adds (adds_one raw f qs x holds drawn) in let is = subst (λ y. IsProofAt (qs ++ x ∷ []) y (length qs)) same (found_last raw f qs x) in
      let here : IsProved raw f ps (qs ++ x ∷ []) g (length qs) = record { adds = adds_all; roots = children_last ps qs x roots; found = is } in
      subst (λ ys. IsProved raw f ps ys g k) (sym pushed.pushed) (subst (λ j. IsProved raw f ps (qs ++ x ∷ []) g j) (sym pushed.number) here)

-- ---- children

none_named : (ks : List ℕ) → [] ≡ ks → (k : ℕ) → IsNamed ks k → ⊥
none_named ks none k h = (let there : slice_get [] h.0 ≡ Some k = subst (λ xs. slice_get xs h.0 ≡ Some k) (sym none) h.1 in cc)

named_read : (raw : RawFacts) (f : System) (p : Fill) (ps : List Proof) (qs : List Asked) (ks : List ℕ) → AreProofsFor raw f p ps qs ks → (k : ℕ) → IsNamed ks k → IsReadAt ps k
named_read raw f p ps [] [] h k n = absurd (none_named [] refl k n)
named_read raw f p ps [] (j ∷ ks) h k n = absurd h
named_read raw f p ps (q ∷ qs) [] h k n = absurd h
named_read raw f p ps (q ∷ qs) (j ∷ ks) h k (zero, e) = subst (IsReadAt ps) (same_Some j k e) (record { proof = h.0.proof; at = h.0.at; read = h.0.read })
named_read raw f p ps (q ∷ qs) (j ∷ ks) h k (suc i, e) = named_read raw f p ps qs ks h.1 k (i, e)

module _ (raw : RawFacts) (f : System) (p z : Fill) (s : Fill) (filling : IsFilling s) where
  abbrev Turns : Asked → Type 0
  Turns q = (t : Term) → Reads (deep_alias raw f) p q.parts t → ReadsAs (deep_alias raw f) (apply z q.parts) t

  child : (ps : List Proof) (q : Asked) (k : ℕ) → Turns q → IsProofFor raw f p ps q k → IsProofOf (deep_alias raw f) s ps (length ps) (asked_at z q) k
  child ps q k turns h = record {
    proof = h.proof;
    before = get_within ps k h.proof h.at;
    at = h.at;
    same = (h.same.kind, h.target, h.same.reads s filling, turns h.target h.reads);
  }

  pub children_of : (ps : List Proof) (qs : List Asked) (ks : List ℕ) → Each Turns qs → AreProofsFor raw f p ps qs ks → AreProofsOf (deep_alias raw f) s ps (length ps) (map (asked_at z) qs) ks
  children_of ps [] [] t h = tt
  children_of ps [] (k ∷ ks) t h = absurd h
  children_of ps (q ∷ qs) [] t h = absurd h
  children_of ps (q ∷ qs) (k ∷ ks) t h = (child ps q k t.0 h.0, children_of ps qs ks t.1 h.1)

module _ (raw : RawFacts) (item : GenericDefId) (f : System) (of : IsSystemOf raw item f) (n : ℕ) (le : n ≤ raw.limits.goal_depth) (c : Kind) (w : Term) (asked : IsAsked raw f n c w) (g : Goal) (to : ReadsTo raw f g c w) where
  abbrev deep : ℕ
  deep = raw.limits.goal_depth

  abbrev P : Aliases
  P = deep_alias raw f

  abbrev A : Aliases
  A = (answers f n).Alias

  abbrev Own : Fill → Asked
  Own s = filled_goal s g

  reads : (s : Fill) → IsFilling s → ReadsAs P (Own s).parts w
  reads s filling = to.reads s filling

  holds_by : (src : ProofSource) (qs : List Asked) (ks : List ℕ) (ps : List Proof) (s : Fill) (filling : IsFilling s) → IsSource raw f P s (Own s) src qs → AreProofsOf P s ps (length ps) qs ks → Holds raw f P s ps (length ps) (record { goal = g; source = src; children = ks })
  holds_by src qs ks ps s filling by children = record {
    asks = qs;
    source = by;
    sized = may_here raw item f of n le c w asked g to s filling;
    children = children;
  }

  -- what it reads as, its holes staying
  own_reads : ReadsAs P (asked_goal g).parts w
  own_reads = subst (λ t. ReadsAs P t w) (apply_hole (asked_goal g).parts) (reads hole hole_filling)

  drawn_by : (src : ProofSource) → TakesFrom w src → (ks : List ℕ) (ps : List Proof) → ((k : ℕ) → IsNamed ks k → IsReadAt ps k) → IsDrawn P ps (record { goal = g; source = src; children = ks })
  drawn_by src takes ks ps children = record { target = w; reads = own_reads; takes = takes; children = children }

  -- by a source that asks for nothing
  alone : (src : ProofSource) → TakesFrom w src → ((s : Fill) → IsFilling s → IsSource raw f P s (Own s) src []) → (ks : List ℕ) → [] ≡ ks → (ps zs : List Proof) (r : Result ℕ AllocError)
      → IfOk r (λ k. IsPushed ps zs (record { goal = g; source = src; children = ks }) k) → IfOk r (λ k. IsProved raw f ps zs g k)
  alone src takes by ks none ps zs r pushed =
      IfOk-weaker r (λ k. IsPushed ps zs (record { goal = g; source = src; children = ks }) k) (λ k. IsProved raw f ps zs g k)
      (λ k h. at_end raw f g ps ps zs k (record { goal = g; source = src; children = ks }) refl (adds_none raw f ps) (children_none (IsNamed ks) ps) (λ s filling. holds_by src [] ks ps s filling (by s filling) (subst (λ xs. AreProofsOf P s ps (length ps) [] xs) none tt))
      (drawn_by src takes ks ps (λ j named. absurd (none_named ks none j named))) h)
      pushed

  -- ---- clauses

  clause_is : (x : Found) → IsFit P (known_below f deep) f.clauses c w x → (cl : Goal) → ((r : Rule) → slice_get f.clauses x.place ≡ Some r → asked_goal cl ≡ r.head) → (s : Fill) → IsFilling s → IsClause f P (Own s) cl []
  clause_is x fit cl is s filling =
      let closed = clause_closed raw item f.clauses of.clauses x.place fit.rule fit.at in
      record {
        at = x.place;
        clause = fit.rule;
        listed = fit.at;
        is = is fit.rule fit.at;
        same = (fit.kind ∙ sym to.kind, w, reads_agree P (fill_of (log_of x.fills.items)) hole fit.rule.head.parts w (λ k o. absurd (closed.head k o)) fit.holds.part, reads s filling);
        asks = sym closed.preds;
      }

  pub by_clause : (x : Found) → IsFit P (known_below f deep) f.clauses c w x → (cl : Goal) → ((r : Rule) → slice_get f.clauses x.place ≡ Some r → asked_goal cl ≡ r.head) → (ks : List ℕ) → [] ≡ ks → (ps zs : List Proof) (r : Result ℕ AllocError)
      → IfOk r (λ k. IsPushed ps zs (record { goal = g; source = source.Clause cl; children = ks }) k) → IfOk r (λ k. IsProved raw f ps zs g k)
  by_clause x fit cl is ks none ps zs r pushed = alone (source.Clause cl) tt (clause_is x fit cl is) ks none ps zs r pushed

  -- ---- what is built in

  pub by_itself : IsItself c w → (ks : List ℕ) → [] ≡ ks → (ps zs : List Proof) (r : Result ℕ AllocError)
      → IfOk r (λ k. IsPushed ps zs (record { goal = g; source = source.BuiltIn; children = ks }) k) → IfOk r (λ k. IsProved raw f ps zs g k)
  by_itself i ks none ps zs r pushed = alone source.BuiltIn tt (λ s filling. inl (refl, (w, reads s filling, subst (λ d. IsItself d w) (sym to.kind) i))) ks none ps zs r pushed

  module _ (free : IsFree raw f c w) where
    unshadowed : (s : Fill) → IsFilling s → IsUnshadowed f P (Own s)
    unshadowed s filling = unshadowed_here raw item f of n le c w asked g to s filling free

    built : ((s : Fill) → IsFilling s → IsBuiltIn raw f P (Own s) []) → (ks : List ℕ) → [] ≡ ks → (ps zs : List Proof) (r : Result ℕ AllocError)
        → IfOk r (λ k. IsPushed ps zs (record { goal = g; source = source.BuiltIn; children = ks }) k) → IfOk r (λ k. IsProved raw f ps zs g k)
    built h ks none ps zs r pushed = alone source.BuiltIn tt (λ s filling. inr (unshadowed s filling, h s filling)) ks none ps zs r pushed

    pub by_size : is_among f.sized c ≡ true → (ks : List ℕ) → [] ≡ ks → (ps zs : List Proof) (r : Result ℕ AllocError)
        → IfOk r (λ k. IsPushed ps zs (record { goal = g; source = source.BuiltIn; children = ks }) k) → IfOk r (λ k. IsProved raw f ps zs g k)
    by_size e = built (λ s filling. inl (refl, subst (λ d. is_among f.sized d ≡ true) (sym to.kind) e, yes_here raw item f of n le c w asked g to s filling))

    listed_is : (x : Found) → IsFit A (known_below f n) f.rules c w x → ((r : Rule) → slice_get f.rules x.place ≡ Some r → ComesFrom raw r None) → (s : Fill) → IsFilling s → IsListedBound raw P (Own s)
    listed_is x fit from s filling =
        let b = from fit.rule fit.at in
        let p = fill_of (log_of x.fills.items) in
        let head = reads_within A P (within f n deep le).alias p fit.rule.head.parts w fit.holds.part in (
          b.0,
          w,
          b.2,
          ap (λ (y : Rule). y.head.kind) (sym b.1) ∙ (fit.kind ∙ sym to.kind),
          reads s filling,
          (p, subst (λ (y : Rule). Reads P p y.head.parts w) b.1 head),
        )

    pub by_listed : (x : Found) → IsFit A (known_below f n) f.rules c w x → ((r : Rule) → slice_get f.rules x.place ≡ Some r → ComesFrom raw r None) → (ks : List ℕ) → [] ≡ ks → (ps zs : List Proof) (r : Result ℕ AllocError)
        → IfOk r (λ k. IsPushed ps zs (record { goal = g; source = source.BuiltIn; children = ks }) k) → IfOk r (λ k. IsProved raw f ps zs g k)
    by_listed x fit from = built (λ s filling. inr (inl (refl, listed_is x fit from s filling)))

    -- ---- by what was proved before

    over : (src : ProofSource) → TakesFrom w src → (p z : Fill) (qs : List Asked) → ((s : Fill) → IsFilling s → IsSource raw f P s (Own s) src (map (asked_at z) qs)) → Each (λ q. (t : Term) → Reads P p q.parts t → ReadsAs P (apply z q.parts) t) qs
        → (ks : List ℕ) (ps ys zs : List Proof) → ArePredsProved raw f p ps ys qs ks → (r : Result ℕ AllocError)
        → IfOk r (λ k. IsPushed ys zs (record { goal = g; source = src; children = ks }) k) → IfOk r (λ k. IsProved raw f ps zs g k)
    over src takes p z qs by turns ks ps ys zs proved r pushed =
        IfOk-weaker r (λ k. IsPushed ys zs (record { goal = g; source = src; children = ks }) k) (λ k. IsProved raw f ps zs g k)
        (λ k h. at_end raw f g ps ys zs k (record { goal = g; source = src; children = ks }) refl proved.adds proved.roots (λ s filling. holds_by src (map (asked_at z) qs) ks ys s filling (by s filling) (children_of raw f p z s filling ys qs ks turns proved.found))
        (drawn_by src takes ks ys (named_read raw f p ys qs ks proved.found)) h)
        pushed

    -- ---- parts

    parts_as : (ts : List Term) → map (asked_at hole) (map (λ t. record { kind = c; parts = only t }) ts) ≡ map (λ t. record { kind = c; parts = only t }) ts
    parts_as [] = refl
    parts_as (t ∷ ts) = ap₂ (λ x xs. x ∷ xs) (λ i. record { kind = c; parts = apply_hole (only t) i }) (parts_as ts)

    parts_turn : (qs : List Asked) → Each (λ q. (t : Term) → Reads P hole q.parts t → ReadsAs P (apply hole q.parts) t) qs
    parts_turn [] = tt
    parts_turn (q ∷ qs) = (λ t r. subst (λ x. ReadsAs P x t) (sym (apply_hole q.parts)) r, parts_turn qs)

    pub by_parts : (ts : List Term) → CopiesParts f c w ts → (qs : List Asked) → qs ≡ map (λ t. record { kind = c; parts = only t }) ts
        → (ks : List ℕ) (ps ys zs : List Proof) → ArePredsProved raw f hole ps ys qs ks → (r : Result ℕ AllocError)
        → IfOk r (λ k. IsPushed ys zs (record { goal = g; source = source.BuiltIn; children = ks }) k) → IfOk r (λ k. IsProved raw f ps zs g k)
    by_parts ts copies qs are ks ps ys zs proved r pushed =
        over source.BuiltIn tt hole hole qs
        (λ s filling. inr (
          unshadowed s filling,
          inr (inr (
            w,
            ts,
            reads s filling,
            subst (λ d. CopiesParts f d w ts) (sym to.kind) copies,
            ap (map (asked_at hole)) are ∙ (parts_as ts ∙ ap (λ d. map (λ t. record { kind = d; parts = only t }) ts) (sym to.kind)),
          )),
        )) (parts_turn qs) ks ps ys zs proved r pushed

    -- ---- impls

    module _ (x : Found) (fit : IsFit A (known_below f n) f.rules c w x) (heads : RuleHasHeads fit.rule) (id : ImplId) (has : ImplHasRule raw id fit.rule) where
      abbrev fill : Fill
      fill = fill_of (log_of x.fills.items)

      abbrev impl : RawImpl
      impl = has.0

      good_goal : IsGoodGoal fit.rule.head.kind w
      good_goal = subst (λ d. IsGoodGoal d w) (sym fit.kind) asked.good

      filled : (k : Hole) → stands k (key fit.rule.head.kind fit.rule.head.parts) ≡ true → IsFilled A (answers_sound f n).one (aliases_good raw item f of n) raw impl fill k
      filled k s = rule_filled A (answers_sound f n).one (aliases_good raw item f of n) raw impl fill has.2.0 fit.rule has.2.1 w fit.holds.part good_goal k s

      tells : Tells fit.rule fit.rule.head.parts fit.rule.preds
      tells = head_tells fit.rule fit.holds.told

      is_done : (k : Hole) → stands k fit.rule.head.parts ≡ true → IsDone (fill k)
      is_done k s = may_done fill fit.rule.head.parts w (reads_may A fill fit.rule.head.parts w fit.holds.part) asked.done k s

      -- a part of which each hole is told reads, where they are filled, as it does at what stands for them
      turned : (t u : Term) → IsToldBy fit.rule.head.parts t → Reads P fill t u → ReadsAs P (apply fill t) u
      turned t u told r = reads_at P fill t u (λ k o. (is_done k (told k o)).read) r

      preds_turn : (qs : List Asked) → Each (λ q. IsToldBy fit.rule.head.parts q.parts) qs → Each (λ q. (t : Term) → Reads P fill q.parts t → ReadsAs P (apply fill q.parts) t) qs
      preds_turn [] t = tt
      preds_turn (q ∷ qs) t = (λ u r. turned q.parts u t.0 r, preds_turn qs t.1)

      module _ (count : ℕ) (counted : count ≡ length impl.params) (s : Fill) where
        abbrev xs : List GenericArg
        xs = fill_args (log_of x.fills.items) fit.rule.head.parts count

        same_fill : (k : Hole) → stands k (key fit.rule.head.kind fit.rule.head.parts) ≡ true → args_fill s xs k ≡ fill k
        same_fill k st =
            let q = filled k st in
            subst (λ (m : ℕ). args_fill s (fill_args (log_of x.fills.items) fit.rule.head.parts m) k ≡ fill k) (sym counted)
            (fill_is (log_of x.fills.items) fit.rule.head.kind fit.rule.head.parts (length impl.params) s k q.number q.below q.is st q.good)

        same_at : (t : Term) → IsToldBy (key fit.rule.head.kind fit.rule.head.parts) t → apply fill t ≡ apply (args_fill s xs) t
        same_at t told = apply_agree fill (args_fill s xs) t (λ k o. sym (same_fill k (told k o)))

        same_preds : (qs : List Asked) → Each (λ q. IsToldBy (key fit.rule.head.kind fit.rule.head.parts) q.parts) qs → map (asked_at fill) qs ≡ map (asked_at (args_fill s xs)) qs
        same_preds [] t = refl
        same_preds (q ∷ qs) t = ap₂ (λ y ys. y ∷ ys) (λ i. record { kind = q.kind; parts = same_at q.parts t.0 i }) (same_preds qs t.1)

        impl_at : IsFilling s → IsImplAt raw P s (Own s) id xs (map (asked_at fill) fit.rule.preds)
        impl_at filling =
            let t = fit.rule.head.parts in
            let head = turned t w tells.itself (reads_within A P (within f n deep le).alias fill t w fit.holds.part) in
            record {
              item = impl;
              listed = has.1;
              as_many = fill_args_length (log_of x.fills.items) fit.rule.head.parts count ∙ counted;
              at = has.2.0;
              rule = fit.rule;
              of = has.2.1;
              same = (fit.kind ∙ sym to.kind, w, subst (λ y. ReadsAs P y w) (same_at t fit.holds.told.head) head, reads s filling);
              asks = same_preds fit.rule.preds fit.holds.told.preds;
            }

      -- a hole that stands in the head stands in the key
      in_key : (k : Hole) → stands k fit.rule.head.parts ≡ true → stands k (key fit.rule.head.kind fit.rule.head.parts) ≡ true
      in_key k s = fit.holds.told.head k (stands_occurs k fit.rule.head.parts s)

      takes : (count : ℕ) (k : ℕ) (y : GenericArg) → slice_get (fill_args (log_of x.fills.items) fit.rule.head.parts count) k ≡ Some y → IsTaken w y
      takes count k y at =
          args_taken (log_of x.fills.items) fit.rule.head.parts w (reads_may A fill fit.rule.head.parts w fit.holds.part) tells.itself (λ j s. (filled j (in_key j s)).good.type) count k y at

      pub by_impl : (count : ℕ) → count ≡ length impl.params → (args : List GenericArg) → args ≡ fill_args (log_of x.fills.items) fit.rule.head.parts count → (ks : List ℕ) (ps ys zs : List Proof) → ArePredsProved raw f fill ps ys fit.rule.preds ks → (r : Result ℕ AllocError)
          → IfOk r (λ k. IsPushed ys zs (record { goal = g; source = source.Impl id args; children = ks }) k) → IfOk r (λ k. IsProved raw f ps zs g k)
      by_impl count counted args are ks ps ys zs proved r pushed =
          over (source.Impl id args) (λ k y at. takes count k y (subst (λ ms. slice_get ms k ≡ Some y) are at)) fill fill fit.rule.preds
          (λ s filling. subst (λ ms. IsSource raw f P s (Own s) (source.Impl id ms) (map (asked_at fill) fit.rule.preds)) (sym are) (unshadowed s filling, impl_at count counted s filling))
          (preds_turn fit.rule.preds tells.preds) ks ps ys zs proved r pushed

      -- what it asks for may be proved below
      pub preds_asked : Each (PredIsAsked raw f n fill) fit.rule.preds
      preds_asked = each_of_get (PredIsAsked raw f n fill) fit.rule.preds (λ i q at.
          let by_key = each_get (λ (d : Asked). IsToldBy (key fit.rule.head.kind fit.rule.head.parts) d.parts) fit.rule.preds i q fit.holds.told.preds at in
          let by_head = each_get (λ (d : Asked). IsToldBy fit.rule.head.parts d.parts) fit.rule.preds i q tells.preds at in
          record {
            done = record { heads = each_get (λ (d : Asked). HasHeads d.parts) fit.rule.preds i q heads.preds at; fills = λ k o. is_done k (by_head k o) };
            yes = each_get (λ (d : Asked). (known_below f n).Yes (asked_at fill d)) fit.rule.preds i q fit.holds.preds at;
            good = λ m u e r.
                each_get (λ (d : Asked). ((k : Hole) → occurs k d.parts ≡ true → IsGood (fill k)) → (u : Term) → Reads (answers f m).Alias fill d.parts u → IsGoodGoal d.kind u) fit.rule.preds i q
                (preds_good (answers f m).Alias (answers_sound f m).one (aliases_good raw item f of m) raw impl fill has.2.0 fit.rule has.2.1) at (λ k o. (filled k (by_key k o)).good) u r;
          })
