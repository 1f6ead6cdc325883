-- Rounds that find out what associated types read as: after as many as there are some nothing more can be found out so.
use Rattle.std.specs.Prelude.{◌≡◌, ◌⊎◌, ◌+◌, ◌<◌, ◌≤◌, ℕ, zero, suc, Bool, true, false, List, [], ◌∷◌, length}
use Rattle.std.proofs.Common.{inl, inr, refl, sym, ap, ap₂, ◌∙◌, subst, arith}
use Rattle.infer_unify.specs.Words.{Hole, Term, hole, pair, apply, Log, resolved, Solves, Triangular, Unified, pair_left, pair_right, triangular_left, solution, solution_solves, solution_apply, resolved_apply, IsRead, IsFilling, Aliases, alias_at, ReadsAs, System, Each, answers}
use Rattle.hir_types.specs.declared.head.Hole.TheVariants as hole_of
use Rattle.infer_unify.proofs.Words.{answers_stay, reads_read, answers_read, each_map, answers_are_one, reads_as_filled, reads_one, solution_filling}
use Rattle.infer_unify.specs.Own.{Alias, known_alias, IsStepOf, IsSettled, IsAll, IsFollowed, IsRound, AreRounds}

-- what solves the first solves the second
abbrev pub Tells : Log → Log → Type 0
Tells m l = (s : Hole → Term) → Solves s m → Solves s l

-- exactly what makes two terms equal, in which no associated type is left to be read, solves the bindings
pub record IsOfRead (l : Log) : Type 0 where
  pub left : Term
  pub right : Term
  pub left_read : IsRead left
  pub right_read : IsRead right
  pub unified : Unified [] l left right

pub record IsGood (l : Log) : Type 0 where
  pub triangular : Triangular l
  pub of_read : IsOfRead l

pub good_fills : (l : Log) → IsGood l → IsFilling (solution l)
good_fills l g = solution_filling l g.of_read.left g.of_read.right g.triangular g.of_read.unified g.of_read.left_read g.of_read.right_read

-- its hole stands for what it reads as
pub record IsDone (A : Aliases) (l : Log) (p : Alias) : Type 0 where
  pub type : Term
  pub reads : ReadsAs A (known_alias l p) type
  pub equal : (s : Hole → Term) → Solves s l → s (hole_of.Ty p.hole) ≡ apply s type

-- ---- flags of what is done

abbrev AreFlags : Aliases → Log → List Bool → List Alias → Type 0
AreFlags A l [] [] = Unit {0}
AreFlags A l (true ∷ bs) (p ∷ ps) = IsDone A l p × AreFlags A l bs ps
AreFlags A l (false ∷ bs) (p ∷ ps) = AreFlags A l bs ps
AreFlags A l _ _ = ⊥

-- how many are false
abbrev left_of : List Bool → ℕ
left_of [] = 0
left_of (true ∷ bs) = left_of bs
left_of (false ∷ bs) = suc (left_of bs)

-- with fewer that are left
record IsMore (A : Aliases) (l : Log) (bs : List Bool) (ps : List Alias) : Type 0 where
  flags : List Bool
  are : AreFlags A l flags ps
  fewer : left_of flags < left_of bs

-- or with nothing found out, and nothing left that can be
record IsStill (A : Aliases) (l l' : Log) (ps : List Alias) : Type 0 where
  tells : Tells l l'
  settled : Each (IsSettled A l') ps

module _ (f : System) (n : ℕ) where
  abbrev A : Aliases
  A = (answers f n).Alias

  -- ---- what is known later

  -- what one reads as it does with more known of holes
  pub still_reads : (l m : Log) (p : Alias) (u : Term) → IsGood m → Tells m l → ReadsAs A (known_alias l p) u → ReadsAs A (known_alias m p) (resolved m u)
  still_reads l m p u g tells r =
      let s = solution m in
      let w = alias_at p.alias p.args in
      let filled = reads_as_filled s A (good_fills m g) (answers_stay f n s (good_fills m g)).alias (known_alias l p) u r in
      let same : apply s (known_alias l p) ≡ known_alias m p = resolved_apply s l w (tells s (solution_solves m g.triangular)) ∙ solution_apply m w in
      let P : Term → Type 0 = λ t. ReadsAs A t (apply s u) in
      subst (ReadsAs A (known_alias m p)) (solution_apply m u) (subst P same filled)

  -- whatever it reads as by then, its hole stands for what it read as
  pub told_equal : (l m : Log) (p : Alias) (u : Term) → IsGood m → Tells m l → IsSettled A m p → ReadsAs A (known_alias l p) u → (s : Hole → Term) → Solves s m → s (hole_of.Ty p.hole) ≡ apply s u
  told_equal l m p u g tells h r s solves = h (resolved m u) (still_reads l m p u g tells r) s solves ∙ resolved_apply s m u solves

  done_later : (l m : Log) (p : Alias) → IsGood m → Tells m l → IsDone A l p → IsDone A m p
  done_later l m p g tells d = record {
    type = resolved m d.type;
    reads = still_reads l m p d.type g tells d.reads;
    equal = λ s h. d.equal s (tells s h) ∙ sym (resolved_apply s m d.type h);
  }

  done_settled : (l : Log) (p : Alias) → IsDone A l p → IsSettled A l p
  done_settled l p d u r s h = d.equal s h ∙ ap (apply s) (reads_one A (answers_are_one f n n).1 hole (known_alias l p) d.type u d.reads r)

  settled_same : (l m : Log) (p : Alias) → IsGood l → Tells l m → Tells m l → IsSettled A l p → IsSettled A m p
  settled_same l m p g on back h u r s solves = told_equal m l p u g on h r s (back s solves)

  -- ---- one step

  step_done : (l m : Log) (p : Alias) → IsGood m → IsStepOf A p l m → IsDone A m p
  step_done l m p g st = record {
    type = resolved m st.type;
    reads = still_reads l m p st.type g st.unified.keeps st.reads;
    equal = λ s h. st.unified.unifies s h ∙ sym (resolved_apply s m st.type h);
  }

  -- where its hole stood for it already, nothing was found out
  step_still : (l m : Log) (p : Alias) → IsSettled A l p → IsStepOf A p l m → Tells l m
  step_still l m p h st s solves = st.unified.general s solves (h st.type st.reads s solves)

  pub step_of_read : (l m : Log) (p : Alias) → IsOfRead l → IsStepOf A p l m → IsOfRead m
  step_of_read l m p g st = record {
    left = pair g.left (hole (hole_of.Ty p.hole));
    right = pair g.right st.type;
    left_read = (g.left_read, tt);
    right_read = (g.right_read, reads_read A (answers_read f n) hole (known_alias l p) st.type (λ k o. tt) st.reads);
    unified = record {
      grown = (m, refl);
      keeps = λ s h. tt;
      unifies = λ s h. ap₂ pair (g.unified.unifies s (st.unified.keeps s h)) (st.unified.unifies s h);
      general = λ s h e. st.unified.general s (g.unified.general s tt (pair_left e)) (pair_right e);
    };
  }

  -- ---- one that is followed

  followed_tells : (l m : Log) (p : Alias) → IsFollowed A p l m true → Tells m l
  followed_tells l m p (inl e) s h = subst (Solves s) e.0 h
  followed_tells l m p (inr st) s h = st.unified.keeps s h

  followed_triangular : (l m : Log) (p : Alias) → IsFollowed A p l m true → Triangular m → Triangular l
  followed_triangular l m p (inl e) t = subst Triangular e.0 t
  followed_triangular l m p (inr st) t = triangular_left l st.unified.grown.0 (subst Triangular st.unified.grown.1 t)

  followed_good : (l m : Log) (p : Alias) → IsGood l → Triangular m → IsFollowed A p l m true → IsGood m
  followed_good l m p g t (inl e) = subst IsGood (sym e.0) g
  followed_good l m p g t (inr st) = record { triangular = t; of_read = step_of_read l m p g.of_read st }

  -- ---- a round

  pub round_tells : (ps : List Alias) (l l' : Log) → IsRound A ps l l' → Tells l' l
  round_tells [] l l' e s h = subst (Solves s) e h
  round_tells (p ∷ ps) l l' r s h = followed_tells l r.0 p r.1 s (round_tells ps r.0 l' r.2 s h)

  round_triangular : (ps : List Alias) (l l' : Log) → IsRound A ps l l' → Triangular l' → Triangular l
  round_triangular [] l l' e t = subst Triangular e t
  round_triangular (p ∷ ps) l l' r t = followed_triangular l r.0 p r.1 (round_triangular ps r.0 l' r.2 t)

  next_good : (ps : List Alias) (l m l' : Log) (p : Alias) → IsGood l → Triangular l' → IsFollowed A p l m true → IsRound A ps m l' → IsGood m
  next_good ps l m l' p g t h r = followed_good l m p g (round_triangular ps m l' r t) h

  round_good : (ps : List Alias) (l l' : Log) → IsGood l → Triangular l' → IsRound A ps l l' → IsGood l'
  round_good [] l l' g t e = subst IsGood (sym e) g
  round_good (p ∷ ps) l l' g t r = round_good ps r.0 l' (next_good ps l r.0 l' p g t r.1 r.2) t r.2

  flags_later : (l m : Log) → IsGood m → Tells m l → (bs : List Bool) (ps : List Alias) → AreFlags A l bs ps → AreFlags A m bs ps
  flags_later l m g tells [] [] h = tt
  flags_later l m g tells (true ∷ bs) (p ∷ ps) h = (done_later l m p g tells h.0, flags_later l m g tells bs ps h.1)
  flags_later l m g tells (false ∷ bs) (p ∷ ps) h = flags_later l m g tells bs ps h
  flags_later l m g tells [] (p ∷ ps) h = absurd h
  flags_later l m g tells (true ∷ bs) [] h = absurd h
  flags_later l m g tells (false ∷ bs) [] h = absurd h

  abbrev MoreOrStill : Log → Log → List Bool → List Alias → Type 0
  MoreOrStill l l' bs ps = IsMore A l' bs ps ⊎ IsStill A l l' ps

  -- one that is done, before others
  before_done : (l l' : Log) (bs : List Bool) (p : Alias) (ps : List Alias) → IsDone A l' p → MoreOrStill l l' bs ps → MoreOrStill l l' (true ∷ bs) (p ∷ ps)
  before_done l l' bs p ps d (inl m) = inl (record { flags = true ∷ m.flags; are = (d, m.are); fewer = m.fewer })
  before_done l l' bs p ps d (inr h) = inr (record { tells = h.tells; settled = (done_settled l' p d, h.settled) })

  -- one that reads as nothing yet
  before_open : (l l' : Log) (bs : List Bool) (p : Alias) (ps : List Alias) → IsGood l → Tells l' l → IsSettled A l p → MoreOrStill l l' bs ps → MoreOrStill l l' (false ∷ bs) (p ∷ ps)
  before_open l l' bs p ps g back i (inl m) = let c = m.fewer in inl (record { flags = false ∷ m.flags; are = m.are; fewer = omega arith })
  before_open l l' bs p ps g back i (inr h) = inr (record { tells = h.tells; settled = (settled_same l l' p g h.tells back i, h.settled) })

  -- one that is done by now
  now_done : (l l' : Log) (bs : List Bool) (p : Alias) (ps : List Alias) → IsDone A l' p → AreFlags A l' bs ps → MoreOrStill l l' (false ∷ bs) (p ∷ ps)
  now_done l l' bs p ps d h = inl (record { flags = true ∷ bs; are = (d, h); fewer = omega arith })

  still_from : (l m l' : Log) (bs : List Bool) (ps : List Alias) → Tells l m → MoreOrStill m l' bs ps → MoreOrStill l l' bs ps
  still_from l m l' bs ps on (inl h) = inl h
  still_from l m l' bs ps on (inr h) = inr (record { tells = λ s k. h.tells s (on s k); settled = h.settled })

  -- in a round one more is done, or nothing was found out
  one_round : (bs : List Bool) (ps : List Alias) (l l' : Log) → IsGood l → Triangular l' → AreFlags A l bs ps → IsRound A ps l l' → MoreOrStill l l' bs ps
  one_round [] [] l l' g t h e = inr (record { tells = λ s k. subst (Solves s) (sym e) k; settled = tt })
  one_round [] (p ∷ ps) l l' g t h r = absurd h
  one_round (true ∷ bs) [] l l' g t h r = absurd h
  one_round (false ∷ bs) [] l l' g t h r = absurd h
  one_round (true ∷ bs) (p ∷ ps) l l' g t h (m, inl e, r) =
      let rest = subst (λ (z : Log). IsRound A ps z l') e.0 r in
      let done = done_later l l' p (round_good ps l l' g t rest) (round_tells ps l l' rest) h.0 in
      before_done l l' bs p ps done (one_round bs ps l l' g t h.1 rest)
  one_round (true ∷ bs) (p ∷ ps) l l' g t h (m, inr st, r) =
      let good = next_good ps l m l' p g t (inr st) r in
      let done = done_later m l' p (round_good ps m l' good t r) (round_tells ps m l' r) (step_done l m p good st) in
      let on = step_still l m p (done_settled l p h.0) st in
      still_from l m l' (true ∷ bs) (p ∷ ps) on (before_done m l' bs p ps done (one_round bs ps m l' good t (flags_later l m good st.unified.keeps bs ps h.1) r))
  one_round (false ∷ bs) (p ∷ ps) l l' g t h (m, inl e, r) =
      let rest = subst (λ (z : Log). IsRound A ps z l') e.0 r in
      before_open l l' bs p ps g (round_tells ps l l' rest) (λ u x. absurd (e.1 u x)) (one_round bs ps l l' g t h rest)
  one_round (false ∷ bs) (p ∷ ps) l l' g t h (m, inr st, r) =
      let good = next_good ps l m l' p g t (inr st) r in
      let last = round_good ps m l' good t r in
      let back = round_tells ps m l' r in
      now_done l l' bs p ps (done_later m l' p last back (step_done l m p good st)) (flags_later l l' last (λ s k. st.unified.keeps s (back s k)) bs ps h)

  -- ---- all rounds

  abbrev none_done : List Alias → List Bool
  none_done [] = []
  none_done (p ∷ ps) = false ∷ none_done ps

  none_are : (l : Log) (ps : List Alias) → AreFlags A l (none_done ps) ps
  none_are l [] = tt
  none_are l (p ∷ ps) = none_are l ps

  none_left : (ps : List Alias) → left_of (none_done ps) ≡ length ps
  none_left [] = refl
  none_left (p ∷ ps) = ap suc (none_left ps)

  -- where none is left
  all_done : (l : Log) (bs : List Bool) (ps : List Alias) → left_of bs ≡ 0 → AreFlags A l bs ps → Each (IsSettled A l) ps
  all_done l [] [] e h = tt
  all_done l [] (p ∷ ps) e h = absurd h
  all_done l (true ∷ bs) [] e h = absurd h
  all_done l (false ∷ bs) [] e h = absurd h
  all_done l (true ∷ bs) (p ∷ ps) e h = (done_settled l p h.0, all_done l bs ps e h.1)
  all_done l (false ∷ bs) (p ∷ ps) e h = absurd (omega (arith, e))

  -- a round more finds out nothing
  round_still : (ps : List Alias) (l l' : Log) → IsGood l → Triangular l' → Each (IsSettled A l) ps → IsRound A ps l l' → Tells l l'
  round_still [] l l' g t h e s k = subst (Solves s) (sym e) k
  round_still (p ∷ ps) l l' g t h (m, inl e, r) s k = round_still ps l l' g t h.1 (subst (λ (z : Log). IsRound A ps z l') e.0 r) s k
  round_still (p ∷ ps) l l' g t h (m, inr st, r) s k =
      let good = next_good ps l m l' p g t (inr st) r in
      let on = step_still l m p h.0 st in
      round_still ps m l' good t (each_map (λ q. settled_same l m q g on st.unified.keeps) ps h.1) r s (on s k)

  -- after so many rounds nothing more can be found out, or so many are done
  abbrev IsAfter : List Alias → ℕ → Log → Type 0
  IsAfter ps k l = Each (IsSettled A l) ps ⊎ ((bs : List Bool) × AreFlags A l bs ps × (left_of bs + k ≤ length ps))

  after_round : (ps : List Alias) (k : ℕ) (l l' : Log) → IsGood l → Triangular l' → IsAfter ps k l → IsRound A ps l l' → IsAfter ps (suc k) l'
  after_round ps k l l' g t (inl h) r =
      let on = round_still ps l l' g t h r in
      inl (each_map (λ q. settled_same l l' q g on (round_tells ps l l' r)) ps h)
  after_round ps k l l' g t (inr (bs, h, few)) r = elim (one_round bs ps l l' g t h r) [
    | inl m ↦ let c = m.fewer in inr (m.flags, m.are, omega arith)
    | inr i ↦ inl i.settled
  ]

  rounds_triangular : (ps : List Alias) (k : ℕ) (l l' : Log) → AreRounds A ps k l l' → Triangular l' → Triangular l
  rounds_triangular ps zero l l' e t = subst Triangular e t
  rounds_triangular ps (suc k) l l' r t = rounds_triangular ps k l r.0 r.1 (round_triangular ps r.0 l' r.2 t)

  rounds_good : (ps : List Alias) (k : ℕ) (l l' : Log) → IsGood l → Triangular l' → AreRounds A ps k l l' → IsGood l'
  rounds_good ps zero l l' g t e = subst IsGood (sym e) g
  rounds_good ps (suc k) l l' g t r = round_good ps r.0 l' (rounds_good ps k l r.0 g (round_triangular ps r.0 l' r.2 t) r.1) t r.2

  after_rounds : (ps : List Alias) (k : ℕ) (l l' : Log) → IsGood l → Triangular l' → AreRounds A ps k l l' → IsAfter ps k l'
  after_rounds ps zero l l' g t e =
      let P : Log → Type 0 = λ z. IsAfter ps zero z in
      let c = none_left ps in
      subst P (sym e) (inr (none_done ps, none_are l ps, omega (arith, c)))
  after_rounds ps (suc k) l l' g t r =
      let u = round_triangular ps r.0 l' r.2 t in
      after_round ps k r.0 l' (rounds_good ps k l r.0 g u r.1) t (after_rounds ps k l r.0 g u r.1) r.2

  settled_after : (ps : List Alias) (l : Log) → IsAfter ps (length ps) l → Each (IsSettled A l) ps
  settled_after ps l (inl h) = h
  settled_after ps l (inr (bs, h, few)) = all_done l bs ps (omega arith) h

  -- of the most general bindings that make two read terms equal
  pub all_found : (ps : List Alias) (a b : Term) (l l' : Log) → IsRead a → IsRead b → Unified [] l a b → Triangular l' → AreRounds A ps (length ps) l l' → IsAll A ps l'
  all_found ps a b l l' read_a read_b unified t r =
      let of_read : IsOfRead l = record { left = a; right = b; left_read = read_a; right_read = read_b; unified = unified } in
      let good : IsGood l = record { triangular = rounds_triangular ps (length ps) l l' r t; of_read = of_read } in
      record { no_cycles = t; settled = settled_after ps l' (after_rounds ps (length ps) l l' good t r) }
