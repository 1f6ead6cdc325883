-- The order of the walk, and locals that it has come to before.
use Rattle.std.proofs.Common.{◌≡◌, ◌<◌, ◌+◌, ℕ, List, [], ◌∷◌, ◌++◌, length, get_or, Bool, true, false, Option, Some, refl, sym, ◌∙◌, ap, subst, arith, inl, inr, length-append}
use Rattle.std.specs.Prelude.{slice_get, slice_index, IsTrue, ◌↔◌}
use Rattle.std.proofs.Math.Nat.{eq-or-lt_of_le}
use Rattle.std.proofs.lemmas.Option.{slice_get_within, slice_get-get_or, get_or_from_slice_get, slice_get_read}
use Rattle.std.proofs.lemmas.List.{get_or_push, get_or_append_left}
use Rattle.hir_laws.specs.Words.{BindingId, Mention, Said, RawBody, Schedule, Mentions, body_said, IsSchedule, AreDepths, IsLow, Node, position, start, IsBoundBefore, IsInScope, AreInScope, ScopesHold, AreSchedules}
use Rattle.hir_laws.specs.Words.hir_raw.declared.mention.Mention.TheVariants as it
use Rattle.hir_laws.proofs.Words.{schedule_unique, mention_said, said_mention, mentions_within, mentions_tell}
use Rattle.hir_laws.specs.Own.{binding_bound, IsBoundBelow, AreFirsts, ComesAfter, LocalsExist}
use Rattle.hir_laws.proofs.Nodes.{same_binding}

-- the numbers of the first n bodies
pub record ScheduledSoFar (bodies : List RawBody) (n : ℕ) (schedules : List Schedule) : Type 0 where
  pub size : length schedules ≡ n
  pub each : (i : ℕ) (b : RawBody) (s : Schedule) → slice_get bodies i ≡ Some b → slice_get schedules i ≡ Some s → IsSchedule b s × AreDepths b s

pub scheduled_more : (bodies : List RawBody) (n : ℕ) (old new : List Schedule) (b : RawBody) (s : Schedule) → ScheduledSoFar bodies n old → slice_get bodies n ≡ Some b → new ≡ old ++ s ∷ [] → IsSchedule b s × AreDepths b s → ScheduledSoFar bodies (n + 1) new
scheduled_more bodies n old new b s h found e law =
    let size : length old ≡ n = h.size in
    record {
      size = rw (e, length-append old (s ∷ [])) (omega arith);
      each = λ i c t at_c at_t.
          let at_u : slice_get (old ++ s ∷ []) i ≡ Some t = rw e at at_t in
          let lt : i < length (old ++ s ∷ []) = slice_get_within (old ++ s ∷ []) i t at_u in
          let long : length (old ++ s ∷ []) ≡ length old + 1 = length-append old (s ∷ []) in
          elim (eq-or-lt_of_le {n = i} {m = n} (omega arith)) [
            | inl q ↦ (let here : get_or (old ++ s ∷ []) i s ≡ s = get_or_push old s s i (size ∙ sym q) in
                let got : get_or (old ++ s ∷ []) i s ≡ t = get_or_from_slice_get (old ++ s ∷ []) i t s at_u in
                let same : s ≡ t = sym here ∙ got in
                let at_n : slice_get bodies n ≡ Some c = rw q at at_c in
                let body : b ≡ c = cc in
                rw (← same, ← body) law)
            | inr l ↦ h.each i c t at_c (let before : i < length old = omega arith in slice_get-get_or old i t before ∙ ap (λ (x : Schedule). Some x) (sym (get_or_append_left old (s ∷ []) t i before) ∙ get_or_from_slice_get (old ++ s ∷ []) i t t at_u))
          ];
    }

-- ---- locals

binds_from : (m : Mention) (v : BindingId) → binding_bound m ≡ Some v.0 → m ≡ it.Binds v
binds_from (it.Binds w) v e = ap it.Binds (same_binding w v (cc))
binds_from _ v e = cc

module _ (b : RawBody) (s : Schedule) where
  bound_below : (n : Node) (v : BindingId) → IsBoundBelow s.starts (body_said b) (length (body_said b)) v.0 (start b s n) → IsBoundBefore b s n v
  bound_below n v h =
      let from = said_mention b h.0 h.1 h.3 in
      (from.0, subst (Mentions b from.0) (binds_from h.1.mention v h.4) from.1, subst (λ i. slice_index s.starts i < start b s n) (sym from.2) h.5)

  below_bound : (n : Node) (v : BindingId) → IsBoundBefore b s n v → IsBoundBelow s.starts (body_said b) (length (body_said b)) v.0 (start b s n)
  below_bound n v h =
      let among = mention_said b h.0 (it.Binds v) h.1 in
      let x : Said = record { node = position b h.0; mention = it.Binds v } in
      (among.0, x, slice_get_within (body_said b) among.0 x among.1, among.1, refl, h.2)

  in_scope : (xs : List (Option ℕ)) → AreFirsts s.starts (body_said b) (length (body_said b)) (length b.bindings) xs → LocalsExist b
      → (n : Node) (m : Mention) → Mentions b n m → ComesAfter s.starts xs (position b n) m ↔ IsInScope b s n m
  in_scope xs firsts exist n (it.Local v) here =
      let tells = firsts.each v.0 (exist n v here) (start b s n) in
      (λ t. bound_below n v (tells.0 t), λ h. tells.1 (below_bound n v h))
  in_scope xs firsts exist n _ here = (λ _. tt, λ _. tt)

  pub scope_says : (xs : List (Option ℕ)) (starts : List ℕ) (ss : List Said) (told : Bool) → starts ≡ s.starts → ss ≡ body_said b → AreFirsts starts ss (length ss) (length b.bindings) xs → LocalsExist b
      → IsTrue told ↔ ((k : ℕ) (x : Said) → slice_get ss k ≡ Some x → ComesAfter starts xs x.node x.mention) → IsTrue told ↔ AreInScope b s
  scope_says xs starts ss told same is firsts exist says =
      let own : AreFirsts s.starts (body_said b) (length (body_said b)) (length b.bindings) xs = rw (same, is) at firsts in
      let tells = mentions_tell (ComesAfter s.starts xs) b ss told is (subst (λ ns. IsTrue told ↔ ((k : ℕ) (x : Said) → slice_get ss k ≡ Some x → ComesAfter ns xs x.node x.mention)) same says) in
      (λ t n m here. (in_scope xs own exist n m here).0 (tells.0 t n m here), λ h. tells.1 (λ n m here. (in_scope xs own exist n m here).1 (h n m here)))

-- what holds for one numbering holds for each, since there is one
scope_moves : (b : RawBody) (s t : Schedule) → IsSchedule b s → IsSchedule b t → AreInScope b s → AreInScope b t
scope_moves b s t law other scope n (it.Local v) here =
    let h = scope n (it.Local v) here in
    let binder : start b s h.0 ≡ start b t h.0 = schedule_unique b s t law other h.0 (mentions_within b h.0 (it.Binds v) h.1) in
    let reader : start b s n ≡ start b t n = schedule_unique b s t law other n (mentions_within b n (it.Local v) here) in
    (h.0, h.1, rw (← binder, ← reader) h.2)
scope_moves b s t law other scope n _ here = tt

pub scopes_say : (b : RawBody) (s : Schedule) (told : Bool) → IsSchedule b s → IsLow 256 b → (IsTrue told → AreInScope b s) × (AreInScope b s → IsTrue told) → (IsTrue told → ScopesHold b) × (ScopesHold b → IsTrue told)
scopes_say b s told law low says = (λ h t other _. scope_moves b s t law other (says.0 h), λ hold. says.1 (hold s law low))

pub deep_scopes : (b : RawBody) (told : Bool) → told ≡ false → (IsLow 256 b → IsTrue told) → (IsTrue true → ScopesHold b) × (ScopesHold b → IsTrue true)
deep_scopes b told was says = (λ h s law low. absurd (let t : told ≡ true = says low in cc), λ hold. refl)
