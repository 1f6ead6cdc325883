use Rattle.std.proofs.Common.{◌≡◌, ◌+◌, suc, true, false, length, slice_get, Some, None, sym, ap, ◌∙◌, subst, arith, take}
use Rattle.std.proofs.lemmas.Option.{same_Some}
use Rattle.goal_prove.specs.Words.{RawFacts, hole, RawImpl, Reads, Rule, is_among, Each, answers, ReadingIs, term_of, log_of, fill_of, holes_fill, Sources, RuleHasHeads, kind_of, asked_of, asked_list, rules_of, system}
use Rattle.goal_prove.proofs.Words.{each_at, each_in_map, each_get}
use Rattle.goal_prove.specs.Own.{CopiesAre, PredIsAsked, ArePredsProved, fill_args}
use Rattle.goal_prove.proofs.Built.{by_size, by_itself, by_listed, by_parts, by_impl, preds_asked}
use Rattle.goal_prove.proofs.Copied.{has_parts, parts_asked}
use Rattle.goal_prove.proofs.Fitting.{trait_not_itself, free, sourced}
use Rattle.goal_prove.proofs.Answering.{same_rule, next_proved, not_itself}
use Rattle.goal_prove.proofs.Below.{has_reading, below, is_done, is_good, is_asked, is_proved, made_reads, made_parts}
use Rattle.goal_prove.proofs.prove.+prove.Goals as goal

-- ---- prove_all

pub prove_all-prove_pred-requires : goal.prove_all-prove_pred-requires
prove_all-prove_pred-requires t c =
    let raw = c.args.sources.now.facts in
    let f = system c.args.sources.now.sources in
    let P = PredIsAsked raw f c.args.depth (holes_fill c.args.holes) in (
      omega (arith, c.decreases),
      (
        c.loop-pred.invariant.same ∙ c.requires.same,
        (c.requires.depth, each_at (λ q. P (asked_of q)) c.args.preds.now c.loop-pred.pred-index c.pred-item.result (omega arith) c.pred-item.is (each_in_map asked_of P c.args.preds.now c.requires.preds)),
      ),
    )

pub prove_all-loop-pred-preserved : goal.prove_all-loop-pred-preserved
prove_all-loop-pred-preserved t c =
    let raw = c.args.sources.now.facts in
    let f = system c.args.sources.now.sources in
    let p = holes_fill c.args.holes in
    let at = c.loop-pred in
    let ps = c.args.proofs.now.items in
    let zs = c.prove_pred.new.proofs.items in
    record {
      same = c.in_ok-number.ensures.same ∙ at.invariant.same;
      proved = subst (ArePredsProved raw f p ps zs (asked_list (take (at.pred-index + 1) c.args.preds.now))) (sym c.in_ok-push.ensures.ok)
          (next_proved raw f p ps at.proofs.items zs c.args.preds.now at.pred-index c.pred-item.result at.children c.in_ok-number.number (omega arith) c.pred-item.is at.invariant.proved c.in_ok-number.ensures.proved);
    }

-- ---- prove_by_impl

pub prove_by_impl-prove_all-requires : goal.prove_by_impl-prove_all-requires
prove_by_impl-prove_all-requires t c =
    let raw = c.args.sources.now.facts in
    let item = c.args.sources.now.item in
    let f = system c.args.sources.now.sources in
    let k = kind_of c.args.kind in
    let w = term_of c.args.target.now in
    let n = c.args.depth in
    let x = c.args.found in
    let fit = c.requires.fit in
    let heads = each_get RuleHasHeads f.rules x.place fit.rule c.in_ok-listed.ensures.heads.rules fit.at in
    let has = c.requires.of fit.rule fit.at in
    let asked = preds_asked raw item f c.lawful.ensures n c.requires.depth k w c.requires.asked c.args.goal.now c.requires.goal c.requires.sourced.free x fit heads c.args.id has in
    let listed = c.as_slice.ensures.value ∙ ap (λ (s : Sources). s.rules.items) c.in_ok-listed.ensures.is in
    let rule = c.index-as_slice-found.result in
    let same = same_rule c.as_slice.result.now x.place rule c.index-as_slice-found.is fit.rule (subst (λ ys. slice_get (rules_of ys) x.place ≡ Some fit.rule) (sym listed) fit.at) in
    let own = subst (λ (r : Rule). Each (PredIsAsked raw f n (fill_of (log_of x.fills.items))) r.preds) (sym same) asked in
    let sliced = subst (λ ys. Each (PredIsAsked raw f n (fill_of (log_of x.fills.items))) (asked_list ys)) (sym c.as_slice-preds.ensures.value) own in (
      omega (arith, c.decreases),
      (
        c.requires.same,
        (c.requires.depth, subst (λ ys. Each (PredIsAsked raw f n (fill_of (log_of ys))) (asked_list c.as_slice-preds.result.now)) (sym c.as_slice-fills.ensures.value) sliced),
      ),
    )

pub prove_by_impl-returns-clause-proved : goal.prove_by_impl-returns-clause-proved
prove_by_impl-returns-clause-proved t c =
    let raw = c.args.sources.now.facts in
    let item = c.args.sources.now.item in
    let f = system c.args.sources.now.sources in
    let k = kind_of c.args.kind in
    let w = term_of c.args.target.now in
    let n = c.args.depth in
    let x = c.args.found in
    let fit = c.requires.fit in
    let heads = each_get RuleHasHeads f.rules x.place fit.rule c.in_ok-listed.ensures.heads.rules fit.at in
    let has = c.requires.of fit.rule fit.at in
    let listed = c.as_slice.ensures.value ∙ ap (λ (s : Sources). s.rules.items) c.in_ok-listed.ensures.is in
    let rule = c.index-as_slice-found.result in
    let same = same_rule c.as_slice.result.now x.place rule c.index-as_slice-found.is fit.rule (subst (λ ys. slice_get (rules_of ys) x.place ≡ Some fit.rule) (sym listed) fit.at) in
    let there = subst (λ (z : RawFacts). slice_get z.impls c.args.id.0 ≡ Some c.impl_-item.result.now) c.facts-2.ensures c.impl_-item.ensures in
    let own : c.impl_-item.result.now ≡ has.0 = same_Some c.impl_-item.result.now has.0 (sym there ∙ has.1) in
    let ps = c.args.proofs.now.items in
    let ys = c.prove_all.new.proofs.items in
    let ks = c.in_ok-children.children in
    let filled = subst (λ zs. ArePredsProved raw f (fill_of (log_of zs)) ps ys (asked_list c.as_slice-preds.result.now) ks) c.as_slice-fills.ensures.value c.in_ok-children.ensures.proved in
    let sliced = subst (λ zs. ArePredsProved raw f (fill_of (log_of x.fills.items)) ps ys (asked_list zs) ks) c.as_slice-preds.ensures.value filled in
    let proved = subst (λ (r : Rule). ArePredsProved raw f (fill_of (log_of x.fills.items)) ps ys r.preds ks) same sliced in
    by_impl raw item f c.lawful.ensures n c.requires.depth k w c.requires.asked c.args.goal.now c.requires.goal c.requires.sourced.free x fit heads c.args.id has
    c.len.result (c.len.ensures ∙ ap (λ (z : RawImpl). length z.params) own) c.in_ok-args.args (c.in_ok-args.ensures ∙ (ap (λ zs. fill_args (log_of zs) (term_of rule.head.parts) c.len.result) c.as_slice-fills.ensures.value ∙ ap (λ (r : Rule). fill_args (log_of x.fills.items) r.head.parts c.len.result) same))
    ks ps ys c.push_proof.new.proofs.items proved c.push_proof.result c.push_proof.ensures

-- ---- prove_by_parts

pub prove_by_parts-unreachable-requires : goal.prove_by_parts-unreachable-requires
prove_by_parts-unreachable-requires t c =
    let raw = c.args.sources.now.facts in
    let f = system c.args.sources.now.sources in
    let k = kind_of c.args.kind in
    let w = term_of c.args.target.now in
    let none = rw c.in_default.is at c.in_ok-goals.ensures in
    has_parts raw f c.args.depth k w c.requires.asked c.requires.sourced c.requires.unfit (subst (λ (s : Sources). CopiesAre (system s) k w None) c.in_ok-listed.ensures.is none)

pub prove_by_parts-prove_all-requires : goal.prove_by_parts-prove_all-requires
prove_by_parts-prove_all-requires t c =
    let raw = c.args.sources.now.facts in
    let f = system c.args.sources.now.sources in
    let k = kind_of c.args.kind in
    let w = term_of c.args.target.now in
    let n = c.args.depth in
    let goals = asked_list c.in-Some.goals.items in
    let some = rw c.in-Some.is at c.in_ok-goals.ensures in
    let are = subst (λ (s : Sources). CopiesAre (system s) k w (Some goals)) c.in_ok-listed.ensures.is some in (
      omega (arith, c.decreases),
      (
        c.requires.same,
        (c.requires.depth, subst (λ xs. Each (PredIsAsked raw f n _) (asked_list xs)) (sym c.as_slice.ensures.value) (parts_asked raw f n k w c.requires.asked c.requires.sourced c.requires.unfit goals are)),
      ),
    )

pub prove_by_parts-returns-clause-proved : goal.prove_by_parts-returns-clause-proved
prove_by_parts-returns-clause-proved t c =
    let raw = c.args.sources.now.facts in
    let item = c.args.sources.now.item in
    let f = system c.args.sources.now.sources in
    let k = kind_of c.args.kind in
    let w = term_of c.args.target.now in
    let n = c.args.depth in
    let goals = asked_list c.in-Some.goals.items in
    let some = rw c.in-Some.is at c.in_ok-goals.ensures in
    let are = subst (λ (s : Sources). CopiesAre (system s) k w (Some goals)) c.in_ok-listed.ensures.is some in
    let ps = c.args.proofs.now.items in
    let ys = c.prove_all.new.proofs.items in
    let ks = c.in_ok-children.children in
    let proved = subst (λ zs. ArePredsProved raw f hole ps ys (asked_list zs) ks) c.as_slice.ensures.value c.in_ok-children.ensures.proved in
    by_parts raw item f c.lawful.ensures n c.requires.depth k w c.requires.asked c.args.goal.now c.requires.goal c.requires.sourced.free are.0 are.1 goals are.2
    ks ps ys c.push_proof.new.proofs.items proved c.push_proof.result c.push_proof.ensures

-- ---- prove_by_rule

pub prove_by_rule-returns-in-None-clause-proved : goal.prove_by_rule-returns-in-None-clause-proved
prove_by_rule-returns-in-None-clause-proved t c =
    let raw = c.args.sources.now.facts in
    let f = system c.args.sources.now.sources in
    let k = kind_of c.args.kind in
    let w = term_of c.args.target.now in
    by_listed raw c.args.sources.now.item f c.lawful.ensures c.args.depth c.requires.depth k w c.requires.asked c.args.goal.now c.requires.goal c.requires.sourced.free
    c.args.found c.requires.fit (rw c.in-None.is at c.in_ok-id.ensures) _ (sym c.new.ensures) c.args.proofs.now.items c.push_proof.new.proofs.items c.push_proof.result c.push_proof.ensures

-- ---- prove_freely

pub prove_freely-returns-then-is_among-clause-proved : goal.prove_freely-returns-then-is_among-clause-proved
prove_freely-returns-then-is_among-clause-proved t c =
    let raw = c.args.sources.now.facts in
    let item = c.args.sources.now.item in
    let f = system c.args.sources.now.sources in
    let k = kind_of c.args.kind in
    let w = term_of c.args.target.now in
    let n = c.args.depth in
    let of = c.lawful.ensures in
    let listed = c.as_slice.ensures.value ∙ ap (λ (s : Sources). s.sized.items) c.in_ok-listed.ensures.is in
    let sized = subst (λ ts. is_among ts k ≡ true) listed (sym c.is_among.ensures ∙ c.if-is_among.true) in
    by_size raw item f of n c.requires.depth k w c.requires.asked c.args.goal.now c.requires.goal (free raw item f of n c.requires.depth k w c.requires.asked c.requires.unfit (trait_not_itself f.sized k w sized))
    sized _ (sym c.new.ensures) c.args.proofs.now.items c.push_proof.new.proofs.items c.push_proof.result c.push_proof.ensures

pub prove_freely-prove_by_rules-requires : goal.prove_freely-prove_by_rules-requires
prove_freely-prove_by_rules-requires t c =
    let raw = c.args.sources.now.facts in
    let item = c.args.sources.now.item in
    let f = system c.args.sources.now.sources in
    let k = kind_of c.args.kind in
    let w = term_of c.args.target.now in
    let n = c.args.depth in
    let listed = c.as_slice.ensures.value ∙ ap (λ (s : Sources). s.sized.items) c.in_ok-listed.ensures.is in
    let unsized = subst (λ ts. is_among ts k ≡ false) listed (sym c.is_among.ensures ∙ c.if-is_among.false) in
    let other = not_itself k w c.in_ok-is_itself.field-0 c.in_ok-is_itself.ensures c.in-No.is in (
      omega (arith, c.decreases),
      (
        c.requires.same,
        (
          c.requires.depth,
          (c.requires.goal, (c.requires.asked, (c.requires.unfit, sourced raw item f c.lawful.ensures n c.requires.depth k w c.requires.asked c.requires.unfit unsized other))),
        ),
      ),
    )

pub prove_freely-returns-in-Yes-clause-proved : goal.prove_freely-returns-in-Yes-clause-proved
prove_freely-returns-in-Yes-clause-proved t c =
    let raw = c.args.sources.now.facts in
    let item = c.args.sources.now.item in
    let f = system c.args.sources.now.sources in
    let k = kind_of c.args.kind in
    let w = term_of c.args.target.now in
    let n = c.args.depth in
    let of = c.lawful.ensures in
    by_itself raw item f of n c.requires.depth k w c.requires.asked c.args.goal.now c.requires.goal
    (rw c.in-Yes.is at c.in_ok-is_itself.ensures) _ (sym c.new-in-Yes.ensures) c.args.proofs.now.items c.push_proof-in-Yes.new.proofs.items c.push_proof-in-Yes.result c.push_proof-in-Yes.ensures

-- ---- prove_pred

pub prove_pred-unreachable-requires-in_default-2 : goal.prove_pred-unreachable-requires-in_default-2
prove_pred-unreachable-requires-in_default-2 t c =
    let raw = c.args.sources.now.facts in
    let f = system c.args.sources.now.sources in
    let q = asked_of c.args.pred.now in
    let p = holes_fill c.args.holes in
    let n = c.args.depth in
    let m = c.in-Some.below in
    let e : n ≡ suc m = omega arith in
    let none = rw c.in_default-2.is at c.in_ok-parts.ensures.answer in
    has_reading raw f c.in_ok-_listed.ensures.heads n c.requires.depth p q c.requires.pred m e (subst (λ (s : Sources). ReadingIs (answers (system s) m).Alias p q.parts None) c.requires.same none)

pub prove_pred-prove-requires : goal.prove_pred-prove-requires
prove_pred-prove-requires t c =
    let raw = c.args.sources.now.facts in
    let f = system c.args.sources.now.sources in
    let q = asked_of c.args.pred.now in
    let p = holes_fill c.args.holes in
    let n = c.args.depth in
    let m = c.in-Some.below in
    let e : n ≡ suc m = omega arith in
    let heads = c.in_ok-_listed.ensures.heads in
    let u = term_of c.in-Some-2.parts in
    let some = rw c.in-Some-2.is at c.in_ok-parts.ensures.answer in
    let reads = subst (λ (s : Sources). Reads (answers (system s) m).Alias p q.parts u) c.requires.same some in
    let good = is_good raw f heads n c.requires.depth p q c.requires.pred m e u reads in
    let done = is_done raw f heads n c.requires.depth p q c.requires.pred m e u reads in (
      omega (arith, c.decreases),
      (
        c.in_ok-parts.ensures.same ∙ c.requires.same,
        (
          below raw f heads n c.requires.depth p q c.requires.pred m e,
          (made_reads raw f q.kind u good done c.in_ok-goal.goal c.in_ok-goal.ensures, is_asked raw f heads n c.requires.depth p q c.requires.pred m e u reads),
        ),
      ),
    )

pub prove_pred-returns-clause-proved : goal.prove_pred-returns-clause-proved
prove_pred-returns-clause-proved t c =
    let raw = c.args.sources.now.facts in
    let f = system c.args.sources.now.sources in
    let q = asked_of c.args.pred.now in
    let p = holes_fill c.args.holes in
    let n = c.args.depth in
    let m = c.in-Some.below in
    let e : n ≡ suc m = omega arith in
    let heads = c.in_ok-_listed.ensures.heads in
    let u = term_of c.in-Some-2.parts in
    let some = rw c.in-Some-2.is at c.in_ok-parts.ensures.answer in
    let reads = subst (λ (s : Sources). Reads (answers (system s) m).Alias p q.parts u) c.requires.same some in
    let good = is_good raw f heads n c.requires.depth p q c.requires.pred m e u reads in
    let done = is_done raw f heads n c.requires.depth p q c.requires.pred m e u reads in
    is_proved raw f heads n c.requires.depth p q c.requires.pred m e u reads c.in_ok-goal.goal (made_reads raw f q.kind u good done c.in_ok-goal.goal c.in_ok-goal.ensures) (made_parts raw f q.kind u good done c.in_ok-goal.goal c.in_ok-goal.ensures)
    c.args.proofs.now.items c.prove.new.proofs.items c.in_ok-number.number c.in_ok-number.ensures.proved
