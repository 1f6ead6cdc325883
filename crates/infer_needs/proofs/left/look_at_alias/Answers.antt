use Rattle.std.proofs.Common.{◌≡◌, ◌∙◌, ℕ, Option, sym, ap, subst, true, true≢false, List, map, Some}
use Rattle.std.proofs.lemmas.Result.{on_ok_weaker}
use Rattle.hir_types.specs.declared.goal.Goal.TheVariants as the_goal
use Rattle.infer_needs.specs.Words.{GenericArg, Ty, chain, term, arg_term, RawFacts, IsLawful, answers, IsRead, staying, system, term_of, asked_goal, IsTypeRead, IsProvedIf, AddsOneRoot, IsWritten, HoldsUnknown, StaysOrIsListed}
use Rattle.hir_types.specs.declared.ty.Ty.TheVariants as ty
use Rattle.infer_needs.specs.Own.{Lists, IsRightIn}
use Rattle.infer_needs.proofs.FitParts.{entry_reads, entry_goal}
use Rattle.infer_needs.proofs.Leaving.{lists_nothing, reads_staying, reads_unknown, found_settles, lists_reading, proof_here}
use Rattle.infer_needs.proofs.ReadsYes.{reads_yes, reads_written}
use Rattle.infer_needs.proofs.Rooted.{roots_other}
use Rattle.infer_needs.proofs.left.look_at_alias.Goals as goal

pub returns-then-is_same : goal.returns-then-is_same
returns-then-is_same c =
    let raw = c.args.sources.now.facts in
    let item = c.args.sources.now.item in
    let f = system c.args.sources.now.sources in
    let k = c.args.alias in
    let zs = c.in_ok-made.made in
    let same : c.is_same.result ≡ true = cc in
    let is = sym c.in_ok-chain.ensures.is ∙ c.is_same.ensures.0 same in
    let reads = subst (IsTypeRead f raw.limits.goal_depth (ty.Projection k zs)) c.in-Some.is c.in_ok-read.ensures.read in
    let stays = sym c.in_ok-term.ensures.is ∙ (c.is_same-2.ensures.0 c.if-is_same.true ∙ c.in_ok-stays.ensures) in
    lists_nothing raw item f _ c.args.proofs.now.items c.args.found.now (reads_staying raw f k (term_of c.args.args.now) zs is c.in-Some.read reads c.args.found.now stays)

pub returns-in-Some-find : goal.returns-in-Some-find
returns-in-Some-find c =
    let raw = c.args.sources.now.facts in
    let item = c.args.sources.now.item in
    let f = system c.args.sources.now.sources in
    let k = c.args.alias in
    let zs = c.in_ok-made.made in
    let same : c.is_same.result ≡ true = cc in
    let is = sym c.in_ok-chain.ensures.is ∙ c.is_same.ensures.0 same in
    let finds = rw c.in-Some-find.is at c.find.ensures in
    lists_nothing raw item f _ c.args.proofs.now.items c.args.found.now (found_settles raw f k (term_of c.args.args.now) zs is c.args.found.now c.in-Some-find._type.now c.requires.read finds)

pub returns-then-unknown : goal.returns-then-unknown
returns-then-unknown c =
    let raw = c.args.sources.now.facts in
    let item = c.args.sources.now.item in
    let f = system c.args.sources.now.sources in
    let k = c.args.alias in
    let zs = c.in_ok-made.made in
    let u = c.in-Some.read in
    let same : c.is_same.result ≡ true = cc in
    let is = sym c.in_ok-chain.ensures.is ∙ c.is_same.ensures.0 same in
    let reads = subst (IsTypeRead f raw.limits.goal_depth (ty.Projection k zs)) c.in-Some.is c.in_ok-read.ensures.read in
    let args : c.in_ok-term_args.field-0 ≡ zs = c.in_ok-term_args.ensures.read ∙ sym c.in_ok-made.ensures.read in
    let holds = subst (λ (xs : List GenericArg). HoldsUnknown (asked_goal (the_goal.Projection k xs u)).parts) args
    (subst (λ (t : Ty). HoldsUnknown (asked_goal (the_goal.Projection k c.in_ok-term_args.field-0 t)).parts) c.in_ok-dup.ensures (c.in_ok-unknown.ensures.0 c.if-unknown.true)) in
    lists_nothing raw item f _ c.args.proofs.now.items c.args.found.now (reads_unknown raw f k (term_of c.args.args.now) zs is u reads c.args.found.now holds)

pub prove_goal-requires-clause-written : goal.prove_goal-requires-clause-written
prove_goal-requires-clause-written c =
    let raw = c.args.sources.now.facts in
    let f = system c.args.sources.now.sources in
    let k = c.args.alias in
    let zs = c.in_ok-made.made in
    let u = c.in-Some.read in
    let same : c.is_same.result ≡ true = cc in
    let is = sym c.in_ok-chain.ensures.is ∙ c.is_same.ensures.0 same in
    let reads = subst (IsTypeRead f raw.limits.goal_depth (ty.Projection k zs)) c.in-Some.is c.in_ok-read.ensures.read in
    let args : c.in_ok-term_args.field-0 ≡ zs = c.in_ok-term_args.ensures.read ∙ sym c.in_ok-made.ensures.read in
    let law = subst IsLawful (c.raw.ensures.value ∙ c.facts.ensures) c.raw.ensures.lawful in
    let written = subst IsWritten (sym is) c.requires.whole.written in (
      subst (λ (xs : List GenericArg). IsWritten (chain (map arg_term xs))) (sym args) written,
      subst (λ (t : Ty). IsWritten (term t)) (sym c.in_ok-dup.ensures) (reads_written raw law _ f c.in_ok-read.ensures.given raw.limits.goal_depth k zs u reads written),
    )

pub unreachable-requires : goal.unreachable-requires
unreachable-requires c =
    let raw = c.args.sources.now.facts in
    let f = system c.args.sources.now.sources in
    let k = c.args.alias in
    let zs = c.in_ok-made.made in
    let u = c.in-Some.read in
    let same : c.is_same.result ≡ true = cc in
    let is = sym c.in_ok-chain.ensures.is ∙ c.is_same.ensures.0 same in
    let reads = subst (IsTypeRead f raw.limits.goal_depth (ty.Projection k zs)) c.in-Some.is c.in_ok-read.ensures.read in
    let args : c.in_ok-term_args.field-0 ≡ zs = c.in_ok-term_args.ensures.read ∙ sym c.in_ok-made.ensures.read in
    let depth : c.raw.result.now.limits.goal_depth ≡ raw.limits.goal_depth = ap (λ (r : RawFacts). r.limits.goal_depth) (c.raw.ensures.value ∙ c.facts.ensures) in
    let yes = reads_yes raw _ f c.in_ok-read.ensures.given raw.limits.goal_depth k zs u (subst IsRead (sym is) c.requires.whole.read) reads
    (λ stays. true≢false (sym (c.is_same-2.ensures.1 (c.in_ok-term.ensures.is ∙ (stays ∙ (ap (staying k) is ∙ sym c.in_ok-stays.ensures)))) ∙ c.if-is_same.false)) in
    let fails = subst (IsProvedIf f c.raw.result.now.limits.goal_depth c.prove_goal.new.proofs.items (the_goal.Projection k c.in_ok-term_args.field-0 c.in_ok-dup.field-0)) c.in_default-2.is c.in_ok-_number.ensures.proved in
    fails (subst (λ n. (answers f n).Yes (asked_goal (the_goal.Projection k c.in_ok-term_args.field-0 c.in_ok-dup.field-0))) (sym depth)
    (subst (λ (xs : List GenericArg). (answers f raw.limits.goal_depth).Yes (asked_goal (the_goal.Projection k xs c.in_ok-dup.field-0))) (sym args)
    (subst (λ (t : Ty). (answers f raw.limits.goal_depth).Yes (asked_goal (the_goal.Projection k zs t))) (sym c.in_ok-dup.ensures) yes)))

pub returns : goal.returns
returns c =
    let raw = c.args.sources.now.facts in
    let item = c.args.sources.now.item in
    let f = system c.args.sources.now.sources in
    let k = c.args.alias in
    let zs = c.in_ok-made.made in
    let u = c.in-Some.read in
    let same : c.is_same.result ≡ true = cc in
    let is = sym c.in_ok-chain.ensures.is ∙ c.is_same.ensures.0 same in
    let reads = subst (IsTypeRead f raw.limits.goal_depth (ty.Projection k zs)) c.in-Some.is c.in_ok-read.ensures.read in
    let args : c.in_ok-term_args.field-0 ≡ zs = c.in_ok-term_args.ensures.read ∙ sym c.in_ok-made.ensures.read in
    let at = subst (IsProvedIf f c.raw.result.now.limits.goal_depth c.prove_goal.new.proofs.items (the_goal.Projection k c.in_ok-term_args.field-0 c.in_ok-dup.field-0)) c.in-Some-2.is c.in_ok-_number.ensures.proved in
    let proved = proof_here c.prove_goal.new.proofs.items k c.in_ok-term_args.field-0 zs c.in_ok-dup.field-0 u c.in-Some-2._number args c.in_ok-dup.ensures at in
    let known = λ (h : HoldsUnknown (asked_goal (the_goal.Projection k zs u)).parts). true≢false (sym (c.in_ok-unknown.ensures.1 (subst (λ (xs : List GenericArg). HoldsUnknown (asked_goal (the_goal.Projection k xs c.in_ok-dup.field-0)).parts) (sym args)
    (subst (λ (t : Ty). HoldsUnknown (asked_goal (the_goal.Projection k zs t)).parts) (sym c.in_ok-dup.ensures) h))) ∙ c.if-unknown.false) in
    let law = subst IsLawful (c.raw.ensures.value ∙ c.facts.ensures) c.raw.ensures.lawful in
    let args_written = subst IsWritten (sym is) c.requires.whole.written in
    let written : IsWritten (asked_goal (the_goal.Projection k zs u)).parts = (args_written, reads_written raw law _ f c.in_ok-read.ensures.given raw.limits.goal_depth k zs u reads args_written) in
    let fits = entry_reads raw law item f c.in_ok-read.ensures.given raw.limits.goal_depth k (term_of c.args.args.now) zs u is c.requires.many c.requires.whole.fits reads in
    let right : IsRightIn raw item (asked_goal (the_goal.Projection k c.in_ok-term_args.field-0 c.in_ok-dup.field-0)) =
    subst (λ (xs : List GenericArg). IsRightIn raw item (asked_goal (the_goal.Projection k xs c.in_ok-dup.field-0))) (sym args)
    (subst (λ (t : Ty). IsRightIn raw item (asked_goal (the_goal.Projection k zs t))) (sym c.in_ok-dup.ensures)
    (record { fits = entry_goal raw item k (term_of c.args.args.now) zs u is c.requires.many c.requires.whole.fits fits; written = written }))
    in
    let one = subst (λ (o : Option ℕ). AddsOneRoot o c.args.proofs.now.items c.prove_goal.new.proofs.items) c.in-Some-2.is c.in_ok-_number.ensures.roots in
    let roots = roots_other raw item f c.raw.result.now.limits.goal_depth (the_goal.Projection k c.in_ok-term_args.field-0 c.in_ok-dup.field-0) c.args.proofs.now.items c.prove_goal.new.proofs.items (Some c.in-Some-2._number) (λ h. h) right c.in_ok-_number.ensures.adds.behind one at in
    let other = λ (stays : term u ≡ staying k (chain (map arg_term zs))). true≢false (sym (c.is_same-2.ensures.1 (c.in_ok-term.ensures.is ∙ (stays ∙ (ap (staying k) is ∙ sym c.in_ok-stays.ensures)))) ∙ c.if-is_same.false) in
    on_ok_weaker c.add.result (λ added. subst (λ (ks : List (Ty × Ty)). Lists raw item f (λ (js : List (Ty × Ty)). (xs : List GenericArg) → chain (map arg_term xs) ≡ term_of c.args.args.now → StaysOrIsListed f raw.limits.goal_depth js k xs) c.args.proofs.now.items c.prove_goal.new.proofs.items c.args.found.now ks) (sym added)
    (lists_reading raw f k (term_of c.args.args.now) zs is u reads item fits c.args.proofs.now.items c.prove_goal.new.proofs.items c.args.found.now c.in_ok-_number.ensures.adds roots (subst IsRead (sym is) c.requires.whole.read) proved known other written c.requires.read)) c.add.ensures
