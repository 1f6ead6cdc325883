use Rattle.std.proofs.Common.{◌≡◌, ℕ, Bool, List, [], subst, sym, ap, ◌∙◌, length, IfOk}
use Rattle.std.proofs.lemmas.List.{length-map}
use Rattle.std.proofs.lemmas.Result.{IfOk-weaker}
use Rattle.infer_unify.specs.Words.{Log, UnifiedIf, answers, term_of, log_of, Sources, system}
use Rattle.infer_unify.specs.Own.{Alias, alias_of, aliases_of, AreJudged, Becomes, AreFollowed, AreRounds}
use Rattle.infer_unify.proofs.Becoming.{becomes_none, becomes_no, becomes_judged}
use Rattle.infer_unify.proofs.unification.unify_terms.Goals as goal

pub returns-then-not-branch : goal.returns-then-not-branch
returns-then-not-branch c =
    let u = term_of c.args.terms.now.left in
    let w = term_of c.args.terms.now.right in
    let l = log_of c.make_equal.new.log.items in
    let from_none = subst (λ (z : Log). UnifiedIf c.in_ok-make_equal.field-0 z l u w) (ap log_of c.new-log.ensures.items) c.in_ok-make_equal.ensures.unified in
    becomes_none (answers (system c.args.search.now) c.args.depth) (aliases_of c.args.terms.now.aliases.items) u w l
    (subst (λ (b : Bool). UnifiedIf b [] l u w) c.if-not-branch.true from_none)

pub returns-then-not-branch-2 : goal.returns-then-not-branch-2
returns-then-not-branch-2 c =
    let v = answers (system c.args.search.now) c.args.depth in
    let ps = aliases_of c.args.terms.now.aliases.items in
    let u = term_of c.args.terms.now.left in
    let w = term_of c.args.terms.now.right in
    let l = log_of c.make_equal.new.log.items in
    let l' = log_of c.follow_all.new.log.items in
    let from_none = subst (λ (z : Log). UnifiedIf c.in_ok-make_equal.field-0 z l u w) (ap log_of c.new-log.ensures.items) c.in_ok-make_equal.ensures.unified in
    let of_these = subst (λ (xs : List Alias). AreFollowed v.Alias xs l l' c.in_ok-follow_all.field-0) (ap aliases_of c.deref.ensures.value) c.in_ok-follow_all.ensures.followed in
    becomes_no v ps u w l l' (subst (λ (b : Bool). UnifiedIf b [] l u w) c.if-not-branch.false from_none)
    (subst (λ (b : Bool). AreFollowed v.Alias ps l l' b) c.if-not-branch-2.true of_these)

pub returns : goal.returns
returns c =
    let v = answers (system c.args.search.now) c.args.depth in
    let ps = aliases_of c.args.terms.now.aliases.items in
    let u = term_of c.args.terms.now.left in
    let w = term_of c.args.terms.now.right in
    let l = log_of c.make_equal.new.log.items in
    let l' = log_of c.follow_all.new.log.items in
    let from_none = subst (λ (z : Log). UnifiedIf c.in_ok-make_equal.field-0 z l u w) (ap log_of c.new-log.ensures.items) c.in_ok-make_equal.ensures.unified in
    let unified = subst (λ (b : Bool). UnifiedIf b [] l u w) c.if-not-branch.false from_none in
    let of_these = subst (λ (xs : List Alias). AreFollowed v.Alias xs l l' c.in_ok-follow_all.field-0) (ap aliases_of c.deref.ensures.value) c.in_ok-follow_all.ensures.followed in
    let followed = subst (λ (b : Bool). AreFollowed v.Alias ps l l' b) c.if-not-branch-2.false of_these in
    let xs = c.args.terms.now.aliases.items in
    let many : length c.deref.result.now ≡ length ps = ap length c.deref.ensures.value ∙ sym (length-map xs alias_of) in
    let rounds = subst (λ (z : List Alias). AreRounds v.Alias z (length c.deref.result.now) l l') (ap aliases_of c.deref.ensures.value) (c.in_ok-follow_all.ensures.rounds c.if-not-branch-2.false) in
    let all_rounds = subst (λ (k : ℕ). AreRounds v.Alias ps k l l') many rounds in
    let by_search = subst (λ (z : Sources). IfOk c.judge.result (AreJudged (answers (system z) c.args.depth) (aliases_of c.deref-2.result.now) (log_of c.deref-3.result.now))) c.in_ok-follow_all.ensures.same c.judge.ensures in
    let of_aliases = subst (λ (xs : List Alias). IfOk c.judge.result (AreJudged v xs (log_of c.deref-3.result.now))) (ap aliases_of c.deref-2.ensures.value) by_search in
    let judged = subst (λ (z : Log). IfOk c.judge.result (AreJudged v ps z)) (ap log_of c.deref-3.ensures.value) of_aliases in
    IfOk-weaker c.judge.result (AreJudged v ps l') (Becomes v ps u w) (λ found h. becomes_judged (system c.args.search.now) c.args.depth ps u w l l' found c.requires.read unified followed all_rounds c.in_ok-follow_all.ensures.is_log.triangular h) judged
