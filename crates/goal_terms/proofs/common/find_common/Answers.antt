use Rattle.std.proofs.Common.{ap₂, ◌∙◌, subst, [], Bool}
use Rattle.std.proofs.lemmas.Bool.{both_ways}
use Rattle.goal_terms.specs.Words.{UnifiedIf}
use Rattle.goal_terms.specs.Own.{term_of, log_of, Opened, resolved_all}
use Rattle.goal_terms.proofs.Commons.{apart_unread, apart_none, common}
use Rattle.goal_terms.proofs.common.find_common.Goals as goal

pub returns-then-not-is_read : goal.returns-then-not-is_read
returns-then-not-is_read c =
    let n = c.in_ok-number_above.field-0 in
    let m = c.open.new.self.next in
    let names = log_of c.open.new.self.names.items in
    let t = term_of c.args.part.now in
    let u = term_of c.in_ok-opened.opened in
    let opened : Opened n [] m names t u = subst (λ (xs : _). Opened n (log_of xs) m names t u) c.new.ensures.items c.in_ok-opened.ensures in
    apart_unread n m names t u (term_of c.args.target.now) c.in_ok-number_above.ensures c.requires.read opened
    (λ r. both_ways c.is_read.result c.if-not-is_read.true (c.is_read.ensures.1 r))

pub returns-then-not-branch : goal.returns-then-not-branch
returns-then-not-branch c =
    let n = c.in_ok-number_above.field-0 in
    let m = c.open.new.self.next in
    let names = log_of c.open.new.self.names.items in
    let t = term_of c.args.part.now in
    let u = term_of c.in_ok-opened.opened in
    let w = term_of c.args.target.now in
    let l = log_of c.make_equal.new.log.items in
    let opened : Opened n [] m names t u = subst (λ (xs : _). Opened n (log_of xs) m names t u) c.new.ensures.items c.in_ok-opened.ensures in
    let unified : UnifiedIf c.in_ok-make_equal.field-0 [] l u w = subst (λ (xs : _). UnifiedIf c.in_ok-make_equal.field-0 (log_of xs) l u w) c.new-log.ensures.items c.in_ok-make_equal.ensures.unified in
    apart_none n m names t u w c.in_ok-number_above.ensures c.requires.read opened
    (subst (λ (y : Bool). UnifiedIf y [] l u w) c.if-not-branch.true unified)

pub returns : goal.returns
returns c =
    let n = c.in_ok-number_above.field-0 in
    let m = c.open.new.self.next in
    let names = log_of c.open.new.self.names.items in
    let t = term_of c.args.part.now in
    let u = term_of c.in_ok-opened.opened in
    let w = term_of c.args.target.now in
    let l = log_of c.make_equal.new.log.items in
    let opened : Opened n [] m names t u = subst (λ (xs : _). Opened n (log_of xs) m names t u) c.new.ensures.items c.in_ok-opened.ensures in
    let unified : UnifiedIf c.in_ok-make_equal.field-0 [] l u w = subst (λ (xs : _). UnifiedIf c.in_ok-make_equal.field-0 (log_of xs) l u w) c.new-log.ensures.items c.in_ok-make_equal.ensures.unified in
    common n m names t u w c.in_ok-number_above.ensures c.requires.read opened l (log_of c.in_ok-fills.fills.items) c.in_ok-make_equal.ensures.extends.is_log
    (subst (λ (y : Bool). UnifiedIf y [] l u w) c.if-not-branch.false unified)
    (c.in_ok-fills.ensures ∙ ap₂ (λ xs ys. resolved_all (log_of xs) (log_of ys)) c.deref.ensures.value c.deref-2.ensures.value)
    (c.is_read.ensures.0 c.if-not-is_read.false)
