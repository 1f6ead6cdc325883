use Rattle.std.proofs.Common.{sym, ap, ◌∙◌}
use Rattle.goal_terms.specs.Words.{hole, found}
use Rattle.goal_terms.specs.Own.{term_of, log_of, Opened}
use Rattle.goal_terms.proofs.Owned.{none_of, some_of, same_made}
use Rattle.goal_terms.proofs.Openings.{opened_known, after_new}
use Rattle.goal_terms.proofs.opening.Opening.open_hole.Goals as goal

pub returns-in-Some : goal.returns-in-Some
returns-in-Some c =
    let n = c.args.self.now.next in
    let l = log_of c.args.self.now.names.items in
    let v = term_of c.in-Some.name.now in
    let is = some_of (λ t. term_of t.now) c.find.result _ c.in-Some.name c.find.ensures c.in-Some.is in
    same_made (Opened n l n l (hole c.args.met)) c.dup.result v c.dup.ensures
    (opened_known n l c.args.met v c.requires (ap (λ xs. found (log_of xs) c.args.met) (sym c.deref.ensures.value) ∙ is))

pub returns : goal.returns
returns c =
    let none = none_of (λ t. term_of t.now) c.find.result _ c.find.ensures c.in_default.is in
    after_new c.args.self.now.next (log_of c.args.self.now.names.items) c.args.met c.fresh.new.self.next (log_of c.fresh.new.self.names.items) _
    (term_of c.in_ok-fresh.fresh) (term_of c.in_ok-name.name) c.requires
    (ap (λ xs. found (log_of xs) c.args.met) (sym c.deref.ensures.value) ∙ none)
    c.in_ok-fresh.ensures.next (ap (λ x. log_of x.items) c.fresh.ensures.names) c.in_ok-fresh.ensures.made c.in_ok-name.ensures c.in_ok-bind.ensures.ok
