use Rattle.std.proofs.Common.{◌≡◌, ap, subst, sym}
use Rattle.infer_needs.specs.Words.{Term, Asked, asked_goal, system, term_of, WrittenAreListed}
use Rattle.infer_needs.specs.Own.{AliasesFitIn, Lists, IsAsWritten}
use Rattle.infer_needs.proofs.FitParts.{goal_aliases}
use Rattle.infer_needs.proofs.Writing.{as_written, lists_goal}
use Rattle.infer_needs.proofs.written.look_at_goal.Goals as goal

pub look_at_term-requires-clause-written : goal.look_at_term-requires-clause-written
look_at_term-requires-clause-written c =
    let parts = (asked_goal c.args.goal.now).parts in
    let is : term_of c.in_ok-asked.asked.parts ≡ parts = ap (λ (a : Asked). a.parts) c.in_ok-asked.ensures.is in
    subst IsAsWritten (sym is) (as_written parts c.requires.provable)

pub look_at_term-requires-clause-fits : goal.look_at_term-requires-clause-fits
look_at_term-requires-clause-fits c =
    let raw = c.args.sources.now.facts in
    let item = c.args.sources.now.item in
    let a = asked_goal c.args.goal.now in
    let is : term_of c.in_ok-asked.asked.parts ≡ a.parts = ap (λ (x : Asked). x.parts) c.in_ok-asked.ensures.is in
    subst (AliasesFitIn raw item) (sym is) (goal_aliases raw item a c.requires.fits)

pub returns : goal.returns
returns c =
    let raw = c.args.sources.now.facts in
    let item = c.args.sources.now.item in
    let f = system c.args.sources.now.sources in
    let a = asked_goal c.args.goal.now in
    let is : term_of c.in_ok-asked.asked.parts ≡ a.parts = ap (λ (b : Asked). b.parts) c.in_ok-asked.ensures.is in
    lists_goal raw item f a c.args.proofs.now.items c.look_at_term.new.proofs.items c.look_at_about.new.proofs.items c.args.found.now c.look_at_term.new.found c.look_at_about.new.found
    (subst (λ (x : Term). Lists raw item f (λ js. WrittenAreListed f raw.limits.goal_depth js x) c.args.proofs.now.items c.look_at_term.new.proofs.items c.args.found.now c.look_at_term.new.found) is c.in_ok-look_at_term.ensures)
    c.in_ok-look_at_about.ensures
