use Rattle.std.proofs.Common.{◌≡◌, ◌∙◌, ap, subst, sym, true≢false}
use Rattle.infer_needs.specs.Words.{Term, alias_at, asked_goal, system, term_of, args_term}
use Rattle.infer_needs.specs.Own.{FitsIn, GoalFitsIn, Lists, IsAsWritten, IsProvable}
use Rattle.infer_needs.proofs.Writing.{About, as_written, lists_about, lists_no_alias}
use Rattle.infer_needs.proofs.written.look_at_about.Goals as goal

pub look_at_args-requires-clause-written : goal.look_at_args-requires-clause-written
look_at_args-requires-clause-written c =
    let provable = subst (λ g. IsProvable (asked_goal g)) c.in-Projection.is c.requires.provable in
    subst IsAsWritten (sym c.in_ok-term-in-Projection.ensures.is) (as_written (args_term c.in-Projection.args) provable.0)

pub look_at_args-requires-clause-fits : goal.look_at_args-requires-clause-fits
look_at_args-requires-clause-fits c =
    let raw = c.args.sources.now.facts in
    let item = c.args.sources.now.item in
    let fits = subst (λ g. GoalFitsIn raw item (asked_goal g)) c.in-Projection.is c.requires.fits in
    subst (λ (w : Term). FitsIn raw item (alias_at c.in-Projection.alias w)) (sym c.in_ok-term-in-Projection.ensures.is) fits.0

pub returns-in-Trait : goal.returns-in-Trait
returns-in-Trait c =
    lists_no_alias c.args.sources.now.facts c.args.sources.now.item (system c.args.sources.now.sources) (asked_goal c.args.goal.now) c.in-Trait._trait_ref c.args.proofs.now.items c.args.found.now
    (ap (λ g. (asked_goal g).kind) c.in-Trait.is)

pub returns-in_ok-look_at_args-in-Projection : goal.returns-in_ok-look_at_args-in-Projection
returns-in_ok-look_at_args-in-Projection c =
    let raw = c.args.sources.now.facts in
    let item = c.args.sources.now.item in
    let f = system c.args.sources.now.sources in
    subst (λ g. Lists raw item f (About raw item f (asked_goal g)) c.args.proofs.now.items c.look_at_args.new.proofs.items c.args.found.now c.look_at_args.new.found) (sym c.in-Projection.is)
    (lists_about raw item f c.in-Projection.alias c.in-Projection.args c.in-Projection.ty (term_of c.in_ok-term-in-Projection.term) c.args.proofs.now.items c.look_at_args.new.proofs.items c.args.found.now c.look_at_args.new.found
    c.in_ok-term-in-Projection.ensures.is c.in_ok-look_at_args-in-Projection.ensures)
