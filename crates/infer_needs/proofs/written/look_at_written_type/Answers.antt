use Rattle.std.proofs.Common.{◌≡◌, ◌∙◌, ap, subst, sym}
use Rattle.infer_needs.specs.Words.{Term, term, RawFacts, lowered, system, term_of, WrittenAreListed}
use Rattle.infer_needs.specs.Own.{AliasesFitIn, Lists, IsAsWritten}
use Rattle.infer_needs.proofs.FitParts.{aliases_fit}
use Rattle.infer_needs.proofs.Writing.{lowered_written}
use Rattle.infer_needs.proofs.written.look_at_written_type.Goals as goal

pub look_at_term-requires-clause-written : goal.look_at_term-requires-clause-written
look_at_term-requires-clause-written c =
    let types = c.args.sources.now.facts.types in
    let facts = c.facts.ensures in
    let is : term_of c.in_ok-term.term ≡ term (lowered types c.args.number) =
    c.in_ok-term.ensures.is ∙ ap term (c.in_ok-ty.ensures ∙ ap (λ (z : RawFacts). lowered z.types c.in_ok-written.written.0) facts ∙ ap (lowered types) c.in_ok-written.ensures) in
    subst IsAsWritten (sym is) (lowered_written types c.args.number)

pub look_at_term-requires-clause-fits : goal.look_at_term-requires-clause-fits
look_at_term-requires-clause-fits c =
    let raw = c.args.sources.now.facts in
    let item = c.args.sources.now.item in
    let types = raw.types in
    let is : term_of c.in_ok-term.term ≡ term (lowered types c.args.number) =
    c.in_ok-term.ensures.is ∙ ap term (c.in_ok-ty.ensures ∙ ap (λ (z : RawFacts). lowered z.types c.in_ok-written.written.0) c.facts.ensures ∙ ap (lowered types) c.in_ok-written.ensures) in
    subst (AliasesFitIn raw item) (sym is) (aliases_fit raw item (term (lowered types c.args.number)) c.requires.fits)

pub returns : goal.returns
returns c =
    let raw = c.args.sources.now.facts in
    let item = c.args.sources.now.item in
    let f = system c.args.sources.now.sources in
    let types = raw.types in
    let is : term_of c.in_ok-term.term ≡ term (lowered types c.args.number) =
    c.in_ok-term.ensures.is ∙ ap term (c.in_ok-ty.ensures ∙ ap (λ (z : RawFacts). lowered z.types c.in_ok-written.written.0) c.facts.ensures ∙ ap (lowered types) c.in_ok-written.ensures) in
    subst (λ (x : Term). Lists raw item f (λ js. WrittenAreListed f raw.limits.goal_depth js x) c.args.proofs.now.items c.look_at_term.new.proofs.items c.args.found.now c.look_at_term.new.found) is c.in_ok-look_at_term.ensures
