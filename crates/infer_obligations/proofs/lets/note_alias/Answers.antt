use Rattle.std.proofs.Common.{◌∙◌, ap, sym, subst, refl, inl, inr, true≢false}
use Rattle.infer_obligations.specs.Words.{term, scope_of, lowered, system, IsKnownAs, HoldsPlaceholder, put}
use Rattle.infer_obligations.proofs.LetsKnown.{read_noted, none_read}
use Rattle.infer_obligations.proofs.lets.note_alias.Goals as goal

pub returns-in-Some-clause-notes : goal.returns-in-Some-clause-notes
returns-in-Some-clause-notes c =
    let s = c.args.goals.now.sources in
    let sc = scope_of c.args.facts.now c.args.def in
    let types = c.args.facts.now.types in
    let old = c.args.known.now in
    let made = c.in_ok-put-in-Some.ensures ∙ ap (λ k. put old k c.in-Some.read) c.in_ok-written.ensures in
    let written = c.in_ok-ty.ensures ∙ ap (lowered types) c.in_ok-written.ensures in
    let known = subst (IsKnownAs sc (system s.sources) s.facts.limits.goal_depth c.in_ok-ty.ty) c.in-Some.is c.in_ok-found.ensures.known in
    let none : HoldsPlaceholder (term c.in_ok-ty.ty) → ⊥ = λ h. true≢false (sym (c.holds_placeholder.ensures.1 (subst HoldsPlaceholder (sym c.in_ok-term.ensures.is) h)) ∙ c.if-holds_placeholder.false) in
    read_noted sc (system s.sources) s.facts.limits.goal_depth types c.args.alias c.in_ok-ty.ty c.in-Some.read old _ c.requires.noted made written none known

pub returns-clause-notes : goal.returns-clause-notes
returns-clause-notes c =
    let s = c.args.goals.now.sources in
    let sc = scope_of c.args.facts.now c.args.def in
    let types = c.args.facts.now.types in
    let written = c.in_ok-ty.ensures ∙ ap (lowered types) c.in_ok-written.ensures in
    let known = subst (IsKnownAs sc (system s.sources) s.facts.limits.goal_depth c.in_ok-ty.ty) c.in-None.is c.in_ok-found.ensures.known in
    none_read sc (system s.sources) s.facts.limits.goal_depth types c.args.alias c.in_ok-ty.ty c.args.known.now _ c.requires.noted refl written (inr known)

pub returns-then-holds_placeholder-clause-notes : goal.returns-then-holds_placeholder-clause-notes
returns-then-holds_placeholder-clause-notes c =
    let s = c.args.goals.now.sources in
    let sc = scope_of c.args.facts.now c.args.def in
    let types = c.args.facts.now.types in
    let written = c.in_ok-ty.ensures ∙ ap (lowered types) c.in_ok-written.ensures in
    let holds = subst HoldsPlaceholder c.in_ok-term.ensures.is (c.holds_placeholder.ensures.0 c.if-holds_placeholder.true) in
    none_read sc (system s.sources) s.facts.limits.goal_depth types c.args.alias c.in_ok-ty.ty c.args.known.now _ c.requires.noted refl written (inl holds)
