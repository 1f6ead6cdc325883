use Rattle.std.proofs.Common.{◌≡◌, ◌∙◌, ap, sym}
use Rattle.infer_needs.specs.Words.{plain, alias, system, term_of, role_of}
use Rattle.infer_needs.proofs.Writing.{lists_over, lists_over_none}
use Rattle.infer_needs.proofs.written.look_at_pair.Goals as goal

pub returns-in_ok-look_at_args-in-Alias : goal.returns-in_ok-look_at_args-in-Alias
returns-in_ok-look_at_args-in-Alias c =
    lists_over c.args.sources.now.facts c.args.sources.now.item (system c.args.sources.now.sources) (term_of c.args.first.now) (term_of c.args.args.now) c.in-Alias.alias
    c.args.proofs.now.items c.look_at_args.new.proofs.items c.args.found.now c.look_at_args.new.found (sym c.role.ensures ∙ ap role_of c.in-Alias.is) c.in_ok-look_at_args-in-Alias.ensures

pub returns-in-Plain : goal.returns-in-Plain
returns-in-Plain c =
    lists_over_none c.args.sources.now.facts c.args.sources.now.item (system c.args.sources.now.sources) (term_of c.args.first.now) (term_of c.args.args.now) c.args.proofs.now.items c.args.found.now
    (λ k is. (let both : plain ≡ alias k = sym (sym c.role.ensures ∙ ap role_of c.in-Plain.is) ∙ is in cc))
