use Rattle.std.proofs.Common.{refl, sym, ap, ◌∙◌}
use Rattle.goal_terms.specs.Words.{pair, role}
use Rattle.goal_terms.specs.Own.{term_of, role_of, log_of, Opened}
use Rattle.goal_terms.proofs.Owned.{pair_of, same_made}
use Rattle.goal_terms.proofs.Openings.{after_alias, after_parts}
use Rattle.goal_terms.proofs.opening.Opening.+open.Goals as goal

pub returns-in-Alias : goal.returns-in-Alias
returns-in-Alias t c =
    after_alias c.fresh.result c.args.self.now.next (log_of c.args.self.now.names.items) c.in-Alias.field-0 (term_of c.get.result.now) (term_of c.in-Pair.right) _ _
    (term_of c.args.part.now) c.requires (sym c.role.ensures ∙ ap role_of c.in-Alias.is)
    (pair_of c.args.part.now c.in-Pair.left c.in-Pair.right c.get.result.now c.in-Pair.right c.in-Pair.is c.get.ensures refl)
    c.fresh.ensures.made c.fresh.ensures.next (ap (λ x. log_of x.items) c.fresh.ensures.names)

pub returns-in_ok-right-in-Plain : goal.returns-in_ok-right-in-Plain
returns-in_ok-right-in-Plain t c =
    let n = c.args.self.now.next in
    let l = log_of c.args.self.now.names.items in
    let m = c.open-in-Plain.new.self.next in
    let o = log_of c.open-in-Plain.new.self.names.items in
    let part = term_of c.args.part.now in
    let v = pair (term_of c.in_ok-left-in-Plain.left) (term_of c.in_ok-right-in-Plain.right) in
    same_made (Opened n l m o part) c.join.result v c.join.ensures.is
    (after_parts n l _ _ m o part v _ _ _ _
    (ap (λ x. role (term_of x)) (c.get-in-Plain.ensures ∙ sym c.get.ensures) ∙ sym c.role.ensures ∙ ap role_of c.in-Plain.is)
    (pair_of c.args.part.now c.in-Pair.left c.in-Pair.right c.get-in-Plain.result.now c.get-in-Plain-2.result.now c.in-Pair.is c.get-in-Plain.ensures c.get-in-Plain-2.ensures)
    refl c.in_ok-left-in-Plain.ensures c.in_ok-right-in-Plain.ensures)
