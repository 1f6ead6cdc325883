use Rattle.std.proofs.Common.{◌≡◌, ◌∙◌, ap, sym, length, arith, rules}
use Rattle.hir_laws.proofs.Firsts.{firsts_none, firsts_kept, firsts_more}
use Rattle.hir_laws.proofs.scopes.firsts_of.Goals as goal
use Rattle.hir_laws.proofs.scopes.firsts_of.Goals.{in-Some, in_default}

pub loop-said-init : goal.loop-said-init
loop-said-init c = firsts_none c.args.starts.now c.args.said.now c.args.count c.in_ok-firsts.firsts.items (search rules)

pub loop-said-preserved : goal.loop-said-preserved
loop-said-preserved c = elim c.match-binding_bound.branch [
  | in-Some w ↦ rw (ap (λ v. v.items) w.firsts-is) (firsts_more c.args.starts.now c.args.said.now c.loop-said.said-index c.args.count w.in-Some.v w.number_at.result _ c.loop-said.firsts.items _ c.loop-said.invariant c.loop-said-test.true (sym c.binding_bound.ensures ∙ w.in-Some.is) w.number_at.ensures w.note.ensures)
  | in_default w ↦ rw (ap (λ v. v.items) w.firsts-is) (firsts_kept c.args.starts.now c.args.said.now c.loop-said.said-index c.args.count _ c.loop-said.firsts.items c.loop-said.invariant c.loop-said-test.true (sym c.binding_bound.ensures ∙ w.in_default.is))
]

pub returns : goal.returns
returns c = let e : c.loop-said.said-index ≡ length c.args.said.now = omega arith in rw e at c.loop-said.invariant
