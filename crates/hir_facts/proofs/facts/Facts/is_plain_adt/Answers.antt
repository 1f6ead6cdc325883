use Rattle.std.proofs.Common.{◌≡◌, ◌∙◌, ◌+◌, ◌<◌, ◌^◌, ap, sym, subst, length, get_or, ℕ, List, Bool, true, false, arith}
use Rattle.std.specs.Prelude.{◌↔◌, IsTrue}
use Rattle.hir_facts.specs.Words.{RawFacts}
use Rattle.hir_facts.specs.Own.{IsPlainAdt}
use Rattle.hir_facts.proofs.InRange.{few_types}
use Rattle.hir_facts.proofs.facts.Facts.is_plain_adt.Goals as goal

pub overflow_add-node : goal.overflow_add-node
overflow_add-node c =
    let few : length c.self.inside.raw.types < 2 ^ 32 = few_types c.self.inside.raw c.self.invariant.0 in
    omega arith

pub returns : goal.returns
returns c =
    let a : ℕ = c.args.adt.0 in
    let told : c.mark_at.result ≡ get_or c.self.inside.plain.nodes (length c.self.inside.raw.types + a) false =
    c.mark_at.ensures ∙ (ap (λ (marks : List Bool). get_or marks (c.len.result + a) false) c.as_slice.ensures ∙ ap (λ (n : ℕ). get_or c.self.inside.plain.nodes (n + a) false) c.len.ensures) in
    let are = c.self.invariant.2.nodes in
    subst (λ (raw : RawFacts). IsTrue c.mark_at.result ↔ IsPlainAdt raw a) c.self.view_is
    (subst (λ (b : Bool). b ≡ true ↔ IsPlainAdt c.self.inside.raw a) (sym told) (are.adts a, are.plain_adts a))
