use Rattle.std.proofs.Common.{◌≡◌, ◌∙◌, ap, sym, subst, get_or, List, Bool, true, false}
use Rattle.std.specs.Prelude.{◌↔◌, IsTrue}
use Rattle.hir_facts.specs.Words.{RawFacts}
use Rattle.hir_facts.specs.Own.{FitsThere, IsPlainOver}
use Rattle.hir_facts.proofs.facts.Facts.is_plain_type.Goals as goal

pub returns : goal.returns
returns c n =
    let told : c.mark_at.result ≡ get_or c.self.inside.plain.nodes c.args.ty.0 false = c.mark_at.ensures ∙ ap (λ (marks : List Bool). get_or marks c.args.ty.0 false) c.as_slice.ensures in
    let are = c.self.invariant.2.nodes in
    subst (λ (raw : RawFacts). FitsThere raw n c.args.ty.0 → IsTrue c.mark_at.result ↔ IsPlainOver raw n c.args.ty) c.self.view_is
    (λ fits. subst (λ (b : Bool). b ≡ true ↔ IsPlainOver c.self.inside.raw n c.args.ty) (sym told) (are.types n c.args.ty fits, are.plain_types n c.args.ty))
