use Rattle.std.proofs.Common.{◌≡◌, ◌∙◌, ap, sym, subst, get_or, List, Bool, true, false, refl}
use Rattle.std.specs.Prelude.{◌↔◌, IsTrue, slice_get}
use Rattle.hir_facts.specs.Words.{RawFacts}
use Rattle.hir_facts.specs.Own.{IsPlainFn}
use Rattle.hir_facts.proofs.PlainFns.{fn_told}
use Rattle.hir_facts.proofs.facts.Facts.is_plain_fn.Goals as goal

pub returns : goal.returns
returns c =
    let told : c.mark_at.result ≡ get_or c.self.inside.plain.fns c.args.function.0 false = c.mark_at.ensures ∙ ap (λ (marks : List Bool). get_or marks c.args.function.0 false) c.as_slice.ensures in
    subst (λ (raw : RawFacts). IsTrue c.mark_at.result ↔ IsPlainFn raw c.args.function) c.self.view_is
    (subst (λ (b : Bool). b ≡ true ↔ IsPlainFn c.self.inside.raw c.args.function) (sym told)
    (fn_told c.self.inside.raw c.self.inside.plain c.self.invariant.2 c.args.function (slice_get c.self.inside.raw.fns c.args.function.0) refl))
