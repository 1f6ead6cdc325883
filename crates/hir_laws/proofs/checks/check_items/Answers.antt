use Rattle.std.specs.Prelude.{IsTrue}
use Rattle.hir_laws.specs.Words.{is_carried_written_type, is_carried_adt, is_carried_fn, VariantIsCarried}
use Rattle.hir_laws.proofs.Allowed.{allowed}
use Rattle.hir_laws.proofs.checks.check_items.Goals as goal

pub returns-clause-ok : goal.returns-clause-ok
returns-clause-ok c = (
  allowed (λ i t. IsTrue (is_carried_written_type t)) c.args.raw.now.types _ _ _ _ _ c.in_ok-types.ensures c.allow.ensures c.in_ok-allow.was,
  (
    allowed (λ i a. IsTrue (is_carried_adt a)) c.args.raw.now.adts _ _ _ _ _ c.in_ok-adts.ensures c.allow-2.ensures c.in_ok-allow-2.was,
    (
      allowed (λ i v. VariantIsCarried c.args.raw.now v) c.args.raw.now.variants _ _ _ _ _ c.in_ok-variants.ensures c.allow-3.ensures c.in_ok-allow-3.was,
      (allowed (λ i f. IsTrue (is_carried_fn f)) c.args.raw.now.fns _ _ _ _ _ c.in_ok-fns.ensures c.allow-4.ensures c.in_ok-allow-4.was, tt),
    ),
  ),
)
