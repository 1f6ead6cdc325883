use Rattle.infer_ctx.proofs.Sigs.{ctor_enough}
use Rattle.infer_ctx.proofs.given.GivenBody.ctor_sig.Goals as goal

pub first_args-requires : goal.first_args-requires
first_args-requires c =
    let enough = ctor_enough c.args.self.now.facts.now c.args.variant c.args.args.now c.requires c.variant.result.now c.adt.result.now c.variant.ensures c.adt.ensures in
    rw (c.len-params.ensures, c.as_slice.ensures) enough
