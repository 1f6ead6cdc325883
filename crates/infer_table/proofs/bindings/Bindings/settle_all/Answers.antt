use Rattle.std.proofs.Common.{length, sym, subst, refl, ap, arith}
use Rattle.std.proofs.lemmas.Option.{slice_get_read}
use Rattle.infer_table.specs.Own.{log_of, origins_of, IsOriginOf}
use Rattle.infer_table.proofs.Settling.{origin_at, settled_more, binds_none, binds_more}
use Rattle.infer_table.proofs.Unifying.{same_bindings, more_bindings}
use Rattle.infer_table.proofs.bindings.Bindings.settle_all.Goals as goal

pub settle-requires : goal.settle-requires
settle-requires c =
    let at = slice_get_read c.args.origins.now (length c.args.origins.now) c.loop-origin.origin-index c.origin-item.result refl c.loop-origin-test.true c.origin-item.is in
    record {
      made = subst (λ kinds. IsOriginOf kinds c.origin-item.result) (sym c.loop-origin.invariant.binds.kinds)
          (origin_at c.args.self.now.kinds c.args.origins.now c.loop-origin.origin-index c.origin-item.result c.requires.made at);
    }

pub loop-origin-init : goal.loop-origin-init
loop-origin-init c = record {
  binds = same_bindings c.args.self.now c.args.self.now refl;
  settled = tt;
  least = binds_none (log_of c.args.self.now.log) (origins_of c.args.origins.now);
  nothing = λ e. refl;
}

pub loop-origin-preserved : goal.loop-origin-preserved
loop-origin-preserved c =
    let at = slice_get_read c.args.origins.now (length c.args.origins.now) c.loop-origin.origin-index c.origin-item.result refl c.loop-origin-test.true c.origin-item.is in
    record {
      binds = more_bindings c.args.self.now c.loop-origin.self c.settle.new.self c.loop-origin.invariant.binds c.in_ok-settle.ensures.binds;
      settled = settled_more c.loop-origin.self c.settle.new.self c.args.origins.now c.loop-origin.origin-index c.origin-item.result at c.loop-origin.invariant.settled c.in_ok-settle.ensures.settles;
      least = binds_more (log_of c.args.self.now.log) c.loop-origin.self c.settle.new.self c.args.origins.now c.loop-origin.origin-index c.origin-item.result at c.loop-origin.invariant.least c.in_ok-settle.ensures.settles;
      nothing = λ e. let n = ap length e in absurd (omega (arith, n, c.loop-origin-test.true));
    }
