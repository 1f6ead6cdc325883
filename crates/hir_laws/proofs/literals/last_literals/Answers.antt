use Rattle.std.proofs.Common.{rules}
use Rattle.std.proofs.lemmas.Iterator.{YieldsList-from_slice, YieldsList-from_map, items_from_collect}
use Rattle.hir_laws.specs.Own.{last_literal}
use Rattle.hir_laws.proofs.literals.last_literals.Goals as goal

pub returns : goal.returns
returns c =
    items_from_collect c.collect.result c.collect.ensures.ran
    (YieldsList-from_map _ last_literal (YieldsList-from_slice c.args.pats.now (cc)) c.map.ensures.closure (λ x r q k. search rules))
