use Rattle.std.proofs.Common.{◌≡◌, refl, arith, length}
use Rattle.std.specs.Prelude.{Some, slice_get}
use Rattle.std.proofs.lemmas.Option.{slice_get_read}
use Rattle.infer_needs.specs.Words.{system}
use Rattle.infer_needs.specs.Own.{StandsInDiagnostic}
use Rattle.infer_needs.proofs.Leaving.{first_none, first_next, first_all}
use Rattle.infer_needs.proofs.left.look_at_diagnostics.Goals as goal

pub loop-entry-init : goal.loop-entry-init
loop-entry-init c = first_none c.args.sources.now.facts c.args.sources.now.item (system c.args.sources.now.sources) StandsInDiagnostic c.args.entries.now c.args.proofs.now.items c.args.found.now

pub look_at_diagnostic-requires-clause-whole : goal.look_at_diagnostic-requires-clause-whole
look_at_diagnostic-requires-clause-whole c t stands =
    let i = c.loop-entry.entry-index in
    let here : slice_get c.args.entries.now i ≡ Some c.entry-item.result = slice_get_read _ _ i _ refl c.loop-entry-test.true c.entry-item.is in
    c.requires.whole i c.entry-item.result here t stands

pub loop-entry-preserved : goal.loop-entry-preserved
loop-entry-preserved c =
    let i = c.loop-entry.entry-index in
    let here : slice_get c.args.entries.now i ≡ Some c.entry-item.result = slice_get_read _ _ i _ refl c.loop-entry-test.true c.entry-item.is in
    first_next c.args.sources.now.facts c.args.sources.now.item (system c.args.sources.now.sources) StandsInDiagnostic c.args.entries.now i c.entry-item.result c.args.proofs.now.items c.loop-entry.proofs.items c.look_at_diagnostic.new.proofs.items
    c.args.found.now c.loop-entry.found c.look_at_diagnostic.new.found here c.loop-entry.invariant c.in_ok-look_at_diagnostic.ensures

pub returns : goal.returns
returns c =
    let end : c.loop-entry.entry-index ≡ length c.args.entries.now = omega arith in
    first_all c.args.sources.now.facts c.args.sources.now.item (system c.args.sources.now.sources) StandsInDiagnostic c.args.entries.now c.loop-entry.entry-index c.args.proofs.now.items c.loop-entry.proofs.items c.args.found.now c.loop-entry.found end c.loop-entry.invariant
