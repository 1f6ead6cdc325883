use Rattle.std.proofs.Common.{◌≡◌, drop}
use Rattle.serde_json.specs.View.{items_view}
use Rattle.infer_text.specs.Own.{read_each}
use Rattle.infer_text.proofs.Items.{with_front}
use Rattle.infer_text.proofs.reader.items_of.Given as goal

abbrev pub invariant-loop-at : goal.invariant-loop-at
invariant-loop-at g l = with_front l.out.items (read_each g.T.FromData.reads l.at (items_view (drop l.at l.values))) ≡ read_each g.T.FromData.reads 0 (items_view l.values)
