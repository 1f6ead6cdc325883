use Rattle.std.proofs.Common.{◌≡◌}
use Rattle.serde_json.specs.View.{members_view}
use Rattle.infer_text.specs.Own.{lang_items}
use Rattle.infer_text.proofs.Items.{with_front}
use Rattle.infer_text.proofs.abstractions.lang_items.Given as goal

abbrev pub invariant-loop-name : goal.invariant-loop-name
invariant-loop-name l = with_front l.out.items (lang_items (members_view l.name-iterator)) ≡ lang_items (members_view l.members.entries)
