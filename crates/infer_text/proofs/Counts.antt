-- How many parts and members a value has.
use Rattle.std.proofs.Common.{◌≡◌, suc, List, [], ◌∷◌, length, refl, ap, String}
use Rattle.std.specs.declared.alloc.Global.{Global}
use Rattle.serde_json.specs.View.{items_view, members_view}
use Rattle.serde_json.specs.declared.value.Value.{Value}
use Rattle.infer_text.specs.Own.{count_items, count_members}

pub count_items_view : (vs : List Value) → count_items (items_view vs) ≡ length vs
count_items_view [] = refl
count_items_view (v ∷ vs) = ap suc (count_items_view vs)

pub count_members_view : (ms : List (String Global × Value)) → count_members (members_view ms) ≡ length ms
count_members_view [] = refl
count_members_view (m ∷ ms) = ap suc (count_members_view ms)
