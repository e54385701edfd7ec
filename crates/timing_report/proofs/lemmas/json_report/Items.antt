-- The items of a list of values.
use Rattle.std.proofs.Common.{◌≡◌, List, length}
use Rattle.serde_json.specs.Events.{items_len}
use Rattle.serde_json.specs.View.{items_view}
use Rattle.serde_json.specs.declared.value.Value.{Value}
use Rattle.serde_json.proofs.Views.{items_len-items_view}

-- how many there are
pub items_counted : (vs : List Value) → items_len (items_view vs) ≡ length vs
items_counted vs = items_len-items_view vs
