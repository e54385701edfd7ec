-- The members of an `Object`.
use Rattle.std.specs.Prelude.{◌≡◌, List}
use Rattle.serde_json.specs.Data.{Members}
use Rattle.serde_json.specs.View.{members_view}
use Rattle.timing_report.specs.json_report.Json.{Member, with_members}
use Rattle.timing_report.specs.declared.json_report.object.Object.{Object}

-- the members of an object, in the byte order of their keys
abbrev pub members : Object → Members
members object = members_view object.map.entries

-- the object has these members put in
abbrev pub Puts : List Member → Object → Object → Type 0
Puts more before after = members after ≡ with_members more (members before)
