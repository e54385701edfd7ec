-- Contents in memory that never fail.
use Rattle.std.specs.Prelude.{ℕ, List, [], string_bytes}
use Rattle.std.specs.Option.{option_map_or}
use Rattle.std.specs.BTreeMap.{get_by_text}
use Rattle.timing_outside.specs.Texts.{rest_of}
use Rattle.timing_outside.specs.declared.steady_shelf.SteadyShelf.{SteadyShelf}
use Rattle.timing_outside.specs.declared.steady_shelf.SteadySource.{SteadySource}

-- the contents of this name, empty if it wasn't put
abbrev pub bytes_of : SteadyShelf → List ℕ → List ℕ
bytes_of shelf name = option_map_or (λ bytes. bytes.items) (get_by_text shelf.entries name) []

-- the name under which a source was fetched
abbrev pub name_of : SteadySource → List ℕ
name_of s = string_bytes s.name

-- the bytes that weren't read yet
abbrev pub left_of : SteadySource → List ℕ
left_of s = rest_of s.text
