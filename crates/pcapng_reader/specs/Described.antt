-- The interfaces of a section.
use Rattle.std.specs.Prelude.{List}
use Rattle.pcapng_reader.specs.declared.block.Interface.{Interface}
use Rattle.pcapng_reader.specs.declared.interfaces.Interfaces.{Interfaces}

-- the interfaces; the first has number 0
abbrev pub list_of : Interfaces → List Interface
list_of s = s.items.items
