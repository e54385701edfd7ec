-- The contents of the code's lines and parameters, without their place in memory.
use Rattle.std.specs.Option.{option_copied}
use Rattle.sdp_reader.specs.Lines.{TextLine}
use Rattle.sdp_reader.specs.Parameters.{Item}
use Rattle.sdp_reader.specs.declared.line.Line.{Line}
use Rattle.sdp_reader.specs.declared.parameter.Parameter.{Parameter}

-- a line of the code
abbrev pub plain : Line → TextLine
plain l = record { number = l.number; text = l.text.now }

-- a parameter of the code
abbrev pub plain_item : Parameter → Item
plain_item p = record { line = p.line; name = p.name; value = option_copied p.value }
