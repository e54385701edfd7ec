-- What is opened to read tables that are worked by hand.
use Rattle.std.specs.Prelude.{⊤}
use Rattle.report_reader.specs.Pieces.{number}
use Rattle.table_reader.specs.Rows.{field_or_none, group_row, packet_row, signed}

unfoldable pub readers : ⊤
unfolding number signed field_or_none packet_row group_row
readers = tt
