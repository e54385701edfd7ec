use Rattle.table_reader.proofs.Tables.{packets_table}
use Rattle.table_reader.proofs.laws.packet_rows_are_read_back.Goals as goal

pub returns : goal.returns
returns c = packets_table
