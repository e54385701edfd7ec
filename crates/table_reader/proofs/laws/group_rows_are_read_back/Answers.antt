use Rattle.table_reader.proofs.Tables.{groups_table}
use Rattle.table_reader.proofs.laws.group_rows_are_read_back.Goals as goal

pub returns : goal.returns
returns c = groups_table
