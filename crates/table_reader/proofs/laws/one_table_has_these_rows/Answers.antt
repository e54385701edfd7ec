use Rattle.table_reader.proofs.Tables.{same_groups, same_packets}
use Rattle.table_reader.proofs.laws.one_table_has_these_rows.Goals as goal

pub returns-clause-packets : goal.returns-clause-packets
returns-clause-packets c = same_packets

pub returns-clause-groups : goal.returns-clause-groups
returns-clause-groups c = same_groups
