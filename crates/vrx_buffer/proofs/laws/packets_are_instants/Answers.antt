use Rattle.vrx_buffer.proofs.Instants.{keep-packets, packets-keep}
use Rattle.vrx_buffer.proofs.laws.packets_are_instants.Goals as goal

pub returns-clause-packets : goal.returns-clause-packets
returns-clause-packets c = packets-keep

pub returns-clause-instants : goal.returns-clause-instants
returns-clause-instants c = keep-packets
