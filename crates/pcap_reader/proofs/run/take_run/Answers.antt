use Rattle.pcap_reader.proofs.Runs.{run-of-front}
use Rattle.pcap_reader.proofs.run.take_run.Goals as goal

pub returns : goal.returns
returns g c = run-of-front _ _ _ _ _ _ _ _ _ _ _ c.take_few.ensures
