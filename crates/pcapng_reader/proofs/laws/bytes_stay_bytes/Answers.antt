use Rattle.pcapng_reader.proofs.Bytes.{classic-bytes, each-bytes}
use Rattle.pcapng_reader.proofs.laws.bytes_stay_bytes.Goals as goal

pub returns-clause-one : goal.returns-clause-one
returns-clause-one c = classic-bytes

pub returns-clause-each : goal.returns-clause-each
returns-clause-each c = each-bytes
