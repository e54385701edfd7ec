use Rattle.drain_bucket.proofs.Reich as reich
use Rattle.drain_bucket.proofs.laws.count_is_load.Goals as goal

pub returns : goal.returns
returns c = reich.count_is_load
