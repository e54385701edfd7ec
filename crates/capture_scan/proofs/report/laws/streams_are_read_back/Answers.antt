use Rattle.capture_scan.specs.report.Draft.{videos_of}
use Rattle.capture_scan.proofs.lemmas.report.DraftFaults.{draft-reads}
use Rattle.capture_scan.proofs.lemmas.report.Drafted.{drafts-apart, drafts-are}
use Rattle.capture_scan.proofs.report.laws.streams_are_read_back.Goals as goal

pub returns : goal.returns
returns c = λ streams bits some.
    draft-reads (videos_of streams) (drafts-are streams bits) (drafts-apart streams).own some (drafts-apart streams).few
