use Rattle.std.proofs.Common.{map, ap}
use Rattle.verdict_book.specs.Receipts.{row_of}
use Rattle.flow_worker.specs.Posting.{taken_packets}
use Rattle.flow_worker.proofs.JoinedFiles.{joined-rows, joined-whole}
use Rattle.flow_worker.proofs.joined_files.Joined.post.Goals as goal

pub returns-clause-rows : goal.returns-clause-rows
returns-clause-rows g c = λ s files worker taken h ended.
    joined-rows s files worker taken _ _ h.at.one (ap (map row_of) c.new-receipts.ensures.items)
    (c.in_ok-post.ensures.rows s worker 0 (taken_packets s files taken) (joined-whole s files worker taken _ h ended))
