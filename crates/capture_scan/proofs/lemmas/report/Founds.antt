-- What a scan found is the result of a scan of its packet records.
use Rattle.std.proofs.Common.{◌≡◌, List}
use Rattle.timing_base.specs.Captures.{Record}
use Rattle.capture_scan.specs.Scans.{IsFound}
use Rattle.capture_scan.specs.declared.found.Found.{Found}
use Rattle.capture_scan.specs.report.Contents.{contents, contents_of}

-- what was found is what is told
pub found-contents : (items : List Record) (found : Found) → IsFound items found → contents_of found ≡ contents items
found-contents items found h = λ i. record {
  records = h.records_are i;
  span = h.span_is i;
  passed_over = h.passed_over_are i;
  streams = h.streams_are i;
  unread = h.unread_are i;
  more = h.more_is i;
}
