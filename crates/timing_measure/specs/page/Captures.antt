-- The part of a page that comes from its captures.
use Rattle.std.specs.Prelude.{ℕ, List}
use Rattle.timing_base.specs.Shifts.{FlowOptions}
use Rattle.timing_base.specs.Captures.{Record, joined}
use Rattle.timing_base.specs.Media.{Media}
use Rattle.capture_scan.specs.Scans.{IsFound}
use Rattle.pcap_reader.specs.Records.{AreRecords}
use Rattle.timing_measure.specs.page.Pages.{ArePages}
use Rattle.timing_measure.specs.declared.page.captures.PageCaptures.{PageCaptures}

-- the part of a page for the captures with these contents, which are taken as one; the media count from `first` on
pub record IsPageIn (options : FlowOptions) (first : ℕ) (media : List Media) (texts : List (List ℕ)) (c : PageCaptures)
    : Type 0 where
  pub files : List (List Record)
  pub records : AreRecords texts files c.notes.items
  pub are : ArePages options first media (joined files) c.flows.items
  pub found_is : IsFound (joined files) c.found

-- the part of a page for some packet records, also if the contents of the captures aren't known
pub record IsPageOf (options : FlowOptions) (first : ℕ) (media : List Media) (c : PageCaptures) : Type 0 where
  pub items : List Record
  pub are : ArePages options first media items c.flows.items
