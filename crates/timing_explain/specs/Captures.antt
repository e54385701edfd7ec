-- What comes from the captures of a job.
use Rattle.std.specs.Prelude.{◌≡◌, Bool, ℕ, List}
use Rattle.timing_base.specs.Shifts.{FlowOptions}
use Rattle.timing_base.specs.Captures.{Record, joined}
use Rattle.timing_base.specs.Media.{Media}
use Rattle.capture_scan.specs.declared.found.Found.{Found}
use Rattle.capture_scan.specs.report.Contents.{contents_of}
use Rattle.pcap_reader.specs.Records.{AreRecords}
use Rattle.flow_findings.specs.declared.inputs.KnownCaptures.{KnownCaptures}
use Rattle.timing_explain.specs.Explained.{AreKnown, known_captures, with_contents}
use Rattle.timing_explain.specs.declared.captures.ExplainCaptures.{ExplainCaptures}
use Rattle.timing_explain.specs.declared.micros.Microseconds.{Microseconds}

-- what is known of captures, from the results of the takers that were given their records
abbrev pub known_of : Found → Microseconds → (seq16 : Bool) → KnownCaptures
known_of found micros seq16 = with_contents (contents_of found) micros.whole seq16

-- what comes from the captures with these contents, which are taken as one; the media count from `first` on
pub record IsExplainIn (options : FlowOptions) (first : ℕ) (media : List Media) (texts : List (List ℕ))
    (c : ExplainCaptures) : Type 0 where
  pub files : List (List Record)
  pub records : AreRecords texts files c.notes.items
  pub are : AreKnown options first media (joined files) c.flows.items
  pub known_is : c.known ≡ known_captures options.seq16 (joined files)

-- what comes from some packet records, also if the contents of the captures aren't known
pub record IsExplainOf (options : FlowOptions) (first : ℕ) (media : List Media) (c : ExplainCaptures) : Type 0 where
  pub items : List Record
  pub are : AreKnown options first media items c.flows.items
