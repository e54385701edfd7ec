-- The flows of the media of a session, taken from captures as one. Media count from 0.
use Rattle.std.specs.Prelude.{◌≡◌, ℕ, Bool, List, ◌++◌}
use Rattle.timing_base.specs.Shifts.{FlowOptions}
use Rattle.timing_base.specs.Captures.{Record, joined}
use Rattle.timing_base.specs.Media.{Media}
use Rattle.pcap_reader.specs.Records.{AreRecords}
use Rattle.udp_rtp.specs.Flow.{flow}
use Rattle.fail_interval.specs.Metered.{Standing, Telling}
use Rattle.flow_demux.specs.declared.media_flow.MediaFlow.{MediaFlow}
use Rattle.flow_measure.specs.declared.numbers.MeasuredFlow.{MeasuredFlow}
use Rattle.timing_measure.specs.Each.{AllPairs, EachOf}
use Rattle.timing_measure.specs.flows.Meters.{StandsFor}
use Rattle.timing_measure.specs.declared.flows.flow.FlowMeter.{FlowMeter}
use Rattle.timing_measure.specs.declared.flows.take.TakenFlows.{TakenFlows}
use Rattle.timing_measure.specs.declared.measured.MeasuredCaptures.{MeasuredCaptures}

-- the taker of the flow of this media took the flow in these packet records
pub record IsFlowOf {M O Past : Type 0} (wants : Bool) (stands : Standing M) (tells : Telling Past O)
    (options : FlowOptions) (items : List Record) (number : ℕ) (m : Media) (f : MediaFlow (FlowMeter M O))
    : Type 0 where
  pub media_is : f.media ≡ m
  pub stood : (past : Past) → StandsFor wants stands tells past m number options f.taker (flow items m)

-- the takers of these media, which count from `first` on, took their flows in these packet records
abbrev pub AreMetered : {M O Past : Type 0} → (wants : Bool) → Standing M → Telling Past O → FlowOptions
    → (first : ℕ) → List Media → List Record → List (MediaFlow (FlowMeter M O)) → Type 0
AreMetered wants stands tells options first media items flows =
    EachOf (IsFlowOf wants stands tells options items) first media flows

-- the takers, and the taker beside them, took the packet records of the captures with these contents as one
pub record AreTakenIn {M O B Past : Type 0} (wants : Bool) (stands : Standing M) (tells : Telling Past O)
    (takes : B → B → List Record → Type 0) (options : FlowOptions) (first : ℕ) (media : List Media)
    (texts : List (List ℕ)) (old : B) (taken : TakenFlows M O B) : Type 0 where
  pub files : List (List Record)
  pub records : AreRecords texts files taken.notes.items
  pub are : AreMetered wants stands tells options first media (joined files) taken.flows.items
  pub beside : takes old taken.beside (joined files)

-- the takers took some packet records, also if the contents of the captures aren't known
pub record AreTakenOf {M O B Past : Type 0} (wants : Bool) (stands : Standing M) (tells : Telling Past O)
    (options : FlowOptions) (first : ℕ) (media : List Media) (taken : TakenFlows M O B) : Type 0 where
  pub items : List Record
  pub are : AreMetered wants stands tells options first media items taken.flows.items

-- the flows of the captures with these contents; `Are` holds of them and the packet records of the captures as one
pub record AreCapturesIn (Are : List Record → List MeasuredFlow → Type 0) (texts : List (List ℕ))
    (c : MeasuredCaptures) : Type 0 where
  pub files : List (List Record)
  pub records : AreRecords texts files c.notes.items
  pub are : Are (joined files) c.flows.items

-- the flows of some packet records, also if the contents of the captures aren't known
pub record AreCapturesOf (Are : List Record → List MeasuredFlow → Type 0) (c : MeasuredCaptures) : Type 0 where
  pub items : List Record
  pub are : Are items c.flows.items

-- the results of the first flows of a list; those of `rest` haven't ended yet
pub record IsThrough {X Y : Type 0} (Ends : X → Y → Type 0) (all : List X) (done : List Y) (rest : List X)
    : Type 0 where
  pub past : List X
  pub whole : all ≡ past ++ rest
  pub ended : AllPairs Ends past done
