-- The flows of media were taken off the records of captures.
use Rattle.std.proofs.Common.{◌≡◌, ◌≤◌, ◌∙◌, ℕ, Bool, List, [], ◌∷◌, sym, subst}
use Rattle.std.specs.Prelude.{All}
use Rattle.std.proofs.lemmas.List.Elements.{All-weaker}
use Rattle.timing_base.specs.Shifts.{FlowOptions}
use Rattle.timing_base.specs.Captures.{Record, joined}
use Rattle.timing_base.specs.Media.{Media}
use Rattle.timing_base.specs.declared.packet.FlowPacket.{FlowPacket}
use Rattle.pcap_reader.specs.Records.{AreRecords}
use Rattle.pcap_reader.specs.Taken.{TakesFew}
use Rattle.udp_rtp.specs.Flow.{flow}
use Rattle.fail_interval.specs.Metered.{Standing, Telling}
use Rattle.flow_demux.specs.Rooms.{flows_of}
use Rattle.flow_demux.specs.Takings.{TakesAll, TakesFlow}
use Rattle.flow_demux.specs.declared.demux.Demux.{Demux}
use Rattle.flow_demux.specs.declared.media_flow.MediaFlow.{MediaFlow}
use Rattle.timing_steps.specs.Taken.{TakesTexts}
use Rattle.timing_steps.specs.declared.captures.TakenCaptures.{TakenCaptures}
use Rattle.timing_measure.specs.Each.{AllPairs, EachOf}
use Rattle.timing_measure.specs.flows.Meters.{HasRoom, StandsFor, TakesOn, room_less}
use Rattle.timing_measure.specs.flows.Taken.{AreMetered, AreTakenIn, AreTakenOf, IsFlowOf}
use Rattle.timing_measure.specs.declared.both.Both.{Both}
use Rattle.timing_measure.specs.declared.flows.flow.FlowMeter.{FlowMeter}
use Rattle.timing_measure.specs.declared.flows.take.TakenFlows.{TakenFlows}
use Rattle.timing_measure.proofs.Eaches.{each-pairs}

-- a flow that was begun
pub new-flow : {M O Past : Type 0} (wants : Bool) (stands : Standing M) (tells : Telling Past O) (options : FlowOptions) (n : ℕ) (m : Media)
    (meter : FlowMeter M O)
    (f : MediaFlow (FlowMeter M O)) → f.media ≡ m → f.taker ≡ meter
    → ((past : Past) → StandsFor wants stands tells past m n options meter [])
    → IsFlowOf wants stands tells options [] n m f
new-flow wants stands tells options n m meter f media taker h = record {
  media_is = media;
  stood = λ past. subst (λ x. StandsFor wants stands tells past m n options x []) (sym taker) (h past);
}

-- what takes it took the flow of these records
flow-fed : {M O Past : Type 0} (wants : Bool) (stands : Standing M) (tells : Telling Past O) (options : FlowOptions) (items : List Record) (n : ℕ) (m : Media)
    (old new : MediaFlow (FlowMeter M O)) → IsFlowOf wants stands tells options [] n m old
    → TakesFlow (λ m x y l. TakesOn wants stands tells m x y l) old new items
    → IsFlowOf wants stands tells options items n m new
flow-fed wants stands tells options items n m old new h t =
    let fed : TakesOn wants stands tells m old.taker new.taker items =
    subst (λ (x : Media). TakesOn wants stands tells x old.taker new.taker items) h.media_is t.fed in
    record { media_is = t.media ∙ h.media_is; stood = λ past. fed past n options [] (h.stood past) }

-- two lists, item by item
zip-pairs : {F : Type 0} (takes : Media → F → F → List Record → Type 0) (olds news : List (MediaFlow F)) (items : List Record)
    → TakesAll takes olds news items → AllPairs (λ old new. TakesFlow takes old new items) olds news
zip-pairs takes [] [] items h = tt
zip-pairs takes [] (y ∷ news) items h = absurd h
zip-pairs takes (x ∷ olds) [] items h = absurd h
zip-pairs takes (x ∷ olds) (y ∷ news) items h = (h.0, zip-pairs takes olds news items h.1)

-- so of all media
pub flows-fed : {M O Past : Type 0} (wants : Bool) (stands : Standing M) (tells : Telling Past O) (options : FlowOptions) (first : ℕ) (media : List Media)
    (items : List Record)
    (olds news : List (MediaFlow (FlowMeter M O))) → AreMetered wants stands tells options first media [] olds
    → TakesAll (λ m x y l. TakesOn wants stands tells m x y l) olds news items → AreMetered wants stands tells options first media items news
flows-fed wants stands tells options first media items olds news h taken =
    each-pairs (IsFlowOf wants stands tells options []) (λ old new. TakesFlow (λ m x y l. TakesOn wants stands tells m x y l) old new items)
    (IsFlowOf wants stands tells options items) (flow-fed wants stands tells options items) first media olds news h
    (zip-pairs (λ m x y l. TakesOn wants stands tells m x y l) olds news items taken)

-- what both take of each record
abbrev pub BothTake : {M O B Past : Type 0} → (wants : Bool) → Standing M → Telling Past O → (B → B → List Record → Type 0)
    → (old new : Both (Demux (FlowMeter M O)) B) → List Record → Type 0
BothTake wants stands tells takes old new items =
    TakesAll (λ m x y l. TakesOn wants stands tells m x y l) (flows_of old.first) (flows_of new.first) items × takes old.second new.second items

pub taken-in : {M O B Past : Type 0} (wants : Bool) (stands : Standing M) (tells : Telling Past O) (takes : B → B → List Record → Type 0)
    (options : FlowOptions) (first : ℕ)
    (media : List Media) (texts : List (List ℕ)) (old new : Both (Demux (FlowMeter M O)) B) (read : TakenCaptures) (taken : TakenFlows M O B)
    → AreMetered wants stands tells options first media [] (flows_of old.first) → TakesTexts (BothTake wants stands tells takes) texts old new read
    → taken.notes.items ≡ read.notes.items → taken.flows.items ≡ flows_of new.first → taken.beside ≡ new.second
    → AreTakenIn wants stands tells takes options first media texts old.second taken
taken-in wants stands tells takes options first media texts old new read taken h t notes flows beside = record {
  files = t.files;
  records = subst (AreRecords texts t.files) (sym notes) t.records;
  are = subst (AreMetered wants stands tells options first media (joined t.files)) (sym flows)
      (flows-fed wants stands tells options first media (joined t.files) (flows_of old.first) (flows_of new.first) h t.fed.0);
  beside = subst (λ b. takes old.second b (joined t.files)) (sym beside) t.fed.1;
}

pub taken-of : {M O B Past : Type 0} (wants : Bool) (stands : Standing M) (tells : Telling Past O) (takes : B → B → List Record → Type 0)
    (options : FlowOptions) (most first : ℕ) (media : List Media) (old new : Both (Demux (FlowMeter M O)) B) (taken : TakenFlows M O B)
    → AreMetered wants stands tells options first media [] (flows_of old.first) → TakesFew (BothTake wants stands tells takes) most old new
    → taken.flows.items ≡ flows_of new.first → AreTakenOf wants stands tells options first media taken
taken-of wants stands tells takes options most first media old new taken h t flows = record {
  items = t.items;
  are = subst (AreMetered wants stands tells options first media t.items) (sym flows)
      (flows-fed wants stands tells options first media t.items (flows_of old.first) (flows_of new.first) h t.taken.0);
}

-- each has room
pub flows-room : {M O : Type 0} (few many : ℕ) (flows : List (MediaFlow (FlowMeter M O))) → few ≤ many
    → All (λ (f : MediaFlow (FlowMeter M O)). HasRoom many f.taker) flows → All (λ (f : MediaFlow (FlowMeter M O)). HasRoom few f.taker) flows
flows-room few many flows le h =
    All-weaker (λ (f : MediaFlow _). HasRoom many f.taker) (λ (f : MediaFlow _). HasRoom few f.taker) (λ f room. room_less few many f.taker le room) flows h

-- what the flows come to, one by one
pub flows-end : {M O E Past : Type 0} (wants : Bool) (stands : Standing M) (tells : Telling Past O) (past : Past)
    (Ends : MediaFlow (FlowMeter M O) → E → Type 0) (IsEnd : Media → (number : ℕ) (options : FlowOptions) → List FlowPacket → E → Type 0)
    (options : FlowOptions) (first : ℕ)
    (media : List Media) (items : List Record) (flows : List (MediaFlow (FlowMeter M O))) (ends : List E)
    → ((f : MediaFlow (FlowMeter M O)) (e : E) → Ends f e → (m : Media) (number : ℕ) (packets : List FlowPacket)
    → StandsFor wants stands tells past m number options f.taker packets → IsEnd m number options packets e)
    → AreMetered wants stands tells options first media items flows → AllPairs Ends flows ends
    → EachOf (λ n m e. IsEnd m n options (flow items m) e) first media ends
flows-end wants stands tells past Ends IsEnd options first media items flows ends told h ended =
    each-pairs (IsFlowOf wants stands tells options items) Ends (λ n m e. IsEnd m n options (flow items m) e)
    (λ n m f e is end. told f e end m n (flow items m) (is.stood past)) first media flows ends h ended
