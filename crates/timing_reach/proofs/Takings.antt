-- The records of captures that were taken, and what follows from an answer or an option.
use Rattle.std.specs.Prelude.{IfOk, Result, Ok, Err, is_some}
use Rattle.std.proofs.Common.{◌≡◌, ℕ, false, List, Option, Some, None, refl, sym, subst}
use Rattle.std.proofs.lemmas.Bool.{false≢true}
use Rattle.timing_base.specs.Captures.{Record}
use Rattle.timing_base.specs.Media.{Media}
use Rattle.pcap_reader.specs.Taken.{TakesFew}
use Rattle.pcap_reader.specs.declared.records.Taken.{Taken}
use Rattle.pcap_reader.proofs.Captures.{map-raised}
use Rattle.timing_steps.specs.Taken.{TakesText, TakesTexts}
use Rattle.timing_steps.specs.declared.captures.TakenCaptures.{TakenCaptures}
use Rattle.flow_demux.specs.Takings.{TakesFlow}
use Rattle.flow_demux.specs.declared.media_flow.MediaFlow.{MediaFlow}
use Rattle.timing_reach.specs.judged.Flows.{TakesIn}

-- where no record comes before, numbers stay as they are
pub fed-alone : {T : Type 0} (takes : T → T → List Record → Type 0) (text : List ℕ) (old new : T) (read : Taken) (t : TakesText takes text 0 old new read)
    → takes old new t.items
fed-alone takes text old new read t = subst (takes old new) (map-raised t.items) t.fed

-- a taker took the flow of a media in the packet records of the contents of captures
pub flow-taken : {F : Type 0} (takes : Media → F → F → List Record → Type 0) (texts : List (List ℕ)) (m : Media) (taker : F) (old new : MediaFlow F)
    (read : TakenCaptures)
    → old.media ≡ m → old.taker ≡ taker → TakesTexts (TakesFlow takes) texts old new read → TakesIn (takes m) texts taker new.taker
flow-taken {F} takes texts m taker old new read media is t =
    subst (λ (x : Media). TakesIn (takes x) texts taker new.taker) media
    (subst (λ (x : F). TakesIn (takes old.media) texts x new.taker) is record {
      files = t.files;
      notes = read.notes.items;
      records = t.records;
      fed = t.fed.fed;
    })

-- a taker took the flow of a media in some packet records
pub flow-few-taken : {F : Type 0} (takes : Media → F → F → List Record → Type 0) (most : ℕ) (m : Media) (taker : F) (old new : MediaFlow F)
    → old.media ≡ m → old.taker ≡ taker → TakesFew (TakesFlow takes) most old new → TakesFew (takes m) most taker new.taker
flow-few-taken {F} takes most m taker old new media is t =
    subst (λ (x : Media). TakesFew (takes x) most taker new.taker) media
    (subst (λ (x : F). TakesFew (takes old.media) most x new.taker) is (record { items = t.items; few = t.few; taken = t.taken.fed }))

-- what follows from an answer
pub if-ok : {T E : Type 0} {P Q : T → Type 0} (result : Result T E) → ((x : T) → P x → Q x) → IfOk result P → IfOk result Q
if-ok (Ok x) next h = next x h
if-ok (Err e) next h = tt

-- what a test of an option says of it
pub none-by : {X : Type 0} (o : Option X) → is_some o ≡ false → o ≡ None
none-by None e = refl
none-by (Some x) e = absurd (false≢true (sym e))
