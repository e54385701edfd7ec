-- The state of readings after the packet records that they were given, and after the sources that were read.
use Rattle.std.specs.Prelude.{◌≡◌, ◌≤◌, ◌+◌, ℕ, zero, suc, List, [], ◌∷◌, ◌++◌, length, Option, Result, Ok}
use Rattle.std.specs.Prelude.{Err, ⊤}
use Rattle.std.proofs.Common.{append_assoc, append-nil, arith, refl, subst, sym, ◌∙◌}
use Rattle.timing_base.specs.Captures.{Record, joined_after}
use Rattle.timing_base.specs.declared.capture.FileNote.{FileNote}
use Rattle.pcap_reader.specs.Records.{AreRecords}
use Rattle.interval_checker.specs.Readings.{HasRead, HaveRead, HaveRoom, ReadOn, ReadsOn, count_taken}
use Rattle.interval_checker.specs.Sources.{AreBack, RoseAt, TellTexts}
use Rattle.interval_checker.specs.declared.fault.CheckFault.{CheckFault}
use Rattle.interval_checker.specs.declared.reading.Reading.{Reading}
use Rattle.interval_checker.specs.declared.records.Checking.{Checking}

-- the readings were given these records too
abbrev pub FeedsOn : (old new : Checking) → List Record → Type 0
FeedsOn old new more = ReadOn old.readings.items new.readings.items more

-- a stop before the end never occurs
abbrev pub NeverStops : {E : Type 0} → (old new : Checking) → E → List Record → Type 0
NeverStops old new stop more = ⊥

-- there is room for `count` more records
abbrev pub HasRoom : (number count : ℕ) → Checking → Type 0
HasRoom number count c = HaveRoom count c.readings.items

-- an empty list of records changes nothing
reads-none : (r : Reading) → ReadsOn r r []
reads-none r = record {
  media = refl;
  options = refl;
  asked = record { stamps = λ x p s. s; endings = λ x s. s };
  reads = λ items h. subst (HasRead r) (sym (append-nil items)) h;
}

reads-all_none : (rs : List Reading) → ReadOn rs rs []
reads-all_none [] = tt
reads-all_none (r ∷ rs) = (reads-none r, reads-all_none rs)

-- an empty list of records changes nothing
pub feeds_none : (x : Checking) → FeedsOn x x []
feeds_none x = reads-all_none x.readings.items

-- records that are read in two parts are read as all of them are
reads-more : (a b c : Reading) (first second : List Record) → ReadsOn a b first → ReadsOn b c second
    → ReadsOn a c (first ++ second)
reads-more a b c first second ab bc = record {
  media = bc.media ∙ ab.media;
  options = bc.options ∙ ab.options;
  asked = record {
    stamps = λ x p s. bc.asked.stamps x p (ab.asked.stamps x p s);
    endings = λ x s. bc.asked.endings x (ab.asked.endings x s);
  };
  reads = λ items h. subst (HasRead c) (append_assoc items first second) (bc.reads (items ++ first) (ab.reads items h));
}

reads-all_more : (xs ys zs : List Reading) (first second : List Record) → ReadOn xs ys first → ReadOn ys zs second
    → ReadOn xs zs (first ++ second)
reads-all_more [] [] [] first second ab bc = tt
reads-all_more [] [] (c ∷ zs) first second ab bc = bc
reads-all_more [] (b ∷ ys) zs first second ab bc = absurd ab
reads-all_more (a ∷ xs) [] zs first second ab bc = absurd ab
reads-all_more (a ∷ xs) (b ∷ ys) [] first second ab bc = bc
reads-all_more (a ∷ xs) (b ∷ ys) (c ∷ zs) first second ab bc =
    (reads-more a b c first second ab.0 bc.0, reads-all_more xs ys zs first second ab.1 bc.1)

-- records that are given in two parts are given as all of them are
pub feeds_more : (x y z : Checking) (a b : List Record) → FeedsOn x y a → FeedsOn y z b → FeedsOn x z (a ++ b)
feeds_more x y z a b first second = reads-all_more x.readings.items y.readings.items z.readings.items a b first second

-- room for many records is room for fewer
room-all_less : (few many : ℕ) (rs : List Reading) → few ≤ many → HaveRoom many rs → HaveRoom few rs
room-all_less few many [] less room = tt
room-all_less few many (r ∷ rs) less room = (omega (arith, less, room.0), room-all_less few many rs less room.1)

pub room_less : (number few many : ℕ) (x : Checking) → few ≤ many → HasRoom number many x → HasRoom number few x
room_less number few many x less room = room-all_less few many x.readings.items less room

-- a reading was given a record, and counted at most one packet
pub record TakesRecord (r : Record) (old new : Reading) : Type 0 where
  pub reads : ReadsOn old new (r ∷ [])
  pub few : count_taken new ≤ count_taken old + 1

-- the first `i` readings were given the record, and the others are unchanged
abbrev pub TakesUpTo : Record → ℕ → (olds news : List Reading) → Type 0
TakesUpTo r zero olds news = news ≡ olds
TakesUpTo r (suc i) [] news = news ≡ []
TakesUpTo r (suc i) (o ∷ os) [] = ⊥
TakesUpTo r (suc i) (o ∷ os) (n ∷ ns) = TakesRecord r o n × TakesUpTo r i os ns

-- the state while the sources are read: the records that were read, and those of the contents still to come
abbrev pub Goes : {S : Type 0} → (S → Option (List ℕ)) → (left_sources : List S) → (all : List Record) → List Reading
    → Result ℕ CheckFault → Type 0
Goes left sources all rs (Ok before) =
    (done : List Record) × (texts : List (List ℕ)) × (files : List (List Record)) × (notes : List FileNote)
    × TellTexts left sources texts × AreRecords texts files notes × (all ≡ done ++ joined_after before files)
    × HaveRead rs done
Goes left sources all rs (Err fault) = ⊤

-- the sources that are done come back in order, and the others are still to come
pub record Hands {S : Type 0} (name : S → List ℕ) (faults : S → ℕ) (all back rest : List S) : Type 0 where
  pub back_are : (news : List S) → AreBack name faults rest news → AreBack name faults all (back ++ news)
  pub rose : (news : List S) (k : ℕ) → RoseAt faults rest news k → RoseAt faults all (back ++ news) (length back + k)
