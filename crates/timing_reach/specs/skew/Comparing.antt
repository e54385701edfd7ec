-- The captures of two flows, which are read one after the other.
use Rattle.std.specs.Prelude.{◌≡◌, ◌+◌, ◌==◌, ◌^◌, ℕ, List, [], ◌∷◌, ◌++◌, length}
use Rattle.timing_base.specs.Captures.{Record}
use Rattle.timing_base.specs.Media.{Media}
use Rattle.timing_base.specs.declared.capture.FileNote.{FileNote}
use Rattle.path_skew.specs.Pair.{skew}
use Rattle.path_skew.specs.Stands.{StandsFor}
use Rattle.pcap_reader.specs.Records.{AreRecords, Records}
use Rattle.udp_rtp.specs.Flow.{flow}
use Rattle.timing_reach.specs.skew.Added.{Adds, taken_of}
use Rattle.timing_reach.specs.Skewed.{first_of, last_of}
use Rattle.timing_reach.specs.declared.skew.compare.Compared.{Compared}
use Rattle.timing_reach.specs.declared.skew.compare.Comparing.{Comparing}

-- one more of `count` captures was read: its note was appended, and its packets of the two flows were taken
pub record ComparesNext (text : List ℕ) (count : ℕ) (old new : Comparing) : Type 0 where
  pub items : List Record
  pub note : FileNote
  pub records : Records text (2 ^ 40) items note
  pub notes : new.notes.items ≡ old.notes.items ++ note ∷ []
  pub first : new.pairing.first.media ≡ old.pairing.first.media
  pub second : new.pairing.second.media ≡ old.pairing.second.media
  pub adds : Adds old.pairing.skew new.pairing.skew
      (taken_of (length old.notes.items == 0) old.pairing.first.media items)
      (taken_of (length old.notes.items + 1 == count) old.pairing.second.media items)

-- captures with these contents were read, of `count` in all: the first flow from the first of them, and the second flow
-- from the last, if that was read
pub record AreCompared (texts : List (List ℕ)) (a b : Media) (count : ℕ) (c : Comparing) : Type 0 where
  pub files : List (List Record)
  pub records : AreRecords texts files c.notes.items
  pub first : c.pairing.first.media ≡ a
  pub second : c.pairing.second.media ≡ b
  pub stands : StandsFor c.pairing.skew (flow (first_of files) a) (taken_of (length files == count) b (last_of files))

-- the comparison of two media in all captures with these contents
pub record IsComparedIn (texts : List (List ℕ)) (a b : Media) (c : Compared) : Type 0 where
  pub files : List (List Record)
  pub records : AreRecords texts files c.notes.items
  pub row_is : c.row ≡ skew (flow (first_of files) a) (flow (last_of files) b)
