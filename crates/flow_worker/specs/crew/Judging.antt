-- The result of a run, and its relation to the contents of its files.
use Rattle.std.specs.Prelude.{◌≡◌, ◌≤◌, ⊤, ℕ, Bool, true, false, List, [], ◌∷◌, Option, Some, IsTrue}
use Rattle.timing_base.specs.declared.capture.FileNote.{FileNote}
use Rattle.timing_base.specs.declared.capture.FileNote.TheVariants.{Cut, End, Refused}
use Rattle.timing_base.specs.declared.capture.PcapFault.{PcapFault}
use Rattle.timing_base.specs.declared.capture.PcapFault.TheVariants.{ReadFault}
use Rattle.timing_outside.specs.Causes.{Rose}

-- the sources have these contents left to read, and they are known
abbrev pub AreTexts : {S : Type 0} → (left : S → Option (List ℕ)) → List (List ℕ) → List S → Type 0
AreTexts left [] [] = ⊤
AreTexts left (t ∷ ts) (s ∷ ss) = (left s ≡ Some t) × AreTexts left ts ss
AreTexts left ts ss = ⊥

-- the sources came back, in order, with how each file ends, or nothing if memory ran out in its intake; the count of
-- faults rose if a read failed
abbrev pub AreBack : {S : Type 0} → (name : S → List ℕ) → (faults : S → ℕ) → (olds : List S) → List (Option FileNote)
    → (news : List S) → Type 0
AreBack name faults [] [] [] = ⊤
AreBack name faults (o ∷ os) (note ∷ notes) (n ∷ ns) =
    (name n ≡ name o) × (faults o ≤ faults n) × (note ≡ Some (Refused ReadFault) → Rose (faults o) (faults n))
    × AreBack name faults os notes ns
AreBack name faults os notes ns = ⊥

-- whether no read of a file failed
abbrev pub is_read : PcapFault → Bool
is_read ReadFault = false
is_read _ = true

-- whether a file was read to its end, or to where it is truncated or malformed
abbrev pub is_whole : FileNote → Bool
is_whole End = true
is_whole (Cut at) = true
is_whole (Refused fault) = is_read fault

-- the file was read to its end, or to where it is truncated or malformed
abbrev pub IsWhole : FileNote → Type 0
IsWhole note = IsTrue (is_whole note)
