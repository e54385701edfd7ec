-- The claims of a report, which are checked one after the other.
use Rattle.std.specs.Prelude.{ℕ, List, Option}
use Rattle.timing_outside.specs.Shelves.{StaysAs}
use Rattle.pcapng_reader.specs.Classic.{classic_texts}
use Rattle.timing_top.specs.verify.Found.{AreServed}
use Rattle.timing_top.specs.declared.verify.needs.Claims.{Claims}
use Rattle.timing_top.specs.declared.verify.read.FileRead.{FileRead}

-- each of these files was read for all claims, over a shelf with these contents that lacks these names
abbrev pub AreServedFor : (texts : List ℕ → Option (List ℕ)) → (lacks : List ℕ → Type 0) → Claims → List FileRead
    → Type 0
AreServedFor texts lacks claims reads = AreServed texts lacks claims.job.now claims.media.now claims.list.now reads

-- `Says` holds of every shelf that stayed the same up to this one, if the files were read over it
abbrev pub Since : {H : Type 0} → (text : H → List ℕ → Option (List ℕ)) → (lacks : H → List ℕ → Type 0)
    → (faults : H → List ℕ → ℕ)
    → H → Claims → List FileRead → ((List ℕ → Option (List ℕ)) → (List ℕ → Type 0) → Type 0) → Type 0
Since text lacks faults shelf claims reads Says = (first : _) → StaysAs text lacks faults first shelf
    → AreServedFor (classic_texts (text first)) (lacks first) claims reads
    → Says (classic_texts (text first)) (lacks first)
