-- The records of a capture that were taken.
use Rattle.std.specs.Prelude.{◌≢◌, IfOk, Result, Ok, Err}
use Rattle.std.proofs.Common.{◌^◌, ℕ, List, sym, subst}
use Rattle.timing_base.specs.Captures.{Record}
use Rattle.timing_base.specs.declared.capture.FileNote.{FileNote}
use Rattle.timing_base.specs.declared.capture.FileNote.TheVariants.{Refused}
use Rattle.timing_base.specs.declared.capture.PcapFault.TheVariants as fault
use Rattle.pcap_reader.specs.Header.{header}
use Rattle.pcap_reader.specs.Records.{Records}
use Rattle.pcap_reader.specs.declared.records.Taken.{Taken}
use Rattle.pcap_reader.proofs.Lists.{some_by}
use Rattle.pcap_reader.proofs.TakenRecords.{taken-whole}
use Rattle.pcap_reader.specs.Taken.{HasTaken}
use Rattle.timing_steps.specs.Taken.{TakesText}

-- what was told of the records of a text is told of the text, as each text has its records
pub takes-text : {T : Type 0} (takes : T → T → List Record → Type 0) (text : List ℕ) (before : ℕ) (old new : T) (taken : Taken)
    → taken.note ≢ Refused fault.ReadFault
    → ((items : List Record) (end : FileNote) → Records text (2 ^ 40) items end → HasTaken takes before old new taken.note taken.records items end)
    → TakesText takes text before old new taken
takes-text takes text before old new taken own told =
    let all = some_by (header text) (2 ^ 40) text in
    let is = taken-whole takes before old new taken.note taken.records all.0 all.1 own (told all.0 all.1 all.2) in
    record { items = all.0; records = subst (Records text (2 ^ 40) all.0) (sym is.0) all.2; count = is.1; fed = is.2 }

-- of a value, what follows from what holds of it
pub if-ok : {T E : Type 0} {P Q : T → Type 0} (result : Result T E) → ((x : T) → P x → Q x) → IfOk result P → IfOk result Q
if-ok (Ok x) next h = next x h
if-ok (Err e) next h = tt
