use Rattle.std.proofs.Common.{ap, ◌∙◌, sym, Some}
use Rattle.capture_scan.proofs.Entries.{streams_apart}
use Rattle.capture_scan.proofs.streams.Streams.is_near.Goals as goal

-- the entry at this place has the key
pub returns-in-Some : goal.returns-in-Some
returns-in-Some c = λ same. (
  c.in-Some.field-0-1.now,
  sym c.in-Some.ensures.entry ∙ ap (λ k. Some (k, c.in-Some.field-0-1.now)) (streams_apart.equal _ _ (sym c.eq.ensures ∙ same)),
)
