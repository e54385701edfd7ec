-- A description of which only the first part was read.
use Rattle.std.proofs.Common.{◌≡◌, ◌<◌, ℕ, List, [], length, take, Err, Some, sym, ap, ◌∙◌, arith, inl, inr, true, take_all, if◌then◌else◌}
use Rattle.std.proofs.lemmas.List.{length-take-le}
use Rattle.std.proofs.lemmas.Bool.{cases_lt}
use Rattle.std.specs.Prelude.{nat_lt}
use Rattle.sdp_reader.specs.Lines.{lines}
use Rattle.sdp_reader.specs.Session.{answer, media_in}
use Rattle.sdp_reader.specs.declared.fault.SdpCause.TheVariants.{TooLarge}
use Rattle.sdp_notes.specs.Described.{Described, described, fault_in, media_read}
use Rattle.sdp_notes.specs.Notes.{notes_on}

-- of one that is too large nothing is read
abbrev too_large : Described
too_large = record { media = media_in []; notes = []; fault = Some (record { line = 0; what = TooLarge }) }

described-large : (s : List ℕ) → 1048576 < length s → described s ≡ too_large
described-large s h =
    let above : nat_lt 1048576 (length s) ≡ true = grind arith in
    ap (λ b. record {
      media = media_read s (if b then Err (record { line = 0; what = TooLarge }) else answer (lines s));
      notes = if b then [] else notes_on (lines s);
      fault = fault_in (if b then Err (record { line = 0; what = TooLarge }) else answer (lines s));
    }) above

-- one byte more than the limit is enough
pub described-take : (s : List ℕ) → described (take 1048577 s) ≡ described s
described-take s = elim (cases_lt 1048577 (length s)) as (λ _. described (take 1048577 s) ≡ described s) [
  | inl long ↦
      let front : length (take 1048577 s) ≡ 1048577 = length-take-le 1048577 s (omega (arith, long)) in
      described-large (take 1048577 s) (omega (arith, front)) ∙ sym (described-large s (omega (arith, long)))
  | inr short ↦ ap described (take_all 1048577 s short)
]
