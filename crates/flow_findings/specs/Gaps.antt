-- The gaps in the packet numbers of a flow, and of what kind they are. A packet number is the extended sequence number
-- times 65,536, plus the RTP sequence number (RFC 4175, section 4.2), so it counts modulo 2^32. With `seq16` the
-- packets are numbered by their 16-bit sequence numbers alone (`--seq16`): each number is the one before and as much as
-- the sequence number went on, modulo 2^16. This project's profile: which gap is a wrap, and which a loss.
use Rattle.std.specs.Prelude.{ℕ, ◌+◌, ◌-◌, ◌%◌, ◌^◌, ◌==◌, ◌&&◌, not, nat_lt, Bool, if◌then◌else◌, List, [], ◌∷◌}
use Rattle.std.specs.Prelude.{Option, Some, None}
use Rattle.std.specs.List.{count_by, filter, flat_map, sum_by}
use Rattle.timing_base.specs.declared.row.Unjudged.{Unjudged}
use Rattle.timing_base.specs.declared.row.Unjudged.TheVariants as unjudged
use Rattle.timing_base.specs.declared.row.Verdict.{Verdict}
use Rattle.timing_base.specs.declared.row.Verdict.TheVariants as verdict
use Rattle.flow_findings.specs.declared.gaps.Gap.{Gap}

-- a gap with this expected packet number and this one in its place
abbrev pub gap : (expected got : ℕ) → Gap
gap expected got = record { expected = expected; got = got }

-- the gap before a run; the first run has none
abbrev pub gap_before : (number : ℕ) → Option ℕ → List Gap
gap_before number None = []
gap_before number (Some expected) = gap expected number ∷ []

-- the gap at which a flow is refused
abbrev pub gap_at : Unjudged → List Gap
gap_at unjudged.Absent = []
gap_at (unjudged.NoWholeFrame head) = []
gap_at (unjudged.Refused rec fault) = []
gap_at (unjudged.Gap rec expected got) = gap expected got ∷ []

-- the gaps of a flow with this verdict: those between its runs, or the one at which it is refused
abbrev pub gaps_of : Verdict → List Gap
gaps_of (verdict.Unjudged unjudged) = gap_at unjudged
gaps_of (verdict.Judged judged) = []
gaps_of (verdict.Runs runs) = flat_map (λ run. gap_before run.number run.expected) runs

-- the count of numbers that a difference of two packets' numbers counts modulo
abbrev pub turn_of : (seq16 : Bool) → ℕ
turn_of seq16 = if seq16 then 2 ^ 16 else 2 ^ 32

-- half of it
abbrev pub half_turn : (seq16 : Bool) → ℕ
half_turn seq16 = if seq16 then 2 ^ 15 else 2 ^ 31

-- the packet numbers that a gap skips
abbrev pub skipped : (seq16 : Bool) → Gap → ℕ
skipped seq16 g = ((g.got + 2 ^ 32) - g.expected) % turn_of seq16

-- the sequence number wraps, and the extended sequence number stays 0; without the extended sequence number none is
-- found
abbrev pub is_wrap : (seq16 : Bool) → Gap → Bool
is_wrap seq16 g = (not seq16 && (g.expected == 65536)) && (g.got == 0)

-- packets are missing: the packet number goes forward by less than half a turn
abbrev pub is_loss : (seq16 : Bool) → Gap → Bool
is_loss seq16 g = not (is_wrap seq16 g) && nat_lt (skipped seq16 g) (half_turn seq16)

-- the packet number goes back
abbrev pub is_back : (seq16 : Bool) → Gap → Bool
is_back seq16 g = not (is_wrap seq16 g) && not (nat_lt (skipped seq16 g) (half_turn seq16))

-- the count of wraps
abbrev pub wraps : (seq16 : Bool) → List Gap → ℕ
wraps seq16 gaps = count_by (is_wrap seq16) gaps

-- the count of losses
abbrev pub losses : (seq16 : Bool) → List Gap → ℕ
losses seq16 gaps = count_by (is_loss seq16) gaps

-- the count of gaps at which the packet number goes back
abbrev pub backs : (seq16 : Bool) → List Gap → ℕ
backs seq16 gaps = count_by (is_back seq16) gaps

-- the count of missing packets
abbrev pub missing : (seq16 : Bool) → List Gap → ℕ
missing seq16 gaps = sum_by (skipped seq16) (filter (is_loss seq16) gaps)
