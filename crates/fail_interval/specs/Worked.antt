-- Small flows with results worked by hand: two packets per frame or field, and a head of one packet. At 50 frames per
-- second with two packets per frame, T_DRAIN is 9,090,909 1/11 ns, gapped T_RS 9,600,000 ns, linear T_RS 10,000,000 ns
-- and TR_OFFSET 764,444 4/9 ns. For interlaced video at 25 frames per second with two packets per field, TR_OFFSET is
-- 782,222 2/9 ns, and the other times are the same.
use Rattle.std.specs.Prelude.{ℕ, true, false, List, [], ◌∷◌, Option, Some, None}
use Rattle.timing_base.specs.Examples.{sent}
use Rattle.timing_base.specs.Media.{Media}
use Rattle.timing_base.specs.Shifts.{FlowOptions, no_shift}
use Rattle.timing_base.specs.declared.key.FlowKey.{FlowKey}
use Rattle.timing_base.specs.declared.media.Kind.TheVariants.{N}
use Rattle.timing_base.specs.declared.packet.FlowPacket.{FlowPacket}
use Rattle.timing_base.specs.declared.row.KindVerdict.{KindVerdict}
use Rattle.timing_base.specs.declared.row.Row.{Row}
use Rattle.timing_base.specs.declared.row.Run.{Run}
use Rattle.timing_base.specs.declared.row.RunVerdict.TheVariants as run_verdict
use Rattle.timing_base.specs.declared.row.Unjudged.{Unjudged}
use Rattle.timing_base.specs.declared.row.Verdict.TheVariants as verdict
use Rattle.timing_base.specs.Verdicts.{Judged}
use Rattle.sender_params.specs.Worked.{described}

-- key of the flows: file 1, media 2
abbrev pub a_key : FlowKey
a_key = record { file = 1; media = 2 }

-- `--tai` alone
abbrev pub with_tai : ℕ → FlowOptions
with_tai seconds = record { shift = record { tai = seconds; delay = 0 }; seq16 = false }

-- `--delay` alone
abbrev pub with_delay : ℕ → FlowOptions
with_delay nanoseconds = record { shift = record { tai = 0; delay = nanoseconds }; seq16 = false }

-- `--seq16` alone
abbrev pub with_seq16 : FlowOptions
with_seq16 = record { shift = no_shift; seq16 = true }

-- 1080 lines at 50 frames per second, declared narrow, with this CMAX
abbrev pub with_cmax : ℕ → Media
with_cmax cmax = described 1080 false 50 1 (Some N) None (Some cmax)

-- a head of one packet, and two frames with four packets at these instants
abbrev pub four : ℕ → ℕ → ℕ → ℕ → List FlowPacket
four a b c d =
    sent 11 0 6 0 true ∷ sent 12 a 7 1 false ∷ sent 13 b 8 1 true ∷ sent 14 c 9 2 false ∷ sent 15 d 10 2 true ∷ []

-- a head of one packet, two frames with four packets at these instants, and one packet more without a marker
abbrev pub four_and_tail : ℕ → ℕ → ℕ → ℕ → ℕ → List FlowPacket
four_and_tail a b c d e =
    sent 11 0 6 0 true ∷ sent 12 a 7 1 false ∷ sent 13 b 8 1 true ∷ sent 14 c 9 2 false ∷ sent 15 d 10 2 true
    ∷ sent 16 e 11 3 false ∷ []

-- a head of one packet, and five frames at the same instant
abbrev pub ten_at_once : List FlowPacket
ten_at_once =
    sent 11 0 6 0 true ∷ sent 12 764000 7 1 false ∷ sent 13 764000 8 1 true ∷ sent 14 764000 9 2 false
    ∷ sent 15 764000 10 2 true ∷ sent 16 764000 11 3 false ∷ sent 17 764000 12 3 true ∷ sent 18 764000 13 4 false
    ∷ sent 19 764000 14 4 true ∷ sent 20 764000 15 5 false ∷ sent 21 764000 16 5 true ∷ []

-- a head of one packet, and two frames; the sender leaves the extended sequence number 0, and the sequence number wraps
-- in the first frame
abbrev pub four_wrapped : List FlowPacket
four_wrapped =
    sent 11 0 65534 0 true ∷ sent 12 764000 65535 1 false ∷ sent 13 10364000 0 1 true ∷ sent 14 20764000 1 2 false
    ∷ sent 15 30364000 2 2 true ∷ []

-- a head, a frame and a packet without a marker; after a gap a head of one packet and a frame
abbrev pub gap_between : List FlowPacket
gap_between =
    sent 11 0 6 0 true ∷ sent 12 764000 7 1 false ∷ sent 13 10364000 8 1 true ∷ sent 14 20764000 9 2 false
    ∷ sent 15 30364000 11 2 true ∷ sent 16 40764000 12 3 false ∷ sent 17 50364000 13 3 true ∷ []

-- the verdict on frames of two packets, with these peaks of the bucket and of the buffer with gapped and linear reads
abbrev pub twos : (frames packets tail bucket gapped linear : ℕ) → (n nl w : KindVerdict) → Judged
twos frames packets tail bucket gapped linear n nl w = record {
  n = 2;
  frames = frames;
  packets = packets;
  head = 1;
  tail = tail;
  bucket_peak = bucket;
  gapped_peak = gapped;
  linear_peak = linear;
  kinds = n ∷ nl ∷ w ∷ [];
}

-- the result of a flow with one judged run
abbrev pub judged_row : Judged → Row
judged_row judged = record { key = a_key; verdict = verdict.Judged judged }

-- the result of a flow that isn't judged
abbrev pub unjudged_row : Unjudged → Row
unjudged_row why = record { key = a_key; verdict = verdict.Unjudged why }

-- the result of a flow with two runs
abbrev pub runs_row : Run → Run → Row
runs_row first second = record { key = a_key; verdict = verdict.Runs (first ∷ second ∷ []) }

-- a judged run
abbrev pub judged_run : (rec number : ℕ) → Option ℕ → Judged → Run
judged_run rec number expected judged =
    record { rec = rec; number = number; expected = expected; verdict = run_verdict.Judged judged }

-- a run without a complete frame
abbrev pub headed_run : (rec number : ℕ) → Option ℕ → (head : ℕ) → Run
headed_run rec number expected head =
    record { rec = rec; number = number; expected = expected; verdict = run_verdict.NoWholeFrame head }
