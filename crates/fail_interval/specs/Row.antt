-- The result of a flow, by its packets. This project's profile.
use Rattle.std.specs.Prelude.{true, false, List, [], ◌∷◌, length, map}
use Rattle.timing_base.specs.Shifts.{FlowOptions}
use Rattle.timing_base.specs.Judged.{FlowRun, FlowVerdict, JudgedRun, RunOutcome, absent, gap, in_one_run, in_runs}
use Rattle.timing_base.specs.Judged.{judged, no_whole_frame, refused, whole_frames}
use Rattle.timing_base.specs.Media.{Media}
use Rattle.timing_base.specs.Verdicts.{Judged as JudgedValue}
use Rattle.timing_base.specs.declared.key.FlowKey.{FlowKey}
use Rattle.timing_base.specs.declared.media.Kind.TheVariants.{N, NL, W}
use Rattle.timing_base.specs.declared.packet.FlowPacket.{FlowPacket}
use Rattle.timing_base.specs.declared.row.Row.{Row}
use Rattle.timing_base.specs.declared.row.Run.{Run}
use Rattle.timing_base.specs.declared.row.RunVerdict.{RunVerdict}
use Rattle.timing_base.specs.declared.row.RunVerdict.TheVariants as run_verdict
use Rattle.timing_base.specs.declared.row.Unjudged.TheVariants as unjudged
use Rattle.timing_base.specs.declared.row.Verdict.{Verdict}
use Rattle.timing_base.specs.declared.row.Verdict.TheVariants as verdict
use Rattle.sender_params.specs.Keeps.{held_at}
use Rattle.drain_bucket.specs.Word.{bucket_of}
use Rattle.fail_interval.specs.Fails.{greatest, kind_verdict}

-- the verdict on a judged run of this video
abbrev pub judged_values : Media → JudgedRun → JudgedValue
judged_values m run = record {
  n = run.n;
  frames = run.groups;
  packets = length run.stamps;
  head = run.head;
  tail = run.tail;
  bucket_peak = greatest (bucket_of m run.n run.stamps) (length run.stamps);
  gapped_peak = greatest (held_at m run.n run.stamps true) (length run.stamps);
  linear_peak = greatest (held_at m run.n run.stamps false) (length run.stamps);
  kinds = kind_verdict m run.n run.stamps N ∷ kind_verdict m run.n run.stamps NL ∷ kind_verdict m run.n run.stamps W
      ∷ [];
}

-- the verdict on a run between gaps
abbrev pub run_verdict_of : Media → RunOutcome → RunVerdict
run_verdict_of m (no_whole_frame head) = run_verdict.NoWholeFrame head
run_verdict_of m (whole_frames run) = run_verdict.Judged (judged_values m run)

-- the result of a run between gaps
abbrev pub run_of : Media → FlowRun → Run
run_of m run = record {
  rec = run.rec;
  number = run.number;
  expected = run.expected;
  verdict = run_verdict_of m run.outcome;
}

-- the verdict on a flow with no gap
abbrev pub one_run_verdict : Media → RunOutcome → Verdict
one_run_verdict m (no_whole_frame head) = verdict.Unjudged (unjudged.NoWholeFrame head)
one_run_verdict m (whole_frames run) = verdict.Judged (judged_values m run)

-- the verdict on a flow
abbrev pub verdict_of : Media → FlowVerdict → Verdict
verdict_of m absent = verdict.Unjudged unjudged.Absent
verdict_of m (refused rec fault) = verdict.Unjudged (unjudged.Refused rec fault)
verdict_of m (gap rec expected got) = verdict.Unjudged (unjudged.Gap rec expected got)
verdict_of m (in_one_run outcome) = one_run_verdict m outcome
verdict_of m (in_runs runs) = verdict.Runs (map (run_of m) runs)

-- the result of a flow of this media, by the options of the flow
abbrev pub row : List FlowPacket → FlowKey → Media → FlowOptions → Row
row packets key m options = record { key = key; verdict = verdict_of m (judged packets m.pt options) }
