use Rattle.std.proofs.Common.{◌≡◌, ◌<◌, ◌≤◌, ◌*◌, true, false, MatchOption, length, slice_index, None, FitsSigned, ap, ◌∙◌, sym, subst, refl, rules, arith}
use Rattle.std.proofs.lemmas.Int.{to_z-of_z}
use Rattle.std.specs.Int.{w128}
use Rattle.std.specs.List.{slice_index_or}
use Rattle.timing_base.specs.declared.media.Kind.TheVariants.{N, NL, W}
use Rattle.vrx_buffer.specs.Occupancy.{is_late}
use Rattle.flow_measure.specs.Counts.{count_of}
use Rattle.flow_measure.specs.Gaps.{AreGapsOf}
use Rattle.flow_measure.specs.Groups.{AreGroupNumbers, firsts_of, lasts_of}
use Rattle.flow_measure.specs.Fed.{MeasuresGroups}
use Rattle.flow_measure.specs.Kinds.{Packets}
use Rattle.flow_measure.specs.Occupancy.{IsSlack, buckets_of}
use Rattle.flow_measure.specs.Run.{anchor_in, packets_of}
use Rattle.flow_measure.specs.Summary.{IsSummary}
use Rattle.flow_measure.proofs.Finished.{kind-is, none-measured, whole}
use Rattle.flow_measure.proofs.meters.RunMeters.finish.Goals as goal

pub returns-in_err-bucket : goal.returns-in_err-bucket
returns-in_err-bucket c = λ groups named stamps records timestamps h size first.
    let p = c.args.params.now in
    let s = c.args.self.now in
    let w = whole p.media p.n groups s stamps records timestamps p.media_is p.n_some h size in
    let none = sym w.all ∙ c.in_err-bucket.ensures (buckets_of p.media p.n stamps) w.narrow.filled in
    none-measured p.media p.n groups named stamps records timestamps _ p.n_some c.from_residual.ensures size none

pub returns-in_err-gapped : goal.returns-in_err-gapped
returns-in_err-gapped c = λ groups named stamps records timestamps h size first.
    let p = c.args.params.now in
    let s = c.args.self.now in
    let w = whole p.media p.n groups s stamps records timestamps p.media_is p.n_some h size in
    let held = w.narrow.held_is in
    let empty = (packets_of p.media p.n stamps records w.gapped_at N).empty in
    let none = sym w.all ∙ sym s.models.gapped_is ∙ c.in_err-gapped.ensures w.gapped_at empty held.occupancy held.late_are in
    none-measured p.media p.n groups named stamps records timestamps _ p.n_some c.from_residual-in_err-gapped.ensures size none

pub returns-in_err-linear : goal.returns-in_err-linear
returns-in_err-linear c = λ groups named stamps records timestamps h size first.
    let p = c.args.params.now in
    let s = c.args.self.now in
    let w = whole p.media p.n groups s stamps records timestamps p.media_is p.n_some h size in
    let held = w.wide.held_is in
    let empty = (packets_of p.media p.n stamps records w.linear_at W).empty in
    let none = sym w.all ∙ sym s.models.linear_is ∙ c.in_err-linear.ensures w.linear_at empty held.occupancy held.late_are in
    none-measured p.media p.n groups named stamps records timestamps _ p.n_some c.from_residual-in_err-linear.ensures size none

pub returns-in_err-groups : goal.returns-in_err-groups
returns-in_err-groups c = λ groups named stamps records timestamps h size first.
    let p = c.args.params.now in
    let s = c.args.self.now in
    let w = whole p.media p.n groups s stamps records timestamps p.media_is p.n_some h size in
    let fed = h.groups_are (slice_index stamps) (slice_index timestamps) (λ i few. refl) (λ i few. refl) in
    let none : groups ≡ 0 = sym w.groups_are ∙ sym s.groups_are
    ∙ c.in_err-groups.ensures p.media s.n0 (firsts_of p.n (slice_index stamps)) (lasts_of p.n (slice_index stamps)) (firsts_of p.n (slice_index timestamps))
    fed in
    let empty : length stamps ≡ 0 = (let e = ap (λ g. p.n * g) none in omega (arith, size, e)) in
    none-measured p.media p.n groups named stamps records timestamps _ p.n_some c.from_residual-in_err-groups.ensures size empty

pub returns : goal.returns
returns c = λ groups named stamps records timestamps h size first.
    let p = c.args.params.now in
    let s = c.args.self.now in
    let m = p.media in
    let n = p.n in
    let stamp = slice_index stamps in
    let timestamp = slice_index timestamps in
    let w = whole m n groups s stamps records timestamps p.media_is p.n_some h size in
    let n0_fits : FitsSigned w128 s.n0 = search rules in
    let gapped_fits : FitsSigned w128 c.slack-gapped.result = search rules in
    let linear_fits : FitsSigned w128 c.slack-linear.result = search rules in
    let bucket = subst (λ k. IsSummary (buckets_of m n stamps) k c.in_ok-bucket.bucket) w.all
    (c.in_ok-bucket.ensures (buckets_of m n stamps) w.narrow.filled) in
    let some : 0 < length stamps = bucket.some in
    let anchor : s.n0 ≡ anchor_in m stamps = h.anchor_is some in
    let over : length stamps ≡ n * s.walk.group = size ∙ ap (λ g. n * g) (sym w.groups_are) in
    let n0 = to_z-of_z w128 s.n0 n0_fits ∙ anchor in
    let gapped = c.in_ok-gapped.ensures w.gapped_at (packets_of m n stamps records w.gapped_at N).empty w.narrow.held_is.occupancy w.narrow.held_is.late_are in
    let linear = c.in_ok-linear.ensures w.linear_at (packets_of m n stamps records w.linear_at W).empty w.wide.held_is.occupancy w.wide.held_is.late_are in
    let gapped_slack = c.slack-gapped.ensures stamps _ h.gapped_is some over n0 refl in
    let linear_slack = c.slack-linear.ensures stamps _ h.linear_is some over n0 refl in
    let fed = subst (λ a. MeasuresGroups m a s.groups (firsts_of n stamp) (lasts_of n stamp) (firsts_of n timestamp)) anchor
    (h.groups_are stamp timestamp (λ i few. refl) (λ i few. refl)) in
    let numbers = subst (λ g. AreGroupNumbers m (anchor_in m stamps) g (firsts_of n stamp) (lasts_of n stamp) (firsts_of n timestamp) c.in_ok-groups.groups)
    (s.groups_are ∙ w.groups_are)
    (c.in_ok-groups.ensures m (anchor_in m stamps) (firsts_of n stamp) (lasts_of n stamp) (firsts_of n timestamp) fed) in
    let windows = h.windows_are.fed some p refl refl in
    let whole_groups = s.models_whole ∙ w.groups_are in
    record {
      whole = size;
      gapped_at = w.gapped_at;
      linear_at = w.linear_at;
      bucket = bucket;
      gapped = record {
        are = w.gapped_are;
        summary = subst (λ k. IsSummary w.gapped_at k c.in_ok-gapped.gapped.occupancy) (s.models.gapped_is ∙ w.all) gapped.0;
        slack = subst (IsSlack m n stamps true) (sym (gapped.1 ∙ to_z-of_z w128 c.slack-gapped.result gapped_fits)) gapped_slack;
        late = gapped.2 ∙ ap (count_of (is_late m n stamps true)) (s.models.gapped_is ∙ w.all);
      };
      linear = record {
        are = w.linear_are;
        summary = subst (λ k. IsSummary w.linear_at k c.in_ok-linear.linear.occupancy) (s.models.linear_is ∙ w.all) linear.0;
        slack = subst (IsSlack m n stamps false) (sym (linear.1 ∙ to_z-of_z w128 c.slack-linear.result linear_fits)) linear_slack;
        late = linear.2 ∙ ap (count_of (is_late m n stamps false)) (s.models.linear_is ∙ w.all);
      };
      kinds = (
        kind-is N m n groups s stamps records w.gapped_at (slice_index_or named 0 None) c.finish-5.result w.all whole_groups w.narrow first.narrow
            c.finish-5.ensures.numbers c.finish-narrow.result (c.finish-narrow.ensures p N stamps (windows N)) c.finish-5.ensures.troff,
        kind-is NL m n groups s stamps records w.linear_at (slice_index_or named 1 None) c.finish-6.result w.all
            (s.models.narrow_linear_whole ∙ whole_groups) w.narrow_linear first.narrow_linear c.finish-6.ensures.numbers
            c.finish-narrow_linear.result (c.finish-narrow_linear.ensures p NL stamps (windows NL)) c.finish-6.ensures.troff,
        kind-is W m n groups s stamps records w.linear_at (slice_index_or named 2 None) c.finish-7.result w.all (s.models.wide_whole ∙ whole_groups)
            w.wide first.wide c.finish-7.ensures.numbers c.finish-wide.result (c.finish-wide.ensures p W stamps (windows W)) c.finish-7.ensures.troff,
      );
      first = numbers.first_is;
      last = numbers.last_is;
      target = c.target_of.ensures;
      step = numbers.step;
      offset = numbers.offset;
      latency = numbers.latency;
      gap = subst (λ count. MatchOption c.finish-8.result (count ≤ 1) (AreGapsOf stamp count)) (s.gaps_are ∙ h.seen)
          (c.finish-8.ensures stamp (h.gaps_are stamp (λ i few. refl)));
    }
