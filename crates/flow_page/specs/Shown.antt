-- The values of a judged run for each sender type, as the page shows them. Units and meanings are those of the fields
-- of `TypeShown`.
use Rattle.std.specs.Prelude.{ℕ, zero, suc, ◌+◌, List, [], ◌∷◌}
use Rattle.timing_base.specs.Verdicts.{Judged}
use Rattle.timing_base.specs.declared.media.Kind.{Kind}
use Rattle.timing_base.specs.declared.media.Kind.TheVariants.{N, NL, W}
use Rattle.timing_report.specs.Outcomes.{buffer_peak, verdict_on}
use Rattle.flow_measure.specs.Told.{micros_of}
use Rattle.flow_measure.specs.declared.margin.Margins.{Margins}
use Rattle.flow_measure.specs.declared.numbers.KindNumbers.{KindNumbers}
use Rattle.flow_measure.specs.declared.numbers.RunNumbers.{RunNumbers}
use Rattle.flow_page.specs.declared.shown.TypeShown.{TypeShown}

-- the margins by the reads of a type: those of N are gapped, those of NL and W linear
abbrev pub margins_of : RunNumbers → Kind → Margins
margins_of numbers N = numbers.gapped.margins
margins_of numbers NL = numbers.linear.margins
margins_of numbers W = numbers.linear.margins

-- the values for one type
abbrev pub type_shown : Judged → RunNumbers → Kind → KindNumbers → TypeShown
type_shown judged numbers kind k = record {
  kind = kind;
  verdict = verdict_on judged kind;
  bucket_peak = judged.bucket_peak;
  c_max = k.bucket.limit;
  buffer_peak = buffer_peak judged kind;
  vrx_full = k.buffer.limit;
  groups = judged.frames;
  groups_broken = k.groups_broken;
  above_bucket = k.bucket.above;
  above_buffer = k.buffer.above;
  below_buffer = k.buffer.below;
  late = (margins_of numbers kind).late;
  slack = (margins_of numbers kind).slack;
  first_bucket = k.first_bucket;
  first_over = k.first_over;
  first_empty = k.first_empty;
  named = k.named;
  least = micros_of k.troff.lower;
  greatest = micros_of k.troff.upper;
  offset = numbers.target;
}

-- the type at this place of N, NL and W, from 0
abbrev pub kind_at : ℕ → Kind
kind_at zero = N
kind_at (suc zero) = NL
kind_at (suc (suc place)) = W

-- the values for the types from a place on
abbrev pub types_from : Judged → RunNumbers → (place : ℕ) → List KindNumbers → List TypeShown
types_from judged numbers place [] = []
types_from judged numbers place (k ∷ ks) =
    type_shown judged numbers (kind_at place) k ∷ types_from judged numbers (place + 1) ks

-- the values for N, NL and W
abbrev pub types_shown : Judged → RunNumbers → List TypeShown
types_shown judged numbers = types_from judged numbers 0 numbers.kinds
