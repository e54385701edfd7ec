-- The verdict on a judged run, as in the report. Units and meanings are those of the fields of `Judged`.
use Rattle.std.specs.Prelude.{◌≡◌, ◌≤◌, ℕ, List, length}
use Rattle.timing_base.specs.declared.row.KindVerdict.{KindVerdict}

-- the verdict on a judged run
pub record Judged : Type 0 where
  pub n : ℕ
  pub frames : ℕ
  pub packets : ℕ
  pub head : ℕ
  pub tail : ℕ
  pub bucket_peak : ℕ
  pub gapped_peak : ℕ
  pub linear_peak : ℕ
  -- the verdicts on the types N, NL and W
  pub kinds : List KindVerdict

-- a frame or field has 1 to 262,144 packets, and each of the three types has a verdict
pub record IsJudged (judged : Judged) : Type 0 where
  pub n_some : 1 ≤ judged.n
  pub n_most : judged.n ≤ 262144
  pub three : length judged.kinds ≡ 3
