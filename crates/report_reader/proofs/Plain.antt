-- The report that is worked by hand is one of those that the laws are about.
use Rattle.std.proofs.Common.{◌≡◌, ℕ, ◌≤◌, [], ◌∷◌, refl, arith, true, None}
use Rattle.std.specs.Prelude.{All, codes}
use Rattle.std.specs.Option.{ForSome}
use Rattle.std.proofs.lemmas.List.Elements.{All-cons}
use Rattle.timing_base.specs.Examples.{plain_media}
use Rattle.timing_base.specs.Media.{IsMedia}
use Rattle.timing_base.specs.Name.{is_file_name}
use Rattle.timing_base.specs.declared.capture.FileNote.TheVariants as note
use Rattle.timing_base.specs.declared.row.Verdict.TheVariants as verdict
use Rattle.timing_report.specs.Worked.{check_of, first_flow, narrow}
use Rattle.timing_report.specs.json_report.Fails.{FitsJudged}
use Rattle.report_reader.specs.Reported.{AreReported, FitsMedia, FitsNote, FitsRow}

none_fits : (P : ℕ → Type 0) → ForSome None P
none_fits P x e = cc

one : {X : Type 0} (P : X → Type 0) (x : X) → P x → All P (x ∷ [])
one P x h = All-cons P x [] h (λ k d lt. absurd (omega arith))

plain_is : IsMedia plain_media
plain_is = record {
  port_some = omega arith;
  pt_most = omega arith;
  width_some = omega arith;
  width_most = omega arith;
  height_some = omega arith;
  height_most = omega arith;
  p_some = omega arith;
  p_most = omega arith;
  q_some = omega arith;
  q_most = omega arith;
  troff_most = none_fits (λ x. x ≤ 1000000);
  cmax_some = none_fits (λ x. 1 ≤ x);
  cmax_most = none_fits (λ x. x ≤ 65535);
}

narrow_fits : FitsJudged narrow
narrow_fits = record {
  is = record { n_some = omega arith; n_most = omega arith; three = refl };
  frames = omega arith;
  packets = omega arith;
  head = omega arith;
  tail = omega arith;
  bucket_peak = omega arith;
  gapped_peak = omega arith;
  linear_peak = omega arith;
  n = tt;
  nl = tt;
  w = tt;
}

pub plain_reported : AreReported (check_of (codes "a.pcap")) (plain_media ∷ []) (note.End ∷ []) (first_flow (verdict.Judged narrow) ∷ [])
plain_reported = record {
  is_job = record {
    captures_are = record { some = omega arith; few = omega arith };
    workers_few = omega arith;
    options_are = record { tai_most = omega arith; delay_most = omega arith };
    media_few = tt;
  };
  names = one (λ name. is_file_name name ≡ true) (codes "a.pcap") refl;
  is_session = record { some = omega arith; few = omega arith };
  media = one FitsMedia plain_media record { is = plain_is; address = omega arith; port = omega arith };
  endings = one FitsNote note.End tt;
  flows = refl;
  results = one FitsRow (first_flow (verdict.Judged narrow)) record { verdict = narrow_fits; refusal = tt };
}
