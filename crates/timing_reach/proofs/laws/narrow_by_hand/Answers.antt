use Rattle.std.proofs.Common.{refl, ◌∙◌, ap, ◌≡◌, None, ◌++◌}
use Rattle.std.specs.Prelude.{codes}
use Rattle.timing_base.specs.declared.media.Kind.TheVariants.{N, NL, W}
use Rattle.offset_window.specs.Worked.{each_after}
use Rattle.offset_window.specs.declared.window.WindowEnd.TheVariants.{At}
use Rattle.offset_window.proofs.ByHand.{lower-at, upper-at, upper-last}
use Rattle.sender_params.specs.Worked.{hd_50}
use Rattle.timing_report.proofs.Numerals.{numerals}
use Rattle.timing_report.specs.declared.status.Status.TheVariants as status
use Rattle.timing_reach.specs.Windows.{AreWindowsOf, HasLines, windows_text}
use Rattle.timing_reach.specs.Worked.{bound_at, from_to, narrow_frame}
use Rattle.timing_reach.specs.declared.window.windows.Windows.{Windows}
use Rattle.timing_reach.proofs.Unique.{lines-once}
use Rattle.timing_reach.proofs.laws.narrow_by_hand.Goals as goal

windows : Windows
windows = record {
  narrow = from_to (bound_at 0 764) (bound_at 8 8444);
  narrow_linear = from_to (bound_at 0 764) (bound_at 19 8004);
  wide = from_to (bound_at 0 764) (At 1000000 None);
}

are : AreWindowsOf hd_50 20 (each_after 960000 20) windows
unfolding windows
are = record {
  narrow = record {
    lower = lower-at hd_50 20 (each_after 960000 20) N 764 0 refl refl refl refl refl refl;
    upper = upper-at 20 (each_after 960000 20) N 8444 8 refl refl refl refl refl refl;
  };
  narrow_linear = record {
    lower = lower-at hd_50 20 (each_after 960000 20) NL 764 0 refl refl refl refl refl refl;
    upper = upper-at 20 (each_after 960000 20) NL 8004 19 refl refl refl refl refl refl;
  };
  wide = record {
    lower = lower-at hd_50 20 (each_after 960000 20) W 764 0 refl refl refl refl refl refl;
    upper = upper-last hd_50 20 (each_after 960000 20) W refl;
  };
}

has : HasLines hd_50 narrow_frame (record { text = windows_text windows; status = status.Pass })
has = record { windows = windows; are = are; answer_is = refl }

lines : windows_text windows
    ≡ codes "N lower 764 at packet 0, upper 8444 at packet 8\n" ++ (codes "NL lower 764 at packet 0, upper 8004 at packet 19\n"
    ++ codes "W lower 764 at packet 0, upper 1000000\n")
unfolding windows numerals
lines = refl

pub returns : goal.returns
returns c = λ answer h.
    lines-once hd_50 narrow_frame answer (record { text = windows_text windows; status = status.Pass }) h has
    ∙ ap (λ text. record { text = text; status = status.Pass }) lines
