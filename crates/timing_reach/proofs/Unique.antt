-- Each flow has one answer of `window`, and not two; each verdict has one answer, if its run has.
use Rattle.std.proofs.Common.{◌≡◌, ℕ, List, refl, ap, ◌∙◌, sym}
use Rattle.timing_base.specs.Judged.{FlowVerdict, JudgedRun, absent, gap, in_one_run, in_runs, no_whole_frame, refused, whole_frames}
use Rattle.timing_base.specs.Media.{Media}
use Rattle.timing_base.specs.declared.media.Kind.TheVariants.{N, NL, W}
use Rattle.fail_interval.specs.Row.{verdict_of}
use Rattle.offset_window.proofs.Unique.{window-once, window-some}
use Rattle.offset_window.specs.declared.window.Window.{Window}
use Rattle.timing_report.specs.declared.status.Status.TheVariants as status
use Rattle.timing_steps.specs.Answers.{Answer}
use Rattle.timing_steps.specs.Flows.{not_judged}
use Rattle.timing_reach.specs.Asked.{OnRun}
use Rattle.timing_reach.specs.Windows.{AreWindowsOf, HasLines, windows_text}
use Rattle.timing_reach.specs.declared.window.windows.Windows.{Windows}
use Rattle.timing_reach.proofs.RunSizes.{HasSize, RunHasSize}

-- of a run
pub some-lines : (m : Media) (run : JudgedRun) → (answer : Answer) × HasLines m run answer
some-lines m run =
    let narrow = window-some m run.n run.stamps N in
    let linear = window-some m run.n run.stamps NL in
    let wide = window-some m run.n run.stamps W in
    let windows : Windows = record { narrow = narrow.0; narrow_linear = linear.0; wide = wide.0 } in
    let answer : Answer = record { text = windows_text windows; status = status.Pass } in
    (answer, record { windows = windows; are = record { narrow = narrow.1; narrow_linear = linear.1; wide = wide.1 }; answer_is = refl })

pub windows-once : (m : Media) (n : ℕ) (stamps : List ℕ) (a b : Windows) → AreWindowsOf m n stamps a → AreWindowsOf m n stamps b → a ≡ b
windows-once m n stamps a b h k =
    let with_narrow : Window → Windows = λ w. record { narrow = w; narrow_linear = a.narrow_linear; wide = a.wide } in
    let with_linear : Window → Windows = λ w. record { narrow = b.narrow; narrow_linear = w; wide = a.wide } in
    let with_wide : Window → Windows = λ w. record { narrow = b.narrow; narrow_linear = b.narrow_linear; wide = w } in
    ap with_narrow (window-once m n stamps N a.narrow b.narrow h.narrow k.narrow)
    ∙ ap with_linear (window-once m n stamps NL a.narrow_linear b.narrow_linear h.narrow_linear k.narrow_linear)
    ∙ ap with_wide (window-once m n stamps W a.wide b.wide h.wide k.wide)

pub lines-once : (m : Media) (run : JudgedRun) (a b : Answer) → HasLines m run a → HasLines m run b → a ≡ b
lines-once m run a b h k =
    h.answer_is ∙ ap (λ (w : Windows). record { text = windows_text w; status = status.Pass }) (windows-once m run.n run.stamps h.windows k.windows h.are k.are)
    ∙ sym k.answer_is

-- of a verdict
pub some-on : (m : Media) (next : JudgedRun → Answer → Type 0) (v : FlowVerdict) → RunHasSize v
    → ((run : JudgedRun) → HasSize run → (answer : Answer) × next run answer) → (answer : Answer) × OnRun m next v answer
some-on m next absent size some = (not_judged m (verdict_of m absent), refl)
some-on m next (refused rec fault) size some = (not_judged m (verdict_of m (refused rec fault)), refl)
some-on m next (gap rec expected got) size some = (not_judged m (verdict_of m (gap rec expected got)), refl)
some-on m next (in_one_run (no_whole_frame head)) size some = (not_judged m (verdict_of m (in_one_run (no_whole_frame head))), refl)
some-on m next (in_one_run (whole_frames run)) size some = some run size
some-on m next (in_runs runs) size some = (not_judged m (verdict_of m (in_runs runs)), refl)

pub once-on : (m : Media) (next : JudgedRun → Answer → Type 0) (v : FlowVerdict) (a b : Answer) → ((run : JudgedRun) → next run a → next run b → a ≡ b)
    → OnRun m next v a → OnRun m next v b → a ≡ b
once-on m next absent a b once h k = h ∙ sym k
once-on m next (refused rec fault) a b once h k = h ∙ sym k
once-on m next (gap rec expected got) a b once h k = h ∙ sym k
once-on m next (in_one_run (no_whole_frame head)) a b once h k = h ∙ sym k
once-on m next (in_one_run (whole_frames run)) a b once h k = once run h k
once-on m next (in_runs runs) a b once h k = h ∙ sym k
