-- The offsets of a run, one packet on.
use Rattle.std.proofs.Common.{◌≡◌, ◌<◌, ◌+◌, ◌++◌, ◌∷◌, [], ℕ, ℤ, List, length, refl, ap, ◌∙◌, sym, subst, arith, length-append}
use Rattle.timing_base.specs.declared.media.Kind.{Kind}
use Rattle.timing_base.specs.declared.media.Kind.TheVariants.{N, NL, W}
use Rattle.sender_params.specs.Limits.{gapped_of, vrx_full_of}
use Rattle.sender_params.specs.Reads.{anchor_of}
use Rattle.sender_params.specs.declared.params.Params.{Params}
use Rattle.read_schedule.specs.Parts.{IsGridWithout}
use Rattle.offset_window.specs.Stands.{StandsFor}
use Rattle.offset_window.specs.Window.{IsLowerEnd, IsUpperEnd, is_empty_with, is_over_with}
use Rattle.offset_window.specs.declared.meter.WindowMeter.{WindowMeter}
use Rattle.flow_measure.specs.Offsets.{MeasuresWindows, window_in}
use Rattle.flow_measure.specs.Run.{anchor_in}
use Rattle.flow_measure.specs.declared.windows.WindowMeters.{WindowMeters}
use Rattle.flow_measure.proofs.Fronts.{front-is}

-- what holds for each of the three types holds for all
pub by-kind : (P : Kind → Type 0) → P N → P NL → P W → (kind : Kind) → P kind
by-kind P narrow linear wide N = narrow
by-kind P narrow linear wide NL = linear
by-kind P narrow linear wide W = wide

-- a meter stands for the same with all parameters of one video
stands-as : (p q : Params) (kind : Kind) (anchor : ℤ) (x : WindowMeter) (stamps : List ℕ) → p.media ≡ q.media → p.n ≡ q.n
    → StandsFor p kind anchor x stamps → StandsFor q kind anchor x stamps
stands-as p q kind anchor x stamps media n h = record {
  kind_is = h.kind_is;
  seen = h.seen;
  grid = subst (λ k. IsGridWithout q.media k anchor (gapped_of kind) x.grid) n
      (subst (λ m. IsGridWithout m p.n anchor (gapped_of kind) x.grid) media h.grid);
  back = λ early. h.back early ∙ ap (λ m. vrx_full_of m p.n kind) media ∙ ap (λ k. vrx_full_of q.media k kind) n;
  lower = subst (λ k. IsLowerEnd (is_empty_with q.media k anchor stamps kind) (length stamps) x.lower) n
      (subst (λ m. IsLowerEnd (is_empty_with m p.n anchor stamps kind) (length stamps) x.lower) media h.lower);
  upper = subst (λ k. IsUpperEnd (is_over_with q.media k anchor stamps kind) (length stamps) x.upper) n
      (subst (λ m. IsUpperEnd (is_over_with m p.n anchor stamps kind) (length stamps) x.upper) media h.upper);
}

-- the first packet
pub first-fed : (p : Params) (at : ℕ) (stamps : List ℕ) (x : WindowMeters) → length stamps ≡ 0 → x.narrow.seen ≡ 1
    → ((kind : Kind) → StandsFor p kind (anchor_of p.media at) (window_in kind x) (at ∷ []))
    → MeasuresWindows p.media p.n x (stamps ++ at ∷ [])
first-fed p at [] x none seen h = record {
  seen = seen;
  fed = λ some q media n kind. stands-as p q kind (anchor_of p.media at) (window_in kind x) (at ∷ []) (sym media) (sym n) (h kind);
}
first-fed p at (s ∷ stamps) x none seen h = absurd (omega (arith, none))

-- a later packet
pub later-fed : (p : Params) (at : ℕ) (stamps : List ℕ) (old new : WindowMeters) → 0 < length stamps
    → new.narrow.seen ≡ old.narrow.seen + 1
    → MeasuresWindows p.media p.n old stamps
    → ((kind : Kind) (anchor : ℤ) (stamps : List ℕ) → StandsFor p kind anchor (window_in kind old) stamps
    → StandsFor p kind anchor (window_in kind new) (stamps ++ at ∷ []))
    → MeasuresWindows p.media p.n new (stamps ++ at ∷ [])
later-fed p at stamps old new some seen h put =
    let after = stamps ++ at ∷ [] in
    let long : length after ≡ length stamps + 1 = length-append stamps (at ∷ []) in
    let anchor : anchor_in p.media stamps ≡ anchor_in p.media after = ap (anchor_of p.media) (sym (front-is stamps at 0 some)) in
    record {
      seen = omega (arith, seen, h.seen, long);
      fed = λ more q media n kind. stands-as p q kind (anchor_in p.media after) (window_in kind new) after (sym media) (sym n)
          (subst (λ a. StandsFor p kind a (window_in kind new) after) anchor
          (put kind (anchor_in p.media stamps) stamps (h.fed some p refl refl kind)));
    }
