-- The lines of a run with one frame or field more: those before, and that of the stretch which is then complete.
use Rattle.std.proofs.Common.{◌≡◌, ◌<◌, ◌≤◌, ◌-◌, ◌+◌, ◌*◌, ◌/◌, ◌%◌, ◌++◌, ℕ, zero, suc, Bool, true, false, List, [], length, inl, inr}
use Rattle.std.proofs.Common.{◌∙◌, ap, sym, subst, refl, arith, append-nil}
use Rattle.std.specs.Prelude.{◌==◌}
use Rattle.std.proofs.lemmas.Bool.{cases_lt, eqb-true}
use Rattle.std.proofs.lemmas.Nat.{div-add-mod', mod_below}
use Rattle.timing_base.specs.Media.{IsMedia, Media}
use Rattle.timing_base.specs.Shifts.{Shift}
use Rattle.timing_base.specs.declared.packet.FlowPacket.{FlowPacket}
use Rattle.run_meter.specs.Runs.{stamps_of}
use Rattle.flow_measure.proofs.Breaks.{end-of-group, within-group}
use Rattle.flow_watch.specs.Watched.{AreLines, HasLine, RunPart, groups_in, left_of}
use Rattle.flow_watch.specs.declared.form.LineForm.{LineForm}
use Rattle.flow_watch.proofs.Adding.{lines-longer, longer}
use Rattle.flow_watch.proofs.Unique.{complete, lines-once, within}

-- the line of the stretch that ends with the last frame or field of a run, if it is complete
abbrev pub IsLineIf : LineForm → (every : ℕ) → Media → Shift → RunPart → (is : Bool) → List ℕ → Type 0
IsLineIf form every m shift part true line = HasLine form m shift part (groups_in part - every) (groups_in part) line
IsLineIf form every m shift part false line = line ≡ []

module _ (form : LineForm) (every : ℕ) (m : Media) (shift : Shift) (part : RunPart) (more : List FlowPacket) (here there : List ℕ) (is : IsMedia m)
    (some : 1 ≤ part.n) (each : 1 ≤ every) (next : groups_in (longer part more) ≡ groups_in part + 1)
    (before : AreLines form every m shift part (groups_in part / every) here)
    (after : AreLines form every m shift (longer part more) (groups_in (longer part more) / every) there)
  where
    -- what the frame or field adds
    abbrev AddsLine : Bool → Type 0
    AddsLine full = (line : List ℕ) × (there ≡ here ++ line) × IsLineIf form every m shift (longer part more) full line

    -- the lines before are also those of the longer run
    kept : AreLines form every m shift (longer part more) (groups_in part / every) here
    kept =
        let fits : groups_in part / every * every * part.n ≤ length (stamps_of shift part.packets) =
        within shift part (groups_in part / every * every) (complete every part) in
        lines-longer form every m shift part more (groups_in part / every) here is some each fits before

    fewer : groups_in part / every * every ≤ groups_in (longer part more)
    fewer =
        let whole = complete every part in
        omega (arith, whole, next)

    -- the stretch isn't complete
    goes-on : groups_in part % every + 1 < every → AddsLine false
    goes-on less =
        let g = groups_in part in
        let same : groups_in (longer part more) / every ≡ g / every = ap (λ k. k / every) next ∙ (within-group g every 1 less).0 in
        let last = subst (λ k. AreLines form every m shift (longer part more) k there) same after in (
          [],
          lines-once form every m shift (longer part more) (g / every) there here fewer last kept ∙ sym (append-nil here),
          refl,
        )

    -- it is
    is-full : groups_in part % every + 1 ≡ every → AddsLine true
    is-full full =
        let g = groups_in part in
        let over = end-of-group g every 1 (omega arith) full in
        let whole = div-add-mod' g every in
        let count : groups_in (longer part more) / every ≡ suc (g / every) =
        let one : (g + 1) / every ≡ suc (g / every) = omega (arith, over.0) in ap (λ k. k / every) next ∙ one in
        let all : AreLines form every m shift (longer part more) (suc (g / every)) there =
        subst (λ k. AreLines form every m shift (longer part more) k there) count after in
        let front = lines-once form every m shift (longer part more) (g / every) all.0 here fewer all.3 kept in
        let begin : g / every * every ≡ groups_in (longer part more) - every = omega (arith, whole, full, next) in
        let end : g / every * every + every ≡ groups_in (longer part more) = omega (arith, whole, full, next) in (
          all.1,
          all.2 ∙ ap (λ l. l ++ all.1) front,
          subst (λ to. HasLine form m shift (longer part more) (groups_in (longer part more) - every) to all.1) end
              (subst (λ from. HasLine form m shift (longer part more) from (g / every * every + every) all.1) begin all.4),
        )

    -- by what is left then
    left-goes-on : groups_in part % every + 1 < every → left_of every (longer part more) ≡ groups_in part % every + 1
    left-goes-on less = ap (λ k. k % every) next ∙ (within-group (groups_in part) every 1 less).1

    left-full : groups_in part % every + 1 ≡ every → left_of every (longer part more) ≡ 0
    left-full full = ap (λ k. k % every) next ∙ (end-of-group (groups_in part) every 1 (omega arith) full).1

    by-left : (full : Bool) → (left_of every (longer part more) == 0) ≡ full → AddsLine full
    by-left true e =
        let below = mod_below (groups_in part) every each in
        elim (cases_lt (groups_in part % every + 1) every) as (λ _. AddsLine true) [
          | inl less ↦
              let none : left_of every (longer part more) ≡ 0 = eqb-true (left_of every (longer part more)) 0 e in
              absurd (omega (arith, none, left-goes-on less))
          | inr high ↦ is-full (omega (arith, below, high))
        ]
    by-left false e =
        let below = mod_below (groups_in part) every each in
        elim (cases_lt (groups_in part % every + 1) every) as (λ _. AddsLine false) [
          | inl less ↦ goes-on less
          | inr high ↦ absurd (not-zero (left_of every (longer part more)) (left-full (omega (arith, below, high))) e)
        ]
      where
        not-zero : (k : ℕ) → k ≡ 0 → (k == 0) ≡ false → ⊥
        not-zero zero none h = cc
        not-zero (suc k) none h = absurd (omega (arith, none))

    pub one-more : AddsLine (left_of every (longer part more) == 0)
    one-more = by-left (left_of every (longer part more) == 0) refl
