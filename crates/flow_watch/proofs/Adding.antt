-- The lines of a run with one frame or field more, and with more packets.
use Rattle.std.proofs.Common.{◌≡◌, ◌<◌, ◌≤◌, ◌-◌, ◌+◌, ◌*◌, ◌/◌, ◌%◌, ◌^◌, ◌++◌, ◌∷◌, ℕ, zero, suc, List, [], length, Option, Some, None, inl, inr}
use Rattle.std.proofs.Common.{◌∙◌, ap, sym, subst, refl, arith, append-nil}
use Rattle.std.specs.Prelude.{string_bytes}
use Rattle.std.proofs.Math.Nat.{mul-le-mul_right, suc-mul}
use Rattle.std.proofs.lemmas.Bool.{cases_lt}
use Rattle.std.proofs.lemmas.List.{map-append}
use Rattle.std.proofs.lemmas.Nat.{div-add-mod', mod_below}
use Rattle.timing_base.specs.Judged.{stamp_of}
use Rattle.timing_base.specs.Media.{IsMedia, Media}
use Rattle.timing_base.specs.Shifts.{Shift}
use Rattle.timing_base.specs.declared.packet.FlowPacket.{FlowPacket}
use Rattle.run_meter.specs.Runs.{stamps_of}
use Rattle.flow_measure.proofs.Breaks.{end-of-group, within-group}
use Rattle.flow_watch.specs.Lines.{stretch_line}
use Rattle.flow_watch.specs.Stretches.{IsStretch}
use Rattle.flow_watch.specs.Watched.{AreLines, HasLine, IsLeft, IsStretchOf, RunPart, groups_in}
use Rattle.flow_watch.specs.making.Lines.{Adds, AddsEach, GoesOnWith}
use Rattle.flow_watch.specs.making.Stretches.{groups_of}
use Rattle.flow_watch.specs.declared.form.LineForm.{LineForm}
use Rattle.flow_watch.specs.declared.lines.WatchLines.{WatchLines}
use Rattle.flow_watch.specs.declared.stretch.Stretch.{Stretch}
use Rattle.flow_watch.proofs.Joining.{stretch-joined}
use Rattle.flow_watch.proofs.Keeping.{stretch-after}

-- what is left of the first g frames or fields of a run
abbrev pub IsLeftAt : (every : ℕ) → Media → Shift → RunPart → (g : ℕ) → Option Stretch → Type 0
IsLeftAt every m shift part g None = g % every ≡ 0
IsLeftAt every m shift part g (Some s) = (0 < g % every) × IsStretchOf m shift part (g - g % every) g s

-- the lines of the first g frames or fields of a run, and what is left of them
pub record AreLinesUpTo (form : LineForm) (every : ℕ) (m : Media) (shift : Shift) (part : RunPart) (g : ℕ) (text : List ℕ) (left : Option Stretch) : Type 0
  where
    pub lines : AreLines form every m shift part (g / every) text
    pub left_is : IsLeftAt every m shift part g left

-- of all frames or fields of a run
pub left-of-all : (every : ℕ) (m : Media) (shift : Shift) (part : RunPart) (left : Option Stretch) → IsLeftAt every m shift part (groups_in part) left
    → IsLeft every m shift part left
left-of-all every m shift part None h = h
left-of-all every m shift part (Some s) h = h

pub all-of-left : (every : ℕ) (m : Media) (shift : Shift) (part : RunPart) (left : Option Stretch) → IsLeft every m shift part left
    → IsLeftAt every m shift part (groups_in part) left
all-of-left every m shift part None h = h
all-of-left every m shift part (Some s) h = h

-- ---- one frame or field more

-- its stretch, with what was left before it
next-stretch : (every : ℕ) (m : Media) (shift : Shift) (part : RunPart) (g : ℕ) (left : Option Stretch) (group next : Stretch)
    → (g + 1) * part.n ≤ length (stamps_of shift part.packets) → length (stamps_of shift part.packets) ≤ 2 ^ 41
    → IsLeftAt every m shift part g left → IsStretchOf m shift part g (g + 1) group → GoesOnWith left group next
    → IsStretchOf m shift part (g - g % every) (g + 1) next
next-stretch every m shift part g None group next within few h is same =
    let begin : g - g % every ≡ g = omega (arith, h) in
    subst (λ from. IsStretchOf m shift part from (g + 1) next) (sym begin) (subst (IsStretchOf m shift part g (g + 1)) (sym same) is)
next-stretch every m shift part g (Some s) group next within few h is both =
    stretch-joined m part.number part.n (stamps_of shift part.packets) (g - g % every) g (g + 1) s group next (omega arith) (omega arith) within few h.1 is both

-- how many frames or fields that has
next-count : (every : ℕ) (m : Media) (shift : Shift) (part : RunPart) (g : ℕ) (next : Stretch) → g < 2 ^ 41
    → IsStretchOf m shift part (g - g % every) (g + 1) next → groups_of next ≡ g % every + 1
next-count every m shift part g next low is =
    let whole = div-add-mod' g every in
    omega (arith, whole, low, is.from_is, is.to_is)

-- it is the last one of a stretch, or not
module _ (form : LineForm) (every : ℕ) (m : Media) (shift : Shift) (part : RunPart) (g : ℕ) (text : List ℕ) (old new : WatchLines) (group : Stretch)
    (some : 1 ≤ every) (within : (g + 1) * part.n ≤ length (stamps_of shift part.packets)) (few : length (stamps_of shift part.packets) ≤ 2 ^ 41)
    (low : g < 2 ^ 41) (form_is : old.form ≡ form) (every_is : old.every ≡ every) (is : IsStretchOf m shift part g (g + 1) group) (adds : Adds group old new)
    (h : AreLinesUpTo form every m shift part g text old.open)
  where
    -- the lines that it adds
    abbrev AddsMore : Type 0
    AddsMore = (more : List ℕ) × (string_bytes new.text ≡ string_bytes old.text ++ more) × AreLinesUpTo form every m shift part (g + 1) (text ++ more) new.open

    next-is : IsStretchOf m shift part (g - g % every) (g + 1) adds.stretch
    next-is = next-stretch every m shift part g old.open group adds.stretch within few h.left_is is adds.goes_on

    count-is : groups_of adds.stretch ≡ g % every + 1
    count-is = next-count every m shift part g adds.stretch low next-is

    goes-on : g % every + 1 < every → AddsMore
    goes-on less =
        let stays = adds.stays (omega (arith, less, count-is, every_is)) in
        let same = within-group g every 1 less in
        let begin : (g + 1) - (g + 1) % every ≡ g - g % every = omega (arith, same.1) in
        let left : IsLeftAt every m shift part (g + 1) (Some adds.stretch) =
        (omega (arith, same.1), subst (λ from. IsStretchOf m shift part from (g + 1) adds.stretch) (sym begin) next-is)
        in (
          [],
          stays.1 ∙ sym (append-nil (string_bytes old.text)),
          record {
            lines = subst (AreLines form every m shift part ((g + 1) / every)) (sym (append-nil text))
                (subst (λ k. AreLines form every m shift part k text) (sym same.0) h.lines);
            left_is = subst (IsLeftAt every m shift part (g + 1)) (sym stays.0) left;
          },
        )

    ends-here : g % every + 1 ≡ every → AddsMore
    ends-here full =
        let ends = adds.ends (omega (arith, full, count-is, every_is)) in
        let over = end-of-group g every 1 (omega arith) full in
        let whole = div-add-mod' g every in
        let begin : g - g % every ≡ g / every * every = omega (arith, whole) in
        let end : g + 1 ≡ g / every * every + every = omega (arith, whole, full) in
        let line = stretch_line form adds.stretch in
        let here : HasLine form m shift part (g / every * every) (g / every * every + every) line = record {
          stretch = adds.stretch;
          is = subst (λ to. IsStretchOf m shift part (g / every * every) to adds.stretch) end
              (subst (λ from. IsStretchOf m shift part from (g + 1) adds.stretch) begin next-is);
          text_is = refl;
        } in
        let all : AreLines form every m shift part (suc (g / every)) (text ++ line) = (text, line, refl, h.lines, here) in
        let count : (g + 1) / every ≡ suc (g / every) = omega (arith, over.0) in (
          line,
          ends.1 ∙ ap (λ f. string_bytes old.text ++ stretch_line f adds.stretch) form_is,
          record {
            lines = subst (λ k. AreLines form every m shift part k (text ++ line)) (sym count) all;
            left_is = subst (IsLeftAt every m shift part (g + 1)) (sym ends.0) over.1;
          },
        )

    pub group-added : AddsMore
    group-added =
        let below = mod_below g every some in
        elim (cases_lt (g % every + 1) every) as (λ _. AddsMore) [
          | inl less ↦ goes-on less
          | inr full ↦ ends-here (omega (arith, below, full))
        ]

-- one frame or field more
pub each-more : (groups : List Stretch) (group : Stretch) (old between new : WatchLines) → AddsEach groups old between → Adds group between new
    → AddsEach (groups ++ group ∷ []) old new
each-more [] group old between new same adds = (new, subst (λ (x : WatchLines). Adds group x new) same adds, refl)
each-more (one ∷ groups) group old between new h adds = (h.0, h.1, each-more groups group h.0 between new h.2 adds)

-- ---- more packets

-- a run with more packets
abbrev pub longer : RunPart → List FlowPacket → RunPart
longer part more = record { number = part.number; n = part.n; packets = part.packets ++ more }

-- a stretch of its first packets is the same
stretch-longer : (m : Media) (shift : Shift) (part : RunPart) (more : List FlowPacket) (from to : ℕ) (s : Stretch) → IsMedia m → 1 ≤ part.n → from < to
    → to * part.n ≤ length (stamps_of shift part.packets) → IsStretchOf m shift part from to s → IsStretchOf m shift (longer part more) from to s
stretch-longer m shift part more from to s is some order within h =
    let more_stamps = map-append (stamp_of shift) part.packets more in
    subst (λ l. IsStretch m part.number part.n l from to s) (sym more_stamps)
    (stretch-after m part.number part.n (stamps_of shift part.packets) (stamps_of shift more) from to s is some order within h)

pub lines-longer : (form : LineForm) (every : ℕ) (m : Media) (shift : Shift) (part : RunPart) (more : List FlowPacket) (count : ℕ) (text : List ℕ)
    → IsMedia m → 1 ≤ part.n → 1 ≤ every → count * every * part.n ≤ length (stamps_of shift part.packets) → AreLines form every m shift part count text
    → AreLines form every m shift (longer part more) count text
lines-longer form every m shift part more zero text is some each within h = h
lines-longer form every m shift part more (suc k) text is some each within h =
    let next = suc-mul k every in
    let end : (k * every + every) * part.n ≤ length (stamps_of shift part.packets) =
    subst (λ g. g * part.n ≤ length (stamps_of shift part.packets)) next within in
    let front : k * every * part.n ≤ (k * every + every) * part.n = mul-le-mul_right part.n (omega arith) in
    let line = h.4 in (
      h.0,
      h.1,
      h.2,
      lines-longer form every m shift part more k h.0 is some each (omega (arith, front, end)) h.3,
      record {
        stretch = line.stretch;
        is = stretch-longer m shift part more (k * every) (k * every + every) line.stretch is some (omega (arith, each)) end line.is;
        text_is = line.text_is;
      },
    )

pub left-longer : (every : ℕ) (m : Media) (shift : Shift) (part : RunPart) (more : List FlowPacket) (g : ℕ) (left : Option Stretch) → IsMedia m → 1 ≤ part.n
    → g * part.n ≤ length (stamps_of shift part.packets) → IsLeftAt every m shift part g left → IsLeftAt every m shift (longer part more) g left
left-longer every m shift part more g None is some within h = h
left-longer every m shift part more g (Some s) is some within h =
    let whole = div-add-mod' g every in
    (h.0, stretch-longer m shift part more (g - g % every) g s is some (omega (arith, h.0, whole)) within h.1)

pub up-to-longer : (form : LineForm) (every : ℕ) (m : Media) (shift : Shift) (part : RunPart) (more : List FlowPacket) (g : ℕ) (text : List ℕ)
    (left : Option Stretch)
    → IsMedia m → 1 ≤ part.n → 1 ≤ every → g * part.n ≤ length (stamps_of shift part.packets) → AreLinesUpTo form every m shift part g text left
    → AreLinesUpTo form every m shift (longer part more) g text left
up-to-longer form every m shift part more g text left is some each within h =
    let whole = div-add-mod' g every in
    let front : g / every * every * part.n ≤ g * part.n = mul-le-mul_right part.n (omega (arith, whole)) in
    record {
      lines = lines-longer form every m shift part more (g / every) text is some each (omega (arith, front, within)) h.lines;
      left_is = left-longer every m shift part more g left is some within h.left_is;
    }
