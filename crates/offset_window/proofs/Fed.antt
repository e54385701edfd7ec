-- A meter stands for one packet more after it is fed.
use Rattle.std.proofs.Common.{◌≡◌, ◌≤◌, ◌<◌, ◌+◌, ◌-◌, ℕ, ℤ, Bool, nat_lt, List, [], ◌∷◌, ◌++◌, length, slice_index, sym, ap, subst, ◌∙◌, arith, inl, inr}
use Rattle.std.proofs.Common.{length-append}
use Rattle.std.proofs.Math.Seq.{get_or-append_seam}
use Rattle.std.proofs.lemmas.List.{get_or_append_left}
use Rattle.std.proofs.lemmas.Bool.{cases_lt}
use Rattle.fraction128.specs.Fractions.{below, whole}
use Rattle.timing_base.specs.Media.{IsMedia, Media}
use Rattle.timing_base.specs.declared.media.Kind.{Kind}
use Rattle.sender_params.specs.Keeps.{due_among}
use Rattle.sender_params.specs.Limits.{gapped_of, vrx_full_of}
use Rattle.read_schedule.specs.Parts.{IsGridWithout}
use Rattle.read_schedule.specs.declared.grid.Grid.{Grid}
use Rattle.offset_window.specs.declared.window.WindowEnd.{WindowEnd}
use Rattle.offset_window.specs.Moves.{IsLowerBy, IsUpperBy, MovesBy}
use Rattle.offset_window.specs.Parts.{comes_after, comes_before}
use Rattle.offset_window.specs.Window.{IsLowerEnd, IsUpperEnd, is_empty_with, is_over_with, read_with, with_offset}
use Rattle.offset_window.proofs.Ends.{lower-more, lower-same, upper-more, upper-quiet, upper-same}
use Rattle.offset_window.proofs.Offsets.{after-is, before-is, comes_before-rises, empty-falls, over-is, over-rises, over-room}

-- the lower end of one packet more
pub lower-fed : (m : Media) (n : ℕ) (anchor : ℤ) (stamps : List ℕ) (at : ℕ) (kind : Kind) (g : Grid) (i packet : ℕ) (old end : WindowEnd)
    → IsGridWithout m n anchor (gapped_of kind) g
    → i ≡ length stamps
    → packet ≡ length stamps
    → IsLowerEnd (is_empty_with m n anchor stamps kind) (length stamps) old
    → MovesBy (IsLowerBy (comes_after g i at) packet) (comes_after g i at) old end
    → IsLowerEnd (is_empty_with m n anchor (stamps ++ at ∷ []) kind) (length (stamps ++ at ∷ [])) end
lower-fed m n anchor stamps at kind g i packet old end grid ei ep h moves =
    let read = λ (y k : ℕ). read_with m n anchor (gapped_of kind) y k in
    let count = length stamps in
    let new = stamps ++ at ∷ [] in
    let long : length new ≡ count + 1 = length-append stamps (at ∷ []) in
    let last : slice_index new count ≡ at = get_or-append_seam stamps at [] 0 in
    let kept = lower-same (is_empty_with m n anchor stamps kind) (is_empty_with m n anchor new kind) count old
    (λ y k few. ap (λ a. below (read y k) (whole a)) (sym (get_or_append_left stamps (at ∷ []) 0 k few))) h in
    let there = subst (λ k. MovesBy (IsLowerBy (comes_after g k at) packet) (comes_after g k at) old end) ei moves in
    let here = subst (λ k. MovesBy (IsLowerBy (comes_after g count at) k) (comes_after g count at) old end) ep there in
    subst (λ k. IsLowerEnd (is_empty_with m n anchor new kind) k end) (sym long)
    (lower-more (is_empty_with m n anchor new kind) count (comes_after g count at) old end
    (empty-falls m n anchor new kind)
    (λ y. ap (λ a. below (read y count) (whole a)) last ∙ after-is m n anchor (gapped_of kind) g y count at grid)
    kept here)

-- the upper end of one packet more
pub upper-fed : (m : Media) (n : ℕ) (anchor : ℤ) (stamps : List ℕ) (at : ℕ) (kind : Kind) (g : Grid) (i packet full : ℕ) (old end : WindowEnd)
    → IsMedia m
    → 1 ≤ n
    → IsGridWithout m n anchor (gapped_of kind) g
    → full ≡ vrx_full_of m n kind
    → i ≡ length stamps - vrx_full_of m n kind
    → packet ≡ length stamps
    → IsUpperEnd (is_over_with m n anchor stamps kind) (length stamps) old
    → (packet + 1 ≤ full → end ≡ old)
    → (full < packet + 1 → MovesBy (IsUpperBy (comes_before g i at) packet) (comes_before g i at) old end)
    → IsUpperEnd (is_over_with m n anchor (stamps ++ at ∷ []) kind) (length (stamps ++ at ∷ [])) end
upper-fed m n anchor stamps at kind g i packet full old end is some grid ef ei ep h room moves =
    let gapped = gapped_of kind in
    let most = vrx_full_of m n kind in
    let count = length stamps in
    let new = stamps ++ at ∷ [] in
    let over = is_over_with m n anchor new kind in
    let long : length new ≡ count + 1 = length-append stamps (at ∷ []) in
    let last : slice_index new count ≡ at = get_or-append_seam stamps at [] 0 in
    let kept = upper-same (is_over_with m n anchor stamps kind) over count old
    (λ y k few. ap (λ a. nat_lt most ((k + 1) - due_among (with_offset m y) n anchor gapped (k + 1) (whole a)))
    (sym (get_or_append_left stamps (at ∷ []) 0 k few))) h in
    subst (λ k. IsUpperEnd over k end) (sym long)
    (elim (cases_lt count most) as (λ _. IsUpperEnd over (count + 1) end) [
      | inl few ↦ subst (IsUpperEnd over (count + 1)) (sym (room (omega (arith, few, ef, ep))))
          (upper-quiet over count old kept (λ y _. over-room m n anchor new kind y count few))
      | inr many ↦
          let there = subst (λ k. MovesBy (IsUpperBy (comes_before g k at) packet) (comes_before g k at) old end) ei (moves (omega (arith, many, ef, ep))) in
          let here = subst (λ k. MovesBy (IsUpperBy (comes_before g (count - most) at) k) (comes_before g (count - most) at) old end) ep there in
          upper-more over count (comes_before g (count - most) at) old end
          (over-rises m n anchor new kind is some)
          (comes_before-rises g (count - most) at)
          (λ y top. over-is m n anchor new kind y count is some top many
          ∙ ap (λ a. below (whole a) (read_with m n anchor gapped y (count - most))) last
          ∙ before-is m n anchor gapped g y (count - most) at grid)
          kept here
    ])

-- the same grid under another name
pub grid-same : (m : Media) (n : ℕ) (anchor : ℤ) (gapped same : Bool) (g h : Grid)
    → gapped ≡ same
    → h ≡ g
    → IsGridWithout m n anchor gapped g
    → IsGridWithout m n anchor same h
grid-same m n anchor gapped same g h eg eh is =
    subst (λ b. IsGridWithout m n anchor b h) eg (subst (IsGridWithout m n anchor gapped) (sym eh) is)

-- the limit of a sender type under another name
pub full-is : (m : Media) (n : ℕ) (kind same : Kind) (full : ℕ) → kind ≡ same → full ≡ vrx_full_of m n kind → full ≡ vrx_full_of m n same
full-is m n kind same full e is = is ∙ ap (vrx_full_of m n) e
