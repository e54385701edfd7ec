-- Bins and classes that have the same numbers tell the same counts.
use Rattle.std.proofs.Common.{◌≡◌, ◌<◌, ◌+◌, ◌/◌, ℕ, ℤ, length, take, slice_index, ap, ap₂, ◌∙◌, sym, subst, arith}
use Rattle.std.proofs.lemmas.List.{ext_get_or, get_or-take, length-take-le}
use Rattle.flow_measure.specs.Bins.{bin_width, in_bin}
use Rattle.flow_measure.specs.Classes.{AreClasses}
use Rattle.flow_measure.specs.Gaps.{AreClassesOf}
use Rattle.flow_measure.specs.Kinds.{AreBinsOf}
use Rattle.flow_measure.specs.Stands.{Classifies}
use Rattle.flow_measure.specs.Told.{bin_counts, class_counts}
use Rattle.flow_measure.specs.declared.bins.Bins.{Bins}
use Rattle.flow_measure.specs.declared.classes.Classes.{Classes}
use Rattle.flow_measure.proofs.Measured.{above-is, below-is, classes-once}

-- what bins tell
pub record TellSame (b c : Bins) : Type 0 where
  pub limit : b.limit ≡ c.limit
  pub width : b.width ≡ c.width
  pub counts : bin_counts b ≡ bin_counts c
  pub above : b.above ≡ c.above
  pub below : b.below ≡ c.below

count-is : (limit count : ℕ) (numbers : ℕ → ℤ) (b : Bins) (bin : ℕ) → bin < 64 → AreBinsOf limit numbers count b
    → slice_index b.counts bin ≡ in_bin limit bin numbers count
count-is limit count numbers b bin few h = h.counts.each bin few ∙ ap₂ (λ l n. in_bin l bin numbers n) h.limit_is h.seen

pub bins-tell : (limit count : ℕ) (numbers : ℕ → ℤ) (b c : Bins) → AreBinsOf limit numbers count b → AreBinsOf limit numbers count c → TellSame b c
bins-tell limit count numbers b c h k =
    let limits : b.limit ≡ c.limit = h.limit_is ∙ sym k.limit_is in
    let widths : b.width ≡ c.width = b.width_is ∙ ap bin_width limits ∙ sym c.width_is in
    let all : b.counts ≡ c.counts =
    ext_get_or 0 b.counts c.counts (b.whole ∙ sym c.whole)
    (λ bin few.
    let within : bin < 64 = omega (arith, few, b.whole) in
    count-is limit count numbers b bin within h ∙ sym (count-is limit count numbers c bin within k)) in
    record {
      limit = limits;
      width = widths;
      counts = ap₂ (λ n l. take n l) (ap₂ (λ l w. l / w + 1) limits widths) all;
      above = above-is limit count numbers b h ∙ sym (above-is limit count numbers c k);
      below = below-is limit count numbers b h ∙ sym (below-is limit count numbers c k);
    }

-- what classes tell
classes-are : (numbers : ℕ → ℕ) (c : Classes) → Classifies c numbers → AreClasses numbers c.seen (class_counts c)
classes-are numbers c h =
    let long : length (take c.length c.counts) ≡ c.length = length-take-le c.length c.counts (omega (arith, c.within, c.whole)) in
    let at : (class : ℕ) → class < c.length → slice_index (take c.length c.counts) class ≡ slice_index c.counts class =
    λ class few. get_or-take c.length c.counts class 0 few in
    record {
      each = λ class few.
          let below : class < c.length = omega (arith, few, long) in
          at class below ∙ h.each class (omega (arith, below, c.within));
      rest = λ class far. h.rest class (omega (arith, far, long));
      ends = λ last e.
          let size : c.length ≡ last + 1 = sym long ∙ e in
          let below : last < c.length = omega (arith, size) in
          let is = at last below ∙ h.each last (omega (arith, below, c.within)) in
          omega (arith, is, h.ends last size);
    }

pub classes-tell : (numbers : ℕ → ℕ) (count : ℕ) (c d : Classes) → AreClassesOf numbers count c → AreClassesOf numbers count d
    → class_counts c ≡ class_counts d
classes-tell numbers count c d h k =
    classes-once numbers count (class_counts c) (class_counts d) (subst (λ n. AreClasses numbers n (class_counts c)) h.seen (classes-are numbers c h.counts))
    (subst (λ n. AreClasses numbers n (class_counts d)) k.seen (classes-are numbers d k.counts))
