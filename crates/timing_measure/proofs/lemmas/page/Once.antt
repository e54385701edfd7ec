-- One run is the longest.
use Rattle.std.proofs.Common.{◌≡◌, ◌≤◌, ◌<◌, ◌++◌, ◌∷◌, ℕ, List, [], length, refl, ap, ◌∙◌, sym, subst, arith}
use Rattle.std.specs.Prelude.{All}
use Rattle.std.specs.List.{slice_index_or}
use Rattle.std.proofs.lemmas.List.Elements.{All-cons, All-head, All-nil, All-tail}
use Rattle.run_meter.specs.Runs.{JudgedPart}
use Rattle.flow_page.specs.drawing.Told.{IsLongest}
use Rattle.timing_measure.specs.page.Worked.{part_of}
use Rattle.timing_measure.proofs.lemmas.page.Places.{part-at}

abbrev later : List JudgedPart → List JudgedPart
later [] = []
later (p ∷ ps) = ps

-- fewer packets are judged, and no more
abbrev Fewer : ℕ → JudgedPart → Type 0
Fewer packets part = length part.packets < packets

abbrev NoMore : ℕ → JudgedPart → Type 0
NoMore packets part = length part.packets ≤ packets

first-same : (a b : JudgedPart) (rest after : List JudgedPart) → a ∷ rest ≡ b ∷ after → a ≡ b
first-same a b rest after e = ap (λ l. slice_index_or l 0 a) e

-- one that stands before the other has fewer, and no fewer
crossed : (a b y : JudgedPart) (past rest after : List JudgedPart) → a ∷ after ≡ y ∷ (past ++ b ∷ rest) → Fewer (length b.packets) y
    → All (NoMore (length a.packets)) after → ⊥
crossed a b y past rest after e few all =
    let same : length a.packets ≡ length y.packets = ap (λ (p : JudgedPart). length p.packets) (first-same a y after (past ++ b ∷ rest) e) in
    let most = part-at (NoMore (length a.packets)) past rest b (subst (All (NoMore (length a.packets))) (ap later e) all) in
    omega (arith, same, most, few)

once-by : (past : List JudgedPart) (a : JudgedPart) (rest before : List JudgedPart) (b : JudgedPart) (after : List JudgedPart)
    → past ++ a ∷ rest ≡ before ++ b ∷ after → All (Fewer (length a.packets)) past → All (NoMore (length a.packets)) rest
    → All (Fewer (length b.packets)) before → All (NoMore (length b.packets)) after → a ≡ b
once-by [] a rest [] b after e few most low high = first-same a b rest after e
once-by [] a rest (y ∷ before) b after e few most low high =
    absurd (crossed a b y before after rest e (All-head (Fewer (length b.packets)) y before low) most)
once-by (x ∷ past) a rest [] b after e few most low high =
    absurd (crossed b a x past rest after (sym e) (All-head (Fewer (length a.packets)) x past few) high)
once-by (x ∷ past) a rest (y ∷ before) b after e few most low high =
    once-by past a rest before b after (ap later e) (All-tail (Fewer (length a.packets)) x past few) most
    (All-tail (Fewer (length b.packets)) y before low) high

pub longest-once : (parts : List JudgedPart) (a b : JudgedPart) → IsLongest parts a → IsLongest parts b → a ≡ b
longest-once parts a b h k = once-by h.before a h.after k.before b k.after (sym h.whole ∙ k.whole) h.fewer h.no_more k.fewer k.no_more

-- of three runs the second
pub second-longest : IsLongest (part_of 1 2 ∷ part_of 2 4 ∷ part_of 4 4 ∷ []) (part_of 2 4)
second-longest =
    let first : length (part_of 1 2).packets ≡ 2 = refl in
    let third : length (part_of 4 4).packets ≡ 4 = refl in
    record {
      before = part_of 1 2 ∷ [];
      after = part_of 4 4 ∷ [];
      whole = refl;
      fewer = All-cons (Fewer 4) (part_of 1 2) [] (omega (arith, first)) (All-nil (Fewer 4));
      no_more = All-cons (NoMore 4) (part_of 4 4) [] (omega (arith, third)) (All-nil (NoMore 4));
    }
