-- The conditions of the laws hold of the flow that is worked by hand.
use Rattle.std.proofs.Common.{◌≡◌, ℕ, ◌<◌, ◌^◌, true, List, [], ◌∷◌, refl, arith}
use Rattle.std.specs.Prelude.{All, nat_lt}
use Rattle.std.specs.List.{list_all}
use Rattle.std.proofs.lemmas.Bool.Decides.{nat_tests}
use Rattle.std.proofs.lemmas.List.Elements.{All-cons}
use Rattle.flow_measure.specs.report.Examples.{kept, one_held, ones_to, bins_within, plain_flow, plain_gaps, plain_numbers, plain_run, zeros}
use Rattle.flow_measure.specs.report.Told.{ToldBins, ToldKind}
use Rattle.report_reader.proofs.Numbers.{both_true}
use Rattle.measure_reader.specs.Fits.{FitsBins, FitsBuffer, FitsFlow, FitsGaps, FitsNumbers, FitsRun, FitsToldKind}
use Rattle.table_reader.specs.Fits.{IsWord}

none : {X : Type 0} (P : X → Type 0) → All P []
none P = λ k d l. absurd (omega (arith, l))

is_below : (a b : ℕ) → nat_lt a b ≡ true → a < b
is_below a b h = grind (arith, nat_tests)

words : (xs : List ℕ) → list_all (λ n. nat_lt n (2 ^ 64)) xs ≡ true → All IsWord xs
words [] e = none IsWord
words (x ∷ xs) e =
    let b = both_true (nat_lt x (2 ^ 64)) (list_all (λ n. nat_lt n (2 ^ 64)) xs) e in
    All-cons IsWord x xs (is_below x (2 ^ 64) b.0) (words xs b.1)

held_fits : FitsBuffer one_held
held_fits = record {
  occupancy = record { least = omega arith; greatest = omega arith; sum = omega arith; first = omega arith; last = omega arith };
  late = omega arith;
  slack = omega arith;
}

bins_fit : (b : ToldBins) → b.above < 2 ^ 64 → b.below < 2 ^ 64 → list_all (λ n. nat_lt n (2 ^ 64)) b.counts ≡ true → b.limit < 2 ^ 64 → b.width < 2 ^ 64
    → FitsBins b
bins_fit b a w c l s = record { above = a; below = w; counts = words b.counts c; limit = l; width = s }

kept_fits : (bucket buffer : ToldBins) (least greatest : ℕ) → FitsBins bucket → FitsBins buffer → least < 2 ^ 64 → greatest < 2 ^ 64
    → FitsToldKind (kept bucket buffer least greatest)
kept_fits bucket buffer least greatest b h l g = record {
  groups_broken = omega arith;
  bucket = b;
  buffer = h;
  first_bucket = tt;
  first_over = tt;
  first_empty = tt;
  named = tt;
  troff = record { least = l; greatest = g };
}

ones_fit : (limit : ℕ) → limit < 2 ^ 64 → list_all (λ n. nat_lt n (2 ^ 64)) (ones_to limit).counts ≡ true → FitsBins (ones_to limit)
ones_fit limit l c = bins_fit (ones_to limit) (omega arith) (omega arith) c l (omega arith)

wide_fits : FitsBins (bins_within 720 12 (40 ∷ zeros 60))
wide_fits = bins_fit (bins_within 720 12 (40 ∷ zeros 60)) (omega arith) (omega arith) refl (omega arith) (omega arith)

-- the types N, NL and W
abbrev narrow : ToldKind
narrow = kept (ones_to 4) (ones_to 8) 764 8444

abbrev linear : ToldKind
linear = kept (ones_to 4) (ones_to 8) 764 8004

abbrev wide : ToldKind
wide = kept (ones_to 16) (bins_within 720 12 (40 ∷ zeros 60)) 764 1000000

narrow_fits : FitsToldKind narrow
narrow_fits = kept_fits (ones_to 4) (ones_to 8) 764 8444 (ones_fit 4 (omega arith) refl) (ones_fit 8 (omega arith) refl) (omega arith) (omega arith)

linear_fits : FitsToldKind linear
linear_fits = kept_fits (ones_to 4) (ones_to 8) 764 8004 (ones_fit 4 (omega arith) refl) (ones_fit 8 (omega arith) refl) (omega arith) (omega arith)

wide_kind_fits : FitsToldKind wide
wide_kind_fits = kept_fits (ones_to 16) (bins_within 720 12 (40 ∷ zeros 60)) 764 1000000 (ones_fit 16 (omega arith) refl) wide_fits (omega arith) (omega arith)

kinds_fit : All FitsToldKind plain_numbers.kinds
kinds_fit =
    All-cons FitsToldKind narrow (linear ∷ wide ∷ []) narrow_fits
    (All-cons FitsToldKind linear (wide ∷ []) linear_fits (All-cons FitsToldKind wide [] wide_kind_fits (none FitsToldKind)))

gaps_fit : FitsGaps plain_gaps
gaps_fit = record {
  summary = record { least = omega arith; greatest = omega arith; sum = omega arith; first = omega arith; last = omega arith };
  classes = words plain_gaps.classes refl;
}

numbers_fit : FitsNumbers plain_numbers
numbers_fit = record {
  bucket = record { least = omega arith; greatest = omega arith; sum = omega arith; first = omega arith; last = omega arith };
  gapped = held_fits;
  linear = held_fits;
  kinds = kinds_fit;
  three = refl;
  first = record { least = omega arith; greatest = omega arith; sum = omega arith; first = omega arith; last = omega arith };
  last = record { least = omega arith; greatest = omega arith; sum = omega arith; first = omega arith; last = omega arith };
  target = omega arith;
  step = record { least = omega arith; greatest = omega arith; sum = omega arith; first = omega arith; last = omega arith };
  offset = record { least = omega arith; greatest = omega arith; sum = omega arith; first = omega arith; last = omega arith };
  latency = record { least = omega arith; greatest = omega arith; sum = omega arith; first = omega arith; last = omega arith };
  gap = gaps_fit;
}

run_fits : FitsRun plain_run
run_fits = record {
  run = omega arith;
  rec = omega arith;
  number = omega arith;
  judged = record {
    n = omega arith;
    frames = omega arith;
    packets = omega arith;
    head = omega arith;
    tail = omega arith;
    narrow = tt;
    linear = tt;
    wide = tt;
  };
  numbers = numbers_fit;
}

pub plain_fits : FitsFlow plain_flow
plain_fits = record {
  media = omega arith;
  packets = omega arith;
  ssrc = omega arith;
  runs = All-cons FitsRun plain_run [] run_fits (none FitsRun);
}
