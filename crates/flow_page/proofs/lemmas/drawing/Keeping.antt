-- Lists with several packets more, and what is said of the packets before them.
use Rattle.std.proofs.Common.{◌≡◌, ◌<◌, ◌≤◌, ◌+◌, ◌-◌, ◌*◌, ◌/◌, ◌++◌, ◌∷◌, [], ℕ, ℤ, Bool, List, length, slice_index, ap, ◌∙◌, sym, subst, arith}
use Rattle.std.proofs.Common.{true, false, nat_lt, ◌||◌, inl, inr, append_assoc, append-nil, length-append}
use Rattle.std.proofs.lemmas.Bool.{cases_eq}
use Rattle.std.proofs.lemmas.List.{get_or_append_left}
use Rattle.std.proofs.lemmas.Nat.{le-div}
use Rattle.timing_base.specs.Media.{Media}
use Rattle.fraction128.specs.Fractions.{below, whole}
use Rattle.timing_base.specs.declared.media.Kind.{Kind}
use Rattle.sender_params.specs.Keeps.{due_among, held_at, is_empty, is_over}
use Rattle.sender_params.specs.Limits.{c_max_of, gapped_of, vrx_full_of}
use Rattle.sender_params.specs.Reads.{AreDue, anchor_of, read_of}
use Rattle.sender_params.specs.Ticks.{ticks_at, ticks_of}
use Rattle.drain_bucket.specs.Word.{bucket_of}
use Rattle.drain_bucket.proofs.Reich.{count_after-same}
use Rattle.vrx_buffer.specs.Occupancy.{IsOccupancy, is_late}
use Rattle.vrx_buffer.specs.declared.held.Held.{Held}
use Rattle.run_meter.specs.Levels.{IsHeld, IsLevel}
use Rattle.run_meter.specs.Runs.{is_broken}
use Rattle.run_meter.specs.declared.level.Level.{Level}
use Rattle.flow_measure.specs.Groups.{firsts_of, lasts_of}
use Rattle.flow_measure.specs.Metered.{AreBuckets, AreListed}
use Rattle.flow_measure.specs.Occupancy.{AreOccupancies}
use Rattle.flow_measure.specs.Run.{anchor_in}
use Rattle.flow_measure.proofs.Fronts.{buckets-front, occupancies-front}
use Rattle.flow_page.specs.drawing.drawing.Columns.{DrawsCurves, DrawsGroups}
use Rattle.flow_page.specs.declared.drawing.groups.GroupColumns.{GroupColumns}
use Rattle.flow_page.proofs.lemmas.drawing.Feeding.{curves-none, group-first}

-- what is so of the packets before one more is so of those before several more
pub before-all : (P : List ℕ → Type 0) → ((xs : List ℕ) (x : ℕ) → P (xs ++ x ∷ []) → P xs) → (xs more : List ℕ) → P (xs ++ more) → P xs
before-all P step xs [] h = subst P (append-nil xs) h
before-all P step xs (x ∷ more) h = step xs x (before-all P step (xs ++ x ∷ []) more (subst P (sym (append_assoc xs (x ∷ []) more)) h))

-- the counts of the bucket with more packets are those of the packets before them
pub buckets-before : (m : Media) (n : ℕ) (stamps more : List ℕ) (level : ℕ → ℤ) → AreBuckets m n (stamps ++ more) level → AreBuckets m n stamps level
buckets-before m n stamps more level are =
    before-all (λ xs. AreBuckets m n xs level) (λ xs x h. buckets-front m n xs x level h) stamps more are

-- so are the occupancies of the buffer
pub occupancies-before : (m : Media) (n : ℕ) (gapped : Bool) (stamps more : List ℕ) (level : ℕ → ℤ)
    → AreOccupancies m n (stamps ++ more) gapped level
    → AreOccupancies m n stamps gapped level
occupancies-before m n gapped stamps more level are =
    before-all (λ xs. AreOccupancies m n xs gapped level) (λ xs x h. occupancies-front m n gapped xs x level h) stamps more are

-- what a list has at its own places
pub front-of : (xs more : List ℕ) (i : ℕ) → i < length xs → slice_index (xs ++ more) i ≡ slice_index xs i
front-of xs more i few = get_or_append_left xs more 0 i few

-- numbers that list the longer list list the shorter one
pub listed-before : (xs more : List ℕ) (numbers : ℕ → ℕ) → AreListed (xs ++ more) numbers → AreListed xs numbers
listed-before xs more numbers are = λ i few.
    let long : length (xs ++ more) ≡ length xs + length more = length-append xs more in
    are i (omega (arith, few, long)) ∙ front-of xs more i few

-- what a packet finds is so still once others came
pub bucket-after : (m : Media) (n : ℕ) (stamps more : List ℕ) (i : ℕ) → i < length stamps → bucket_of m n (stamps ++ more) i ≡ bucket_of m n stamps i
bucket-after m n stamps more i few =
    let new = stamps ++ more in
    count_after-same (ticks_at m n new) (ticks_at m n stamps) i
    (λ j low.
    let start : slice_index new 0 ≡ slice_index stamps 0 = front-of stamps more 0 (omega (arith, few)) in
    let here : slice_index new j ≡ slice_index stamps j = front-of stamps more j (omega (arith, low, few)) in
    ap (λ a. ticks_of m n a (slice_index new j)) start ∙ ap (ticks_of m n (slice_index stamps 0)) here)

-- the occupancy at a packet stays as it is with more packets
pub occupancy-after : (m : Media) (n : ℕ) (stamps more : List ℕ) (gapped : Bool) (i : ℕ) (x : ℤ) → i < length stamps
    → IsOccupancy m n stamps gapped i x → IsOccupancy m n (stamps ++ more) gapped i x
occupancy-after m n stamps more gapped i x few o =
    let new = stamps ++ more in
    let first : slice_index new 0 ≡ slice_index stamps 0 = front-of stamps more 0 (omega (arith, few)) in
    let here : slice_index new i ≡ slice_index stamps i = front-of stamps more i few in
    record {
      reads = o.reads;
      due = subst (λ t. AreDue m n (anchor_of m (slice_index new 0)) gapped (whole t) o.reads) (sym here)
          (subst (λ f. AreDue m n (anchor_of m f) gapped (whole (slice_index stamps i)) o.reads) (sym first) o.due);
      is = o.is;
    }

late-after : (m : Media) (n : ℕ) (stamps more : List ℕ) (gapped : Bool) (i : ℕ) → i < length stamps
    → is_late m n (stamps ++ more) gapped i ≡ is_late m n stamps gapped i
late-after m n stamps more gapped i few =
    let new = stamps ++ more in
    ap (λ a. below (read_of m n (anchor_of m a) gapped i) (whole (slice_index new i))) (front-of stamps more 0 (omega (arith, few)))
    ∙ ap (λ t. below (read_of m n (anchor_of m (slice_index stamps 0)) gapped i) (whole t)) (front-of stamps more i few)

held-after : (m : Media) (n : ℕ) (stamps more : List ℕ) (gapped : Bool) (i : ℕ) → i < length stamps
    → held_at m n (stamps ++ more) gapped i ≡ held_at m n stamps gapped i
held-after m n stamps more gapped i few =
    let new = stamps ++ more in
    ap (λ a. (i + 1) - due_among m n (anchor_of m a) gapped (i + 1) (whole (slice_index new i))) (front-of stamps more 0 (omega (arith, few)))
    ∙ ap (λ t. (i + 1) - due_among m n (anchor_of m (slice_index stamps 0)) gapped (i + 1) (whole t)) (front-of stamps more i few)

-- whether a packet breaks a model stays as it is with more packets
pub broken-after : (m : Media) (n : ℕ) (stamps more : List ℕ) (kind : Kind) (i : ℕ) → i < length stamps
    → is_broken m n (stamps ++ more) kind i ≡ is_broken m n stamps kind i
broken-after m n stamps more kind i few =
    let all = stamps ++ more in
    ap (λ b. (nat_lt (c_max_of m n kind) b || is_over m n all kind i) || is_empty m n all kind i) (bucket-after m n stamps more i few)
    ∙ ap (λ h. (nat_lt (c_max_of m n kind) (bucket_of m n stamps i) || nat_lt (vrx_full_of m n kind) h) || is_empty m n all kind i)
    (held-after m n stamps more (gapped_of kind) i few)
    ∙ ap (λ e. (nat_lt (c_max_of m n kind) (bucket_of m n stamps i) || is_over m n stamps kind i) || e) (late-after m n stamps more (gapped_of kind) i few)

-- so the level of a packet
pub level-after : (m : Media) (n : ℕ) (stamps more : List ℕ) (i : ℕ) (level : Level) → i < length stamps → IsLevel m n stamps i level
    → IsLevel m n (stamps ++ more) i level
level-after m n stamps more i level few h = record {
  bucket = h.bucket ∙ sym (bucket-after m n stamps more i few);
  gapped = held-later true h.gapped;
  linear = held-later false h.linear;
}
  where
    held-later : {held : Held} (gapped : Bool) → IsHeld m n stamps gapped i held → IsHeld m n (stamps ++ more) gapped i held
    held-later {held} gapped is = record {
      occupancy = occupancy-after m n stamps more gapped i held.occupancy few is.occupancy;
      late = is.late ∙ sym (late-after m n stamps more gapped i few);
    }

-- the columns of groups that were committed, by the number of the group to which the first packet of all belongs
pub curves-kept : (m : Media) (n : ℕ) (old other : GroupColumns) (stamps more timestamps ticks : List ℕ) (stamp timestamp : ℕ → ℕ)
    → DrawsGroups m n old stamps timestamps
    → DrawsGroups m n other (stamps ++ more) (timestamps ++ ticks)
    → AreListed (stamps ++ more) stamp → AreListed (timestamps ++ ticks) timestamp
    → DrawsCurves m other.n0 old.curves (firsts_of n stamp) (lasts_of n stamp) (firsts_of n timestamp)
curves-kept m n old other stamps more timestamps ticks stamp timestamp h k are listed =
    let before = h.curves_draw stamp timestamp (listed-before stamps more stamp are) (listed-before timestamps ticks timestamp listed) in
    let long : length (stamps ++ more) ≡ length stamps + length more = length-append stamps more in
    elim (cases_eq (length stamps) 0)
    as (λ _. DrawsCurves m other.n0 old.curves (firsts_of n stamp) (lasts_of n stamp) (firsts_of n timestamp)) [
      | inl none ↦
          curves-none m other.n0 old.curves (firsts_of n stamp) (lasts_of n stamp) (firsts_of n timestamp)
          (omega (arith, old.curves_are, old.walk.group_few, h.seen_is, none))
      | inr some ↦
          let few : 0 < length stamps = omega (arith, some) in
          let first : anchor_in m (stamps ++ more) ≡ anchor_in m stamps = ap (anchor_of m) (front-of stamps more 0 few) in
          let same : old.n0 ≡ other.n0 = h.anchor_is few ∙ sym first ∙ sym (k.anchor_is (omega (arith, few, long))) in
          subst (λ a. DrawsCurves m a old.curves (firsts_of n stamp) (lasts_of n stamp) (firsts_of n timestamp)) same before
    ]

-- of packets of which the first ones were committed no fewer groups are over
pub groups-rise : (m : Media) (n : ℕ) (old other : GroupColumns) (stamps more timestamps ticks : List ℕ)
    → DrawsGroups m n old stamps timestamps
    → DrawsGroups m n other (stamps ++ more) (timestamps ++ ticks)
    → old.curves.seen ≤ other.curves.seen
groups-rise m n old other stamps more timestamps ticks h k =
    let a = old.walk in
    let b = other.walk in
    let long : length (stamps ++ more) ≡ length stamps + length more = length-append stamps more in
    let first : a.group * n + a.place ≡ length stamps = group-first m n old stamps timestamps h in
    let same : a.group * b.n ≡ a.group * n = ap (λ j. a.group * j) k.n_is in
    let low : a.group ≤ b.seen / b.n = le-div a.group b.seen b.n (omega (arith, b.place_within)) (omega (arith, same, first, long, k.seen_is)) in
    omega (arith, low, b.group_is, old.curves_are, other.curves_are)
