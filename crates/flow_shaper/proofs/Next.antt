-- The next departure, from both models after the last one.
use Rattle.std.proofs.Common.{◌≡◌, ◌≢◌, ◌≤◌, ◌<◌, ◌+◌, ◌-◌, ◌^◌, ◌⊎◌, ◌↔◌, ℕ, List, [], ◌∷◌, ◌++◌, length, slice_index, ap, subst, ◌∙◌, sym, inl, inr, arith}
use Rattle.std.proofs.lemmas.Bool.{cases_lt}
use Rattle.flow_shaper.specs.Bounds.{IsBound, Overfills}
use Rattle.flow_shaper.specs.Choice.{Chooses, IsChosen}
use Rattle.flow_shaper.specs.Plan.{IsLeast, Models, load}
use Rattle.flow_shaper.specs.Stands.{IsCount}
use Rattle.flow_shaper.specs.declared.departure.Bound.{Bound}
use Rattle.flow_shaper.specs.declared.departure.Bound.TheVariants.{Arrival, Bucket, Buffer, Order}
use Rattle.flow_shaper.specs.declared.departure.Departure.{Departure}
use Rattle.flow_shaper.specs.declared.meters.Meters.{Meters}
use Rattle.flow_shaper.proofs.Counts.{count-overloads, count-serves}
use Rattle.flow_shaper.proofs.Greedy.{Rises, Serves}
use Rattle.flow_shaper.proofs.Seams.{before, last}

-- what the meters say after packet i left
pub record AreReady (w : Models) (m : Meters) (arrivals departures : List ℕ) (i : ℕ) : Type 0 where
  pub least : IsLeast w arrivals departures
  pub came : length arrivals ≡ i + 1
  pub left : length departures ≡ i + 1
  pub rises : Rises w
  pub falls : (j : ℕ) → j ≤ i → slice_index departures j ≤ slice_index departures i
  pub last : m.last ≡ slice_index departures i
  pub count : IsCount w departures i m.count m.begin
  pub within : m.count ≤ w.c_max
  pub some : 1 ≤ w.c_max
  pub tick : (t : ℕ) → (m.tick.due ≤ t) ↔ (w.ticks (slice_index departures i) < w.ticks t)
  pub tick_one : w.ticks m.tick.due ≤ w.ticks (slice_index departures i) + 1
  pub room : (t : ℕ) → slice_index departures i ≤ t → t < 2 ^ 62
      → (w.held (i + 1) t ≤ w.vrx_full) ↔ (m.read.number + w.vrx_full ≤ i + 1 → m.read.at ≤ t)
  pub ahead : m.read.number + w.vrx_full ≤ i + 1 → slice_index departures i < m.read.at
  pub waits : slice_index arrivals i < slice_index departures i
      → (w.c_max ≤ m.count) ⊎ (m.read.number + w.vrx_full ≤ i + 1)

-- the bucket lets the next packet leave where it has room or its tick has come
pub bucket-serves : (w : Models) (m : Meters) (arrivals departures : List ℕ) (i d : ℕ)
    → AreReady w m arrivals departures i
    → slice_index departures i ≤ d
    → (w.c_max ≤ m.count → m.tick.due ≤ d)
    → (j : ℕ)
    → j < length departures
    → load w departures j (length departures) d ≤ w.c_max
bucket-serves w m arrivals departures i d r order come =
    count-serves w departures i m.count m.begin d r.rises r.count r.left r.falls order r.within (λ full. (r.tick d).0 (come full))

-- the next packet may leave where none of the four holds it back
pub serves-when : (w : Models) (m : Meters) (arrivals departures : List ℕ) (i a d : ℕ)
    → AreReady w m arrivals departures i
    → a ≤ d
    → m.last ≤ d
    → (w.c_max ≤ m.count → m.tick.due ≤ d)
    → (m.read.number + w.vrx_full ≤ i + 1 → m.read.at ≤ d)
    → d < 2 ^ 62
    → Serves w departures a d
serves-when w m arrivals departures i a d r arrival order tick read low =
    let here : slice_index departures i ≤ d = omega (arith, order, r.last) in
    record {
      after = arrival;
      order = λ j few. omega (arith, r.falls j (omega (arith, few, r.left)), here);
      bucket = bucket-serves w m arrivals departures i d r here tick;
      alone = r.some;
      buffer = omega (arith, (r.room d here low).1 read, ap (λ k. w.held k d) r.left);
    }

-- what is chosen is no later than what all of them allow
chosen-least : (m : Meters) (c_max vrx_full packet a d e : ℕ) (bound : Bound)
    → IsChosen m c_max vrx_full packet a d bound
    → a ≤ e
    → m.last ≤ e
    → (c_max ≤ m.count → m.tick.due ≤ e)
    → (m.read.number + vrx_full ≤ packet → m.read.at ≤ e)
    → d ≤ e
chosen-least m c_max vrx_full packet a d e Arrival h arrival order tick read = omega (arith, h, arrival)
chosen-least m c_max vrx_full packet a d e (Bucket from) h arrival order tick read = omega (arith, h.2, tick h.1)
chosen-least m c_max vrx_full packet a d e (Buffer x) h arrival order tick read = omega (arith, h.3, read h.2)
chosen-least m c_max vrx_full packet a d e Order h arrival order tick read = omega (arith, h.3, order)

-- and only there
pub serves-least : (w : Models) (m : Meters) (arrivals departures : List ℕ) (i a e : ℕ) (d : Departure)
    → AreReady w m arrivals departures i
    → Chooses m w.c_max w.vrx_full (i + 1) a d
    → Serves w departures a e
    → e < 2 ^ 62
    → d.at ≤ e
serves-least w m arrivals departures i a e d r h s low =
    let here : slice_index departures i ≤ e = s.order i (omega (arith, r.left)) in
    let tick : w.c_max ≤ m.count → m.tick.due ≤ e = λ full. (r.tick e).1 (
    let load_is = s.bucket m.begin (omega (arith, r.left, r.count.begins)) in
    let up = r.rises (slice_index departures m.begin) (slice_index departures i) (r.falls m.begin r.count.begins) in
    omega (arith, load_is, r.count.begin_load, r.count.begins, r.left, r.some, full, up)) in
    let read : m.read.number + w.vrx_full ≤ i + 1 → m.read.at ≤ e =
    (r.room e here low).0 (omega (arith, s.buffer, ap (λ k. w.held k e) r.left)) in
    chosen-least m w.c_max w.vrx_full (i + 1) a d.at e d.bound h.chosen s.after (omega (arith, here, r.last)) tick read

-- a packet that is delayed leaves after the one before it
pub never_with : (w : Models) (m : Meters) (arrivals departures : List ℕ) (i a d : ℕ)
    → AreReady w m arrivals departures i
    → slice_index arrivals i ≤ a
    → (w.c_max ≤ m.count → m.tick.due ≤ d)
    → (m.read.number + w.vrx_full ≤ i + 1 → m.read.at ≤ d)
    → a < d
    → d ≡ m.last
    → ⊥
never_with w m arrivals departures i a d r order tick read delayed same =
    elim (r.waits (omega (arith, order, delayed, same, r.last))) as (λ _. ⊥) [
      | inl full ↦ let come = (r.tick d).0 (tick full) in omega (arith, come, ap w.ticks (same ∙ r.last))
      | inr full ↦ omega (arith, read full, r.ahead full, same, r.last)
    ]

-- what holds it back
pub bound-is : (w : Models) (m : Meters) (arrivals departures : List ℕ) (i a d : ℕ) (bound : Bound)
    → AreReady w m arrivals departures i
    → slice_index arrivals i ≤ a
    → a ≤ d
    → m.last ≤ d
    → (w.c_max ≤ m.count → m.tick.due ≤ d)
    → (m.read.number + w.vrx_full ≤ i + 1 → m.read.at ≤ d)
    → d < 2 ^ 62
    → IsChosen m w.c_max w.vrx_full (i + 1) a d bound
    → IsBound w (arrivals ++ a ∷ []) (departures ++ d ∷ []) (i + 1) bound
bound-is w m arrivals departures i a d Arrival r came arrival order tick read low h =
    last departures d (i + 1) (sym r.left) ∙ h ∙ sym (last arrivals a (i + 1) (sym r.came))
bound-is w m arrivals departures i a d (Bucket from) r came arrival order tick read low h =
    let news = departures ++ d ∷ [] in
    let here : slice_index news (i + 1) ≡ d = last departures d (i + 1) (sym r.left) in
    let there : slice_index (arrivals ++ a ∷ []) (i + 1) ≡ a = last arrivals a (i + 1) (sym r.came) in
    let early : w.ticks (d - 1) ≤ w.ticks (slice_index departures i) =
    elim (cases_lt (w.ticks (slice_index departures i)) (w.ticks (d - 1))) as (λ _. w.ticks (d - 1) ≤ w.ticks (slice_index departures i)) [
      | inl more ↦
          let come = (r.tick (d - 1)).1 more in
          let some : 0 < d = omega (arith, h.0, arrival) in
          absurd (omega (arith, come, h.2, some))
      | inr few ↦ few
    ] in
    let begins = r.count.begins in
    let begin_there : slice_index news m.begin ≡ slice_index departures m.begin = before departures d m.begin (omega (arith, begins, r.left)) in
    let over = count-overloads w departures i m.count m.begin (d - 1) r.rises r.count r.left r.some h.1 (r.falls m.begin begins) early in
    let earlier : w.ticks (slice_index news (i + 1) - 1) ≡ w.ticks (d - 1) = ap (λ x. w.ticks (x - 1)) here in
    let now : w.ticks (slice_index news (i + 1)) ≡ w.ticks d = ap w.ticks here in
    let one : w.ticks d ≡ w.ticks (slice_index departures i) + 1 =
    omega (arith, (r.tick d).0 (omega (arith, h.2)), r.tick_one, ap w.ticks h.2) in
    let from_there : w.ticks (slice_index news from) ≡ w.ticks (slice_index departures m.begin) =
    ap (λ k. w.ticks (slice_index news k)) h.3 ∙ ap w.ticks begin_there in
    let up = r.rises (slice_index departures m.begin) (slice_index departures i) (r.falls m.begin begins) in (
      λ e. h.0 (sym here ∙ e ∙ there),
      (m.begin, omega (arith, begins), omega (arith, over, earlier, ap w.ticks begin_there, r.left)),
      record {
        before = omega (arith, h.3, begins);
        full = omega (arith, h.3, now, one, from_there, up, r.count.begin_load, r.count.begins, r.within, h.1, r.some);
        latest = λ j few e.
            let j_there : w.ticks (slice_index news j) ≡ w.ticks (slice_index departures j) = ap w.ticks (before departures d j (omega (arith, few, r.left))) in
            let j_up = r.rises (slice_index departures j) (slice_index departures i) (r.falls j (omega (arith, few))) in
            omega (arith, h.3, r.count.latest j (omega (arith, few)) (omega (arith, e, j_there, j_up, now, one, r.within, h.1, r.some, few)));
      },
    )
bound-is w m arrivals departures i a d (Buffer x) r came arrival order tick read low h =
    let news = departures ++ d ∷ [] in
    let here : slice_index news (i + 1) ≡ d = last departures d (i + 1) (sym r.left) in
    let there : slice_index (arrivals ++ a ∷ []) (i + 1) ≡ a = last arrivals a (i + 1) (sym r.came) in
    let after : slice_index departures i ≤ d - 1 = omega (arith, r.ahead h.2, h.3) in
    let earlier : slice_index news (i + 1) - 1 ≡ d - 1 = ap (λ k. k - 1) here in
    let ready : w.c_max ≤ m.count → m.tick.due ≤ d - 1 =
    λ full. let ne = h.1 full in omega (arith, tick full, ne) in (
      λ e. h.0 (sym here ∙ e ∙ there),
      λ over. omega (
        arith,
        over.2,
        ap w.ticks earlier,
        ap w.ticks (before departures d over.0 (omega (arith, over.1, r.left))),
        bucket-serves w m arrivals departures i (d - 1) r after ready over.0 (omega (arith, over.1, r.left)),
        r.left,
      ),
      (elim (cases_lt w.vrx_full (w.held (i + 1) (d - 1))) as (λ _. Overfills w (i + 1) (slice_index news (i + 1) - 1)) [
        | inl over ↦ omega (arith, over, ap (w.held (i + 1)) earlier)
        | inr room ↦ absurd (omega (arith, (r.room (d - 1) after (omega (arith, low))).0 room h.2, h.3, r.ahead h.2))
      ]),
      h.4,
    )
bound-is w m arrivals departures i a d Order r came arrival order tick read low h =
    let ne = h.0 in
    absurd (never_with w m arrivals departures i a d r came tick read (omega (arith, ne, arrival)) h.3)

-- where the packet was delayed, the one after it has to wait
pub waits-next : (w : Models) (m : Meters) (arrivals departures : List ℕ) (i a d drained count number : ℕ) (bound : Bound)
    → AreReady w m arrivals departures i
    → slice_index arrivals i ≤ a
    → (w.c_max ≤ m.count → m.tick.due ≤ d)
    → (m.read.number + w.vrx_full ≤ i + 1 → m.read.at ≤ d)
    → IsChosen m w.c_max w.vrx_full (i + 1) a d bound
    → w.ticks (slice_index departures i) + drained ≡ w.ticks d
    → count ≡ (m.count - drained) + 1
    → (m.read.number + w.vrx_full ≤ i + 1 → d ≡ m.read.at → number ≤ m.read.number + 1)
    → a < d
    → (w.c_max ≤ count) ⊎ (number + w.vrx_full ≤ (i + 1) + 1)
waits-next w m arrivals departures i a d drained count number Arrival r came tick read h ticks is few delayed = absurd (omega (arith, h, delayed))
waits-next w m arrivals departures i a d drained count number (Bucket from) r came tick read h ticks is few delayed =
    inl (omega (arith, ticks, is, r.tick_one, (r.tick d).0 (omega (arith, h.2)), ap w.ticks h.2, h.1, r.some))
waits-next w m arrivals departures i a d drained count number (Buffer x) r came tick read h ticks is few delayed =
    inr (omega (arith, few h.2 h.3, h.2))
waits-next w m arrivals departures i a d drained count number Order r came tick read h ticks is few delayed =
    absurd (never_with w m arrivals departures i a d r came tick read delayed h.3)

-- order alone holds none back
pub order-never : (w : Models) (m : Meters) (arrivals departures : List ℕ) (i a d : ℕ) (bound : Bound)
    → AreReady w m arrivals departures i
    → slice_index arrivals i ≤ a
    → a ≤ d
    → (w.c_max ≤ m.count → m.tick.due ≤ d)
    → (m.read.number + w.vrx_full ≤ i + 1 → m.read.at ≤ d)
    → IsChosen m w.c_max w.vrx_full (i + 1) a d bound
    → bound ≢ Order
order-never w m arrivals departures i a d bound r came arrival tick read h is =
    let order = subst (λ (b : Bound). IsChosen m w.c_max w.vrx_full (i + 1) a d b) is h in
    let ne = order.0 in
    never_with w m arrivals departures i a d r came tick read (omega (arith, ne, arrival)) order.3
