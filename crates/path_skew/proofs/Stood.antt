-- What a `Skew` stands for after one packet more.
use Rattle.std.proofs.Common.{◌≡◌, ◌≢◌, ℕ, ◌+◌, ◌-◌, ◌==◌, ◌%◌, pos, ◌-ℤ◌, true, false, not, if◌then◌else◌, is_some, List, [], ◌∷◌, ◌++◌, length, Option}
use Rattle.std.proofs.Common.{Some, None, Result, Ok, Err, count_by, refl, sym, ap, subst, ◌∙◌, arith, inl, inr, append-nil}
use mathlib.Core.Bool.{false≢true}
use Rattle.std.specs.Option.{option_or}
use Rattle.std.proofs.lemmas.Bool.{cases_Bool, cases_eq}
use Rattle.std.proofs.lemmas.Bool.Decides.{nat_tests}
use Rattle.std.proofs.lemmas.Grind.{common_steps}
use Rattle.std.proofs.lemmas.List.Concat.{flat_map-append}
use Rattle.std.proofs.lemmas.List.{length-append}
use Rattle.timing_base.specs.declared.packet.Rtp.{Rtp}
use Rattle.timing_base.specs.declared.packet.FlowPacket.{FlowPacket}
use Rattle.timing_base.specs.declared.packet.PacketFault.{PacketFault}
use Rattle.path_skew.specs.declared.arrival.Arrival.{Arrival}
use Rattle.path_skew.specs.declared.flow.Flow.{Flow}
use Rattle.path_skew.specs.declared.pages.Page.{Page}
use Rattle.path_skew.specs.declared.pages.Pages.{Pages}
use Rattle.path_skew.specs.declared.pages.Side.{Side}
use Rattle.path_skew.specs.declared.pages.Side.TheVariants.{First, Second}
use Rattle.path_skew.specs.declared.row.Extreme.{Extreme}
use Rattle.path_skew.specs.declared.skew.Skew.{Skew}
use Rattle.path_skew.specs.Pair.{has_number, packet_with, number_of, is_unread, repeats, opens, repeated, opening, extreme, extreme_with, skews, skew, stands}
use Rattle.path_skew.specs.Pair.{alone}
use Rattle.path_skew.specs.Kept.{IsCounted, opposite, page_of, page_view, view}
use Rattle.path_skew.specs.Holds.{HoldsSkews}
use Rattle.path_skew.specs.Step.{Comes, Steps}
use Rattle.path_skew.specs.Stands.{CountsFlow, HoldsNumbers, Keeps, StandsFor}
use Rattle.path_skew.specs.View.{IsOpened, IsSame, View, Waits}
use Rattle.path_skew.proofs.Flows.{packet_with-append, packet_with-other, chosen-append, skews_by, skews_by-same, none-same, one-more, matched-alone}

-- a packet that was read, and is kept so
abbrev pub packet_of : Rtp → Arrival → FlowPacket
packet_of rtp a = record { rec = a.rec; at = a.at; rtp = Ok rtp }

-- a packet that was not
abbrev pub unread_of : ℕ → ℕ → PacketFault → FlowPacket
unread_of rec at fault = record { rec = rec; at = at; rtp = Err fault }

-- a number that stands nowhere has no packet, and one that stands has one
none-from_stands : (o : Option FlowPacket) → is_some o ≡ false → o ≡ None
none-from_stands None e = refl
none-from_stands (Some p) e = absurd (false≢true (sym e))

some-from_stands : (o : Option FlowPacket) → is_some o ≡ true → (p : FlowPacket) × (o ≡ Some p)
some-from_stands (Some p) e = (p, refl)
some-from_stands None e = absurd (false≢true e)

module _ (flow : List FlowPacket) (rtp : Rtp) (a : Arrival) where
  -- the tests of a packet at the end of a flow
  has_itself : has_number rtp.number (packet_of rtp a) ≡ true
  has_itself = grind (arith, nat_tests)

  has_no_other : (n : ℕ) → n ≢ rtp.number → has_number n (packet_of rtp a) ≡ false
  has_no_other n differs = grind (arith, nat_tests, differs)

  -- the first of its number
  opening-opens : packet_with rtp.number flow ≡ None → opening (flow ++ packet_of rtp a ∷ []) ≡ opening flow ++ packet_of rtp a ∷ []
  opening-opens none = rw (chosen-append opens [] flow (packet_of rtp a), none) refl

  repeated-opens : packet_with rtp.number flow ≡ None → repeated (flow ++ packet_of rtp a ∷ []) ≡ repeated flow
  repeated-opens none = rw (chosen-append repeats [] flow (packet_of rtp a), none) (append-nil (repeated flow))

  -- another of its number
  opening-repeats : is_some (packet_with rtp.number flow) ≡ true → opening (flow ++ packet_of rtp a ∷ []) ≡ opening flow
  opening-repeats stood = rw (chosen-append opens [] flow (packet_of rtp a), stood) (append-nil (opening flow))

  repeated-repeats : is_some (packet_with rtp.number flow) ≡ true → repeated (flow ++ packet_of rtp a ∷ []) ≡ repeated flow ++ packet_of rtp a ∷ []
  repeated-repeats stood = rw (chosen-append repeats [] flow (packet_of rtp a), stood) refl

  -- the first packets of the numbers
  found-here : packet_with rtp.number flow ≡ None → packet_with rtp.number (flow ++ packet_of rtp a ∷ []) ≡ Some (packet_of rtp a)
  found-here none = rw (packet_with-append rtp.number flow (packet_of rtp a), none, has_itself) refl

  found-other : (n : ℕ) → n ≢ rtp.number → packet_with n (flow ++ packet_of rtp a ∷ []) ≡ packet_with n flow
  found-other n differs = packet_with-other n flow (packet_of rtp a) (has_no_other n differs)

  found-again : is_some (packet_with rtp.number flow) ≡ true → (n : ℕ) → packet_with n (flow ++ packet_of rtp a ∷ []) ≡ packet_with n flow
  found-again stood n =
      elim (cases_eq n rtp.number) as (λ _. packet_with n (flow ++ packet_of rtp a ∷ []) ≡ packet_with n flow) [
        | inl same ↦ packet_with-append n flow (packet_of rtp a) ∙ keeps (packet_with n flow)
            (if has_number n (packet_of rtp a) then Some (packet_of rtp a) else None) (ap (λ k. is_some (packet_with k flow)) same ∙ stood)
        | inr differs ↦ found-other n differs
      ]
    where
      keeps : (o p : Option FlowPacket) → is_some o ≡ true → option_or o p ≡ o
      keeps (Some x) p t = refl
      keeps None p t = absurd (false≢true t)

  unread-same : count_by is_unread (flow ++ packet_of rtp a ∷ []) ≡ count_by is_unread flow
  unread-same = grind (arith, common_steps)

  -- the counts of the flow
  counts-opens : (old new : Flow) → CountsFlow old flow → IsCounted old new 1 0 0 → packet_with rtp.number flow ≡ None
      → CountsFlow new (flow ++ packet_of rtp a ∷ [])
  counts-opens old new h c none = record {
    numbers = omega (arith, c.numbers, h.numbers, ap length (opening-opens none), length-append (opening flow) (packet_of rtp a ∷ []));
    repeats = omega (arith, c.repeated, h.repeats, ap length (repeated-opens none));
    unread = omega (arith, c.unread, h.unread, unread-same);
  }

  counts-repeats : (old new : Flow) → CountsFlow old flow → IsCounted old new 0 1 0 → is_some (packet_with rtp.number flow) ≡ true
      → CountsFlow new (flow ++ packet_of rtp a ∷ [])
  counts-repeats old new h c stood = record {
    numbers = omega (arith, c.numbers, h.numbers, ap length (opening-repeats stood));
    repeats = omega (arith, c.repeated, h.repeats, ap length (repeated-repeats stood), length-append (repeated flow) (packet_of rtp a ∷ []));
    unread = omega (arith, c.unread, h.unread, unread-same);
  }

-- what is kept is that of the packet, by equal numbers
keeps-at : (k l : Option Arrival) (p q : FlowPacket) → k ≡ l → p ≡ q → Keeps l p → Keeps k q
keeps-at k l p q same is kept = (kept.0, same ∙ kept.1, kept.2 ∙ ap (λ r. r.rec) is, kept.3 ∙ ap (λ r. r.at) is)

-- the flow has a packet more, and its first packets are the same
holds-same : (v w : View) (flow more pair : List FlowPacket) → HoldsNumbers v flow pair → IsSame v w
    → ((n : ℕ) → packet_with n more ≡ packet_with n flow) → HoldsNumbers w more pair
holds-same v w flow more pair h s same = record {
  own = λ n. s.own n ∙ h.own n ∙ ap is_some (sym (same n));
  other = λ n. s.other n ∙ h.other n;
  own_waits = λ n q is none.
      let here : packet_with n flow ≡ Some q = sym (same n) ∙ is in
      let kept = h.own_waits n q here none in
      let waits : Waits v n = h.own n ∙ ap is_some here ∙ ap (λ b. not b) (sym (h.other n ∙ ap is_some none)) in
      (kept.0, s.kept n kept.0 waits kept.1, kept.2, kept.3);
  other_waits = λ n q is none.
      let gone : packet_with n flow ≡ None = sym (same n) ∙ none in
      let kept = h.other_waits n q is gone in
      let waits : Waits v n = h.own n ∙ ap is_some gone ∙ ap (λ b. not b) (sym (h.other n ∙ ap is_some is)) in
      (kept.0, s.kept n kept.0 waits kept.1, kept.2, kept.3);
}

-- the flow has the first packet of a number more
module _ (v w : View) (flow pair : List FlowPacket) (rtp : Rtp) (a : Arrival) (told : Option Arrival) (h : HoldsNumbers v flow pair)
    (o : IsOpened v w rtp.number a told) where
  absent : packet_with rtp.number flow ≡ None
  absent = none-from_stands (packet_with rtp.number flow) (sym (h.own rtp.number) ∙ o.absent)

  opened-own : (n : ℕ) → w.own n ≡ stands n (flow ++ packet_of rtp a ∷ [])
  opened-own n = elim (cases_eq n rtp.number) as (λ _. w.own n ≡ stands n (flow ++ packet_of rtp a ∷ [])) [
    | inl same ↦
        let one : (n == rtp.number) ≡ true = grind (arith, nat_tests) in
        o.own n ∙ ap (λ b. if b then true else v.own n) one
        ∙ sym (ap (λ k. stands k (flow ++ packet_of rtp a ∷ [])) same ∙ ap is_some (found-here flow rtp a absent))
    | inr differs ↦
        let none : (n == rtp.number) ≡ false = grind (arith, nat_tests) in
        o.own n ∙ ap (λ b. if b then true else v.own n) none ∙ h.own n ∙ ap is_some (sym (found-other flow rtp a n differs))
  ]

  opened-own_waits : (n : ℕ) (q : FlowPacket) → packet_with n (flow ++ packet_of rtp a ∷ []) ≡ Some q → packet_with n pair ≡ None → Keeps (w.kept n) q
  opened-own_waits n q is none = elim (cases_eq n rtp.number) as (λ _. Keeps (w.kept n) q) [
    | inl same ↦
        let both : Some (packet_of rtp a) ≡ Some q =
        sym (found-here flow rtp a absent) ∙ sym (ap (λ k. packet_with k (flow ++ packet_of rtp a ∷ [])) same) ∙ is
        in
        let lone : v.other rtp.number ≡ false = h.other rtp.number ∙ ap is_some (sym (ap (λ k. packet_with k pair) same) ∙ none) in
        let is_it : packet_of rtp a ≡ q = cc in
        keeps-at (w.kept n) (w.kept rtp.number) (packet_of rtp a) q (ap w.kept same) is_it (a, (o.alone lone).1, refl, refl)
    | inr differs ↦
        let here : packet_with n flow ≡ Some q = sym (found-other flow rtp a n differs) ∙ is in
        let kept = h.own_waits n q here none in
        let waits : Waits v n = h.own n ∙ ap is_some here ∙ ap (λ b. not b) (sym (h.other n ∙ ap is_some none)) in
        (kept.0, o.kept n kept.0 differs waits kept.1, kept.2, kept.3)
  ]

  opened-other_waits : (n : ℕ) (q : FlowPacket) → packet_with n pair ≡ Some q → packet_with n (flow ++ packet_of rtp a ∷ []) ≡ None → Keeps (w.kept n) q
  opened-other_waits n q is none = elim (cases_eq n rtp.number) as (λ _. Keeps (w.kept n) q) [
    | inl same ↦
        let bad : Some (packet_of rtp a) ≡ None =
        sym (found-here flow rtp a absent) ∙ sym (ap (λ k. packet_with k (flow ++ packet_of rtp a ∷ [])) same) ∙ none
        in
        absurd cc
    | inr differs ↦
        let gone : packet_with n flow ≡ None = sym (found-other flow rtp a n differs) ∙ none in
        let kept = h.other_waits n q is gone in
        let waits : Waits v n = h.own n ∙ ap is_some gone ∙ ap (λ b. not b) (sym (h.other n ∙ ap is_some is)) in
        (kept.0, o.kept n kept.0 differs waits kept.1, kept.2, kept.3)
  ]

  holds-opened : HoldsNumbers w (flow ++ packet_of rtp a ∷ []) pair
  holds-opened = record {
    own = opened-own;
    other = λ n. o.other n ∙ h.other n;
    own_waits = opened-own_waits;
    other_waits = opened-other_waits;
  }

  -- what was told is the other flow's first packet of the number, where it had one
  told-none : told ≡ None → packet_with rtp.number pair ≡ None
  told-none is = elim (cases_Bool (v.other rtp.number)) as (λ _. packet_with rtp.number pair ≡ None) [
    | inl had ↦
        let q = some-from_stands (packet_with rtp.number pair) (sym (h.other rtp.number) ∙ had) in
        let kept = h.other_waits rtp.number q.0 q.1 absent in
        let bad : None ≡ Some kept.0 = sym is ∙ o.both had kept.0 kept.1 in
        absurd cc
    | inr lone ↦ none-from_stands (packet_with rtp.number pair) (sym (h.other rtp.number) ∙ lone)
  ]

  told-some : (x : Arrival) → told ≡ Some x → (q : FlowPacket) × (packet_with rtp.number pair ≡ Some q) × (x.rec ≡ q.rec) × (x.at ≡ q.at)
  told-some x is = elim (cases_Bool (v.other rtp.number)) as
      (λ _. (q : FlowPacket) × (packet_with rtp.number pair ≡ Some q) × (x.rec ≡ q.rec) × (x.at ≡ q.at)) [
        | inl had ↦
            let q = some-from_stands (packet_with rtp.number pair) (sym (h.other rtp.number) ∙ had) in
            let kept = h.other_waits rtp.number q.0 q.1 absent in
            let both : Some x ≡ Some kept.0 = sym is ∙ o.both had kept.0 kept.1 in
            let same : x ≡ kept.0 = cc in
            (q.0, q.1, ap (λ y. y.rec) same ∙ kept.2, ap (λ y. y.at) same ∙ kept.3)
        | inr lone ↦
            let bad : Some x ≡ None = sym is ∙ (o.alone lone).0 in
            absurd cc
      ]

-- the pages from the other side
own-opposite : (side : Side) (p : Option Page) (i : ℕ) → (page_view (opposite side) p).own i ≡ (page_view side p).other i
own-opposite First None i = refl
own-opposite First (Some p) i = refl
own-opposite Second None i = refl
own-opposite Second (Some p) i = refl

other-opposite : (side : Side) (p : Option Page) (i : ℕ) → (page_view (opposite side) p).other i ≡ (page_view side p).own i
other-opposite First None i = refl
other-opposite First (Some p) i = refl
other-opposite Second None i = refl
other-opposite Second (Some p) i = refl

kept-opposite : (side : Side) (p : Option Page) (i : ℕ) → (page_view (opposite side) p).kept i ≡ (page_view side p).kept i
kept-opposite First None i = refl
kept-opposite First (Some p) i = refl
kept-opposite Second None i = refl
kept-opposite Second (Some p) i = refl

pub holds-opposite : (side : Side) (pages : Pages) (flow pair : List FlowPacket) → HoldsNumbers (view side pages) flow pair
    → HoldsNumbers (view (opposite side) pages) pair flow
holds-opposite side pages flow pair h = record {
  own = λ n. own-opposite side (page_of pages n) (n % 32) ∙ h.other n;
  other = λ n. other-opposite side (page_of pages n) (n % 32) ∙ h.own n;
  own_waits = λ n q is none. keeps-at _ _ q q (kept-opposite side (page_of pages n) (n % 32)) refl (h.other_waits n q is none);
  other_waits = λ n q is none. keeps-at _ _ q q (kept-opposite side (page_of pages n) (n % 32)) refl (h.own_waits n q is none);
}

-- no number stands in no packet
pub holds-none : (pages : Pages) → ((side : Side) (n : ℕ) → (view side pages).own n ≡ false) → HoldsNumbers (view First pages) [] []
holds-none pages none = record {
  own = none First;
  other = λ n. sym (own-opposite First (page_of pages n) (n % 32)) ∙ none Second n;
  own_waits = λ n q is lone. absurd (let bad : None ≡ Some q = is in cc);
  other_waits = λ n q is lone. absurd (let bad : None ≡ Some q = is in cc);
}

-- the skews after a packet of a flow
module _ (flow pair : List FlowPacket) (rtp : Rtp) (a : Arrival) where
  -- that is the first of its number, which the other flow hasn't
  skews-alone : packet_with rtp.number flow ≡ None → packet_with rtp.number pair ≡ None
      → (skews (flow ++ packet_of rtp a ∷ []) pair ≡ skews flow pair) × (skews pair (flow ++ packet_of rtp a ∷ []) ≡ skews pair flow)
  skews-alone none lone =
      let p = packet_of rtp a in
      let by = λ (n : ℕ). packet_with n pair in (
        ap (skews_by by) (opening-opens flow rtp a none) ∙ flow_end by ∙ ap (λ w. skews flow pair ++ (extreme_with p w ++ [])) lone
            ∙ append-nil (skews flow pair),
        none-same rtp.number (λ n. packet_with n flow)
            (λ n. packet_with n (flow ++ p ∷ [])) p none (found-here flow rtp a none) (found-other flow rtp a) [] pair lone,
      )
    where
      flow_end : (by : ℕ → Option FlowPacket) → skews_by by (opening flow ++ packet_of rtp a ∷ [])
          ≡ skews_by by (opening flow) ++ (extreme_with (packet_of rtp a) (by rtp.number) ++ [])
      flow_end by = flat_map-append (λ x. extreme_with x (by (number_of x))) (opening flow) (packet_of rtp a ∷ [])

  -- that is not the first of its number
  skews-again : is_some (packet_with rtp.number flow) ≡ true → (skews (flow ++ packet_of rtp a ∷ []) pair ≡ skews flow pair)
      × (skews pair (flow ++ packet_of rtp a ∷ []) ≡ skews pair flow)
  skews-again stood = (
    ap (skews_by (λ n. packet_with n pair)) (opening-repeats flow rtp a stood),
    skews_by-same (λ n. packet_with n flow) (λ n. packet_with n (flow ++ packet_of rtp a ∷ [])) (found-again flow rtp a stood) (opening pair),
  )

  -- that is matched
  skews-both : (q : FlowPacket) → packet_with rtp.number flow ≡ None → packet_with rtp.number pair ≡ Some q
      → (skews (flow ++ packet_of rtp a ∷ []) pair ≡ skews flow pair ++ extreme (packet_of rtp a) q ∷ [])
      × ((left : List Extreme) × (right : List Extreme) × (skews pair flow ≡ left ++ right)
      × (skews pair (flow ++ packet_of rtp a ∷ []) ≡ left ++ extreme q (packet_of rtp a) ∷ right))
  skews-both q none there =
      let p = packet_of rtp a in
      let by = λ (n : ℕ). packet_with n pair in (
        ap (skews_by by) (opening-opens flow rtp a none) ∙ flat_map-append (λ y. extreme_with y (by (number_of y))) (opening flow) (p ∷ [])
            ∙ ap (λ w. skews flow pair ++ (extreme_with p w ++ [])) there,
        one-more rtp.number (λ n. packet_with n flow)
            (λ n. packet_with n (flow ++ p ∷ [])) p none (found-here flow rtp a none) (found-other flow rtp a) [] pair q refl there,
      )

-- the skew of two packets by what is kept of one of them
extreme-second : (p q : FlowPacket) (x : Arrival) → x.rec ≡ q.rec → x.at ≡ q.at
    → extreme p q ≡ record { skew = pos x.at -ℤ pos p.at; first_rec = p.rec; second_rec = x.rec }
extreme-second p q x rec at = rw (rec, at) refl

extreme-first : (p q : FlowPacket) (x : Arrival) → x.rec ≡ p.rec → x.at ≡ p.at
    → extreme p q ≡ record { skew = pos q.at -ℤ pos x.at; first_rec = x.rec; second_rec = q.rec }
extreme-first p q x rec at = rw (rec, at) refl

-- as many skews as before, and one
length-insert : (n m : ℕ) (es fs left right : List Extreme) (e : Extreme) → n ≡ m + 1 → m ≡ length es → es ≡ left ++ right → fs ≡ left ++ e ∷ right
    → n ≡ length fs
length-insert n m es fs left right e one before is new =
    omega (arith, one, before, ap length is, ap length new, length-append left right, length-append left (e ∷ right))

-- a packet of a flow came that was matched with none: its numbers, its counts, and the skews
pub record CameAlone (w : View) (new : Flow) (flow more pair : List FlowPacket) : Type 0 where
  pub numbers : HoldsNumbers w more pair
  pub counts : CountsFlow new more
  pub skews_there : skews more pair ≡ skews flow pair
  pub skews_back : skews pair more ≡ skews pair flow

-- a packet p of a flow came that was matched with q of the other, of which x is kept
pub record CameMatched (w : View) (new : Flow) (flow more pair : List FlowPacket) (p : FlowPacket) (x : Arrival) : Type 0 where
  pub numbers : HoldsNumbers w more pair
  pub counts : CountsFlow new more
  pub matched : FlowPacket
  pub rec : x.rec ≡ matched.rec
  pub at : x.at ≡ matched.at
  pub skews_there : skews more pair ≡ skews flow pair ++ extreme p matched ∷ []
  pub left : List Extreme
  pub right : List Extreme
  pub skews_before : skews pair flow ≡ left ++ right
  pub skews_back : skews pair more ≡ left ++ extreme matched p ∷ right

module _ (v w : View) (old new : Flow) (flow pair : List FlowPacket) (h : HoldsNumbers v flow pair) (c : CountsFlow old flow) where
  -- a packet that was read
  read-alone : (rtp : Rtp) (a : Arrival) → Steps v w old new rtp.number a None → CameAlone w new flow (flow ++ packet_of rtp a ∷ []) pair
  read-alone rtp a (inl step) =
      let none = absent v w flow pair rtp a None h step.0 in
      let same = skews-alone flow pair rtp a none (told-none v w flow pair rtp a None h step.0 refl) in
      record {
        numbers = holds-opened v w flow pair rtp a None h step.0;
        counts = counts-opens flow rtp a old new c step.1 none;
        skews_there = same.0;
        skews_back = same.1;
      }
  read-alone rtp a (inr step) =
      let stood : is_some (packet_with rtp.number flow) ≡ true = sym (h.own rtp.number) ∙ step.0 in
      let same = skews-again flow pair rtp a stood in
      record {
        numbers = holds-same v w flow (flow ++ packet_of rtp a ∷ []) pair h step.1 (found-again flow rtp a stood);
        counts = counts-repeats flow rtp a old new c step.2 stood;
        skews_there = same.0;
        skews_back = same.1;
      }

  read-matched : (rtp : Rtp) (a x : Arrival) → Steps v w old new rtp.number a (Some x)
      → CameMatched w new flow (flow ++ packet_of rtp a ∷ []) pair (packet_of rtp a) x
  read-matched rtp a x (inl step) =
      let none = absent v w flow pair rtp a (Some x) h step.0 in
      let q = told-some v w flow pair rtp a (Some x) h step.0 x refl in
      let more = skews-both flow pair rtp a q.0 none q.1 in
      record {
        numbers = holds-opened v w flow pair rtp a (Some x) h step.0;
        counts = counts-opens flow rtp a old new c step.1 none;
        matched = q.0;
        rec = q.2;
        at = q.3;
        skews_there = more.0;
        left = more.1.0;
        right = more.1.1;
        skews_before = more.1.2;
        skews_back = more.1.3;
      }
  read-matched rtp a x (inr step) = absurd (let bad = step.3 in cc)

-- a packet that was not read has no number
opening-unread : (flow : List FlowPacket) (rec at : ℕ) (fault : PacketFault) → opening (flow ++ unread_of rec at fault ∷ []) ≡ opening flow
opening-unread flow rec at fault = chosen-append opens [] flow (unread_of rec at fault) ∙ append-nil (opening flow)

repeated-unread : (flow : List FlowPacket) (rec at : ℕ) (fault : PacketFault) → repeated (flow ++ unread_of rec at fault ∷ []) ≡ repeated flow
repeated-unread flow rec at fault = chosen-append repeats [] flow (unread_of rec at fault) ∙ append-nil (repeated flow)

found-unread : (flow : List FlowPacket) (rec at : ℕ) (fault : PacketFault) (n : ℕ) → packet_with n (flow ++ unread_of rec at fault ∷ []) ≡ packet_with n flow
found-unread flow rec at fault n = packet_with-other n flow (unread_of rec at fault) refl

unread-more : (flow : List FlowPacket) (rec at : ℕ) (fault : PacketFault)
    → count_by is_unread (flow ++ unread_of rec at fault ∷ []) ≡ count_by is_unread flow + 1
unread-more flow rec at fault = grind (arith, common_steps)

-- a packet that was not read
module _ (flow pair : List FlowPacket) (rec at : ℕ) (fault : PacketFault) where
  unread-alone : (v w : View) (old new : Flow) → HoldsNumbers v flow pair → CountsFlow old flow → IsSame v w → IsCounted old new 0 0 1
      → CameAlone w new flow (flow ++ unread_of rec at fault ∷ []) pair
  unread-alone v w old new h c same one = record {
    numbers = holds-same v w flow (flow ++ unread_of rec at fault ∷ []) pair h same (found-unread flow rec at fault);
    counts = record {
      numbers = omega (arith, one.numbers, c.numbers, ap length (opening-unread flow rec at fault));
      repeats = omega (arith, one.repeated, c.repeats, ap length (repeated-unread flow rec at fault));
      unread = omega (arith, one.unread, c.unread, unread-more flow rec at fault);
    };
    skews_there = ap (skews_by (λ n. packet_with n pair)) (opening-unread flow rec at fault);
    skews_back = skews_by-same (λ n. packet_with n flow) (λ n. packet_with n (flow ++ unread_of rec at fault ∷ [])) (found-unread flow rec at fault)
        (opening pair);
  }

same-view : (side : Side) (before after : Pages) → after ≡ before → IsSame (view side before) (view side after)
same-view side before after is = subst (λ p. IsSame (view side before) (view side p)) (sym is) record
    { own = λ n. refl; other = λ n. refl; kept = λ n x waits e. e }

module _ (side : Side) (before after : Pages) (old new : Flow) (flow pair : List FlowPacket) (a : Arrival) (h : HoldsNumbers (view side before) flow pair)
    (c : CountsFlow old flow) where
  -- a packet of a side came, read or not
  came-alone : (r : Result Rtp PacketFault) → Comes side before after old new a r None
      → CameAlone (view side after) new flow (flow ++ record { rec = a.rec; at = a.at; rtp = r } ∷ []) pair
  came-alone (Ok rtp) step = read-alone (view side before) (view side after) old new flow pair h c rtp a step
  came-alone (Err fault) step =
      unread-alone flow pair a.rec a.at fault (view side before) (view side after) old new h c (same-view side before after step.0) step.1

  came-matched : (r : Result Rtp PacketFault) (x : Arrival) → Comes side before after old new a r (Some x)
      → CameMatched (view side after) new flow (flow ++ record { rec = a.rec; at = a.at; rtp = r } ∷ []) pair record { rec = a.rec; at = a.at; rtp = r } x
  came-matched (Ok rtp) x step = read-matched (view side before) (view side after) old new flow pair h c rtp a x step
  came-matched (Err fault) x step = absurd (let bad = step.2 in cc)

module _ (s t : Skew) (f g : List FlowPacket) (a : Arrival) (stood : StandsFor s f g) (whole : t.spent ≡ false) (r : Result Rtp PacketFault) where
  -- a packet of the first flow that is matched with none
  pub first-alone : Comes First s.pages t.pages s.first t.first a r None → t.second ≡ s.second → t.matches ≡ s.matches
      → StandsFor t (f ++ record { rec = a.rec; at = a.at; rtp = r } ∷ []) g
  first-alone comes rest same =
      let more = f ++ record { rec = a.rec; at = a.at; rtp = r } ∷ [] in
      let came = came-alone First s.pages t.pages s.first t.first f g a stood.numbers stood.first r comes in
      record {
        whole = whole;
        first = came.counts;
        second = subst (λ c. CountsFlow c g) (sym rest) stood.second;
        numbers = came.numbers;
        matches = subst (λ m. HoldsSkews m (skews more g)) (sym same) (subst (HoldsSkews s.matches) (sym came.skews_there) stood.matches);
        back = ap (λ m. m.matched) same ∙ stood.back ∙ ap length (sym came.skews_back);
      }

  -- and that is matched
  pub first-matched : (x : Arrival) → Comes First s.pages t.pages s.first t.first a r (Some x) → t.second ≡ s.second
      → t.matches.matched ≡ s.matches.matched + 1
      → ((before after : List Extreme) → HoldsSkews s.matches (before ++ after)
      → HoldsSkews t.matches (before ++ record { skew = pos x.at -ℤ pos a.at; first_rec = a.rec; second_rec = x.rec } ∷ after))
      → StandsFor t (f ++ record { rec = a.rec; at = a.at; rtp = r } ∷ []) g
  first-matched x comes rest one put =
      let p : FlowPacket = record { rec = a.rec; at = a.at; rtp = r } in
      let came = came-matched First s.pages t.pages s.first t.first f g a stood.numbers stood.first r x comes in
      let all : HoldsSkews s.matches (skews f g ++ []) = subst (HoldsSkews s.matches) (sym (append-nil (skews f g))) stood.matches in
      record {
        whole = whole;
        first = came.counts;
        second = subst (λ c. CountsFlow c g) (sym rest) stood.second;
        numbers = came.numbers;
        matches = subst (HoldsSkews t.matches) (ap (λ e. skews f g ++ e ∷ []) (sym (extreme-second p came.matched x came.rec came.at)) ∙ sym came.skews_there)
            (put (skews f g) [] all);
        back = length-insert t.matches.matched s.matches.matched (skews g f)
            (skews g (f ++ p ∷ [])) came.left came.right (extreme came.matched p) one stood.back came.skews_before came.skews_back;
      }

  -- a packet of the second flow that is matched with none
  pub second-alone : Comes Second s.pages t.pages s.second t.second a r None → t.first ≡ s.first → t.matches ≡ s.matches
      → StandsFor t f (g ++ record { rec = a.rec; at = a.at; rtp = r } ∷ [])
  second-alone comes rest same =
      let more = g ++ record { rec = a.rec; at = a.at; rtp = r } ∷ [] in
      let came = came-alone Second s.pages t.pages s.second t.second g f a (holds-opposite First s.pages f g stood.numbers) stood.second r comes in
      record {
        whole = whole;
        first = subst (λ c. CountsFlow c f) (sym rest) stood.first;
        second = came.counts;
        numbers = holds-opposite Second t.pages more f came.numbers;
        matches = subst (λ m. HoldsSkews m (skews f more)) (sym same) (subst (HoldsSkews s.matches) (sym came.skews_back) stood.matches);
        back = ap (λ m. m.matched) same ∙ stood.back ∙ ap length (sym came.skews_there);
      }

  -- and that is matched
  pub second-matched : (x : Arrival) → Comes Second s.pages t.pages s.second t.second a r (Some x) → t.first ≡ s.first
      → t.matches.matched ≡ s.matches.matched + 1
      → ((before after : List Extreme) → HoldsSkews s.matches (before ++ after)
      → HoldsSkews t.matches (before ++ record { skew = pos a.at -ℤ pos x.at; first_rec = x.rec; second_rec = a.rec } ∷ after))
      → StandsFor t f (g ++ record { rec = a.rec; at = a.at; rtp = r } ∷ [])
  second-matched x comes rest one put =
      let p : FlowPacket = record { rec = a.rec; at = a.at; rtp = r } in
      let came = came-matched Second s.pages t.pages s.second t.second g f a (holds-opposite First s.pages f g stood.numbers) stood.second r x comes in
      let all : HoldsSkews s.matches (came.left ++ came.right) = subst (HoldsSkews s.matches) came.skews_before stood.matches in
      record {
        whole = whole;
        first = subst (λ c. CountsFlow c f) (sym rest) stood.first;
        second = came.counts;
        numbers = holds-opposite Second t.pages (g ++ p ∷ []) f came.numbers;
        matches = subst (HoldsSkews t.matches) (ap (λ e. came.left ++ e ∷ came.right) (sym (extreme-first came.matched p x came.rec came.at)) ∙ sym
            came.skews_back)
            (put came.left came.right all);
        back = length-insert t.matches.matched s.matches.matched (skews g f) (skews (g ++ p ∷ []) f) (skews g f) [] (extreme p came.matched) one stood.back
            (sym (append-nil (skews g f))) came.skews_there;
      }

-- the numbers of one flow alone
alone-is : (flow pair : List FlowPacket) → length (opening flow) ≡ length (skews flow pair) + alone flow pair
alone-is flow pair = matched-alone (λ n. packet_with n pair) (opening flow)

-- the row by what is kept
pub row-is : (s : Skew) (f g : List FlowPacket) (first_only second_only : ℕ) → StandsFor s f g → first_only ≡ s.first.numbers - s.matches.matched
    → second_only ≡ s.second.numbers - s.matches.matched
    → record {
      matched = s.matches.matched;
      first_only = first_only;
      second_only = second_only;
      repeated = s.first.repeated + s.second.repeated;
      unread = s.first.unread + s.second.unread;
      least = s.matches.least;
      greatest = s.matches.greatest;
    } ≡ skew f g
row-is s f g first_only second_only stood of_first of_second =
    let one : first_only ≡ alone f g = omega (arith, of_first, stood.first.numbers, stood.matches.matched, alone-is f g) in
    let two : second_only ≡ alone g f = omega (arith, of_second, stood.second.numbers, stood.back, alone-is g f) in
    rw (
      stood.matches.matched,
      stood.matches.least,
      stood.matches.greatest,
      stood.first.repeats,
      stood.second.repeats,
      stood.first.unread,
      stood.second.unread,
      one,
      two,
    ) refl
