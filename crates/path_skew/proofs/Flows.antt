-- What one packet more in a flow changes.
use Rattle.std.proofs.Common.{◌≡◌, ◌≢◌, ℕ, ◌+◌, Bool, true, false, not, if◌then◌else◌, is_some, cond, List, [], ◌∷◌, ◌++◌, length, Option, Some, None, Result}
use Rattle.std.proofs.Common.{Ok, Err, count_by, refl, sym, ap, ◌∙◌, arith, inl, inr, append_assoc, append-nil}
use mathlib.Core.Bool.{true≢false, false≢true}
use Rattle.std.specs.List.{flat_map}
use Rattle.std.specs.Option.{option_or}
use Rattle.std.proofs.lemmas.List.Folds.{find-append}
use Rattle.std.proofs.lemmas.List.Concat.{flat_map-append}
use Rattle.std.proofs.lemmas.List.Sums.{sum_by-cons}
use Rattle.std.proofs.lemmas.Bool.{cases_Bool}
use Rattle.std.proofs.lemmas.Bool.Decides.{nat_tests}
use Rattle.timing_base.specs.Flows.{read_or_zeros}
use Rattle.timing_base.specs.declared.packet.Rtp.{Rtp}
use Rattle.timing_base.specs.declared.packet.FlowPacket.{FlowPacket}
use Rattle.timing_base.specs.declared.packet.PacketFault.{PacketFault}
use Rattle.path_skew.specs.declared.row.Extreme.{Extreme}
use Rattle.path_skew.specs.Pair.{is_read_as, has_number, packet_with, stands, number_of, opens, chosen, extreme, extreme_with}

-- one packet more is the first of its number where none was before
pub packet_with-append : (number : ℕ) (flow : List FlowPacket) (p : FlowPacket)
    → packet_with number (flow ++ p ∷ []) ≡ option_or (packet_with number flow) (if has_number number p then Some p else None)
packet_with-append number flow p = find-append (has_number number) flow (p ∷ [])

-- a number that stands before stands after
stands-more : (number : ℕ) (flow : List FlowPacket) (p : FlowPacket) → stands number flow ≡ true → stands number (flow ++ p ∷ []) ≡ true
stands-more number flow p there = rw (packet_with-append number flow p) (more (packet_with number flow) (if has_number number p then Some p else None) there)
  where
    more : (o n : Option FlowPacket) → is_some o ≡ true → is_some (option_or o n) ≡ true
    more (Some x) n t = refl
    more None n t = absurd (false≢true t)

-- a packet stands itself
stands-last : (number : ℕ) (flow : List FlowPacket) (p : FlowPacket) → has_number number p ≡ true → stands number (flow ++ p ∷ []) ≡ true
stands-last number flow p is = rw (packet_with-append number flow p, is) (last (packet_with number flow))
  where
    last : (o : Option FlowPacket) → is_some (option_or o (Some p)) ≡ true
    last (Some x) = refl
    last None = refl

-- none stands where none stood, and the packet is of another number
pub packet_with-other : (number : ℕ) (flow : List FlowPacket) (p : FlowPacket) → has_number number p ≡ false
    → packet_with number (flow ++ p ∷ []) ≡ packet_with number flow
packet_with-other number flow p is = rw (packet_with-append number flow p, is) (same (packet_with number flow))
  where
    same : (o : Option FlowPacket) → option_or o None ≡ o
    same (Some x) = refl
    same None = refl

-- one packet more of a flow is chosen by itself
pub chosen-append : (test : List FlowPacket → Result Rtp PacketFault → Bool) (before flow : List FlowPacket) (p : FlowPacket)
    → chosen test before (flow ++ p ∷ []) ≡ chosen test before flow ++ (if test (before ++ flow) p.rtp then p ∷ [] else [])
chosen-append test before [] p = rw (append-nil, append-nil) refl
chosen-append test before (q ∷ flow) p =
    rw (chosen-append test (before ++ q ∷ []) flow p, append_assoc before (q ∷ []) flow)
    (sym (append_assoc (if test before q.rtp then q ∷ [] else []) (chosen test (before ++ q ∷ []) flow)
    (if test (before ++ (q ∷ flow)) p.rtp then p ∷ [] else [])))

-- a packet that opens a number has none before
opens_number : (before : List FlowPacket) (r : Result Rtp PacketFault) → opens before r ≡ true → stands (read_or_zeros r).number before ≡ false
opens_number before (Ok rtp) e = no (stands rtp.number before) e
  where
    no : (b : Bool) → not b ≡ true → b ≡ false
    no true t = absurd (false≢true t)
    no false t = refl
opens_number before (Err fault) e = absurd (false≢true e)

-- a packet with this number opens it where it didn't stand
opens_here : (number : ℕ) (before : List FlowPacket) (r : Result Rtp PacketFault) → is_read_as number r ≡ true
    → (opens before r ≡ not (stands number before)) × ((read_or_zeros r).number ≡ number)
opens_here number before (Ok rtp) is =
    let same : rtp.number ≡ number = grind (arith, nat_tests, is) in
    (ap (λ n. not (stands n before)) same, same)
opens_here number before (Err fault) is = absurd (false≢true is)

-- another packet that was read has another number
other_number : (number : ℕ) (before : List FlowPacket) (r : Result Rtp PacketFault) → is_read_as number r ≡ false → opens before r ≡ true
    → (read_or_zeros r).number ≢ number
other_number number before (Ok rtp) is open_ same = grind (arith, nat_tests, is, same)
other_number number before (Err fault) is open_ same = false≢true open_

-- the skews of packets by the other flow's first packets
abbrev pub skews_by : (ℕ → Option FlowPacket) → List FlowPacket → List Extreme
skews_by f ps = flat_map (λ p. extreme_with p (f (number_of p))) ps

-- the same packets have the same skews
pub skews_by-same : (f g : ℕ → Option FlowPacket) → ((n : ℕ) → g n ≡ f n) → (ps : List FlowPacket) → skews_by g ps ≡ skews_by f ps
skews_by-same f g same [] = refl
skews_by-same f g same (p ∷ ps) = rw (same (number_of p), skews_by-same f g same ps) refl

-- one more packet is matched or alone
matched-alone_one : (f : ℕ → Option FlowPacket) (p : FlowPacket) (ps : List FlowPacket)
    → length ps ≡ length (skews_by f ps) + count_by (λ q. not (is_some (f (number_of q)))) ps → (o : Option FlowPacket)
    → length (p ∷ ps) ≡ length (extreme_with p o ++ skews_by f ps) + (cond (not (is_some o)) 1 0 + count_by (λ q. not (is_some (f (number_of q)))) ps)
matched-alone_one f p ps before None = omega (arith, before)
matched-alone_one f p ps before (Some q) = omega (arith, before)

-- each first packet is matched or alone
pub matched-alone : (f : ℕ → Option FlowPacket) (ps : List FlowPacket) → length ps ≡ length (skews_by f ps) + count_by (λ p. not (is_some (f (number_of p)))) ps
matched-alone f [] = refl
matched-alone f (p ∷ ps) = matched-alone_one f p ps (matched-alone f ps) (f (number_of p))
    ∙ ap (λ n. length (skews_by f (p ∷ ps)) + n) (sym (sum_by-cons (λ q. cond (not (is_some (f (number_of q)))) 1 0) p ps))

-- the packet at the head of a flow is the first with the number, or the first stands behind it
find-head : (b : Bool) (r p : FlowPacket) (o : Option FlowPacket) → b ≡ true → cond b (Some r) o ≡ Some p → r ≡ p
find-head b r p o here e = let e' : Some r ≡ Some p = rw here at e in cc

find-behind : (b : Bool) (r : FlowPacket) (o n : Option FlowPacket) → b ≡ false → cond b (Some r) o ≡ n → o ≡ n
find-behind b r o n other e = rw other at e

find-none : (b : Bool) (r : FlowPacket) (o : Option FlowPacket) → cond b (Some r) o ≡ None → (b ≡ false) × (o ≡ None)
find-none true r o e = absurd cc
find-none false r o e = (refl, e)

module _ (m : ℕ) (f g : ℕ → Option FlowPacket) (q : FlowPacket) (absent : f m ≡ None) (there : g m ≡ Some q) (others : (n : ℕ) → n ≢ m → g n ≡ f n) where
  -- a packet that isn't the first of the number has the skew that it had
  head-same : (before : List FlowPacket) (p : FlowPacket) → (opens before p.rtp ≡ true → number_of p ≢ m)
      → skews_by g (if opens before p.rtp then p ∷ [] else []) ≡ skews_by f (if opens before p.rtp then p ∷ [] else [])
  head-same before p apart =
      elim (cases_Bool (opens before p.rtp)) as (λ _. skews_by g (if opens before p.rtp then p ∷ [] else [])
      ≡ skews_by f (if opens before p.rtp then p ∷ [] else [])) [
        | inl so ↦ let e = others (number_of p) (apart so) in rw so (ap (λ o. extreme_with p o ++ []) e)
        | inr not_so ↦ rw not_so refl
      ]

  -- the number stood before
  rest-same : (before flow : List FlowPacket) → stands m before ≡ true → skews_by g (chosen opens before flow) ≡ skews_by f (chosen opens before flow)
  rest-same before [] stood = refl
  rest-same before (p ∷ flow) stood =
      let head = (if opens before p.rtp then p ∷ [] else []) in
      let rest = chosen opens (before ++ p ∷ []) flow in
      flat_map-append (λ x. extreme_with x (g (number_of x))) head rest
      ∙ ap (λ xs. xs ++ skews_by g rest) (head-same before p (λ so same. true≢false
      (sym stood ∙ ap (λ n. stands n before) (sym same) ∙ opens_number before p.rtp so)))
      ∙ ap (λ xs. skews_by f head ++ xs) (rest-same (before ++ p ∷ []) flow (stands-more m before p stood))
      ∙ sym (flat_map-append (λ x. extreme_with x (f (number_of x))) head rest)

  -- the number stands nowhere in the flow
  pub none-same : (before flow : List FlowPacket) → packet_with m flow ≡ None → skews_by g (chosen opens before flow) ≡ skews_by f (chosen opens before flow)
  none-same before [] none = refl
  none-same before (p ∷ flow) none =
      let head = (if opens before p.rtp then p ∷ [] else []) in
      let rest = chosen opens (before ++ p ∷ []) flow in
      let not_here = find-none (has_number m p) p (packet_with m flow) none in
      flat_map-append (λ x. extreme_with x (g (number_of x))) head rest
      ∙ ap (λ xs. xs ++ skews_by g rest) (head-same before p (other_number m before p.rtp not_here.0))
      ∙ ap (λ xs. skews_by f head ++ xs) (none-same (before ++ p ∷ []) flow not_here.1)
      ∙ sym (flat_map-append (λ x. extreme_with x (f (number_of x))) head rest)

  -- the number stands in the flow: its skew comes to the others
  pub one-more : (before flow : List FlowPacket) (p : FlowPacket) → packet_with m before ≡ None → packet_with m flow ≡ Some p
      → (left : List Extreme) × (right : List Extreme) × (skews_by f (chosen opens before flow) ≡ left ++ right)
      × (skews_by g (chosen opens before flow) ≡ left ++ extreme p q ∷ right)
  one-more before [] p none is = absurd cc
  one-more before (r ∷ flow) p none is =
      let head = (if opens before r.rtp then r ∷ [] else []) in
      let rest = chosen opens (before ++ r ∷ []) flow in
      elim (cases_Bool (has_number m r)) as (λ _. (left : List Extreme) × (right : List Extreme) × (skews_by f (chosen opens before (r ∷ flow)) ≡ left ++ right)
      × (skews_by g (chosen opens before (r ∷ flow)) ≡ left ++ extreme p q ∷ right)) [
        | inl here ↦
            let same : r ≡ p = find-head (has_number m r) r p (packet_with m flow) here is in
            let what = opens_here m before r.rtp here in
            let opened : opens before r.rtp ≡ true = what.0 ∙ ap (λ o. not (is_some o)) none in
            let of_f : f (number_of r) ≡ None = ap f what.1 ∙ absent in
            let of_g : g (number_of r) ≡ Some q = ap g what.1 ∙ there in
            let behind = rest-same (before ++ r ∷ []) flow (stands-last m before r here) in (
              [],
              skews_by f rest,
              rw opened (ap (λ o. extreme_with r o ++ skews_by f rest) of_f),
              rw opened (ap (λ o. extreme_with r o ++ skews_by g rest) of_g ∙ ap (λ x. extreme x q ∷ skews_by g rest) same
                  ∙ ap (λ xs. extreme p q ∷ xs) behind),
            )
        | inr other ↦
            let more = one-more (before ++ r ∷ []) flow p (packet_with-other m before r other ∙ none)
            (find-behind (has_number m r) r (packet_with m flow) (Some p) other is) in (
              skews_by f head ++ more.0,
              more.1,
              flat_map-append (λ x. extreme_with x (f (number_of x))) head rest ∙ ap (λ xs. skews_by f head ++ xs) more.2
                  ∙ sym (append_assoc (skews_by f head) more.0 more.1),
              flat_map-append (λ x. extreme_with x (g (number_of x))) head rest
                  ∙ ap (λ xs. xs ++ skews_by g rest) (head-same before r (other_number m before r.rtp other)) ∙ ap (λ xs. skews_by f head ++ xs) more.3
                  ∙ sym (append_assoc (skews_by f head) more.0 (extreme p q ∷ more.1)),
            )
      ]
