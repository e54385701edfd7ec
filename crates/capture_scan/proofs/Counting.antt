-- The numbers of a stream with one packet more are its numbers before, and that packet.
use Rattle.std.proofs.Common.{◌≡◌, ℕ, ◌+◌, min, max, Bool, true, false, cond, ◌&&◌, ◌||◌, List, [], ◌∷◌, ◌++◌, map, filter_map, length, Option, Some, None}
use Rattle.std.proofs.Common.{eqb-true, option_to_list, refl, sym, ap, ◌∙◌, arith, sum_by, count_by, fold}
use Rattle.std.specs.Prelude.{◌==◌, if◌then◌else◌, nat_lt}
use Rattle.std.specs.List.{cons_option, last_or, list_all, list_any}
use Rattle.std.proofs.lemmas.Bool.{and_right, ne_eqb}
use Rattle.std.proofs.lemmas.List.{append-nil, length-map, length_push, map_push}
use Rattle.std.proofs.lemmas.List.Elements.{filter_map-append}
use Rattle.std.proofs.lemmas.List.Folds.{list_all-append, list_any-append}
use Rattle.std.proofs.lemmas.List.Sums.{fold_push, sum_by_push}
use Rattle.timing_base.specs.declared.packet.Rtp.{Rtp}
use Rattle.capture_scan.specs.Counting.{lines_with, mark_next, mark_of, order_next, pace_next, pace_with, range_next, stream_next}
use Rattle.capture_scan.specs.Streams.{arrival, goes_back, has_other_type, is_same, last_from, lines_of, lost_in, marks_from, neighbours, order_of}
use Rattle.capture_scan.specs.Streams.{extended, jump, sequence}
use Rattle.capture_scan.specs.Streams.{pace_between, pairs_from, range_from, size, step, stream_from, wraps_alone}
use Rattle.capture_scan.specs.declared.mark.Mark.{Mark}
use Rattle.capture_scan.specs.declared.packet.Line.{Line}
use Rattle.capture_scan.specs.declared.packet.Packet.{Packet}
use Rattle.capture_scan.specs.declared.stream.Lines.{Lines}
use Rattle.capture_scan.specs.declared.stream.Order.{Order}

module _ {X : Type 0} where
  -- the last item
  pub last_from-push : (x : X) (ys : List X) (z : X) → last_from x (ys ++ z ∷ []) ≡ z
  last_from-push x [] z = refl
  last_from-push x (y ∷ ys) z = last_from-push y ys z

  pub last_or-from : (o : Option X) (x : X) (ys : List X) → last_or o (x ∷ ys) ≡ Some (last_from x ys)
  last_or-from o x [] = refl
  last_or-from o x (y ∷ ys) = last_or-from (Some x) y ys

  pub last_or-push : (o : Option X) (xs : List X) (z : X) → last_or o (xs ++ z ∷ []) ≡ Some z
  last_or-push o [] z = refl
  last_or-push o (x ∷ xs) z = last_or-push (Some x) xs z

  pub some_same : (a b : X) → Some a ≡ Some b → a ≡ b
  some_same a b e = cc

  pub none_some : {A : Type 0} (a : X) → None ≡ Some a → A
  none_some a e = absurd (cc)

  -- the last pair is of the last two items
  pairs_from-push : (x : X) (ys : List X) (z : X) → pairs_from x (ys ++ z ∷ []) ≡ pairs_from x ys ++ (last_from x ys, z) ∷ []
  pairs_from-push x [] z = refl
  pairs_from-push x (y ∷ ys) z = ap (λ (t : List (X × X)). (x, y) ∷ t) (pairs_from-push y ys z)

  pub neighbours-push : (xs : List X) (a z : X) → last_or None xs ≡ Some a → neighbours (xs ++ z ∷ []) ≡ neighbours xs ++ (a, z) ∷ []
  neighbours-push [] a z e = none_some a e
  neighbours-push (x ∷ xs) a z e =
      pairs_from-push x xs z ∙ ap (λ (l : X). pairs_from x xs ++ (l, z) ∷ []) (some_same (last_from x xs) a (sym (last_or-from None x xs) ∙ e))

-- the order of one packet number more
pub order_of-push : (ns : List ℕ) (a n : ℕ) → last_or None ns ≡ Some a → order_of (ns ++ n ∷ []) ≡ order_next (order_of ns) (a, n)
order_of-push ns a n h =
    let e = neighbours-push ns a n h in
    λ i. record {
      lost = (ap (sum_by lost_in) e ∙ sum_by_push lost_in (neighbours ns) (a, n)) i;
      back = (ap (count_by goes_back) e ∙ sum_by_push (λ x. cond (goes_back x) 1 0) (neighbours ns) (a, n)) i;
      same = (ap (count_by is_same) e ∙ sum_by_push (λ x. cond (is_same x) 1 0) (neighbours ns) (a, n)) i;
      wraps = (ap (count_by wraps_alone) e ∙ sum_by_push (λ x. cond (wraps_alone x) 1 0) (neighbours ns) (a, n)) i;
    }

-- a packet with the next number changes nothing of the order
pub order_next-next : (o : Order) (a n : ℕ) → n ≡ a + 1 → order_next o (a, n) ≡ o
order_next-next o a n next =
    let none : jump (a, n) ≡ 0 = omega (arith, next) in
    let lost : lost_in (a, n) ≡ 0 = ap (λ j. if nat_lt j 32768 then j else 0) none in
    let back : goes_back (a, n) ≡ false = ap (λ j. nat_lt 32767 j && nat_lt j 65535) none in
    let same : is_same (a, n) ≡ false = ap (λ j. j == 65535) none in
    λ i. record {
      lost = (ap (λ l. o.lost + l) lost ∙ plus_none o.lost) i;
      back = (ap (λ b. o.back + (if b then 1 else 0)) back ∙ plus_none o.back) i;
      same = (ap (λ b. o.same + (if b then 1 else 0)) same ∙ plus_none o.same) i;
      wraps = (ap (λ b. o.wraps + (if b then 1 else 0)) (alone (sequence a == 65535) refl) ∙ plus_none o.wraps) i;
    }
  where
    plus_none : (x : ℕ) → x + 0 ≡ x
    plus_none x = omega arith

    alone : (b : Bool) → (sequence a == 65535) ≡ b → wraps_alone (a, n) ≡ false
    alone false e = ap (λ t. t && ((sequence n == 0) && (extended a == extended n))) e
    alone true e =
        let last : sequence a ≡ 65535 = eqb-true (sequence a) 65535 e in
        and_right (sequence a == 65535) _ (and_right (sequence n == 0) _ (ne_eqb (extended a) (extended n) (λ h. omega (arith, last, next, h))))

-- one number more
pub range_from-push : (x : ℕ) (xs : List ℕ) (y : ℕ) → range_from x (xs ++ y ∷ []) ≡ range_next (range_from x xs) y
range_from-push x xs y = λ i. record { least = fold_push min x xs y i; greatest = fold_push max x xs y i }

-- one mark more
one_mark : (b : Bool) (m : Mark) → cond b (m ∷ []) [] ≡ option_to_list (cond b (Some m) None)
one_mark true m = refl
one_mark false m = refl

mark_first : (b : Bool) (m : Mark) (ms l : List Mark) → cond b (m ∷ (ms ++ l)) (ms ++ l) ≡ cond b (m ∷ ms) ms ++ l
mark_first true m ms l = refl
mark_first false m ms l = refl

pub marks_from-push : (place at : ℕ) (ps : List Rtp) (p : Rtp) → at ≡ place + length ps
    → marks_from place (ps ++ p ∷ []) ≡ marks_from place ps ++ option_to_list (mark_of at p)
marks_from-push place at [] p e =
    let same : place ≡ at = omega (arith, e) in
    ap (λ (k : ℕ). marks_from k (p ∷ [])) same ∙ one_mark p.marker (record { place = at; timestamp = p.timestamp })
marks_from-push place at (q ∷ ps) p e =
    let rest = marks_from-push (place + 1) at ps p (omega (arith, e)) in
    ap (λ (ms : List Mark). cond q.marker (record { place = place; timestamp = q.timestamp } ∷ ms) ms) rest
    ∙ mark_first q.marker (record { place = place; timestamp = q.timestamp }) (marks_from (place + 1) ps) (option_to_list (mark_of at p))

pub last_mark : (ms : List Mark) (mark : Option Mark) → last_or None (ms ++ option_to_list mark) ≡ mark_next (last_or None ms) mark
last_mark ms None = ap (last_or None) (append-nil ms)
last_mark ms (Some m) = last_or-push None ms m

-- one pair of marks more
pace_between-push : (gs : List (Mark × Mark)) (g : Mark × Mark) → pace_between (gs ++ g ∷ []) ≡ Some (pace_next (pace_between gs) g)
pace_between-push [] g =
    let ticks : sum_by step (g ∷ []) ≡ step g = sum_by_push step [] g ∙ zero-plus (step g) in
    λ i. Some (record {
      frame = range_from (size g) [];
      step = range_from (step g) [];
      rate = record { ticks = ticks i; steps = 1 };
    })
  where
    zero-plus : (n : ℕ) → 0 + n ≡ n
    zero-plus n = omega arith
pace_between-push (h ∷ gs) g =
    let frame = ap (range_from (size h)) (map_push size gs g) ∙ range_from-push (size h) (map size gs) (size g) in
    let steps = ap (range_from (step h)) (map_push step gs g) ∙ range_from-push (step h) (map step gs) (step g) in
    λ i. Some (record {
      frame = frame i;
      step = steps i;
      rate = record { ticks = sum_by_push step (h ∷ gs) g i; steps = length_push (h ∷ gs) g i };
    })

pace_push : (ms : List Mark) (before mark : Option Mark) → last_or None ms ≡ before
    → pace_between (neighbours (ms ++ option_to_list mark)) ≡ pace_with (pace_between (neighbours ms)) before mark
pace_push ms None None e = ap (λ (l : List Mark). pace_between (neighbours l)) (append-nil ms)
pace_push ms (Some b) None e = ap (λ (l : List Mark). pace_between (neighbours l)) (append-nil ms)
pace_push [] None (Some m) e = refl
pace_push (x ∷ xs) None (Some m) e = none_some (last_from x xs) (sym e ∙ last_or-from None x xs)
pace_push ms (Some b) (Some m) e = ap pace_between (neighbours-push ms b m e) ∙ pace_between-push (neighbours ms) (b, m)

-- one line header more
or_false : (b : Bool) → (b || false) ≡ b
or_false true = refl
or_false false = refl

and_true : (b : Bool) → (b && true) ≡ b
and_true true = refl
and_true false = refl

lines_same : (lines : Option Lines) → lines ≡ lines_with lines None
lines_same None = refl
lines_same (Some lines) = refl

lines_of-push : (ls : List Line) (o : Option Line) → lines_of (ls ++ cons_option o []) ≡ lines_with (lines_of ls) o
lines_of-push ls None = ap lines_of (append-nil ls) ∙ lines_same (lines_of ls)
lines_of-push [] (Some l) = λ i. Some (record {
  greatest = l.number;
  second_field = or_false l.second_field i;
  fits = and_true l.fits i;
})
lines_of-push (k ∷ ks) (Some l) =
    let numbers = ap (fold max k.number) (map_push (λ x. x.number) ks l) ∙ fold_push max k.number (map (λ x. x.number) ks) l.number in
    let fields = list_any-append (λ x. x.second_field) (k ∷ ks) (l ∷ [])
    ∙ ap (λ (b : Bool). list_any (λ x. x.second_field) (k ∷ ks) || b) (or_false l.second_field) in
    let fits = list_all-append (λ x. x.fits) (k ∷ ks) (l ∷ [])
    ∙ ap (λ (b : Bool). list_all (λ x. x.fits) (k ∷ ks) && b) (and_true l.fits) in
    λ i. Some (record { greatest = numbers i; second_field = fields i; fits = fits i })

-- one packet more
pub stream_from-push : (p : Packet) (ps : List Packet) (q : Packet) (number : ℕ) (mark : Option Mark)
    → last_or None (map (λ x. x.rtp.number) (p ∷ ps)) ≡ Some number
    → last_or None (marks_from 0 (map (λ x. x.rtp) (p ∷ ps))) ≡ mark
    → stream_from p (ps ++ q ∷ []) ≡ stream_next (stream_from p ps) number mark q
stream_from-push p ps q number mark last marked =
    let order = ap order_of (map_push (λ (x : Packet). x.rtp.number) (p ∷ ps) q)
    ∙ order_of-push (map (λ (x : Packet). x.rtp.number) (p ∷ ps)) number q.rtp.number last in
    let rtps = map (λ (x : Packet). x.rtp) (p ∷ ps) in
    let place : length (p ∷ ps) ≡ 0 + length rtps = omega (arith, length-map (p ∷ ps) (λ (x : Packet). x.rtp)) in
    let pace = ap (λ (rs : List Rtp). pace_between (neighbours (marks_from 0 rs))) (map_push (λ (x : Packet). x.rtp) (p ∷ ps) q)
    ∙ (ap (λ (ms : List Mark). pace_between (neighbours ms)) (marks_from-push 0 (length (p ∷ ps)) rtps q.rtp place)
    ∙ pace_push (marks_from 0 rtps) mark (mark_of (length (p ∷ ps)) q.rtp) marked) in
    let lines = ap lines_of (filter_map-append (λ (x : Packet). x.line) (p ∷ ps) (q ∷ []))
    ∙ lines_of-push (filter_map (λ (x : Packet). x.line) (p ∷ ps)) q.line in
    λ i. record {
      source = p.source;
      target = p.target;
      ssrc = p.rtp.ssrc;
      pt = p.rtp.pt;
      pts = sum_by_push (λ x. cond (has_other_type p.rtp.pt x) 1 0) (p ∷ ps) q i;
      packets = length_push (p ∷ ps) q i;
      markers = sum_by_push (λ (x : Packet). cond x.rtp.marker 1 0) (p ∷ ps) q i;
      first = arrival p;
      last = arrival (last_from-push p ps q i);
      bytes = sum_by_push (λ (x : Packet). x.length) (p ∷ ps) q i;
      order = order i;
      pace = pace i;
      lines = lines i;
    }
