-- What the judges of a file are fed: when they are made, when a packet comes, and packets.
use Rattle.std.proofs.Common.{◌≡◌, ◌≤◌, ◌<◌, ◌+◌, ℕ, Bool, true, false, if◌then◌else◌, eqb, List, [], ◌∷◌, ◌++◌, length, map, get_or, set, take, Some, None}
use Rattle.std.proofs.Common.{refl, sym, ap, ◌∙◌, subst, eq-eqb, ne_eqb, append_assoc, append-nil, length-set, arith, ◌^◌, drop, length-append}
use Rattle.std.specs.Prelude.{◌==◌, ◌&&◌, Option, Result, Ok, Err, IfOk, IfSome, IfNone, OnOk, IsTrue}
use Rattle.std.specs.List.{cons_option}
use Rattle.std.proofs.Math.Bool.{beq}
use Rattle.std.proofs.lemmas.Bool.{and_parts, eqb-true}
use Rattle.std.proofs.lemmas.List.{drop_more, get_or_default, map-append, take_more}
use Rattle.std.proofs.lemmas.List.Concat.{flat_map-append}
use Rattle.std.proofs.lemmas.List.Elements.{All-weaker, filter_map-append}
use Rattle.timing_base.specs.Shifts.{FlowOptions}
use Rattle.timing_base.specs.Media.{Media}
use Rattle.timing_base.specs.Keys.{key_of, media_of, no_media}
use Rattle.timing_base.specs.Routes.{route}
use Rattle.timing_base.specs.declared.key.FlowKey.{FlowKey}
use Rattle.timing_base.specs.declared.packet.FlowPacket.{FlowPacket}
use Rattle.timing_base.specs.declared.packet.PacketFault.{PacketFault}
use Rattle.timing_base.specs.declared.packet.Rtp.{Rtp}
use Rattle.fail_interval.specs.Stands.{StandsFor, TakesExpected}
use Rattle.fail_interval.specs.Taken.{IsExpected}
use Rattle.ruled_intake.specs.Messages.{Batch}
use Rattle.ruled_intake.specs.Packets.{Packet, flow_packet}
use Rattle.flow_worker.specs.Messages.{media_packet, media_packets}
use Rattle.flow_worker.specs.Opening.{Setting}
use Rattle.flow_worker.specs.Posting.{raised_packet}
use Rattle.flow_worker.specs.Judging.{AreFed, EachFrom, Expects, Feeds, HaveRoom, IsPlace, PlainJudge, batched, fed_at, is_own, with_packets}
use Rattle.flow_worker.specs.declared.judges.Judges.{Judges}
use Rattle.flow_worker.proofs.Each.{each-at, each-set, each-weaker}

-- a place is the same under the same packets
place-same : (s : Setting) (worker : ℕ) (key : FlowKey) (place : Option PlainJudge) (xs ys : List FlowPacket) → xs ≡ ys → IsPlace s worker key xs place
    → IsPlace s worker key ys place
place-same s worker key place xs ys e h = subst (λ (l : List FlowPacket). IsPlace s worker key l place) e h

-- judges that were fed this were fed what is the same for each flow of theirs
pub fed-same : (s : Setting) (worker file : ℕ) (fed others : FlowKey → List FlowPacket) (judges : Judges)
    → ((n : ℕ) → fed (key_of file n) ≡ others (key_of file n))
    → AreFed s worker file fed judges → AreFed s worker file others judges
fed-same s worker file fed others judges e h = record {
  count = h.count;
  each = each-weaker (λ n. IsPlace s worker (key_of file n) (fed (key_of file n))) (λ n. IsPlace s worker (key_of file n) (others (key_of file n))) 0
      judges.places.items
      (λ n place low high is. place-same s worker (key_of file n) place (fed (key_of file n)) (others (key_of file n)) (e n) is) h.each;
}

-- the packets of a media behind one of that media
media_packets-one : (media : ℕ) (p : Packet) → p.media ≡ media → media_packets media (p ∷ []) ≡ flow_packet p ∷ []
media_packets-one media p e = ap (λ (b : Bool). cons_option (if b then Some (flow_packet p) else None) []) (eq-eqb p.media media e)

-- and behind one of another
media_packets-none : (media : ℕ) (p : Packet) → (p.media ≡ media → ⊥) → media_packets media (p ∷ []) ≡ []
media_packets-none media p n = ap (λ (b : Bool). cons_option (if b then Some (flow_packet p) else None) []) (ne_eqb p.media media n)

-- a packet of another media changes nothing for a flow
with-none : (before : ℕ) (p : Packet) (fed : FlowKey → List FlowPacket) (key : FlowKey) → (p.media ≡ key.media → ⊥) → fed key
    ≡ with_packets before (p ∷ []) fed key
with-none before p fed key n =
    sym (ap (λ (l : List FlowPacket). fed key ++ map (raised_packet before) l) (media_packets-none key.media p n) ∙ append-nil (fed key))

-- one of its media comes behind
with-one : (before : ℕ) (p : Packet) (fed : FlowKey → List FlowPacket) (key : FlowKey) → p.media ≡ key.media
    → fed key ++ raised_packet before (flow_packet p) ∷ [] ≡ with_packets before (p ∷ []) fed key
with-one before p fed key e = sym (ap (λ (l : List FlowPacket). fed key ++ map (raised_packet before) l) (media_packets-one key.media p e))

-- a packet of a media that isn't there
pub feeds-beyond : (before : ℕ) (p : Packet) (judges : Judges) → length judges.places.items ≤ p.media → Feeds before (p ∷ []) judges judges
feeds-beyond before p judges beyond s worker file fed h = record {
  count = h.count;
  each = each-weaker (λ n. IsPlace s worker (key_of file n) (fed (key_of file n)))
      (λ n. IsPlace s worker (key_of file n) (with_packets before (p ∷ []) fed (key_of file n))) 0 judges.places.items
      (λ n place low high is. place-same s worker (key_of file n) place (fed (key_of file n)) (with_packets before (p ∷ []) fed (key_of file n))
      (with-none before p fed (key_of file n) (λ e. absurd (omega (arith, high, beyond, e)))) is) h.each;
}

-- a place is written, and the others are as they were
feeds-place : (before : ℕ) (p : Packet) (old new : Judges) (place : Option PlainJudge) → p.media < length old.places.items → new.places.items
    ≡ set old.places.items p.media place
    → (s : Setting) (worker file : ℕ) (fed : FlowKey → List FlowPacket) → AreFed s worker file fed old
    → IsPlace s worker (key_of file p.media) (with_packets before (p ∷ []) fed (key_of file p.media)) place
    → AreFed s worker file (with_packets before (p ∷ []) fed) new
feeds-place before p old new place within e s worker file fed h is =
    let Q : ℕ → Option PlainJudge → Type 0 = λ n. IsPlace s worker (key_of file n) (with_packets before (p ∷ []) fed (key_of file n)) in
    let z : 0 + p.media ≡ p.media = omega arith in
    record {
      count = ap length e ∙ length-set old.places.items p.media place ∙ h.count;
      each = subst (EachFrom Q 0) (sym e)
          (each-set (λ n. IsPlace s worker (key_of file n) (fed (key_of file n))) Q 0 old.places.items p.media place
          (λ n x other high at. place-same s worker (key_of file n) x (fed (key_of file n)) (with_packets before (p ∷ []) fed (key_of file n))
          (with-none before p fed (key_of file n) (λ same. other (sym same ∙ sym z))) at)
          (subst (λ (n : ℕ). Q n place) (sym z) is) h.each);
    }

-- what is at the place of the packet's media
place-at : (s : Setting) (worker file : ℕ) (fed : FlowKey → List FlowPacket) (judges : Judges) (i : ℕ) (d place : Option PlainJudge) → i
    < length judges.places.items
    → get_or judges.places.items i d ≡ place → AreFed s worker file fed judges → IsPlace s worker (key_of file i) (fed (key_of file i)) place
place-at s worker file fed judges i d place within e h =
    let P : ℕ → Option PlainJudge → Type 0 = λ n. IsPlace s worker (key_of file n) (fed (key_of file n)) in
    let z : 0 + i ≡ i = omega arith in
    subst (P i) e (subst (λ (n : ℕ). P n (get_or judges.places.items i d)) z (each-at P 0 judges.places.items i d within h.each))

-- a packet of a media without a judge
pub feeds-none : (before : ℕ) (p : Packet) (old new : Judges) (i : ℕ) (d place : Option PlainJudge) → i ≡ p.media → i < length old.places.items
    → get_or old.places.items i d ≡ None → place ≡ None → new.places.items ≡ set old.places.items i place → Feeds before (p ∷ []) old new
feeds-none before p old new i d place at within none same written s worker file fed h =
    let is : is_own s worker (key_of file i) ≡ false = place-at s worker file fed old i d None within none h in
    let own : is_own s worker (key_of file p.media) ≡ false = ap (λ (n : ℕ). is_own s worker (key_of file n)) (sym at) ∙ is in
    let e : new.places.items ≡ set old.places.items p.media None = written ∙ ap (λ (n : ℕ). set old.places.items n place) at ∙ ap (set old.places.items p.media)
    same in
    feeds-place before p old new None (subst (λ (n : ℕ). n < length old.places.items) at within) e s worker file fed h own

-- a packet that the judge of its media is fed
pub feeds-some : (before : ℕ) (p : Packet) (old new : Judges) (i : ℕ) (d : Option PlainJudge) (judge next : PlainJudge) → i ≡ p.media → i
    < length old.places.items
    → get_or old.places.items i d ≡ Some judge → new.places.items ≡ set old.places.items i (Some next)
    → ((m : Media) (key : FlowKey) (options : FlowOptions) (packets : List FlowPacket) → StandsFor m key options judge packets
    → StandsFor m key options next (packets ++ raised_packet before (flow_packet p) ∷ []))
    → Feeds before (p ∷ []) old new
feeds-some before p old new i d judge next at within some written feeds s worker file fed h =
    let key = key_of file p.media in
    let was : get_or old.places.items p.media d ≡ Some judge = ap (λ (n : ℕ). get_or old.places.items n d) (sym at) ∙ some in
    let below : p.media < length old.places.items = subst (λ (n : ℕ). n < length old.places.items) at within in
    let is = place-at s worker file fed old p.media d (Some judge) below was h in
    let e : new.places.items ≡ set old.places.items p.media (Some next) = written ∙ ap (λ (n : ℕ). set old.places.items n (Some next)) at in
    feeds-place before p old new (Some next) below e s worker file fed h
    let stands = feeds (media_of s.media key) key s.options (fed key) is.1 in
    (is.0, subst (StandsFor (media_of s.media key) key s.options next) (with-one before p fed key refl) stands)

-- where its judge takes it
pub feeds-some_if : {X E : Type 0} (r : Result X E) (before : ℕ) (p : Packet) (old new : Judges) (i : ℕ) (d : Option PlainJudge) (judge next : PlainJudge)
    (q : FlowPacket) → i ≡ p.media
    → i < length old.places.items → get_or old.places.items i d ≡ Some judge → new.places.items ≡ set old.places.items i (Some next) → q ≡ flow_packet p
    → ((m : Media) (key : FlowKey) (options : FlowOptions) (packets : List FlowPacket) → StandsFor m key options judge packets
    → OnOk r (StandsFor m key options next (packets ++ raised_packet before q ∷ [])))
    → IfOk r (λ _. Feeds before (p ∷ []) old new)
feeds-some_if (Ok x) before p old new i d judge next q at within some written same feeds =
    feeds-some before p old new i d judge next at within some written
    (subst (λ (y : FlowPacket). (m : Media) (key : FlowKey) (options : FlowOptions) (packets : List FlowPacket) → StandsFor m key options judge packets
    → StandsFor m key options next (packets ++ raised_packet before y ∷ [])) same feeds)
feeds-some_if (Err e) before p old new i d judge next q at within some written same feeds = tt

-- two truths that are the same
same-bool : (a b : Bool) → beq a b ≡ true → a ≡ b
same-bool true true h = refl
same-bool false false h = refl
same-bool true false h = absurd (cc)
same-bool false true h = absurd (cc)

-- whether the fields of two packets are the same
abbrev same_fields : Rtp → Rtp → Bool
same_fields a b =
    (a.number == b.number) && ((a.timestamp == b.timestamp) && (beq a.marker b.marker && ((a.pt == b.pt) && (a.ssrc == b.ssrc))))

same-fields : (a b : Rtp) → same_fields a b ≡ true → a ≡ b
same-fields a b h =
    let (number, four) =
    and_parts (a.number == b.number) ((a.timestamp == b.timestamp) && (beq a.marker b.marker && ((a.pt == b.pt) && (a.ssrc == b.ssrc)))) h in
    let (timestamp, three) = and_parts (a.timestamp == b.timestamp) (beq a.marker b.marker && ((a.pt == b.pt) && (a.ssrc == b.ssrc))) four in
    let (marker, two) = and_parts (beq a.marker b.marker) ((a.pt == b.pt) && (a.ssrc == b.ssrc)) three in
    let (pt, ssrc) = and_parts (a.pt == b.pt) (a.ssrc == b.ssrc) two in
    let same : a.marker ≡ b.marker = same-bool a.marker b.marker marker in
    λ i. record {
      number = eqb-true a.number b.number number i;
      timestamp = eqb-true a.timestamp b.timestamp timestamp i;
      marker = same i;
      pt = eqb-true a.pt b.pt pt i;
      ssrc = eqb-true a.ssrc b.ssrc ssrc i;
    }

-- a packet that is the one expected
pub expects-same : (judge : PlainJudge) (expected came : Rtp) (rtp : Result Rtp PacketFault) → rtp ≡ Ok came → same_fields came expected ≡ true
    → IsExpected judge expected → Expects judge rtp
expects-same judge expected came rtp is same h =
    subst (Expects judge) (sym is) (subst (IsExpected judge) (sym (same-fields came expected same)) h)

-- two that are one
same-packet : (a b : Rtp) (o : Option Rtp) → Some a ≡ o → o ≡ Some b → b ≡ a
same-packet a b o first second = cc

-- a judge that took the packet that it expects was fed that one
pub takes-expected : (old new : PlainJudge) (rec_number at : ℕ) (rtp : Result Rtp PacketFault) → Expects old rtp → TakesExpected old new at
    → (m : Media) (key : FlowKey) (options : FlowOptions) (packets : List FlowPacket) → StandsFor m key options old packets
    → StandsFor m key options new (packets ++ record { rec = rec_number; at = at; rtp = rtp } ∷ [])
takes-expected old new rec_number at (Err fault) expects takes m key options packets h = absurd expects
takes-expected old new rec_number at (Ok rtp) expects takes m key options packets h =
    subst (λ (p : Rtp). StandsFor m key options new (packets ++ record { rec = rec_number; at = at; rtp = Ok p } ∷ []))
    (same-packet rtp _ _ (expects m key options packets h) (takes.expects m key options packets h)) (takes.stands m key options packets rec_number h)

-- packets, and then more
pub feeds-append : (before : ℕ) (xs ys : List Packet) (old mid new : Judges) → Feeds before xs old mid → Feeds before ys mid new
    → Feeds before (xs ++ ys) old new
feeds-append before xs ys old mid new first second s worker file fed h =
    fed-same s worker file (with_packets before ys (with_packets before xs fed)) (with_packets before (xs ++ ys) fed) new
    (λ n.
    let a : List FlowPacket = map (raised_packet before) (media_packets n xs) in
    let b : List FlowPacket = map (raised_packet before) (media_packets n ys) in
    append_assoc (fed (key_of file n)) a b
    ∙ ap (λ (l : List FlowPacket). fed (key_of file n) ++ l)
    (sym (ap (map (raised_packet before)) (filter_map-append (media_packet n) xs ys) ∙ map-append (raised_packet before) (media_packets n xs)
    (media_packets n ys))))
    (second s worker file (with_packets before xs fed) (first s worker file fed h))

-- no packets
pub feeds-nothing : (before : ℕ) (judges : Judges) → Feeds before [] judges judges
feeds-nothing before judges s worker file fed h =
    fed-same s worker file fed (with_packets before [] fed) judges (λ n. sym (append-nil (fed (key_of file n)))) h

-- one packet of a list more
pub feeds-more : (before i : ℕ) (packets : List Packet) (p : Packet) (old mid new : Judges) → i < length packets → get_or packets i p ≡ p
    → Feeds before (take i packets) old mid
    → Feeds before (p ∷ []) mid new → Feeds before (take (i + 1) packets) old new
feeds-more before i packets p old mid new within at first second =
    subst (λ (l : List Packet). Feeds before l old new) (sym (take_more packets i p within ∙ ap (λ (x : Packet). take i packets ++ x ∷ []) at))
    (feeds-append before (take i packets) (p ∷ []) old mid new first second)

-- room is room, however it is counted
pub room-same : (m n : ℕ) (judges : Judges) → m ≡ n → HaveRoom m judges → HaveRoom n judges
room-same m n judges e h = subst (λ (k : ℕ). HaveRoom k judges) e h

-- a judge of a flow without packets, where the flow is the worker's own
pub place-new : (s : Setting) (worker file n : ℕ) (m : Media) (place : Option PlainJudge) (own : Bool) → n < length s.media → get_or s.media n m ≡ m
    → (if s.joined then 0 else file) ≡ file
    → own ≡ eqb (route (key_of file n) (length s.media) s.workers) worker
    → IfSome place (λ judge. IsTrue own × StandsFor m (key_of file n) s.options judge []) → IfNone place (IsTrue own → ⊥)
    → IsPlace s worker (key_of file n) [] place
place-new s worker file n m (Some judge) own within media dealt e some none =
    let own_is : is_own s worker (key_of file n) ≡ own = ap (λ (f : ℕ). eqb (route (key_of f n) (length s.media) s.workers) worker) dealt ∙ sym e in
    (own_is ∙ some.0, subst (λ (x : Media). StandsFor x (key_of file n) s.options judge []) (sym (get_or_default s.media n no_media m within ∙ media)) some.1)
place-new s worker file n m None own within media dealt e some none =
    let own_is : is_own s worker (key_of file n) ≡ own = ap (λ (f : ℕ). eqb (route (key_of f n) (length s.media) s.workers) worker) dealt ∙ sym e in
    own_is ∙ elim own as (λ b. (IsTrue b → ⊥) → b ≡ false) [ true ↦ λ none. absurd (none refl) | false ↦ λ none. refl ] none

-- room for more is room for fewer
pub room-less : (m n : ℕ) (judges : Judges) → n ≤ m → HaveRoom m judges → HaveRoom n judges
room-less m n judges less h =
    All-weaker (λ place. fed_at place + m ≤ 2 ^ 41) (λ place. fed_at place + n ≤ 2 ^ 41) (λ place few. omega (arith, few, less)) judges.places.items h

-- the packets of one batch more
pub feeds-batch : (before i : ℕ) (batches : List Batch) (one : Batch) (old mid new : Judges) → i < length batches → get_or batches i one ≡ one
    → Feeds before (batched (take i batches)) old mid
    → Feeds before one.packets mid new → Feeds before (batched (take (i + 1) batches)) old new
feeds-batch before i batches one old mid new within at first second =
    subst (λ (l : List Packet). Feeds before l old new)
    (sym (ap batched (take_more batches i one within ∙ ap (λ (x : Batch). take i batches ++ x ∷ []) at)
    ∙ flat_map-append (λ (b : Batch). b.packets) (take i batches) (one ∷ []) ∙ ap (λ (l : List Packet). batched (take i batches) ++ l)
    (append-nil one.packets)))
    (feeds-append before (batched (take i batches)) one.packets old mid new first second)

-- the packets of the batches that are left
pub left-batch : (i : ℕ) (batches : List Batch) (one : Batch) → i < length batches → get_or batches i one ≡ one
    → length (batched (drop i batches)) ≡ length one.packets + length (batched (drop (i + 1) batches))
left-batch i batches one within at =
    ap (λ (l : List Batch). length (batched l)) (drop_more batches i one within) ∙ ap (λ (x : Batch). length (batched (x ∷ drop (i + 1) batches))) at
    ∙ length-append one.packets (batched (drop (i + 1) batches))
