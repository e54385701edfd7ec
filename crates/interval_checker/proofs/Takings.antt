-- Records that are given to readings, one after the other.
use Rattle.std.proofs.Common.{◌≡◌, ◌≢◌, ◌≤◌, ◌<◌, ◌+◌, ◌^◌, ℕ, zero, suc, Bool, List, [], ◌∷◌, ◌++◌, length, take, get_or, set, refl, sym, ap}
use Rattle.std.proofs.Common.{◌∙◌, subst, append_assoc, append-nil, arith}
use Rattle.std.specs.Prelude.{if◌then◌else◌, IfErr, OnOk, Option, Some, None, Result, Ok, Err}
use Rattle.std.specs.List.{cons_option}
use Rattle.std.specs.Result.{result_err}
use Rattle.std.proofs.Math.Seq.{take-append_seam}
use Rattle.std.proofs.lemmas.List.Elements.{filter_map-append}
use Rattle.timing_base.specs.Shifts.{FlowOptions, Shift}
use Rattle.timing_base.specs.Captures.{Record}
use Rattle.timing_base.specs.Judged.{judged, judged_as_numbered}
use Rattle.timing_base.specs.Media.{Media}
use Rattle.timing_base.specs.Targets.{target_of}
use Rattle.timing_base.specs.declared.capture.FileNote.{FileNote}
use Rattle.timing_base.specs.declared.capture.FileNote.TheVariants.{Refused}
use Rattle.timing_base.specs.declared.capture.PcapFault.TheVariants as fault
use Rattle.timing_base.specs.declared.fail.FailProof.{FailProof}
use Rattle.timing_base.specs.declared.media.Kind.{Kind}
use Rattle.timing_base.specs.declared.packet.FlowPacket.{FlowPacket}
use Rattle.timing_base.specs.declared.row.Unjudged.{Unjudged}
use Rattle.pcap_reader.specs.Taken.{HasTaken}
use Rattle.pcap_reader.specs.declared.records.Taken.{Taken}
use Rattle.pcap_reader.proofs.TakenRecords.{taken-whole}
use Rattle.udp_rtp.specs.Flow.{datagram_packet, flow, flow_packet, is_same_target}
use Rattle.udp_rtp.specs.Frames.{Datagram, datagram_of}
use Rattle.udp_rtp.specs.Reading.{reading}
use Rattle.udp_rtp.proofs.Flows.{flow-append_none, flow-append_some}
use Rattle.interval_checker.specs.Asking.{AsksNoLess}
use Rattle.interval_checker.specs.Checked.{IsRefused, Says}
use Rattle.interval_checker.specs.Readings.{HasRead, HasReadBy, HasWalked, HaveRoom, ReadOn, ReadsOn, asked_by, count_taken, options_of}
use Rattle.interval_checker.specs.Numbers.{next_last, next_packet}
use Rattle.interval_checker.specs.Taking.{FeedsOn, TakesRecord, TakesUpTo}
use Rattle.interval_checker.specs.Walks.{StandsFor, asked_of}
use Rattle.interval_checker.specs.declared.numbers.Numbers.{Numbers}
use Rattle.interval_checker.specs.declared.reading.Reading.{Reading}
use Rattle.interval_checker.specs.declared.records.Checking.{Checking}
use Rattle.interval_checker.specs.declared.walk.Walk.{Walk}
use Rattle.interval_checker.proofs.Asks.{no_less-same}
use Rattle.interval_checker.proofs.Goings.{TakesAll}
use Rattle.interval_checker.proofs.Numberings.{taken-ends, taken-next}

-- the packet of a record
abbrev pub packet_with : Record → Datagram → FlowPacket
packet_with r d = record { rec = r.number; at = r.stamp; rtp = reading d.payload }

-- a record with a datagram is a packet of the media's flow, or not, by its target alone
pub packet_by : (m : Media) (r : Record) (d : Datagram) (b : Bool) → datagram_of r.bytes ≡ Some d → is_same_target d.target (target_of m) ≡ b
    → flow_packet m r ≡ (if b then Some (packet_with r d) else None)
packet_by m r d b is same =
    ap (datagram_packet m r.number r.stamp) is ∙ ap (λ (x : Bool). if x then Some (packet_with r d) else None) same

-- what follows changes nothing where the flow isn't judged
refused-more : (x : Reading) (items more : List Record) (why : Unjudged) → HasReadBy (Some why) x items → HasReadBy (Some why) x (items ++ more)
refused-more x items more why h rest =
    subst (λ l. IsRefused (judged (flow l x.media) x.media.pt (options_of x)) why) (sym (append_assoc items more rest)) (h (more ++ rest))

has-none : (o : Option Unjudged) (x : Reading) (items : List Record) (r : Record) → flow_packet x.media r ≡ None → HasReadBy o x items
    → HasReadBy o x (items ++ r ∷ [])
has-none None x items r e h = subst (HasWalked x.media.pt x.shift x.numbers x.walk) (sym (flow-append_none x.media items r e)) h
has-none (Some why) x items r e h = refused-more x items (r ∷ []) why h

-- a record that is no packet of the flow
pub reads-nothing : (x : Reading) (r : Record) → flow_packet x.media r ≡ None → ReadsOn x x (r ∷ [])
reads-nothing x r e = record {
  media = refl;
  options = refl;
  asked = no_less-same (asked_by x);
  reads = λ items h. has-none x.refused x items r e h;
}

-- any record where the flow isn't judged
pub reads-refused : (x : Reading) (r : Record) (why : Unjudged) → x.refused ≡ Some why → ReadsOn x x (r ∷ [])
reads-refused x r why e = record {
  media = refl;
  options = refl;
  asked = no_less-same (asked_by x);
  reads = λ items h.
      subst (λ o. HasReadBy o x (items ++ r ∷ [])) (sym e) (refused-more x items (r ∷ []) why (subst (λ o. HasReadBy o x items) e h));
}

-- a reading of the same flow, with the same options, that asks for no less
pub record Stays (old new : Reading) : Type 0 where
  pub media : new.media ≡ old.media
  pub shift : new.shift ≡ old.shift
  pub seq16 : new.numbers.seq16 ≡ old.numbers.seq16
  pub asked : AsksNoLess (asked_by old) (asked_by new)

same-options : (a b : Shift) (s t : Bool) → a ≡ b → s ≡ t
    → (let x : FlowOptions = record { shift = a; seq16 = s } in x) ≡ record { shift = b; seq16 = t }
same-options a b s t e f =
    ap (λ (x : Shift). let o : FlowOptions = record { shift = x; seq16 = s } in o) e
    ∙ ap (λ (x : Bool). let o : FlowOptions = record { shift = b; seq16 = x } in o) f

options-stay : (old new : Reading) → Stays old new → options_of new ≡ options_of old
options-stay old new h = same-options new.shift old.shift new.numbers.seq16 old.numbers.seq16 h.shift h.seq16

-- a record that is a packet of the flow
reads-packet : (old new : Reading) (r : Record) (p : FlowPacket) → flow_packet old.media r ≡ Some p → old.refused ≡ None → new.refused ≡ None
    → Stays old new
    → ((packets : List FlowPacket) → HasWalked old.media.pt old.shift old.numbers old.walk packets
    → HasWalked old.media.pt old.shift new.numbers new.walk (packets ++ p ∷ []))
    → ReadsOn old new (r ∷ [])
reads-packet old new r p e was now stays goes = record {
  media = stays.media;
  options = options-stay old new stays;
  asked = stays.asked;
  reads = λ items h.
      let taken : HasWalked old.media.pt old.shift old.numbers old.walk (flow items old.media) = subst (λ o. HasReadBy o old items) was h in
      let more : HasWalked old.media.pt old.shift new.numbers new.walk (flow (items ++ r ∷ []) old.media) =
      subst (HasWalked old.media.pt old.shift new.numbers new.walk) (sym (flow-append_some old.media items r p e)) (goes (flow items old.media) taken) in
      let at_media = subst (λ (m : Media). HasWalked m.pt old.shift new.numbers new.walk (flow (items ++ r ∷ []) m)) (sym stays.media) more in
      let there : HasReadBy None new (items ++ r ∷ []) =
      subst (λ s. HasWalked new.media.pt s new.numbers new.walk (flow (items ++ r ∷ []) new.media)) (sym stays.shift) at_media in
      subst (λ o. HasReadBy o new (items ++ r ∷ [])) (sym now) there;
}

-- a record with which the flow isn't judged
reads-fault : (old new : Reading) (r : Record) (p : FlowPacket) (why : Unjudged) → flow_packet old.media r ≡ Some p → old.refused ≡ None
    → new.refused ≡ Some why
    → Stays old new
    → ((packets rest : List FlowPacket) → HasWalked old.media.pt old.shift old.numbers old.walk packets
    → IsRefused (judged (packets ++ p ∷ rest) old.media.pt (options_of old)) why)
    → ReadsOn old new (r ∷ [])
reads-fault old new r p why e was now stays ends = record {
  media = stays.media;
  options = options-stay old new stays;
  asked = stays.asked;
  reads = λ items h.
      let taken : HasWalked old.media.pt old.shift old.numbers old.walk (flow items old.media) = subst (λ o. HasReadBy o old items) was h in
      let refused : (rest : List Record) → IsRefused (judged (flow ((items ++ r ∷ []) ++ rest) old.media) old.media.pt (options_of old)) why = λ rest.
      let whole : flow (items ++ (r ∷ rest)) old.media ≡ flow items old.media ++ p ∷ flow rest old.media =
      filter_map-append (flow_packet old.media) items (r ∷ rest)
      ∙ ap (λ o. flow items old.media ++ cons_option o (flow rest old.media)) e in
      subst (λ l. IsRefused (judged (flow l old.media) old.media.pt (options_of old)) why) (sym (append_assoc items (r ∷ []) rest))
      (subst (λ f. IsRefused (judged f old.media.pt (options_of old)) why) (sym whole) (ends (flow items old.media) (flow rest old.media) taken)) in
      let at_media =
      subst (λ (m : Media). (rest : List Record) → IsRefused (judged (flow ((items ++ r ∷ []) ++ rest) m) m.pt (options_of old)) why) (sym stays.media)
      refused in
      let there : HasReadBy (Some why) new (items ++ r ∷ []) =
      subst (λ o. (rest : List Record) → IsRefused (judged (flow ((items ++ r ∷ []) ++ rest) new.media) new.media.pt o) why)
      (sym (options-stay old new stays)) at_media in
      subst (λ o. HasReadBy o new (items ++ r ∷ [])) (sym now) there;
}

-- what the walk says of a packet that is fed to it
pub record Feeds {T : Type 0} (result : Result T Unjudged) (pt : ℕ) (old new : Walk) (q : FlowPacket) : Type 0 where
  pub goes_on : (shift : Shift) (packets : List FlowPacket) → StandsFor pt shift old packets → OnOk result (StandsFor pt shift new (packets ++ q ∷ []))
  pub ends : (shift : Shift) (packets rest : List FlowPacket) → StandsFor pt shift old packets
      → IfErr result (IsRefused (judged_as_numbered (packets ++ q ∷ rest) pt shift))

-- a record that is a packet of the flow, by what the walk says of the packet with its number
reads-fed : {T : Type 0} (result : Result T Unjudged) (old new : Reading) (r : Record) (p : FlowPacket) → flow_packet old.media r ≡ Some p
    → old.refused ≡ None → new.refused ≡ result_err result
    → Stays old new
    → new.numbers.last ≡ next_last old.numbers.seq16 old.numbers.last p
    → Feeds result old.media.pt old.walk new.walk (next_packet old.numbers.seq16 old.numbers.last p)
    → ReadsOn old new (r ∷ [])
reads-fed (Ok x) old new r p e was now stays last feeds =
    reads-packet old new r p e was now stays
    (λ packets. taken-next old.media.pt old.shift old.numbers new.numbers old.walk new.walk packets p stays.seq16 last (feeds.goes_on old.shift))
reads-fed (Err why) old new r p e was now stays last feeds =
    reads-fault old new r p why e was now stays
    (λ packets rest. taken-ends old.media.pt old.shift old.numbers old.walk packets p rest why (feeds.ends old.shift))

-- the same of a walk, numbers and a payload type that are the reading's
pub reads-inside : {T : Type 0} (result : Result T Unjudged) (old new : Reading) (r : Record) (p q : FlowPacket) (walk : Walk) (pt : ℕ) (numbers : Numbers)
    → walk ≡ old.walk → pt ≡ old.media.pt → numbers ≡ old.numbers
    → flow_packet old.media r ≡ Some p
    → old.refused ≡ None → new.refused ≡ result_err result
    → new.media ≡ old.media → new.shift ≡ old.shift → new.numbers.seq16 ≡ numbers.seq16
    → new.numbers.last ≡ next_last numbers.seq16 numbers.last p
    → q ≡ next_packet numbers.seq16 numbers.last p
    → AsksNoLess (asked_of walk) (asked_by new)
    → Feeds result pt walk new.walk q
    → ReadsOn old new (r ∷ [])
reads-inside result old new r p q walk pt numbers same_walk same_pt same_numbers e was now media shift seq16 last is asked feeds =
    let stays : Stays old new = record {
      media = media;
      shift = shift;
      seq16 = seq16 ∙ ap (λ (n : Numbers). n.seq16) same_numbers;
      asked = subst (λ (w : Walk). AsksNoLess (asked_of w) (asked_by new)) same_walk asked;
    } in
    let numbered : q ≡ next_packet old.numbers.seq16 old.numbers.last p = is ∙ ap (λ (n : Numbers). next_packet n.seq16 n.last p) same_numbers in
    reads-fed result old new r p e was now stays (last ∙ ap (λ (n : Numbers). next_last n.seq16 n.last p) same_numbers)
    (subst (λ (w : Walk). Feeds result old.media.pt w new.walk (next_packet old.numbers.seq16 old.numbers.last p)) same_walk
    (subst (λ (x : ℕ). Feeds result x walk new.walk (next_packet old.numbers.seq16 old.numbers.last p)) same_pt
    (subst (Feeds result pt walk new.walk) numbered feeds)))

-- the answer where the flow isn't judged
pub says-refused : (x : Reading) (items : List Record) (why : Unjudged) (kind : Kind) (f : FailProof) (run : ℕ) → x.refused ≡ Some why → HasRead x items
    → Says x.media kind f run (judged (flow items x.media) x.media.pt (options_of x)) (Err why)
says-refused x items why kind f run e h =
    let refused : HasReadBy (Some why) x items = subst (λ o. HasReadBy o x items) e h in
    let here : IsRefused (judged (flow items x.media) x.media.pt (options_of x)) why =
    subst (λ l. IsRefused (judged (flow l x.media) x.media.pt (options_of x)) why) (append-nil items) (refused []) in
    here x.media kind f run

-- a reading that hasn't come yet is as it was
untouched : (r : Record) (i : ℕ) (olds news : List Reading) (d : Reading) → i < length olds → TakesUpTo r i olds news → get_or news i d ≡ get_or olds i d
untouched r i [] news d within h = absurd (omega (arith, within))
untouched r zero (o ∷ os) news d within h = ap (λ (l : List Reading). get_or l 0 d) h
untouched r (suc i) (o ∷ os) [] d within h = absurd h
untouched r (suc i) (o ∷ os) (n ∷ ns) d within h = untouched r i os ns d (omega (arith, within)) h.1

-- one reading more takes the record
pub takes-more : (r : Record) (i : ℕ) (olds news : List Reading) (d new : Reading) → i < length olds → TakesUpTo r i olds news
    → TakesRecord r (get_or news i d) new
    → TakesUpTo r (suc i) olds (set news i new)
takes-more r i [] news d new within h takes = absurd (omega (arith, within))
takes-more r zero (o ∷ os) [] d new within h takes = cc
takes-more r zero (o ∷ os) (n ∷ ns) d new within h takes =
    let same : n ≡ o = cc in
    let rest : ns ≡ os = cc in
    (subst (λ (x : Reading). TakesRecord r x new) same takes, rest)
takes-more r (suc i) (o ∷ os) [] d new within h takes = absurd h
takes-more r (suc i) (o ∷ os) (n ∷ ns) d new within h takes = (h.0, takes-more r i os ns d new (omega (arith, within)) h.1 takes)

-- all have taken it
read-all : (r : Record) (i : ℕ) (olds news : List Reading) → length olds ≤ i → TakesUpTo r i olds news → ReadOn olds news (r ∷ [])
read-all r zero [] news all h = subst (λ (l : List Reading). ReadOn [] l (r ∷ [])) (sym h) tt
read-all r zero (o ∷ os) news all h = absurd (omega (arith, all))
read-all r (suc i) [] news all h = subst (λ (l : List Reading). ReadOn [] l (r ∷ [])) (sym h) tt
read-all r (suc i) (o ∷ os) [] all h = absurd h
read-all r (suc i) (o ∷ os) (n ∷ ns) all h = (h.0.reads, read-all r i os ns (omega (arith, all)) h.1)

room-all : (r : Record) (i : ℕ) (olds news : List Reading) (count : ℕ) → length olds ≤ i → TakesUpTo r i olds news → HaveRoom (count + 1) olds
    → HaveRoom count news
room-all r zero [] news count all h room = subst (HaveRoom count) (sym h) tt
room-all r zero (o ∷ os) news count all h room = absurd (omega (arith, all))
room-all r (suc i) [] news count all h room = subst (HaveRoom count) (sym h) tt
room-all r (suc i) (o ∷ os) [] count all h room = absurd h
room-all r (suc i) (o ∷ os) (n ∷ ns) count all h room =
    (omega (arith, h.0.few, room.0), room-all r i os ns count (omega (arith, all)) h.1 room.1)

whole : (news others : List Reading) (long : ℕ) → length news ≡ long → take long (news ++ others) ≡ news
whole news others long e = ap (λ (n : ℕ). take n (news ++ others)) (sym e) ∙ take-append_seam news others

-- they stand in the place of those before
pub read-whole : (r : Record) (i : ℕ) (olds news others : List Reading) (long : ℕ) → length news ≡ long → length olds ≤ i → TakesUpTo r i olds news
    → ReadOn olds (take long (news ++ others)) (r ∷ [])
read-whole r i olds news others long e all h =
    subst (λ (l : List Reading). ReadOn olds l (r ∷ [])) (sym (whole news others long e)) (read-all r i olds news all h)

pub room-whole : (r : Record) (i : ℕ) (olds news others : List Reading) (long count : ℕ) → length news ≡ long → length olds ≤ i → TakesUpTo r i olds news
    → HaveRoom (count + 1) olds → HaveRoom count (take long (news ++ others))
room-whole r i olds news others long count e all h room =
    subst (HaveRoom count) (sym (whole news others long e)) (room-all r i olds news count all h room)

-- a reading that comes has room
room-at : (count i : ℕ) (rs : List Reading) (d : Reading) → i < length rs → HaveRoom count rs → count_taken (get_or rs i d) + count ≤ 2 ^ 41
room-at count i [] d within room = absurd (omega (arith, within))
room-at count zero (r ∷ rs) d within room = room.0
room-at count (suc i) (r ∷ rs) d within room = room-at count i rs d (omega (arith, within)) room.1

pub room-now : (r : Record) (i : ℕ) (olds news : List Reading) (d : Reading) → i < length olds → HaveRoom 1 olds → TakesUpTo r i olds news
    → count_taken (get_or news i d) < 2 ^ 41
room-now r i olds news d within room h =
    let most = room-at 1 i olds d within room in
    subst (λ (x : Reading). count_taken x < 2 ^ 41) (sym (untouched r i olds news d within h)) (omega (arith, most))

-- a record without a datagram
pub read-nothing : (r : Record) (rs : List Reading) → datagram_of r.bytes ≡ None → ReadOn rs rs (r ∷ [])
read-nothing r [] e = tt
read-nothing r (x ∷ xs) e = (reads-nothing x r (ap (datagram_packet x.media r.number r.stamp) e), read-nothing r xs e)

pub room-same : (count : ℕ) (rs : List Reading) → HaveRoom (count + 1) rs → HaveRoom count rs
room-same count [] room = tt
room-same count (r ∷ rs) room = (omega (arith, room.0), room-same count rs room.1)

-- all records of a capture were taken, where no read failed
pub takes-all : (before : ℕ) (old new : Checking) (taken : Taken) (items : List Record) (end : FileNote)
    → taken.note ≢ Refused fault.ReadFault
    → HasTaken FeedsOn before old new taken.note taken.records items end
    → TakesAll before old.readings.items new.readings.items (Ok (before + taken.records)) items
takes-all before old new taken items end own h =
    let all = taken-whole FeedsOn before old new taken.note taken.records items end own h in
    (ap (λ n. before + n) all.1, all.2)
