-- A judge is fed one packet, by its judged number.
use Rattle.std.proofs.Common.{◌≡◌, ◌<◌, ◌+◌, ◌^◌, ℕ, Bool, true, false, List, [], ◌∷◌, ◌++◌, length, length-append, Option, Some, None, Ok, Err, Result}
use Rattle.std.proofs.Common.{refl, arith, ap, ◌∙◌, sym, subst}
use Rattle.std.specs.Prelude.{OnOk}
use Rattle.std.proofs.lemmas.List.Elements.{All-nil}
use Rattle.timing_base.specs.Captures.{IsStamp}
use Rattle.timing_base.specs.Flows.{first_fault, rtp}
use Rattle.timing_base.specs.Media.{Media}
use Rattle.timing_base.specs.Numbered.{counted, numbered}
use Rattle.timing_base.specs.Shifts.{FlowOptions, Shift}
use Rattle.timing_base.specs.declared.key.FlowKey.{FlowKey}
use Rattle.timing_base.specs.declared.packet.FlowPacket.{FlowPacket}
use Rattle.timing_base.specs.declared.packet.PacketFault.{PacketFault}
use Rattle.timing_base.specs.declared.packet.Rtp.{Rtp}
use Rattle.timing_base.specs.declared.row.Row.{Row}
use Rattle.timing_base.specs.declared.row.Verdict.{Verdict}
use Rattle.timing_base.proofs.FirstFaults.{fault-kept, no_fault-at}
use Rattle.timing_base.proofs.Numberings.{length-numbered, stamped-numbered}
use Rattle.frame_group.specs.Expected.{after, expected_by_options, going_on, next_packet, raise_after, raise_of, with_number}
use Rattle.fail_interval.specs.Counting.{Counts}
use Rattle.fail_interval.specs.Flowing.{StandsFor as FlowStandsFor}
use Rattle.fail_interval.specs.Goings.{CountsOn, GoesAsExpected, StateTakes}
use Rattle.fail_interval.specs.Measured.{JudgeTells, StateTells, StateTellsTaken, TellsGoingOn, TellsSoFar}
use Rattle.fail_interval.specs.Metered.{Standing, Telling}
use Rattle.fail_interval.specs.Row.{row}
use Rattle.fail_interval.specs.Stands.{StandsFor, Takes, TakesExpected}
use Rattle.fail_interval.specs.States.{IsAt, IsKnown, IsRefused, StandsFor as StateStandsFor}
use Rattle.fail_interval.specs.Taken.{IsExpected}
use Rattle.fail_interval.specs.declared.counting.Counting.{Counting}
use Rattle.fail_interval.specs.declared.flow.Flow.{Flow}
use Rattle.fail_interval.specs.declared.judge.FlowJudge.{FlowJudge}
use Rattle.fail_interval.specs.declared.judge.State.{State}
use Rattle.fail_interval.specs.declared.judge.State.TheVariants.{Going, Refused, Spent}
use Rattle.fail_interval.proofs.Expecting.{expects-by, is-something}
use Rattle.fail_interval.proofs.Feeding.{stamped-more, unread-fault}
use Rattle.fail_interval.proofs.Flows.{packet-here}
use Rattle.fail_interval.proofs.JudgeTold.{ended-tells, on_ok, same-tells, so_far-tells}
use Rattle.fail_interval.proofs.Judging.{at-flow, refused-more, stands-expected, took-expected}
use Rattle.fail_interval.proofs.Numbered.{judged_next, last-counted, last-push, numbered-going, numbered-next, numbered-none, raise-going, raise-none}
use Rattle.fail_interval.proofs.Numbered.{raise-plain, raise-push}
use Rattle.fail_interval.proofs.Rows.{no_fault}

-- a packet as it was fed
abbrev fed_packet : ℕ → ℕ → Result Rtp PacketFault → FlowPacket
fed_packet rec at rtp = record { rec = rec; at = at; rtp = rtp }

-- a judge by its parts
abbrev judge_by : {M : Type 0} → FlowKey → (fed : ℕ) → Counting → (state : State M) → ∥ IsKnown fed state ∥₁ → FlowJudge M
judge_by key fed counting state known = record { key = key; fed = fed; counting = counting; state = state; known = known }

-- what the state of a judge was fed
pub as-state : {M : Type 0} (m : Media) (key : FlowKey) (options : FlowOptions) (judge : FlowJudge M) (packets : List FlowPacket)
    → StandsFor m key options judge packets
    → StateStandsFor m options.shift judge.fed (numbered options.seq16 packets) judge.state
as-state m key options judge packets s = record {
  count = s.fed ∙ sym (length-numbered options.seq16 packets);
  stamped = stamped-numbered options.seq16 packets s.stamped;
  is = s.state;
}

-- before the first packet
pub counts-none : (pt : ℕ) (seq16 : Bool) (counting : Counting) → counting.seq16 ≡ seq16 → counting.raise ≡ 0 → Counts pt seq16 [] counting
counts-none pt seq16 counting is none = record { seq16_is = is; raise_is = λ _. none ∙ sym (raise-none seq16); few = λ _. omega arith }

pub stands-none : {M : Type 0} (m : Media) (key : FlowKey) (options : FlowOptions) (counting : Counting) (flow : Flow M) (known : ∥ IsKnown 0 (Going flow) ∥₁)
    → counting.seq16 ≡ options.seq16 → counting.raise ≡ 0
    → flow.media ≡ m → flow.shift ≡ options.shift → FlowStandsFor flow []
    → StandsFor m key options (judge_by key 0 counting (Going flow) known) []
stands-none m key options counting flow known is none media shift stands = record {
  key_is = refl;
  fed = refl;
  counts = counts-none m.pt options.seq16 counting is none;
  stamped = All-nil (λ (p : FlowPacket). IsStamp p.at);
  state = subst (λ (l : List FlowPacket). IsAt m options.shift l (Going flow)) (sym (numbered-none options.seq16)) (media, shift, stands);
}

-- a flow that goes on has no fault
going-sound : {M : Type 0} (m : Media) (shift : Shift) (packets : List FlowPacket) (state : State M) (flow : Flow M) → state ≡ Going flow
    → IsAt m shift packets state
    → first_fault packets m.pt ≡ None
going-sound m shift packets state flow e is =
    let at = at-flow m shift state flow packets e is in
    subst (λ (k : Media). first_fault packets k.pt ≡ None) at.0 (no_fault flow packets at.2)

-- nor have the packets of a state before one without a fault
sound-case : {M : Type 0} (m : Media) (shift : Shift) (packets : List FlowPacket) (p : FlowPacket) (state : State M) → IsAt m shift packets state
    → first_fault (packets ++ p ∷ []) m.pt ≡ None
    → first_fault packets m.pt ≡ None
sound-case m shift packets p (Going flow) is none = going-sound m shift packets (Going flow) flow refl is
sound-case m shift packets p (Refused rec fault) is none =
    let long : length packets + 1 ≡ length (packets ++ p ∷ []) = sym (length-append packets (p ∷ [])) in
    let first = fault-kept (packets ++ p ∷ []) m.pt (length packets) (length (packets ++ p ∷ [])) _ (omega (arith, long)) (is.first (p ∷ [])) in
    cc
sound-case m shift packets p Spent is none = absurd is

-- packet q is packet p with its judged number
judged-case : {M : Type 0} (seq16 : Bool) (m : Media) (shift : Shift) (packets : List FlowPacket) (old new : Counting) (state : State M) (rec at : ℕ)
    (p q : Rtp)
    → old.seq16 ≡ seq16 → CountsOn old new state p q → IsAt m shift (numbered seq16 packets) state
    → first_fault (numbered seq16 packets) m.pt ≡ None
    → fed_packet rec at (Ok q) ≡ judged_next seq16 packets (fed_packet rec at (Ok p))
judged-case false m shift packets old new state rec at p q e c is none = ap (λ r. fed_packet rec at (Ok r)) (c.plain e).0
judged-case true m shift packets old new state rec at p q e c is none =
    ap (λ r. fed_packet rec at (Ok r)) (c.counts e m shift (numbered true packets) is none
    ∙ ap (λ before. with_number (counted before p.number) p) (sym (last-counted packets m.pt none)))

raise-case : (seq16 : Bool) (packets : List FlowPacket) (old new : Counting) (rec at : ℕ) (p q : Rtp)
    → (seq16 ≡ false → new.raise ≡ old.raise) → (seq16 ≡ true → new.raise ≡ raise_of q.number p.number)
    → old.raise ≡ raise_after seq16 packets
    → numbered seq16 (packets ++ fed_packet rec at (Ok p) ∷ []) ≡ numbered seq16 packets ++ fed_packet rec at (Ok q) ∷ []
    → new.raise ≡ raise_after seq16 (packets ++ fed_packet rec at (Ok p) ∷ [])
raise-case false packets old new rec at p q plain counted was e =
    plain refl ∙ (was ∙ (raise-plain packets ∙ sym (raise-plain (packets ++ fed_packet rec at (Ok p) ∷ []))))
raise-case true packets old new rec at p q plain counted was e =
    counted refl ∙ sym (raise-push true packets (fed_packet rec at (Ok p)) (fed_packet rec at (Ok q)) e)

-- the numbers of a judge go on with packet p, which the state takes as q
pub record NumbersGoOn {M : Type 0} (judge : FlowJudge M) (counting : Counting) (p q : FlowPacket) : Type 0 where
  pub judged : (m : Media) (key : FlowKey) (options : FlowOptions) (packets : List FlowPacket) → StandsFor m key options judge packets
      → first_fault (numbered options.seq16 packets) m.pt ≡ None
      → numbered options.seq16 (packets ++ p ∷ []) ≡ numbered options.seq16 packets ++ q ∷ []
  pub counts : (m : Media) (key : FlowKey) (options : FlowOptions) (packets : List FlowPacket) → StandsFor m key options judge packets
      → Counts m.pt options.seq16 (packets ++ p ∷ []) counting

-- of a packet that was read
pub read-goes : {M : Type 0} (judge : FlowJudge M) (counting : Counting) (rec at : ℕ) (p q : Rtp) → CountsOn judge.counting counting judge.state p q
    → NumbersGoOn judge counting (fed_packet rec at (Ok p)) (fed_packet rec at (Ok q))
read-goes judge counting rec at p q c =
    let next = fed_packet rec at (Ok p) in
    let goes : (m : Media) (key : FlowKey) (options : FlowOptions) (packets : List FlowPacket) → StandsFor m key options judge packets
    → first_fault (numbered options.seq16 packets) m.pt ≡ None
    → numbered options.seq16 (packets ++ next ∷ []) ≡ numbered options.seq16 packets ++ fed_packet rec at (Ok q) ∷ [] =
    λ m key options packets s none.
    numbered-next options.seq16 packets next
    ∙ ap (λ x. numbered options.seq16 packets ++ x ∷ []) (sym (judged-case options.seq16 m options.shift packets judge.counting counting judge.state rec at p q
    s.counts.seq16_is c s.state none)) in
    record {
      judged = goes;
      counts = λ m key options packets s. record {
        seq16_is = c.seq16 ∙ s.counts.seq16_is;
        raise_is = λ none.
            let all = numbered options.seq16 packets in
            let sound : first_fault all m.pt ≡ None =
            sound-case m options.shift all (judged_next options.seq16 packets next) judge.state s.state
            (subst (λ (l : List FlowPacket). first_fault l m.pt ≡ None) (numbered-next options.seq16 packets next) none) in
            raise-case options.seq16 packets judge.counting counting rec at p q (λ e. (c.plain (s.counts.seq16_is ∙ e)).1)
            (λ e. c.raise (s.counts.seq16_is ∙ e))
            (s.counts.raise_is sound) (goes m key options packets s sound);
        few = λ e. omega (arith, last-push packets next, c.few (s.counts.seq16_is ∙ e));
      };
    }

unread-next : (seq16 : Bool) (packets : List FlowPacket) (rec at : ℕ) (fault : PacketFault)
    → judged_next seq16 packets (fed_packet rec at (Err fault)) ≡ fed_packet rec at (Err fault)
unread-next false packets rec at fault = refl
unread-next true packets rec at fault = refl

unread-numbered : (seq16 : Bool) (packets : List FlowPacket) (rec at : ℕ) (fault : PacketFault)
    → numbered seq16 (packets ++ fed_packet rec at (Err fault) ∷ []) ≡ numbered seq16 packets ++ fed_packet rec at (Err fault) ∷ []
unread-numbered seq16 packets rec at fault =
    numbered-next seq16 packets (fed_packet rec at (Err fault)) ∙ ap (λ q. numbered seq16 packets ++ q ∷ []) (unread-next seq16 packets rec at fault)

-- of one that couldn't be read
unread-sound : (packets : List FlowPacket) (pt rec at : ℕ) (fault : PacketFault) → first_fault (packets ++ fed_packet rec at (Err fault) ∷ []) pt ≡ None → ⊥
unread-sound packets pt rec at fault none =
    let p = fed_packet rec at (Err fault) in
    let here = no_fault-at (packets ++ p ∷ []) pt (length (packets ++ p ∷ [])) (length packets) none (omega (arith, length-append packets (p ∷ []))) in
    let there = unread-fault (packets ++ p ∷ []) pt (length packets) fault (ap (λ (q : FlowPacket). q.rtp) (packet-here packets [] p)) in
    cc

pub unread-goes : {M : Type 0} (judge : FlowJudge M) (rec at : ℕ) (fault : PacketFault)
    → NumbersGoOn judge judge.counting (fed_packet rec at (Err fault)) (fed_packet rec at (Err fault))
unread-goes judge rec at fault = record {
  judged = λ m key options packets s none. unread-numbered options.seq16 packets rec at fault;
  counts = λ m key options packets s. record {
    seq16_is = s.counts.seq16_is;
    raise_is = λ none.
        absurd (unread-sound (numbered options.seq16 packets) m.pt rec at fault
        (subst (λ (l : List FlowPacket). first_fault l m.pt ≡ None) (unread-numbered options.seq16 packets rec at fault) none));
    few = λ _. omega (arith, last-push packets (fed_packet rec at (Err fault)));
  };
}

-- a judge with one packet more
more : {M : Type 0} (m : Media) (key : FlowKey) (options : FlowOptions) (judge : FlowJudge M) (counting : Counting) (state : State M)
    (known : ∥ IsKnown (judge.fed + 1) state ∥₁) (packets : List FlowPacket) (p : FlowPacket)
    → IsStamp p.at → StandsFor m key options judge packets
    → Counts m.pt options.seq16 (packets ++ p ∷ []) counting
    → IsAt m options.shift (numbered options.seq16 (packets ++ p ∷ [])) state
    → StandsFor m key options (judge_by judge.key (judge.fed + 1) counting state known) (packets ++ p ∷ [])
more m key options judge counting state known packets p stamp s counts is = record {
  key_is = s.key_is;
  fed = omega (arith, s.fed, length-append packets (p ∷ []));
  counts = counts;
  stamped = stamped-more packets p s.stamped stamp;
  state = is;
}

on_ok-map : {T E X Y : Type 0} (result : Result T E) → (X → Y) → OnOk result X → OnOk result Y
on_ok-map (Ok value) f x = f x
on_ok-map (Err cause) f x = tt

takes-case : {M T E : Type 0} (m : Media) (key : FlowKey) (options : FlowOptions) (result : Result T E) (judge : FlowJudge M) (was : State M)
    (counting : Counting)
    (state : State M) (known : ∥ IsKnown (judge.fed + 1) state ∥₁) (packets : List FlowPacket) (p q : FlowPacket)
    → judge.state ≡ was
    → NumbersGoOn judge counting p q
    → StateTakes judge.fed judge.state state q result
    → IsStamp p.at → StandsFor m key options judge packets
    → OnOk result (StandsFor m key options (judge_by judge.key (judge.fed + 1) counting state known) (packets ++ p ∷ []))
takes-case m key options result judge (Going flow) counting state known packets p q e goes takes stamp s =
    let all = numbered options.seq16 packets in
    let sound = going-sound m options.shift all judge.state flow e s.state in
    on_ok-map result
    (λ t. more m key options judge counting state known packets p stamp s (goes.counts m key options packets s)
    (subst (λ (l : List FlowPacket). IsAt m options.shift l state) (sym (goes.judged m key options packets s sound)) t.is))
    (takes.stands m options.shift all (as-state m key options judge packets s))
takes-case m key options result judge (Refused rec fault) counting state known packets p q e goes takes stamp s =
    let all = numbered options.seq16 packets in
    let next = judged_next options.seq16 packets p in
    let is : IsRefused m all rec fault = subst (IsAt m options.shift all) e s.state in
    let now : IsAt m options.shift (all ++ next ∷ []) state =
    subst (IsAt m options.shift (all ++ next ∷ [])) (sym (takes.refused rec fault e).1) (refused-more m all next rec fault is) in
    on_ok result
    (more m key options judge counting state known packets p stamp s (goes.counts m key options packets s)
    (subst (λ (l : List FlowPacket). IsAt m options.shift l state) (sym (numbered-next options.seq16 packets p)) now))
takes-case m key options result judge Spent counting state known packets p q e goes takes stamp s =
    let at : ⊥ = subst (IsAt m options.shift (numbered options.seq16 packets)) e s.state in absurd at

-- the judge took the packet
pub takes-more : {M T E : Type 0} (result : Result T E) (judge : FlowJudge M) (counting : Counting) (state : State M)
    (known : ∥ IsKnown (judge.fed + 1) state ∥₁)
    (p q : FlowPacket)
    → NumbersGoOn judge counting p q
    → StateTakes judge.fed judge.state state q result
    → IsStamp p.at
    → Takes judge (judge_by judge.key (judge.fed + 1) counting state known) p result
takes-more result judge counting state known p q goes takes stamp = record {
  fed = refl;
  stands = λ m key options packets s. takes-case m key options result judge judge.state counting state known packets p q refl goes takes stamp s;
  spends = takes.spends;
  stays = takes.stays;
}

tells-case : {M Out Past T E : Type 0} (stands : Standing M) (tells : Telling Past Out) (past : Past) (m : Media) (key : FlowKey) (options : FlowOptions)
    (result : Result T E) (judge : FlowJudge M) (was : State M) (counting : Counting) (state : State M) (packets : List FlowPacket) (p q : FlowPacket)
    (before after : Out)
    → judge.state ≡ was
    → NumbersGoOn judge counting p q
    → StateTakes judge.fed judge.state state q result
    → StateTellsTaken stands tells judge.fed judge.state state before after q result
    → StandsFor m key options judge packets
    → JudgeTells stands tells past m options packets judge before
    → OnOk result (StateTells stands tells past m options.shift (numbered options.seq16 (packets ++ p ∷ [])) state after)
tells-case stands tells past m key options result judge (Going flow) counting state packets p q before after e goes takes told s t =
    let all = numbered options.seq16 packets in
    let sound = going-sound m options.shift all judge.state flow e s.state in
    on_ok-map result
    (λ now. subst (λ (l : List FlowPacket). StateTells stands tells past m options.shift l state after) (sym (goes.judged m key options packets s sound)) now)
    (told.told past m options.shift all (as-state m key options judge packets s) t)
tells-case stands tells past m key options result judge (Refused rec fault) counting state packets p q before after e goes takes told s t =
    let all = numbered options.seq16 packets in
    let next = judged_next options.seq16 packets p in
    on_ok result
    (subst (λ (l : List FlowPacket). StateTells stands tells past m options.shift l state after) (sym (numbered-next options.seq16 packets p))
    (ended-tells stands tells past m options.shift rec fault judge.fed judge.state state all next after e (takes.refused rec fault e).1
    (as-state m key options judge packets s)
    (same-tells stands tells past m options.shift all judge.state judge.state before after refl (told.refused rec fault e) t)))
tells-case stands tells past m key options result judge Spent counting state packets p q before after e goes takes told s t =
    let at : ⊥ = subst (IsAt m options.shift (numbered options.seq16 packets)) e s.state in absurd at

-- and the output of its meters tells of it
pub tells-more : {M Out T E : Type 0} {Past : Type 0} (stands : Standing M) (tells : Telling Past Out) (result : Result T E) (judge : FlowJudge M)
    (counting : Counting)
    (state : State M) (p q : FlowPacket) (before after : Out)
    → NumbersGoOn judge counting p q
    → StateTakes judge.fed judge.state state q result
    → StateTellsTaken stands tells judge.fed judge.state state before after q result
    → (past : Past) (m : Media) (key : FlowKey) (options : FlowOptions) (packets : List FlowPacket) → StandsFor m key options judge packets
    → JudgeTells stands tells past m options packets judge before
    → OnOk result (StateTells stands tells past m options.shift (numbered options.seq16 (packets ++ p ∷ [])) state after)
tells-more stands tells result judge counting state p q before after goes takes told past m key options packets s t =
    tells-case stands tells past m key options result judge judge.state counting state packets p q before after refl goes takes told s t

-- the packet that the judge took is the one expected
pub judge-expected : {M : Type 0} (m : Media) (key : FlowKey) (options : FlowOptions) (at : ℕ) (judge : FlowJudge M) (new : State M) (packets : List FlowPacket)
    → GoesAsExpected judge.state new at → judge.fed < 2 ^ 41 → IsStamp at
    → StandsFor m key options judge packets
    → expected_by_options options packets m.pt ≡ Some (going_on packets m.pt (length packets))
judge-expected m key options at judge new packets went few stamp s =
    expects-by options packets m.pt
    (took-expected m options.shift judge.fed at judge.state new (numbered options.seq16 packets) went few stamp (as-state m key options judge packets s))

-- and the judge stands for one packet more
pub judge-more : {M : Type 0} (m : Media) (key : FlowKey) (options : FlowOptions) (rec at : ℕ) (judge : FlowJudge M) (new : State M)
    (known : ∥ IsKnown (judge.fed + 1) new ∥₁) (packets : List FlowPacket)
    → GoesAsExpected judge.state new at → judge.fed < 2 ^ 41 → IsStamp at
    → StandsFor m key options judge packets
    → StandsFor m key options (judge_by judge.key (judge.fed + 1) judge.counting new known) (packets ++ next_packet packets m.pt rec at ∷ [])
judge-more m key options rec at judge new known packets went few stamp s =
    let all = numbered options.seq16 packets in
    let inner = as-state m key options judge packets s in
    let (some, sound) = is-something options packets m.pt (took-expected m options.shift judge.fed at judge.state new all went few stamp inner) in
    let goes = numbered-going options.seq16 packets m.pt rec at some sound in
    more m key options judge judge.counting new known packets (next_packet packets m.pt rec at) stamp s
    record {
      seq16_is = s.counts.seq16_is;
      raise_is = λ _. s.counts.raise_is sound ∙ sym (raise-going options.seq16 packets m.pt rec at some sound s.counts.few);
      few = λ _. omega (arith, last-push packets (next_packet packets m.pt rec at));
    }
    (subst (λ (l : List FlowPacket). IsAt m options.shift l new) (sym goes)
    (stands-expected m options.shift judge.fed rec at judge.state new all went few stamp inner))

-- the output of its meters tells of that packet
pub judge-tells : {M Out Past : Type 0} (stands : Standing M) (tells : Telling Past Out) (past : Past) (m : Media) (key : FlowKey) (options : FlowOptions)
    (rec at : ℕ)
    (judge : FlowJudge M) (new : State M) (packets : List FlowPacket) (out : Out)
    → GoesAsExpected judge.state new at → judge.fed < 2 ^ 41 → IsStamp at
    → StandsFor m key options judge packets
    → StateTells stands tells past m options.shift
    (numbered options.seq16 packets ++ next_packet (numbered options.seq16 packets) m.pt rec at ∷ []) new out
    → StateTells stands tells past m options.shift (numbered options.seq16 (packets ++ next_packet packets m.pt rec at ∷ [])) new out
judge-tells stands tells past m key options rec at judge new packets out went few stamp s t =
    let all = numbered options.seq16 packets in
    let (some, sound) = is-something options packets m.pt
    (took-expected m options.shift judge.fed at judge.state new all went few stamp (as-state m key options judge packets s)) in
    subst (λ (l : List FlowPacket). StateTells stands tells past m options.shift l new out)
    (sym (numbered-going options.seq16 packets m.pt rec at some sound)) t

-- what the output tells of the packets that a judge was fed
pub judge-so_far : {M Out Past : Type 0} (stands : Standing M) (tells : Telling Past Out) (past : Past) (m : Media) (key : FlowKey) (options : FlowOptions)
    (judge : FlowJudge M) (packets : List FlowPacket) (out : Out)
    → StandsFor m key options judge packets
    → JudgeTells stands tells past m options packets judge out
    → TellsSoFar tells past m options.shift (numbered options.seq16 packets) (length packets) out
judge-so_far stands tells past m key options judge packets out s t =
    let all = numbered options.seq16 packets in
    subst (λ n. TellsSoFar tells past m options.shift all n out) (length-numbered options.seq16 packets)
    (so_far-tells stands tells past m options.shift judge.fed judge.state all out (as-state m key options judge packets s) t)

-- a row by its parts
abbrev pub row_by : FlowKey → Verdict → Row
row_by key told = record { key = key; verdict = told }

pub row-same : (a b : FlowKey) (v w : Verdict) → a ≡ b → v ≡ w → row_by a v ≡ row_by b w
row-same a b v w e f = cc

-- a judge that was refused memory stands for no packets
pub row-spent : {M : Type 0} (m : Media) (key : FlowKey) (options : FlowOptions) (judge : FlowJudge M) (told : Verdict) (packets : List FlowPacket)
    → judge.state ≡ Spent
    → StandsFor m key options judge packets
    → row_by judge.key told ≡ row packets key m options
row-spent m key options judge told packets e s = let at : ⊥ = subst (IsAt m options.shift (numbered options.seq16 packets)) e s.state in absurd at

-- the packet that goes on is the one expected
goes-on : {M : Type 0} (old new : FlowJudge M) (stamp : ℕ) (p : Rtp) → IsExpected old p → TakesExpected old new stamp → (m : Media) (key : FlowKey)
    (options : FlowOptions)
    (packets : List FlowPacket)
    → StandsFor m key options old packets
    → going_on packets m.pt (length packets) ≡ p
goes-on old new stamp p is took m key options packets s =
    let both : ◌≡◌ {A = Option Rtp} (Some p) (Some (going_on packets m.pt (length packets))) =
    is m key options packets s ∙ took.expects m key options packets s in
    cc

-- the packet expected is fed, where the judge took that one
pub takes_expected : {M : Type 0} (old new : FlowJudge M) (stamp : ℕ) (p : Rtp) → IsExpected old p → TakesExpected old new stamp
    → (n : ℕ) (m : Media) (key : FlowKey) (options : FlowOptions) (packets : List FlowPacket) → StandsFor m key options old packets
    → StandsFor m key options new (packets ++ record { rec = n; at = stamp; rtp = Ok p } ∷ [])
takes_expected old new stamp p is took n m key options packets s =
    subst (λ (r : Rtp). StandsFor m key options new (packets ++ record { rec = n; at = stamp; rtp = Ok r } ∷ []))
    (goes-on old new stamp p is took m key options packets s) (took.stands m key options packets n s)

-- and the output of its meters tells of it
pub tells_expected : {M Out Past : Type 0} (stands : Standing M) (tells : Telling Past Out) (old new : FlowJudge M) (n stamp : ℕ) (p : Rtp) → IsExpected old p
    → TakesExpected old new stamp
    → TellsGoingOn stands tells old new n stamp
    → (past : Past) (out : Out) (m : Media) (key : FlowKey) (options : FlowOptions) (packets : List FlowPacket) → StandsFor m key options old packets
    → JudgeTells stands tells past m options packets old out
    → JudgeTells stands tells past m options (packets ++ record { rec = n; at = stamp; rtp = Ok p } ∷ []) new out
tells_expected stands tells old new n stamp p is took told past out m key options packets s t =
    subst (λ (r : Rtp). JudgeTells stands tells past m options (packets ++ record { rec = n; at = stamp; rtp = Ok r } ∷ []) new out)
    (goes-on old new stamp p is took m key options packets s) (told past out m key options packets s t)
