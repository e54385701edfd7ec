-- A packet was taken by the meters of a flow, and its lines were added.
use Rattle.std.specs.Prelude.{is_some, option_map, string_bytes, nat_le, ◌==◌, ◌||◌, if◌then◌else◌}
use Rattle.std.proofs.Common.{◌≡◌, ◌<◌, ◌≤◌, ◌-◌, ◌+◌, ◌^◌, ◌++◌, ◌∷◌, ℕ, zero, suc, Bool, true, false, List, [], length, Option, Some, None, inl, inr}
use Rattle.std.proofs.Common.{◌∙◌, ap, ap₂, sym, subst, refl, arith, add-one, append-nil, append_assoc, length-append}
use Rattle.std.proofs.Math.Seq.{get_or-append_seam}
use Rattle.std.proofs.lemmas.Bool.{cases_lt}
use Rattle.std.proofs.lemmas.Bool.Decides.{nat_tests}
use Rattle.std.proofs.lemmas.List.{append_cancel_left}
use Rattle.std.proofs.lemmas.List.Elements.{All-head, All-tail}
use Rattle.timing_base.specs.Captures.{IsStamp}
use Rattle.timing_base.specs.Flows.{AreStamped, FirstFault, cuts, earlier_or, expected_number, fault, first_fault, first_fault_below, has_marker, is_cut}
use Rattle.timing_base.specs.Flows.{last_place}
use Rattle.timing_base.specs.Flows.{markers, no_packet, packet, rtp, run_start}
use Rattle.timing_base.specs.Judged.{expected_at}
use Rattle.timing_base.specs.Keys.{key_of}
use Rattle.timing_base.specs.Media.{IsMedia, Media}
use Rattle.timing_base.specs.Numbered.{numbered}
use Rattle.timing_base.specs.Shifts.{FlowOptions, Shift}
use Rattle.timing_base.specs.declared.packet.FlowPacket.{FlowPacket}
use Rattle.timing_base.specs.declared.packet.PacketFault.{PacketFault}
use Rattle.timing_base.specs.declared.row.Unjudged.{Unjudged}
use Rattle.timing_base.proofs.Between.{start-cut}
use Rattle.timing_base.proofs.FirstFaults.{fault-kept, no_fault-at}
use Rattle.timing_base.proofs.Numberings.{length-numbered}
use Rattle.timing_base.proofs.Places.{cuts-here, cuts-other, places-here, places-other}
use Rattle.run_meter.specs.Runs.{JudgedPart, OpenPart}
use Rattle.fail_interval.specs.Current.{open_run_of, refusal_of, unjudged_by}
use Rattle.fail_interval.specs.Measured.{JudgeTells, TellsSoFar}
use Rattle.fail_interval.specs.Meterings.{IsFed}
use Rattle.fail_interval.specs.Parts.{judged_packets, open_before, parts_before, sound_before}
use Rattle.fail_interval.specs.Stands.{StandsFor as JudgeStandsFor, count_fed}
use Rattle.fail_interval.specs.declared.current.RunSoFar.{RunSoFar}
use Rattle.fail_interval.specs.declared.judge.FlowJudge.{FlowJudge}
use Rattle.fail_interval.specs.declared.metered.Metered.{Metered}
use Rattle.fail_interval.proofs.JudgeTold.{carried-tells}
use Rattle.fail_interval.proofs.Judges.{judge-so_far}
use Rattle.flow_watch.specs.Lines.{gap_line, refused_line, waiting_line}
use Rattle.flow_watch.specs.Watched.{AreLinesSoFar, Tells, left_line}
use Rattle.flow_watch.specs.declared.form.LineForm.{LineForm}
use Rattle.flow_watch.specs.declared.lines.WatchLines.{WatchLines}
use Rattle.flow_watch.specs.declared.meter.WatchMeter.{WatchMeter}
use Rattle.flow_watch.specs.declared.stretch.Stretch.{Stretch}
use Rattle.flow_watch.specs.making.Meters.{StandsFor as MeterStandsFor}
use Rattle.flow_watch.proofs.Unique.{so-far-once}
use Rattle.timing_watch.specs.Watched.{AddsAfter, AddsNext, AddsPacket, AddsSound, AddsWithin, IsLeftOf, Watching, completes, gap_at, last_told}
use Rattle.timing_watch.specs.Watched.{waiting_at, waiting_text}
use Rattle.timing_watch.specs.making.Flows.{IsAtOpen, StandsFor, past_of, text_in}
use Rattle.timing_watch.specs.making.Steps.{AddsRefusal, AddsWaiting, BeginsRun, HasTaken, KeepsMetered, MovesStretches, TookPacket, gap_before, is_quiet}
use Rattle.timing_watch.specs.making.Steps.{stretches_in, waiting_in}
use Rattle.timing_watch.specs.declared.flow.WatchFlow.{WatchFlow}
use Rattle.timing_watch.proofs.Ahead.{has-next}
use Rattle.timing_watch.proofs.Fronts.{begins-before}
use Rattle.timing_watch.proofs.Stretches.{AddsLine, begun-none, cut-adds, within-adds}
use Rattle.timing_watch.proofs.Waits.{below-two, first-due, has-one, since-next, waiting-is, waits}

-- ---- options

some-of : {A : Type 0} (o : Option A) → is_some o ≡ true → (x : A) × (o ≡ Some x)
some-of None e = cc
some-of (Some x) e = (x, refl)

none-of : {A : Type 0} (o : Option A) → is_some o ≡ false → o ≡ None
none-of None e = refl
none-of (Some x) e = cc

true-false : (b : Bool) → b ≡ true → b ≡ false → ⊥
true-false b e f = cc

-- ---- faults

-- a flow with this reason has a fault
refused-by : (packets : List FlowPacket) (o : Option FirstFault) (reason : Unjudged)
    → option_map (λ (first : FirstFault). unjudged_by (packet packets first.index).rec first.fault) o ≡ Some reason
    → (first : FirstFault) × (o ≡ Some first) × (reason ≡ unjudged_by (packet packets first.index).rec first.fault)
refused-by packets None reason e = cc
refused-by packets (Some first) reason e = (first, refl, cc)

sound-by : (packets : List FlowPacket) (o : Option FirstFault)
    → option_map (λ (first : FirstFault). unjudged_by (packet packets first.index).rec first.fault) o ≡ None → o ≡ None
sound-by packets None e = refl
sound-by packets (Some first) e = cc

-- the first fault is that of packet n
next-case : (n : ℕ) (before : Option FirstFault) (here : Option PacketFault) (first : FirstFault) → before ≡ None → earlier_or before n here ≡ Some first
    → (f : PacketFault) × (here ≡ Some f) × (first ≡ record { index = n; fault = f })
next-case n None None first none e = cc
next-case n None (Some f) first none e = (f, refl, cc)
next-case n (Some x) here first none e = cc

next-fault : (packets : List FlowPacket) (pt n : ℕ) (first : FirstFault) → first_fault_below packets pt n ≡ None
    → first_fault_below packets pt (n + 1) ≡ Some first → (f : PacketFault) × (fault packets pt n ≡ Some f) × (first ≡ record { index = n; fault = f })
next-fault packets pt n first none e =
    let there : first_fault_below packets pt (suc n) ≡ Some first = ap (first_fault_below packets pt) (sym (add-one n)) ∙ e in
    next-case n (first_fault_below packets pt n) (fault packets pt n) first none there

-- ---- instants

last-stamp : (packets : List FlowPacket) (p : FlowPacket) → AreStamped (packets ++ p ∷ []) → IsStamp p.at
last-stamp [] p h = All-head (λ (q : FlowPacket). IsStamp q.at) p [] h
last-stamp (x ∷ packets) p h = last-stamp packets p (All-tail (λ (q : FlowPacket). IsStamp q.at) x (packets ++ p ∷ []) h)

-- the last packet with its number came when it came
last-at : (seq16 : Bool) (packets : List FlowPacket) (p : FlowPacket) → (packet (numbered seq16 (packets ++ p ∷ [])) (length packets)).at ≡ p.at
last-at seq16 packets p =
    let counted = numbered seq16 packets in
    let next = has-next seq16 packets p in
    ap (λ l. (packet l (length packets)).at) next.1
    ∙ ap (λ n. (packet (counted ++ next.0 ∷ []) n).at) (sym (length-numbered seq16 packets))
    ∙ ap (λ (q : FlowPacket). q.at) (get_or-append_seam counted next.0 [] no_packet)
    ∙ next.2

-- ---- runs

cut-some : (packets : List FlowPacket) (i : ℕ) → is_cut packets i ≡ true → 0 < i
cut-some packets zero e = cc
cut-some packets (suc i) e = omega arith

-- the run of packet k - 1, up to it
abbrev run_now : List FlowPacket → ℕ → RunSoFar
run_now packets k =
    let from = last_place (0 ∷ cuts packets k) in record {
      run = length (cuts packets k) + 1;
      rec = (packet packets from).rec;
      number = (rtp packets from).number;
      expected = expected_at packets from;
      whole = nat_le 2 (length (markers packets from k));
    }

some-case : (none : Bool) (run : RunSoFar) → none ≡ false → (if none then None else Some run) ≡ Some run
some-case true run e = cc
some-case false run e = refl

no-fault-case : (o : Option FirstFault) (run : Option RunSoFar) → o ≡ None → (if is_some o then None else run) ≡ run
no-fault-case None run e = refl
no-fault-case (Some first) run e = cc

some-length : (n : ℕ) → (n + 1 == 0) ≡ false
some-length n = grind (arith, nat_tests)

open-now : (packets : List FlowPacket) (pt n : ℕ) → length packets ≡ n + 1 → first_fault packets pt ≡ None
    → open_run_of packets pt ≡ Some (run_now packets (n + 1))
open-now packets pt n long none =
    no-fault-case (first_fault packets pt) _ none
    ∙ ap (λ k. if k == 0 then None else Some (run_now packets k)) long
    ∙ some-case (n + 1 == 0) (run_now packets (n + 1)) (some-length n)

same-run : (o : Option RunSoFar) (a b : RunSoFar) → o ≡ Some a → o ≡ Some b → a ≡ b
same-run o a b e f = cc

not-none : (o : Option RunSoFar) (a : RunSoFar) → o ≡ None → o ≡ Some a → ⊥
not-none o a e f = cc

markers-fewer : (packets : List FlowPacket) (from n : ℕ) (is : Bool) → has_marker packets n ≡ is → from ≤ n → length (markers packets from (n + 1)) < 2
    → length (markers packets from n) < 2
markers-fewer packets from n true e order few =
    let more = length-append (markers packets from n) (n ∷ []) in
    omega (arith, few, ap length (places-here (has_marker packets) from n order e), more)
markers-fewer packets from n false e order few = omega (arith, few, ap length (places-other (has_marker packets) from n e))

two-case : (k : ℕ) → nat_le 2 k ≡ false → k < 2
two-case k e = grind (arith, nat_tests)

-- ---- what is left

left-is : (w : Watching) (m : Media) (shift : Shift) (over : List JudgedPart) (part : Option OpenPart) (text : List ℕ) (left : Option Stretch)
    → AreLinesSoFar w.form w.every m shift over part text left → IsLeftOf w m shift part (left_line w.form left)
left-is w m shift over None text left h = ap (left_line w.form) h.1
left-is w m shift over (Some part) text left h = (left, h.5, refl)

same-refusal : (f g : LineForm) (a b : Option Stretch) (m k : Media) (r s : Unjudged) → f ≡ g → a ≡ b → m ≡ k → r ≡ s
    → left_line f a ++ refused_line f m r ≡ left_line g b ++ refused_line g k s
same-refusal f g a b m k r s e1 e2 e3 e4 =
    ap₂ (λ (x : LineForm) (y : Option Stretch). left_line x y ++ refused_line x m r) e1 e2
    ∙ ap₂ (λ (x : Media) (y : Unjudged). left_line g b ++ refused_line g x y) e3 e4

-- ---- a packet

module _ (w : Watching) (m : Media) (options : FlowOptions) (x : WatchFlow) (packets : List FlowPacket) (p : FlowPacket) (h : HasTaken w m options x packets p)
  where
    abbrev counted : List FlowPacket
    counted = numbered options.seq16 (packets ++ p ∷ [])

    abbrev place : ℕ
    place = length packets

    one-longer : length (packets ++ p ∷ []) ≡ place + 1
    one-longer = length-append packets (p ∷ [])

    long : length counted ≡ place + 1
    long = length-numbered options.seq16 (packets ++ p ∷ []) ∙ one-longer

    told : TellsSoFar Tells (past_of w h.gone) m options.shift counted (place + 1) x.metered.out
    told =
        subst (λ n. TellsSoFar Tells (past_of w h.gone) m options.shift counted n x.metered.out) one-longer
        (judge-so_far MeterStandsFor Tells (past_of w h.gone) m (key_of 0 w.form.media) options x.metered.judge (packets ++ p ∷ []) x.metered.out h.fed.judge_is
        (h.fed.told refl))

    -- the meters' output contains the lines of the first n packets
    abbrev ToldAt : ℕ → Type 0
    ToldAt n = Tells (past_of w h.gone) x.metered.out m options.shift (parts_before m counted options.shift n) (open_before counted options.shift n)

    abbrev LinesAt : ℕ → List ℕ → Option Stretch → Type 0
    LinesAt n text left =
        AreLinesSoFar w.form w.every m options.shift (parts_before m counted options.shift n) (open_before counted options.shift n) text left

    told-by : (o : Option FirstFault) → first_fault_below counted m.pt (place + 1) ≡ o → ToldAt (sound_before o (place + 1))
    told-by o e = subst (λ q. ToldAt (sound_before q (place + 1))) e told

    lines-by : (o : Option FirstFault) → first_fault_below counted m.pt place ≡ o → LinesAt (sound_before o place) h.gone h.ahead.left
    lines-by o e = subst (λ q. LinesAt (sound_before q place) h.gone h.ahead.left) e h.ahead.before_are

    -- the line that the packet completes is the one that wasn't moved yet
    new-line : (n : ℕ) (t : ToldAt n) (line : List ℕ) → t.put ≡ h.gone ++ line → stretches_in x ≡ line
    new-line n t line e = append_cancel_left h.gone (stretches_in x) line (t.text_is ∙ e)

    nothing-new : (n : ℕ) → ToldAt n → LinesAt n h.gone h.ahead.left → stretches_in x ≡ []
    nothing-new n t l =
        let once = so-far-once w.form w.every m options.shift (parts_before m counted options.shift n) (open_before counted options.shift n) t.put h.gone
        x.metered.out.open h.ahead.left t.are l in
        new-line n t [] (once.0 ∙ sym (append-nil h.gone))

    form-same : x.metered.out.form ≡ w.form
    form-same = told.form_is

    each : 1 ≤ w.every
    each = subst (λ k. 1 ≤ k) told.every_is x.metered.out.some

    is-media : IsMedia m
    is-media = subst IsMedia h.media_is x.media_is

    -- ---- the flow after the lines were moved

    moved-tells : (mid : WatchFlow) → MovesStretches x mid → (over : List JudgedPart) (part : Option OpenPart)
        → Tells (past_of w h.gone) x.metered.out m options.shift over part
        → Tells (past_of w (h.gone ++ stretches_in x)) mid.metered.out m options.shift over part
    moved-tells mid moves over part t = record {
      form_is = moves.form_is ∙ t.form_is;
      every_is = moves.every_is ∙ t.every_is;
      put = t.put;
      are = subst (λ o. AreLinesSoFar w.form w.every m options.shift over part t.put o) (sym moves.open_is) t.are;
      text_is = ap (λ s. (h.gone ++ stretches_in x) ++ s) moves.none ∙ append-nil (h.gone ++ stretches_in x) ∙ t.text_is;
    }

    moved-fed : (mid new : WatchFlow) → MovesStretches x mid → KeepsMetered mid new
        → IsFed true MeterStandsFor Tells (past_of w (h.gone ++ stretches_in x)) m (key_of 0 w.form.media) options new.metered (packets ++ p ∷ [])
    moved-fed mid new moves keeps =
        let key = key_of 0 w.form.media in
        let all = packets ++ p ∷ [] in
        let past = past_of w (h.gone ++ stretches_in x) in
        subst (λ (y : Metered WatchMeter WatchLines). IsFed true MeterStandsFor Tells past m key options y all) (sym keeps.metered_is)
        (record {
          judge_is = subst (λ (j : FlowJudge WatchMeter). JudgeStandsFor m key options j all) (sym moves.judge_is) h.fed.judge_is;
          told = λ wants.
              subst (λ (j : FlowJudge WatchMeter). JudgeTells MeterStandsFor Tells past m options all j mid.metered.out) (sym moves.judge_is)
              (carried-tells MeterStandsFor Tells (past_of w h.gone) past m options x.metered.judge all x.metered.out mid.metered.out (moved-tells mid moves)
              (h.fed.told wants));
        })

    stands-after : (mid new : WatchFlow) → MovesStretches x mid → KeepsMetered mid new → new.refused ≡ is_some (first_fault_below counted m.pt (place + 1))
        → (new.refused ≡ false → IsAtOpen counted (place + 1) new) → StandsFor w m options new (packets ++ p ∷ [])
    stands-after mid new moves keeps refused at_run = record {
      media_is = keeps.media_is ∙ moves.media_is ∙ h.media_is;
      gone = h.gone ++ stretches_in x;
      fed = moved-fed mid new moves keeps;
      moved = ap (λ (y : Metered WatchMeter WatchLines). string_bytes y.out.text) keeps.metered_is ∙ moves.none;
      refused_is = refused ∙ ap (λ n. is_some (first_fault_below counted m.pt n)) (sym long);
      open_is = λ going. subst (λ n. IsAtOpen counted n new) (sym one-longer) (at_run going);
    }

    -- ---- a packet before had a fault

    pub took-nothing : x.refused ≡ true → TookPacket w m options x x packets p
    took-nothing e =
        let first = some-of (first_fault_below counted m.pt place) (sym h.ahead.refused_is ∙ e) in
        let there = fault-kept counted m.pt place (place + 1) first.0 (omega arith) first.1 in
        record {
          more = [];
          text_is = sym (append-nil (text_in x));
          adds = subst (λ o. AddsAfter w m options.shift counted place o []) (sym first.1) refl;
          stands = record {
            media_is = h.media_is;
            gone = h.gone;
            fed = h.fed;
            moved = nothing-new first.0.index (told-by (Some first.0) there) (lines-by (Some first.0) first.1);
            refused_is = e ∙ sym (ap is_some there) ∙ ap (λ n. is_some (first_fault_below counted m.pt n)) (sym long);
            open_is = λ going. absurd (true-false x.refused e going);
          };
        }

    -- ---- this one has a fault

    pub took-refusal : (mid new : WatchFlow) (reason : Unjudged) → x.refused ≡ false → MovesStretches x mid → refusal_of counted m.pt ≡ Some reason
        → AddsRefusal reason mid new → TookPacket w m options x new packets p
    took-refusal mid new reason e moves refused adds =
        let shift = options.shift in
        let sound = none-of (first_fault_below counted m.pt place) (sym h.ahead.refused_is ∙ e) in
        let why = refused-by counted (first_fault counted m.pt) reason refused in
        let there : first_fault_below counted m.pt (place + 1) ≡ Some why.0 = ap (first_fault_below counted m.pt) (sym long) ∙ why.1 in
        let next = next-fault counted m.pt place why.0 sound there in
        let t : ToldAt place = told-by (Some (record { index = place; fault = next.0 })) (there ∙ ap Some next.2) in
        let none = nothing-new place t (lines-by None sound) in
        let told_reason = unjudged_by (packet counted place).rec next.0 in
        let left = left_line w.form x.metered.out.open in
        let line = refused_line w.form m told_reason in
        let reason_is : reason ≡ told_reason = why.2 ∙ ap (λ (f : FirstFault). unjudged_by (packet counted f.index).rec f.fault) next.2 in
        let same = same-refusal mid.metered.out.form w.form mid.metered.out.open x.metered.out.open mid.media m reason told_reason
        (moves.form_is ∙ form-same) moves.open_is (moves.media_is ∙ h.media_is) reason_is in
        let is_left = left-is w m shift (parts_before m counted shift place) (open_before counted shift place) t.put x.metered.out.open t.are in
        record {
          more = left ++ line;
          text_is = adds.text_is
              ∙ ap₂ (λ a b. a ++ b) (moves.text_is ∙ ap (λ s. text_in x ++ s) none ∙ append-nil (text_in x)) same;
          adds = subst (λ o. AddsAfter w m shift counted place o (left ++ line)) (sym sound)
              (subst (λ o. AddsNext w m shift counted place o (left ++ line)) (sym next.1) (left, is_left, refl));
          stands = stands-after mid new moves adds.metered (adds.refused_is ∙ sym (ap is_some there))
              (λ going. absurd (true-false new.refused adds.refused_is going));
        }

    -- ---- no packet has a fault

    pub sound-after : refusal_of counted m.pt ≡ None → first_fault counted m.pt ≡ None
    sound-after e = sound-by counted (first_fault counted m.pt) e

    pub some-run : first_fault counted m.pt ≡ None → open_run_of counted m.pt ≡ None → ⊥
    some-run none e = not-none (open_run_of counted m.pt) (run_now counted (place + 1)) e (open-now counted m.pt place long none)

    -- before and after the packet
    below : x.refused ≡ false → first_fault_below counted m.pt place ≡ None
    below e = none-of (first_fault_below counted m.pt place) (sym h.ahead.refused_is ∙ e)

    after : first_fault counted m.pt ≡ None → first_fault_below counted m.pt (place + 1) ≡ None
    after none = ap (first_fault_below counted m.pt) (sym long) ∙ none

    count-is : (mid : WatchFlow) → MovesStretches x mid → count_fed mid.metered.judge ≡ place + 1
    count-is mid moves = ap (λ (j : FlowJudge WatchMeter). count_fed j) moves.judge_is ∙ h.fed.judge_is.fed ∙ one-longer

    adds-sound : (cut : Bool) (more : List ℕ) → x.refused ≡ false → first_fault counted m.pt ≡ None → is_cut counted place ≡ cut
        → AddsSound w m options.shift counted place cut more → AddsPacket w m options packets p more
    adds-sound cut more e none is adds =
        let here = no_fault-at counted m.pt (place + 1) place (after none) (omega arith) in
        subst (λ o. AddsAfter w m options.shift counted place o more) (sym (below e))
        (subst (λ o. AddsNext w m options.shift counted place o more) (sym here)
        (subst (λ b. AddsSound w m options.shift counted place b more) (sym is) adds))

    module _ (mid new : WatchFlow) (run : RunSoFar) (at : ℕ) (at_is : p.at ≡ at) (e : x.refused ≡ false) (moves : MovesStretches x mid)
        (none : first_fault counted m.pt ≡ None) (is : open_run_of counted m.pt ≡ Some run)
      where
        run-is : run ≡ run_now counted (place + 1)
        run-is = same-run (open_run_of counted m.pt) run (run_now counted (place + 1)) is (open-now counted m.pt place long none)

        at-place : (packet counted place).at ≡ at
        at-place = last-at options.seq16 packets p ∙ at_is

        t : ToldAt (place + 1)
        t = told-by None (after none)

        l : LinesAt place h.gone h.ahead.left
        l = lines-by None (below e)

        still : new.refused ≡ mid.refused → new.refused ≡ is_some (first_fault_below counted m.pt (place + 1))
        still same = same ∙ moves.refused_is ∙ e ∙ sym (ap is_some (after none))

        within : is_cut counted place ≡ false
            → (line : List ℕ) × AddsLine w m options.shift (completes w counted place) (open_before counted options.shift (place + 1)) line
            × (t.put ≡ h.gone ++ line)
        within no_cut =
            within-adds w m options.shift counted place h.gone t.put h.ahead.left x.metered.out.open is-media each (omega (arith, long)) no_cut (below e)
            (after none) l t.are

        -- ---- it begins a run

        -- the first packet of a run that begins with it
        begins-at : BeginsRun run at mid new → last_place (0 ∷ cuts counted (place + 1)) ≡ place → IsAtOpen counted (place + 1) new
        begins-at begins start =
            let before : new.before ≡ place = omega (arith, begins.before_is, count-is mid moves) in
            let back : (place + 1) - (place + 1) ≡ 0 = omega arith in
            record {
              none = λ zero_is. absurd (omega (arith, zero_is));
              run = λ _. record {
                run_is = begins.run_is ∙ ap (λ (r : RunSoFar). r.run) run-is;
                before_is = before ∙ sym start;
                since_is = λ _.
                    begins.since_is ∙ sym at-place
                    ∙ ap (λ k. (packet counted (last_told counted place k)).at) (sym back)
                    ∙ ap (λ b. (packet counted (last_told counted b ((place + 1) - (b + 1)))).at) (sym before);
              };
            }

        -- the line of the gap before packet `from`
        abbrev gap_from : ℕ → List ℕ
        gap_from from =
            gap_before w.form (record {
              run = length (cuts counted (place + 1)) + 1;
              rec = (packet counted from).rec;
              number = (rtp counted from).number;
              expected = expected_at counted from;
              whole = nat_le 2 (length (markers counted from (place + 1)));
            }) (expected_at counted from)

        gap-is : last_place (0 ∷ cuts counted (place + 1)) ≡ place → gap_before mid.metered.out.form run run.expected ≡ gap_from place
        gap-is start =
            ap (λ (r : RunSoFar). gap_before mid.metered.out.form r r.expected) run-is
            ∙ ap (λ (f : LineForm). gap_before f (run_now counted (place + 1)) (expected_at counted (last_place (0 ∷ cuts counted (place + 1)))))
            (moves.form_is ∙ form-same)
            ∙ ap gap_from start

        text-begins : BeginsRun run at mid new → (line gap : List ℕ) → stretches_in x ≡ line → gap_before mid.metered.out.form run run.expected ≡ gap
            → text_in new ≡ text_in x ++ (line ++ gap)
        text-begins begins line gap line_is gap_is =
            begins.text_is ∙ ap₂ (λ a b. a ++ b) (moves.text_is ∙ ap (λ s. text_in x ++ s) line_is) gap_is ∙ append_assoc (text_in x) line gap

        -- after a gap
        begins-cut : is_cut counted place ≡ true → BeginsRun run at mid new → TookPacket w m options x new packets p
        begins-cut cut begins =
            let shift = options.shift in
            let ends = cut-adds w m shift counted place h.gone t.put h.ahead.left x.metered.out.open cut l t.are in
            let start = sym (start-cut counted place cut) in
            let some = cut-some counted place cut in
            let gap : gap_from place ≡ gap_line w.form (gap_at counted place) = gap-case (place == 0) (not-first place some) in
            record {
              more = ends.0 ++ gap_line w.form (gap_at counted place);
              text_is = text-begins begins ends.0 _ (new-line (place + 1) t ends.0 ends.2) (gap-is start ∙ gap);
              adds = adds-sound true _ e none cut (ends.0, ends.1, refl);
              stands = stands-after mid new moves begins.metered (still begins.refused_is) (λ _. begins-at begins start);
            }
          where
            not-first : (k : ℕ) → 0 < k → (k == 0) ≡ false
            not-first k some = grind (arith, nat_tests)

            gap-case : (first : Bool) → first ≡ false
                → gap_before w.form (record {
                  run = length (cuts counted (place + 1)) + 1;
                  rec = (packet counted place).rec;
                  number = (rtp counted place).number;
                  expected = expected_at counted place;
                  whole = nat_le 2 (length (markers counted place (place + 1)));
                }) (if first then None else Some (expected_number counted place))
                ≡ gap_line w.form (gap_at counted place)
            gap-case true other = cc
            gap-case false other = refl

        -- the first one of the flow
        begins-first : is_cut counted place ≡ false → place ≡ 0 → BeginsRun run at mid new → TookPacket w m options x new packets p
        begins-first no_cut first begins =
            let shift = options.shift in
            let one = within no_cut in
            let zero_start : last_place (0 ∷ cuts counted 0) ≡ place = sym first in
            let start : last_place (0 ∷ cuts counted (place + 1)) ≡ place =
            ap (λ c. last_place (0 ∷ c)) (cuts-other counted place no_cut ∙ ap (cuts counted) first) ∙ zero_start in
            let empty = begun-none counted shift place start in
            let no_line : one.0 ≡ [] = subst (λ o. AddsLine w m shift (completes w counted place) o one.0) empty one.1 in
            let no_gap : gap_from place ≡ [] = ap gap_from first in
            let waiting : [] ≡ waiting_text w counted (run_start counted place) place =
            ap (λ b. if b then waiting_line w.form (waiting_at counted place place) else []) (sym (first-due counted place))
            ∙ ap (λ from. waiting_text w counted from place) (sym start) in
            record {
              more = [];
              text_is = text-begins begins [] [] (new-line (place + 1) t one.0 one.2 ∙ no_line) (gap-is start ∙ no_gap);
              adds = adds-sound false [] e none no_cut (subst (λ o. AddsWithin w m shift counted place o []) (sym empty) waiting);
              stands = stands-after mid new moves begins.metered (still begins.refused_is) (λ _. begins-at begins start);
            }

        not-going : is_cut counted place ≡ false → (run.run ≡ mid.run → ⊥) → place ≡ 0
        not-going no_cut other =
            elim (cases_lt 0 place) as (λ _. place ≡ 0) [
              | inl some ↦
                  let was = (h.ahead.open_is e).run some in
                  absurd (other
                  (ap (λ (r : RunSoFar). r.run) run-is ∙ ap (λ c. length c + 1) (cuts-other counted place no_cut) ∙ sym was.run_is ∙ sym moves.run.run_is))
              | inr none_yet ↦ omega (arith, none_yet)
            ]

        begins-case : (cut : Bool) → is_cut counted place ≡ cut → (run.run ≡ mid.run → ⊥) → BeginsRun run at mid new → TookPacket w m options x new packets p
        begins-case true is_one other begins = begins-cut is_one begins
        begins-case false no_cut other begins = begins-first no_cut (not-going no_cut other) begins

        pub took-begin : (run.run ≡ mid.run → ⊥) → BeginsRun run at mid new → TookPacket w m options x new packets p
        took-begin other begins = begins-case (is_cut counted place) refl other begins

        -- ---- it goes on with one

        going : run.run ≡ mid.run → 0 < place
        going same =
            elim (cases_lt 0 place) as (λ _. 0 < place) [
              | inl some ↦ some
              | inr none_yet ↦
                  let first : place ≡ 0 = omega (arith, none_yet) in
                  let was = (h.ahead.open_is e).none first in
                  absurd (omega (arith, same, moves.run.run_is, was, ap (λ (r : RunSoFar). r.run) run-is))
            ]

        uncut-case : (cut : Bool) → is_cut counted place ≡ cut → run.run ≡ mid.run → is_cut counted place ≡ false
        uncut-case true is_one same =
            let was = (h.ahead.open_is e).run (going same) in
            let more = ap length (cuts-here counted place is_one) ∙ length-append (cuts counted place) (place ∷ []) in
            absurd (omega (arith, same, moves.run.run_is, was.run_is, ap (λ (r : RunSoFar). r.run) run-is, more))
        uncut-case false no_cut same = no_cut

        -- the first packet of the run
        start-is : is_cut counted place ≡ false → run.run ≡ mid.run → x.before ≡ last_place (0 ∷ cuts counted (place + 1))
        start-is no_cut same = ((h.ahead.open_is e).run (going same)).before_is ∙ ap (λ c. last_place (0 ∷ c)) (sym (cuts-other counted place no_cut))

        starts-below : run.run ≡ mid.run → x.before < place
        starts-below same = omega (arith, ((h.ahead.open_is e).run (going same)).before_is, begins-before counted place (going same))

        -- whether it has a complete frame or field
        whole-is : is_cut counted place ≡ false → run.run ≡ mid.run → run.whole ≡ nat_le 2 (length (markers counted x.before (place + 1)))
        whole-is no_cut same =
            ap (λ (r : RunSoFar). r.whole) run-is
            ∙ ap (λ b. nat_le 2 (length (markers counted b (place + 1)))) (sym (start-is no_cut same))

        since-was : is_cut counted place ≡ false → run.run ≡ mid.run → length (markers counted x.before (place + 1)) < 2
            → mid.since ≡ (packet counted (last_told counted x.before (place - (x.before + 1)))).at
        since-was no_cut same few =
            moves.since_is
            ∙ ((h.ahead.open_is e).run (going same)).since_is
            (markers-fewer counted x.before place (has_marker counted place) refl (omega (arith, starts-below same)) few)

        low : at < 2 ^ 64 - 1
        low = omega (arith, last-stamp packets p h.fed.judge_is.stamped, at_is)

        goes-at : is_cut counted place ≡ false → run.run ≡ mid.run → AddsWaiting run at mid new → IsAtOpen counted (place + 1) new
        goes-at no_cut same adds =
            let was = (h.ahead.open_is e).run (going same) in
            let before : new.before ≡ x.before = adds.run_is.before_is ∙ moves.run.before_is in
            record {
              none = λ zero_is. absurd (omega (arith, zero_is));
              run = λ _. record {
                run_is = adds.run_is.run_is ∙ moves.run.run_is ∙ was.run_is ∙ ap (λ c. length c + 1) (sym (cuts-other counted place no_cut));
                before_is = before ∙ start-is no_cut same;
                since_is = λ few.
                    let two : length (markers counted x.before (place + 1)) < 2 = subst (λ b. length (markers counted b (place + 1)) < 2) before few in
                    adds.since_is
                    ∙ since-next w counted x.before place mid.since at run w.form (place + 1) (starts-below same) (since-was no_cut same two) at-place low
                    (whole-is no_cut same ∙ below-two (length (markers counted x.before (place + 1))) two)
                    ∙ ap (λ b. (packet counted (last_told counted b ((place + 1) - (b + 1)))).at) (sym before);
              };
            }

        -- the line of a run without a complete frame or field
        abbrev waiting_now : List ℕ
        waiting_now = if is_quiet run mid.since at then [] else waiting_line mid.metered.out.form (waiting_in run mid)

        text-goes : AddsWaiting run at mid new → (line waiting : List ℕ) → stretches_in x ≡ line → waiting_now ≡ waiting
            → text_in new ≡ text_in x ++ (line ++ waiting)
        text-goes adds line waiting line_is waiting_is =
            adds.text_is ∙ ap₂ (λ a b. a ++ b) (moves.text_is ∙ ap (λ s. text_in x ++ s) line_is) waiting_is ∙ append_assoc (text_in x) line waiting

        waits-now : is_cut counted place ≡ false → run.run ≡ mid.run → run.whole ≡ false → waiting_now ≡ waiting_text w counted (run_start counted place) place
        waits-now no_cut same whole =
            let two = two-case (length (markers counted x.before (place + 1))) (sym (whole-is no_cut same) ∙ whole) in
            let rec_is : run.rec ≡ (packet counted x.before).rec =
            ap (λ (r : RunSoFar). r.rec) run-is ∙ ap (λ b. (packet counted b).rec) (sym (start-is no_cut same)) in
            ap (λ b. if is_quiet run mid.since at then []
            else waiting_line mid.metered.out.form (record { packets = count_fed mid.metered.judge - b; rec = run.rec })) moves.run.before_is
            ∙ waiting-is w counted x.before place mid.since at run mid.metered.out.form (count_fed mid.metered.judge) (starts-below same)
            (since-was no_cut same two) at-place low whole (moves.form_is ∙ form-same) rec_is (count-is mid moves)
            ∙ ap (λ b. waiting_text w counted b place) (start-is no_cut same)

        quiet-whole : (whole other : Bool) (line : List ℕ) → whole ≡ true → (if whole || other then [] else line) ≡ []
        quiet-whole true other line is_one = refl
        quiet-whole false other line is_one = cc

        goes-case : (part : Option OpenPart) (line : List ℕ) → open_before counted options.shift (place + 1) ≡ part → is_cut counted place ≡ false
            → run.run ≡ mid.run → stretches_in x ≡ line → AddsLine w m options.shift (completes w counted place) part line → AddsWaiting run at mid new
            → TookPacket w m options x new packets p
        goes-case None line is_open no_cut same line_is adds_line adds =
            let from = last_place (0 ∷ cuts counted (place + 1)) in
            let whole : run.whole ≡ false =
            ap (λ (r : RunSoFar). r.whole) run-is
            ∙ waits (length (cuts counted (place + 1)) + 1) (packet counted from) (judged_packets counted from (place + 1)) counted options.shift from
            (place + 1) is_open in
            record {
              more = waiting_text w counted (run_start counted place) place;
              text_is = text-goes adds [] _ (line_is ∙ adds_line) (waits-now no_cut same whole);
              adds = adds-sound false (waiting_text w counted (run_start counted place) place) e none no_cut
                  (subst (λ o. AddsWithin w m options.shift counted place o (waiting_text w counted (run_start counted place) place)) (sym is_open) refl);
              stands = stands-after mid new moves adds.metered (still adds.refused_is) (λ _. goes-at no_cut same adds);
            }
        goes-case (Some part) line is_open no_cut same line_is adds_line adds =
            let from = last_place (0 ∷ cuts counted (place + 1)) in
            let whole : run.whole ≡ true =
            ap (λ (r : RunSoFar). r.whole) run-is
            ∙ has-one (length (cuts counted (place + 1)) + 1) (packet counted from) (judged_packets counted from (place + 1)) counted options.shift from
            (place + 1) part is_open in
            let none_waits : waiting_now ≡ [] = quiet-whole run.whole _ _ whole in
            record {
              more = line;
              text_is = text-goes adds line [] line_is none_waits ∙ ap (λ s. text_in x ++ s) (append-nil line);
              adds = adds-sound false line e none no_cut (subst (λ o. AddsWithin w m options.shift counted place o line) (sym is_open) adds_line);
              stands = stands-after mid new moves adds.metered (still adds.refused_is) (λ _. goes-at no_cut same adds);
            }

        pub took-more : run.run ≡ mid.run → AddsWaiting run at mid new → TookPacket w m options x new packets p
        took-more same adds =
            let no_cut = uncut-case (is_cut counted place) refl same in
            let one = within no_cut in
            goes-case (open_before counted options.shift (place + 1)) one.0 refl no_cut same (new-line (place + 1) t one.0 one.2) one.1 adds
