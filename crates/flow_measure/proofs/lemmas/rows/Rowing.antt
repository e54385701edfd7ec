-- The row of a packet or of a group is put behind a text.
use Rattle.std.proofs.Common.{◌≡◌, ◌≤◌, ◌<◌, ◌^◌, ◌++◌, ◌∷◌, [], ℕ, Bool, true, false, List, length, refl, sym, ap, ◌∙◌, subst, arith}
use Rattle.std.proofs.Common.{◌+◌, drop, get_or, append_assoc, append-nil, Some, None}
use Rattle.std.specs.Prelude.{IfOk, Result, Ok, Err, if◌then◌else◌, is_ok}
use Rattle.std.proofs.lemmas.List.{at_drop_all, drop_more}
use Rattle.timing_base.specs.Shifts.{Shift}
use Rattle.timing_base.specs.Media.{Media}
use Rattle.timing_base.specs.Verdicts.{Judged}
use Rattle.timing_base.specs.declared.packet.FlowPacket.{FlowPacket}
use Rattle.run_meter.specs.Runs.{JudgedPart, RunOf, part_of}
use Rattle.flow_measure.specs.report.Rows.{group_row_text, packet_row_text}
use Rattle.flow_measure.specs.declared.report.rows.GroupRow.{GroupRow}
use Rattle.flow_measure.specs.declared.report.rows.PacketRow.{PacketRow}
use Rattle.flow_measure.specs.rows.Rows.{Adds, AddsGroup, AreRows, AreRowsOf, IsGroupRow, IsPacketRow, ends_group}
use Rattle.flow_measure.specs.rows.Told.{AreRowsSoFar, PastRows, Tells}
use Rattle.flow_measure.specs.rows.making.Meters.{AreKept, PutsRow, PutsRows}
use Rattle.flow_measure.specs.rows.making.Stands.{IsKept, StandsFor}
use Rattle.flow_measure.specs.declared.rows.maker.Kept.{Kept}
use Rattle.flow_measure.specs.declared.rows.maker.RowMaker.{RowMaker}
use Rattle.flow_measure.specs.declared.rows.rows.Rows.{Rows}

-- one packet more is kept
pub kept-more : (m : Media) (shift : Shift) (n : ℕ) (before packets : List FlowPacket) (p : FlowPacket) (kept : List Kept) (one : Kept)
    → AreKept m shift n before packets kept
    → IsKept m shift n (before ++ packets) p one
    → AreKept m shift n before (packets ++ p ∷ []) (kept ++ one ∷ [])
kept-more m shift n before [] p [] one h is = (subst (λ b. IsKept m shift n b p one) (append-nil before) is, tt)
kept-more m shift n before [] p (first ∷ kept) one h is = absurd h
kept-more m shift n before (q ∷ packets) p [] one h is = absurd h
kept-more m shift n before (q ∷ packets) p (first ∷ kept) one h is =
    (h.0, kept-more m shift n (before ++ q ∷ []) packets p kept one h.1 (subst (λ b. IsKept m shift n b p one) (sym (append_assoc before (q ∷ []) packets)) is))

-- of no packet nothing is kept
pub kept-none : (m : Media) (shift : Shift) (n : ℕ) (before : List FlowPacket) (kept : List Kept) → kept ≡ [] → AreKept m shift n before [] kept
kept-none m shift n before kept none = subst (AreKept m shift n before []) (sym none) tt

-- what was put behind a text, where there was room
pub on-ok : {X E : Type 0} (r : Result X E) (new more old : List ℕ) (P : Type 0) → new ≡ (if is_ok r then more else old) → (new ≡ more → P)
    → IfOk r (λ _. P)
on-ok (Ok x) new more old P e f = f e
on-ok (Err x) new more old P e f = tt

-- what feeding a packet says of the maker
abbrev pub Feeds : Media → (n : ℕ) → (old new : RowMaker) → Kept → Type 0
Feeds m n old new kept = (shift : Shift) (run : ℕ) (packets : List FlowPacket) (p : FlowPacket) → IsKept m shift n packets p kept
    → StandsFor m shift run n old packets → StandsFor m shift run n new (packets ++ p ∷ [])

-- no run has more packets
pub puts-nothing : (frames : Bool) (m : Media) (n : ℕ) (x : RowMaker) (kept : Kept) (text : List ℕ) → x.walk.seen ≡ 2 ^ 41
    → PutsRow frames m n x x kept text text
puts-nothing frames m n x kept text full = record {
  here = [];
  text_is = sym (append-nil text);
  adds = λ shift run packets p is h. absurd (omega (arith, is.few, h.seen, full));
  stands = λ shift run packets p is h. absurd (omega (arith, is.few, h.seen, full));
}

-- the row of a packet was put
pub packet-put : (frames : Bool) (m : Media) (n : ℕ) (old new : RowMaker) (kept : Kept) (row : PacketRow) (before after line : List ℕ)
    → frames ≡ false → line ≡ packet_row_text row
    → ((shift : Shift) (run : ℕ) (packets : List FlowPacket) (p : FlowPacket) → IsKept m shift n packets p kept → StandsFor m shift run n old packets
    → IsPacketRow m shift run n packets p row)
    → Feeds m n old new kept
    → after ≡ before ++ line
    → PutsRow frames m n old new kept before after
packet-put frames m n old new kept row before after line packets_are line_is rows feeds text = record {
  here = line;
  text_is = text;
  adds = λ shift run packets p is h. subst (λ b. Adds b m shift run n packets p line) (sym packets_are) (row, rows shift run packets p is h, line_is);
  stands = feeds;
}

-- that of a group was put at its last packet, or nothing at another one
pub group-put : (frames : Bool) (m : Media) (n : ℕ) (old new : RowMaker) (kept : Kept) (row : GroupRow) (before after line : List ℕ)
    → frames ≡ true → line ≡ group_row_text row
    → ((shift : Shift) (run : ℕ) (packets : List FlowPacket) (p : FlowPacket) → IsKept m shift n packets p kept → StandsFor m shift run n old packets
    → IsGroupRow m shift run n (packets ++ p ∷ []) row)
    → ((shift : Shift) (run : ℕ) (packets : List FlowPacket) → StandsFor m shift run n old packets → true ≡ ends_group n (length packets))
    → Feeds m n old new kept
    → after ≡ before ++ line
    → PutsRow frames m n old new kept before after
group-put frames m n old new kept row before after line groups_are line_is rows ends feeds text = record {
  here = line;
  text_is = text;
  adds = λ shift run packets p is h. subst (λ b. Adds b m shift run n packets p line) (sym groups_are)
      (subst (λ b. AddsGroup m shift run n (packets ++ p ∷ []) b line) (ends shift run packets h) (row, rows shift run packets p is h, line_is));
  stands = feeds;
}

pub group-still : (frames : Bool) (m : Media) (n : ℕ) (old new : RowMaker) (kept : Kept) (text : List ℕ) → frames ≡ true
    → ((shift : Shift) (run : ℕ) (packets : List FlowPacket) → StandsFor m shift run n old packets → false ≡ ends_group n (length packets))
    → Feeds m n old new kept
    → PutsRow frames m n old new kept text text
group-still frames m n old new kept text groups_are ends feeds = record {
  here = [];
  text_is = sym (append-nil text);
  adds = λ shift run packets p is h. subst (λ b. Adds b m shift run n packets p []) (sym groups_are)
      (subst (λ b. AddsGroup m shift run n (packets ++ p ∷ []) b []) (ends shift run packets h) refl);
  stands = feeds;
}

-- nothing was kept
pub puts-none : (frames : Bool) (m : Media) (n : ℕ) (x : RowMaker) (text : List ℕ) → PutsRows frames m n x x [] text text
puts-none frames m n x text = record {
  here = [];
  text_is = sym (append-nil text);
  are = λ shift run packets more. rows-none frames m shift run n packets more x;
  stands = λ shift run packets more. stands-none m shift run n packets more x;
}
  where
    rows-none : (frames : Bool) (m : Media) (shift : Shift) (run n : ℕ) (packets more : List FlowPacket) (x : RowMaker) → AreKept m shift n packets more []
        → StandsFor m shift run n x packets → AreRows frames m shift run n packets more []
    rows-none frames m shift run n packets [] x h stands = refl
    rows-none frames m shift run n packets (p ∷ more) x h stands = absurd h

    stands-none : (m : Media) (shift : Shift) (run n : ℕ) (packets more : List FlowPacket) (x : RowMaker) → AreKept m shift n packets more []
        → StandsFor m shift run n x packets → StandsFor m shift run n x (packets ++ more)
    stands-none m shift run n packets [] x h stands = subst (StandsFor m shift run n x) (sym (append-nil packets)) stands
    stands-none m shift run n packets (p ∷ more) x h stands = absurd h

-- a packet before those that follow
pub puts-more : (frames : Bool) (m : Media) (n : ℕ) (old mid new : RowMaker) (one : Kept) (kept : List Kept) (before between after : List ℕ)
    → PutsRow frames m n old mid one before between
    → PutsRows frames m n mid new kept between after
    → PutsRows frames m n old new (one ∷ kept) before after
puts-more frames m n old mid new one kept before between after first rest = record {
  here = first.here ++ rest.here;
  text_is = rest.text_is ∙ ap (λ t. t ++ rest.here) first.text_is ∙ append_assoc before first.here rest.here;
  are = λ shift run packets more. are-more shift run packets more;
  stands = λ shift run packets more. stands-more shift run packets more;
}
  where
    are-more : (shift : Shift) (run : ℕ) (packets more : List FlowPacket) → AreKept m shift n packets more (one ∷ kept)
        → StandsFor m shift run n old packets → AreRows frames m shift run n packets more (first.here ++ rest.here)
    are-more shift run packets [] h stands = absurd h
    are-more shift run packets (p ∷ more) h stands = (
      first.here,
      rest.here,
      refl,
      first.adds shift run packets p h.0 stands,
      rest.are shift run (packets ++ p ∷ []) more h.1 (first.stands shift run packets p h.0 stands),
    )

    stands-more : (shift : Shift) (run : ℕ) (packets more : List FlowPacket) → AreKept m shift n packets more (one ∷ kept)
        → StandsFor m shift run n old packets → StandsFor m shift run n new (packets ++ more)
    stands-more shift run packets [] h stands = absurd h
    stands-more shift run packets (p ∷ more) h stands =
        subst (StandsFor m shift run n new) (append_assoc packets (p ∷ []) more)
        (rest.stands shift run (packets ++ p ∷ []) more h.1 (first.stands shift run packets p h.0 stands))

-- the next packet of a list before those behind it
pub puts-next : (frames same : Bool) (m : Media) (n : ℕ) (old mid new : RowMaker) (kept : List Kept) (i : ℕ) (one : Kept) (before between after : List ℕ)
    → same ≡ frames
    → i < length kept
    → get_or kept i one ≡ one
    → PutsRow same m n old mid one before between
    → PutsRows frames m n mid new (drop (i + 1) kept) between after
    → PutsRows frames m n old new (drop i kept) before after
puts-next frames same m n old mid new kept i one before between after e within at first rest =
    subst (λ l. PutsRows frames m n old new l before after)
    (sym (drop_more kept i one within ∙ ap (λ (x : Kept). x ∷ drop (i + 1) kept) at))
    (puts-more frames m n old mid new one (drop (i + 1) kept) before between after (subst (λ f. PutsRow f m n old mid one before between) e first) rest)

-- none is left
pub puts-all : (frames : Bool) (m : Media) (n : ℕ) (x : RowMaker) (kept : List Kept) (i : ℕ) (text : List ℕ) → length kept ≤ i
    → PutsRows frames m n x x (drop i kept) text text
puts-all frames m n x kept i text all =
    subst (λ l. PutsRows frames m n x x l text text) (sym (at_drop_all (λ (l : List Kept). l) kept i all)) (puts-none frames m n x text)

-- the packets and the size of a group may be named otherwise
pub puts-same : (frames : Bool) (m : Media) (n same : ℕ) (old new : RowMaker) (kept others : List Kept) (before after : List ℕ) → n ≡ same → kept ≡ others
    → PutsRows frames m n old new kept before after
    → PutsRows frames m same old new others before after
puts-same frames m n same old new kept others before after e f h =
    subst (λ k. PutsRows frames m k old new others before after) e (subst (λ l. PutsRows frames m n old new l before after) f h)

-- rows behind others
rows-append : (frames : Bool) (m : Media) (shift : Shift) (run n : ℕ) (before packets more : List FlowPacket) (text rest : List ℕ)
    → AreRows frames m shift run n before packets text
    → AreRows frames m shift run n (before ++ packets) more rest
    → AreRows frames m shift run n before (packets ++ more) (text ++ rest)
rows-append frames m shift run n before [] more text rest h next =
    subst (λ t. AreRows frames m shift run n before more (t ++ rest)) (sym h) (subst (λ b. AreRows frames m shift run n b more rest) (append-nil before) next)
rows-append frames m shift run n before (p ∷ packets) more text rest h next =
    let here = h.0 in
    let others = h.1 in (
      here,
      others ++ rest,
      ap (λ t. t ++ rest) h.2 ∙ append_assoc here others rest,
      h.3,
      rows-append frames m shift run n (before ++ p ∷ []) packets more others rest h.4
          (subst (λ b. AreRows frames m shift run n b more rest) (sym (append_assoc before (p ∷ []) packets)) next),
    )

-- of one run more
parts-append : (frames : Bool) (m : Media) (shift : Shift) (over : List JudgedPart) (part : JudgedPart) (text rest : List ℕ)
    → AreRowsOf frames m shift over text
    → AreRows frames m shift part.number part.values.n [] part.packets rest
    → AreRowsOf frames m shift (over ++ part ∷ []) (text ++ rest)
parts-append frames m shift [] part text rest h next =
    (rest, [], ap (λ t. t ++ rest) h ∙ sym (append-nil rest), next, refl)
parts-append frames m shift (one ∷ over) part text rest h next =
    let here = h.0 in
    let others = h.1 in
    (here, others ++ rest, ap (λ t. t ++ rest) h.2 ∙ append_assoc here others rest, h.3, parts-append frames m shift over part others rest h.4 next)

-- the rows of some packets more were put
pub told-more : (past : PastRows) (old new : Rows) (m : Media) (shift : Shift) (r : RunOf) (over : List JudgedPart) (packets more : List FlowPacket)
    (here : List ℕ) → new.frames ≡ old.frames → new.text.items ≡ old.text.items ++ here
    → AreRows old.frames m shift r.number r.n packets more here
    → Tells past old m shift over (Some (record { run = r; packets = packets }))
    → Tells past new m shift over (Some (record { run = r; packets = packets ++ more }))
told-more past old new m shift r over packets more here frames text are t =
    let a = t.are in
    let put = t.put ++ here in
    let so : AreRowsSoFar old.frames m shift over (Some (record { run = r; packets = packets ++ more })) put = (
      a.0,
      a.1 ++ here,
      ap (λ x. x ++ here) a.2 ∙ append_assoc a.0 a.1 here,
      a.3,
      rows-append old.frames m shift r.number r.n [] packets more a.1 here a.4 are,
    ) in
    record {
      frames_is = frames ∙ t.frames_is;
      put = put;
      are = subst (λ f. AreRowsSoFar f m shift over (Some (record { run = r; packets = packets ++ more })) put) (sym frames) so;
      text_is = ap (λ x. past.gone ++ x) text ∙ sym (append_assoc past.gone old.text.items here) ∙ ap (λ x. x ++ here) t.text_is
          ∙ append_assoc past.first t.put here;
    }

-- the run is over
pub told-over : (past : PastRows) (rows : Rows) (m : Media) (shift : Shift) (r : RunOf) (values : Judged) (over : List JudgedPart)
    (packets : List FlowPacket) → values.n ≡ r.n
    → Tells past rows m shift over (Some (record { run = r; packets = packets }))
    → Tells past rows m shift (over ++ part_of r values packets ∷ []) None
told-over past rows m shift r values over packets size t =
    let a = t.are in
    record {
      frames_is = t.frames_is;
      put = t.put;
      are = subst (AreRowsOf rows.frames m shift (over ++ part_of r values packets ∷ [])) (sym a.2)
          (parts-append rows.frames m shift over (part_of r values packets) a.0 a.1 a.3
          (subst (λ k. AreRows rows.frames m shift r.number k [] packets a.1) (sym size) a.4));
      text_is = t.text_is;
    }
