-- What the end of the captures adds to the lines of a flow, and what is left of all flows.
use Rattle.std.specs.Prelude.{string_bytes}
use Rattle.std.proofs.Common.{◌≡◌, ◌+◌, ◌++◌, ◌∷◌, ℕ, zero, suc, List, [], length, Option, Some, None}
use Rattle.std.proofs.Common.{◌∙◌, ap, sym, subst, refl, arith, append-nil, append_assoc}
use Rattle.std.proofs.lemmas.List.{append_cancel_left}
use Rattle.timing_base.specs.Captures.{Record}
use Rattle.timing_base.specs.Flows.{FirstFault, cuts, first_fault, last_place}
use Rattle.timing_base.specs.Jobs.{WatchJob}
use Rattle.timing_base.specs.Keys.{key_of}
use Rattle.timing_base.specs.Media.{Media}
use Rattle.timing_base.specs.Numbered.{numbered}
use Rattle.timing_base.specs.Shifts.{FlowOptions, Shift}
use Rattle.timing_base.specs.declared.packet.FlowPacket.{FlowPacket}
use Rattle.timing_base.specs.declared.row.Row.{Row}
use Rattle.timing_base.proofs.Numberings.{length-numbered}
use Rattle.udp_rtp.specs.Flow.{flow}
use Rattle.flow_demux.specs.declared.media_flow.MediaFlow.{MediaFlow}
use Rattle.fail_interval.specs.Measured.{TellsEnd, TellsOfAll, TellsSoFar}
use Rattle.fail_interval.specs.Parts.{judged_parts, open_before, part_between, parts_before, sound_before}
use Rattle.fail_interval.specs.Row.{row}
use Rattle.fail_interval.specs.Rows.{rows_from}
use Rattle.fail_interval.proofs.Judges.{judge-so_far}
use Rattle.fail_interval.proofs.PartsTold.{judged_parts-none, judged_parts-sound, parts_between-over}
use Rattle.flow_watch.specs.Watched.{AreLinesOf, AreLinesSoFar, Tells}
use Rattle.flow_watch.specs.declared.lines.WatchLines.{WatchLines}
use Rattle.flow_watch.specs.declared.stretch.Stretch.{Stretch}
use Rattle.flow_watch.specs.making.Meters.{StandsFor as MeterStandsFor}
use Rattle.flow_watch.proofs.Unique.{so-far-once}
use Rattle.timing_watch.specs.Watched.{IsLeftBefore, IsLeftEnd, IsLeftUnless, Watching}
use Rattle.timing_watch.specs.Watches.{AreLeft, watching_of}
use Rattle.timing_watch.specs.making.Flows.{StandsFor as FlowStandsFor, past_of}
use Rattle.timing_watch.specs.making.Steps.{AreLinesBefore}
use Rattle.timing_watch.specs.making.Watches.{AreFlows, IsFlowOf, IsLeft, StandsFor, text_of}
use Rattle.timing_watch.specs.declared.flow.WatchFlow.{WatchFlow}
use Rattle.timing_watch.specs.declared.watch.Watch.{Watch}
use Rattle.timing_watch.specs.declared.watch.Watched.{Watched}
use Rattle.timing_watch.proofs.Ahead.{lines-before}
use Rattle.timing_watch.proofs.Stretches.{flow-ends}

-- ---- one flow

-- the judged runs of a flow of n packets without a fault are those that end before packet n, and the last one
judged-all : (m : Media) (packets : List FlowPacket) (shift : Shift) (n : ℕ) → length packets ≡ n → first_fault packets m.pt ≡ None
    → judged_parts m packets shift
    ≡ parts_before m packets shift n ++ part_between m packets shift (length (cuts packets n) + 1) (last_place (0 ∷ cuts packets n)) n
judged-all m packets shift zero long none = judged_parts-none m packets shift long
judged-all m packets shift (suc k) long none =
    let places = cuts packets (length packets) in
    judged_parts-sound m packets shift (omega (arith, long)) none
    ∙ parts_between-over m packets shift (length packets) 1 0 places
    ∙ ap (λ n. parts_before m packets shift n ++ part_between m packets shift (length (cuts packets n) + 1) (last_place (0 ∷ cuts packets n)) n) long

left-case : (w : Watching) (m : Media) (shift : Shift) (packets : List FlowPacket) (gone : List ℕ) (left : Option Stretch) (lines : WatchLines)
    (o : Option FirstFault) → first_fault packets m.pt ≡ o → AreLinesBefore w m shift packets (length packets) gone left
    → TellsEnd Tells (past_of w gone) m shift packets o lines → IsLeftUnless w m shift packets o (string_bytes lines.text)
left-case w m shift packets gone left lines None none before t =
    let n = length packets in
    let so_far : AreLinesSoFar w.form w.every m shift (parts_before m packets shift n) (open_before packets shift n) gone left =
    subst (λ (x : Option FirstFault). AreLinesSoFar w.form w.every m shift (parts_before m packets shift (sound_before x n))
    (open_before packets shift (sound_before x n)) gone left) none before in
    let all : AreLinesOf w.form w.every m shift
    (parts_before m packets shift n ++ part_between m packets shift (length (cuts packets n) + 1) (last_place (0 ∷ cuts packets n)) n) t.put =
    subst (λ l. AreLinesOf w.form w.every m shift l t.put) (judged-all m packets shift n refl none) t.are.0 in
    let ends = flow-ends w m shift packets n gone t.put left so_far all in
    let text : string_bytes lines.text ≡ ends.0 = append_cancel_left gone (string_bytes lines.text) ends.0 (t.text_is ∙ ends.2) in
    subst (IsLeftBefore w m shift packets n) (sym text) ends.1
left-case w m shift packets gone left lines (Some first) is before t =
    let n = length packets in
    let so_far : AreLinesSoFar w.form w.every m shift (parts_before m packets shift first.index) (open_before packets shift first.index) gone left =
    subst (λ (x : Option FirstFault). AreLinesSoFar w.form w.every m shift (parts_before m packets shift (sound_before x n))
    (open_before packets shift (sound_before x n)) gone left) is before in
    let once = so-far-once w.form w.every m shift (parts_before m packets shift first.index) (open_before packets shift first.index) t.put gone lines.open left
    t.are so_far in
    append_cancel_left gone (string_bytes lines.text) [] (t.text_is ∙ once.0 ∙ sym (append-nil gone))

-- the lines of the meters at the end are what is left
pub flow-left : (w : Watching) (m : Media) (options : FlowOptions) (x : WatchFlow) (packets : List FlowPacket) (lines : WatchLines)
    → (h : FlowStandsFor w m options x packets) → TellsOfAll Tells (past_of w h.gone) m options packets lines
    → IsLeftEnd w m options packets (string_bytes lines.text)
flow-left w m options x packets lines h t =
    let counted = numbered options.seq16 packets in
    let told : TellsSoFar Tells (past_of w h.gone) m options.shift counted (length counted) x.metered.out =
    subst (λ n. TellsSoFar Tells (past_of w h.gone) m options.shift counted n x.metered.out) (sym (length-numbered options.seq16 packets))
    (judge-so_far MeterStandsFor Tells (past_of w h.gone) m (key_of 0 w.form.media) options x.metered.judge packets x.metered.out h.fed.judge_is
    (h.fed.told refl)) in
    left-case w m options.shift counted h.gone x.metered.out.open lines (first_fault counted m.pt) refl
    (lines-before w m options.shift counted (length counted) h.gone x.metered.out h.moved told) t

-- ---- all flows

-- what is left of some flows, `left` and `rows`, is the first part of what is left of all, and these are the others
pub record HasLeft (job : WatchJob) (first : ℕ) (media : List Media) (items : List Record) (left : List ℕ) (rows : List Row)
    (flows : List (MediaFlow WatchFlow)) : Type 0 where
  pub number : ℕ
  pub rest : List Media
  pub stands : AreFlows job items number rest flows
  pub rows_are : rows ++ rows_from job.flows.options 0 number rest items ≡ rows_from job.flows.options 0 first media items
  pub left_are : (tail : List ℕ) → AreLeft job number rest items tail → AreLeft job first media items (left ++ tail)

-- before the first flow
pub left-none : (job : WatchJob) (first : ℕ) (media : List Media) (gone : List ℕ) (items : List Record) (x : Watch) (flows : List (MediaFlow WatchFlow))
    → StandsFor job first media gone x items → AreFlows job items first media flows → HasLeft job first media items [] [] flows
left-none job first media gone items x flows h stands =
    record { number = first; rest = media; stands = stands; rows_are = refl; left_are = λ tail is. is }

left-step : (job : WatchJob) (first : ℕ) (media : List Media) (items : List Record) (left here : List ℕ) (rows : List Row) (r : Row) (f : MediaFlow WatchFlow)
    (later : List (MediaFlow WatchFlow)) (number : ℕ) (rest : List Media)
    → ((m : Media) (k : ℕ) → IsFlowOf job items k m f → (r ≡ row (flow items m) (key_of 0 k) m job.flows.options)
    × IsLeftEnd (watching_of job k m) m job.flows.options (flow items m) here)
    → AreFlows job items number rest (f ∷ later)
    → rows ++ rows_from job.flows.options 0 number rest items ≡ rows_from job.flows.options 0 first media items
    → ((tail : List ℕ) → AreLeft job number rest items tail → AreLeft job first media items (left ++ tail))
    → HasLeft job first media items (left ++ here) (rows ++ r ∷ []) later
left-step job first media items left here rows r f later number [] is stands rows_are left_are = absurd stands
left-step job first media items left here rows r f later number (m ∷ rest) is stands rows_are left_are =
    let own = is m number stands.0 in
    record {
      number = number + 1;
      rest = rest;
      stands = stands.1;
      rows_are = append_assoc rows (r ∷ []) (rows_from job.flows.options 0 (number + 1) rest items)
          ∙ ap (λ (x : Row). rows ++ x ∷ rows_from job.flows.options 0 (number + 1) rest items) own.0 ∙ rows_are;
      left_are = λ tail tail_is.
          subst (AreLeft job first media items) (sym (append_assoc left here tail)) (left_are (here ++ tail) (here, tail, refl, own.1, tail_is));
    }

-- with one flow more
pub left-more : (job : WatchJob) (first : ℕ) (media : List Media) (items : List Record) (left here : List ℕ) (rows more : List Row) (r : Row)
    (f : MediaFlow WatchFlow) (flows later : List (MediaFlow WatchFlow))
    → flows ≡ f ∷ later → more ≡ rows ++ r ∷ []
    → ((m : Media) (k : ℕ) → IsFlowOf job items k m f → (r ≡ row (flow items m) (key_of 0 k) m job.flows.options)
    × IsLeftEnd (watching_of job k m) m job.flows.options (flow items m) here)
    → HasLeft job first media items left rows flows → HasLeft job first media items (left ++ here) more later
left-more job first media items left here rows more r f flows later e pushed is h =
    subst (λ (l : List Row). HasLeft job first media items (left ++ here) l later) (sym pushed)
    (left-step job first media items left here rows r f later h.number h.rest is (subst (AreFlows job items h.number h.rest) e h.stands) h.rows_are h.left_are)

left-all-of : (job : WatchJob) (first : ℕ) (media : List Media) (items : List Record) (left : List ℕ) (rows : List Row) (number : ℕ) (rest : List Media)
    → AreFlows job items number rest [] → rows ++ rows_from job.flows.options 0 number rest items ≡ rows_from job.flows.options 0 first media items
    → ((tail : List ℕ) → AreLeft job number rest items tail → AreLeft job first media items (left ++ tail))
    → AreLeft job first media items left × (rows ≡ rows_from job.flows.options 0 first media items)
left-all-of job first media items left rows number [] stands rows_are left_are =
    (subst (AreLeft job first media items) (append-nil left) (left_are [] refl), sym (append-nil rows) ∙ rows_are)
left-all-of job first media items left rows number (m ∷ rest) stands rows_are left_are = absurd stands

-- after the last one
pub left-all : (job : WatchJob) (first : ℕ) (media : List Media) (gone : List ℕ) (items : List Record) (x : Watch) (y : Watched) (left : List ℕ)
    (flows : List (MediaFlow WatchFlow))
    → length flows ≡ 0 → string_bytes y.text ≡ text_of x ++ left → StandsFor job first media gone x items
    → HasLeft job first media items left y.rows.items flows → IsLeft job first media gone items y
left-all job first media gone items x y left [] none text h has =
    let all = left-all-of job first media items left y.rows.items has.number has.rest has.stands has.rows_are has.left_are in
    record {
      lines = gone ++ text_of x;
      left = left;
      lines_are = h.lines_are;
      left_are = all.0;
      text_is = ap (λ s. gone ++ s) text ∙ sym (append_assoc gone (text_of x) left);
      rows_are = all.1;
    }
left-all job first media gone items x y left (f ∷ flows) none text h has = absurd (omega (arith, none))
