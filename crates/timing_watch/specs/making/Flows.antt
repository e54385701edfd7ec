-- The packets of a flow that a `WatchFlow` has taken, and its lines that weren't moved yet.
use Rattle.std.specs.Prelude.{◌≡◌, ◌≤◌, ◌<◌, ◌+◌, ◌-◌, ℕ, true, false, is_some, List, [], ◌∷◌, ◌++◌, length, Option}
use Rattle.std.specs.Prelude.{None, string_bytes}
use Rattle.std.specs.List.{cons_option}
use Rattle.std.proofs.Common.{append-nil, append_assoc, ap, refl, subst, sym, ◌∙◌}
use Rattle.std.proofs.lemmas.List.Elements.{filter_map-append}
use Rattle.timing_base.specs.Captures.{Record}
use Rattle.timing_base.specs.Flows.{cuts, first_fault, last_place, markers, packet}
use Rattle.timing_base.specs.Keys.{key_of}
use Rattle.timing_base.specs.Media.{Media}
use Rattle.timing_base.specs.Numbered.{numbered}
use Rattle.timing_base.specs.Shifts.{FlowOptions}
use Rattle.timing_base.specs.declared.packet.FlowPacket.{FlowPacket}
use Rattle.timing_base.specs.declared.packet.Rtp.{Rtp}
use Rattle.udp_rtp.specs.Flow.{flow, flow_packet}
use Rattle.fail_interval.specs.Meterings.{HasRoom as MeteredHasRoom, IsFed, expected_next as metered_next}
use Rattle.fail_interval.specs.Meterings.{room_less as metered_less}
use Rattle.flow_watch.specs.Watched.{PastLines, Tells}
use Rattle.flow_watch.specs.making.Meters.{StandsFor as MeterStandsFor}
use Rattle.timing_watch.specs.Watched.{AreFlowLines, Watching, last_told}
use Rattle.timing_watch.specs.declared.flow.WatchFlow.{WatchFlow}

-- the lines that weren't moved yet
abbrev pub text_in : WatchFlow → List ℕ
text_in x = string_bytes x.text

-- the flow's own numbers are those of the run that is open before packet n
pub record IsAtRun (packets : List FlowPacket) (n : ℕ) (x : WatchFlow) : Type 0 where
  pub run_is : x.run ≡ length (cuts packets n) + 1
  pub before_is : x.before ≡ last_place (0 ∷ cuts packets n)
  pub since_is : length (markers packets x.before n) < 2
      → x.since ≡ (packet packets (last_told packets x.before (n - (x.before + 1)))).at

-- before packet 0 there is no run
pub record IsAtOpen (packets : List FlowPacket) (n : ℕ) (x : WatchFlow) : Type 0 where
  pub none : n ≡ 0 → x.run ≡ 0
  pub run : 0 < n → IsAtRun packets n x

-- what the output of the meters contains if lines were moved out of it, `gone`
abbrev pub past_of : Watching → (gone : List ℕ) → PastLines
past_of w gone = record { form = w.form; every = w.every; gone = gone }

-- exactly these packets of the flow of a media were taken, and the lines of complete stretches were moved
pub record StandsFor (w : Watching) (m : Media) (options : FlowOptions) (x : WatchFlow) (packets : List FlowPacket)
    : Type 0 where
  pub media_is : x.media ≡ m
  -- the lines that were moved
  pub gone : List ℕ
  pub fed : IsFed true MeterStandsFor Tells (past_of w gone) m (key_of 0 w.form.media) options x.metered packets
  pub moved : string_bytes x.metered.out.text ≡ []
  pub refused_is : x.refused ≡ is_some (first_fault (numbered options.seq16 packets) m.pt)
  pub open_is : x.refused ≡ false → IsAtOpen (numbered options.seq16 packets) (length packets) x

-- these packet records were taken after those before, and the lines that they added were appended
pub record Took (w : Watching) (m : Media) (options : FlowOptions) (old new : WatchFlow) (packets : List FlowPacket)
    (items : List Record) : Type 0 where
  pub more : List ℕ
  pub text_is : text_in new ≡ text_in old ++ more
  pub lines : AreFlowLines w m options packets (flow items m) more
  pub stands : StandsFor w m options new (packets ++ flow items m)

-- the flow of these packet records was taken after the packets before, and nothing else
abbrev pub TakesOn : Media → (old new : WatchFlow) → List Record → Type 0
TakesOn m old new items =
    (w : Watching) (options : FlowOptions) (packets : List FlowPacket) → StandsFor w m options old packets
    → Took w m options old new packets items

-- lines of packets, and then those of others, are the lines of all of them
pub lines_more : (w : Watching) (m : Media) (options : FlowOptions) (before a b : List FlowPacket) (s t : List ℕ)
    → AreFlowLines w m options before a s → AreFlowLines w m options (before ++ a) b t
    → AreFlowLines w m options before (a ++ b) (s ++ t)
lines_more w m options before [] b s t first second =
    subst (λ x. AreFlowLines w m options before b (x ++ t)) (sym first)
    (subst (λ x. AreFlowLines w m options x b t) (append-nil before) second)
lines_more w m options before (p ∷ a) b s t (here, rest, is, adds, after) second = (
  here,
  rest ++ t,
  ap (λ x. x ++ t) is ∙ append_assoc here rest t,
  adds,
  lines_more w m options (before ++ p ∷ []) a b rest t after
      (subst (λ x. AreFlowLines w m options x b t) (sym (append_assoc before (p ∷ []) a)) second),
)

-- taking no record changes nothing
pub takes_none : (m : Media) (x : WatchFlow) → TakesOn m x x []
takes_none m x w options packets h = record {
  more = [];
  text_is = sym (append-nil (text_in x));
  lines = refl;
  stands = subst (StandsFor w m options x) (sym (append-nil packets)) h;
}

-- a record that is no packet of the flow changes nothing
pub takes_other : (m : Media) (x : WatchFlow) (r : Record) → flow_packet m r ≡ None → TakesOn m x x (r ∷ [])
takes_other m x r is w options packets h = record {
  more = [];
  text_is = sym (append-nil (text_in x));
  lines = subst (λ (o : Option FlowPacket). AreFlowLines w m options packets (cons_option o []) []) (sym is) refl;
  stands = subst (λ (o : Option FlowPacket). StandsFor w m options x (packets ++ cons_option o [])) (sym is)
      (subst (StandsFor w m options x) (sym (append-nil packets)) h);
}

-- taking some records and then others is taking both
pub takes_more : (m : Media) (x y z : WatchFlow) (a b : List Record) → TakesOn m x y a → TakesOn m y z b
    → TakesOn m x z (a ++ b)
takes_more m x y z a b first second w options packets h =
    let one = first w options packets h in
    let two = second w options (packets ++ flow a m) one.stands in
    let both : flow (a ++ b) m ≡ flow a m ++ flow b m = filter_map-append (flow_packet m) a b in
    record {
      more = one.more ++ two.more;
      text_is = two.text_is ∙ (ap (λ s. s ++ two.more) one.text_is ∙ append_assoc (text_in x) one.more two.more);
      lines = subst (λ l. AreFlowLines w m options packets l (one.more ++ two.more)) (sym both)
          (lines_more w m options packets (flow a m) (flow b m) one.more two.more one.lines two.lines);
      stands = subst (λ l. StandsFor w m options z (packets ++ l)) (sym both)
          (subst (StandsFor w m options z) (append_assoc packets (flow a m) (flow b m)) two.stands);
    }

-- the lines were moved, and what was taken is the same
pub record MovesText (old new : WatchFlow) : Type 0 where
  pub none : text_in new ≡ []
  pub stands : (w : Watching) (m : Media) (options : FlowOptions) (packets : List FlowPacket)
      → StandsFor w m options old packets → StandsFor w m options new packets

-- `count` more packets can be taken
abbrev pub HasRoom : (count : ℕ) → WatchFlow → Type 0
HasRoom count x = MeteredHasRoom count x.metered

-- if many more packets can be taken, so can fewer
pub room_less : (few many : ℕ) (x : WatchFlow) → few ≤ many → HasRoom many x → HasRoom few x
room_less few many x less room = metered_less few many x.metered less room

-- the packet that is expected next, from the state of the judge
abbrev pub expected_next : WatchFlow → Option Rtp
expected_next x = metered_next x.metered
