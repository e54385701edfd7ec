-- A judge and the output of its meters, which take the flow of a media from the packet records of a capture. `wants` is
-- whether the meters want packets; if not, their output is not specified.
use Rattle.std.specs.Prelude.{◌≡◌, ◌≤◌, ◌+◌, ◌^◌, ℕ, Bool, true, List, [], ◌∷◌, ◌++◌, Option, None}
use Rattle.std.specs.List.{cons_option}
use Rattle.std.proofs.Common.{arith, sym, subst, ap, ◌∙◌, append-nil, append_assoc}
use Rattle.std.proofs.lemmas.List.Elements.{filter_map-append}
use Rattle.timing_base.specs.Shifts.{FlowOptions}
use Rattle.timing_base.specs.Captures.{Record}
use Rattle.timing_base.specs.Media.{Media}
use Rattle.timing_base.specs.declared.key.FlowKey.{FlowKey}
use Rattle.timing_base.specs.declared.packet.FlowPacket.{FlowPacket}
use Rattle.timing_base.specs.declared.packet.Rtp.{Rtp}
use Rattle.udp_rtp.specs.Flow.{flow, flow_packet}
use Rattle.fail_interval.specs.Measured.{JudgeTells}
use Rattle.fail_interval.specs.Metered.{Standing, Telling}
use Rattle.fail_interval.specs.Stands.{StandsFor, count_fed, expected_of}
use Rattle.fail_interval.specs.declared.metered.Metered.{Metered}

-- the judge was fed these packets, and the output of its meters contains their results
pub record IsFed {M O Past : Type 0} (wants : Bool) (stands : Standing M) (tells : Telling Past O) (past : Past)
    (m : Media) (key : FlowKey) (options : FlowOptions) (x : Metered M O) (packets : List FlowPacket) : Type 0 where
  pub judge_is : StandsFor m key options x.judge packets
  pub told : wants ≡ true → JudgeTells stands tells past m options packets x.judge x.out

-- if `old` was fed some packets, `new` was fed those and then the flow of this media in these records
abbrev pub Feeds : {M O Past : Type 0} → (wants : Bool) → Standing M → Telling Past O → Media → (old new : Metered M O)
    → List Record → Type 0
Feeds {Past = Past} wants stands tells m old new more =
    (past : Past) (key : FlowKey) (options : FlowOptions) (packets : List FlowPacket)
    → IsFed wants stands tells past m key options old packets
    → IsFed wants stands tells past m key options new (packets ++ flow more m)

-- the empty list of records changes nothing
pub feeds_none : {M O Past : Type 0} (wants : Bool) (stands : Standing M) (tells : Telling Past O) (m : Media)
    (x : Metered M O) → Feeds wants stands tells m x x []
feeds_none wants stands tells m x past key options packets h =
    subst (IsFed wants stands tells past m key options x) (sym (append-nil packets)) h

-- a record that is no packet of the flow changes nothing
pub feeds_other : {M O Past : Type 0} (wants : Bool) (stands : Standing M) (tells : Telling Past O) (m : Media)
    (x : Metered M O) (r : Record) → flow_packet m r ≡ None → Feeds wants stands tells m x x (r ∷ [])
feeds_other wants stands tells m x r is past key options packets h =
    subst (λ (o : Option FlowPacket). IsFed wants stands tells past m key options x (packets ++ cons_option o []))
    (sym is)
    (feeds_none wants stands tells m x past key options packets h)

-- records that are fed in two parts are fed as all of them are
pub feeds_more : {M O Past : Type 0} (wants : Bool) (stands : Standing M) (tells : Telling Past O) (m : Media)
    (x y z : Metered M O) (a b : List Record) → Feeds wants stands tells m x y a → Feeds wants stands tells m y z b
    → Feeds wants stands tells m x z (a ++ b)
feeds_more wants stands tells m x y z a b first second past key options packets h =
    subst (IsFed wants stands tells past m key options z) (append_assoc packets (flow a m) (flow b m)
    ∙ ap (λ l. packets ++ l) (sym (filter_map-append (flow_packet m) a b)))
    (second past key options (packets ++ flow a m) (first past key options packets h))

-- the judge has room for `count` more packets
abbrev pub HasRoom : {M O : Type 0} → (count : ℕ) → Metered M O → Type 0
HasRoom count x = count_fed x.judge + count ≤ 2 ^ 41

-- room for many packets is room for fewer
pub room_less : {M O : Type 0} (few many : ℕ) (x : Metered M O) → few ≤ many → HasRoom many x → HasRoom few x
room_less few many x less room = omega (arith, less, room)

-- the packet that is expected next, by the state of the judge
abbrev pub expected_next : {M O : Type 0} → Metered M O → Option Rtp
expected_next x = expected_of x.judge
