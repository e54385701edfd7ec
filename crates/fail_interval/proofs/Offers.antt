-- What one record more does to a judge and the output of its meters, which take a flow.
use Rattle.std.proofs.Common.{◌≡◌, ℕ, Bool, true, List, [], ◌∷◌, ◌++◌, Option, Some, sym, ◌∙◌, subst}
use Rattle.std.specs.Prelude.{Err, IfOk, IsOkAnd, Ok, Result}
use Rattle.std.specs.List.{cons_option}
use Rattle.timing_base.specs.Shifts.{FlowOptions}
use Rattle.timing_base.specs.Captures.{Record}
use Rattle.timing_base.specs.Media.{Media}
use Rattle.timing_base.specs.declared.key.FlowKey.{FlowKey}
use Rattle.timing_base.specs.declared.packet.FlowPacket.{FlowPacket}
use Rattle.timing_base.specs.declared.packet.PacketFault.{PacketFault}
use Rattle.timing_base.specs.declared.packet.Rtp.{Rtp}
use Rattle.udp_rtp.specs.Flow.{flow_packet}
use Rattle.fail_interval.specs.Measured.{JudgeTells, TellsGoingOn, TellsTaken}
use Rattle.fail_interval.specs.Metered.{Standing, Telling}
use Rattle.fail_interval.specs.Meterings.{Feeds, IsFed}
use Rattle.fail_interval.specs.Stands.{Takes, TakesExpected, expected_of}
use Rattle.fail_interval.specs.Taken.{IsExpected}
use Rattle.fail_interval.specs.declared.metered.Metered.{Metered}
use Rattle.fail_interval.proofs.Expecting.{expected-stands}
use Rattle.fail_interval.proofs.Judges.{takes_expected, tells_expected}

-- what takes the packet of a record takes the record
feeds-packet : {M O Past : Type 0} (wants : Bool) (stands : Standing M) (tells : Telling Past O) (old new : Metered M O) (m : Media) (r : Record)
    (p : FlowPacket)
    → flow_packet m r ≡ Some p
    → ((past : Past) (key : FlowKey) (options : FlowOptions) (packets : List FlowPacket) → IsFed wants stands tells past m key options old packets
    → IsFed wants stands tells past m key options new (packets ++ p ∷ []))
    → Feeds wants stands tells m old new (r ∷ [])
feeds-packet wants stands tells old new m r p is feeds past key options packets h =
    subst (λ (o : Option FlowPacket). IsFed wants stands tells past m key options new (packets ++ cons_option o [])) (sym is) (feeds past key options packets h)

-- where memory was there
pub feeds-taken : {M O Past T E : Type 0} (wants : Bool) (stands : Standing M) (tells : Telling Past O) (result : Result T E) (old new : Metered M O)
    (p : FlowPacket) (bytes : List ℕ)
    → Takes old.judge new.judge p result
    → (wants ≡ true → TellsTaken stands tells old.judge new.judge old.out new.out p result)
    → IfOk result (λ _. (m : Media) (r : Record) → flow_packet m r ≡ Some p → r.bytes ≡ bytes → Feeds wants stands tells m old new (r ∷ []))
feeds-taken wants stands tells (Ok x) old new p bytes takes told = λ m r is _.
    feeds-packet wants stands tells old new m r p is
    (λ past key options packets h. record {
      judge_is = takes.stands m key options packets h.judge_is;
      told = λ wanted. told wanted past m key options packets h.judge_is (h.told wanted);
    })
feeds-taken wants stands tells (Err e) old new p bytes takes told = tt

-- where it is the one expected, and the judge took that one
feeds-read : {M O Past : Type 0} (wants : Bool) (stands : Standing M) (tells : Telling Past O) (old new : Metered M O) (n at : ℕ)
    (rtp : Result Rtp PacketFault) (m : Media) (r : Record)
    → TakesExpected old.judge new.judge at
    → (wants ≡ true → TellsGoingOn stands tells old.judge new.judge n at)
    → new.out ≡ old.out
    → IsOkAnd rtp (λ p. expected_of old.judge ≡ Some p)
    → flow_packet m r ≡ Some (record { rec = n; at = at; rtp = rtp })
    → Feeds wants stands tells m old new (r ∷ [])
feeds-read wants stands tells old new n at (Err fault) m r took told out expected is = absurd expected
feeds-read wants stands tells old new n at (Ok p) m r took told out expected is =
    let next : IsExpected old.judge p = λ k key options packets s. sym expected ∙ expected-stands k key options old.judge packets s in
    feeds-packet wants stands tells old new m r (record { rec = n; at = at; rtp = Ok p }) is
    (λ past key options packets h. record {
      judge_is = takes_expected old.judge new.judge at p next took n m key options packets h.judge_is;
      told = λ wanted.
          tells_expected stands tells old.judge new.judge n at p next took (told wanted) past new.out m key options packets h.judge_is
          (subst (λ o. JudgeTells stands tells past m options packets old.judge o) (sym out) (h.told wanted));
    })

pub feeds-expected : {M O Past : Type 0} (wants : Bool) (stands : Standing M) (tells : Telling Past O) (old new : Metered M O) (packet : FlowPacket) (m : Media)
    (r : Record)
    → TakesExpected old.judge new.judge packet.at
    → (wants ≡ true → TellsGoingOn stands tells old.judge new.judge packet.rec packet.at)
    → new.out ≡ old.out
    → IsOkAnd packet.rtp (λ p. expected_of old.judge ≡ Some p)
    → flow_packet m r ≡ Some packet
    → Feeds wants stands tells m old new (r ∷ [])
feeds-expected wants stands tells old new packet m r took told out expected is =
    feeds-read wants stands tells old new packet.rec packet.at packet.rtp m r took told out expected is
