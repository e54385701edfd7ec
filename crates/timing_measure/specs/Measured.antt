-- The numbers of the flow of a media. Packets and media count from 0. A source is an SSRC (RFC 3550, section 5.1). This
-- project's profile.
use Rattle.std.specs.Prelude.{◌≡◌, ℕ, List, [], ◌∷◌, length, Option, Some, None, Result, Ok, Err}
use Rattle.timing_base.specs.Shifts.{FlowOptions}
use Rattle.timing_base.specs.Judged.{judged}
use Rattle.timing_base.specs.Media.{Media}
use Rattle.timing_base.specs.Numbered.{numbered}
use Rattle.timing_base.specs.declared.packet.FlowPacket.{FlowPacket}
use Rattle.timing_base.specs.declared.packet.PacketFault.{PacketFault}
use Rattle.timing_base.specs.declared.packet.Rtp.{Rtp}
use Rattle.fail_interval.specs.Parts.{judged_parts}
use Rattle.fail_interval.specs.Row.{verdict_of}
use Rattle.flow_measure.specs.Measured.{AreMeasured, HasNumbers}
use Rattle.flow_measure.specs.declared.numbers.MeasuredFlow.{MeasuredFlow}

-- the SSRC of a packet that was read as RTP, else `later`
abbrev pub source_or : Result Rtp PacketFault → Option ℕ → Option ℕ
source_or (Ok rtp) later = Some rtp.ssrc
source_or (Err fault) later = later

-- the SSRC of the first packet that was read as RTP
abbrev pub first_source : List FlowPacket → Option ℕ
first_source [] = None
first_source (p ∷ packets) = source_or p.rtp (first_source packets)

-- the flow with these packets, of the media with this number, has these numbers, by the options of the flow
pub record IsMeasuredFlow (m : Media) (number : ℕ) (options : FlowOptions) (packets : List FlowPacket)
    (flow : MeasuredFlow) : Type 0 where
  pub media : flow.media ≡ number
  pub count : flow.packets ≡ length packets
  pub source : flow.ssrc ≡ first_source packets
  pub verdict_is : flow.verdict ≡ verdict_of m (judged packets m.pt options)
  pub runs : AreMeasured (HasNumbers m options.shift)
      (judged_parts m (numbered options.seq16 packets) options.shift) flow.runs
