-- The words of the reports: sender types, classes, models, frame or field, SSRCs, and the faults of packets and
-- captures.
use Rattle.std.specs.Prelude.{ℕ, ◌-◌, ◌^◌, List, [], ◌++◌, Bool, true, false, Option, Some, None, codes}
use Rattle.std.specs.Fmt.{decimal, digits, format_spec, padded_integral}
use Rattle.timing_base.specs.declared.capture.FileNote.{FileNote}
use Rattle.timing_base.specs.declared.capture.FileNote.TheVariants.{End, Cut, Refused}
use Rattle.timing_base.specs.declared.capture.PcapFault.{PcapFault}
use Rattle.timing_base.specs.declared.capture.PcapFault.TheVariants.{ReadFault, BadMagic, BadVersion, BadLink, BadStamp}
use Rattle.timing_base.specs.declared.capture.PcapFault.TheVariants.{BadLength, TooLong}
use Rattle.timing_base.specs.declared.fail.Broken.{Broken}
use Rattle.timing_base.specs.declared.fail.Broken.TheVariants.{Bucket, Over, Empty}
use Rattle.timing_base.specs.declared.media.Kind.{Kind}
use Rattle.timing_base.specs.declared.media.Kind.TheVariants.{N, NL, W}
use Rattle.timing_base.specs.declared.packet.PacketFault.{PacketFault}
use Rattle.timing_base.specs.declared.packet.PacketFault.TheVariants.{Short, Version, PayloadType, SecondSource, Number}
use Rattle.timing_base.specs.declared.packet.PacketFault.TheVariants.{StampBack, NoMarker, SameStamp, FrameSize}
use Rattle.timing_base.specs.declared.packet.PacketFault.TheVariants.{FrameTooLarge}

-- the name of a sender type
abbrev pub kind_name : Kind → List ℕ
kind_name N = codes "N"
kind_name NL = codes "NL"
kind_name W = codes "W"

-- the type that the SDP declares
abbrev pub declared_name : Option Kind → List ℕ
declared_name (Some kind) = kind_name kind
declared_name None = codes "none"

-- the class of a flow, by the first type that passes
abbrev pub class_name : Option Kind → List ℕ
class_name (Some N) = codes "narrow"
class_name (Some NL) = codes "narrow linear"
class_name (Some W) = codes "wide"
class_name None = codes "none"

-- the model that a violation is of: the leaky bucket, or the receiver buffer (overflow or underflow)
abbrev pub model_name : Broken → List ℕ
model_name Bucket = codes "Bucket"
model_name Over = codes "Over"
model_name Empty = codes "Empty"

-- `field` if the video is interlaced, else `frame`
abbrev pub group_name : Bool → List ℕ
group_name true = codes "field"
group_name false = codes "frame"

-- an SSRC as eight lower-case hexadecimal digits with leading zeros: base 16, no alignment, no precision, padded with
-- zeros (flag 4) to a width of 8
abbrev pub ssrc_text : ℕ → List ℕ
ssrc_text ssrc = padded_integral (format_spec 32 0 4 8 (2 ^ 64 - 1)) false [] (digits 16 false ssrc)

-- the fault of a packet; its capture timestamps are nanoseconds
abbrev pub packet_fault_text : PacketFault → List ℕ
packet_fault_text Short = codes "Short"
packet_fault_text Version = codes "Version"
packet_fault_text PayloadType = codes "PayloadType"
packet_fault_text SecondSource = codes "SecondSource"
packet_fault_text (Number expected got) = codes "Number"
packet_fault_text (StampBack before got) =
    codes "StampBack before " ++ (decimal before ++ (codes " got " ++ decimal got))
packet_fault_text NoMarker = codes "NoMarker"
packet_fault_text SameStamp = codes "SameStamp"
packet_fault_text (FrameSize want got) = codes "FrameSize want " ++ (decimal want ++ (codes " got " ++ decimal got))
packet_fault_text FrameTooLarge = codes "FrameTooLarge"

-- the fault of a capture; packet records count from 1
abbrev pub pcap_fault_text : PcapFault → List ℕ
pcap_fault_text ReadFault = codes "ReadFault"
pcap_fault_text BadMagic = codes "BadMagic"
pcap_fault_text BadVersion = codes "BadVersion"
pcap_fault_text BadLink = codes "BadLink"
pcap_fault_text (BadStamp rec) = codes "BadStamp at record " ++ decimal rec
pcap_fault_text (BadLength rec) = codes "BadLength at record " ++ decimal rec
pcap_fault_text TooLong = codes "TooLong"

-- how a capture ends; `at` is the byte offset, from 0, at which an incomplete packet record begins. No report contains
-- `ReadFault`, since the program prints no report if a read fails.
abbrev pub note_text : FileNote → List ℕ
note_text End = codes "end"
note_text (Cut at) = codes "cut at " ++ decimal at
note_text (Refused fault) = codes "refused " ++ pcap_fault_text fault
