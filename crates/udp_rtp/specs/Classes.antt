-- The reasons for which an Ethernet frame goes to no UDP port over IPv4. Places are byte offsets from the start of the
-- frame.
-- From the standards: the types and their places, IEEE 802.3, clause 3.2.6 (the type field), IEEE 802.1Q (the tags
-- 0x8100, and 0x88a8 of a provider's bridge) and RFC 2464, section 3 (IPv6); the fields, RFC 791, section 3.1 (IPv4).
-- This project's profile: which class counts if several apply, and that at most one tag, of type 0x8100, may stand
-- before the type. `datagram_of` of `Frames` defines which frames have a datagram.
use Rattle.std.specs.Prelude.{ℕ, ◌+◌, ◌/◌, ◌%◌, ◌^◌, ◌==◌, ◌&&◌, ◌||◌, nat_le, Bool, if◌then◌else◌, List, length}
use Rattle.std.specs.Prelude.{slice_index}
use Rattle.udp_rtp.specs.Numbers.{number16}
use Rattle.udp_rtp.specs.declared.class.FrameClass.{FrameClass}
use Rattle.udp_rtp.specs.declared.class.FrameClass.TheVariants.{Empty, Tags, Ipv6, Other, NotUdp, Fragment, Broken}

-- the type field at a place has this number
abbrev pub has_kind : List ℕ → (place kind : ℕ) → Bool
has_kind frame place kind = nat_le (place + 2) (length frame) && (number16 frame place == kind)

-- the type field behind one tag has this number
abbrev pub has_tagged_kind : List ℕ → ℕ → Bool
has_tagged_kind frame kind = has_kind frame 12 0x8100 && has_kind frame 16 kind

-- the tag of a provider's bridge comes first, or two tags follow each other
abbrev pub has_tags : List ℕ → Bool
has_tags frame = has_kind frame 12 0x88a8 || (has_tagged_kind frame 0x8100 || has_tagged_kind frame 0x88a8)

-- the frame has this type, behind one tag or none
abbrev pub is_of_kind : List ℕ → ℕ → Bool
is_of_kind frame kind = has_kind frame 12 kind || has_tagged_kind frame kind

-- the class of an IPv4 frame with its header at a place. `Broken`: the header isn't 20 bytes of version 4. `NotUdp`:
-- its protocol isn't 17. `Fragment`: the flag MF or one of the 13 bits of the fragment offset is set. Else `Broken`.
abbrev pub class_at : List ℕ → ℕ → FrameClass
class_at frame e =
    if nat_le (e + 20) (length frame) && (slice_index frame e / 16 == 4) then
    (if slice_index frame (e + 9) == 17 then
    (if number16 frame (e + 6) % 2 ^ 14 == 0 then Broken else Fragment)
    else NotUdp)
    else Broken

-- the class of a frame without a datagram: the first that applies
abbrev pub class_of : List ℕ → FrameClass
class_of frame =
    if length frame == 0 then Empty
    else if has_tags frame then Tags
    else if is_of_kind frame 0x86dd then Ipv6
    else if has_kind frame 12 0x0800 then class_at frame 14
    else if has_tagged_kind frame 0x0800 then class_at frame 18
    else Other
