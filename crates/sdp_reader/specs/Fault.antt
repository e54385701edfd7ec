-- The faults of a session description: their order and printed form.
-- Lines count from 1; 0 is the session description as a whole.
use Rattle.std.specs.Prelude.{◌≡◌, ◌⊎◌, ℕ, ◌==◌, ◌&&◌, ◌||◌, nat_lt, Bool, if◌then◌else◌, List, [], ◌∷◌, ◌++◌, Option}
use Rattle.std.specs.Prelude.{Some, None, codes}
use Rattle.std.specs.Fmt.{decimal}
use Rattle.sdp_reader.specs.declared.fault.SdpCause.{SdpCause}
use Rattle.sdp_reader.specs.declared.fault.SdpCause.TheVariants.{NotText, NoVersion, BadLine, BadMedia, NoConnection}
use Rattle.sdp_reader.specs.declared.fault.SdpCause.TheVariants.{BadAddress, BadParameter, RepeatedParameter}
use Rattle.sdp_reader.specs.declared.fault.SdpCause.TheVariants.{MissingParameter, BadRate, Segmented, ExtendedUdp}
use Rattle.sdp_reader.specs.declared.fault.SdpCause.TheVariants.{SameTarget, TooManyMedia, NoVideo, TooLarge}
use Rattle.sdp_reader.specs.declared.fault.SdpFault.{SdpFault}

-- the number of a cause; if a line has several causes, the one with the lowest number is reported
abbrev pub number_of : SdpCause → ℕ
number_of NotText = 1
number_of NoVersion = 2
number_of BadLine = 3
number_of BadMedia = 4
number_of NoConnection = 5
number_of BadAddress = 6
number_of BadParameter = 7
number_of RepeatedParameter = 8
number_of MissingParameter = 9
number_of BadRate = 10
number_of Segmented = 11
number_of ExtendedUdp = 12
number_of SameTarget = 13
number_of TooManyMedia = 14
number_of NoVideo = 15
number_of TooLarge = 17

-- the name of a cause
abbrev pub name_of : SdpCause → List ℕ
name_of NotText = codes "NotText"
name_of NoVersion = codes "NoVersion"
name_of BadLine = codes "BadLine"
name_of BadMedia = codes "BadMedia"
name_of NoConnection = codes "NoConnection"
name_of BadAddress = codes "BadAddress"
name_of BadParameter = codes "BadParameter"
name_of RepeatedParameter = codes "RepeatedParameter"
name_of MissingParameter = codes "MissingParameter"
name_of BadRate = codes "BadRate"
name_of Segmented = codes "Segmented"
name_of ExtendedUdp = codes "ExtendedUdp"
name_of SameTarget = codes "SameTarget"
name_of TooManyMedia = codes "TooManyMedia"
name_of NoVideo = codes "NoVideo"
name_of TooLarge = codes "TooLarge"

-- `line L CAUSE`
abbrev pub fault_text : SdpFault → List ℕ
fault_text f = codes "line " ++ (decimal f.line ++ (codes " " ++ name_of f.what))

-- a fault comes before another if it is on an earlier line, or on the same line and the number of its cause is lower
abbrev pub comes_before : SdpFault → SdpFault → Bool
comes_before f g =
    nat_lt f.line g.line || ((f.line == g.line) && nat_lt (number_of f.what) (number_of g.what))

-- the first of two possible faults
abbrev pub first_of : Option SdpFault → Option SdpFault → Option SdpFault
first_of None g = g
first_of (Some f) None = Some f
first_of (Some f) (Some g) = if comes_before g f then Some g else Some f

-- the first of all faults, if there is one
abbrev pub least : List SdpFault → Option SdpFault
least [] = None
least (f ∷ fs) = first_of (Some f) (least fs)

-- the fault is one of these
abbrev pub IsAmong : SdpFault → List SdpFault → Type 0
IsAmong f [] = ⊥
IsAmong f (g ∷ gs) = (f ≡ g) ⊎ IsAmong f gs
