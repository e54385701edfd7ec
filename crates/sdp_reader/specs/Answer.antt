-- What a result of the reader guarantees.
use Rattle.std.specs.Prelude.{◌≡◌, List, Result, Ok, Err}
use Rattle.timing_base.specs.Media.{Media}
use Rattle.sdp_reader.specs.declared.fault.SdpError.{SdpError}
use Rattle.sdp_reader.specs.declared.fault.SdpError.TheVariants.{Refused, OutOfMemory}
use Rattle.sdp_reader.specs.declared.fault.SdpFault.{SdpFault}

-- the result is the defined one, its streams or its fault; if memory ran out, nothing is guaranteed
abbrev pub Tells : Result (List Media) SdpFault → Result (List Media) SdpError → Type 0
Tells defined (Ok x) = defined ≡ Ok x
Tells defined (Err (Refused fault)) = defined ≡ Err fault
Tells defined (Err OutOfMemory) = Unit {0}
