-- What is known of captures as a whole is what their packet records define.
use Rattle.std.proofs.Common.{◌≡◌, Bool, List, ap₂, ◌∙◌}
use Rattle.timing_base.specs.Captures.{Record}
use Rattle.capture_scan.specs.Scans.{IsFound}
use Rattle.capture_scan.specs.declared.found.Found.{Found}
use Rattle.capture_scan.proofs.lemmas.report.Founds.{found-contents}
use Rattle.flow_findings.specs.declared.inputs.KnownCaptures.{KnownCaptures}
use Rattle.timing_explain.specs.Captures.{known_of}
use Rattle.timing_explain.specs.Explained.{known_captures, with_contents}
use Rattle.timing_explain.specs.Micros.{are_whole}
use Rattle.timing_explain.specs.declared.micros.Microseconds.{Microseconds}

pub known-is : (seq16 : Bool) (items : List Record) (found : Found) (micros : Microseconds) (known : KnownCaptures) → known ≡ known_of found micros seq16
    → IsFound items found → micros.whole ≡ are_whole items → known ≡ known_captures seq16 items
known-is seq16 items found micros known is scanned whole =
    is ∙ ap₂ (λ c w. with_contents c w seq16) (found-contents items found scanned) whole
