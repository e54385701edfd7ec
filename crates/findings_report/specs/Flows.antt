-- The flows of a session.
use Rattle.std.specs.Prelude.{◌<◌, All, List, length}
use Rattle.timing_base.specs.Media.{Media}
use Rattle.flow_findings.specs.declared.explained.Explained.{Explained}

-- each flow is of a media of the session
abbrev pub AreOfSession : List Media → List Explained → Type 0
AreOfSession session flows = All (λ e. e.media < length session) flows
