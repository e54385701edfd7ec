-- The names of the findings, in texts and in JSON. This project's profile.
use Rattle.std.specs.Prelude.{ℕ, List, codes}
use Rattle.flow_findings.specs.declared.finding.Finding.{Finding}
use Rattle.flow_findings.specs.declared.finding.Finding.TheVariants as finding

-- the name of a finding
abbrev pub finding_name : Finding → List ℕ
finding_name (finding.Elsewhere target packets) = codes "elsewhere"
finding_name (finding.Absent passed_over streams) = codes "absent"
finding_name (finding.Refused rec cause) = codes "refused"
finding_name (finding.Unmarked packets markers) = codes "unmarked"
finding_name (finding.Wrap gaps) = codes "wrap"
finding_name (finding.Loss gaps missing) = codes "loss"
finding_name (finding.Order gaps) = codes "order"
finding_name (finding.Rate described steps period) = codes "rate"
finding_name (finding.Utc offset) = codes "utc"
finding_name (finding.TaiTwice offset) = codes "tai_twice"
finding_name (finding.Burst greatest limit packets groups first span period) = codes "burst"
finding_name (finding.Phase buffer) = codes "phase"
finding_name (finding.Pacing buffer) = codes "pacing"
finding_name (finding.Drift ppm10) = codes "drift"
finding_name (finding.Rare broken groups first) = codes "rare"
finding_name (finding.Pass bucket bucket_limit buffer buffer_limit slack) = codes "pass"
finding_name (finding.Microseconds drain) = codes "microseconds"
finding_name (finding.Unlocked offset) = codes "unlocked"
