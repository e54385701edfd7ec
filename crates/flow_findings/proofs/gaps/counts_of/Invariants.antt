use Rattle.std.proofs.Common.{◌≡◌, ◌≤◌, ◌+◌, ◌*◌, ◌^◌, drop}
use Rattle.flow_findings.specs.Gaps.{backs, losses, missing, wraps}
use Rattle.flow_findings.proofs.gaps.counts_of.Given as goal

-- the counts so far and those of the rest are those of all gaps; none is above the number of gaps so far
abbrev pub invariant-loop-gap : goal.invariant-loop-gap
invariant-loop-gap l = record {
  wraps : l.counts.wraps + wraps l.seq16 (drop l.gap-index l.gaps) ≡ wraps l.seq16 l.gaps;
  losses : l.counts.losses + losses l.seq16 (drop l.gap-index l.gaps) ≡ losses l.seq16 l.gaps;
  missing : l.counts.missing + missing l.seq16 (drop l.gap-index l.gaps) ≡ missing l.seq16 l.gaps;
  backs : l.counts.backs + backs l.seq16 (drop l.gap-index l.gaps) ≡ backs l.seq16 l.gaps;
  wraps_few : l.counts.wraps ≤ l.gap-index;
  losses_few : l.counts.losses ≤ l.gap-index;
  missing_few : l.counts.missing ≤ l.gap-index * 2 ^ 31;
  backs_few : l.counts.backs ≤ l.gap-index;
}
