use Rattle.flow_measure.proofs.Unique.{curve-length, curve-short}
use Rattle.flow_measure.proofs.Widths.{columns-full, width-once, width_of-is}
use Rattle.flow_measure.proofs.laws.widths_are_least.Goals as goal

pub returns-clause-width : goal.returns-clause-width
returns-clause-width c = width_of-is

pub returns-clause-once : goal.returns-clause-once
returns-clause-once c = width-once

pub returns-clause-columns : goal.returns-clause-columns
returns-clause-columns c = curve-length

pub returns-clause-most : goal.returns-clause-most
returns-clause-most c = curve-short

pub returns-clause-full : goal.returns-clause-full
returns-clause-full c = columns-full
