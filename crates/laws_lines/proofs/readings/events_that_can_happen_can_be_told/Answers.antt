use Rattle.std.proofs.Common.{[]}
use Rattle.laws_lines.proofs.Happening.{all_loud, all_planned}
use Rattle.laws_lines.proofs.Names.{nothing_named, script_named}
use Rattle.laws_lines.proofs.TimeLines.{are_told}
use Rattle.laws_lines.proofs.readings.events_that_can_happen_can_be_told.Goals as goal

pub returns-clause-read : goal.returns-clause-read
returns-clause-read c plan bytes script start events read few fit = are_told plan script start events (script_named plan bytes script read) few fit

pub returns-clause-empty : goal.returns-clause-empty
returns-clause-empty c plan start events few fit = are_told plan [] start events nothing_named few fit

pub returns-clause-planned : goal.returns-clause-planned
returns-clause-planned c = all_planned

pub returns-clause-loud : goal.returns-clause-loud
returns-clause-loud c = all_loud
