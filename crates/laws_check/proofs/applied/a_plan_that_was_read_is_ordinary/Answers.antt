use Rattle.laws_check.proofs.WhatWasRead.{provisions, the_plan, warnings}
use Rattle.laws_check.proofs.applied.a_plan_that_was_read_is_ordinary.Goals as goal

pub returns-clause-plan : goal.returns-clause-plan
returns-clause-plan c given plan script read deleted =
    record { few = (the_plan given plan script read).few; once = c.each_object_is_named_once.ensures given.plan plan read.plan_is; deleted = deleted }

pub returns-clause-script : goal.returns-clause-script
returns-clause-script c given plan script read = provisions given plan script read

pub returns-clause-warnings : goal.returns-clause-warnings
returns-clause-warnings c given plan script read = warnings given plan script read
