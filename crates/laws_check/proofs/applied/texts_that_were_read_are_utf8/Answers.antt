use Rattle.laws_check.proofs.ReadTexts.{read_texts}
use Rattle.laws_check.proofs.WhatWasRead.{the_plan, the_script}
use Rattle.laws_check.proofs.applied.texts_that_were_read_are_utf8.Goals as goal

pub returns : goal.returns
returns c given plan script read =
    read_texts plan script (the_plan given plan script read) (c.relative_addresses_join_their_module.ensures given.plan plan read.plan_is) (the_script given plan script read)
