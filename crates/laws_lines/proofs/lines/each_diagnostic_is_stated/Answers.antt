use Rattle.apply_text_terraform.specs.Lines.{note_text}
use Rattle.laws_lines.proofs.FormStream as form
use Rattle.laws_lines.proofs.LinesInForm.{stray_note_says}
use Rattle.laws_lines.proofs.PlainStream as plain
use Rattle.laws_lines.proofs.lines.each_diagnostic_is_stated.Goals as goal
use Rattle.std.proofs.Common.{◌+◌}

pub returns-clause-default : goal.returns-clause-default
returns-clause-default c plan script start clock one change kind has few small is at note =
    plain.note_stated plan script has start clock few one small change kind is at note

pub returns-clause-terraform : goal.returns-clause-terraform
returns-clause-terraform c plan script extras start clock one change kind has few small is at loud note =
    form.note_stated plan script extras has start clock few one small change kind is at loud note

pub returns-clause-no_step : goal.returns-clause-no_step
returns-clause-no_step c start clock note has few = form.in_second (note_text start clock note) (start + clock) _ few (stray_note_says start clock note has)
