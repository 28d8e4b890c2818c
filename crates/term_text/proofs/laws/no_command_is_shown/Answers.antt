use Rattle.term_text.proofs.Plain.{shown_text-no_command, cut_text-no_command}
use Rattle.term_text.proofs.laws.no_command_is_shown.Goals as goal

pub returns : goal.returns
returns c = record { whole = shown_text-no_command; cut = cut_text-no_command }
