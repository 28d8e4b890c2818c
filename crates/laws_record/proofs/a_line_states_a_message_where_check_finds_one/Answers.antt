use Rattle.std.proofs.Common.{◌∙◌}
use Rattle.laws_record.proofs.SameMessages.{same_messages}
use Rattle.laws_record.proofs.a_line_states_a_message_where_check_finds_one.Goals as goal

pub returns : goal.returns
returns c = λ find line few. same_messages find line ∙ c.a_line_has_a_message_where_check_finds_one.ensures find line few
