use Rattle.laws_command_check.proofs.HeadLines.{head_lines_read_back}
use Rattle.laws_command_check.proofs.heads.every_line_before_an_apply_is_read_back.Goals as goal

pub returns : goal.returns
returns c inputs lines has = head_lines_read_back inputs has lines
