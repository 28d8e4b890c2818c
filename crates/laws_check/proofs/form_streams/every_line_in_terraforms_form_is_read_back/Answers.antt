use Rattle.laws_check.proofs.FormStream.{stream_line_read_back}
use Rattle.laws_check.proofs.form_streams.every_line_in_terraforms_form_is_read_back.Goals as goal

pub returns : goal.returns
returns c = stream_line_read_back
