use Rattle.laws_texts.proofs.TimeLineStreams.{same_terraform}
use Rattle.laws_texts.proofs.time_lines.time_lines_that_end_alike_have_the_same_stream_in_terraforms_form.Goals as goal

pub returns : goal.returns
returns c = same_terraform
