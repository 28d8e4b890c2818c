use Rattle.laws_texts.proofs.Terraform.Streams.{same_stream}
use Rattle.laws_texts.proofs.streams.streams_in_terraforms_form_are_the_same.Goals as goal

pub returns : goal.returns
returns c = same_stream
