use Rattle.std.proofs.Common.{ap}
use Rattle.apply_writer.specs.Stream.Form.{StreamForm, stream_in}
use Rattle.laws_run.proofs.SecretBytes.{read_alike}
use Rattle.laws_run.proofs.SecretStreams.{same_form, told_alike}
use Rattle.laws_run.proofs.sensitive.no_stream_depends_on_a_sensitive_value.Goals as goal

pub returns : goal.returns
returns c = record {
  outputs = λ plan script details notes one other start operation taken same. ap (λ (form : StreamForm). stream_in form taken) (same_form details notes plan script one other start operation same);
  read = told_alike;
  bytes = λ one other stated same differ first second. told_alike stated same (read_alike one other stated same differ first second);
}
