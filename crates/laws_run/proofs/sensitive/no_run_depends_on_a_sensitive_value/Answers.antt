use Rattle.laws_run.proofs.SecretRuns.{applied, failed}
use Rattle.laws_run.proofs.sensitive.no_run_depends_on_a_sensitive_value.Goals as goal

pub returns : goal.returns
returns c = record {
  applied = λ one other stated schedule start operation report before after differ read was. applied one other stated differ read schedule start operation report before after was;
  failed = λ one other stated schedule start operation fault before after differ read was. failed one other stated differ read schedule start operation fault before after was;
}
