use Rattle.laws_run.proofs.SecretRuns.{same_bytes}
use Rattle.laws_run.proofs.sensitive.no_byte_in_lanes_depends_on_a_sensitive_value.Goals as goal

pub returns : goal.returns
returns c one other lanes start operation first second bytes before after same differ known was also =
    same_bytes c.time_lines_are_unique.ensures one other lanes start operation first second bytes before after same differ known was also
