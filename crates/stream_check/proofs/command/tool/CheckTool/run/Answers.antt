use Rattle.stream_check.proofs.Statuses.{quiet_by, status_most}
use Rattle.stream_check.proofs.command.tool.CheckTool.run.Goals as goal

pub returns : goal.returns
returns g c =
    let answer = c.check_and_keep-answer.result in
    record {
      gives = record { judged = c.check_and_keep-answer.ensures.judged; exit = c.exit_status.ensures };
      quiet = λ quiet. quiet_by answer.verdict answer.reported c.check_and_keep-answer.ensures.silent (rw c.exit_status.ensures at quiet);
      statuses = rw c.exit_status.ensures (status_most answer.verdict answer.reported);
    }
