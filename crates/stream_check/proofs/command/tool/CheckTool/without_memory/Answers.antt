use Rattle.std.proofs.Common.{Err, Ok, refl}
use Rattle.stream_check.specs.declared.verdict.read_fault.ReadFault.TheVariants as read
use Rattle.stream_check.proofs.Statuses.{fault_silent, input_unread, not_gone, quiet_by}
use Rattle.stream_check.proofs.command.tool.CheckTool.without_memory.Goals as goal

pub returns : goal.returns
returns g c = record {
  reported = quiet_by (Err read.Memory) (Ok tt) (fault_silent read.Memory (Ok tt) (not_gone (Ok tt) tt));
  gives = λ settings given before after keeps. record { judged = input_unread settings.write settings given before after keeps; exit = refl };
}
