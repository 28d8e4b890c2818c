use Rattle.std.proofs.lemmas.Result.{IfOk-weaker}
use Rattle.stream_check.proofs.Parsed.{is_free_by, is_simple_by}
use Rattle.stream_check.proofs.command.tool.CheckTool.command.Goals as goal

pub returns : goal.returns
returns c = record {
  is = c.command.ensures;
  simple = IfOk-weaker c.command.result _ _ (λ command is. is_simple_by _ is) c.command.ensures;
  free = IfOk-weaker c.command.result _ _ (λ command is. is_free_by _ is) c.command.ensures;
}
