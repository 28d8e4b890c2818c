use Rattle.std.proofs.Common.{inl, refl}
use Rattle.stream_view.proofs.DrawnStreams.{memory_drawn}
use Rattle.stream_view.proofs.command.tool.ViewTool.without_memory.Goals as goal

pub returns-clause-gives : goal.returns-clause-gives
returns-clause-gives g c = λ settings given before after keeps. record {
  drawn = keeps;
  stream = memory_drawn settings.run settings.find given settings.rows settings.form c.args.self.now.is_colour_wanted before after keeps;
  runs = tt;
  reported = inl refl;
}
