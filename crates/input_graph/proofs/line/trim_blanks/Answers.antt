use Rattle.std.proofs.Common.{◌∙◌, ap}
use Rattle.std.proofs.lemmas.Str.Ascii.{trim_ascii_end_is}
use Rattle.input_graph.specs.Lines.{trim_blanks_end}
use Rattle.input_graph.proofs.line.trim_blanks.Goals as goal

pub returns : goal.returns
returns c =
    trim_ascii_end_is c.skip_blanks.result.now c.trim_ascii_end.result.now c.trim_ascii_end.ensures.value
    ∙ ap trim_blanks_end c.skip_blanks.ensures
