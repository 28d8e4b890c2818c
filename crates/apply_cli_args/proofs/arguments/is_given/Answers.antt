use Rattle.std.proofs.Common.{◌∙◌, ap, sym, Some}
use Rattle.clap.specs.Matches.{found_of}
use Rattle.apply_cli_args.specs.Given.{is_of_words}
use Rattle.apply_cli_args.proofs.Options.{source-rows}
use Rattle.apply_cli_args.proofs.arguments.is_given.Goals as goal

pub returns-in-Some-CommandLine : goal.returns-in-Some-CommandLine
returns-in-Some-CommandLine c =
    ap is_of_words (ap Some (sym c.in-Some-CommandLine.field-0-is) ∙ c.in-Some-CommandLine.ensures ∙ source-rows (found_of c.args.matches.now) c.args.option.now)

pub returns-in-Some-DefaultValue : goal.returns-in-Some-DefaultValue
returns-in-Some-DefaultValue c =
    ap is_of_words (ap Some (sym c.in-Some-DefaultValue.field-0-is) ∙ c.in-Some-DefaultValue.ensures ∙ source-rows (found_of c.args.matches.now) c.args.option.now)

pub returns-in-None : goal.returns-in-None
returns-in-None c =
    ap is_of_words (c.in-None.ensures ∙ source-rows (found_of c.args.matches.now) c.args.option.now)
