use Rattle.std.proofs.Common.{◌≡◌, ◌∙◌, ap, codes, true}
use Rattle.std.proofs.lemmas.Result.{IfOk-weaker}
use Rattle.clap.specs.Faults.{is_simple_and_free}
use Rattle.clap.specs.Simple.{App, app_of, app_of_fields, is_simple, new_app, on_top}
use Rattle.input_validate_cli.specs.CommandLine.{Choices}
use Rattle.input_validate_cli.proofs.CommandLine.{line_is_free, line_is_simple}
use Rattle.input_validate_cli.proofs.command.arguments.command.Goals as goal

-- the command without its options; its words are those after `validate`
abbrev no_options : App
no_options = on_top (λ shape. record shape { no_binary_name = true }) (new_app (codes "applystream validate"))

pub returns-clause-is : goal.returns-clause-is
returns-clause-is c =
    let none : app_of c.after_help.result ≡ no_options =
    ap app_of_fields c.after_help.ensures ∙ ap app_of_fields c.about.ensures ∙ ap app_of_fields c.no_binary_name.ensures
    ∙ ap (on_top (λ shape. record shape { no_binary_name = true })) c.new.ensures.app in
    let script = c.with_option-line.ensures no_options _ none c.script.ensures.0 c.script.ensures.1 in
    let parallelism = c.with_option-line-2.ensures _ _ script c.parallelism.ensures.0 c.parallelism.ensures.1 in
    let forms = c.form.ensures in
    let commands = c.command_option.ensures in
    let refreshes = c.refresh_option.ensures in
    let with_form = c.with_option-line-3.ensures _ _ parallelism forms.2 forms.3 in
    let with_command = c.with_option-line-4.ensures _ _ with_form commands.2 commands.3 in
    let choices : Choices = record { forms = forms.0; commands = commands.0; refreshes = refreshes.0 } in
    IfOk-weaker c.with_option.result _ _
    (λ command is. (choices, record { forms = forms.1; commands = commands.1; refreshes = refreshes.1 }, is))
    (c.with_option.ensures _ _ with_command refreshes.2 refreshes.3)

pub returns-clause-simple : goal.returns-clause-simple
returns-clause-simple c = IfOk-weaker c.with_option.result _ _ (λ command is. ap is_simple is.2 ∙ line_is_simple is.0) (returns-clause-is c)

pub returns-clause-free : goal.returns-clause-free
returns-clause-free c = IfOk-weaker c.with_option.result _ _ (λ command is. ap is_simple_and_free is.2 ∙ line_is_free is.0) (returns-clause-is c)
