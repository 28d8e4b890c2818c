use Rattle.std.proofs.Common.{◌≡◌, ◌∙◌, ap, codes, true}
use Rattle.clap.specs.Faults.{is_simple_and_free}
use Rattle.clap.specs.Simple.{App, app_of, app_of_fields, is_simple, new_app, on_top}
use Rattle.stream_watch_cli.specs.CommandLine.{IsCommand, command_line}
use Rattle.stream_watch_cli.proofs.Parsed.{command_is_free, command_is_simple, then_made}
use Rattle.stream_watch_cli.proofs.command.arguments.command.Goals as goal

-- the command before its options
abbrev no_options : App
no_options = on_top (λ shape. record shape { no_binary_name = true }) (new_app (codes "applystream watch"))

pub returns-clause-is : goal.returns-clause-is
returns-clause-is c =
    let none : app_of c.after_help.result ≡ no_options =
    ap app_of_fields c.after_help.ensures ∙ ap app_of_fields c.about.ensures ∙ ap app_of_fields c.no_binary_name.ensures
    ∙ ap (on_top (λ shape. record shape { no_binary_name = true })) c.new.ensures.app in
    let find = c.with_option-line.ensures no_options _ none c.flag.ensures.0 c.flag.ensures.1 in
    let plan = c.with_option-line-2.ensures _ _ find c.flag-2.ensures.0 c.flag-2.ensures.1 in
    let width = c.with_option-line-3.ensures _ _ plan c.width.ensures.0 c.width.ensures.1 in
    let colours = c.color.ensures in
    let panels = c.panel.ensures in
    let color = c.with_option-line-4.ensures _ _ width colours.2 colours.3 in
    let panel = c.with_option-line-5.ensures _ _ color panels.2 panels.3 in
    then_made (λ made. app_of made ≡ command_line colours.0 panels.0) (λ made. IsCommand (app_of made)) c.with_option.result
    (λ made is. (colours.0, panels.0, colours.1, panels.1, is))
    (c.with_option.ensures _ _ panel c.file.ensures.0 c.file.ensures.1)

pub returns-clause-simple : goal.returns-clause-simple
returns-clause-simple c =
    then_made (λ made. IsCommand (app_of made)) (λ made. is_simple (app_of made) ≡ true) c.with_option.result
    (λ made is. command_is_simple (app_of made) is) (returns-clause-is c)

pub returns-clause-free : goal.returns-clause-free
returns-clause-free c =
    then_made (λ made. IsCommand (app_of made)) (λ made. is_simple_and_free (app_of made) ≡ true) c.with_option.result
    (λ made is. command_is_free (app_of made) is) (returns-clause-is c)
