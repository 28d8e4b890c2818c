use Rattle.std.proofs.Common.{◌≡◌, ◌∙◌, ap, codes, true}
use Rattle.clap.specs.Simple.{App, app_of, app_of_fields, new_app, on_top}
use Rattle.stream_check.proofs.command.arguments.command_of.Goals as goal

-- the command before its options are added
abbrev no_options : App
no_options = on_top (λ shape. record shape { no_binary_name = true }) (new_app (codes "applystream check"))

pub returns : goal.returns
returns c is flat =
    let none : app_of c.after_help.result ≡ no_options =
    ap app_of_fields c.after_help.ensures ∙ ap app_of_fields c.about.ensures ∙ ap app_of_fields c.no_binary_name.ensures
    ∙ ap (on_top (λ shape. record shape { no_binary_name = true })) c.new.ensures.app in
    let json = c.with_option-line.ensures no_options _ none c.flag.ensures.0 c.flag.ensures.1 in
    let find = c.with_option-line-2.ensures _ _ json c.flag-2.ensures.0 c.flag-2.ensures.1 in
    let write = c.with_option-line-3.ensures _ _ find is flat in
    let plan = c.with_option-line-4.ensures _ _ write c.flag-3.ensures.0 c.flag-3.ensures.1 in
    let run = c.with_option-line-5.ensures _ _ plan c.run_option.ensures.0 c.run_option.ensures.1 in
    c.with_option.ensures _ _ run c.file.ensures.0 c.file.ensures.1
