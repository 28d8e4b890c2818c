use Rattle.std.proofs.Common.{◌≡◌, ◌∙◌, ap, codes, true}
use Rattle.clap.specs.Simple.{App, app_of, app_of_fields, new_app, on_top}
use Rattle.stream_play.proofs.command.arguments.command.Goals as goal

-- the command before its options are added
abbrev no_options : App
no_options = on_top (λ shape. record shape { no_binary_name = true }) (new_app (codes "applystream play"))

pub returns : goal.returns
returns c =
    let none : app_of c.after_help.result ≡ no_options =
    ap app_of_fields c.after_help.ensures ∙ ap app_of_fields c.about.ensures ∙ ap app_of_fields c.no_binary_name.ensures
    ∙ ap (on_top (λ shape. record shape { no_binary_name = true })) c.new.ensures.app in
    let speed = c.with_option-line.ensures no_options _ none c.speed.ensures.0 c.speed.ensures.1 in
    let find = c.with_option-line-2.ensures _ _ speed c.flag.ensures.0 c.flag.ensures.1 in
    let run = c.with_option-line-3.ensures _ _ find c.run_option.ensures.0 c.run_option.ensures.1 in
    c.with_option.ensures _ _ run c.file.ensures.0 c.file.ensures.1
