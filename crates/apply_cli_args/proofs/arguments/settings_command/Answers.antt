use Rattle.std.proofs.Common.{◌≡◌, ◌∙◌, ap, codes, true}
use Rattle.clap.specs.Simple.{App, app_of, app_of_fields, new_app, on_top}
use Rattle.apply_cli_args.proofs.arguments.settings_command.Goals as goal

-- the command before its options: its arguments are those after the program's name, and it has a
-- version
abbrev no_options : App
no_options = on_top (λ shape. record shape { no_binary_name = true; has_version = true }) (new_app (codes "applystream"))

pub returns : goal.returns
returns c =
    let none : app_of c.after_help.result ≡ no_options =
    ap app_of_fields c.after_help.ensures ∙ ap app_of_fields c.version.ensures
    ∙ ap (on_top (λ shape. record shape { has_version = true })) (ap app_of_fields c.about.ensures ∙ ap app_of_fields c.no_binary_name.ensures
    ∙ ap (on_top (λ shape. record shape { no_binary_name = true })) c.new.ensures.app) in
    let at = c.add-line.ensures no_options _ none c.at.ensures.0 c.at.ensures.1 in
    let script = c.add-line-2.ensures _ _ at c.script.ensures.0 c.script.ensures.1 in
    let workers = c.add-line-3.ensures _ _ script c.workers.ensures.0 c.workers.ensures.1 in
    let queue = c.add-line-4.ensures _ _ workers c.queue.ensures.0 c.queue.ensures.1 in
    let destroy = c.add-line-5.ensures _ _ queue c.destroy.ensures.0 c.destroy.ensures.1 in
    let kinds = c.halt_before.ensures in
    let before = c.add-line-6.ensures _ _ destroy kinds.2 kinds.3 in
    (kinds.0, kinds.1, c.add.ensures _ _ before c.halt_in.ensures.0 c.halt_in.ensures.1)
