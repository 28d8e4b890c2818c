use Rattle.std.proofs.Common.{◌≡◌, ◌∙◌, ap, codes, true}
use Rattle.clap.specs.Simple.{App, app_of, app_of_fields, new_app, on_top}
use Rattle.stream_record_cli.proofs.command.arguments.command_of.Goals as goal

-- the command without its options; its words are those after `record`
abbrev no_options : App
no_options = on_top (λ shape. record shape { no_binary_name = true }) (new_app (codes "applystream record"))

pub returns : goal.returns
returns c is_begins begins_alone is_only only_alone =
    let none : app_of c.after_help.result ≡ no_options =
    ap app_of_fields c.after_help.ensures ∙ ap app_of_fields c.about.ensures ∙ ap app_of_fields c.no_binary_name.ensures
    ∙ ap (on_top (λ shape. record shape { no_binary_name = true })) c.new.ensures.app in
    let plan = c.with_option-line.ensures no_options _ none c.plan.ensures.0 c.plan.ensures.1 in
    let graph = c.with_option-line-2.ensures _ _ plan c.graph.ensures.0 c.graph.ensures.1 in
    let begins = c.with_option-line-3.ensures _ _ graph is_begins begins_alone in
    let lanes = c.with_option-line-4.ensures _ _ begins c.lanes.ensures.0 c.lanes.ensures.1 in
    let only = c.with_option-line-5.ensures _ _ lanes is_only only_alone in
    let find = c.with_option-line-6.ensures _ _ only c.flag.ensures.0 c.flag.ensures.1 in
    let run = c.with_option-line-7.ensures _ _ find c.run_option.ensures.0 c.run_option.ensures.1 in
    c.with_option.ensures _ _ run c.stream.ensures.0 c.stream.ensures.1
