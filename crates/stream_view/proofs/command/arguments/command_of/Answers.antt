use Rattle.std.proofs.Common.{◌≡◌, ◌∙◌, ap, codes, true}
use Rattle.clap.specs.Simple.{App, app_of, app_of_fields, new_app, on_top}
use Rattle.stream_view.specs.CommandLine.{IsCommand, command_line}
use Rattle.stream_view.proofs.Parsed.{then_made}
use Rattle.stream_view.proofs.command.arguments.command_of.Goals as goal

-- the command before its options
abbrev no_options : App
no_options = on_top (λ shape. record shape { no_binary_name = true }) (new_app (codes "applystream view"))

pub returns : goal.returns
returns c is_svg svg_alone is_json json_alone is_markdown markdown_alone is_all all_alone =
    let none : app_of c.after_help.result ≡ no_options =
    ap app_of_fields c.after_help.ensures ∙ ap app_of_fields c.about.ensures ∙ ap app_of_fields c.no_binary_name.ensures
    ∙ ap (on_top (λ shape. record shape { no_binary_name = true })) c.new.ensures.app in
    let svg = c.with_option-line.ensures no_options _ none is_svg svg_alone in
    let json = c.with_option-line-2.ensures _ _ svg is_json json_alone in
    let markdown = c.with_option-line-3.ensures _ _ json is_markdown markdown_alone in
    let rows = c.with_option-line-4.ensures _ _ markdown c.rows.ensures.0 c.rows.ensures.1 in
    let all = c.with_option-line-5.ensures _ _ rows is_all all_alone in
    let sorts = c.sort.ensures in
    let sort = c.with_option-line-6.ensures _ _ all sorts.2 sorts.3 in
    let width = c.with_option-line-7.ensures _ _ sort c.width.ensures.0 c.width.ensures.1 in
    let colours = c.color.ensures in
    let color = c.with_option-line-8.ensures _ _ width colours.2 colours.3 in
    let find = c.with_option-line-9.ensures _ _ color c.flag.ensures.0 c.flag.ensures.1 in
    let run = c.with_option-line-10.ensures _ _ find c.run_option.ensures.0 c.run_option.ensures.1 in
    then_made (λ made. app_of made ≡ command_line colours.0 sorts.0) (λ made. IsCommand (app_of made)) c.with_option.result
    (λ made is. (colours.0, sorts.0, colours.1, sorts.1, is))
    (c.with_option.ensures _ _ run c.file.ensures.0 c.file.ensures.1)
