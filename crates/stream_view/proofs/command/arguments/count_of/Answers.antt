use Rattle.std.proofs.Common.{◌≡◌, ◌∙◌, ap, arith, codes}
use Rattle.std.specs.Prelude.{max, min, unwrap_or}
use Rattle.std.specs.Str.Parse.{ExplainsUnsignedError, HasUnsignedDigitsIfOk, ParsesUnsigned}
use Rattle.clap.specs.Matches.{found_of}
use Rattle.clap.specs.Walk.{one_of, rows_of}
use Rattle.clap.proofs.WalkLemmas.{one_text-rows}
use Rattle.stream_view.specs.CommandLine.{rows_of_form}
use Rattle.stream_view.specs.declared.command.settings.Form.{Form}
use Rattle.stream_view.specs.declared.command.settings.Form.TheVariants as form
use Rattle.stream_view.proofs.Options.{number_is}
use Rattle.stream_view.proofs.command.arguments.count_of.Goals as goal

within : (asked : Form) → max 1 (min (rows_of_form asked) 100000) ≡ rows_of_form asked
within (form.Text width colour) = omega arith
within form.Svg = omega arith
within form.Json = omega arith
within form.Markdown = omega arith

pub returns-clause-stated : goal.returns-clause-stated
returns-clause-stated c =
    let listed = found_of c.args.matches.now in
    number_is _ (λ text read. ParsesUnsigned 32 10 text read × ExplainsUnsignedError 10 text read × HasUnsignedDigitsIfOk text read)
    1 100000 c.rows_in.result c.get_one.result c.clamp.result (one_of (codes "rows") (rows_of listed)) (λ text read gives. gives.0) (omega arith)
    (λ text is. c.get_one.ensures.value text (one_text-rows listed (codes "rows") ∙ is))
    (c.clamp.ensures ∙ ap (λ n. max 1 (min n 100000)) c.unwrap_or.ensures)

pub returns-clause-none : goal.returns-clause-none
returns-clause-none c absent =
    let read = c.get_one.ensures.none (one_text-rows (found_of c.args.matches.now) (codes "rows") ∙ absent) in
    c.clamp.ensures ∙ ap (λ n. max 1 (min n 100000)) (c.unwrap_or.ensures ∙ ap (λ o. unwrap_or o c.rows_in.result) read ∙ c.rows_in.ensures)
    ∙ within c.args.form
