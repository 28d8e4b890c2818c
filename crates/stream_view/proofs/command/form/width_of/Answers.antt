use Rattle.std.proofs.Common.{◌∙◌, ap, arith, codes}
use Rattle.std.specs.Prelude.{max, min}
use Rattle.std.specs.Str.Parse.{ExplainsUnsignedError, HasUnsignedDigitsIfOk, ParsesUnsigned}
use Rattle.clap.specs.Matches.{found_of}
use Rattle.clap.specs.Walk.{one_of, rows_of}
use Rattle.clap.proofs.WalkLemmas.{one_text-rows}
use Rattle.stream_view.proofs.Options.{number_is}
use Rattle.stream_view.proofs.command.form.width_of.Goals as goal

pub returns : goal.returns
returns c =
    let listed = found_of c.args.matches.now in
    number_is _ (λ text read. ParsesUnsigned 32 10 text read × ExplainsUnsignedError 10 text read × HasUnsignedDigitsIfOk text read)
    60 400 120 c.get_one.result c.clamp.result (one_of (codes "width") (rows_of listed)) (λ text read gives. gives.0) (omega arith)
    (λ text is. c.get_one.ensures.value text (one_text-rows listed (codes "width") ∙ is))
    (c.clamp.ensures ∙ ap (λ n. max 60 (min n 400)) c.unwrap_or.ensures)
