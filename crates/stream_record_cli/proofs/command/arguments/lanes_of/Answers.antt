use Rattle.std.proofs.Common.{◌∙◌, ap, codes}
use Rattle.std.specs.Prelude.{max, min}
use Rattle.std.specs.Str.Parse.{ExplainsUnsignedError, HasUnsignedDigitsIfOk, ParsesUnsigned}
use Rattle.clap.specs.Matches.{found_of}
use Rattle.clap.specs.Walk.{one_of, rows_of}
use Rattle.clap.proofs.WalkLemmas.{one_text-rows}
use Rattle.stream_record_cli.proofs.Lanes.{lanes_are}
use Rattle.stream_record_cli.proofs.command.arguments.lanes_of.Goals as goal

pub returns : goal.returns
returns c =
    let found = found_of c.args.matches.now in
    lanes_are _ (λ text read. ParsesUnsigned 8 10 text read × ExplainsUnsignedError 10 text read × HasUnsignedDigitsIfOk text read)
    c.get_one.result c.clamp.result (one_of (codes "parallelism") (rows_of found)) (λ text read gives. gives.0)
    (λ text is. c.get_one.ensures.value text (one_text-rows found (codes "parallelism") ∙ is))
    (c.clamp.ensures ∙ ap (λ n. max 1 (min n 64)) c.unwrap_or.ensures)
