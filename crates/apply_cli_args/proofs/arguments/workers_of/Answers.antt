use Rattle.std.proofs.Common.{◌∙◌, ap, arith, codes}
use Rattle.std.specs.Prelude.{max, min}
use Rattle.std.specs.Str.Parse.{ExplainsUnsignedError, HasUnsignedDigitsIfOk, ParsesUnsigned}
use Rattle.clap.specs.Matches.{found_of}
use Rattle.clap.specs.Walk.{one_of, rows_of}
use Rattle.clap.proofs.WalkLemmas.{one_text-rows}
use Rattle.apply_cli_args.proofs.Options.{number_is}
use Rattle.apply_cli_args.proofs.arguments.workers_of.Goals as goal

pub returns-clause-stated : goal.returns-clause-stated
returns-clause-stated c =
    let matched = found_of c.args.matches.now in
    number_is _ (λ text read. ParsesUnsigned 8 10 text read × ExplainsUnsignedError 10 text read × HasUnsignedDigitsIfOk text read)
    8 8 1 c.get_one.result c.clamp.result (one_of (codes "workers") (rows_of matched)) (λ text read gives. gives.0) (omega arith)
    (λ text is. c.get_one.ensures.value text (one_text-rows matched (codes "workers") ∙ is))
    (c.clamp.ensures ∙ ap (λ n. max 1 (min n 8)) c.unwrap_or.ensures)
