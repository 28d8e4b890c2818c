use Rattle.std.proofs.Common.{◌∙◌, codes}
use Rattle.std.specs.Str.Parse.{ExplainsUnsignedError, HasUnsignedDigitsIfOk, ParsesUnsigned}
use Rattle.clap.specs.Matches.{found_of}
use Rattle.clap.specs.Walk.{one_of, rows_of}
use Rattle.clap.proofs.WalkLemmas.{one_text-rows}
use Rattle.stream_watch_cli.proofs.Parsed.{width_missing, width_read}
use Rattle.stream_watch_cli.proofs.command.arguments.width_of.Goals as goal

pub returns-in-Some-clause-stated : goal.returns-in-Some-clause-stated
returns-in-Some-clause-stated c =
    let listed = found_of c.args.matches.now in
    width_read _ (λ text read. ParsesUnsigned 32 10 text read × ExplainsUnsignedError 10 text read × HasUnsignedDigitsIfOk text read)
    c.in-Some.width c.clamp.result (one_of (codes "width") (rows_of listed)) (λ text read gives. gives.0)
    (λ text is. c.in-Some.ensures.value text (one_text-rows listed (codes "width") ∙ is)) c.clamp.ensures

pub returns-in-Some-clause-none : goal.returns-in-Some-clause-none
returns-in-Some-clause-none c absent =
    let read = c.in-Some.ensures.none (one_text-rows (found_of c.args.matches.now) (codes "width") ∙ absent) in absurd cc

pub returns-in-None-clause-stated : goal.returns-in-None-clause-stated
returns-in-None-clause-stated c =
    let listed = found_of c.args.matches.now in
    width_missing _ (λ text read. ParsesUnsigned 32 10 text read × ExplainsUnsignedError 10 text read × HasUnsignedDigitsIfOk text read)
    (one_of (codes "width") (rows_of listed)) (λ text read gives. gives.0)
    (λ text is. c.in-None.ensures.value text (one_text-rows listed (codes "width") ∙ is))
