use Rattle.std.proofs.Common.{◌∙◌, ap, codes}
use Rattle.std.specs.Prelude.{max, min}
use Rattle.std.specs.Str.Parse.{ExplainsUnsignedError, HasUnsignedDigitsIfOk, ParsesUnsigned}
use Rattle.clap.specs.Matches.{found_of}
use Rattle.clap.specs.Walk.{one_of, rows_of}
use Rattle.clap.proofs.WalkLemmas.{one_text-rows}
use Rattle.stream_play.specs.Due.{most_speed}
use Rattle.stream_play.proofs.Speeds.{speed_is}
use Rattle.stream_play.proofs.command.arguments.speed_of.Goals as goal

pub returns : goal.returns
returns c =
    let found = found_of c.args.matches.now in
    speed_is (λ text read. ParsesUnsigned 32 10 text read × ExplainsUnsignedError 10 text read × HasUnsignedDigitsIfOk text read)
    c.get_one.result c.new.result (one_of (codes "speed") (rows_of found)) (λ text read gives. gives.0)
    (λ text is. c.get_one.ensures.value text (one_text-rows found (codes "speed") ∙ is))
    (c.new.ensures ∙ ap (λ n. max 1 (min n most_speed)) c.unwrap_or.ensures)
