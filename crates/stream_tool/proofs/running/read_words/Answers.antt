use Rattle.std.proofs.Common.{ap, map, refl, string_bytes, subst, sym, ◌∙◌}
use Rattle.clap.specs.Matches.{found_of}
use Rattle.clap.specs.Simple.{app_of}
use Rattle.clap.specs.Walk.{rows_of}
use Rattle.stream_tool.proofs.Refusing.{conflict_refuses, parser_refuses}
use Rattle.stream_tool.proofs.running.read_words.Goals as goal

pub returns-in-None-clause-stated : goal.returns-in-None-clause-stated
returns-in-None-clause-stated g c =
    let app = app_of c.in_ok-command.command in
    let accepted = c.in-Ok.ensures.stated app refl c.in_ok-command.ensures.simple c.in_ok-command.ensures.free in
    record {
      app = app;
      is_command = c.in_ok-command.ensures.is;
      accepted = accepted.0;
      apart = ap g.T.Tool.arguments.are_conflicting (sym accepted.1) ∙ c.in-None.ensures;
      stated = subst (λ rows. g.T.Tool.arguments.AreStated rows c.in_ok-settings_of-in-None.field-0) accepted.1 c.in_ok-settings_of-in-None.ensures;
    }

pub returns-in-Ok-clause-refused : goal.returns-in-Ok-clause-refused
returns-in-Ok-clause-refused g c =
    let app = app_of c.in_ok-command.command in
    conflict_refuses g.T.Tool.arguments (map string_bytes c.args.words.now) app (rows_of (found_of c.in-Ok.matches)) c.in-Some.usage c.in_ok-command.ensures.is
    (c.in-Ok.ensures.stated app refl c.in_ok-command.ensures.simple c.in_ok-command.ensures.free) c.in-Some.ensures.0 c.in-Some.ensures.1

pub returns-clause-refused : goal.returns-clause-refused
returns-clause-refused g c =
    let app = app_of c.in_ok-command.command in
    parser_refuses g.T.Tool.arguments (map string_bytes c.args.words.now) app c.in-Err.usage c.in_ok-command.ensures.is
    (c.in-Err.ensures.refused app refl c.in_ok-command.ensures.free)
