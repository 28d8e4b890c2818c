use Rattle.std.proofs.Common.{ap, refl, subst, sym, ◌∙◌}
use Rattle.std.specs.Prelude.{IsSome}
use Rattle.std.specs.Option.{option_copied}
use Rattle.stream_tool.proofs.Refusing.{not_opened}
use Rattle.stream_tool.proofs.running.run_settings.Goals as goal

pub returns-in-Err-clause-ended : goal.returns-in-Err-clause-ended
returns-in-Err-clause-ended g c = λ words stated none.
    not_opened g.T.Tool.arguments c.args.settings.now c.in-Some.name words (g.W.Write.contents c.args.out.now) c.refuse_file-status.result stated
    (subst IsSome (sym (ap option_copied c.in-Some.is) ∙ c.file.ensures) refl) c.refuse_file-status.ensures
