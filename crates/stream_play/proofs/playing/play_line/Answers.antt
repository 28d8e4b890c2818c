use Rattle.std.proofs.Common.{List, ℕ, subst, ◌∙◌}
use Rattle.stream_play.specs.Played.{IsLineWritten}
use Rattle.stream_play.proofs.playing.play_line.Goals as goal

pub returns-in-Ok : goal.returns-in-Ok
returns-in-Ok g c =
    subst (λ (bytes : List ℕ). IsLineWritten bytes (g.W.Write.contents c.args.output.now) (g.W.Write.contents c.write_when_due.new.output) c.write_when_due.result)
    (c.deref.ensures.value ∙ c.in-Ok.ensures) c.write_when_due.ensures
