use Rattle.std.proofs.Common.{ℕ, List, ap, ◌∙◌}
use Rattle.stream_watch.specs.State.{looks_of, state_of}
use Rattle.stream_watch.specs.Telling.{passed_text_told}
use Rattle.stream_watch.proofs.Tellings.{tells_as}
use Rattle.stream_watch.proofs.watcher.Watcher.passed.Goals as goal

pub returns : goal.returns
returns c =
    let before = c.args.self.now in
    tells_as before c.passed_text.new.self _ _
    (ap (λ (text : List ℕ). passed_text_told (looks_of before) text (state_of before)) (c.as_str.ensures.value ∙ c.in_ok-text.ensures)) c.passed_text.ensures
