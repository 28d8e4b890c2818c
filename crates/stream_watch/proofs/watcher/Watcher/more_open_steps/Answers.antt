use Rattle.std.proofs.Common.{◌≡◌, ℕ, ap, arith, length, sym, ◌∙◌, ◌-◌}
use Rattle.std.specs.Prelude.{vec_len}
use Rattle.std.proofs.lemmas.List.{length-map}
use Rattle.stream_watch.specs.Ending.{more_told}
use Rattle.stream_watch.specs.State.{looks_of, state_of}
use Rattle.stream_watch.specs.Steps.{step_view}
use Rattle.stream_watch.proofs.Tellings.{tells_as}
use Rattle.stream_watch.proofs.watcher.Watcher.more_open_steps.Goals as goal

pub returns : goal.returns
returns c =
    let before = c.args.self.now in
    let list = before.steps.list in
    let len : vec_len list ≡ length list.items = omega (arith, list.ok.0) in
    let count : c.saturating_sub-count.result ≡ length (state_of before).steps - 20 =
    c.saturating_sub-count.ensures ∙ ap (λ (n : ℕ). n - 20) (c.len.ensures ∙ len ∙ sym (length-map list.items step_view)) in
    tells_as before c.more_steps.new.self _ _ (ap (λ (n : ℕ). more_told n (looks_of before) (state_of before)) count) c.more_steps.ensures
