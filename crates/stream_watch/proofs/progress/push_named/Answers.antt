use Rattle.std.proofs.Common.{ℤ, ℕ, List, ap, map, sym, w64, ◌∙◌, ◌++◌}
use Rattle.std.specs.List.{flat_map}
use Rattle.std.proofs.lemmas.Int.{to_z-of_z}
use Rattle.std.proofs.lemmas.List.Folds.{flat_map-map}
use Rattle.term_words.proofs.Appended.{text_as, text_then}
use Rattle.stream_watch.specs.Progress.{named_words, other_step_words, running_words}
use Rattle.stream_watch.specs.Steps.{step_view}
use Rattle.stream_watch.proofs.progress.push_named.Goals as goal

pub returns-in-Some : goal.returns-in-Some
returns-in-Some c =
    let now = c.args.now in
    let now_is = to_z-of_z w64 now c.ranges.now in
    let first = c.in-Some.first.now in
    let rest = c.in-Some.rest.now in
    let running = running_words now (step_view first) in
    let others = flat_map (λ step. other_step_words now (step_view step)) rest in
    let one = text_as c.args.text.now c.push_running.new.text _ running (ap (λ (n : ℤ). running_words n (step_view first)) now_is) c.push_running.ensures in
    let more = text_as c.push_running.new.text c.push_others.new.text _ others
    (ap (λ (n : ℤ). flat_map (λ step. other_step_words n (step_view step)) rest) now_is) c.push_others.ensures in
    text_as c.args.text.now c.push_others.new.text _ _
    (ap (λ (ws : List ℕ). running ++ ws) (sym (flat_map-map (other_step_words now) step_view rest))
    ∙ sym (ap (λ steps. named_words now (map step_view steps)) c.in-Some.ensures.cases.0))
    (text_then c.args.text.now c.push_running.new.text c.push_others.new.text running others one more)
