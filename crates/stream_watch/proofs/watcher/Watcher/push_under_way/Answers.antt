use Rattle.std.proofs.Common.{◌≡◌, ℤ, ℕ, SFits, ap, codes, length, map, rules, sym, take, w64, ◌∙◌, ◌++◌, ◌-◌}
use Rattle.std.proofs.lemmas.Int.{to_z-of_z}
use Rattle.std.proofs.lemmas.List.{length-map}
use Rattle.term_words.proofs.Appended.{text_as, text_more}
use Rattle.stream_watch.specs.Progress.{more_steps_words, named_words, state_words, under_way_words}
use Rattle.stream_watch.specs.State.{state_of}
use Rattle.stream_watch.specs.Steps.{step_view}
use Rattle.stream_watch.proofs.watcher.Watcher.push_under_way.Goals as goal

pub returns : goal.returns
unfolding under_way_words
returns c = λ empty.
    let state = state_of c.args.self.now in
    let now = state.clock.now in
    let fits : SFits w64 now = search rules in
    let t0 = c.push_state.new.text in
    let t1 = c.text.new.self in
    let t2 = c.push_named.new.text in
    let t3 = c.push_more.new.text in
    let names = named_words now (take 3 state.steps) in
    let more = more_steps_words (length state.steps - 3) in
    let first = c.first_steps.ensures ∙ ap (λ steps. take 3 (map step_view steps)) c.as_slice-steps.ensures.value in
    let named = text_as t1 t2 _ names
    (ap (λ (n : ℤ). named_words n (map step_view c.first_steps.result.now)) (to_z-of_z w64 now fits) ∙ ap (named_words now) first) c.push_named.ensures in
    let count : c.saturating_sub.result ≡ length state.steps - 3 =
    c.saturating_sub.ensures ∙ ap (λ (n : ℕ). n - 3) (ap length c.as_slice-steps.ensures.value ∙ sym (length-map c.args.self.now.steps.list.items step_view)) in
    let rest = text_as t2 t3 (more_steps_words c.saturating_sub.result) more (ap more_steps_words count) c.push_more.ensures in
    let had = text_more t0 t1 (state_words state) (codes ": ") (c.push_state.ensures empty) c.text.ensures in
    let have = text_more t1 t2 (state_words state ++ codes ": ") names had named in
    text_more t2 t3 (state_words state ++ codes ": " ++ names) more have rest
