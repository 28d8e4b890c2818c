use Rattle.std.proofs.Common.{◌∙◌, ℕ, ◌++◌, List, ap, ap₂, codes}
use Rattle.std.specs.List.{count_by}
use Rattle.stream_timeline.specs.Steps.{StepRead}
use Rattle.stream_view.specs.Heading.{is_not_ended, uncompleted_words, words_if_any}
use Rattle.term_words.proofs.Appended.{text_as, text_then}
use Rattle.stream_view.proofs.captions.heading.push_uncompleted.Goals as goal

pub returns : goal.returns
returns c =
    let s1 = text_then c.args.text.now c.push_if_any.new.text c.push_if_any-2.new.text _ _ c.push_if_any.ensures c.push_if_any-2.ensures in
    let steps = c.args.picture.now.timeline.now.steps in
    let words : ℕ → ℕ → List ℕ = λ failed unended. words_if_any failed (codes "failed") ++ words_if_any unended (codes "not ended") in
    text_as c.args.text.now c.push_if_any-2.new.text (words c.failed_count.result c.open_count.result) (uncompleted_words steps)
    (ap₂ words (c.failed_count.ensures ∙ ap (count_by (λ (step : StepRead). step.failed)) c.steps-steps.ensures)
    (c.open_count.ensures ∙ ap (count_by is_not_ended) c.steps-steps.ensures)) s1
