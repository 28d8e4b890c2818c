use Rattle.std.proofs.Common.{ap, codes, ◌∙◌, ◌++◌}
use Rattle.term_text.specs.Shown.{shown_text}
use Rattle.term_words.proofs.Appended.{text_all, text_as, text_then}
use Rattle.term_words.specs.MessageTexts.{fitted_text}
use Rattle.stream_watch.specs.Progress.{short_step}
use Rattle.stream_watch.specs.Steps.{step_view}
use Rattle.stream_watch.proofs.progress.push_short_step.Goals as goal

pub returns : goal.returns
unfolding short_step
returns c =
    let step = step_view c.args.step.now in
    let address = text_all c.new-address.result c.text.new.self step.address c.new-address.ensures
    (text_as c.new-address.result c.text.new.self c.as_str.result.now step.address c.as_str.ensures.value c.text.ensures) in
    let shown = shown_text step.action in
    let action = text_as c.args.text.now c.escaped.new.self (shown_text c.as_bytes.result.now) shown
    (ap shown_text (c.as_bytes.ensures.value ∙ c.as_str-2.ensures.value)) c.escaped.ensures in
    let front = text_then c.args.text.now c.escaped.new.self c.text-2.new.self shown (codes " ") action c.text-2.ensures in
    text_then c.args.text.now c.text-2.new.self c.add_within.new.self (shown ++ codes " ") (fitted_text 40 step.address) front
    (c.add_within.ensures step.address address)
