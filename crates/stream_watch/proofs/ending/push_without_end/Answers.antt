use Rattle.std.proofs.Common.{◌≡◌, ℕ, ℤ, List, SFits, ap, codes, rules, w64, ◌∙◌, ◌++◌}
use Rattle.std.specs.Int.{int_gap}
use Rattle.std.proofs.lemmas.Int.{to_z-of_z}
use Rattle.term_words.proofs.Appended.{text_as, text_then}
use Rattle.stream_watch.specs.Ending.{without_end_words}
use Rattle.stream_watch.specs.Printed.{time_text}
use Rattle.stream_watch.specs.Steps.{step_view}
use Rattle.stream_watch.specs.Words.{provisioner_words, step_words}
use Rattle.stream_watch.proofs.ending.push_without_end.Goals as goal

same_gap : (a b from to : ℤ) → a ≡ from → b ≡ to → int_gap a b ≡ int_gap from to
same_gap a b from to first second = cc

pub returns : goal.returns
unfolding without_end_words
returns c =
    let step = step_view c.args.step.now in
    let begin = c.args.step.now.begin in
    let now = c.args.now in
    let fits : SFits w64 begin = search rules in
    let t0 = c.args.text.now in
    let t1 = c.push_step.new.text in
    let t2 = c.push_provisioner_of.new.text in
    let t3 = c.text.new.self in
    let t4 = c.push_time.new.text in
    let t5 = c.text-2.new.self in
    let words = step_words step.action step.address in
    let provisioner = provisioner_words step.provisioner in
    let time = time_text (int_gap begin now) in
    let named = text_as t0 t1 (step_words c.as_str.result.now c.as_str-2.result.now) words
    (ap (λ (action : List ℕ). step_words action c.as_str-2.result.now) c.as_str.ensures.value ∙ ap (step_words step.action) c.as_str-2.ensures.value) c.push_step.ensures in
    let gap = c.gap.ensures ∙ same_gap _ _ begin now (to_z-of_z w64 begin fits) (to_z-of_z w64 now c.ranges.now) in
    let timed = text_as t3 t4 (time_text c.gap.result) time (ap time_text gap) c.push_time.ensures in
    let w2 = text_then t0 t1 t2 words provisioner named c.push_provisioner_of.ensures in
    let w3 = text_then t0 t2 t3 (words ++ provisioner) (codes " has no end, ") w2 c.text.ensures in
    let w4 = text_then t0 t3 t4 (words ++ provisioner ++ codes " has no end, ") time w3 timed in
    text_then t0 t4 t5 (words ++ provisioner ++ codes " has no end, " ++ time) (codes " so far") w4 c.text-2.ensures
