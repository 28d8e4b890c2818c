use Rattle.std.proofs.Common.{◌≡◌, ℕ, ap, codes, ◌∙◌, ◌++◌, ◌-◌}
use Rattle.term_words.proofs.Appended.{text_as, text_then}
use Rattle.stream_watch.specs.Ending.{done_of_planned, left_part, planned_steps_words}
use Rattle.stream_watch.proofs.ending.push_planned_steps.Goals as goal

pub returns : goal.returns
unfolding planned_steps_words
returns c =
    let counts = c.args.counts in
    let running = c.args.under_way in
    let t0 = c.args.text.now in
    let t1 = c.push_done_of_planned.new.text in
    let t2 = c.push_left.new.text in
    let t3 = c.push_left-2.new.text in
    let t4 = c.push_left-3.new.text in
    let done = done_of_planned counts in
    let failed = left_part counts.failed (codes " failed") in
    let unended = left_part running (codes " without an end") in
    let never = left_part (counts.planned - counts.done - counts.failed - running) (codes " never began") in
    let left : c.saturating_sub-left.result ≡ counts.planned - counts.done - counts.failed - running =
    c.saturating_sub-left.ensures ∙ ap (λ (n : ℕ). n - running) (c.saturating_sub-2.ensures ∙ ap (λ (n : ℕ). n - counts.failed) c.saturating_sub.ensures) in
    let last = text_as t3 t4 (left_part c.saturating_sub-left.result (codes " never began")) never (ap (λ (n : ℕ). left_part n (codes " never began")) left) c.push_left-3.ensures in
    let w2 = text_then t0 t1 t2 done failed c.push_done_of_planned.ensures c.push_left.ensures in
    let w3 = text_then t0 t2 t3 (done ++ failed) unended w2 c.push_left-2.ensures in
    text_then t0 t3 t4 (done ++ failed ++ unended) never w3 last
