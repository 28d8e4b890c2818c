use Rattle.std.proofs.Common.{◌≡◌, ◌-◌, List, ℕ, ap, count_by, drop, length, rules, subst, take, ◌∙◌}
use Rattle.std.proofs.lemmas.List.{take_rest}
use Rattle.stream_timeline.specs.declared.rows.choosing.Candidate.{Candidate}
use Rattle.stream_timeline.specs.Intervals.{span_of}
use Rattle.stream_timeline.specs.Rows.{longest, total_length}
use Rattle.stream_timeline.proofs.Choosing.{IsFront, rows_are}
use Rattle.stream_timeline.proofs.Printed.{front_below}
use Rattle.stream_timeline.proofs.Ranking.{is_at}
use Rattle.stream_timeline.proofs.rows.choosing.rows_of.Goals as goal

pub in_order_of_begin-requires : goal.in_order_of_begin-requires
in_order_of_begin-requires c =
    rw c.deref-2.ensures.value (front_below c.args.time_range c.args.steps.now c.in_ok-ranked.ranked.items c.chosen_count-count.result c.in_ok-ranked.ensures.all)

pub returns : goal.returns
returns c =
    let m = c.args.time_range in
    let limit = c.args.limit in
    let xs = c.in_ok-ranked.ranked.items in
    let n = c.chosen_count-count.result in
    let value : IsFront limit c.span.result c.deref.result.now n =
    record { bound = c.chosen_count-count.ensures.bound; before = c.chosen_count-count.ensures.before; after = c.chosen_count-count.ensures.after } in
    let front : IsFront limit (span_of m) xs n =
    subst (λ (ys : List Candidate). IsFront limit (span_of m) ys n) c.deref.ensures.value (subst (λ (s : ℕ). IsFront limit s c.deref.result.now n) c.span.ensures value) in
    let count : c.len.result ≡ length xs = search rules in
    rows_are m c.args.steps.now limit xs n _ c.in_ok-ranked.ensures.all c.in_ok-ranked.ensures.ordered front
    (λ p. c.in_ok-in_order_of_begin.ensures.shown p ∙ ap (λ (ys : List Candidate). count_by (is_at p) (take n ys)) c.deref-2.ensures.value)
    c.in_ok-in_order_of_begin.ensures.ordered
    (ap (λ (l : ℕ). l - n) count)
    (c.longest.ensures ∙ ap longest (take_rest c.deref-3.result.now n ∙ ap (λ (ys : List Candidate). drop n ys) c.deref-3.ensures.value))
    (c.total_length.ensures ∙ ap total_length (take_rest c.deref-4.result.now n ∙ ap (λ (ys : List Candidate). drop n ys) c.deref-4.ensures.value))
