use Rattle.std.proofs.Common.{◌≡◌, ◌-◌, ◌∙◌, List, ℕ, ap, drop, length, map, rules, take}
use Rattle.std.proofs.lemmas.List.{take_rest}
use Rattle.stream_timeline.specs.declared.rows.choosing.Candidate.{Candidate}
use Rattle.stream_timeline.specs.Rows.{longest, total_length}
use Rattle.stream_timeline.proofs.ByLength.{rows_are}
use Rattle.stream_timeline.proofs.rows.by_length.rows_by_length.Goals as goal

pub returns : goal.returns
returns c =
    let xs = c.in_ok-ranked.ranked.items in
    let n = c.row_count-count.result in
    let count : c.len-2.result ≡ length xs = search rules in
    rows_are c.args.time_range c.args.steps.now c.args.limit xs n _ c.in_ok-ranked.ensures.all c.in_ok-ranked.ensures.ordered
    (search rules)
    (c.in_ok-places_of.ensures ∙ ap (λ (ys : List Candidate). map (λ (c : Candidate). c.place) (take n ys)) c.deref.ensures.value)
    (ap (λ (l : ℕ). l - n) count)
    (c.longest.ensures ∙ ap longest (take_rest c.deref-2.result.now n ∙ ap (λ (ys : List Candidate). drop n ys) c.deref-2.ensures.value))
    (c.total_length.ensures ∙ ap total_length (take_rest c.deref-3.result.now n ∙ ap (λ (ys : List Candidate). drop n ys) c.deref-3.ensures.value))
