use Rattle.std.proofs.Common.{◌≡◌, ◌∙◌, ◌∷◌, ◌++◌, [], List, Option, ap, arith, sym, ℕ, Global, Vec}
use Rattle.std.specs.Prelude.{option_to_list}
use Rattle.std.proofs.lemmas.List.{map_push}
use Rattle.std.proofs.lemmas.List.FromFn.{map-range_with_len_more}
use Rattle.stream_record_waits.specs.Guess.{first_without_graph, wait_without_graph}
use Rattle.stream_record_waits.specs.Steps.{lists_in}
use Rattle.stream_record_waits.proofs.guess.waits_without_graph.Goals as goal

pub loop-step-preserved : goal.loop-step-preserved
loop-step-preserved c =
    let step = c.loop-step.step in
    let wait : ℕ → List ℕ = λ other. option_to_list (wait_without_graph c.args.steps.now c.args.behind.now c.cause_of-cause.result other) in
    let is : c.in_ok-list_of.field-0.items ≡ wait step = c.in_ok-list_of.ensures ∙ ap (λ (number : Option ℕ). option_to_list number) c.wait_without_graph-wait.ensures in
    let before = c.loop-step.invariant in
    ap lists_in c.in_ok-push.ensures.items
    ∙ map_push (λ (vector : Vec ℕ Global). vector.items) c.loop-step.waits.items c.in_ok-list_of.field-0
    ∙ ap (λ (list : List (List ℕ)). list ++ c.in_ok-list_of.field-0.items ∷ []) before
    ∙ ap (λ (row : List ℕ). first_without_graph c.args.steps.now c.args.behind.now c.cause_of-cause.result step ++ row ∷ []) is
    ∙ sym (map-range_with_len_more wait 0 step step (omega arith))
