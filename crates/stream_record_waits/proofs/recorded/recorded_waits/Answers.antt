use Rattle.std.proofs.Common.{◌<◌, ◌≤◌, Bor, Global, List, Option, Vec, subst, sym, ⊎_elim, ℕ}
use Rattle.std.proofs.lemmas.Bool.{cases_lt, iff_false}
use Rattle.std.proofs.lemmas.Result.{err_from_is_err_and}
use Rattle.stream_record_waits.specs.declared.found_waits.FoundWaits.{FoundWaits}
use Rattle.stream_record_waits.specs.Graph.{count_of}
use Rattle.stream_record_waits.specs.Recorded.{AreRecordedWaits, HasTooMany, graph_in, in_all, max_waits}
use Rattle.stream_record_waits.specs.Steps.{lists_in}
use Rattle.stream_record_waits.proofs.recorded.recorded_waits.Goals as goal
use Rattle.stream_record_waits.proofs.recorded.recorded_waits.Goals.{in-Some+in_ok-waits-in-Some, in-None+in_ok-waits-in-None}

pub returns-then-not-are_few-clause-err : goal.returns-then-not-are_few-clause-err
returns-then-not-are_few-clause-err c =
    let steps = c.args.steps.now in
    let choices = c.args.choices in
    let after = lists_in c.match-graph.waits.after.items in
    let early = lists_in c.match-graph.waits.early.items in
    let many : max_waits < count_of after early = ⊎_elim
    (λ (lt : max_waits < count_of after early). lt)
    (λ (few : count_of after early ≤ max_waits). absurd (iff_false c.are_few.ensures c.if-not-are_few.true few))
    (cases_lt max_waits (count_of after early)) in
    let Recorded : Option (Bor (List (Vec ℕ Global))) → FoundWaits → Type 0 = λ graph waits. AreRecordedWaits steps (graph_in graph) choices (lists_in waits.after.items) (lists_in waits.early.items) in
    let are : Recorded c.args.graph c.match-graph.waits = elim c.match-graph.branch [
      | in-Some+in_ok-waits-in-Some w ↦ subst (Recorded c.args.graph) (sym w.waits-is) (subst (λ (g : Option (Bor (List (Vec ℕ Global)))). Recorded g w.in_ok-waits-in-Some.waits) (sym w.in-Some.is) w.in_ok-waits-in-Some.ensures.waits)
      | in-None+in_ok-waits-in-None w ↦ subst (Recorded c.args.graph) (sym w.waits-is) (subst (λ (g : Option (Bor (List (Vec ℕ Global)))). Recorded g w.in_ok-waits-in-None.waits) (sym w.in-None.is) w.in_ok-waits-in-None.ensures.waits)
    ] in
    λ other. in_all after early are many

pub returns-in_err-waits-in-Some-clause-err : goal.returns-in_err-waits-in-Some-clause-err
returns-in_err-waits-in-Some-clause-err c =
    let p = err_from_is_err_and c.from_residual-in_err-waits-in-Some.result c.from_residual-in_err-waits-in-Some.ensures.1 in
    rw (p.1, p.2) (λ other. subst (λ (g : Option (Bor (List (Vec ℕ Global)))). HasTooMany c.args.steps.now (graph_in g) c.args.choices) (sym c.in-Some.is) (c.in_err-waits-in-Some.ensures.err other))
