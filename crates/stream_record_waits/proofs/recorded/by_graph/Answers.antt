use Rattle.std.proofs.Common.{◌≡◌, ◌∙◌, List, Some, ap, length, subst, sym, ℕ}
use Rattle.std.proofs.lemmas.Bool.{not-false}
use Rattle.std.proofs.lemmas.Result.{err_from_is_err_and}
use Rattle.stream_record_waits.specs.Basis.{IsSound}
use Rattle.stream_record_waits.specs.Course.{Basis, pinned_waits}
use Rattle.stream_record_waits.specs.Joined.{joined_by_graph}
use Rattle.stream_record_waits.specs.Steps.{lists_in}
use Rattle.stream_record_waits.proofs.Pinned.{code_basis, found_sound, put_back_sound, put_back_waits}
use Rattle.stream_record_waits.proofs.SoundWaits.{graph_sound}
use Rattle.stream_record_waits.proofs.recorded.by_graph.Goals as goal

pub returns-then-not-choices-clause-sound : goal.returns-then-not-choices-clause-sound
returns-then-not-choices-clause-sound c =
    graph_sound c.args.steps.now (lists_in c.args.graph.now) c.requires.graph (lists_in c.in_ok-found.found.after.items) (lists_in c.in_ok-found.found.early.items) c.in_ok-found.ensures.ok

pub pinned_waits-requires-clause-sound : goal.pinned_waits-requires-clause-sound
pinned_waits-requires-clause-sound c =
    let steps = c.args.steps.now in
    let graph = lists_in c.args.graph.now in
    let behind = c.args.behind.now in
    let found = lists_in c.in_ok-found.found.after.items in
    let sound = graph_sound steps graph c.requires.graph found (lists_in c.in_ok-found.found.early.items) c.in_ok-found.ensures.ok in
    let joined : c.as_slice-3.result.now ≡ joined_by_graph steps found (length steps) =
    c.as_slice-3.ensures.value ∙ c.in_ok-joined.ensures ∙ ap (λ (lists : List (List ℕ)). joined_by_graph steps lists (length steps)) (ap lists_in c.as_slice.ensures.value) in
    let is = code_basis steps (Some graph) behind found (lists_in c.as_slice-2.result.now) c.as_slice-3.result.now (ap lists_in c.as_slice-2.ensures.value) joined in
    subst IsSound (sym is) (found_sound steps (Some graph) behind found c.requires.behind sound c.requires.few)

pub returns-clause-waits : goal.returns-clause-waits
returns-clause-waits c =
    let steps = c.args.steps.now in
    let graph = lists_in c.args.graph.now in
    let behind = c.args.behind.now in
    let found = lists_in c.in_ok-found.found.after.items in
    let early = lists_in c.in_ok-found.found.early.items in
    let sound = graph_sound steps graph c.requires.graph found early c.in_ok-found.ensures.ok in
    let joined : c.as_slice-3.result.now ≡ joined_by_graph steps found (length steps) =
    c.as_slice-3.ensures.value ∙ c.in_ok-joined.ensures ∙ ap (λ (lists : List (List ℕ)). joined_by_graph steps lists (length steps)) (ap lists_in c.as_slice.ensures.value) in
    let is = code_basis steps (Some graph) behind found (lists_in c.as_slice-2.result.now) c.as_slice-3.result.now (ap lists_in c.as_slice-2.ensures.value) joined in
    put_back_waits steps (Some graph) c.args.choices behind found (lists_in c.in_ok-after.after.items) early c.requires.behind c.in_ok-found.ensures.ok sound (not-false c.args.choices.begins c.if-not-choices.false)
    (c.in_ok-after.ensures ∙ ap (λ (basis : Basis). pinned_waits basis c.args.choices.lanes) is)

pub returns-clause-sound : goal.returns-clause-sound
returns-clause-sound c =
    let steps = c.args.steps.now in
    let graph = lists_in c.args.graph.now in
    let behind = c.args.behind.now in
    let found = lists_in c.in_ok-found.found.after.items in
    let early = lists_in c.in_ok-found.found.early.items in
    let sound = graph_sound steps graph c.requires.graph found early c.in_ok-found.ensures.ok in
    let joined : c.as_slice-3.result.now ≡ joined_by_graph steps found (length steps) =
    c.as_slice-3.ensures.value ∙ c.in_ok-joined.ensures ∙ ap (λ (lists : List (List ℕ)). joined_by_graph steps lists (length steps)) (ap lists_in c.as_slice.ensures.value) in
    let is = code_basis steps (Some graph) behind found (lists_in c.as_slice-2.result.now) c.as_slice-3.result.now (ap lists_in c.as_slice-2.ensures.value) joined in
    put_back_sound steps (Some graph) c.args.choices behind found (lists_in c.in_ok-after.after.items) early c.requires.behind c.in_ok-found.ensures.ok sound
    (c.in_ok-after.ensures ∙ ap (λ (basis : Basis). pinned_waits basis c.args.choices.lanes) is)

pub returns-in_err-found-clause-err : goal.returns-in_err-found-clause-err
returns-in_err-found-clause-err c =
    let p = err_from_is_err_and c.from_residual.result c.from_residual.ensures.1 in rw (p.1, p.2) (λ other. c.in_err-found.ensures.err other c.args.choices)
