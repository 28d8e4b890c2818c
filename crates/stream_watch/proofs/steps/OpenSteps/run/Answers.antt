use Rattle.std.proofs.Common.{◌<◌, Some, arith, length, refl, sym, w64, ◌∙◌}
use Rattle.std.proofs.lemmas.Int.{to_z-of_z}
use Rattle.stream_watch.specs.Steps.{new_running, runs_at, step_view}
use Rattle.stream_watch.proofs.StepPlaces.{has_no_last, last_within, last_written}
use Rattle.stream_watch.proofs.steps.OpenSteps.run.Goals as goal

pub index_mut-requires : goal.index_mut-requires
index_mut-requires c =
    let list = c.args.self.now.list in
    let within : c.in-Some.index < length list.items = last_within step_view (runs_at c.args.address.now) list.items c.in-Some.index (sym c.in-Some.is ∙ c.last_at.ensures) in
    omega (arith, list.ok.0)

pub returns-in_ok-from_str : goal.returns-in_ok-from_str
returns-in_ok-from_str c =
    let name = c.in_ok-from_str.ensures.ok in
    let moment = to_z-of_z w64 c.args.moment c.ranges.moment in
    last_written step_view (runs_at c.args.address.now) (Some (new_running c.args.name.now c.args.moment)) c.args.self.now.list.items c.in-Some.index c.index_mut.result.now _
    c.index_mut.ensures.value
    (sym c.in-Some.is ∙ c.last_at.ensures)
    (rw (name, moment) refl)

pub returns-in_default : goal.returns-in_default
returns-in_default c =
    let none = has_no_last (runs_at c.args.address.now) (Some (new_running c.args.name.now c.args.moment)) _ (sym c.in_default.is ∙ c.last_at.ensures) in
    sym none.written
