use Rattle.std.proofs.Common.{◌≡◌, ◌≤◌, All, ap, subst, sym, ⊎_elim, inl, inr, ◌∙◌}
use Rattle.std.specs.List.{Contains}
use Rattle.apply_events.specs.declared.lanes.turn.StartedTurn.{StartedTurn}
use Rattle.apply_events.specs.Waits.Done.{end_of_turn}
use Rattle.apply_events.specs.Waits.Schedule.{schedule}
use Rattle.apply_events.proofs.Waits.Reversed.{All-reverse}
use Rattle.apply_events.proofs.Waits.TurnSteps.{all_at}
use Rattle.apply_planning.specs.Begun.{HasBegun}
use Rattle.apply_planning.specs.PlanningWork.{planning_work}
use Rattle.apply_planning.specs.Schedule.{is_lost_of}
use Rattle.apply_planning.proofs.AtStart.{begun, one_begun}
use Rattle.apply_planning.proofs.LastEvent.{last_is, reversed_in}
use Rattle.apply_planning.proofs.Lost.{either_order}
use Rattle.apply_planning.proofs.schedule.Schedule.new.Goals as goal

pub lost_of-requires : goal.lost_of-requires
lost_of-requires c =
    subst (All (HasBegun c.args.told.now)) (sym c.deref.ensures.value) (begun c.args.told.now c.args.lanes c.requires.some c.requires.short c.in_ok-started.started.items c.in_ok-started.ensures)

pub end_of-ends_at-requires : goal.end_of-ends_at-requires
end_of-ends_at-requires c =
    subst (All (HasBegun c.args.told.now)) (sym c.deref-2.ensures.value) (begun c.args.told.now c.args.lanes c.requires.some c.requires.short c.in_ok-started.started.items c.in_ok-started.ensures)

pub returns-clause-planned : goal.returns-clause-planned
returns-clause-planned c =
    let told = c.args.told.now in
    let w = planning_work told in
    let items = c.in_ok-started.started.items in
    let last = c.end_of-ends_at.result in
    let low = subst (All (λ (x : StartedTurn). (end_of_turn w x).second ≤ last)) c.deref-2.ensures.value c.end_of-ends_at.ensures.low in
    let back = subst (All (λ (x : StartedTurn). (end_of_turn w x).second ≤ last)) c.in_ok-started.ensures (All-reverse (λ (x : StartedTurn). (end_of_turn w x).second ≤ last) items low) in
    record {
      some = c.requires.some;
      short = c.requires.short;
      started = c.in_ok-started.ensures;
      ends = last_is told c.args.lanes c.requires.some (one_begun told c.args.lanes c.requires.some c.requires.short) last
          (λ one there. all_at (λ (x : StartedTurn). (end_of_turn w x).second ≤ last) (schedule w c.args.lanes) one back there)
          (⊎_elim
          (λ (none : last ≡ 0). inl none)
          (λ (its : (one : StartedTurn) × Contains c.deref-2.result.now one × ((end_of_turn w one).second ≡ last)).
          inr (its.0, subst (λ l. Contains l its.0) c.in_ok-started.ensures (reversed_in items its.0 (subst (λ l. Contains l its.0) c.deref-2.ensures.value its.1)), its.2))
          c.end_of-ends_at.ensures.met);
      in_time = c.end_of-ends_at.ensures.in_time;
      size = c.in_ok-lost.ensures.size;
      lost = λ k lt. c.in_ok-lost.ensures.lost k lt ∙ ap (λ l. is_lost_of told l k) c.deref.ensures.value ∙ either_order told items k ∙ ap (λ l. is_lost_of told l k) c.in_ok-started.ensures;
    }
