use Rattle.std.proofs.Common.{◌≡◌, ◌+◌, ◌*◌, ◌<◌, ◌≤◌, ◌^◌, ◌++◌, ◌∷◌, [], ℕ, None, length, map, reverse, set, arith, rules, subst, sym, ap, ◌∙◌}
use Rattle.apply_hooks.specs.Registry.{rules_of}
use Rattle.apply_model.specs.Script.Limits.{max_seconds}
use Rattle.apply_events.specs.declared.lanes.turn.StartedTurn.{StartedTurn}
use Rattle.apply_events.specs.Step.{Work, kinds_applied}
use Rattle.apply_events.specs.Waits.Done.{done_at, done_in, end_of_turn, first_some}
use Rattle.apply_events.specs.Waits.Queue.{IsQueue, none_done, turn_waits}
use Rattle.apply_events.specs.Waits.Schedule.{first_earliest}
use Rattle.apply_events.specs.Waits.Turn.{turns}
use Rattle.apply_events.proofs.Waits.Scheduling.{at_first, full, goes_on_with, is_one, lane_fits, number_fits, over, round_fits, second_fits, step_is_new}
use Rattle.apply_events.proofs.Waits.Standing.{any_default}
use Rattle.apply_events.proofs.Waits.TurnNumbers.{few_turns, turn_at, turn_fits}
use Rattle.apply_events.proofs.lanes.schedule.schedule.Goals as goal

pub new-requires : goal.new-requires
new-requires g c =
    let w : Work = record { plan = c.args.plan.now; script = c.args.script.now; hooks = rules_of c.args.registry.now } in
    let turns_are : c.in_ok-turns.turns.items ≡ turns w = c.in_ok-turns.ensures w.hooks in
    let size = ap length turns_are in
    let is = ap length c.deref.ensures.value in
    let few = few_turns w in
    let low = c.len.ensures.few in omega arith

pub loop-queue-init : goal.loop-queue-init
loop-queue-init g c =
    let w : Work = record { plan = c.args.plan.now; script = c.args.script.now; hooks = rules_of c.args.registry.now } in
    let turns_are : c.in_ok-turns.turns.items ≡ turns w = c.in_ok-turns.ensures w.hooks in
    let limit = c.len.ensures.len in
    let names = c.deref.ensures.value ∙ turns_are in
    at_first w c.args.lanes c.in_ok-queue.queue c.in_ok-free.free.items c.in_ok-all.all.items c.in_ok-all.ensures.items (search rules)
    (subst (λ n. IsQueue (2 * n) (map (turn_waits w.script) (turns w)) none_done [] c.in_ok-queue.queue) limit
    (subst (λ l. IsQueue (2 * c.len.result) (map (turn_waits w.script) l) none_done [] c.in_ok-queue.queue) names c.in_ok-queue.ensures))

pub returns-in_default : goal.returns-in_default
returns-in_default g c =
    let w : Work = record { plan = c.args.plan.now; script = c.args.script.now; hooks = rules_of c.args.registry.now } in
    let h = c.loop-queue.invariant in
    over w c.args.lanes c.loop-queue.queue c.loop-queue.free.items c.loop-queue.all.items h
    (c.in_default.ensures.none (2 * length w.plan.changes) (map (turn_waits w.script) (turns w)) (done_at w (reverse c.loop-queue.all.items)) h.numbers h.queued)

pub returns : goal.returns
returns g c =
    let w : Work = record { plan = c.args.plan.now; script = c.args.script.now; hooks = rules_of c.args.registry.now } in
    let turns_are : c.in_ok-turns.turns.items ≡ turns w = c.in_ok-turns.ensures w.hooks in
    let size = ap length turns_are in
    let there : c.in_ok-turns.turns.len ≡ length c.in_ok-turns.turns.items = search rules in
    let here : c.loop-queue.all.len ≡ length c.loop-queue.all.items = search rules in
    full w c.args.lanes c.loop-queue.queue c.loop-queue.free.items c.loop-queue.all.items c.loop-queue.invariant (omega arith)

pub first_earliest-lane-requires : goal.first_earliest-lane-requires
first_earliest-lane-requires g c =
    let w : Work = record { plan = c.args.plan.now; script = c.args.script.now; hooks = rules_of c.args.registry.now } in
    let all = c.loop-queue.all.items in
    let free = c.loop-queue.free.items in
    let h = c.loop-queue.invariant in
    let first = c.in-Some.ensures.some (2 * length w.plan.changes) (map (turn_waits w.script) (turns w)) (done_at w (reverse all)) h.numbers h.queued in
    let fits = (lane_fits w c.args.lanes c.requires c.loop-queue.queue free all h c.len.ensures.few c.in-Some.ready first.0) in
    let low = fits.0 in
    let is = ap length c.deref-in-loop-queue.ensures.value in omega arith

pub index-requires : goal.index-requires
index-requires g c =
    let w : Work = record { plan = c.args.plan.now; script = c.args.script.now; hooks = rules_of c.args.registry.now } in
    let turns_are : c.in_ok-turns.turns.items ≡ turns w = c.in_ok-turns.ensures w.hooks in
    let all = c.loop-queue.all.items in
    let free = c.loop-queue.free.items in
    let h = c.loop-queue.invariant in
    let first = c.in-Some.ensures.some (2 * length w.plan.changes) (map (turn_waits w.script) (turns w)) (done_at w (reverse all)) h.numbers h.queued in
    let fits = (number_fits w c.args.lanes c.requires c.loop-queue.queue free all h c.len.ensures.few c.in-Some.ready first.0) in
    let size = ap length turns_are in
    let len : c.in_ok-turns.turns.len ≡ length c.in_ok-turns.turns.items = search rules in omega arith

pub overflow_cast-started : goal.overflow_cast-started
overflow_cast-started g c =
    let w : Work = record { plan = c.args.plan.now; script = c.args.script.now; hooks = rules_of c.args.registry.now } in
    let all = c.loop-queue.all.items in
    let free = c.loop-queue.free.items in
    let h = c.loop-queue.invariant in
    let first = c.in-Some.ensures.some (2 * length w.plan.changes) (map (turn_waits w.script) (turns w)) (done_at w (reverse all)) h.numbers h.queued in
    let lane : c.first_earliest-lane.result ≡ first_earliest free = c.first_earliest-lane.ensures ∙ ap first_earliest c.deref-in-loop-queue.ensures.value in
    let low = (lane_fits w c.args.lanes c.requires c.loop-queue.queue free all h c.len.ensures.few c.in-Some.ready first.0).0 in
    let size = (lane_fits w c.args.lanes c.requires c.loop-queue.queue free all h c.len.ensures.few c.in-Some.ready first.0).1 in
    let few = c.ranges.lanes.fits in
    record { fits = omega arith }

pub index-requires-in-loop-queue : goal.index-requires-in-loop-queue
index-requires-in-loop-queue g c =
    let w : Work = record { plan = c.args.plan.now; script = c.args.script.now; hooks = rules_of c.args.registry.now } in
    let all = c.loop-queue.all.items in
    let free = c.loop-queue.free.items in
    let h = c.loop-queue.invariant in
    let first = c.in-Some.ensures.some (2 * length w.plan.changes) (map (turn_waits w.script) (turns w)) (done_at w (reverse all)) h.numbers h.queued in
    let lane : c.first_earliest-lane.result ≡ first_earliest free = c.first_earliest-lane.ensures ∙ ap first_earliest c.deref-in-loop-queue.ensures.value in
    let low = (lane_fits w c.args.lanes c.requires c.loop-queue.queue free all h c.len.ensures.few c.in-Some.ready first.0).0 in
    let len : c.loop-queue.free.len ≡ length free = search rules in omega arith

pub index_mut-requires : goal.index_mut-requires
index_mut-requires g c =
    let w : Work = record { plan = c.args.plan.now; script = c.args.script.now; hooks = rules_of c.args.registry.now } in
    let all = c.loop-queue.all.items in
    let free = c.loop-queue.free.items in
    let h = c.loop-queue.invariant in
    let first = c.in-Some.ensures.some (2 * length w.plan.changes) (map (turn_waits w.script) (turns w)) (done_at w (reverse all)) h.numbers h.queued in
    let lane : c.first_earliest-lane.result ≡ first_earliest free = c.first_earliest-lane.ensures ∙ ap first_earliest c.deref-in-loop-queue.ensures.value in
    let low = (lane_fits w c.args.lanes c.requires c.loop-queue.queue free all h c.len.ensures.few c.in-Some.ready first.0).0 in
    let len : c.loop-queue.free.len ≡ length free = search rules in omega arith

pub run_steps-requires-clause-change : goal.run_steps-requires-clause-change
run_steps-requires-clause-change g c =
    let w : Work = record { plan = c.args.plan.now; script = c.args.script.now; hooks = rules_of c.args.registry.now } in
    let turns_are : c.in_ok-turns.turns.items ≡ turns w = c.in_ok-turns.ensures w.hooks in
    let all = c.loop-queue.all.items in
    let free = c.loop-queue.free.items in
    let h = c.loop-queue.invariant in
    let first = c.in-Some.ensures.some (2 * length w.plan.changes) (map (turn_waits w.script) (turns w)) (done_at w (reverse all)) h.numbers h.queued in
    let lane : c.first_earliest-lane.result ≡ first_earliest free = c.first_earliest-lane.ensures ∙ ap first_earliest c.deref-in-loop-queue.ensures.value in
    let size = ap length turns_are in
    let fits = (number_fits w c.args.lanes c.requires c.loop-queue.queue free all h c.len.ensures.few c.in-Some.ready first.0) in
    let its : c.index.result.now ≡ turn_at (turns w) c.in-Some.ready.number = c.index.ensures
    ∙ any_default c.in_ok-turns.turns.items c.in-Some.ready.number c.index.result.now (record { change = 0; first = 0; count = 0 }) (omega arith) ∙ ap (λ l. turn_at l c.in-Some.ready.number) turns_are in
    let same = is_one w c.args.lanes c.requires c.loop-queue.queue free all h c.len.ensures.few c.in-Some.ready first.0
    c.index.result.now c.first_earliest-lane.result c.index-in-loop-queue.result.now c.later_of.result its lane c.index-in-loop-queue.ensures c.later_of.ensures in
    subst (λ (t : StartedTurn). t.turn.change < length w.plan.changes) (sym same) (turn_fits w c.in-Some.ready.number fits).0

pub run_steps-requires-clause-steps : goal.run_steps-requires-clause-steps
run_steps-requires-clause-steps g c =
    let w : Work = record { plan = c.args.plan.now; script = c.args.script.now; hooks = rules_of c.args.registry.now } in
    let turns_are : c.in_ok-turns.turns.items ≡ turns w = c.in_ok-turns.ensures w.hooks in
    let all = c.loop-queue.all.items in
    let free = c.loop-queue.free.items in
    let h = c.loop-queue.invariant in
    let first = c.in-Some.ensures.some (2 * length w.plan.changes) (map (turn_waits w.script) (turns w)) (done_at w (reverse all)) h.numbers h.queued in
    let lane : c.first_earliest-lane.result ≡ first_earliest free = c.first_earliest-lane.ensures ∙ ap first_earliest c.deref-in-loop-queue.ensures.value in
    let size = ap length turns_are in
    let fits = (number_fits w c.args.lanes c.requires c.loop-queue.queue free all h c.len.ensures.few c.in-Some.ready first.0) in
    let its : c.index.result.now ≡ turn_at (turns w) c.in-Some.ready.number = c.index.ensures
    ∙ any_default c.in_ok-turns.turns.items c.in-Some.ready.number c.index.result.now (record { change = 0; first = 0; count = 0 }) (omega arith) ∙ ap (λ l. turn_at l c.in-Some.ready.number) turns_are in
    let same = is_one w c.args.lanes c.requires c.loop-queue.queue free all h c.len.ensures.few c.in-Some.ready first.0
    c.index.result.now c.first_earliest-lane.result c.index-in-loop-queue.result.now c.later_of.result its lane c.index-in-loop-queue.ensures c.later_of.ensures in
    subst (λ (t : StartedTurn). t.turn.first + t.turn.count ≤ length (kinds_applied w.plan w.script t.turn.change)) (sym same) (turn_fits w c.in-Some.ready.number fits).1

pub run_steps-requires-clause-second : goal.run_steps-requires-clause-second
run_steps-requires-clause-second g c =
    let w : Work = record { plan = c.args.plan.now; script = c.args.script.now; hooks = rules_of c.args.registry.now } in
    let turns_are : c.in_ok-turns.turns.items ≡ turns w = c.in_ok-turns.ensures w.hooks in
    let all = c.loop-queue.all.items in
    let free = c.loop-queue.free.items in
    let h = c.loop-queue.invariant in
    let first = c.in-Some.ensures.some (2 * length w.plan.changes) (map (turn_waits w.script) (turns w)) (done_at w (reverse all)) h.numbers h.queued in
    let lane : c.first_earliest-lane.result ≡ first_earliest free = c.first_earliest-lane.ensures ∙ ap first_earliest c.deref-in-loop-queue.ensures.value in
    let size = ap length turns_are in
    let fits = (number_fits w c.args.lanes c.requires c.loop-queue.queue free all h c.len.ensures.few c.in-Some.ready first.0) in
    let its : c.index.result.now ≡ turn_at (turns w) c.in-Some.ready.number = c.index.ensures
    ∙ any_default c.in_ok-turns.turns.items c.in-Some.ready.number c.index.result.now (record { change = 0; first = 0; count = 0 }) (omega arith) ∙ ap (λ l. turn_at l c.in-Some.ready.number) turns_are in
    let same = is_one w c.args.lanes c.requires c.loop-queue.queue free all h c.len.ensures.few c.in-Some.ready first.0
    c.index.result.now c.first_earliest-lane.result c.index-in-loop-queue.result.now c.later_of.result its lane c.index-in-loop-queue.ensures c.later_of.ensures in
    subst (λ (t : StartedTurn). t.begin.second + 2 * max_seconds < 2 ^ 64) (sym same) (second_fits w c.args.lanes c.requires c.loop-queue.queue free all h c.len.ensures.few c.in-Some.ready first.0)

pub run_steps-requires-clause-round : goal.run_steps-requires-clause-round
run_steps-requires-clause-round g c =
    let w : Work = record { plan = c.args.plan.now; script = c.args.script.now; hooks = rules_of c.args.registry.now } in
    let turns_are : c.in_ok-turns.turns.items ≡ turns w = c.in_ok-turns.ensures w.hooks in
    let all = c.loop-queue.all.items in
    let free = c.loop-queue.free.items in
    let h = c.loop-queue.invariant in
    let first = c.in-Some.ensures.some (2 * length w.plan.changes) (map (turn_waits w.script) (turns w)) (done_at w (reverse all)) h.numbers h.queued in
    let lane : c.first_earliest-lane.result ≡ first_earliest free = c.first_earliest-lane.ensures ∙ ap first_earliest c.deref-in-loop-queue.ensures.value in
    let size = ap length turns_are in
    let fits = (number_fits w c.args.lanes c.requires c.loop-queue.queue free all h c.len.ensures.few c.in-Some.ready first.0) in
    let its : c.index.result.now ≡ turn_at (turns w) c.in-Some.ready.number = c.index.ensures
    ∙ any_default c.in_ok-turns.turns.items c.in-Some.ready.number c.index.result.now (record { change = 0; first = 0; count = 0 }) (omega arith) ∙ ap (λ l. turn_at l c.in-Some.ready.number) turns_are in
    let same = is_one w c.args.lanes c.requires c.loop-queue.queue free all h c.len.ensures.few c.in-Some.ready first.0
    c.index.result.now c.first_earliest-lane.result c.index-in-loop-queue.result.now c.later_of.result its lane c.index-in-loop-queue.ensures c.later_of.ensures in
    subst (λ (t : StartedTurn). t.begin.round + 1 < 2 ^ 32) (sym same) (round_fits w c.args.lanes c.requires c.loop-queue.queue free all h c.len.ensures.few c.in-Some.ready first.0)

pub run_steps-requires-clause-known : goal.run_steps-requires-clause-known
run_steps-requires-clause-known g c =
    let w : Work = record { plan = c.args.plan.now; script = c.args.script.now; hooks = rules_of c.args.registry.now } in
    let turns_are : c.in_ok-turns.turns.items ≡ turns w = c.in_ok-turns.ensures w.hooks in
    let all = c.loop-queue.all.items in
    let free = c.loop-queue.free.items in
    let h = c.loop-queue.invariant in
    let first = c.in-Some.ensures.some (2 * length w.plan.changes) (map (turn_waits w.script) (turns w)) (done_at w (reverse all)) h.numbers h.queued in
    let lane : c.first_earliest-lane.result ≡ first_earliest free = c.first_earliest-lane.ensures ∙ ap first_earliest c.deref-in-loop-queue.ensures.value in
    let size = ap length turns_are in
    let fits = (number_fits w c.args.lanes c.requires c.loop-queue.queue free all h c.len.ensures.few c.in-Some.ready first.0) in
    let its : c.index.result.now ≡ turn_at (turns w) c.in-Some.ready.number = c.index.ensures
    ∙ any_default c.in_ok-turns.turns.items c.in-Some.ready.number c.index.result.now (record { change = 0; first = 0; count = 0 }) (omega arith) ∙ ap (λ l. turn_at l c.in-Some.ready.number) turns_are in
    let same = is_one w c.args.lanes c.requires c.loop-queue.queue free all h c.len.ensures.few c.in-Some.ready first.0
    c.index.result.now c.first_earliest-lane.result c.index-in-loop-queue.result.now c.later_of.result its lane c.index-in-loop-queue.ensures c.later_of.ensures in (
      map (turn_waits w.script) (turns w),
      done_at w (reverse all),
      c.in-Some.ready.number ∷ h.numbers,
      first.1,
      subst (λ (t : StartedTurn). (step : ℕ) → t.turn.first ≤ step → step < t.turn.first + t.turn.count → done_at w (reverse all) (record { change = t.turn.change; step = step }) ≡ None)
          (sym same) (step_is_new w c.args.lanes c.requires c.loop-queue.queue free all h c.len.ensures.few c.in-Some.ready first.0),
    )

pub loop-queue-preserved : goal.loop-queue-preserved
loop-queue-preserved g c =
    let w : Work = record { plan = c.args.plan.now; script = c.args.script.now; hooks = rules_of c.args.registry.now } in
    let turns_are : c.in_ok-turns.turns.items ≡ turns w = c.in_ok-turns.ensures w.hooks in
    let all = c.loop-queue.all.items in
    let free = c.loop-queue.free.items in
    let h = c.loop-queue.invariant in
    let first = c.in-Some.ensures.some (2 * length w.plan.changes) (map (turn_waits w.script) (turns w)) (done_at w (reverse all)) h.numbers h.queued in
    let lane : c.first_earliest-lane.result ≡ first_earliest free = c.first_earliest-lane.ensures ∙ ap first_earliest c.deref-in-loop-queue.ensures.value in
    let size = ap length turns_are in
    let fits = (number_fits w c.args.lanes c.requires c.loop-queue.queue free all h c.len.ensures.few c.in-Some.ready first.0) in
    let its : c.index.result.now ≡ turn_at (turns w) c.in-Some.ready.number = c.index.ensures
    ∙ any_default c.in_ok-turns.turns.items c.in-Some.ready.number c.index.result.now (record { change = 0; first = 0; count = 0 }) (omega arith) ∙ ap (λ l. turn_at l c.in-Some.ready.number) turns_are in
    let same = is_one w c.args.lanes c.requires c.loop-queue.queue free all h c.len.ensures.few c.in-Some.ready first.0
    c.index.result.now c.first_earliest-lane.result c.index-in-loop-queue.result.now c.later_of.result its lane c.index-in-loop-queue.ensures c.later_of.ensures in
    let fresh = subst (λ (t : StartedTurn). (step : ℕ) → t.turn.first ≤ step → step < t.turn.first + t.turn.count → done_at w (reverse all) (record { change = t.turn.change; step = step }) ≡ None)
    (sym same) (step_is_new w c.args.lanes c.requires c.loop-queue.queue free all h c.len.ensures.few c.in-Some.ready first.0) in
    let end = c.in_ok-free-2.field-0 in
    let q = c.in_ok-free-2.ensures.queue (map (turn_waits w.script) (turns w)) (done_at w (reverse all)) (c.in-Some.ready.number ∷ h.numbers) first.1 fresh in
    goes_on_with w c.args.lanes c.requires c.loop-queue.queue free all h c.len.ensures.few c.in-Some.ready first.0
    c.run_steps.new.queue end c.push.new.self.items _
    (c.in_ok-free-2.ensures.end ∙ ap (end_of_turn w) same)
    (subst (λ (t : StartedTurn). end.second ≤ t.begin.second + 2 * max_seconds) same c.in_ok-free-2.ensures.short)
    (c.in_ok-push.ensures.items ∙ ap (λ (t : StartedTurn). all ++ t ∷ []) same)
    (ap (λ k. set free k end) lane)
    (subst (λ (t : StartedTurn). IsQueue (2 * length w.plan.changes) (map (turn_waits w.script) (turns w)) (λ name. first_some (done_in w t name) (done_at w (reverse all) name))
    (c.in-Some.ready.number ∷ h.numbers) c.run_steps.new.queue) same q)
    (let there : c.in_ok-turns.turns.len ≡ length c.in_ok-turns.turns.items = search rules in
    let here : c.loop-queue.all.len ≡ length c.loop-queue.all.items = search rules in omega arith)
