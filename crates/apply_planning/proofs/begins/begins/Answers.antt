use Rattle.std.proofs.Common.{◌≡◌, ◌*◌, ◌++◌, ◌∷◌, [], ap, arith, length, map, reverse, refl, set, rules, ◌∙◌}
use Rattle.std.proofs.lemmas.List.Sums.{get_or-le-sum_by}
use Rattle.std.proofs.lemmas.Option.{slice_get_read}
use Rattle.apply_events.specs.declared.lanes.turn.StartedTurn.{StartedTurn}
use Rattle.apply_events.specs.Waits.Done.{done_at}
use Rattle.apply_events.specs.Waits.LaneTime.{later_by}
use Rattle.apply_events.specs.Waits.Schedule.{first_earliest}
use Rattle.apply_planning.specs.declared.told.Told.{Told}
use Rattle.apply_planning.specs.Names.{name_waits}
use Rattle.apply_planning.specs.NumberOf.{number_of}
use Rattle.apply_planning.specs.PendingNames.{named_done}
use Rattle.apply_planning.specs.PlanningWork.{planning_work}
use Rattle.apply_planning.proofs.Scheduling.{at_first, full, goes_on_with, is_one, is_planned, lane_fits, number_fits, over, round_fits, second_fits}
use Rattle.apply_planning.proofs.begins.begins.Goals as goal

pub loop-queue-init : goal.loop-queue-init
loop-queue-init c =
    at_first c.args.told.now (number_of c.in_ok-names.names) c.args.lanes c.in_ok-queue.queue c.in_ok-pending.pending c.in_ok-free.free.items c.in_ok-all.all.items
    c.in_ok-all.ensures.items (search rules) c.in_ok-pending.ensures c.in_ok-queue.ensures

pub returns-in_default : goal.returns-in_default
returns-in_default c =
    let told = c.args.told.now in
    let number = number_of c.in_ok-names.names in
    let h = c.loop-queue.invariant in
    over told number c.in_ok-names.ensures c.args.lanes c.loop-queue.queue c.loop-queue.pending c.loop-queue.free.items c.loop-queue.all.items h
    (c.in_default.ensures.none (2 * length told) (map (name_waits number) told) (named_done c.loop-queue.pending) h.numbers h.queued)

pub returns : goal.returns
returns c =
    let here : c.loop-queue.all.len ≡ length c.loop-queue.all.items = search rules in
    full c.args.told.now (number_of c.in_ok-names.names) c.in_ok-names.ensures c.args.lanes c.loop-queue.queue c.loop-queue.pending c.loop-queue.free.items c.loop-queue.all.items c.loop-queue.invariant (omega arith)

pub first_earliest-lane-requires : goal.first_earliest-lane-requires
first_earliest-lane-requires c =
    let told = c.args.told.now in
    let number = number_of c.in_ok-names.names in
    let h = c.loop-queue.invariant in
    let first = c.in-Some.ensures.some (2 * length told) (map (name_waits number) told) (named_done c.loop-queue.pending) h.numbers h.queued in
    let low = (lane_fits told number c.in_ok-names.ensures c.args.lanes c.loop-queue.queue c.loop-queue.pending c.loop-queue.free.items c.loop-queue.all.items h c.requires.some c.requires.few c.in-Some.ready first.0).0 in
    let is = ap length c.deref.ensures.value in omega arith

pub index-requires : goal.index-requires
index-requires c =
    let told = c.args.told.now in
    let number = number_of c.in_ok-names.names in
    let h = c.loop-queue.invariant in
    let first = c.in-Some.ensures.some (2 * length told) (map (name_waits number) told) (named_done c.loop-queue.pending) h.numbers h.queued in
    let lane : c.first_earliest-lane.result ≡ first_earliest c.loop-queue.free.items = c.first_earliest-lane.ensures ∙ ap first_earliest c.deref.ensures.value in
    let low = (lane_fits told number c.in_ok-names.ensures c.args.lanes c.loop-queue.queue c.loop-queue.pending c.loop-queue.free.items c.loop-queue.all.items h c.requires.some c.requires.few c.in-Some.ready first.0).0 in
    let len : c.loop-queue.free.len ≡ length c.loop-queue.free.items = search rules in omega arith

pub index_mut-requires : goal.index_mut-requires
index_mut-requires c =
    let told = c.args.told.now in
    let number = number_of c.in_ok-names.names in
    let h = c.loop-queue.invariant in
    let first = c.in-Some.ensures.some (2 * length told) (map (name_waits number) told) (named_done c.loop-queue.pending) h.numbers h.queued in
    let lane : c.first_earliest-lane.result ≡ first_earliest c.loop-queue.free.items = c.first_earliest-lane.ensures ∙ ap first_earliest c.deref.ensures.value in
    let low = (lane_fits told number c.in_ok-names.ensures c.args.lanes c.loop-queue.queue c.loop-queue.pending c.loop-queue.free.items c.loop-queue.all.items h c.requires.some c.requires.few c.in-Some.ready first.0).0 in
    let len : c.loop-queue.free.len ≡ length c.loop-queue.free.items = search rules in omega arith

pub overflow_cast-lane : goal.overflow_cast-lane
overflow_cast-lane c =
    let told = c.args.told.now in
    let number = number_of c.in_ok-names.names in
    let h = c.loop-queue.invariant in
    let first = c.in-Some.ensures.some (2 * length told) (map (name_waits number) told) (named_done c.loop-queue.pending) h.numbers h.queued in
    let lane : c.first_earliest-lane.result ≡ first_earliest c.loop-queue.free.items = c.first_earliest-lane.ensures ∙ ap first_earliest c.deref.ensures.value in
    let fits = lane_fits told number c.in_ok-names.ensures c.args.lanes c.loop-queue.queue c.loop-queue.pending c.loop-queue.free.items c.loop-queue.all.items h c.requires.some c.requires.few c.in-Some.ready first.0 in
    let low = fits.0 in let size = fits.1 in
    let few = c.ranges.lanes.fits in
    record { fits = omega arith }

pub bounds-told-ready : goal.bounds-told-ready
bounds-told-ready c =
    let told = c.args.told.now in
    let number = number_of c.in_ok-names.names in
    let h = c.loop-queue.invariant in
    let first = c.in-Some.ensures.some (2 * length told) (map (name_waits number) told) (named_done c.loop-queue.pending) h.numbers h.queued in
    number_fits told number c.in_ok-names.ensures c.args.lanes c.loop-queue.queue c.loop-queue.pending c.loop-queue.free.items c.loop-queue.all.items h c.requires.some c.requires.few c.in-Some.ready first.0

pub run-requires-clause-second : goal.run-requires-clause-second
run-requires-clause-second c =
    let told = c.args.told.now in
    let number = number_of c.in_ok-names.names in
    let h = c.loop-queue.invariant in
    let first = c.in-Some.ensures.some (2 * length told) (map (name_waits number) told) (named_done c.loop-queue.pending) h.numbers h.queued in
    let lane : c.first_earliest-lane.result ≡ first_earliest c.loop-queue.free.items = c.first_earliest-lane.ensures ∙ ap first_earliest c.deref.ensures.value in
    let same = is_one told number c.in_ok-names.ensures c.args.lanes c.loop-queue.queue c.loop-queue.pending c.loop-queue.free.items c.loop-queue.all.items h c.requires.some c.requires.few c.in-Some.ready first.0
    c.first_earliest-lane.result c.index.result.now c.later_of-begin.result lane c.index.ensures c.later_of-begin.ensures in
    let low = second_fits told number c.in_ok-names.ensures c.args.lanes c.loop-queue.queue c.loop-queue.pending c.loop-queue.free.items c.loop-queue.all.items h c.requires.some c.requires.few c.in-Some.ready first.0 in
    let second = ap (λ (t : StartedTurn). t.begin.second) same in
    let fits = number_fits told number c.in_ok-names.ensures c.args.lanes c.loop-queue.queue c.loop-queue.pending c.loop-queue.free.items c.loop-queue.all.items h c.requires.some c.requires.few c.in-Some.ready first.0 in
    let part = get_or-le-sum_by (λ (x : Told). x.seconds) told c.in-Some.ready.number c.index-told-ready.result fits in
    let its = ap (λ (x : Told). x.seconds) c.index-told-ready.is in
    let short = c.requires.short in
    let few = c.requires.few in omega arith

pub run-requires-clause-round : goal.run-requires-clause-round
run-requires-clause-round c =
    let told = c.args.told.now in
    let number = number_of c.in_ok-names.names in
    let h = c.loop-queue.invariant in
    let first = c.in-Some.ensures.some (2 * length told) (map (name_waits number) told) (named_done c.loop-queue.pending) h.numbers h.queued in
    let lane : c.first_earliest-lane.result ≡ first_earliest c.loop-queue.free.items = c.first_earliest-lane.ensures ∙ ap first_earliest c.deref.ensures.value in
    let same = is_one told number c.in_ok-names.ensures c.args.lanes c.loop-queue.queue c.loop-queue.pending c.loop-queue.free.items c.loop-queue.all.items h c.requires.some c.requires.few c.in-Some.ready first.0
    c.first_earliest-lane.result c.index.result.now c.later_of-begin.result lane c.index.ensures c.later_of-begin.ensures in
    let low = round_fits told number c.in_ok-names.ensures c.args.lanes c.loop-queue.queue c.loop-queue.pending c.loop-queue.free.items c.loop-queue.all.items h c.requires.some c.requires.few c.in-Some.ready first.0 in
    let round = ap (λ (t : StartedTurn). t.begin.round) same in omega arith

pub run-requires-clause-known : goal.run-requires-clause-known
run-requires-clause-known c =
    let told = c.args.told.now in
    let number = number_of c.in_ok-names.names in
    let h = c.loop-queue.invariant in
    let first = c.in-Some.ensures.some (2 * length told) (map (name_waits number) told) (named_done c.loop-queue.pending) h.numbers h.queued in (
      told,
      done_at (planning_work told) (reverse c.loop-queue.all.items),
      map (name_waits number) told,
      c.in-Some.ready.number ∷ h.numbers,
      is_planned told number c.in_ok-names.ensures c.args.lanes c.loop-queue.queue c.loop-queue.pending c.loop-queue.free.items c.loop-queue.all.items h c.requires.some c.requires.few c.in-Some.ready first.0 c.take.new.self first.1,
    )

pub loop-queue-preserved : goal.loop-queue-preserved
loop-queue-preserved c =
    let told = c.args.told.now in
    let number = number_of c.in_ok-names.names in
    let h = c.loop-queue.invariant in
    let first = c.in-Some.ensures.some (2 * length told) (map (name_waits number) told) (named_done c.loop-queue.pending) h.numbers h.queued in
    let lane : c.first_earliest-lane.result ≡ first_earliest c.loop-queue.free.items = c.first_earliest-lane.ensures ∙ ap first_earliest c.deref.ensures.value in
    let same = is_one told number c.in_ok-names.ensures c.args.lanes c.loop-queue.queue c.loop-queue.pending c.loop-queue.free.items c.loop-queue.all.items h c.requires.some c.requires.few c.in-Some.ready first.0
    c.first_earliest-lane.result c.index.result.now c.later_of-begin.result lane c.index.ensures c.later_of-begin.ensures in
    let fits = number_fits told number c.in_ok-names.ensures c.args.lanes c.loop-queue.queue c.loop-queue.pending c.loop-queue.free.items c.loop-queue.all.items h c.requires.some c.requires.few c.in-Some.ready first.0 in
    let object = c.index-told-ready.result in
    let part = get_or-le-sum_by (λ (x : Told). x.seconds) told c.in-Some.ready.number object fits in
    let its = ap (λ (x : Told). x.seconds) c.index-told-ready.is in
    let short = c.requires.short in
    let planned = is_planned told number c.in_ok-names.ensures c.args.lanes c.loop-queue.queue c.loop-queue.pending c.loop-queue.free.items c.loop-queue.all.items h c.requires.some c.requires.few c.in-Some.ready first.0 c.take.new.self first.1 in
    let after = c.in_ok-free-2.ensures.planned told (done_at (planning_work told) (reverse c.loop-queue.all.items)) (map (name_waits number) told) (c.in-Some.ready.number ∷ h.numbers) planned in
    let end = c.in_ok-free-2.field-0 in
    let here : c.loop-queue.all.len ≡ length c.loop-queue.all.items = search rules in
    goes_on_with told number c.in_ok-names.ensures c.args.lanes c.loop-queue.queue c.loop-queue.pending c.loop-queue.free.items c.loop-queue.all.items h c.requires.some c.requires.few c.in-Some.ready first.0
    c.run.new.queue c.run.new.pending object (slice_get_read told (length told) c.in-Some.ready.number object refl fits c.index-told-ready.is) (omega arith) end c.push.new.self.items _
    (c.in_ok-free-2.ensures.end ∙ ap (λ (t : StartedTurn). later_by object.seconds t.begin) same)
    (c.in_ok-push.ensures.items ∙ ap (λ (t : StartedTurn). c.loop-queue.all.items ++ t ∷ []) (c.started.ensures ∙ same))
    (ap (λ k. set c.loop-queue.free.items k end) lane)
    after.0 after.1 (omega arith)
