use Rattle.std.proofs.Common.{◌≡◌, ◌≤◌, [], Bool, None, ap, get_or, length, sym, ◌∙◌, arith}
use Rattle.std.specs.Prelude.{◌||◌, is_some}
use Rattle.std.proofs.lemmas.List.{get_or_default}
use Rattle.apply_plan.specs.declared.script.raw_wait.RawWait.{RawWait}
use Rattle.apply_plan.proofs.Scripts.Waited.{all_waited, is_of_none, names_none, names_step, none_waited, number_below}
use Rattle.apply_plan.proofs.script.waited.Waited.of.Goals as goal
use Rattle.apply_plan.proofs.script.waited.Waited.of.Goals.{in-Some-step_of+in_ok-push-in-Some-step_of, in-None+then-lacks_step, in-None+else-lacks_step}

-- the value that a read past the last item would give
abbrev no_item : RawWait
no_item = record { address = record { ref_ptr = (0, 0); now = [] }; deposed = None; step = None }

pub loop-item-init : goal.loop-item-init
loop-item-init c = none_waited c.args.plan.now.changes c.args.items.now c.in_ok-waits.waits.items c.in_ok-waits.ensures.items

pub returns-in_default-clause-defined : goal.returns-in_default-clause-defined
returns-in_default-clause-defined c =
    let items = c.args.items.now in
    let item = get_or items c.loop-item.item-index no_item in
    is_of_none c.args.plan.now.changes items c.loop-item.item-index item c.loop-item-test.true (get_or_default items c.loop-item.item-index no_item item c.loop-item-test.true)
    (c.in_default.ensures ∙ c.requires.numbers (record { address = item.address; deposed = item.deposed }))

pub change-requires : goal.change-requires
change-requires c =
    let item = get_or c.args.items.now c.loop-item.item-index no_item in
    number_below c.args.plan.now.changes item c.in-Some.change (c.in-Some.ensures ∙ c.requires.numbers (record { address = item.address; deposed = item.deposed }))

pub loop-item-preserved : goal.loop-item-preserved
loop-item-preserved c =
    let changes = c.args.plan.now.changes in
    let items = c.args.items.now in
    let i = c.loop-item.item-index in
    let item = get_or items i no_item in
    let is = get_or_default items i no_item item c.loop-item-test.true in
    let known = c.in-Some.ensures ∙ c.requires.numbers (record { address = item.address; deposed = item.deposed }) in
    let count : length c.steps.result.now ≡ length c.change.result.now.steps = ap length c.steps.ensures.steps in
    let few : length c.steps.result.now ≤ 2 = omega (arith, count, c.steps.ensures.few) in
    elim c.match-step_of.branch [
      | in-Some-step_of+in_ok-push-in-Some-step_of w ↦
          rw (w.waits-is, w.lacks_step-is, w.in_ok-push-in-Some-step_of.ensures.items)
          (names_step changes items i item c.in-Some.change (length c.steps.result.now) c.change.result.now c.loop-item.waits.items c.loop-item.lacks_step c.loop-item.invariant c.loop-item-test.true is known c.change.ensures count few
          w.in-Some-step_of.step w.in-Some-step_of.ensures)
      | in-None+then-lacks_step w ↦
          let lacks : c.match-step_of.lacks_step ≡ (c.loop-item.lacks_step || is_some item.step) = w.lacks_step-is ∙ w.if-lacks_step.true ∙ sym (ap (λ (b : Bool). b || is_some item.step) w.if-lacks_step.true) in
          rw (w.waits-is, lacks)
          (names_none changes items i item c.in-Some.change (length c.steps.result.now) c.change.result.now c.loop-item.waits.items c.loop-item.lacks_step c.loop-item.invariant c.loop-item-test.true is known c.change.ensures count few
          w.in-None.ensures)
      | in-None+else-lacks_step w ↦
          let lacks : c.match-step_of.lacks_step ≡ (c.loop-item.lacks_step || is_some item.step) = w.lacks_step-is ∙ w.is_some-lacks_step.ensures ∙ sym (ap (λ (b : Bool). b || is_some item.step) w.if-lacks_step.false) in
          rw (w.waits-is, lacks)
          (names_none changes items i item c.in-Some.change (length c.steps.result.now) c.change.result.now c.loop-item.waits.items c.loop-item.lacks_step c.loop-item.invariant c.loop-item-test.true is known c.change.ensures count few
          w.in-None.ensures)
    ]

pub new-requires : goal.new-requires
new-requires c = let few = c.loop-item.invariant.few in omega (arith, c.loop-item.waits.ok.0, c.requires.few, c.loop-item.auto.item-index-end)

pub returns-clause-defined : goal.returns-clause-defined
returns-clause-defined c = rw c.new.ensures (all_waited c.args.plan.now.changes c.args.items.now c.loop-item.item-index c.loop-item.waits.items c.loop-item.lacks_step c.loop-item.invariant c.loop-item-test.false)

pub returns-clause-placed : goal.returns-clause-placed
returns-clause-placed c = rw c.new.ensures c.loop-item.invariant.placed
