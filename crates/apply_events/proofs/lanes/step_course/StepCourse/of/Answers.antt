use Rattle.std.proofs.Common.{◌≡◌, ℕ, Bool, false, not, List, [], Option, Some, None, refl, ap, ◌∙◌}
use Rattle.std.specs.Prelude.{is_none, is_some, slice_get}
use Rattle.std.specs.Option.{option_map_or}
use Rattle.apply_hooks.specs.declared.phase.Phase.{Phase}
use Rattle.apply_hooks.specs.declared.rule.Rule.{Rule}
use Rattle.apply_hooks.specs.declared.phase.Phase.TheVariants.{Pre, PostDone}
use Rattle.apply_hooks.specs.Hooks.{first_halting}
use Rattle.apply_hooks.specs.Registry.{rules_of}
use Rattle.apply_model.specs.declared.plan.step_kind.StepKind.{StepKind}
use Rattle.apply_model.specs.Plan.ResourceChange.{ResourceChange}
use Rattle.apply_model.specs.Plan.SavedPlan.{SavedPlan}
use Rattle.apply_events.specs.Step.{Step, Work, address_of, step_of}
use Rattle.apply_events.specs.StepEvents.{goes_on}
use Rattle.apply_events.proofs.lanes.step_course.StepCourse.of.Goals as goal

none_is : (answer : Option ℕ) → is_none answer ≡ not (is_some answer)
none_is None = refl
none_is (Some hook) = refl

-- a step that has started and does not fail goes on where no hook halts after it
goes : (s : Step) (before failed later_events : Bool) → before ≡ is_some (s.halts Pre) → before ≡ false → failed ≡ s.fails → failed ≡ false → later_events ≡ is_some (s.halts PostDone)
    → not later_events ≡ goes_on s
goes s before failed later_events halts starts fails ends halts_after =
    rw (none_is (s.halts Pre), none_is (s.halts PostDone), ← halts, ← fails, ← halts_after, starts, ends) refl

-- the address of its change
address_is : (plan : SavedPlan) (c : ℕ) (change : ResourceChange) (address : List ℕ) → Some change ≡ slice_get plan.changes c → address ≡ change.address → address ≡ address_of plan c
address_is plan c change address answer is = is ∙ ap (λ (o : Option ResourceChange). option_map_or (λ (r : ResourceChange). r.address) o []) answer

-- a hook halts it where it is asked of that address
halts_there : (hooks : List (List Rule)) (phase : Phase) (kind : StepKind) (address planned : List ℕ) (halted : Bool) → address ≡ planned
    → halted ≡ is_some (first_halting hooks (record { phase = phase; kind = kind; address = address })) → halted ≡ is_some (first_halting hooks (record { phase = phase; kind = kind; address = planned }))
halts_there hooks phase kind address planned halted same is = rw (← same) is

pub returns-then-not-facts-clause-goes_on : goal.returns-then-not-facts-clause-goes_on
returns-then-not-facts-clause-goes_on g c =
    let w : Work = record { plan = c.args.plan.now; script = c.args.script.now; hooks = rules_of c.args.registry.now } in
    let at = address_is c.args.plan.now c.args.change c.change.result.now c.address-address.result.now c.change.ensures c.address-address.ensures in
    goes (step_of w c.args.change c.args.step c.args.kind) c.is_halted.result c.new-facts.result.fails c.is_halted-then-not-facts.result
    (halts_there w.hooks Pre c.args.kind c.address-address.result.now (address_of w.plan c.args.change) c.is_halted.result at c.is_halted.ensures) c.if-is_halted.false
    c.new-facts.ensures.fails c.if-not-facts.true
    (halts_there w.hooks PostDone c.args.kind c.address-address.result.now (address_of w.plan c.args.change) c.is_halted-then-not-facts.result at c.is_halted-then-not-facts.ensures)
