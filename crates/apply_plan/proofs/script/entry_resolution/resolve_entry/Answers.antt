use Rattle.std.proofs.Common.{◌≡◌, ◌-◌, ◌<◌, ℕ, Option, None, Some, false, length, map, option_map, sym, ◌∙◌, arith}
use Rattle.std.specs.Prelude.{is_some}
use Rattle.std.proofs.lemmas.Result.{err_from_is_err_and}
use Rattle.serde_json.specs.Data.{Data}
use Rattle.apply_model.specs.Script.Limits.{max_waits}
use Rattle.apply_plan.specs.declared.script.script_error.ScriptError.{ScriptError}
use Rattle.apply_plan.specs.declared.script.script_error.ScriptError.TheVariants.{TooManyWaits}
use Rattle.apply_plan.specs.Results.{unless_refused}
use Rattle.apply_plan.specs.Script.Entry.{entry_of}
use Rattle.apply_plan.specs.Script.NextEntry.{resolved_next}
use Rattle.apply_plan.specs.Script.OutcomeMap.{resolved_by}
use Rattle.apply_plan.specs.Script.Refusals.{fault_of_entry, fault_of_names, fault_of_steps}
use Rattle.apply_plan.specs.Script.RawView.{entry_step_view, entry_view, step_view, waits_within}
use Rattle.apply_plan.specs.Script.WaitedStep.{resolved_step}
use Rattle.apply_plan.proofs.Scripts.Entries.{change_numbered, is_numbered, not_numbered, some_change}
use Rattle.apply_plan.proofs.Scripts.OneEntry.{IsLocated, accepted, also_refused, answered, count_within, entry_found, fault_of_count, fault_of_items, fault_of_outcomes, few_steps, malformed, repeats, unknown}
use Rattle.apply_plan.proofs.Scripts.Limits.{none_in_tree}
use Rattle.apply_plan.proofs.script.entry_resolution.resolve_entry.Goals as goal
use Rattle.apply_plan.proofs.script.entry_resolution.resolve_entry.Goals.{After-change-known, In-Some-get}

-- the number of the change of the entry is in the plan
within : (c : In-Some-get) → c.in-Some-get.change < length c.args.plan.now.changes
within c =
    is_numbered c.args.plan.now.changes (entry_view c.in-Some.entry) c.in-Some-get.change
    (c.in-Some-get.ensures ∙ c.requires.numbers (record { address = c.in-Some.entry.address; deposed = c.in-Some.entry.deposed }))

-- the reader has located the entry and its change
located : (c : After-change-known) (d : Data) → option_map entry_view c.args.entry.now ≡ entry_of d → IsLocated c.args.plan.now.changes c.args.outcomes.now d c.in-Some.entry c.in-Some-get.change c.change-known.result.now c.index-outcomes-change.result
located c d is =
    let known = c.in-Some-get.ensures ∙ c.requires.numbers (record { address = c.in-Some.entry.address; deposed = c.in-Some.entry.deposed }) in
    let below = is_numbered c.args.plan.now.changes (entry_view c.in-Some.entry) c.in-Some-get.change known in
    record {
      entry_is = entry_found d c.args.entry.now c.in-Some.entry is c.in-Some.is;
      change_is = change_numbered c.args.plan.now.changes (entry_view c.in-Some.entry) c.in-Some-get.change c.change-known.result.now known c.change-known.ensures;
      below = omega (arith, below, c.requires.outcomes);
      there_is = c.index-outcomes-change.is;
    }

pub returns-in_default-clause-defined : goal.returns-in_default-clause-defined
returns-in_default-clause-defined c = λ d is memory. malformed c.args.plan.now.changes c.args.outcomes.now c.args.earlier c.args.number d c.args.entry.now is c.in_default.is

pub returns-in_default-get-clause-defined : goal.returns-in_default-get-clause-defined
returns-in_default-get-clause-defined c = λ d is memory.
    unknown c.args.plan.now.changes c.args.outcomes.now c.args.earlier c.args.number d c.args.entry.now c.in-Some.entry is c.in-Some.is
    (not_numbered _ (c.in_default-get.ensures ∙ c.requires.numbers (record { address = c.in-Some.entry.address; deposed = c.in-Some.entry.deposed })))

pub bounds-outcomes-change : goal.bounds-outcomes-change
bounds-outcomes-change c = let below = within (goal.at.bounds-outcomes-change c).In-Some-get in omega (arith, below, c.requires.outcomes)

pub change-known-requires : goal.change-known-requires
change-known-requires c = within (goal.at.change-known-requires c).In-Some-get

pub returns-then-is_some-clause-defined : goal.returns-then-is_some-clause-defined
returns-then-is_some-clause-defined c = λ d is memory.
    let known = c.in-Some-get.ensures ∙ c.requires.numbers (record { address = c.in-Some.entry.address; deposed = c.in-Some.entry.deposed }) in
    let some = some_change c.args.plan.now.changes (entry_view c.in-Some.entry) c.in-Some-get.change known in
    let below = within (goal.at.returns-then-is_some-clause-defined c).In-Some-get in
    repeats c.args.plan.now.changes c.args.outcomes.now c.args.earlier c.args.number d c.in-Some.entry c.in-Some-get.change some.0 c.index-outcomes-change.result
    (record {
      entry_is = entry_found d c.args.entry.now c.in-Some.entry is c.in-Some.is;
      change_is = some.1;
      below = omega (arith, below, c.requires.outcomes);
      there_is = c.index-outcomes-change.is;
    })
    (sym c.if-is_some.ensures)

-- the result, by the fault of the entry
answered_by : (c : After-change-known) (d : Data) → option_map entry_view c.args.entry.now ≡ entry_of d → (fault : Option ScriptError) → is_some c.index-outcomes-change.result ≡ false → fault_of_entry c.args.number c.args.plan.now.changes c.args.earlier c.change-known.result.now (entry_view c.in-Some.entry).steps ≡ fault
    → resolved_next c.args.plan.now.changes c.args.outcomes.now c.args.earlier c.args.number d ≡ unless_refused fault (resolved_by c.args.plan.now.changes c.in-Some-get.change (entry_view c.in-Some.entry).steps)
answered_by c d read fault none is =
    answered c.args.plan.now.changes c.args.outcomes.now c.args.earlier c.args.number d c.in-Some.entry c.in-Some-get.change c.change-known.result.now c.index-outcomes-change.result fault (located c d read) none is

-- the result, if the items are not too many
by_items : (c : After-change-known) (d : Data) → option_map entry_view c.args.entry.now ≡ entry_of d → is_some c.index-outcomes-change.result ≡ false → None ≡ fault_of_steps c.args.number (is_some c.change-known.result.now.deposed) c.change-known.result.now.steps (map step_view c.in-Some.entry.steps.items)
    → (count : ℕ) → Some count ≡ waits_within (max_waits - c.args.earlier) c.in-Some.entry.steps.items
    → resolved_next c.args.plan.now.changes c.args.outcomes.now c.args.earlier c.args.number d
    ≡ unless_refused (fault_of_names c.args.number c.args.plan.now.changes (map entry_step_view c.in-Some.entry.steps.items)) (resolved_by c.args.plan.now.changes c.in-Some-get.change (map entry_step_view c.in-Some.entry.steps.items))
by_items c d read none clear count is =
    let within = count_within (max_waits - c.args.earlier) c.in-Some.entry.steps.items count is in
    answered_by c d read (fault_of_names c.args.number c.args.plan.now.changes (map entry_step_view c.in-Some.entry.steps.items)) none
    (fault_of_items c.args.number c.args.plan.now.changes c.args.earlier c.change-known.result.now c.in-Some.entry.steps.items clear (omega (arith, within.1, c.requires.earlier)))

pub returns-in-Some-fault-clause-defined : goal.returns-in-Some-fault-clause-defined
returns-in-Some-fault-clause-defined c = λ d is memory.
    answered_by (goal.at.returns-in-Some-fault-clause-defined c).After-change-known d is (Some c.in-Some-fault.fault) (sym c.if-is_some.ensures)
    (fault_of_outcomes c.args.number c.args.plan.now.changes c.args.earlier c.change-known.result.now c.in-Some.entry.steps.items c.in-Some-fault.fault (rw (c.is_deposed.ensures, c.steps.ensures.steps) at c.in-Some-fault.ensures))

pub returns-in_default-count_of_waits-clause-defined : goal.returns-in_default-count_of_waits-clause-defined
returns-in_default-count_of_waits-clause-defined c = λ d is memory.
    answered_by (goal.at.returns-in_default-count_of_waits-clause-defined c).After-change-known d is (Some (TooManyWaits c.args.number)) (sym c.if-is_some.ensures)
    (fault_of_count c.args.number c.args.plan.now.changes c.args.earlier c.change-known.result.now c.in-Some.entry.steps.items (rw (c.is_deposed.ensures, c.steps.ensures.steps) at c.in_default-fault.ensures) c.requires.earlier c.in_default-count_of_waits.ensures)

pub resolve_steps-requires-clause-bounded : goal.resolve_steps-requires-clause-bounded
resolve_steps-requires-clause-bounded c =
    rw c.deref.ensures.value (none_in_tree c.args.number c.is_deposed.result c.steps.result.now c.in-Some.entry.steps.items (sym c.in_default-fault.ensures))

pub resolve_steps-requires-clause-few : goal.resolve_steps-requires-clause-few
resolve_steps-requires-clause-few c =
    let count = count_within (max_waits - c.args.earlier) c.in-Some.entry.steps.items c.in-Some-count_of_waits.waits c.in-Some-count_of_waits.ensures in
    rw c.deref.ensures.value (omega (arith, count.1))

pub returns-in_err-steps-clause-defined : goal.returns-in_err-steps-clause-defined
returns-in_err-steps-clause-defined c =
    let p = err_from_is_err_and c.from_residual.result c.from_residual.ensures.1 in
    let at = (goal.at.returns-in_err-steps-clause-defined c).After-change-known in
    let steps = c.in-Some.entry.steps.items in
    rw (p.1, p.2)
    (λ d is memory.
    by_items at d is (sym c.if-is_some.ensures) (rw (c.is_deposed.ensures, c.steps.ensures.steps) at c.in_default-fault.ensures) c.in-Some-count_of_waits.waits c.in-Some-count_of_waits.ensures
    ∙ also_refused (fault_of_names c.args.number c.args.plan.now.changes (map entry_step_view steps)) (map (resolved_step c.args.plan.now.changes) (map entry_step_view steps)) _ _ (rw c.deref.ensures.value at (c.in_err-steps.ensures.defined memory)))

pub returns-clause-defined : goal.returns-clause-defined
returns-clause-defined c = λ d is.
    let count = count_within (max_waits - c.args.earlier) c.in-Some.entry.steps.items c.in-Some-count_of_waits.waits c.in-Some-count_of_waits.ensures in
    accepted c.args.number c.args.plan.now.changes c.in-Some-get.change c.in-Some.entry.steps.items c.in_ok-steps.steps c.in-Some-count_of_waits.waits _
    (by_items (goal.at.returns-clause-defined c).After-change-known d is (sym c.if-is_some.ensures) (rw (c.is_deposed.ensures, c.steps.ensures.steps) at c.in_default-fault.ensures) c.in-Some-count_of_waits.waits c.in-Some-count_of_waits.ensures)
    (rw c.deref.ensures.value at c.in_ok-steps.ensures.defined) count.0

pub returns-clause-within : goal.returns-clause-within
returns-clause-within c = let below = within (goal.at.returns-clause-within c).In-Some-get in omega (arith, below, c.requires.outcomes)

pub returns-clause-placed : goal.returns-clause-placed
returns-clause-placed c =
    let made = rw c.deref.ensures.value at c.in_ok-steps.ensures.defined in
    let few = few_steps c.args.number c.args.plan.now.changes (is_some c.change-known.result.now.deposed) c.change-known.result.now.steps c.in-Some.entry.steps.items c.in_ok-steps.steps (rw (c.is_deposed.ensures, c.steps.ensures.steps) at c.in_default-fault.ensures) made in
    rw c.requires.outcomes (record { few = omega (arith, few, c.steps.ensures.few); placed = c.in_ok-steps.ensures.placed })

pub returns-clause-few : goal.returns-clause-few
returns-clause-few c =
    let count = count_within (max_waits - c.args.earlier) c.in-Some.entry.steps.items c.in-Some-count_of_waits.waits c.in-Some-count_of_waits.ensures in
    omega (arith, count.0, count.1, c.requires.earlier)
