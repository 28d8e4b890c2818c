-- The events of a change's steps, one step after another.
use Rattle.std.proofs.Common.{◌≡◌, ℕ, ◌+◌, suc, List, [], ◌∷◌, ◌++◌, map, Bool, true, false, cond, length, option_map, option_to_list, Option, None, Some, refl, sym, ap, ◌∙◌, subst, slice_get, arith, append-nil, inl, inr, ⊎_elim}
use Rattle.std.specs.Prelude.{◌==◌, is_some, not}
use Rattle.std.proofs.lemmas.Bool.{and_parts, not-true}
use Rattle.std.specs.List.{enumerate_from}
use Rattle.std.specs.Option.{option_map_or}
use Rattle.std.proofs.lemmas.Option.{slice_get_within}
use Rattle.apply_model.specs.declared.plan.step_kind.StepKind.{StepKind}
use Rattle.apply_model.specs.declared.plan.step_kind.StepKind.TheVariants as does
use Rattle.apply_plan.specs.Plan.SavedPlan.{SavedPlan}
use Rattle.apply_plan.specs.Plan.ResourceChange.{ResourceChange}
use Rattle.apply_plan.specs.Script.Outcome.{ran}
use Rattle.apply_plan.specs.Script.Refusals.{takes_provisioners}
use Rattle.apply_hooks.specs.declared.phase.Phase.TheVariants.{Pre}
use Rattle.apply_events.specs.declared.event.Event.{Event}
use Rattle.apply_events.specs.declared.what.What.TheVariants.{Halted}
use Rattle.apply_events.specs.Diagnostics.{is_note}
use Rattle.apply_events.specs.Step.{Step, Work, kinds_applied, kinds_of, step_of, steps_of}
use Rattle.apply_events.specs.StepEvents.{event, goes_on, start_events, step_events, emits_end}
use Rattle.apply_text.specs.Order.{hook_messages_of, notes_of}
use Rattle.laws_check.specs.Plans.{IsChange, IsOrdinary, ProvisionsCreates, WarnsOfReads}
use Rattle.laws_check.specs.ReadBack.{action_of}
use Rattle.laws_check.specs.WholeSteps.{AreOfSteps}
use Rattle.laws_check.proofs.Phases.{IsAtRest, MayRun, Phase, between, under_way}
use Rattle.laws_check.proofs.AppliedKinds.{applied_is_planned}
use Rattle.laws_check.proofs.Deeds.{Leads, leads_on}
use Rattle.laws_check.proofs.Ordinary.{Provides, deleted, located}
use Rattle.laws_check.proofs.StepDeeds.{IsOfKind, MayProvision, goes_between, filtered_both, left_hooks, left_notes, phase_then, step_hooks, step_notes, step_warns}

-- a step that only warns is a read, with no step after it
abbrev IsLastReadIfItOnlyWarns : StepKind → Step → List Step → Type 0
IsLastReadIfItOnlyWarns kind s steps = s.only_warns ≡ true → (kind ≡ does.Read) × (steps ≡ [])

abbrev ArePlanned : (may : Type 0) → SavedPlan → List Step → Type 0
ArePlanned may plan [] = Unit {0}
ArePlanned may plan (s ∷ steps) = ((kind : StepKind) × IsOfKind plan kind s × MayProvision may kind s × IsLastReadIfItOnlyWarns kind s steps) × ArePlanned may plan steps

planned : (may : Type 0) (work : Work) (c n : ℕ) (kinds : List StepKind) → ((i : ℕ) (kind : StepKind) → slice_get kinds i ≡ Some kind → slice_get (kinds_of work.plan c) (n + i) ≡ Some kind)
    → ((i : ℕ) (kind : StepKind) → slice_get (kinds_of work.plan c) i ≡ Some kind → MayProvision may kind (step_of work c i kind))
    → ((i : ℕ) (kind : StepKind) → slice_get (kinds_of work.plan c) i ≡ Some kind → (step_of work c i kind).only_warns ≡ true → (kind ≡ does.Read) × (length (kinds_of work.plan c) ≡ i + 1))
    → ArePlanned may work.plan (map (λ p. step_of work c p.0 p.1) (enumerate_from n kinds))
planned may work c n [] is runs warns = tt
planned may work c n (kind ∷ kinds) is runs warns =
    let here : n + 0 ≡ n = omega arith in
    let lookup : slice_get (kinds_of work.plan c) n ≡ Some kind = subst (λ (x : ℕ). slice_get (kinds_of work.plan c) x ≡ Some kind) here (is 0 kind refl) in (
      (kind, lookup, runs n kind lookup, λ only. let last = warns n kind lookup only in (last.0, ap (λ (l : List StepKind). map (λ p. step_of work c p.0 p.1) (enumerate_from (n + 1) l)) (none_after kinds rest last.1))),
      planned may work c (n + 1) kinds rest runs warns,
    )
  where
    rest : (i : ℕ) (k : StepKind) → slice_get kinds i ≡ Some k → slice_get (kinds_of work.plan c) (n + 1 + i) ≡ Some k
    rest i k located = let next : n + suc i ≡ n + 1 + i = omega arith in subst (λ (x : ℕ). slice_get (kinds_of work.plan c) x ≡ Some k) next (is (suc i) k located)

    none_after : (others : List StepKind) → ((i : ℕ) (k : StepKind) → slice_get others i ≡ Some k → slice_get (kinds_of work.plan c) (n + 1 + i) ≡ Some k) → length (kinds_of work.plan c) ≡ n + 1 → others ≡ []
    none_after [] there all = refl
    none_after (k ∷ others) there all = absurd (let within = slice_get_within (kinds_of work.plan c) (n + 1 + 0) k (there 0 k refl) in omega arith)

-- a step has provisioners only where it takes them
may_run : (work : Work) → IsOrdinary work.plan → ProvisionsCreates work.plan work.script → (c i : ℕ) (kind : StepKind) → slice_get (kinds_of work.plan c) i ≡ Some kind → MayProvision (Provides work.plan c) kind (step_of work c i kind)
may_run work ordinary none c i kind is =
    let there = located (slice_get work.plan.changes c) i kind is in
    by_test there.0 there.1 there.2 (takes_provisioners (is_some there.0.deposed) (i, kind)) refl
  where
    not_deposed : (change : ResourceChange) → IsChange work.plan c change → slice_get change.steps i ≡ Some kind → (kind ≡ does.Delete → ⊥) → (b : Bool) → is_some change.deposed ≡ b → is_some change.deposed ≡ false
    not_deposed change place step other false e = e
    not_deposed change place step other true e = absurd (other (deleted work.plan ordinary c i kind change place step e))

    takes : (k : StepKind) → k ≡ kind → (change : ResourceChange) → IsChange work.plan c change → slice_get change.steps i ≡ Some kind → takes_provisioners (is_some change.deposed) (i, k) ≡ true → MayRun (Provides work.plan c) (action_of k)
    takes does.Create same change place step e =
        ((change, place, not_deposed change place step (λ (deletes : kind ≡ does.Delete). let never : does.Create ≡ does.Delete = same ∙ deletes in cc) (is_some change.deposed) refl), inl refl)
    takes does.Update same change place step e = absurd cc
    takes does.Delete same change place step e = ((change, place, not-true (is_some change.deposed) (and_parts (i == 0) (not (is_some change.deposed)) e).1), inr refl)
    takes does.Read same change place step e = absurd cc

    by_test : (change : ResourceChange) → IsChange work.plan c change → slice_get change.steps i ≡ Some kind → (b : Bool) → takes_provisioners (is_some change.deposed) (i, kind) ≡ b → MayProvision (Provides work.plan c) kind (step_of work c i kind)
    by_test change place step true e = inr (takes kind refl change place step e)
    by_test change place step false e = inl (ap ran (none c i change kind place step e))

-- a step only warns where it is the last read of its change
warns_last : (work : Work) → WarnsOfReads work.plan work.script → (c i : ℕ) (kind : StepKind) → slice_get (kinds_of work.plan c) i ≡ Some kind → (step_of work c i kind).only_warns ≡ true
    → (kind ≡ does.Read) × (length (kinds_of work.plan c) ≡ i + 1)
warns_last work reads c i kind is only =
    let there = located (slice_get work.plan.changes c) i kind is in
    let last = reads c i there.0 kind there.1 there.2 only in
    (last.0, ap (λ (o : Option ResourceChange). length (option_map_or (λ (change : ResourceChange). change.steps) o [])) there.1 ∙ last.1)

-- where the hook messages of these events leave a change, if their diagnostics lead it from there
-- to rest
pub record Written (may : Type 0) (plan : SavedPlan) (es : List Event) : Type 0 where
  pub phase : Phase
  pub last : Phase
  pub rests : IsAtRest last
  pub hooks : Leads may plan between (hook_messages_of es) phase
  pub notes : Leads may plan phase (notes_of es) last

nothing_written : (may : Type 0) (plan : SavedPlan) → Written may plan []
nothing_written may plan = record { phase = between; last = between; rests = tt; hooks = refl; notes = refl }

-- which steps have no message of their end
leaves_open : (fails only : Bool) → emits_end fails only ≡ false → only ≡ true
leaves_open true only e = absurd cc
leaves_open false true e = refl
leaves_open false false e = absurd cc

steps_written : (may : Type 0) (plan : SavedPlan) (steps : List Step) (es : List Event) → ArePlanned may plan steps → AreOfSteps steps es → Written may plan es
steps_written may plan [] es h are = subst (Written may plan) (sym are) (nothing_written may plan)
steps_written may plan (s ∷ steps) es h are =
    ⊎_elim
    (λ (none : es ≡ []). subst (Written may plan) (sym none) (nothing_written may plan))
    (λ (some : (w : ℕ) × (at : ℕ) × (rest : List Event) × (es ≡ step_events w s at ++ rest) × (goes_on s ≡ true → AreOfSteps steps rest) × (goes_on s ≡ false → rest ≡ [])).
    subst (Written may plan) (sym some.3) (either some.0 some.1 some.2 (λ on. steps_written may plan steps some.2 h.1 (some.4 on)) some.4 some.5 (goes_on s) refl (emits_end s.fails s.only_warns) refl))
    are
  where
    -- such a step stays under way, and nothing comes after it
    left_open : (w at : ℕ) (rest : List Event) → rest ≡ [] → emits_end s.fails s.only_warns ≡ false → Written may plan (step_events w s at ++ rest)
    left_open w at others none leaves =
        subst (Written may plan) (sym (ap (λ (l : List Event). step_events w s at ++ l) none ∙ append-nil (step_events w s at))) (of_halt (s.halts Pre))
      where
        of_halt : (located : Option ℕ) → Written may plan (cond (is_some located) (option_to_list (option_map (λ hook. event w s at (Halted Pre hook)) located)) (start_events w s at))
        of_halt (Some hook) = record { phase = between; last = between; rests = tt; hooks = refl; notes = (between, (h.0.0, h.0.1, refl), refl) }
        of_halt None =
            let hooks = left_hooks may plan h.0.0 w s h.0.1 h.0.2 leaves at in
            record {
              phase = under_way (action_of h.0.0) hooks.0 false;
              last = under_way (action_of h.0.0) hooks.0 false;
              rests = ap action_of (h.0.3 (leaves_open s.fails s.only_warns leaves)).0;
              hooks = hooks.1;
              notes = left_notes may plan h.0.0 w s h.0.1 h.0.2 leaves at hooks.0;
            }

    either : (w at : ℕ) (rest : List Event) → (goes_on s ≡ true → Written may plan rest) → (goes_on s ≡ true → AreOfSteps steps rest) → (goes_on s ≡ false → rest ≡ []) → (on : Bool) → goes_on s ≡ on
        → (emitted : Bool) → emits_end s.fails s.only_warns ≡ emitted → Written may plan (step_events w s at ++ rest)
    either w at others then of none true on false leaves =
        left_open w at others (subst (λ (l : List Step). AreOfSteps l others) (h.0.3 (leaves_open s.fails s.only_warns leaves)).1 (of on)) leaves
    either w at others then of none false off false leaves = left_open w at others (none off) leaves
    either w at others then of none true on true ends =
        let rest = then on in
        record {
          phase = rest.phase;
          last = rest.last;
          rests = rest.rests;
          hooks = subst (λ (es : List Event). Leads may plan between es rest.phase) (sym (filtered_both (λ e. not (is_note e.what)) (step_events w s at) others))
              (leads_on may plan between between rest.phase (hook_messages_of (step_events w s at)) (hook_messages_of others)
              (subst (Leads may plan between (hook_messages_of (step_events w s at))) (goes_between may plan h.0.0 w s h.0.1 h.0.2 on) (step_hooks may plan h.0.0 w s h.0.1 h.0.2 ends at)) rest.hooks);
          notes = subst (λ (es : List Event). Leads may plan rest.phase es rest.last) (sym (filtered_both (λ e. is_note e.what) (step_events w s at) others))
              (leads_on may plan rest.phase rest.phase rest.last (notes_of (step_events w s at)) (notes_of others) (step_warns may plan h.0.0 w s h.0.1 h.0.2 ends on at rest.phase) rest.notes);
        }
    either w at others then of none false off true ends =
        let whole : step_events w s at ++ others ≡ step_events w s at = ap (λ (l : List Event). step_events w s at ++ l) (none off) ∙ append-nil (step_events w s at) in
        record {
          phase = phase_then may plan h.0.0 w s h.0.1 h.0.2 (is_some (s.halts Pre)) s.fails;
          last = between;
          rests = tt;
          hooks = subst (λ (es : List Event). Leads may plan between (hook_messages_of es) (phase_then may plan h.0.0 w s h.0.1 h.0.2 (is_some (s.halts Pre)) s.fails)) (sym whole) (step_hooks may plan h.0.0 w s h.0.1 h.0.2 ends at);
          notes = subst (λ (es : List Event). Leads may plan (phase_then may plan h.0.0 w s h.0.1 h.0.2 (is_some (s.halts Pre)) s.fails) (notes_of es) between) (sym whole) (step_notes may plan h.0.0 w s h.0.1 h.0.2 ends at);
        }

-- The hook messages of a change lead it from between two steps to its end, a failure, or a read
-- that only warns. Its diagnostics lead it from there to the end.
pub change_written : (work : Work) → IsOrdinary work.plan → ProvisionsCreates work.plan work.script → WarnsOfReads work.plan work.script → (c : ℕ) (es : List Event) → AreOfSteps (steps_of work c) es → Written (Provides work.plan c) work.plan es
change_written work ordinary none reads c es are =
    steps_written (Provides work.plan c) work.plan (steps_of work c) es
    (planned (Provides work.plan c) work c 0 (kinds_applied work.plan work.script c)
    (λ i kind applied. let same : i ≡ 0 + i = omega arith in subst (λ (x : ℕ). slice_get (kinds_of work.plan c) x ≡ Some kind) same (applied_is_planned work.plan work.script c i kind applied))
    (may_run work ordinary none c) (warns_last work reads c))
    are
