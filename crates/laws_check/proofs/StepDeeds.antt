-- The events of a step: its hook messages, and its diagnostics.
use Rattle.std.proofs.Common.{◌≡◌, ℕ, ◌+◌, ◌≤◌, List, [], ◌∷◌, ◌++◌, map, filter, Bool, true, false, cond, Option, Some, None, refl, sym, ap, ◌∙◌, subst, slice_get, option_map, option_to_list, append-nil, All, ◌⊎◌, arith}
use Rattle.std.specs.Prelude.{◌&&◌, is_none, is_some, not}
use Rattle.std.proofs.lemmas.Bool.{and_parts, not-true}
use Rattle.std.proofs.lemmas.List.Elements.{All-head, All-tail}
use Rattle.apply_model.specs.declared.plan.step_kind.StepKind.{StepKind}
use Rattle.apply_plan.specs.Plan.SavedPlan.{SavedPlan}
use Rattle.apply_hooks.specs.declared.phase.Phase as asked
use Rattle.apply_hooks.specs.declared.phase.Phase.TheVariants.{Pre, PostDone}
use Rattle.apply_events.specs.declared.event.Event.{Event}
use Rattle.apply_events.specs.declared.what.What.{What}
use Rattle.apply_events.specs.declared.what.What.TheVariants.{Start, WarnNote, Halted}
use Rattle.apply_events.specs.Diagnostics.{is_note}
use Rattle.apply_events.specs.Step.{Step, kinds_of}
use Rattle.apply_events.specs.StepEvents as told_in
use Rattle.apply_events.specs.StepEvents.{end_of, endings, event, goes_on, halts, notes, phase_after, seconds_of, start_events, step_events, step_time, emits_end}
use Rattle.apply_text.specs.Order.{hook_messages_of, notes_of}
use Rattle.laws_check.specs.ReadBack.{action_of}
use Rattle.laws_check.proofs.Phases.{MayRun, Phase, between, under_way, unexplained}
use Rattle.laws_check.proofs.BetweenSteps.{Passes, along_goes, no_note}
use Rattle.laws_check.proofs.Deeds.{Leads, leads_on}

-- ---- filters

pub filtered_both : (test : Event → Bool) (es fs : List Event) → filter test (es ++ fs) ≡ filter test es ++ filter test fs
filtered_both test [] fs = refl
filtered_both test (e ∷ es) fs = at (test e) (filtered_both test es fs)
  where
    at : (b : Bool) → filter test (es ++ fs) ≡ filter test es ++ filter test fs → cond b (e ∷ filter test (es ++ fs)) (filter test (es ++ fs)) ≡ cond b (e ∷ filter test es) (filter test es) ++ filter test fs
    at true is = ap (λ (l : List Event). e ∷ l) is
    at false is = is

is_nothing : (o : Option ℕ) → is_none o ≡ true → o ≡ None
is_nothing None e = refl
is_nothing (Some x) e = absurd cc

-- ---- a step

-- the plan has the step, which is of that kind
abbrev pub IsOfKind : SavedPlan → StepKind → Step → Type 0
IsOfKind plan kind s = slice_get (kinds_of plan s.change) s.number ≡ Some kind

-- the step runs no provisioners, or it may run some
abbrev pub MayProvision : (may : Type 0) → StepKind → Step → Type 0
MayProvision may kind s = (s.ran ≡ []) ⊎ MayRun may (action_of kind)

module _ (may : Type 0) (plan : SavedPlan) (kind : StepKind) (w : ℕ) (s : Step) (is : IsOfKind plan kind s) (may_provision : MayProvision may kind s) where
  halted : (phase : asked.Phase) (at : ℕ) (located : Option ℕ) → Leads may plan between (option_to_list (option_map (λ hook. event w s at (Halted phase hook)) located)) between
  halted phase at None = refl
  halted phase at (Some hook) = (between, (kind, is, refl), refl)

  -- what happens between its start and its end, as events
  events_of : (at : ℕ) → List (ℕ × What) → List Event
  events_of at xs = map (λ (x : ℕ × What). event w s (at + x.0) x.1) xs

  leads_passed : (at : ℕ) (p : Phase) (xs : List (ℕ × What)) (r : Phase) → Passes may (action_of kind) p xs r → Leads may plan p (events_of at xs) r
  unfolding events_of
  leads_passed at p [] r h = h
  leads_passed at p (x ∷ xs) r h = (h.0, (kind, is, h.1), leads_passed at h.0 xs r h.2)

  -- ---- hook messages, and the diagnostics after all of them

  -- where the change is after the step's hook messages
  abbrev pub phase_then : (halted_before fails : Bool) → Phase
  phase_then true fails = between
  phase_then false true = unexplained
  phase_then false false = between

  end_leads : (fails : Bool) (at last end : ℕ) → last ≤ end → Leads may plan (under_way (action_of kind) last false) (event w s at (end_of fails end) ∷ []) (phase_then false fails)
  end_leads true at last end fits = (unexplained, (kind, is, (refl, refl, fits, refl)), refl)
  end_leads false at last end fits = (between, (kind, is, (refl, refl, fits, refl)), refl)

  hook_events : (at : ℕ) → List Event
  hook_events at = event w s at Start ∷ [] ++ events_of at (told_in.between s) ++ event w s (at + seconds_of s) (end_of s.fails (seconds_of s)) ∷ []

  notes_have_texts : (at : ℕ) → List Event
  notes_have_texts at = map (λ what. event w s (at + seconds_of s) what) (notes s.fails s.warns) ++ halts w s (phase_after s.fails) (at + seconds_of s)

  no_notes : (at : ℕ) (xs : List (ℕ × What)) → All (λ (x : ℕ × What). is_note x.1 ≡ false) xs → (hook_messages_of (events_of at xs) ≡ events_of at xs) × (notes_of (events_of at xs) ≡ [])
  unfolding events_of
  no_notes at [] none = (refl, refl)
  no_notes at (x ∷ xs) none =
      let rest = no_notes at xs (All-tail (λ (y : ℕ × What). is_note y.1 ≡ false) x xs none) in
      let here : is_note x.1 ≡ false = All-head (λ (y : ℕ × What). is_note y.1 ≡ false) x xs none in
      let e = event w s (at + x.0) x.1 in (
        ap (λ (b : Bool). cond (not b) (e ∷ hook_messages_of (events_of at xs)) (hook_messages_of (events_of at xs))) here ∙ ap (λ (l : List Event). e ∷ l) rest.0,
        ap (λ (b : Bool). cond b (e ∷ notes_of (events_of at xs)) (notes_of (events_of at xs))) here ∙ rest.1,
      )

  only_end : (fails warns : Bool) (at end : ℕ) → (hook_messages_of (map (λ what. event w s at what) (end_of fails end ∷ notes fails warns)) ≡ event w s at (end_of fails end) ∷ [])
      × (notes_of (map (λ what. event w s at what) (end_of fails end ∷ notes fails warns)) ≡ map (λ what. event w s at what) (notes fails warns))
  only_end true warns at end = (refl, refl)
  only_end false true at end = (refl, refl)
  only_end false false at end = (refl, refl)

  only_halt : (phase : asked.Phase) (at : ℕ) (located : Option ℕ) → (hook_messages_of (option_to_list (option_map (λ hook. event w s at (Halted phase hook)) located)) ≡ [])
      × (notes_of (option_to_list (option_map (λ hook. event w s at (Halted phase hook)) located)) ≡ option_to_list (option_map (λ hook. event w s at (Halted phase hook)) located))
  only_halt phase at None = (refl, refl)
  only_halt phase at (Some hook) = (refl, refl)

  -- a step whose end has a message
  started_split : emits_end s.fails s.only_warns ≡ true → (at : ℕ) → (hook_messages_of (start_events w s at) ≡ hook_events at) × (notes_of (start_events w s at) ≡ notes_have_texts at)
  unfolding hook_events notes_have_texts events_of
  started_split ends at =
      let start = event w s at Start ∷ [] in
      let middle = map (λ (x : ℕ × What). event w s (at + x.0) x.1) (told_in.between s) in
      let last = map (λ what. event w s (at + seconds_of s) what) (endings s) in
      let halt = halts w s (phase_after s.fails) (at + seconds_of s) in
      let m = no_notes at (told_in.between s) (no_note s) in
      let all = only_end s.fails s.warns (at + seconds_of s) (seconds_of s) in
      let are : endings s ≡ end_of s.fails (seconds_of s) ∷ notes s.fails s.warns = ap (λ (b : Bool). cond b (end_of s.fails (seconds_of s) ∷ notes s.fails s.warns) (WarnNote ∷ [])) ends in
      let end : hook_messages_of last ≡ event w s (at + seconds_of s) (end_of s.fails (seconds_of s)) ∷ [] =
      ap (λ (x : List What). hook_messages_of (map (λ what. event w s (at + seconds_of s) what) x)) are ∙ all.0 in
      let note : notes_of last ≡ map (λ what. event w s (at + seconds_of s) what) (notes s.fails s.warns) =
      ap (λ (x : List What). notes_of (map (λ what. event w s (at + seconds_of s) what) x)) are ∙ all.1 in
      let h = only_halt (phase_after s.fails) (at + seconds_of s) (s.halts (phase_after s.fails)) in (
        filtered_both (λ e. not (is_note e.what)) (start ++ middle ++ last) halt
            ∙ ap (λ (x : List Event). x ++ hook_messages_of halt) (filtered_both (λ e. not (is_note e.what)) (start ++ middle) last ∙ ap (λ (x : List Event). (start ++ x) ++ hook_messages_of last) m.0 ∙ ap (λ (x : List Event). (start ++ middle) ++ x) end)
            ∙ ap (λ (x : List Event). ((start ++ middle) ++ event w s (at + seconds_of s) (end_of s.fails (seconds_of s)) ∷ []) ++ x) h.0
            ∙ append-nil ((start ++ middle) ++ event w s (at + seconds_of s) (end_of s.fails (seconds_of s)) ∷ []),
        filtered_both (λ e. is_note e.what) (start ++ middle ++ last) halt
            ∙ ap (λ (x : List Event). x ++ notes_of halt) (filtered_both (λ e. is_note e.what) (start ++ middle) last ∙ ap (λ (x : List Event). x ++ notes_of last) m.1 ∙ note)
            ∙ ap (λ (x : List Event). map (λ what. event w s (at + seconds_of s) what) (notes s.fails s.warns) ++ x) h.1,
      )

  -- a step that only warns has a warning in place of its end
  left_split : emits_end s.fails s.only_warns ≡ false → (at : ℕ) → (hook_messages_of (start_events w s at) ≡ event w s at Start ∷ events_of at (told_in.between s))
      × (notes_of (start_events w s at) ≡ event w s (at + seconds_of s) WarnNote ∷ halts w s (phase_after s.fails) (at + seconds_of s))
  unfolding events_of
  left_split leaves at =
      let start = event w s at Start ∷ [] in
      let middle = map (λ (x : ℕ × What). event w s (at + x.0) x.1) (told_in.between s) in
      let last = map (λ what. event w s (at + seconds_of s) what) (endings s) in
      let warning = event w s (at + seconds_of s) WarnNote ∷ [] in
      let halt = halts w s (phase_after s.fails) (at + seconds_of s) in
      let m = no_notes at (told_in.between s) (no_note s) in
      let are : endings s ≡ WarnNote ∷ [] = ap (λ (b : Bool). cond b (end_of s.fails (seconds_of s) ∷ notes s.fails s.warns) (WarnNote ∷ [])) leaves in
      let end : hook_messages_of last ≡ [] = ap (λ (x : List What). hook_messages_of (map (λ what. event w s (at + seconds_of s) what) x)) are in
      let note : notes_of last ≡ warning = ap (λ (x : List What). notes_of (map (λ what. event w s (at + seconds_of s) what) x)) are in
      let h = only_halt (phase_after s.fails) (at + seconds_of s) (s.halts (phase_after s.fails)) in (
        filtered_both (λ e. not (is_note e.what)) (start ++ middle ++ last) halt
            ∙ ap (λ (x : List Event). x ++ hook_messages_of halt) (filtered_both (λ e. not (is_note e.what)) (start ++ middle) last ∙ ap (λ (x : List Event). (start ++ x) ++ hook_messages_of last) m.0 ∙ ap (λ (x : List Event). (start ++ middle) ++ x) end)
            ∙ ap (λ (x : List Event). ((start ++ middle) ++ []) ++ x) h.0
            ∙ append-nil ((start ++ middle) ++ [])
            ∙ append-nil (start ++ middle),
        filtered_both (λ e. is_note e.what) (start ++ middle ++ last) halt
            ∙ ap (λ (x : List Event). x ++ notes_of halt) (filtered_both (λ e. is_note e.what) (start ++ middle) last ∙ ap (λ (x : List Event). x ++ notes_of last) m.1 ∙ note)
            ∙ ap (λ (x : List Event). warning ++ x) h.1,
      )

  -- the step stays under way
  pub left_hooks : emits_end s.fails s.only_warns ≡ false → (at : ℕ) → (elapsed : ℕ) × Leads may plan between (hook_messages_of (start_events w s at)) (under_way (action_of kind) elapsed false)
  left_hooks leaves at =
      let elapsed = along_goes may (action_of kind) (seconds_of s) s.seconds_before s.ran may_provision (omega arith) in
      let start = event w s at Start ∷ [] in
      let middle = events_of at (told_in.between s) in (
        elapsed.0,
        subst (λ (es : List Event). Leads may plan between es (under_way (action_of kind) elapsed.0 false)) (sym (left_split leaves at).0)
            (leads_on may plan between (under_way (action_of kind) 0 false) (under_way (action_of kind) elapsed.0 false) start middle (under_way (action_of kind) 0 false, (kind, is, refl), refl)
            (leads_passed at (under_way (action_of kind) 0 false) (told_in.between s) (under_way (action_of kind) elapsed.0 false) elapsed.2)),
      )

  pub left_notes : emits_end s.fails s.only_warns ≡ false → (at elapsed : ℕ) → Leads may plan (under_way (action_of kind) elapsed false) (notes_of (start_events w s at)) (under_way (action_of kind) elapsed false)
  left_notes leaves at elapsed =
      subst (λ (es : List Event). Leads may plan p es p) (sym (left_split leaves at).1) (p, (kind, is, refl), halted_there (s.halts (phase_after s.fails)))
    where
      p : Phase
      p = under_way (action_of kind) elapsed false

      halted_there : (located : Option ℕ) → Leads may plan p (option_to_list (option_map (λ hook. event w s (at + seconds_of s) (Halted (phase_after s.fails) hook)) located)) p
      halted_there None = refl
      halted_there (Some hook) = (p, (kind, is, refl), refl)

  hooks_ran : (at : ℕ) → Leads may plan between (hook_events at) (phase_then false s.fails)
  unfolding hook_events
  hooks_ran at =
      let elapsed = along_goes may (action_of kind) (seconds_of s) s.seconds_before s.ran may_provision (omega arith) in
      let start = event w s at Start ∷ [] in
      let middle = events_of at (told_in.between s) in
      leads_on may plan between (under_way (action_of kind) elapsed.0 false) (phase_then false s.fails) (start ++ middle) (event w s (at + seconds_of s) (end_of s.fails (seconds_of s)) ∷ [])
      (leads_on may plan between (under_way (action_of kind) 0 false) (under_way (action_of kind) elapsed.0 false) start middle (under_way (action_of kind) 0 false, (kind, is, refl), refl)
      (leads_passed at (under_way (action_of kind) 0 false) (told_in.between s) (under_way (action_of kind) elapsed.0 false) elapsed.2))
      (end_leads s.fails (at + seconds_of s) elapsed.0 (seconds_of s) elapsed.1)

  -- the notes of a step end the change's course
  noted : (fails warns : Bool) (at : ℕ) → Leads may plan (phase_then false fails) (map (λ what. event w s at what) (notes fails warns)) between
  noted true warns at = (between, (kind, is, refl), refl)
  noted false true at = (between, (kind, is, refl), refl)
  noted false false at = refl

  -- the diagnostics of a step that goes on leave the change where it is
  warned : (warns : Bool) (at : ℕ) (p : Phase) → Leads may plan p (map (λ what. event w s at what) (notes false warns)) p
  warned false at p = refl
  warned true at between = (between, (kind, is, refl), refl)
  warned true at unexplained = (unexplained, (kind, is, refl), refl)
  warned true at (under_way k t b) = (under_way k t b, (kind, is, refl), refl)

  pub step_hooks : emits_end s.fails s.only_warns ≡ true → (at : ℕ) → Leads may plan between (hook_messages_of (step_events w s at)) (phase_then (is_some (s.halts Pre)) s.fails)
  step_hooks ends at = either (s.halts Pre)
    where
      either : (located : Option ℕ) → Leads may plan between (hook_messages_of (cond (is_some located) (option_to_list (option_map (λ hook. event w s at (Halted Pre hook)) located)) (start_events w s at))) (phase_then (is_some located) s.fails)
      either None = subst (λ (es : List Event). Leads may plan between es (phase_then false s.fails)) (sym (started_split ends at).0) (hooks_ran at)
      either (Some hook) = refl

  pub step_notes : emits_end s.fails s.only_warns ≡ true → (at : ℕ) → Leads may plan (phase_then (is_some (s.halts Pre)) s.fails) (notes_of (step_events w s at)) between
  unfolding notes_have_texts
  step_notes ends at = either (s.halts Pre)
    where
      either : (located : Option ℕ) → Leads may plan (phase_then (is_some located) s.fails) (notes_of (cond (is_some located) (option_to_list (option_map (λ hook. event w s at (Halted Pre hook)) located)) (start_events w s at))) between
      either None =
          subst (λ (es : List Event). Leads may plan (phase_then false s.fails) es between) (sym (started_split ends at).1)
          (leads_on may plan (phase_then false s.fails) between between (map (λ what. event w s (at + seconds_of s) what) (notes s.fails s.warns)) (halts w s (phase_after s.fails) (at + seconds_of s))
          (noted s.fails s.warns (at + seconds_of s)) (halted (phase_after s.fails) (at + seconds_of s) (s.halts (phase_after s.fails))))
      either (Some hook) = halted Pre at (Some hook)

  -- a step that goes on
  pub step_warns : emits_end s.fails s.only_warns ≡ true → goes_on s ≡ true → (at : ℕ) (p : Phase) → Leads may plan p (notes_of (step_events w s at)) p
  unfolding notes_have_texts
  step_warns ends on at p =
      let all = and_parts (is_none (s.halts Pre) && not s.fails) (is_none (s.halts PostDone)) on in
      let both = and_parts (is_none (s.halts Pre)) (not s.fails) all.0 in
      let pre : is_some (s.halts Pre) ≡ false = ap is_some (is_nothing (s.halts Pre) both.0) in
      let fine : s.fails ≡ false = not-true s.fails both.1 in
      let post : s.halts PostDone ≡ None = is_nothing (s.halts PostDone) all.1 in
      let elapsed : notes_of (step_events w s at) ≡ map (λ what. event w s (at + seconds_of s) what) (notes false s.warns) =
      ap (λ (b : Bool). notes_of (cond b (halts w s Pre at) (start_events w s at))) pre
      ∙ (started_split ends at).1
      ∙ ap (λ (f : Bool). map (λ what. event w s (at + seconds_of s) what) (notes f s.warns) ++ halts w s (phase_after f) (at + seconds_of s)) fine
      ∙ ap (λ (o : Option ℕ). map (λ what. event w s (at + seconds_of s) what) (notes false s.warns) ++ option_to_list (option_map (λ hook. event w s (at + seconds_of s) (Halted PostDone hook)) o)) post
      ∙ append-nil (map (λ what. event w s (at + seconds_of s) what) (notes false s.warns)) in
      subst (λ (es : List Event). Leads may plan p es p) (sym elapsed) (warned s.warns (at + seconds_of s) p)

  pub goes_between : goes_on s ≡ true → phase_then (is_some (s.halts Pre)) s.fails ≡ between
  goes_between on =
      let all = and_parts (is_none (s.halts Pre) && not s.fails) (is_none (s.halts PostDone)) on in
      let both = and_parts (is_none (s.halts Pre)) (not s.fails) all.0 in
      ap (λ (b : Bool). phase_then b s.fails) (ap is_some (is_nothing (s.halts Pre) both.0)) ∙ ap (phase_then false) (not-true s.fails both.1)
