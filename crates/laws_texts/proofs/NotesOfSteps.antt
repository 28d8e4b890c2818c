-- The events of steps are their hook messages with the diagnostic of each end after it.
use Rattle.std.proofs.Common.{◌≡◌, ℕ, ◌+◌, Bool, true, false, ◌||◌, cond, not, eqb, List, [], ◌∷◌, ◌++◌, map, All, None, is_some, refl, sym, ap, ◌∙◌, subst}
use Rattle.std.specs.Prelude.{option_map, option_to_list}
use Rattle.std.specs.List.{Contains, enumerate_from}
use Rattle.std.proofs.lemmas.List.{append-nil}
use Rattle.std.proofs.lemmas.List.Elements.{All-cons, All-contains_itself, All-head, All-map, All-nil, All-tail, All-weaker, filter-append}
use Rattle.apply_model.specs.declared.plan.step_kind.StepKind.{StepKind}
use Rattle.apply_model.specs.declared.script.provisioner.Provisioner.{Provisioner}
use Rattle.apply_model.specs.Script.Outcome.{fails, has_failed, is_warned, ran}
use Rattle.apply_model.specs.Script.OutcomeMap.{OutcomeMap, outcome_of}
use Rattle.apply_hooks.specs.Hooks.{first_halting}
use Rattle.apply_hooks.specs.declared.phase.Phase.{Phase}
use Rattle.apply_hooks.specs.declared.phase.Phase.TheVariants.{Pre}
use Rattle.apply_events.specs.declared.event.Event.{Event}
use Rattle.apply_events.specs.declared.lanes.turn.StartedTurn.{StartedTurn}
use Rattle.apply_events.specs.declared.what.What.{What}
use Rattle.apply_events.specs.declared.what.What.TheVariants.{Start, Complete, Errored, WarnNote, Halted, ProvisionComplete, ProvisionErrored}
use Rattle.apply_events.specs.ChangeEvents.{in_turn}
use Rattle.apply_events.specs.Diagnostics.{is_note}
use Rattle.apply_events.specs.Provisions.{provision_end}
use Rattle.apply_events.specs.Step.{Step, Work, address_of, has_warning, kinds_applied, step_of, steps_of}
use Rattle.apply_events.specs.StepEvents.{between, end_of, endings, event, halts, notes, phase_after, seconds_of, start_events, step_events, step_time}
use Rattle.apply_events.specs.Waits.TimeLine.{lane_turns, turn_events}
use Rattle.apply_events.specs.Waits.Turn.{begun_steps}
use Rattle.apply_events.proofs.Provisions.{all_along}
use Rattle.apply_events.proofs.Waits.TurnSteps.{all_at, begun_of_change}
use Rattle.apply_text.specs.Order.{hook_messages_of}
use Rattle.laws_texts.specs.Notes.{HasAnEnd, is_end, note_of}
use Rattle.laws_texts.proofs.Woven.{filter_kept, note_list, with_what, woven, woven-append}

-- ---- the steps of a work without hooks

-- the step has the outcome of the script, and no hook halts it
pub record HasOutcome (script : OutcomeMap) (s : Step) : Type 0 where
  pub provisioners : s.ran ≡ ran (outcome_of script s.change s.number).provisioners
  pub fails : s.fails ≡ fails (outcome_of script s.change s.number)
  pub warns : s.warns ≡ has_warning (outcome_of script s.change s.number).result
  pub only_warns : s.only_warns ≡ is_warned (outcome_of script s.change s.number).result
  pub not_halted : (phase : Phase) → s.halts phase ≡ None

has_outcome : (work : Work) → work.hooks ≡ [] → (c k : ℕ) (kind : StepKind) → HasOutcome work.script (step_of work c k kind)
has_outcome work none c k kind = record {
  provisioners = refl;
  fails = refl;
  warns = refl;
  only_warns = refl;
  not_halted = λ phase. ap (λ hooks. first_halting hooks (record { phase = phase; kind = kind; address = address_of work.plan c })) none;
}

have_outcomes : (work : Work) → work.hooks ≡ [] → (c n : ℕ) (kinds : List StepKind)
    → All (HasOutcome work.script) (map (λ p. step_of work c p.0 p.1) (enumerate_from n kinds))
have_outcomes work none c n [] = All-nil (HasOutcome work.script)
have_outcomes work none c n (kind ∷ kinds) =
    All-cons (HasOutcome work.script) (step_of work c n kind) _ (has_outcome work none c n kind) (have_outcomes work none c (n + 1) kinds)

-- ---- the events of a step

-- a hook message that does not end its step
abbrev pub IsWithin : What → Type 0
IsWithin what = (is_note what ≡ false) × (is_end what ≡ false)

end_is_within : (i : ℕ) (p : Provisioner) → IsWithin (provision_end i p)
end_is_within i p = elim (has_failed p) as (λ t. IsWithin (cond t (ProvisionErrored i) (ProvisionComplete i))) [ true ↦ (refl, refl) | false ↦ (refl, refl) ]

pub between_is_within : (s : Step) → All (λ (p : ℕ × What). IsWithin p.1) (between s)
between_is_within s =
    all_along (λ p. IsWithin p.1) (seconds_of s) 0 0 s.seconds_before s.ran
    (λ t. (refl, refl)) (λ i p since. (refl, refl)) (λ i p j since. (refl, refl)) (λ i p since. end_is_within i p)

module _ (script : OutcomeMap) where
  -- events that end nothing are followed by no diagnostic
  woven_within : (es : List Event) → All (λ e. IsWithin e.what) es → woven script es ≡ es
  woven_within [] all = refl
  woven_within (e ∷ es) all =
      let head = All-head (λ (f : Event). IsWithin f.what) e es all in
      ap (λ t. e ∷ (note_list script t e ++ woven script es)) head.1
      ∙ ap (λ l. e ∷ l) (woven_within es (All-tail (λ (f : Event). IsWithin f.what) e es all))

  hooks_within : (es : List Event) → All (λ e. IsWithin e.what) es → hook_messages_of es ≡ es
  hooks_within es all =
      filter_kept (λ e. not (is_note e.what)) es (All-weaker (λ (e : Event). IsWithin e.what) (λ e. not (is_note e.what) ≡ true) (λ e within. ap not within.0) es all)

-- ---- all events of a step

all_first : (P : Event → Type 0) (xs ys : List Event) → All P (xs ++ ys) → All P xs
all_first P [] ys all = All-nil P
all_first P (x ∷ xs) ys all = All-cons P x xs (All-head P x (xs ++ ys) all) (all_first P xs ys (All-tail P x (xs ++ ys) all))

all_second : (P : Event → Type 0) (xs ys : List Event) → All P (xs ++ ys) → All P ys
all_second P [] ys all = all
all_second P (x ∷ xs) ys all = all_second P xs ys (All-tail P x (xs ++ ys) all)

yes_or : (t : Bool) → (t || true) ≡ true
yes_or true = refl
yes_or false = refl

abbrev hooks : List Event → List Event
hooks es = hook_messages_of es

module _ (script : OutcomeMap) (lane : ℕ) (s : Step) (has : HasOutcome script s) (at : ℕ) where
  abbrev pub emit : What → Event
  emit what = event lane s (at + seconds_of s) what

  abbrev pub beats : List Event
  beats = map (λ p. event lane s (at + p.0) p.1) (between s)

  abbrev pub last_whats : (fails warns : Bool) → List What
  last_whats fails warns = end_of fails (seconds_of s) ∷ notes fails warns

  last_woven : (f w : Bool) → f ≡ fails (outcome_of script s.change s.number) → w ≡ has_warning (outcome_of script s.change s.number).result
      → woven script (hooks (map emit (last_whats f w))) ≡ map emit (last_whats f w)
  last_woven true w fails warns =
      let end = emit (Errored (seconds_of s)) in
      ap (λ t. end ∷ (option_to_list (option_map (with_what end) (note_of t (has_warning (outcome_of script s.change s.number).result))) ++ [])) (sym fails)
  last_woven false true fails warns =
      let end = emit (Complete (seconds_of s)) in
      ap (λ t. end ∷ (option_to_list (option_map (with_what end) (note_of t (has_warning (outcome_of script s.change s.number).result))) ++ [])) (sym fails)
      ∙ ap (λ t. end ∷ (option_to_list (option_map (with_what end) (note_of false t)) ++ [])) (sym warns)
  last_woven false false fails warns =
      let end = emit (Complete (seconds_of s)) in
      ap (λ t. end ∷ (option_to_list (option_map (with_what end) (note_of t (has_warning (outcome_of script s.change s.number).result))) ++ [])) (sym fails)
      ∙ ap (λ t. end ∷ (option_to_list (option_map (with_what end) (note_of false t)) ++ [])) (sym warns)

  pub beats_within : (ps : List (ℕ × What)) → All (λ (p : ℕ × What). IsWithin p.1) ps → All (λ e. IsWithin e.what) (map (λ p. event lane s (at + p.0) p.1) ps)
  beats_within ps all = All-map (λ (e : Event). IsWithin e.what) (λ p. event lane s (at + p.0) p.1) ps all

  -- the start, what comes between, the end, and the diagnostic after it
  abbrev plain : List Event
  plain = event lane s at Start ∷ (beats ++ map emit (last_whats s.fails s.warns))

  plain_woven : woven script (hooks plain) ≡ plain
  plain_woven =
      let within = beats_within (between s) (between_is_within s) in
      let last = map emit (last_whats s.fails s.warns) in
      ap (λ l. event lane s at Start ∷ woven script l) (filter-append (λ e. not (is_note e.what)) beats last ∙ ap (λ l. l ++ hooks last) (hooks_within script beats within))
      ∙ ap (λ l. event lane s at Start ∷ l)
      (woven-append script beats (hooks last) ∙ ap (λ l. l ++ woven script (hooks last)) (woven_within script beats within)
      ∙ ap (λ l. beats ++ l) (last_woven s.fails s.warns has.fails has.warns))

  pub is_started : step_events lane s at ≡ event lane s at Start ∷ (beats ++ map emit (endings s))
  is_started =
      ap (λ t. cond (is_some t) (halts lane s Pre at) (start_events lane s at)) (has.not_halted Pre)
      ∙ ap (λ t. event lane s at Start ∷ ((beats ++ map emit (endings s)) ++ option_to_list (option_map (λ hook. event lane s (at + seconds_of s) (Halted (phase_after s.fails) hook)) t)))
      (has.not_halted (phase_after s.fails))
      ∙ ap (λ l. event lane s at Start ∷ l) (append-nil (beats ++ map emit (endings s)))

  is_plain : s.only_warns ≡ false → step_events lane s at ≡ plain
  is_plain ends =
      is_started
      ∙ ap (λ t. event lane s at Start ∷ (beats ++ map emit (cond t (last_whats s.fails s.warns) (WarnNote ∷ []))))
      (ap (λ o. s.fails || not o) ends ∙ yes_or s.fails)

  -- the first event of a step that has an end says so
  has_end : (rest : List Event) → All (HasAnEnd script) (hooks (step_events lane s at ++ rest)) → s.only_warns ≡ false
  has_end rest all =
      let first = subst (λ l. All (HasAnEnd script) (hooks (l ++ rest))) is_started all in
      has.only_warns ∙ All-head (HasAnEnd script) (event lane s at Start) _ first

  pub step_woven : s.only_warns ≡ false → woven script (hooks (step_events lane s at)) ≡ step_events lane s at
  step_woven ends = subst (λ l. woven script (hooks l) ≡ l) (sym (is_plain ends)) plain_woven

-- ---- steps one after another, and lanes

module _ (script : OutcomeMap) (lane : ℕ) where
  abbrev run : List Step → ℕ → List Event
  run steps at = in_turn (step_events lane) step_time steps at

  pub steps_woven : (steps : List Step) (at : ℕ) → All (HasOutcome script) steps → All (HasAnEnd script) (hooks (run steps at))
      → woven script (hooks (run steps at)) ≡ run steps at
  steps_woven [] at has ends = refl
  steps_woven (s ∷ steps) at has ends =
      let first = step_events lane s at in
      let rest = run steps (at + step_time s) in
      let mine = All-head (HasOutcome script) s steps has in
      let split = filter-append (λ (e : Event). not (is_note e.what)) first rest in
      let only = has_end script lane s mine at rest ends in
      let later = all_second (HasAnEnd script) (hooks first) (hooks rest) (subst (All (HasAnEnd script)) split ends) in
      ap (woven script) split ∙ woven-append script (hooks first) (hooks rest)
      ∙ ap (λ l. l ++ woven script (hooks rest)) (step_woven script lane s mine at only)
      ∙ ap (λ l. first ++ l) (steps_woven steps (at + step_time s) (All-tail (HasOutcome script) s steps has) later)

module _ (work : Work) (none : work.hooks ≡ []) where
  pub begun_have_outcomes : (one : StartedTurn) → All (HasOutcome work.script) (begun_steps work one.turn)
  begun_have_outcomes one =
      let c = one.turn.change in
      All-weaker (Contains (begun_steps work one.turn)) (HasOutcome work.script)
      (λ s there. all_at (HasOutcome work.script) (steps_of work c) s
      (have_outcomes work none c 0 (kinds_applied work.plan work.script c)) (begun_of_change work one.turn s there))
      (begun_steps work one.turn) (All-contains_itself (begun_steps work one.turn))

  turn_woven : (one : StartedTurn) (runs : Bool) → All (HasAnEnd work.script) (hooks (cond runs (turn_events work one) []))
      → woven work.script (hooks (cond runs (turn_events work one) [])) ≡ cond runs (turn_events work one) []
  turn_woven one true ends = steps_woven work.script one.lane (begun_steps work one.turn) one.begin.second (begun_have_outcomes one) ends
  turn_woven one false ends = refl

  pub lane_woven : (started : List StartedTurn) (lane : ℕ) → All (HasAnEnd work.script) (hooks (lane_turns work started lane))
      → woven work.script (hooks (lane_turns work started lane)) ≡ lane_turns work started lane
  lane_woven [] lane ends = refl
  lane_woven (one ∷ others) lane ends =
      let first = lane_turns work others lane in
      let last = cond (eqb one.lane lane) (turn_events work one) [] in
      let split = filter-append (λ (e : Event). not (is_note e.what)) first last in
      let both = subst (All (HasAnEnd work.script)) split ends in
      ap (woven work.script) split ∙ woven-append work.script (hooks first) (hooks last)
      ∙ ap (λ l. l ++ woven work.script (hooks last)) (lane_woven others lane (all_first (HasAnEnd work.script) (hooks first) (hooks last) both))
      ∙ ap (λ l. first ++ l) (turn_woven one (eqb one.lane lane) (all_second (HasAnEnd work.script) (hooks first) (hooks last) both))
