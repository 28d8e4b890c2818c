-- The events of a step name provisioners that ran, and its end tells whether it fails.
use Rattle.std.proofs.Common.{◌≡◌, ℕ, ◌+◌, ◌<◌, ◌≤◌, Bool, true, false, ◌||◌, cond, List, [], ◌∷◌, ◌++◌, length, map, All, true≢false, refl, sym, ap, ◌∙◌, subst, arith}
use Rattle.std.proofs.lemmas.List.Elements.{All-append, All-cons, All-head, All-map, All-nil, All-tail}
use Rattle.apply_model.specs.declared.script.provisioner.Provisioner.{Provisioner}
use Rattle.apply_model.specs.declared.script.timed_text.TimedText.{TimedText}
use Rattle.apply_model.specs.Script.Outcome.{has_failed}
use Rattle.apply_model.specs.Script.OutcomeMap.{OutcomeMap}
use Rattle.apply_events.specs.declared.what.What.{What}
use Rattle.apply_events.specs.declared.what.What.TheVariants.{Start, Progress, ErrorNote, WarnNote, ProvisionStart, ProvisionOutput, ProvisionComplete, ProvisionErrored}
use Rattle.apply_events.specs.ChangeEvents.{in_turn}
use Rattle.apply_events.specs.Provisions.{along, emitted_by, output_at, progress, provision_end, times_within}
use Rattle.apply_events.specs.Step.{Step}
use Rattle.apply_events.specs.StepEvents.{between, emits_end, end_of, event, notes, seconds_of, step_events, step_time}
use Rattle.apply_events.specs.Totals.{is_complete, is_errored}
use Rattle.laws_texts.specs.Alike.{IsOfOutcome, NamesOneOf}
use Rattle.laws_texts.specs.Notes.{is_end}
use Rattle.laws_texts.proofs.NotesOfSteps.{HasOutcome, IsWithin, between_is_within, emit, is_started}

-- ---- provisioners

module _ (all : List Provisioner) where
  abbrev Names : ℕ × What → Type 0
  Names p = NamesOneOf all p.1

  progress_names : (d after until : ℕ) → All Names (progress d after until)
  progress_names d after until = All-map Names (λ (t : ℕ). (t, Progress t)) (times_within d after until) (λ k t lt. tt)

  emitted_name : (d after i j since until : ℕ) (end : What) (outputs : List TimedText) → i < length all → NamesOneOf all end
      → All Names (emitted_by d after i j since until end outputs)
  emitted_name d after i j since until end [] lt ends =
      All-append Names (progress d after until) ((until, end) ∷ []) (progress_names d after until) (All-cons Names (until, end) [] ends (All-nil Names))
  emitted_name d after i j since until end (output ∷ outputs) lt ends =
      let at = output_at after since until output in
      let rest = emitted_by d at i (j + 1) since until end outputs in
      All-append Names (progress d after at) ((at, ProvisionOutput i j) ∷ rest) (progress_names d after at)
      (All-cons Names (at, ProvisionOutput i j) rest lt (emitted_name d at i (j + 1) since until end outputs lt ends))

  end_names : (i : ℕ) (p : Provisioner) → i < length all → NamesOneOf all (provision_end i p)
  end_names i p lt = elim (has_failed p) as (λ t. NamesOneOf all (cond t (ProvisionErrored i) (ProvisionComplete i))) [ true ↦ lt | false ↦ lt ]

  along_names : (d after i since : ℕ) (ps : List Provisioner) → i + length ps ≤ length all → All Names (along d after i since ps)
  along_names d after i since [] few = progress_names d after d
  along_names d after i since (p ∷ ps) few =
      let until = since + p.seconds in
      let emitted = emitted_by d since i 0 since until (provision_end i p) p.output in
      let rest = along d until (i + 1) until ps in
      let lt : i < length all = omega arith in
      All-append Names (progress d after since) ((since, ProvisionStart i) ∷ (emitted ++ rest)) (progress_names d after since)
      (All-cons Names (since, ProvisionStart i) (emitted ++ rest) lt
      (All-append Names emitted rest
      (emitted_name d since i 0 since until (provision_end i p) p.output lt (end_names i p lt))
      (along_names d until (i + 1) until ps (omega arith))))

-- ---- a step

or_yes : (t : Bool) → (t || true) ≡ true
or_yes true = refl
or_yes false = refl

module _ (script : OutcomeMap) (lane : ℕ) (s : Step) (has : HasOutcome script s) (at : ℕ) where
  -- events that end nothing and name no provisioner but one that ran
  plain_event : (after : ℕ) (what : What) → is_end what ≡ false → NamesOneOf s.ran what → IsOfOutcome script (event lane s after what)
  plain_event after what none named = record {
    succeeds = λ complete. absurd (true≢false (sym (ap (λ t. t || is_errored what) complete) ∙ none));
    fails = λ errored. absurd (true≢false (sym (ap (λ t. is_complete what || t) errored ∙ or_yes (is_complete what)) ∙ none));
    named = subst (λ ran. NamesOneOf ran what) has.provisioners named;
  }

  between_are : (ps : List (ℕ × What)) → All (λ (p : ℕ × What). IsWithin p.1) ps → All (λ (p : ℕ × What). NamesOneOf s.ran p.1) ps
      → All (IsOfOutcome script) (map (λ p. event lane s (at + p.0) p.1) ps)
  between_are ps within named =
      All-map (IsOfOutcome script) (λ p. event lane s (at + p.0) p.1) ps
      (λ k d lt. plain_event (at + _) _ (within k d lt).1 (named k d lt))

  notes_are : (f w : Bool) → All (IsOfOutcome script) (map (emit script lane s has at) (notes f w))
  notes_are true w = All-cons (IsOfOutcome script) _ [] (plain_event _ ErrorNote refl tt) (All-nil (IsOfOutcome script))
  notes_are false true = All-cons (IsOfOutcome script) _ [] (plain_event _ WarnNote refl tt) (All-nil (IsOfOutcome script))
  notes_are false false = All-nil (IsOfOutcome script)

  end_is : (f : Bool) → s.fails ≡ f → IsOfOutcome script (emit script lane s has at (end_of f (seconds_of s)))
  end_is true is = record { succeeds = λ never. absurd (true≢false (sym never)); fails = λ _. sym has.fails ∙ is; named = tt }
  end_is false is = record { succeeds = λ _. sym has.fails ∙ is; fails = λ never. absurd (true≢false (sym never)); named = tt }

  endings_are : (ends : Bool) → All (IsOfOutcome script) (map (emit script lane s has at) (cond ends (end_of s.fails (seconds_of s) ∷ notes s.fails s.warns) (WarnNote ∷ [])))
  endings_are true = All-cons (IsOfOutcome script) _ _ (end_is s.fails refl) (notes_are s.fails s.warns)
  endings_are false = All-cons (IsOfOutcome script) _ [] (plain_event _ WarnNote refl tt) (All-nil (IsOfOutcome script))

  pub step_events_are : All (IsOfOutcome script) (step_events lane s at)
  step_events_are =
      subst (All (IsOfOutcome script)) (sym (is_started script lane s has at))
      (All-cons (IsOfOutcome script) (event lane s at Start) _ (plain_event at Start refl tt)
      (All-append (IsOfOutcome script) _ _
      (between_are (between s) (between_is_within s) (along_names s.ran (seconds_of s) 0 0 s.seconds_before s.ran (omega arith)))
      (endings_are (emits_end s.fails s.only_warns))))

pub steps_are : (script : OutcomeMap) (lane : ℕ) (steps : List Step) (at : ℕ) → All (HasOutcome script) steps
    → All (IsOfOutcome script) (in_turn (step_events lane) step_time steps at)
steps_are script lane [] at has = All-nil (IsOfOutcome script)
steps_are script lane (s ∷ steps) at has =
    All-append (IsOfOutcome script) (step_events lane s at) (in_turn (step_events lane) step_time steps (at + step_time s))
    (step_events_are script lane s (All-head (HasOutcome script) s steps has) at)
    (steps_are script lane steps (at + step_time s) (All-tail (HasOutcome script) s steps has))
