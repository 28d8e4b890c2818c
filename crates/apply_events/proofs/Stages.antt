-- The events of a step, one by one.
use Rattle.std.proofs.Common.{◌≡◌, ℕ, ◌+◌, Bool, true, false, not, ◌&&◌, ◌||◌, List, [], ◌∷◌, ◌++◌, drop, map, cond, append_assoc, Option, Some, None, refl}
use Rattle.std.specs.Prelude.{is_none}
use Rattle.apply_model.specs.declared.script.provisioner.Provisioner.{Provisioner}
use Rattle.apply_model.specs.declared.script.timed_text.TimedText.{TimedText}
use Rattle.apply_model.specs.Script.Outcome.{has_failed}
use Rattle.apply_hooks.specs.declared.phase.Phase.{Phase}
use Rattle.apply_hooks.specs.declared.phase.Phase.TheVariants.{Pre, PostDone}
use Rattle.apply_events.specs.declared.event.Event.{Event}
use Rattle.apply_events.specs.declared.mid_step.MidStep.{MidStep}
use Rattle.apply_events.specs.declared.stage.Stage.{Stage}
use Rattle.apply_events.specs.declared.stage.Stage.TheVariants.{Before, Running, Noting, Halting, Over}
use Rattle.apply_events.specs.declared.what.What.{What}
use Rattle.apply_events.specs.declared.what.What.TheVariants.{Start, Progress, Halted, WarnNote, ProvisionOutput, ProvisionStart, ProvisionComplete, ProvisionErrored}
use Rattle.apply_events.specs.ChangeEvents.{begun, in_turn}
use Rattle.apply_events.specs.Course.{beginning_of, is_beginning}
use Rattle.apply_events.specs.Notes.{note_of}
use Rattle.apply_events.specs.MidStep.{within_provisioner, left_at, left_of, since}
use Rattle.apply_events.specs.Provisions.{along, output_at, provision_end, times_within, emitted_by}
use Rattle.apply_events.specs.Stages.{later_events, events_from, from_stage, halt_after}
use Rattle.apply_events.specs.Step.{Step}
use Rattle.apply_events.specs.StepEvents.{between, end_of, endings, event, notes, phase_after, seconds_of, step_events, step_time, emits_end}

-- a hook halts before the step
pub begin_halts : (w : ℕ) (s : Step) (rest left : List Step) (at hook : ℕ) (stage : Stage)
    → left ≡ s ∷ rest → stage ≡ Before → s.halts Pre ≡ Some hook
    → from_stage w left at stage ≡ event w s at (Halted Pre hook) ∷ []
begin_halts w s rest left at hook stage first before halts = rw (first, before, halts) refl

-- the later steps begin if the step goes on
in_turn-if : (w : ℕ) (steps : List Step) (at : ℕ) (b : Bool) → in_turn (step_events w) step_time (cond b (begun steps) []) at ≡ cond b (events_from w steps at) []
in_turn-if w steps at true = refl
in_turn-if w steps at false = refl

-- the step starts
pub begin_starts : (w : ℕ) (s : Step) (rest left : List Step) (at : ℕ) (mid : MidStep) (stage : Stage)
    → left ≡ s ∷ rest → stage ≡ Before → s.halts Pre ≡ None → left_of (seconds_of s) s.seconds_before s.ran mid ≡ between s
    → from_stage w left at stage ≡ event w s at Start ∷ from_stage w left at (Running mid)
begin_starts w s rest left at mid stage first before halts whole =
    rw (first, before, halts, whole, in_turn-if w rest (at + (seconds_of s)) (not s.fails && is_none (s.halts PostDone))) refl

-- an event before the end is emitted
pub running_on : (w : ℕ) (s : Step) (rest left : List Step) (at after : ℕ) (what : What) (mid next : MidStep) (stage : Stage)
    → left ≡ s ∷ rest → stage ≡ Running mid → left_of (seconds_of s) s.seconds_before s.ran mid ≡ (after, what) ∷ left_of (seconds_of s) s.seconds_before s.ran next
    → from_stage w left at stage ≡ event w s (at + after) what ∷ from_stage w left at (Running next)
running_on w s rest left at after what mid next stage first on more = rw (first, on, more) refl

one_note : (fails warns : Bool) → (fails || warns) ≡ true → notes fails warns ≡ note_of fails ∷ []
one_note true warns h = refl
one_note false true h = refl
one_note false false h = cc

no_note : (fails warns : Bool) → (fails || warns) ≡ false → notes fails warns ≡ []
no_note true warns h = cc
no_note false true h = cc
no_note false false h = refl

-- a step without an end event has its warning there
warning_alone : (fails only_warns : Bool) (seconds : ℕ) (others : List What) → emits_end fails only_warns ≡ false
    → cond (emits_end fails only_warns) (end_of fails seconds ∷ others) (WarnNote ∷ []) ≡ note_of fails ∷ []
warning_alone true only_warns seconds others h = cc
warning_alone false true seconds others h = refl
warning_alone false false seconds others h = cc

pub running_warns : (w : ℕ) (s : Step) (rest left : List Step) (at : ℕ) (mid : MidStep) (stage : Stage)
    → left ≡ s ∷ rest → stage ≡ Running mid → left_of (seconds_of s) s.seconds_before s.ran mid ≡ [] → emits_end s.fails s.only_warns ≡ false
    → from_stage w left at stage ≡ from_stage w left at Noting
running_warns w s rest left at mid stage first on none untold =
    rw (first, on, none, warning_alone s.fails s.only_warns (seconds_of s) (notes s.fails s.warns) untold) refl

-- the end is emitted, and an error or a warning follows
pub running_notes : (w : ℕ) (s : Step) (rest left : List Step) (at : ℕ) (mid : MidStep) (stage : Stage)
    → left ≡ s ∷ rest → stage ≡ Running mid → left_of (seconds_of s) s.seconds_before s.ran mid ≡ [] → emits_end s.fails s.only_warns ≡ true → (s.fails || s.warns) ≡ true
    → from_stage w left at stage ≡ event w s (at + (seconds_of s)) (end_of s.fails (seconds_of s)) ∷ from_stage w left at Noting
running_notes w s rest left at mid stage first on none emitted is =
    rw (first, on, none, emitted, one_note s.fails s.warns is) refl

-- the end is emitted, and neither an error nor a warning follows
pub running_ends : (w : ℕ) (s : Step) (rest left : List Step) (at : ℕ) (mid : MidStep) (stage : Stage)
    → left ≡ s ∷ rest → stage ≡ Running mid → left_of (seconds_of s) s.seconds_before s.ran mid ≡ [] → emits_end s.fails s.only_warns ≡ true → (s.fails || s.warns) ≡ false
    → from_stage w left at stage ≡ event w s (at + (seconds_of s)) (end_of s.fails (seconds_of s)) ∷ (halt_after w s at ++ later_events w s rest at)
running_ends w s rest left at mid stage first on none emitted is =
    rw (first, on, none, emitted, no_note s.fails s.warns is) refl

-- the error or the warning is emitted
pub noting_notes : (w : ℕ) (s : Step) (rest left : List Step) (at : ℕ) (stage : Stage)
    → left ≡ s ∷ rest → stage ≡ Noting
    → from_stage w left at stage ≡ event w s (at + (seconds_of s)) (note_of s.fails) ∷ (halt_after w s at ++ later_events w s rest at)
noting_notes w s rest left at stage first noting = rw (first, noting) refl

-- the halt is emitted
pub halting_halts : (w : ℕ) (s : Step) (rest left : List Step) (at hook : ℕ) (stage : Stage)
    → left ≡ s ∷ rest → stage ≡ Halting hook
    → from_stage w left at stage ≡ event w s (at + (seconds_of s)) (Halted (phase_after s.fails) hook) ∷ []
halting_halts w s rest left at hook stage first halting = rw (first, halting) refl

-- no step begins after a step that a hook halts
stops : (fails : Bool) (halts : Phase → Option ℕ) (hook : ℕ) → halts (phase_after fails) ≡ Some hook → (not fails && is_none (halts PostDone)) ≡ false
stops true halts hook h = refl
stops false halts hook h = rw h refl

-- a hook halts after the step
pub finish_halts : (w : ℕ) (s : Step) (rest left : List Step) (at hook : ℕ)
    → left ≡ s ∷ rest → s.halts (phase_after s.fails) ≡ Some hook
    → from_stage w left at (Halting hook) ≡ halt_after w s at ++ later_events w s rest at
finish_halts w s rest left at hook first halts =
    rw (first, stops s.fails s.halts hook halts, halts) refl

-- no hook halts after a step that fails
pub finish_fails : (w : ℕ) (s : Step) (rest : List Step) (at : ℕ)
    → s.halts (phase_after s.fails) ≡ None → s.fails ≡ true
    → from_stage w rest (at + (seconds_of s)) Over ≡ halt_after w s at ++ later_events w s rest at
finish_fails w s rest at halts fails = rw (halts, fails) refl

completes : (fails : Bool) (halts : Phase → Option ℕ) → halts (phase_after fails) ≡ None → fails ≡ false → (not fails && is_none (halts PostDone)) ≡ true
completes true halts h e = cc
completes false halts h e = rw h refl

-- no hook halts after a step that completes
pub finish_goes_on : (w : ℕ) (s : Step) (rest : List Step) (at : ℕ)
    → s.halts (phase_after s.fails) ≡ None → s.fails ≡ false
    → from_stage w rest (at + (seconds_of s)) Before ≡ halt_after w s at ++ later_events w s rest at
finish_goes_on w s rest at halts goes =
    rw (completes s.fails s.halts halts goes, halts) refl

-- ---- with which event the list begins

-- no step begins with what happens before the end
abbrev GoesOn : List (ℕ × What) → Type 0
GoesOn [] = Unit {0}
GoesOn (x ∷ xs) = is_beginning x.1 ≡ false

GoesOn-progress : (ts : List ℕ) (xs : List (ℕ × What)) → GoesOn xs → GoesOn (map (λ p. (p, Progress p)) ts ++ xs)
GoesOn-progress [] xs h = h
GoesOn-progress (t ∷ ts) xs h = refl

end_goes_on : (b : Bool) (i since : ℕ) (xs : List (ℕ × What)) → GoesOn ((since, cond b (ProvisionErrored i) (ProvisionComplete i)) ∷ xs)
end_goes_on true i since xs = refl
end_goes_on false i since xs = refl

emitted_goes_on : (d after i j since until : ℕ) (p : Provisioner) (outputs : List TimedText) (xs : List (ℕ × What))
    → GoesOn (emitted_by d after i j since until (provision_end i p) outputs ++ xs)
emitted_goes_on d after i j since until p [] xs =
    rw append_assoc (GoesOn-progress (times_within d after until) ((until, provision_end i p) ∷ xs) (end_goes_on (has_failed p) i until xs))
emitted_goes_on d after i j since until p (o ∷ os) xs =
    let at = output_at after since until o in
    rw append_assoc (GoesOn-progress (times_within d after at) ((at, ProvisionOutput i j) ∷ (emitted_by d at i (j + 1) since until (provision_end i p) os ++ xs)) refl)

along_goes_on : (d after i since : ℕ) (ps : List Provisioner) → GoesOn (along d after i since ps)
along_goes_on d after i since [] = only (times_within d after d)
  where
    only : (ts : List ℕ) → GoesOn (map (λ p. (p, Progress p)) ts)
    only [] = tt
    only (t ∷ ts) = refl
along_goes_on d after i since (p ∷ ps) =
    let until = since + p.seconds in
    GoesOn-progress (times_within d after since)
    ((since, ProvisionStart i) ∷ (emitted_by d since i 0 since until (provision_end i p) p.output ++ along d until (i + 1) until ps)) refl

amid_goes_on : (d emitted i line since : ℕ) (ps : List Provisioner) → GoesOn (within_provisioner d emitted i line since ps)
amid_goes_on d emitted i line since [] = tt
amid_goes_on d emitted i line since (p ∷ ps) =
    let end = since + p.seconds in
    emitted_goes_on d emitted i line since end p (drop line p.output) (along d end (i + 1) end ps)

left_goes_on : (d own : ℕ) (ps : List Provisioner) (emitted i : ℕ) (outputs : Option ℕ) → GoesOn (left_at d own ps emitted i outputs)
left_goes_on d own ps emitted i None = along_goes_on d emitted i (since own ps i) (drop i ps)
left_goes_on d own ps emitted i (Some line) = amid_goes_on d emitted i line (since own ps i) (drop i ps)

ending_begins : (w : ℕ) (s : Step) (at seconds : ℕ) (fails warns only_warns : Bool) (more : List Event)
    → beginning_of (map (λ what. event w s at what) (cond (emits_end fails only_warns) (end_of fails seconds ∷ notes fails warns) (WarnNote ∷ [])) ++ more) ≡ None
ending_begins w s at seconds true warns only_warns more = refl
ending_begins w s at seconds false warns true more = refl
ending_begins w s at seconds false warns false more = refl

running_begins : (w : ℕ) (s : Step) (at : ℕ) (xs : List (ℕ × What)) (halts later_events : List Event) → GoesOn xs
    → beginning_of ((map (λ (p : ℕ × What). event w s (at + p.0) p.1) xs ++ map (λ what. event w s (at + seconds_of s) what) (endings s) ++ halts) ++ later_events) ≡ None
running_begins w s at [] halts later_events none =
    rw append_assoc (ending_begins w s (at + seconds_of s) (seconds_of s) s.fails s.warns s.only_warns (halts ++ later_events))
running_begins w s at (x ∷ xs) halts later_events none = rw none refl

note_begins : (b : Bool) → is_beginning (note_of b) ≡ false
note_begins true = refl
note_begins false = refl

halt_begins : (fails : Bool) (hook : ℕ) → is_beginning (Halted (phase_after fails) hook) ≡ false
halt_begins true hook = refl
halt_begins false hook = refl

-- no step begins where one is under way
pub running_begins_none : (w : ℕ) (left : List Step) (at : ℕ) (mid : MidStep) (stage : Stage) → stage ≡ Running mid → beginning_of (from_stage w left at stage) ≡ None
running_begins_none w [] at mid stage is = rw is refl
running_begins_none w (s ∷ rest) at mid stage is =
    rw is (running_begins w s at (left_of (seconds_of s) s.seconds_before s.ran mid) (halt_after w s at) (later_events w s rest at)
    (left_goes_on (seconds_of s) s.seconds_before s.ran mid.emitted mid.provisioner mid.outputs))

pub noting_begins_none : (w : ℕ) (left : List Step) (at : ℕ) (stage : Stage) → stage ≡ Noting → beginning_of (from_stage w left at stage) ≡ None
noting_begins_none w [] at stage is = rw is refl
noting_begins_none w (s ∷ rest) at stage is = rw (is, note_begins s.fails) refl

pub halting_begins_none : (w : ℕ) (left : List Step) (at hook : ℕ) (stage : Stage) → stage ≡ Halting hook → beginning_of (from_stage w left at stage) ≡ None
halting_begins_none w [] at hook stage is = rw is refl
halting_begins_none w (s ∷ rest) at hook stage is = rw (is, halt_begins s.fails hook) refl

pub over_begins_none : (w : ℕ) (left : List Step) (at : ℕ) (stage : Stage) → stage ≡ Over → beginning_of (from_stage w left at stage) ≡ None
over_begins_none w left at stage is = rw is refl
