-- The work of a planning: each told object is one turn with one step.
use Rattle.std.proofs.Common.{◌≡◌, ℕ, zero, suc, ◌+◌, ◌<◌, ◌≤◌, Bool, true, false, ◌&&◌, ◌||◌, List, [], ◌∷◌, ◌++◌, Option, Some, None, cond, drop, length, map, not, take, refl, ap, ◌∙◌, arith, eqb}
use Rattle.std.specs.Prelude.{option_and_then, option_map, slice_get, unwrap_or}
use Rattle.std.specs.List.{enumerate_from, flat_map, position_from, range_with_len}
use Rattle.std.specs.Option.{option_map_or}
use Rattle.std.proofs.lemmas.List.FromFn.{get_or-map-range_with_len, length-map-range_with_len}
use Rattle.std.proofs.lemmas.List.{length-map}
use Rattle.std.proofs.lemmas.Option.{slice_get-map}
use Rattle.apply_model.specs.declared.details.note.Note.{Note}
use Rattle.apply_model.specs.declared.details.note.Severity.{Severity}
use Rattle.apply_model.specs.declared.details.note.Severity.TheVariants.{Error, Warning}
use Rattle.apply_model.specs.declared.plan.step_kind.StepKind.{StepKind}
use Rattle.apply_model.specs.declared.plan.step_kind.StepKind.TheVariants.{Read}
use Rattle.apply_model.specs.declared.script.outcome.Outcome.{Outcome}
use Rattle.apply_model.specs.declared.script.script_step.ScriptStep.{ScriptStep}
use Rattle.apply_model.specs.declared.script.script_step.ScriptStep.TheVariants.{Answered}
use Rattle.apply_model.specs.Plan.ResourceChange.{ResourceChange}
use Rattle.apply_model.specs.Script.Outcome.{default_outcome, fails, is_failed, ran, seconds_after, seconds_before, seconds_of_all}
use Rattle.apply_model.specs.Script.OutcomeMap.{first_skipped, outcome_of, stated_steps}
use Rattle.apply_model.specs.Script.Step.{answer_to, if_byte, is_skipped}
use Rattle.apply_model.specs.Script.Waits.{names_a_wait}
use Rattle.apply_events.specs.ChangeEvents.{begun}
use Rattle.apply_events.specs.Step.{Step, Work, kinds_applied, kinds_of, step_of, steps_of}
use Rattle.apply_events.specs.StepEvents.{goes_on, step_time}
use Rattle.apply_events.specs.declared.lanes.turn.Turn.{Turn}
use Rattle.apply_events.specs.Waits.Turn.{begun_steps, single, turns, turns_of, waits_of_turn, whole}
use Rattle.apply_events.proofs.Waits.TurnNumbers.{turn_at}
use Rattle.apply_planning.specs.declared.told.Told.{Told}
use Rattle.apply_planning.specs.PlanningWork.{change_of, ending_by, ending_of, is_error, is_severe, outcome_of_told, planning_work, stated_of, waits_from}

-- the object of that number
pub object_at : (told : List Told) (c : ℕ) → c < length told → (one : Told) × (slice_get told c ≡ Some one)
object_at [] c lt = absurd (omega arith)
object_at (one ∷ told) zero lt = (one, refl)
object_at (one ∷ told) (suc c) lt = object_at told c (omega arith)

module _ (told : List Told) (c : ℕ) (one : Told) (is : slice_get told c ≡ Some one) where
  abbrev w : Work
  w = planning_work told

  stated : stated_steps w.script c ≡ Some (Answered (outcome_of_told told one) ∷ [])
  stated = ap (option_and_then (λ (s : Option (List ScriptStep)). s)) (slice_get-map (stated_of told) told c ∙ ap (option_map (stated_of told)) is)

  pub outcome_is : outcome_of w.script c 0 ≡ outcome_of_told told one
  outcome_is = ap (λ (s : Option (List ScriptStep)). unwrap_or (option_and_then answer_to (option_and_then (λ steps. slice_get steps 0) s)) default_outcome) stated

  none_skipped : first_skipped w.script c ≡ None
  none_skipped = ap (λ (s : Option (List ScriptStep)). option_and_then (λ steps. if_byte (position_from is_skipped 0 steps)) s) stated

  pub one_kind : kinds_applied w.plan w.script c ≡ Read ∷ []
  one_kind =
      ap (λ (s : Option ℕ). option_map_or (λ skipped. take skipped (kinds_of w.plan c)) s (kinds_of w.plan c)) none_skipped
      ∙ ap (λ (o : Option ResourceChange). option_map_or (λ change. change.steps) o []) (slice_get-map change_of told c ∙ ap (option_map change_of) is)

  abbrev pub its_step : Step
  its_step = step_of (planning_work told) c 0 Read

  pub one_step : steps_of w c ≡ step_of (planning_work told) c 0 Read ∷ []
  one_step = ap (λ (kinds : List StepKind). map (λ p. step_of w c p.0 p.1) (enumerate_from 0 kinds)) one_kind

  pub its_time : step_time (step_of (planning_work told) c 0 Read) ≡ one.seconds
  its_time = ap (λ (o : Outcome). seconds_before Read o + seconds_of_all (ran o.provisioners) + seconds_after Read o) outcome_is ∙ (let sum : one.seconds + 0 + 0 ≡ one.seconds = omega arith in sum)

  by_failure : (failure : Option Note) → is_failed (ending_of failure) ≡ is_error failure
  by_failure None = refl
  by_failure (Some note) = by_severity note.severity
    where
      by_severity : (severity : Severity) → is_failed (ending_by severity note.diag) ≡ is_severe severity
      by_severity Error = refl
      by_severity Warning = refl

  pub goes_unless : goes_on (step_of (planning_work told) c 0 Read) ≡ not (is_error one.failure)
  goes_unless = ap (λ (o : Outcome). not (fails o) && true) outcome_is ∙ by_answer (is_failed (ending_of one.failure)) (is_error one.failure) (by_failure one.failure)
    where
      by_answer : (t u : Bool) → t ≡ u → (not (t || false) && true) ≡ not u
      by_answer true u same = ap not same
      by_answer false u same = ap not same

  pub one_turn_of : turns_of w c ≡ single c 0 ∷ []
  one_turn_of =
      ap (λ n. cond (eqb n 2 && names_a_wait (outcome_of w.script c 1)) (single c 0 ∷ single c 1 ∷ []) (whole w c ∷ [])) (ap length one_kind)
      ∙ ap (λ n. let t : Turn = record { change = c; first = 0; count = n } in t ∷ []) (ap length one_kind)

  pub turn_waits_are : waits_of_turn w (single c 0) ≡ waits_from 0 told one
  turn_waits_are = ap (λ (o : Outcome). o.after) outcome_is

  -- the step that begins, and none after it
  pub begun_one : begun_steps w (single c 0) ≡ step_of (planning_work told) c 0 Read ∷ []
  begun_one = ap (λ (steps : List Step). begun (take 1 (drop 0 steps))) one_step ∙ none_after (goes_on its_step)
    where
      none_after : (t : Bool) → its_step ∷ cond t [] [] ≡ its_step ∷ []
      none_after true = refl
      none_after false = refl

-- ---- all turns

turns_from : (told : List Told) (c n : ℕ) → c + n ≤ length told → flat_map (turns_of (planning_work told)) (range_with_len c n) ≡ map (λ k. single k 0) (range_with_len c n)
turns_from told c zero le = refl
turns_from told c (suc n) le =
    let one = object_at told c (omega arith) in
    ap (λ (ts : List Turn). ts ++ flat_map (turns_of (planning_work told)) (range_with_len (c + 1) n)) (one_turn_of told c one.0 one.1)
    ∙ ap (λ (ts : List Turn). single c 0 ∷ ts) (turns_from told (c + 1) n (omega arith))

pub turns_are : (told : List Told) → turns (planning_work told) ≡ map (λ k. single k 0) (range_with_len 0 (length told))
turns_are told =
    ap (λ n. flat_map (turns_of (planning_work told)) (range_with_len 0 n)) (length-map told change_of)
    ∙ turns_from told 0 (length told) (omega arith)

pub count_turns : (told : List Told) → length (turns (planning_work told)) ≡ length told
count_turns told = ap length (turns_are told) ∙ length-map-range_with_len (λ k. single k 0) 0 (length told)

pub turn_is_single : (told : List Told) (k : ℕ) → k < length told → turn_at (turns (planning_work told)) k ≡ single k 0
turn_is_single told k lt =
    ap (λ (ts : List Turn). turn_at ts k) (turns_are told)
    ∙ get_or-map-range_with_len (λ c. single c 0) 0 (length told) k k (record { change = 0; first = 0; count = 0 }) lt (omega arith)

pub planned_kind : (told : List Told) (c : ℕ) → c < length told → kinds_of (planning_work told).plan c ≡ Read ∷ []
planned_kind told c lt =
    let one = object_at told c lt in
    ap (λ (o : Option ResourceChange). option_map_or (λ change. change.steps) o []) (slice_get-map change_of told c ∙ ap (option_map change_of) one.1)
