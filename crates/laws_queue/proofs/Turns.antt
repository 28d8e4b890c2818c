-- The turn that is ready first, where each turn is ready at the first time.
use Rattle.std.proofs.Common.{◌≡◌, ◌∙◌, ◌+◌, ◌<◌, ◌≤◌, ℕ, zero, suc, List, ◌∷◌, Bool, true, false, cond, filter, Option, Some, None, refl, ap, arith, ⊎_elim}
use Rattle.std.specs.List.{range_with_len}
use Rattle.std.proofs.lemmas.Bool.{cases_Bool, cases_eq}
use Rattle.stream_record_waits.specs.declared.course.ReadyTurn.{ReadyTurn}
use Rattle.stream_record_waits.specs.Course.{Basis, Course, begins_turn, earlier_of, first_ready, next_of, ready_turn}
use Rattle.stream_record_waits.specs.LaneTime.{first_lane_time}
use Rattle.laws_queue.proofs.RecordTimes.{never_earlier}

module _ (basis : Basis) (course : Course) where
  -- the turns from a step on
  abbrev pub turns_from : (start count : ℕ) → List ℕ
  turns_from start count = filter (begins_turn basis) (range_with_len start count)

  begun : (start count : ℕ) → begins_turn basis start ≡ true
      → first_ready basis course (turns_from start (suc count)) ≡ earlier_of (next_of basis course start) (first_ready basis course (turns_from (start + 1) count))
  begun start count begins = ap (λ (b : Bool). first_ready basis course (cond b (start ∷ turns_from (start + 1) count) (turns_from (start + 1) count))) begins

  not_begun : (start count : ℕ) → begins_turn basis start ≡ false → first_ready basis course (turns_from start (suc count)) ≡ first_ready basis course (turns_from (start + 1) count)
  not_begun start count fails = ap (λ (b : Bool). first_ready basis course (cond b (start ∷ turns_from (start + 1) count) (turns_from (start + 1) count))) fails

  -- no turn of a step is still to start
  abbrev pub IsOver : ℕ → Type 0
  IsOver p = begins_turn basis p ≡ true → next_of basis course p ≡ None

  over : (start count : ℕ) → IsOver start → first_ready basis course (turns_from start (suc count)) ≡ first_ready basis course (turns_from (start + 1) count)
  over start count is = ⊎_elim
      (λ (yes : begins_turn basis start ≡ true). begun start count yes ∙ ap (λ o. earlier_of o (first_ready basis course (turns_from (start + 1) count))) (is yes))
      (λ (no : begins_turn basis start ≡ false). not_begun start count no)
      (cases_Bool (begins_turn basis start))

  pub none_ready : (count start : ℕ) → ((p : ℕ) → start ≤ p → p < start + count → IsOver p) → first_ready basis course (turns_from start count) ≡ None
  none_ready zero start all = refl
  none_ready (suc count) start all =
      over start count (all start (omega arith) (omega arith)) ∙ none_ready count (start + 1) (λ p low high. all p (omega arith) (omega arith))

  stays_first : (step : ℕ) (others : Option ReadyTurn) → earlier_of (Some (ready_turn step first_lane_time)) others ≡ Some (ready_turn step first_lane_time)
  stays_first step None = refl
  stays_first step (Some other) = ap (λ t. cond t (Some other) (Some (ready_turn step first_lane_time))) (never_earlier other.at)

  pub one_ready : (count start q : ℕ) → ((p : ℕ) → start ≤ p → p < q → IsOver p) → start ≤ q → q < start + count → begins_turn basis q ≡ true
      → next_of basis course q ≡ Some (ready_turn q first_lane_time) → first_ready basis course (turns_from start count) ≡ Some (ready_turn q first_lane_time)
  one_ready zero start q all low high begins next = absurd (omega arith)
  one_ready (suc count) start q all low high begins next = ⊎_elim
      (λ (same : start ≡ q).
      begun start count (ap (begins_turn basis) same ∙ begins)
      ∙ ap (λ o. earlier_of o (first_ready basis course (turns_from (start + 1) count))) (ap (next_of basis course) same ∙ next)
      ∙ stays_first q (first_ready basis course (turns_from (start + 1) count)))
      (λ (other : start ≡ q → ⊥).
      over start count (all start (omega arith) (omega arith))
      ∙ one_ready count (start + 1) q (λ p low' high'. all p (omega arith) high') (omega arith) (omega arith) begins next)
      (cases_eq start q)
