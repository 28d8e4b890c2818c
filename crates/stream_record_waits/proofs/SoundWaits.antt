-- The waits of all steps are in order, of steps that there are, and were done before.
use Rattle.std.proofs.Common.{◌≡◌, ◌∙◌, ◌<◌, ◌≤◌, ◌&&◌, ℕ, List, [], All, Bool, true, false, cond, eqb, ltb, Option, None, Some, length, get_or, refl, sym, ap, arith, subst, ⊎_elim, lt-ltb}
use Rattle.std.specs.Prelude.{IfSome, count_by, not, option_to_list, position}
use Rattle.std.specs.List.Sorted.{IsStrictlyIncreasing}
use Rattle.std.specs.Option.{option_and_then, option_map_or}
use Rattle.std.proofs.lemmas.Bool.{cases_lt}
use Rattle.std.proofs.lemmas.List.{get_or_past}
use Rattle.std.proofs.lemmas.List.Elements.{All-cons, All-contains, All-contains_itself, All-from_get_or, All-nil}
use Rattle.std.proofs.lemmas.List.FromFn.{get_or-map-range_with_len, length-map-range_with_len}
use Rattle.std.proofs.lemmas.List.Quantifiers.{position-Some}
use Rattle.stream_record_waits.specs.declared.step_of_plan.RunFate.{RunFate}
use Rattle.stream_record_waits.specs.declared.step_of_plan.RunFate.TheVariants.{Done, Warned, Failed}
use Rattle.stream_record_waits.specs.declared.step_of_plan.StepOfPlan.{StepOfPlan}
use Rattle.stream_record_waits.specs.declared.step_of_plan.StepRun.{StepRun}
use Rattle.stream_record_waits.specs.Behind.{AreBehind, IsBehind}
use Rattle.stream_record_waits.specs.Course.{Basis, Course, behind_at, first_pinned, is_pinned, pin_at, with_wait}
use Rattle.stream_record_waits.specs.Graph.{AreFirstWaits, AreStepWaits, AreWaitsOf, Reaches, directly, passed_on, through, waits_at}
use Rattle.stream_record_waits.specs.Guess.{cause_of, guessed_wait, queue_wait, wait_without_graph, waits_without_graph}
use Rattle.stream_record_waits.specs.Recorded.{AreSoundWaits}
use Rattle.stream_record_waits.specs.Steps.{are_same, both_began, completion, completion_of, done_line, done_line_at, done_line_of, follows_at_once, has_begun, has_failed, is_done_before, step_at, step_before}
use Rattle.stream_record_waits.proofs.Rows.{passed_known}
use Rattle.stream_record_waits.proofs.WithWait.{with_wait_all, with_wait_increasing}

-- ---- with a graph

module _ (steps : List StepOfPlan) (graph : List (List ℕ)) (known : AreWaitsOf (length steps) graph) where
  reach_known : (start line other : ℕ) → start < length steps → Reaches steps graph start line other → other < length steps
  reach_known start line other within (directly _ c) = All-contains (λ n. n < length steps) (waits_at graph start) other (known.known start within) c
  reach_known start line other within (through step _ path plain c) =
      All-contains (λ n. n < length steps) (passed_on steps graph step) other (passed_known steps graph step known (reach_known start line step within path)) c

  in_order_of : (step : ℕ) (run : Option StepRun) (after early : List ℕ) → step < length steps → AreStepWaits steps graph step run after early → IsStrictlyIncreasing after
  in_order_of step None after early within are = subst IsStrictlyIncreasing (sym are.0) (known.in_order step within)
  in_order_of step (Some run) after early within are = are.0.in_order

  known_of : (step : ℕ) (run : Option StepRun) (after early : List ℕ) → step < length steps → AreStepWaits steps graph step run after early → All (λ other. other < length steps) after
  known_of step None after early within are = subst (All (λ other. other < length steps)) (sym are.0) (known.known step within)
  known_of step (Some run) after early within are = λ k d inside.
      reach_known step run.line (get_or after k d) within (are.0.sound (get_or after k d) (All-contains_itself after k d inside)).reaches

  done_of : (step : ℕ) (one : Option StepRun) (run : StepRun) (after early : List ℕ) → one ≡ Some run → AreStepWaits steps graph step one after early → All (λ other. is_done_before steps other run.line ≡ true) after
  done_of step None run after early is are = cc
  done_of step (Some one) run after early is are = λ k d inside.
      let same : one ≡ run = cc in
      subst (λ (r : StepRun). is_done_before steps (get_or after k d) r.line ≡ true) same (are.0.sound (get_or after k d) (All-contains_itself after k d inside)).done

  pub graph_sound : (after early : List (List ℕ)) → AreFirstWaits steps graph (length steps) after early → AreSoundWaits steps after
  graph_sound after early are = record {
    of_steps = record {
      each = are.each;
      in_order = λ step within. in_order_of step (step_at steps step).run (waits_at after step) (waits_at early step) within (are.waits step within);
      known = λ step within. known_of step (step_at steps step).run (waits_at after step) (waits_at early step) within (are.waits step within);
    };
    done = λ step run within is. done_of step (step_at steps step).run run (waits_at after step) (waits_at early step) is (are.waits step within);
  }

-- ---- the step behind which a step begins was done before it

completed_is_done : (fate : RunFate) (line end : ℕ) (o : Option ℕ) → completion_of fate o ≡ Some end → done_line_of fate line o ≡ Some end
completed_is_done Done line end o is = is
completed_is_done Warned line end o is = cc
completed_is_done Failed line end o is = cc

completed_run : (run : Option StepRun) (end : ℕ) → option_and_then completion run ≡ Some end → option_and_then done_line run ≡ Some end
completed_run None end is = cc
completed_run (Some run) end is = completed_is_done run.fate run.line end run.end is

module _ (steps : List StepOfPlan) (behind : List (Option ℕ)) (are : AreBehind steps behind) where
  -- a step that was done before a line
  abbrev IsDone : (line : ℕ) → ℕ → Type 0
  IsDone line other = (other < length steps) × (is_done_before steps other line ≡ true)

  abbrev IsKnown : ℕ → Type 0
  IsKnown other = other < length steps

  behind_is : (run : Option StepRun) (one : Option ℕ) → IsBehind steps run one → IfSome one IsKnown × ((r : StepRun) → run ≡ Some r → IfSome one (IsDone r.line))
  behind_is None one is = (subst (λ (o : Option ℕ). IfSome o IsKnown) (sym is) tt, λ r same. cc)
  behind_is (Some run) None is = (tt, λ r same. tt)
  behind_is (Some run) (Some step) is =
      let ends = is.ends in (
        ends.0,
        λ r same.
            let it : run ≡ r = cc in
            let line : done_line_at steps step ≡ Some is.end = completed_run (step_at steps step).run is.end ends.1 in
            let done : is_done_before steps step run.line ≡ true = ap (λ (o : Option ℕ). option_map_or (λ d. ltb d run.line) o false) line ∙ lt-ltb is.end run.line ends.2 in
            subst (λ (one : StepRun). IsDone one.line step) it (ends.0, done),
      )

  pub behind_known : (step : ℕ) → IfSome (get_or behind step None) IsKnown
  behind_known step = ⊎_elim
      (λ (lt : step < length steps). (behind_is (step_at steps step).run (get_or behind step None) (are.are step lt)).0)
      (λ (ge : length steps ≤ step). let size = are.each in subst (λ (o : Option ℕ). IfSome o IsKnown) (sym (get_or_past behind step None (omega (arith, size, ge)))) tt)
      (cases_lt step (length steps))

  pub behind_done : (step : ℕ) (run : StepRun) → step < length steps → (step_at steps step).run ≡ Some run → IfSome (get_or behind step None) (IsDone run.line)
  behind_done step run within is = (behind_is (step_at steps step).run (get_or behind step None) (are.are step within)).1 run is

  pub all_behind_known : All (λ one. IfSome one IsKnown) behind
  all_behind_known = All-from_get_or (λ (one : Option ℕ). IfSome one IsKnown) behind None (λ step within. behind_known step)

  -- ---- without a graph

  module _ (guesses : Bool) where
    cause_known : (b : Bool) (o : Option ℕ) → ((i : ℕ) → o ≡ Some i → i < length steps) → IfSome (cond b o None) IsKnown
    cause_known true None within = tt
    cause_known true (Some i) within = within i refl
    cause_known false o within = tt

    cause_is_known : IfSome (cause_of steps guesses) IsKnown
    cause_is_known = cause_known (guesses && eqb (count_by has_failed steps) 1) (position has_failed steps)
        (λ i is. (position-Some has_failed steps i (record { is_first = false; run = None }) is).0)

    chosen : (P : ℕ → Type 0) (b : Bool) (o : Option ℕ) → IfSome o P → IfSome (cond b o None) P
    chosen P true o one = one
    chosen P false o one = tt

    either : (P : ℕ → Type 0) (b : Bool) (x y : Option ℕ) → (b ≡ true → IfSome x P) → (b ≡ false → IfSome y P) → IfSome (cond b x y) P
    either P true x y p q = p refl
    either P false x y p q = q refl

    wait_known : (step : ℕ) → IfSome (wait_without_graph steps behind (cause_of steps guesses) step) IsKnown
    wait_known step = either IsKnown (has_begun steps step) (queue_wait steps behind step) (guessed_wait steps (cause_of steps guesses) step)
        (λ begun. chosen IsKnown (both_began steps step && not (follows_at_once steps step)) (get_or behind step None) (behind_known step))
        (λ not_begun. chosen IsKnown (option_map_or (has_begun steps) (step_before steps step) true && not (are_same (cause_of steps guesses) (step_before steps step))) (cause_of steps guesses) cause_is_known)

    has_run : (step : ℕ) (run : StepRun) → (step_at steps step).run ≡ Some run → has_begun steps step ≡ false → ⊥
    has_run step run is not_begun = cc

    wait_done : (step : ℕ) (run : StepRun) → step < length steps → (step_at steps step).run ≡ Some run → IfSome (wait_without_graph steps behind (cause_of steps guesses) step) (IsDone run.line)
    wait_done step run within is = either (IsDone run.line) (has_begun steps step) (queue_wait steps behind step) (guessed_wait steps (cause_of steps guesses) step)
        (λ begun. chosen (IsDone run.line) (both_began steps step && not (follows_at_once steps step)) (get_or behind step None) (behind_done step run within is))
        (λ not_begun. absurd (has_run step run is not_begun))

    row_is_wait : (step : ℕ) → step < length steps → waits_at (waits_without_graph steps behind guesses) step ≡ option_to_list (wait_without_graph steps behind (cause_of steps guesses) step)
    row_is_wait step within =
        get_or-map-range_with_len (λ (k : ℕ). option_to_list (wait_without_graph steps behind (cause_of steps guesses) k)) 0 (length steps) step step [] within (omega arith)

    alone : (P : ℕ → Type 0) (o : Option ℕ) → IfSome o P → All P (option_to_list o)
    alone P None one = All-nil P
    alone P (Some x) one = All-cons P x [] one (All-nil P)

    alone_in_order : (o : Option ℕ) → IsStrictlyIncreasing (option_to_list o)
    alone_in_order None k within = omega (arith, within)
    alone_in_order (Some x) k within = omega (arith, within)

    done_alone : (line : ℕ) (o : Option ℕ) → IfSome o (IsDone line) → IfSome o (λ other. is_done_before steps other line ≡ true)
    done_alone line None one = one
    done_alone line (Some x) one = one.1

    pub lines_sound : AreSoundWaits steps (waits_without_graph steps behind guesses)
    lines_sound = record {
      of_steps = record {
        each = length-map-range_with_len (λ (k : ℕ). option_to_list (wait_without_graph steps behind (cause_of steps guesses) k)) 0 (length steps);
        in_order = λ step within. subst IsStrictlyIncreasing (sym (row_is_wait step within)) (alone_in_order (wait_without_graph steps behind (cause_of steps guesses) step));
        known = λ step within. subst (All IsKnown) (sym (row_is_wait step within)) (alone IsKnown (wait_without_graph steps behind (cause_of steps guesses) step) (wait_known step));
      };
      done = λ step run within is. subst (All (λ other. is_done_before steps other run.line ≡ true)) (sym (row_is_wait step within))
          (alone (λ other. is_done_before steps other run.line ≡ true) (wait_without_graph steps behind (cause_of steps guesses) step)
          (done_alone run.line (wait_without_graph steps behind (cause_of steps guesses) step) (wait_done step run within is)));
    }

  -- ---- with the steps that were put back

  module _ (basis : Basis) (same_steps : basis.steps ≡ steps) (same_behind : basis.behind ≡ behind) (sound : AreSoundWaits steps basis.after) (course : Course) where
    put_back : (P : ℕ → Type 0) (step : ℕ) → IfSome (get_or behind step None) P → IfSome (pin_at basis course step) P
    put_back P step one = elim (is_pinned course step) as (λ b. IfSome (cond b (behind_at basis step) None) P) [
      | true ↦ subst (λ (list : List (Option ℕ)). IfSome (get_or list step None) P) (sym same_behind) one
      | false ↦ tt
    ]

    pub pinned_row : (count step : ℕ) → step < count → waits_at (first_pinned basis course count) step ≡ with_wait (pin_at basis course step) (waits_at basis.after step)
    pinned_row count step within =
        get_or-map-range_with_len (λ (k : ℕ). with_wait (pin_at basis course k) (waits_at basis.after k)) 0 count step step [] within (omega arith)

    pub pinned_sound : AreSoundWaits steps (first_pinned basis course (length steps))
    pinned_sound = record {
      of_steps = record {
        each = length-map-range_with_len (λ (k : ℕ). with_wait (pin_at basis course k) (waits_at basis.after k)) 0 (length steps);
        in_order = λ step within. subst IsStrictlyIncreasing (sym (pinned_row (length steps) step within))
            (with_wait_increasing (pin_at basis course step) (waits_at basis.after step) (sound.of_steps.in_order step within));
        known = λ step within. subst (All IsKnown) (sym (pinned_row (length steps) step within))
            (with_wait_all IsKnown (pin_at basis course step) (waits_at basis.after step) (put_back IsKnown step (behind_known step)) (sound.of_steps.known step within));
      };
      done = λ step run within is. subst (All (λ other. is_done_before steps other run.line ≡ true)) (sym (pinned_row (length steps) step within))
          (with_wait_all (λ other. is_done_before steps other run.line ≡ true) (pin_at basis course step) (waits_at basis.after step)
          (put_back (λ other. is_done_before steps other run.line ≡ true) step (only_done step run (get_or behind step None) (behind_done step run within is))) (sound.done step run within is));
    }
      where
        only_done : (step : ℕ) (run : StepRun) (o : Option ℕ) → IfSome o (IsDone run.line) → IfSome o (λ other. is_done_before steps other run.line ≡ true)
        only_done step run None one = one
        only_done step run (Some x) one = one.1
