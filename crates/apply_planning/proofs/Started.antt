-- A told object that begins: when it ends, and whether it is done then.
use Rattle.std.proofs.Common.{◌≡◌, ℕ, ◌+◌, Bool, true, false, ◌&&◌, List, [], ◌∷◌, Option, Some, None, cond, not, sum_by, refl, sym, ap, ◌∙◌, arith, eqb}
use Rattle.std.specs.Prelude.{slice_get}
use Rattle.std.proofs.lemmas.List.Sums.{sum_by-cons}
use Rattle.apply_model.specs.declared.plan.step_kind.StepKind.TheVariants.{Read}
use Rattle.apply_model.specs.declared.script.wait.Wait.{Wait}
use Rattle.apply_events.specs.Step.{Step, step_of}
use Rattle.apply_events.specs.StepEvents.{goes_on, step_time}
use Rattle.apply_events.specs.declared.lanes.lane_time.LaneTime.{LaneTime}
use Rattle.apply_events.specs.declared.lanes.turn.StartedTurn.{StartedTurn}
use Rattle.apply_events.specs.Waits.Done.{done_among, done_at, end_after, end_of_turn, first_some}
use Rattle.apply_events.specs.Waits.LaneTime.{later_by}
use Rattle.apply_events.specs.Waits.Queue.{with_step_done}
use Rattle.apply_events.specs.Waits.Turn.{single}
use Rattle.apply_events.proofs.Waits.Ends.{time_of}
use Rattle.apply_planning.specs.declared.told.Told.{Told}
use Rattle.apply_planning.specs.Names.{name_wait}
use Rattle.apply_planning.specs.PendingNames.{done_with}
use Rattle.apply_planning.specs.PlanningWork.{is_error, planning_work}
use Rattle.apply_planning.proofs.PlannedWork.{begun_one, goes_unless, its_time}

module _ (told : List Told) (c : ℕ) (one : Told) (is : slice_get told c ≡ Some one) (lane : ℕ) (begin : LaneTime) where
  abbrev it : StartedTurn
  it = record { turn = single c 0; lane = lane; begin = begin }

  pub its_end : end_of_turn (planning_work told) (record { turn = single c 0; lane = lane; begin = begin }) ≡ later_by one.seconds begin
  its_end = ap (end_after begin) (begun_one told c one is) ∙ ap (λ s. later_by s begin) (its_time told c one is)

  pub its_span : time_of (planning_work told) (record { turn = single c 0; lane = lane; begin = begin }) ≡ one.seconds
  its_span =
      let step = step_of (planning_work told) c 0 Read in
      let sum = sum_by-cons step_time step [] in
      let time = its_time told c one is in
      ap (sum_by step_time) (begun_one told c one is) ∙ sum ∙ (let same : step_time step + 0 ≡ one.seconds = omega arith in same)

  by_tests : (t u fail goes : Bool) (end : LaneTime) (before : Option LaneTime) → goes ≡ not fail
      → first_some (cond t (cond u (cond goes (Some end) None) None) None) before ≡ cond fail before (cond (t && u) (Some end) before)
  by_tests true true true goes end before same = ap (λ g. first_some (cond g (Some end) None) before) same
  by_tests true true false goes end before same = ap (λ g. first_some (cond g (Some end) None) before) same
  by_tests true false true goes end before same = refl
  by_tests true false false goes end before same = refl
  by_tests false u true goes end before same = refl
  by_tests false u false goes end before same = refl

  applied : (t : Bool) (f g : Wait → Option LaneTime) (name : Wait) → cond t (f name) (g name) ≡ cond t f g name
  applied true f g name = refl
  applied false f g name = refl

  pub done_more : (started : List StartedTurn) (name : Wait) → done_with one.failure c (later_by one.seconds begin) (done_at (planning_work told) started) name
      ≡ done_at (planning_work told) (record { turn = single c 0; lane = lane; begin = begin } ∷ started) name
  done_more started name =
      let step = step_of (planning_work told) c 0 Read in
      sym (ap (λ (steps : List Step). first_some (cond (eqb c name.change) (done_among name.step begin steps) None) (done_at (planning_work told) started name)) (begun_one told c one is)
      ∙ ap (λ s. first_some (cond (eqb c name.change) (cond (eqb 0 name.step) (cond (goes_on step) (Some (later_by s begin)) None) None) None) (done_at (planning_work told) started name)) (its_time told c one is)
      ∙ by_tests (eqb c name.change) (eqb 0 name.step) (is_error one.failure) (goes_on step) (later_by one.seconds begin) (done_at (planning_work told) started name) (goes_unless told c one is)
      ∙ applied (is_error one.failure) (done_at (planning_work told) started) (with_step_done (done_at (planning_work told) started) (name_wait c) (later_by one.seconds begin)) name)
