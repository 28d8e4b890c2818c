-- One told object after another begins: the facts before each begin.
use Rattle.std.proofs.Common.{◌≡◌, ℕ, suc, ◌+◌, ◌*◌, ◌-◌, ◌<◌, ◌≤◌, List, [], ◌∷◌, ◌++◌, Option, Some, None, get_or, length, map, replicate, reverse, set, refl, sym, ap, ◌∙◌, subst, arith, length-append}
use Rattle.std.specs.Prelude.{option_map, slice_get}
use Rattle.std.proofs.lemmas.List.{get_or-map, length-map, length-reverse, reverse-append}
use Rattle.std.proofs.lemmas.List.Sums.{sum_by-cons}
use Rattle.std.proofs.lemmas.Option.{get_or_from_slice_get, slice_get-map}
use Rattle.apply_model.specs.declared.script.wait.Wait.{Wait}
use Rattle.apply_events.specs.Step.{Work}
use Rattle.apply_events.specs.declared.lanes.lane_time.LaneTime.{LaneTime}
use Rattle.apply_events.specs.declared.lanes.queue.Queue.{Queue}
use Rattle.apply_events.specs.declared.lanes.queue.ReadyTurn.{ReadyTurn}
use Rattle.apply_events.specs.declared.lanes.turn.StartedTurn.{StartedTurn}
use Rattle.apply_events.specs.Waits.Done.{done_at}
use Rattle.apply_events.specs.Waits.LaneTime.{IsNoLater, first_lane_time, later_by, later_of}
use Rattle.apply_events.specs.Waits.Queue.{IsDue, IsFirstDue, IsQueue, missing_count, names_at, none_done, ready_round_of, turn_waits}
use Rattle.apply_events.specs.Waits.Schedule.{Ready, first_earliest, first_ready, free_after, ready_turn, schedule, scheduled, started_in, with_next}
use Rattle.apply_events.specs.Waits.Turn.{single, turns}
use Rattle.apply_events.proofs.Waits.Due.{first_due, is_over, none_first}
use Rattle.apply_events.proofs.Waits.Ends.{each_begins, time_of, total}
use Rattle.apply_events.proofs.Waits.Free.{first_earliest_lt, length-free}
use Rattle.apply_events.proofs.Waits.Passing.{queue_same}
use Rattle.apply_events.proofs.Waits.Rounds.{rounds}
use Rattle.apply_events.proofs.Waits.Standing.{any_default}
use Rattle.apply_events.proofs.Waits.StartedTurns.{EachAfter}
use Rattle.apply_events.proofs.Waits.TurnNumbers.{HaveNumbers, not_done, not_started}
use Rattle.apply_planning.specs.declared.pending_names.PendingNames.{PendingNames}
use Rattle.apply_planning.specs.declared.told.Told.{Told}
use Rattle.apply_planning.specs.Names.{first_named, name_wait, name_waits}
use Rattle.apply_planning.specs.PendingNames.{ArePending, IsPlanned, done_with, max_told, named_done}
use Rattle.apply_planning.specs.PlanningWork.{max_seconds_in_all, planning_work, waits_from}
use Rattle.apply_planning.proofs.Agreeing.{agree, none_named, same_round}
use Rattle.apply_planning.proofs.PlannedWork.{count_turns, object_at, turn_is_single, turn_waits_are}
use Rattle.apply_planning.proofs.Started.{done_more, its_end, its_span}

-- some objects began, listed in the order of their begins, and the queue has the others
pub record IsUnderWay (told : List Told) (number : List ℕ → Option ℕ) (n : ℕ) (queue : Queue) (pending : PendingNames) (free : List LaneTime) (all : List StartedTurn) : Type 0 where
  pub few : length all ≤ length told
  pub lanes : free ≡ free_after (planning_work told) n (reverse all)
  pub are : reverse all ≡ scheduled (planning_work told) n (length all)
  pub short : total (planning_work told) (reverse all) ≤ 864000000 * length all
  pub numbers : List ℕ
  pub counted : ArePending told (done_at (planning_work told) (reverse all)) pending
  pub queued : IsQueue (2 * length told) (map (name_waits number) told) (named_done pending) numbers queue
  pub have : HaveNumbers (turns (planning_work told)) numbers (reverse all)

pub at_first : (told : List Told) (number : List ℕ → Option ℕ) (n : ℕ) (queue : Queue) (pending : PendingNames) (free : List LaneTime) (all : List StartedTurn) → all ≡ []
    → free ≡ replicate n first_lane_time → ArePending told none_done pending → IsQueue (2 * length told) (map (name_waits number) told) none_done [] queue → IsUnderWay told number n queue pending free all
at_first told number n queue pending free all none lanes fresh q = subst (IsUnderWay told number n queue pending free) (sym none) (record {
  few = omega arith;
  lanes = lanes;
  are = refl;
  short = omega arith;
  numbers = [];
  counted = fresh;
  queued = queue_same (2 * length told) (map (name_waits number) told) none_done (named_done pending) [] queue (none_named told pending fresh) q;
  have = tt;
})

module _ (told : List Told) (number : List ℕ → Option ℕ) (are : (name : List ℕ) → number name ≡ first_named told name) (n : ℕ) (queue : Queue) (pending : PendingNames) (free : List LaneTime)
    (all : List StartedTurn) (h : IsUnderWay told number n queue pending free all) where
  abbrev w : Work
  w = planning_work told

  abbrev done : Wait → Option LaneTime
  done = done_at (planning_work told) (reverse all)

  abbrev by_names : List (List Wait)
  by_names = map (name_waits number) told

  abbrev by_steps : List (List Wait)
  by_steps = map (turn_waits (planning_work told).script) (turns (planning_work told))

  -- ---- what the queue gives is what is ready first

  name_list : (k : ℕ) (one : Told) → slice_get told k ≡ Some one → names_at by_names k ≡ name_waits number one
  name_list k one is = get_or_from_slice_get by_names k (name_waits number one) [] (slice_get-map (name_waits number) told k ∙ ap (option_map (name_waits number)) is)

  step_list : (k : ℕ) (one : Told) → k < length told → slice_get told k ≡ Some one → names_at by_steps k ≡ waits_from 0 told one
  step_list k one lt is =
      let size = count_turns told in
      get_or-map (turn_waits w.script) (turns w) k (record { change = 0; first = 0; count = 0 }) [] (omega arith)
      ∙ ap (turn_waits w.script) (turn_is_single told k lt) ∙ turn_waits_are told k one is

  due_known : (k : ℕ) → IsDue by_names (named_done pending) h.numbers k → k < length told
  due_known k due = let size = length-map told (name_waits number) in let low = due.0 in omega arith

  steps_due : (k : ℕ) → IsDue by_names (named_done pending) h.numbers k
      → IsDue by_steps done h.numbers k × (ready_round_of (named_done pending) (names_at by_names k) ≡ ready_round_of done (names_at by_steps k))
  steps_due k due =
      let lt = due_known k due in
      let object = object_at told k lt in
      let one = object.0 in
      let names = name_list k one object.1 in
      let steps = step_list k one lt object.1 in
      let size = count_turns told in
      let length_is = length-map (turns w) (turn_waits w.script) in
      let none = (agree told done pending h.counted number are one).1 (sym (ap (missing_count (named_done pending)) names) ∙ due.1) in (
        (omega arith, ap (missing_count done) steps ∙ none, due.2),
        ap (ready_round_of (named_done pending)) names ∙ same_round told done pending h.counted number are one none ∙ sym (ap (ready_round_of done) steps),
      )

  names_due : (k : ℕ) → IsDue by_steps done h.numbers k → IsDue by_names (named_done pending) h.numbers k
  names_due k due =
      let size = count_turns told in
      let length_is = length-map (turns w) (turn_waits w.script) in
      let low = due.0 in
      let lt : k < length told = omega arith in
      let also = length-map told (name_waits number) in
      let object = object_at told k lt in
      let one = object.0 in
      let none = (agree told done pending h.counted number are one).0 (sym (ap (missing_count done) (step_list k one lt object.1)) ∙ due.1) in
      (omega arith, ap (missing_count (named_done pending)) (name_list k one object.1) ∙ none, due.2)

  -- if no object is due, all that the lanes start has begun
  pub over : ((k : ℕ) → IsDue by_names (named_done pending) h.numbers k → ⊥) → reverse all ≡ schedule (planning_work told) n
  over never =
      let none = subst (λ l. first_ready w l (turns w) ≡ None) h.are (none_first w (reverse all) h.numbers h.have (λ k due. never k (names_due k due))) in
      let few = h.few in
      let size = count_turns told in
      let rest : length (turns w) - length all + length all ≡ length (turns w) = omega arith in
      h.are ∙ sym (is_over w n (length all) none (length (turns w) - length all)) ∙ ap (scheduled w n) rest

  pub full : length told ≤ length all → reverse all ≡ schedule (planning_work told) n
  full all_there =
      let few = h.few in
      let size = count_turns told in
      let same : length all ≡ length (turns w) = omega arith in
      h.are ∙ ap (scheduled w n) same

  module _ (some : 0 < n) (limit : length told ≤ max_told) (ready : ReadyTurn) (first : IsFirstDue (map (name_waits number) told) (named_done pending) h.numbers ready) where
    pub number_fits : ready.number < length told
    number_fits = due_known ready.number first.due

    steps_first : IsFirstDue by_steps done h.numbers ready
    steps_first = record {
      due = (steps_due ready.number first.due).0;
      at = sym (steps_due ready.number first.due).1 ∙ first.at;
      first = λ other due. (
          let back = names_due other due in
          let same = (steps_due other back).1 in
          let order = first.first other back in
          (subst (IsNoLater ready.at) same order.0, λ is. order.1 (is ∙ sym same)));
    }

    abbrev pub one : StartedTurn
    one = started_in (free_after (planning_work told) n (reverse all)) (ready_turn (single ready.number 0) ready.at)

    answer : first_ready w (reverse all) (turns w) ≡ Some (ready_turn (single ready.number 0) ready.at)
    answer = first_due w (reverse all) h.numbers h.have ready steps_first
        ∙ ap (λ t. let r : Option Ready = Some (ready_turn t ready.at) in r) (turn_is_single told ready.number number_fits)

    next_all : one ∷ reverse all ≡ scheduled w n (suc (length all))
    next_all = sym (ap (λ l. with_next w n l (first_ready w l (turns w))) (sym h.are) ∙ ap (with_next w n (reverse all)) answer)

    pub lane_fits : (first_earliest free < length free) × (length free ≡ n)
    lane_fits =
        let size : length free ≡ n = ap length h.lanes ∙ length-free w n (reverse all) in
        (first_earliest_lt free (omega arith), size)

    pub is_one : (lane : ℕ) (m begin : LaneTime) → lane ≡ first_earliest free → m ≡ get_or free lane m → begin ≡ later_of ready.at m
        → (let t : StartedTurn = record { turn = single ready.number 0; lane = lane; begin = begin } in t) ≡ one
    is_one lane m begin at read is =
        let fits = lane_fits.0 in
        let there : get_or free lane m ≡ get_or (free_after w n (reverse all)) (first_earliest (free_after w n (reverse all))) first_lane_time =
        any_default free lane m first_lane_time (omega arith) ∙ ap (λ k. get_or free k first_lane_time) at ∙ ap (λ l. get_or l (first_earliest l) first_lane_time) h.lanes in
        ap (λ k. let t : StartedTurn = record { turn = single ready.number 0; lane = k; begin = begin } in t) (at ∙ ap first_earliest h.lanes)
        ∙ ap (λ b. let t : StartedTurn = record { turn = single ready.number 0; lane = first_earliest (free_after w n (reverse all)); begin = b } in t) (is ∙ ap (later_of ready.at) (read ∙ there))

    begins : one.begin.second ≤ total w (reverse all)
    begins = (subst (EachAfter (λ before x. x.begin.second ≤ total w before)) (sym next_all) (each_begins w n some (suc (length all)))).0

    pub second_fits : one.begin.second ≤ 864000000 * length told
    second_fits = let low = begins in let short = h.short in let few = h.few in omega arith

    pub round_fits : one.begin.round ≤ max_told
    round_fits =
        let low = subst (λ l. (started_in (free_after w n l) (ready_turn (single ready.number 0) ready.at)).begin.round ≤ length l) (sym h.are)
        (rounds w n some (length all) (ready_turn (single ready.number 0) ready.at) (subst (λ l. first_ready w l (turns w) ≡ Some (ready_turn (single ready.number 0) ready.at)) h.are answer)) in
        let size = length-reverse all in let few = h.few in omega arith

    step_is_new : done_at (planning_work told) (reverse all) (name_wait ready.number) ≡ None
    step_is_new =
        let size = count_turns told in
        let lt : ready.number < length (turns w) = let fits = number_fits in omega arith in
        let is = turn_is_single told ready.number number_fits in
        let count = ap (λ t. t.count) is in
        let low = ap (λ t. t.first) is in
        ap (λ t. done (let x : Wait = record { change = t.change; step = 0 } in x)) (sym is)
        ∙ not_done w h.numbers (reverse all) ready.number 0 h.have lt (not_started w h.numbers (reverse all) ready.number h.have lt first.due.2) (omega arith) (omega arith)

    pub is_planned : (next : Queue) → IsQueue (2 * length told) (map (name_waits number) told) (named_done pending) (ready.number ∷ h.numbers) next
        → IsPlanned told (done_at (planning_work told) (reverse all)) (map (name_waits number) told) (ready.number ∷ h.numbers) ready.number pending next
    is_planned next q = record { counted = h.counted; queued = q; known = number_fits; new = step_is_new }

    module _ (next : Queue) (left : PendingNames) (object : Told) (is : slice_get told ready.number ≡ Some object) (small : object.seconds ≤ max_seconds_in_all) (end : LaneTime)
        (longer : List StartedTurn) (lanes : List LaneTime) (ends : end ≡ later_by object.seconds one.begin)
        (more : longer ≡ all ++ one ∷ []) (set_free : lanes ≡ set free (first_earliest free) end)
        (fresh : ArePending told (done_with object.failure ready.number end (done_at (planning_work told) (reverse all))) left)
        (q : IsQueue (2 * length told) (map (name_waits number) told) (named_done left) (ready.number ∷ h.numbers) next)
        (room : length all < length told) where
      turned : reverse longer ≡ one ∷ reverse all
      turned = ap reverse more ∙ reverse-append all (one ∷ [])

      size : length longer ≡ suc (length all)
      size = let joined = length-append all (one ∷ []) in ap length more ∙ omega arith

      now_done : (name : Wait) → done_with object.failure ready.number end done name ≡ done_at w (reverse longer) name
      now_done name =
          ap (λ m. done_with object.failure ready.number m done name) ends
          ∙ done_more told ready.number object is one.lane one.begin (reverse all) name
          ∙ ap (λ l. done_at w l name) (sym turned)

      pub goes_on_with : IsUnderWay told number n next left lanes longer
      goes_on_with = record {
        few = let is = size in omega arith;
        lanes = set_free ∙ ap (λ l. set l (first_earliest l) end) h.lanes
            ∙ ap (set (free_after w n (reverse all)) one.lane) (ends ∙ sym (its_end told ready.number object is one.lane one.begin)) ∙ sym (ap (free_after w n) turned);
        are = turned ∙ next_all ∙ sym (ap (scheduled w n) size);
        short =
            let long = size in
            let sum = sum_by-cons (time_of w) one (reverse all) in
            let span = its_span told ready.number object is one.lane one.begin in
            let before = h.short in
            let all_is = ap (total w) turned in omega arith;
        numbers = ready.number ∷ h.numbers;
        counted = subst (λ d. ArePending told d left) (λ i name. now_done name i) fresh;
        queued = q;
        have = subst (HaveNumbers (turns w) (ready.number ∷ h.numbers)) (sym turned)
            (let known = number_fits in let all_are = count_turns told in (omega arith, sym (turn_is_single told ready.number number_fits), h.have));
      }
