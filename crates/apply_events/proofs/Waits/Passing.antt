-- The steps of a turn are done one after another, up to the first that does not go on.
use Rattle.std.proofs.Common.{◌≡◌, ◌≢◌, ℕ, zero, suc, ◌+◌, ◌-◌, ◌<◌, ◌≤◌, Bool, true, false, List, [], ◌∷◌, Option, Some, None, cond, drop, get_or, length, not, take, refl, sym, ap, ◌∙◌, subst, ⊎_elim, arith, eqb, eq-eqb, ne_eqb}
use Rattle.std.specs.Prelude.{slice_get}
use Rattle.std.proofs.lemmas.Bool.{cases_Bool, cases_eq, true≢false}
use Rattle.apply_model.specs.declared.plan.step_kind.StepKind.{StepKind}
use Rattle.apply_model.specs.declared.plan.step_kind.StepKind.TheVariants.{Create}
use Rattle.apply_model.specs.declared.script.wait.Wait.{Wait}
use Rattle.apply_events.specs.ChangeEvents.{begun}
use Rattle.apply_events.specs.Step.{Step, Work, kinds_applied, step_of, steps_of}
use Rattle.apply_events.specs.StepEvents.{goes_on, step_time}
use Rattle.apply_events.specs.declared.lanes.lane_time.LaneTime.{LaneTime}
use Rattle.apply_events.specs.declared.lanes.queue.Queue.{Queue}
use Rattle.apply_events.specs.declared.lanes.turn.StartedTurn.{StartedTurn}
use Rattle.apply_events.specs.Waits.Done.{done_among, done_in, end_after, end_of_turn, first_some}
use Rattle.apply_events.specs.Waits.LaneTime.{later_by}
use Rattle.apply_events.specs.Waits.Queue.{IsQueue, is_same_wait, later_round_if, ready_round_of, names_at, missing_if, missing_count, with_step_done}
use Rattle.apply_events.specs.Waits.Turn.{begun_steps}
use Rattle.apply_events.proofs.PlannedSteps.{at_hand}
use Rattle.apply_events.proofs.StepNumbers.{AreNumbered, AreNumbered-begun, AreNumbered-drop, steps_of-numbered}
use Rattle.apply_events.proofs.Waits.Followers.{is_same, same_wait}
use Rattle.apply_events.proofs.Waits.Moments.{later_by_none, later_by_some}
use Rattle.apply_events.proofs.Waits.TurnEvents.{done_first, done_later}
use Rattle.apply_events.proofs.Waits.TurnSteps.{AreNumbered-take}

-- ---- the state of a queue depends only on when steps are done

open_same : (done other : Wait → Option LaneTime) → ((name : Wait) → done name ≡ other name) → (names : List Wait) → missing_count done names ≡ missing_count other names
open_same done other same [] = refl
open_same done other same (name ∷ names) = ap (λ o. missing_if o + missing_count done names) (same name) ∙ ap (λ n. missing_if (other name) + n) (open_same done other same names)

late_same : (done other : Wait → Option LaneTime) → ((name : Wait) → done name ≡ other name) → (names : List Wait) → ready_round_of done names ≡ ready_round_of other names
late_same done other same [] = refl
late_same done other same (name ∷ names) = ap (λ o. later_round_if o (ready_round_of done names)) (same name) ∙ ap (later_round_if (other name)) (late_same done other same names)

pub queue_same : (limit : ℕ) (names : List (List Wait)) (done other : Wait → Option LaneTime) (started : List ℕ) (queue : Queue) → ((name : Wait) → done name ≡ other name)
    → IsQueue limit names done started queue → IsQueue limit names other started queue
queue_same limit names done other started queue same q =
    let h = q.stands in record {
      follow = q.follow;
      stands = record {
        size = h.size;
        known = tt;
        missing = λ number lt. h.missing number lt ∙ ap (λ n. n + 0) (open_same done other same (names_at names number));
        late = λ number lt. h.late number lt ∙ late_same done other same (names_at names number);
        ripe = h.ripe;
        each = h.each;
        heap = h.heap;
      };
    }

-- ---- rounds

pub later_by_round : (m : LaneTime) (seconds : ℕ) → (later_by seconds m).round ≤ m.round
later_by_round m seconds = ⊎_elim
    (λ (is : seconds ≡ 0). let same = ap (λ (l : LaneTime). l.round) (later_by_none m seconds is) in omega arith)
    (λ (ne : seconds ≢ 0). let none = ap (λ (l : LaneTime). l.round) (later_by_some m seconds ne) in omega arith)
    (cases_eq seconds 0)

-- ---- the step at hand

pub not_off : (t : Bool) → not t ≡ false → t ≡ true
not_off true is = refl
not_off false is = absurd cc

pub not_on : (t : Bool) → not t ≡ true → t ≡ false
not_on true is = absurd cc
not_on false is = refl

read_at : {X : Type 0} (xs : List X) (k : ℕ) (d : X) → k < length xs → Some (get_or xs k d) ≡ slice_get xs k
read_at [] k d lt = absurd (omega arith)
read_at (x ∷ xs) zero d lt = refl
read_at (x ∷ xs) (suc k) d lt = read_at xs k d (omega arith)

pub step_here : (w : Work) (c k : ℕ) (kinds : List StepKind) → kinds ≡ kinds_applied w.plan w.script c → k < length kinds
    → drop k (steps_of w c) ≡ step_of w c k (get_or kinds k Create) ∷ drop (k + 1) (steps_of w c)
step_here w c k kinds is lt = at_hand w c k kinds (Some (get_or kinds k Create)) is (read_at kinds k Create lt)

-- ---- the steps that are left

none_after : (n k : ℕ) (at : LaneTime) (steps : List Step) → AreNumbered n steps → k < n → done_among k at steps ≡ None
none_after n k at [] h less = refl
none_after n k at (s ∷ steps) h less =
    let first = h.0 in
    done_later k at s steps (λ is. absurd (omega arith)) ∙ none_after (n + 1) k (later_by (step_time s) at) steps h.1 (omega arith)

module _ (w : Work) (started : StartedTurn) where
  abbrev pub left_at : ℕ → List Step
  left_at k = begun (take (started.turn.first + started.turn.count - k) (drop k (steps_of w started.turn.change)))

  -- the steps that are done already and the steps that are left together give the result of the turn
  pub record IsPassing (k : ℕ) (at : LaneTime) (now done : Wait → Option LaneTime) : Type 0 where
    pub shows : (name : Wait) → first_some (cond (eqb started.turn.change name.change) (done_among name.step at (left_at k)) None) (now name)
        ≡ first_some (done_in w started name) (done name)
    pub fresh : (step : ℕ) → k ≤ step → step < started.turn.first + started.turn.count → now (record { change = started.turn.change; step = step }) ≡ None

  left_first : left_at started.turn.first ≡ begun_steps w started.turn
  left_first =
      let all : started.turn.first + started.turn.count - started.turn.first ≡ started.turn.count = omega arith in
      ap (λ n. begun (take n (drop started.turn.first (steps_of w started.turn.change)))) all

  pub ends_first : end_after started.begin (left_at started.turn.first) ≡ end_of_turn w started
  ends_first = ap (end_after started.begin) left_first

  pub passing_first : (done : Wait → Option LaneTime) → ((step : ℕ) → started.turn.first ≤ step → step < started.turn.first + started.turn.count → done (record { change = started.turn.change; step = step }) ≡ None)
      → IsPassing started.turn.first started.begin done done
  passing_first done fresh = record {
    shows = λ name. ap (λ steps. first_some (cond (eqb started.turn.change name.change) (done_among name.step started.begin steps) None) (done name)) left_first;
    fresh = fresh;
  }

  none_left : (k : ℕ) → started.turn.first + started.turn.count ≤ k → left_at k ≡ []
  none_left k over =
      let none : started.turn.first + started.turn.count - k ≡ 0 = omega arith in
      ap (λ n. begun (take n (drop k (steps_of w started.turn.change)))) none

  pub ends_over : (k : ℕ) (at : LaneTime) → started.turn.first + started.turn.count ≤ k → end_after at (left_at k) ≡ at
  ends_over k at over = ap (end_after at) (none_left k over)

  none_more : (t : Bool) (answer : Option LaneTime) (now : Option LaneTime) → answer ≡ None → first_some (cond t answer None) now ≡ now
  none_more true answer now none = ap (λ f. first_some f now) none
  none_more false answer now none = refl

  pub passed_over : (k : ℕ) (at : LaneTime) (now done : Wait → Option LaneTime) → started.turn.first + started.turn.count ≤ k → IsPassing k at now done
      → (name : Wait) → now name ≡ first_some (done_in w started name) (done name)
  passed_over k at now done over h name =
      sym (none_more (eqb started.turn.change name.change) (done_among name.step at (left_at k)) (now name) (ap (done_among name.step at) (none_left k over))) ∙ h.shows name

  module _ (k : ℕ) (s : Step) (more : k < started.turn.first + started.turn.count) (number : s.number ≡ k)
      (here : drop k (steps_of w started.turn.change) ≡ s ∷ drop (k + 1) (steps_of w started.turn.change)) where
    left_here : left_at k ≡ s ∷ cond (goes_on s) (left_at (k + 1)) []
    left_here =
        let count : started.turn.first + started.turn.count - k ≡ suc (started.turn.first + started.turn.count - (k + 1)) = omega arith in
        ap (λ n. begun (take n (drop k (steps_of w started.turn.change)))) count
        ∙ ap (λ l. begun (take (suc (started.turn.first + started.turn.count - (k + 1))) l)) here

    on_left : goes_on s ≡ true → left_at k ≡ s ∷ left_at (k + 1)
    on_left on = left_here ∙ ap (λ t. s ∷ cond t (left_at (k + 1)) []) on

    last_left : goes_on s ≡ false → left_at k ≡ s ∷ []
    last_left off = left_here ∙ ap (λ t. s ∷ cond t (left_at (k + 1)) []) off

    pub ends_on : (at end : LaneTime) → goes_on s ≡ true → end_after at (left_at k) ≡ end → end_after (later_by (step_time s) at) (left_at (k + 1)) ≡ end
    ends_on at end on is = sym (ap (end_after at) (on_left on)) ∙ is

    pub ends_last : (at end : LaneTime) → goes_on s ≡ false → end_after at (left_at k) ≡ end → later_by (step_time s) at ≡ end
    ends_last at end off is = sym (ap (end_after at) (last_left off)) ∙ is

    pub passed_last : (at : LaneTime) (now done : Wait → Option LaneTime) → goes_on s ≡ false → IsPassing k at now done → (name : Wait) → now name ≡ first_some (done_in w started name) (done name)
    passed_last at now done off h name =
        let next = later_by (step_time s) at in
        let none : done_among name.step at (s ∷ []) ≡ None = ⊎_elim
        (λ (is : s.number ≡ name.step). done_first name.step at s [] is ∙ ap (λ t. cond t (Some next) None) off)
        (λ (ne : s.number ≢ name.step). done_later name.step at s [] ne)
        (cases_eq s.number name.step) in
        sym (none_more (eqb started.turn.change name.change) (done_among name.step at (left_at k)) (now name) (ap (done_among name.step at) (last_left off) ∙ none)) ∙ h.shows name

    numbered_on : AreNumbered (k + 1) (left_at (k + 1))
    numbered_on =
        let steps = steps_of w started.turn.change in
        let place : 0 + (k + 1) ≡ k + 1 = omega arith in
        let left = started.turn.first + started.turn.count - (k + 1) in
        AreNumbered-begun (k + 1) (take left (drop (k + 1) steps)) (AreNumbered-take (k + 1) left (drop (k + 1) steps)
        (subst (λ n. AreNumbered n (drop (k + 1) steps)) place (AreNumbered-drop 0 (k + 1) steps (steps_of-numbered w started.turn.change))))

    module _ (at : LaneTime) (now done : Wait → Option LaneTime) (on : goes_on s ≡ true) (h : IsPassing k at now done) where
      abbrev next : LaneTime
      next = later_by (step_time s) at

      abbrev it : Wait
      it = record { change = started.turn.change; step = k }

      -- of a step of another change or number nothing changes
      other : (name : Wait) → is_same_wait it name ≡ false
          → first_some (cond (eqb started.turn.change name.change) (done_among name.step next (left_at (k + 1))) None) (with_step_done now it next name)
          ≡ first_some (cond (eqb started.turn.change name.change) (done_among name.step at (left_at k)) None) (now name)
      other name differ =
          ap (λ t. first_some (cond (eqb started.turn.change name.change) (done_among name.step next (left_at (k + 1))) None) (cond t (Some next) (now name))) differ ∙ ⊎_elim
          (λ (same : started.turn.change ≡ name.change).
          let apart : s.number ≢ name.step = λ is. true≢false (sym (is_same it name same (sym number ∙ is)) ∙ differ) in
          ap (λ f. first_some (cond (eqb started.turn.change name.change) f None) (now name))
          (sym (done_later name.step at s (left_at (k + 1)) apart) ∙ sym (ap (done_among name.step at) (on_left on))))
          (λ (ne : started.turn.change ≢ name.change).
          ap (λ t. first_some (cond t (done_among name.step next (left_at (k + 1))) None) (now name)) (ne_eqb started.turn.change name.change ne)
          ∙ sym (ap (λ t. first_some (cond t (done_among name.step at (left_at k)) None) (now name)) (ne_eqb started.turn.change name.change ne)))
          (cases_eq started.turn.change name.change)

      itself : first_some (cond (eqb started.turn.change it.change) (done_among it.step next (left_at (k + 1))) None) (with_step_done now it next it)
          ≡ first_some (cond (eqb started.turn.change it.change) (done_among it.step at (left_at k)) None) (now it)
      itself =
          let mine = eq-eqb started.turn.change started.turn.change refl in
          ap (λ t. first_some (cond t (done_among k next (left_at (k + 1))) None) (with_step_done now it next it)) mine
          ∙ ap (λ f. first_some f (with_step_done now it next it)) (none_after (k + 1) k next (left_at (k + 1)) numbered_on (omega arith))
          ∙ ap (λ t. cond t (Some next) (now it)) (is_same it it refl refl)
          ∙ sym (ap (λ t. first_some (cond t (done_among k at (left_at k)) None) (now it)) mine
          ∙ ap (λ f. first_some f (now it)) (ap (done_among k at) (on_left on) ∙ done_first k at s (left_at (k + 1)) number ∙ ap (λ t. cond t (Some next) None) on))

      pub passed_on : IsPassing (k + 1) (later_by (step_time s) at) (with_step_done now (record { change = started.turn.change; step = k }) (later_by (step_time s) at)) done
      passed_on = record {
        shows = λ name. ⊎_elim
            (λ (same : is_same_wait it name ≡ true).
            subst (λ n. first_some (cond (eqb started.turn.change n.change) (done_among n.step next (left_at (k + 1))) None) (with_step_done now it next n)
            ≡ first_some (cond (eqb started.turn.change n.change) (done_among n.step at (left_at k)) None) (now n)) (same_wait it name same) itself)
            (λ (differ : is_same_wait it name ≡ false). other name differ)
            (cases_Bool (is_same_wait it name)) ∙ h.shows name;
        fresh = λ step high last.
            (let name : Wait = record { change = started.turn.change; step = step } in
            let differ : is_same_wait it name ≡ false = ⊎_elim
            (λ (same : is_same_wait it name ≡ true). let is = ap (λ (n : Wait). n.step) (same_wait it name same) in absurd (omega arith))
            (λ (off : is_same_wait it name ≡ false). off)
            (cases_Bool (is_same_wait it name)) in
            ap (λ t. cond t (Some next) (now name)) differ ∙ h.fresh step (omega arith) last);
      }
