-- The steps of the stream of a run are those of lanes that took the changes up.
use Rattle.std.proofs.Common.{◌≡◌, ◌∙◌, ◌⊎◌, ◌==◌, ◌+◌, ◌*◌, ◌<◌, ◌≤◌, ℕ, zero, suc, Bool, true, false, List, [], ◌∷◌, Option, Some, None, cond, eq-eqb, length, take, refl, sym, ap, arith, subst, inl, inr, ⊎_elim}
use Rattle.std.specs.Prelude.{not, slice_get}
use Rattle.std.proofs.lemmas.Bool.{and_parts, cases_lt, cases_order, eqb-true, false_from_ne_true}
use Rattle.std.proofs.lemmas.List.Elements.{All-contains}
use Rattle.std.proofs.lemmas.Option.{same_Some, slice_get_within, slice_get_past}
use Rattle.apply_model.specs.declared.plan.step_kind.StepKind.{StepKind}
use Rattle.apply_hooks.specs.declared.phase.Phase.{Phase}
use Rattle.apply_events.specs.declared.event.Event.{Event}
use Rattle.apply_events.specs.declared.what.What.{What}
use Rattle.apply_events.specs.declared.what.What.TheVariants.{Start, Progress, Complete, Errored, ErrorNote, WarnNote, Halted, ProvisionStart, ProvisionOutput, ProvisionComplete, ProvisionErrored}
use Rattle.apply_events.specs.Diagnostics.{is_note}
use Rattle.apply_events.specs.Step.{Step, Work, kinds_of, step_of}
use Rattle.apply_events.specs.StepEvents as run
use Rattle.apply_events.specs.StepEvents.{step_time}
use Rattle.apply_events.specs.Waits.TimeLine.{IsTimeLine}
use Rattle.apply_events.proofs.Waits.Members.{filter_in}
use Rattle.stream_record_waits.specs.declared.step_of_plan.StepOfPlan.{StepOfPlan}
use Rattle.stream_record_waits.specs.declared.step_of_plan.StepRun.{StepRun}
use Rattle.laws_queue.specs.Dealing.{NamesNone, change_begin, lane_of, step_begin, step_end, steps_begun}
use Rattle.laws_queue.specs.OfLanes.{EndsBefore, Follows, HasStep, IsOfLanes, RanAs, run_of}
use Rattle.apply_text.specs.Order.{hook_messages_of}
use Rattle.laws_queue.specs.OfRun.{HasLines, IsOfRun, RanAsAnswered, RanIf, StandsAt, has_events, is_about_step, is_end, is_start, latest_of}
use Rattle.laws_queue.proofs.ChangeOrder.{begun_step, begun_unhalted, goes, takes}
use Rattle.laws_queue.proofs.LaneEvents.{IsBy, IsTimely, all_timely, begins_if, has_begun, in_lanes, in_time, lane_known}
use Rattle.laws_queue.proofs.Ordered.{get_in, ordered_filter, ordered_get}
use Rattle.laws_queue.proofs.Ranks.{Ranked, phase, rank}

-- ---- phases

start_phase : (what : What) → is_start what ≡ true → phase what ≡ 0
start_phase Start is = refl
start_phase (Complete seconds) is = cc
start_phase (Errored seconds) is = cc
start_phase ErrorNote is = cc
start_phase WarnNote is = cc
start_phase (Halted when hook) is = cc
start_phase (Progress seconds) is = cc
start_phase (ProvisionStart i) is = cc
start_phase (ProvisionOutput i line) is = cc
start_phase (ProvisionComplete i) is = cc
start_phase (ProvisionErrored i) is = cc

-- what holds of both ends of a step, holds of each end
of_ends : (P : What → Type 0) → ((seconds : ℕ) → P (Complete seconds)) → ((seconds : ℕ) → P (Errored seconds))
    → (what : What) → is_end what ≡ true → P what
of_ends P complete errored Start is = absurd cc
of_ends P complete errored (Complete seconds) is = complete seconds
of_ends P complete errored (Errored seconds) is = errored seconds
of_ends P complete errored ErrorNote is = absurd cc
of_ends P complete errored WarnNote is = absurd cc
of_ends P complete errored (Halted when hook) is = absurd cc
of_ends P complete errored (Progress seconds) is = absurd cc
of_ends P complete errored (ProvisionStart i) is = absurd cc
of_ends P complete errored (ProvisionOutput i line) is = absurd cc
of_ends P complete errored (ProvisionComplete i) is = absurd cc
of_ends P complete errored (ProvisionErrored i) is = absurd cc

end_phase : (what : What) → is_end what ≡ true → phase what ≡ 2
end_phase = of_ends (λ what. phase what ≡ 2) (λ seconds. refl) (λ seconds. refl)

end_is_about : (what : What) → is_end what ≡ true → is_about_step what ≡ true
end_is_about = of_ends (λ what. is_about_step what ≡ true) (λ seconds. refl) (λ seconds. refl)

hook_phase : (what : What) → not (is_note what) ≡ true → phase what ≤ 2
hook_phase Start is = omega arith
hook_phase (Complete seconds) is = omega arith
hook_phase (Errored seconds) is = omega arith
hook_phase ErrorNote is = cc
hook_phase WarnNote is = cc
hook_phase (Halted when hook) is = cc
hook_phase (Progress seconds) is = omega arith
hook_phase (ProvisionStart i) is = omega arith
hook_phase (ProvisionOutput i line) is = omega arith
hook_phase (ProvisionComplete i) is = omega arith
hook_phase (ProvisionErrored i) is = omega arith

-- no start and no end comes twice
ranked_after : (a b : Event) → Ranked a b → (phase a.what ≡ 0) ⊎ (phase a.what ≡ 2) → rank a < rank b
ranked_after a b (inl less) once = less
ranked_after a b (inr (same, inl is)) (inl none) = absurd (omega arith)
ranked_after a b (inr (same, inl is)) (inr two) = absurd (omega arith)
ranked_after a b (inr (same, inr is)) (inl none) = absurd (omega arith)
ranked_after a b (inr (same, inr is)) (inr two) = absurd (omega arith)

get_at : {X : Type 0} (xs : List X) (k : ℕ) → k < length xs → (x : X) × (slice_get xs k ≡ Some x)
get_at [] k lt = absurd (omega arith)
get_at (x ∷ xs) zero lt = (x, refl)
get_at (x ∷ xs) (suc k) lt = get_at xs k (omega arith)

not_twice : (t : Bool) → not (not t) ≡ t
not_twice true = refl
not_twice false = refl

module _ (line : ℕ → ℕ) where
  -- the last of the first messages is about a step
  latest_is : (hooks : List Event) (place : ℕ) (latest : Option ℕ) (j : ℕ) (event : Event) → slice_get hooks j ≡ Some event → is_about_step event.what ≡ true
      → latest_of line place latest (take (suc j) hooks) ≡ Some (line (place + j))
  latest_is [] place latest j event is about = absurd cc
  latest_is (x ∷ hooks) place latest zero event is about =
      let same : is_about_step x.what ≡ true = ap (λ (e : Event). is_about_step e.what) (same_Some x event is) ∙ about in
      ap (λ t. latest_of line (place + 1) (cond t (Some (line place)) latest) (take 0 hooks)) same
      ∙ ap (λ p. Some (line p)) (let here : place ≡ place + zero = omega arith in here)
  latest_is (x ∷ hooks) place latest (suc j) event is about =
      latest_is hooks (place + 1) (cond (is_about_step x.what) (Some (line place)) latest) j event is about
      ∙ ap (λ p. Some (line p)) (let next : place + 1 + j ≡ place + suc j = omega arith in next)

module _ (work : Work) (n : ℕ) (some : 0 < n) (none : NamesNone work) (events : List Event) (time_line : IsTimeLine work n events) (line : ℕ → ℕ) (steps : List StepOfPlan) (of : IsOfRun work events line steps) where
  abbrev hooks : List Event
  hooks = hook_messages_of events

  -- ---- hook messages

  record IsHook (event : Event) : Type 0 where
    pub timely : IsTimely work of.hooks of.few n event
    pub known : event.change < length work.plan.changes
    pub phase_low : phase event.what ≤ 2

  hook_at : (place : ℕ) (event : Event) → slice_get hooks place ≡ Some event → IsHook event
  hook_at place event is =
      let among = filter_in (λ (e : Event). not (is_note e.what)) events event (get_in hooks place event is) in
      let h = All-contains (λ e. IsTimely work of.hooks of.few n e × (e.change < length work.plan.changes)) events event
      (all_timely work of.hooks of.few n some none events time_line) among.0 in
      record { timely = h.0; known = h.1; phase_low = hook_phase event.what among.1 }

  by : (i j : ℕ) (a b : Event) → slice_get hooks i ≡ Some a → slice_get hooks j ≡ Some b → i < j → IsBy work of.hooks of.few n a b
  by i j a b first second lt =
      ordered_get (IsBy work of.hooks of.few n) hooks i j a b
      (ordered_filter (IsBy work of.hooks of.few n) (λ (e : Event). not (is_note e.what)) events (in_time work of.hooks of.few n some none events time_line)) first second lt

  in_lane : (c i j : ℕ) (a b : Event) → slice_get hooks i ≡ Some a → slice_get hooks j ≡ Some b → i < j → a.worker ≡ lane_of work n c → b.worker ≡ lane_of work n c → Ranked a b
  in_lane c i j a b first second lt own own' =
      let lane = lane_of work n c in
      let Both : Event → Event → Type 0 = λ e f. (e.worker == lane) ≡ true → (f.worker == lane) ≡ true → Ranked e f in
      ordered_get Both hooks i j a b
      (ordered_filter Both (λ (e : Event). not (is_note e.what)) events
      (in_lanes work of.hooks of.few n some none events time_line lane (lane_known work of.hooks of.few n some none events time_line c)))
      first second lt (eq-eqb a.worker lane own) (eq-eqb b.worker lane own')

  -- a hook message of step k of change c
  record IsHookOf (place c k : ℕ) (event : Event) : Type 0 where
    pub there : slice_get hooks place ≡ Some event
    pub change : event.change ≡ c
    pub step : event.step ≡ k
    pub hook : IsHook event
    pub lane : event.worker ≡ lane_of work n c

  hook_of : (place c k : ℕ) (is_sort : What → Bool) (at : StandsAt hooks place c k is_sort) → IsHookOf place c k at.event
  hook_of place c k is_sort at =
      let both = and_parts (at.event.change == c) (at.event.step == k) at.of in
      let change : at.event.change ≡ c = eqb-true at.event.change c both.0 in
      let hook = hook_at place at.event at.is in record {
        there = at.is;
        change = change;
        step = eqb-true at.event.step k both.1;
        hook = hook;
        lane = hook.timely.lane_is ∙ ap (lane_of work n) change;
      }

  start_at : (place c k : ℕ) (at : StandsAt hooks place c k is_start) → at.event.at ≡ step_begin work n c k
  start_at place c k at =
      let its = hook_of place c k is_start at in
      its.hook.timely.start at.sort ∙ ap (λ x. step_begin work n x at.event.step) its.change ∙ ap (step_begin work n c) its.step

  end_at : (place c k : ℕ) (at : StandsAt hooks place c k is_end) → at.event.at ≡ step_end work n c k
  end_at place c k at =
      let its = hook_of place c k is_end at in
      its.hook.timely.end at.sort ∙ ap (λ x. step_end work n x at.event.step) its.change ∙ ap (step_end work n c) its.step

  -- ---- steps

  answered : (c k : ℕ) (kind : StepKind) (run : StepRun) (o : Option StepRun) (t : Bool) → RanIf t work events line c k kind o → o ≡ Some run → RanAsAnswered work events line c k kind run
  answered c k kind run o false ran is = absurd cc
  answered c k kind run o true (its, same, h) is = subst (RanAsAnswered work events line c k kind) (same_Some its run (sym same ∙ is)) h

  lines_of : (c k : ℕ) (run : StepRun) → HasStep work c k → run_of work.plan steps c k ≡ Some run → HasLines hooks line c k run
  lines_of c k run has is =
      let kind = get_at (kinds_of work.plan c) k has.1 in
      (answered c k kind.0 run (run_of work.plan steps c k) (has_events events c k) (of.are c k kind.0 kind.1).ran is).lines

  ran_as : (c k : ℕ) (kind : StepKind) (o : Option StepRun) → slice_get (kinds_of work.plan c) k ≡ Some kind → c < length work.plan.changes
      → RanIf (has_events events c k) work events line c k kind o → RanAs (slice_get (steps_begun work c) k) o
  ran_as c k kind o is known ran = ⊎_elim
      (λ (lt : k < length (steps_begun work c)).
      let step = get_at (steps_begun work c) k lt in
      let s = step.0 in
      let its = subst (λ t. RanIf t work events line c k kind o) (has_begun work of.hooks of.few n some none events time_line c k known lt) ran in
      let planned = begun_step work c k s step.1 in
      let same : s ≡ step_of work c k kind = planned.2 ∙ ap (step_of work c k) (same_Some planned.0 kind (sym planned.1 ∙ is)) in
      let unhalted = λ (when : Phase). begun_unhalted work of.hooks c k s step.1 when in
      subst (λ x. RanAs x o) (sym step.1) (
        its.0,
        its.1,
        record {
          fate = its.2.fate ∙ sym (ap not (goes work of.hooks s unhalted) ∙ not_twice s.fails ∙ ap (λ (x : Step). x.fails) same);
          seconds = its.2.seconds ∙ sym (takes work of.hooks s unhalted ∙ ap run.seconds_of same);
        },
      ))
      (λ (past : length (steps_begun work c) ≤ k).
      let never : has_events events c k ≡ false = false_from_ne_true (has_events events c k) (λ yes_. (let lt = begins_if work of.hooks of.few n some none events time_line c k yes_ in omega arith)) in
      subst (λ x. RanAs x o) (sym (slice_get_past (steps_begun work c) k past)) (subst (λ t. RanIf t work events line c k kind o) never ran))
      (cases_lt k (length (steps_begun work c)))

  -- ---- what ended before a change starts

  earlier_place : (i j : ℕ) → j < length hooks → line j < line i → j < i
  earlier_place i j within less = ⊎_elim
      (λ (same : i ≡ j). (let its : line i ≡ line j = ap line same in absurd (omega arith)))
      (λ (c : (i < j) ⊎ (j < i)). ⊎_elim (λ (lt : i < j). let more = of.rises i j lt within in absurd (omega arith)) (λ (gt : j < i). gt) c)
      (cases_order i j)

  ends_before : (c d k : ℕ) (run other : StepRun) (end : ℕ) → HasLines hooks line c 0 run → HasLines hooks line d k other → other.end ≡ Some end → end < run.line → EndsBefore work n d k c
  ends_before c d k run other end start its is less =
      let same : line its.end ≡ end = same_Some (line its.end) end (sym its.end_is ∙ is) in
      let begins = start.line_is in
      let a = its.ends.event in
      let b = start.starts.event in
      let lt = earlier_place start.start its.end (slice_get_within hooks its.end a its.ends.is) (omega arith) in
      let by_then = by its.end start.start a b its.ends.is start.starts.is lt in
      let a_is = hook_of its.end d k is_end its.ends in
      let b_is = hook_of start.start c 0 is_start start.starts in
      let a_at = end_at its.end d k its.ends in
      let b_at : b.at ≡ change_begin work n c = start_at start.start c 0 start.starts ∙ (let none_before : step_begin work n c 0 ≡ change_begin work n c = omega arith in none_before) in
      let le = by_then.0 in (
        omega arith,
        λ equal.
            let lanes = by_then.1 (a_at ∙ equal ∙ sym b_at) in
            let mine = a_is.lane in let other = b_is.lane in omega arith,
        λ equal.
            let first = ranked_after a b (in_lane c its.end start.start a b its.ends.is start.starts.is lt (a_is.lane ∙ equal) b_is.lane) (inr (end_phase a.what its.ends.sort)) in
            let change = a_is.change in let step = a_is.step in let p = end_phase a.what its.ends.sort in
            let change' = b_is.change in let step' = b_is.step in let q = start_phase b.what start.starts.sort in
            omega arith,
      )

  -- ---- a second step

  module _ (c : ℕ) (first second : StepRun) (one : HasLines hooks line c 0 first) (two : HasLines hooks line c 1 second) where
    abbrev ended : Event
    ended = one.ends.event

    abbrev began : Event
    began = two.starts.event

    end_hook : IsHookOf one.end c 0 one.ends.event
    end_hook = hook_of one.end c 0 is_end one.ends

    start_hook : IsHookOf two.start c 1 two.starts.event
    start_hook = hook_of two.start c 1 is_start two.starts

    end_rank : rank one.ends.event ≡ 8 * c + 2
    end_rank = let change = end_hook.change in let step = end_hook.step in let p = end_phase ended.what one.ends.sort in omega arith

    start_rank : rank two.starts.event ≡ 8 * c + 4
    start_rank = let change = start_hook.change in let step = start_hook.step in let p = start_phase began.what two.starts.sort in omega arith

    same_second : one.ends.event.at ≡ two.starts.event.at
    same_second = end_at one.end c 0 one.ends ∙ sym (start_at two.start c 1 two.starts)

    end_first : one.end < two.start
    end_first = ⊎_elim
        (λ (same : one.end ≡ two.start).
        let event : ended ≡ began = same_Some ended began (sym one.ends.is ∙ ap (slice_get hooks) same ∙ two.starts.is) in
        let ranks : rank ended ≡ rank began = ap rank event in
        let a = end_rank in let b = start_rank in absurd (omega arith))
        (λ (c : (one.end < two.start) ⊎ (two.start < one.end)). ⊎_elim (λ (lt : one.end < two.start). lt)
        (λ (gt : two.start < one.end). absurd (not_after gt)) c)
        (cases_order one.end two.start)
      where
        not_after : two.start < one.end → ⊥
        not_after gt =
            let less = ranked_after began ended (in_lane c two.start one.end began ended two.starts.is one.ends.is gt start_hook.lane end_hook.lane) (inl (start_phase began.what two.starts.sort)) in
            let a = end_rank in let b = start_rank in omega arith

    -- no hook message comes between
    none_between : (m : ℕ) (x : Event) → one.end < m → m < two.start → slice_get hooks m ≡ Some x → ⊥
    none_between m x low high is =
        let hook = hook_at m x is in
        let before = by one.end m ended x one.ends.is is low in
        let after = by m two.start x began is two.starts.is high in
        let le = before.0 in let ge = after.0 in
        let seconds = same_second in
        let lanes = before.1 (omega arith) in let lanes' = after.1 (omega arith) in
        let a_lane = end_hook.lane in let b_lane = start_hook.lane in
        let lane : x.worker ≡ lane_of work n c = omega arith in
        let less = ranked_after ended x (in_lane c one.end m ended x one.ends.is is low a_lane lane) (inr (end_phase ended.what one.ends.sort)) in
        between x less hook.timely.low hook.phase_low (in_lane c m two.start x began is two.starts.is high lane b_lane)
      where
        between : (x : Event) → rank one.ends.event < rank x → x.step ≤ 1 → phase x.what ≤ 2 → Ranked x two.starts.event → ⊥
        between x more few_steps few_phases (inl less) = let a = end_rank in let b = start_rank in omega arith
        between x more few_steps few_phases (inr (same, inl is)) = let a = end_rank in let b = start_rank in omega arith
        between x more few_steps few_phases (inr (same, inr is)) = let a = end_rank in let b = start_rank in omega arith

    next_to : two.start ≡ suc one.end
    next_to = let first = end_first in ⊎_elim
        (λ (more : suc one.end < two.start).
        let low = slice_get_within hooks two.start began two.starts.is in
        let x = get_at hooks (suc one.end) (omega arith) in
        absurd (none_between (suc one.end) x.0 (omega arith) more x.1))
        (λ (le : two.start ≤ suc one.end). omega arith)
        (cases_lt (suc one.end) two.start)

    follows : Follows first second
    follows = (
      line one.end,
      one.end_is,
      two.previous_is ∙ ap (λ m. latest_of line 0 None (take m hooks)) next_to
          ∙ latest_is line hooks 0 None one.end ended one.ends.is (end_is_about ended.what one.ends.sort)
          ∙ ap (λ p. Some (line p)) (let same : 0 + one.end ≡ one.end = omega arith in same),
    )

  pub of_lanes : IsOfLanes work n steps
  of_lanes = record {
    few = of.few;
    each = of.each;
    are = λ c k has.
        let kind = get_at (kinds_of work.plan c) k has.1 in
        let its = of.are c k kind.0 kind.1 in
        record { first = its.first; ran = ran_as c k kind.0 (run_of work.plan steps c k) kind.1 has.0 its.ran };
    follow = λ c first second has is is'.
        let has' : HasStep work c 0 = (has.0, let lt = has.1 in omega arith) in
        follows c first second (lines_of c 0 first has' is) (lines_of c 1 second has is');
    in_order = λ c d k run other end has has' is is' ends less.
        ends_before c d k run other end (lines_of c 0 run has is) (lines_of d k other has' is') ends less;
  }
