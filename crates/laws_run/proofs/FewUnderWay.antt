-- No more steps are under way than there are lanes, at each place of a time line and at each time.
use Rattle.std.proofs.Common.{ℕ, ◌<◌, ◌≤◌, List, [], ◌∷◌, ◌++◌, All, refl, subst, ⊎_elim, arith}
use Rattle.std.proofs.lemmas.Bool.{cases_lt}
use Rattle.std.proofs.lemmas.List.Elements.{All-head}
use Rattle.std.proofs.lemmas.List.Sums.{sum_by-le-sum_by}
use Rattle.apply_events.specs.declared.event.Event.{Event}
use Rattle.apply_events.specs.Interleaving.{IsInterleaving}
use Rattle.apply_events.specs.Step.{Work}
use Rattle.apply_events.specs.Waits.Schedule.{schedule}
use Rattle.apply_events.specs.Waits.TimeLine.{IsTimeLine, lane_turns}
use Rattle.apply_events.proofs.Waits.Once.{AreTurns}
use Rattle.apply_events.proofs.Waits.StartedTurns.{were_started}
use Rattle.laws_run.specs.StepsUnderWay.{is_on_both_sides, is_step_under_way_at, steps_on_both_sides, steps_of_plan, steps_under_way_at}
use Rattle.laws_run.proofs.OpenInLanes.{bit, sum_none}
use Rattle.laws_run.proofs.BothSides.{both_sides_at, cut_at, few_on_both_sides}
use Rattle.laws_run.proofs.StepsOnce.{each_step_once}

turns_of_schedule : (work : Work) (n : ℕ) → 0 < n → AreTurns work (schedule work n)
turns_of_schedule work n some = let up = were_started work n some in record { known = up.known; once = up.once }

-- no lane has no event
none_without_lanes : (work : Work) (n : ℕ) (front rest : List Event) → n ≤ 0 → All (λ e. e.worker < n) (front ++ rest) → steps_on_both_sides work front rest ≤ n
none_without_lanes work n [] rest none named = let nothing = sum_none (λ x. bit (is_on_both_sides [] rest x)) (steps_of_plan work.plan) (λ x. refl) in omega arith
none_without_lanes work n (e ∷ front) rest none named = let lt = All-head (λ (x : Event). x.worker < n) e (front ++ rest) named in absurd (omega arith)

pub few_between : (work : Work) (n : ℕ) (front rest : List Event) → IsInterleaving n (lane_turns work (schedule work n)) (front ++ rest) → steps_on_both_sides work front rest ≤ n
few_between work n front rest line = ⊎_elim
    (λ (some : 0 < n). few_on_both_sides (steps_of_plan work.plan) (λ c k. each_step_once work.plan c k) work n (schedule work n) front rest line (turns_of_schedule work n some))
    (λ (none : n ≤ 0). none_without_lanes work n front rest none line.named)
    (cases_lt 0 n)

pub few_at_a_moment : (work : Work) (n moment : ℕ) (events : List Event) → IsTimeLine work n events → steps_under_way_at work moment events ≤ n
few_at_a_moment work n moment events line =
    let its = cut_at (schedule work n) moment events line.in_order in
    let few = few_between work n its.front its.rest (subst (IsInterleaving n (lane_turns work (schedule work n))) its.are line.interleaved) in
    let less = sum_by-le-sum_by (λ x. bit (is_step_under_way_at moment events x)) (λ x. bit (is_on_both_sides its.front its.rest x)) (steps_of_plan work.plan) (both_sides_at moment events its) in
    omega arith
