-- Turns of two works whose steps go alike start in the same lanes at the same times.
use Rattle.std.proofs.Common.{◌≡◌, ℕ, zero, suc, Bool, true, false, ◌||◌, not, List, [], ◌∷◌, ◌++◌, Option, Some, None, cond, length, map, set, refl, sym, ap, ◌∙◌, subst, ⊎_elim, arith, eqb}
use Rattle.std.specs.Prelude.{option_map}
use Rattle.std.specs.List.{Contains}
use Rattle.std.proofs.lemmas.List.Elements.{filter-append}
use Rattle.apply_model.specs.declared.script.wait.Wait.{Wait}
use Rattle.apply_events.specs.Diagnostics.{is_note}
use Rattle.apply_events.specs.Step.{Work, kinds_applied}
use Rattle.apply_events.specs.declared.event.Event.{Event}
use Rattle.apply_events.specs.declared.lanes.lane_time.LaneTime.{LaneTime}
use Rattle.apply_events.specs.declared.lanes.turn.StartedTurn.{StartedTurn}
use Rattle.apply_events.specs.declared.lanes.turn.Turn.{Turn}
use Rattle.apply_events.specs.Waits.Done.{done_at, done_by, done_in, end_of_turn, first_some, later_if_both, ready_at}
use Rattle.apply_events.specs.Waits.LaneTime.{IsNoLater, first_lane_time, later_of, next_round}
use Rattle.apply_events.specs.Waits.Schedule.{Ready, first_ready, free_after, is_same_turn, is_started, next_of, ready_turn, started_in, with_next}
use Rattle.apply_events.specs.Waits.TimeLine.{lane_turns, turn_events}
use Rattle.apply_events.specs.Waits.Turn.{begun_steps, waits_of_turn}
use Rattle.apply_events.proofs.Waits.Members.{in_cases, in_head, in_tail, not_in_none}
use Rattle.apply_events.proofs.Waits.Moments.{first_no_later, later_no_later, no_later_both, no_later_on, second_no_later}
use Rattle.apply_events.proofs.Waits.Once.{is_split}
use Rattle.apply_events.proofs.Waits.TurnSteps.{all_at}
use Rattle.laws_lanes.specs.Alike.{hooks_of}
use Rattle.laws_lanes.proofs.Chosen.{all_known, chosen}
use Rattle.laws_lanes.proofs.FirstReady.{first_mirrored, with_turn}
use Rattle.laws_lanes.proofs.StepsAlike.{AllGoLike, same_all_shown, same_done, same_end}

-- ---- when several steps are done

-- it is done in a round before the time
abbrev pub IsDoneBefore : Work → List StartedTurn → LaneTime → Wait → Type 0
IsDoneBefore w started at name = (m : LaneTime) × (done_at w started name ≡ Some m) × IsNoLater (next_round m) at

both_some : (a b : Option LaneTime) (at : LaneTime) → later_if_both (option_map next_round a) b ≡ Some at
    → (m : LaneTime) × (late : LaneTime) × (a ≡ Some m) × (b ≡ Some late) × IsNoLater (next_round m) at × IsNoLater late at
both_some None b at is = absurd cc
both_some (Some m) None at is = absurd cc
both_some (Some m) (Some late) at is =
    let same : later_of (next_round m) late ≡ at = cc in
    (m, late, refl, refl, subst (IsNoLater (next_round m)) same (first_no_later (next_round m) late), subst (IsNoLater late) same (second_no_later (next_round m) late))

pub each_before : (w : Work) (started : List StartedTurn) (names : List Wait) (at : LaneTime) → done_by w started names ≡ Some at → (name : Wait) → Contains names name → IsDoneBefore w started at name
each_before w started [] at is name there = absurd (not_in_none name there)
each_before w started (x ∷ names) at is name there =
    let both = both_some (done_at w started x) (done_by w started names) at is in ⊎_elim
    (λ (same : x ≡ name). subst (IsDoneBefore w started at) same (both.0, both.2, both.4))
    (λ (later : Contains names name).
    let rest = each_before w started names both.1 both.3 name later in (rest.0, rest.1, no_later_on (next_round rest.0) both.1 at rest.2 both.5))
    (in_cases x names name there)

both_by : (a b : Option LaneTime) (m late at : LaneTime) → a ≡ Some m → b ≡ Some late → IsNoLater (next_round m) at → IsNoLater late at
    → (by : LaneTime) × (later_if_both (option_map next_round a) b ≡ Some by) × IsNoLater by at
both_by a b m late at p q before rest = (
  later_of (next_round m) late,
  ap (λ x. later_if_both (option_map next_round x) b) p ∙ ap (later_if_both (Some (next_round m))) q,
  later_no_later (next_round m) late at before rest,
)

all_before : (w : Work) (started : List StartedTurn) (names : List Wait) (at : LaneTime) → ((name : Wait) → Contains names name → IsDoneBefore w started at name)
    → (by : LaneTime) × (done_by w started names ≡ Some by) × IsNoLater by at
all_before w started [] at each = (first_lane_time, refl, (omega arith, λ _. omega arith))
all_before w started (name ∷ names) at each =
    let here = each name (in_head name names) in
    let rest = all_before w started names at (λ other there. each other (in_tail name names other there)) in
    both_by (done_at w started name) (done_by w started names) here.0 rest.0 at here.1 rest.1 here.2 rest.2

-- the order of the names does not matter, nor how often each stands there
module _ (w v : Work) (before after : List StartedTurn) (same : (name : Wait) → done_at v after name ≡ done_at w before name) (names others : List Wait)
    (forth : (name : Wait) → Contains names name → Contains others name) (back : (name : Wait) → Contains others name → Contains names name) where
  no_later : (at : LaneTime) → done_by w before names ≡ Some at → (by : LaneTime) × (done_by v after others ≡ Some by) × IsNoLater by at
  no_later at is = all_before v after others at (λ name there. let its = each_before w before names at is name (back name there) in (its.0, same name ∙ its.1, its.2))

  no_earlier : (at : LaneTime) → done_by v after others ≡ Some at → (by : LaneTime) × (done_by w before names ≡ Some by) × IsNoLater by at
  no_earlier at is = all_before w before names at (λ name there. let its = each_before v after others at is name (forth name there) in (its.0, sym (same name) ∙ its.1, its.2))

  pub same_names : done_by v after others ≡ done_by w before names
  same_names = by_answers (done_by w before names) (done_by v after others) refl refl
    where
      by_answers : (a b : Option LaneTime) → done_by w before names ≡ a → done_by v after others ≡ b → b ≡ a
      by_answers None None p q = refl
      by_answers None (Some at) p q = let its = no_earlier at q in let never = sym p ∙ its.1 in absurd cc
      by_answers (Some at) None p q = let its = no_later at p in let never = sym q ∙ its.1 in absurd cc
      by_answers (Some at) (Some at') p q =
          let low = no_later at p in let high = no_earlier at' q in
          let here : low.0 ≡ at' = some_same low.0 at' (sym low.1 ∙ q) in
          let there : high.0 ≡ at = some_same high.0 at (sym high.1 ∙ p) in
          ap (λ m. let answer : Option LaneTime = Some m in answer) (no_later_both at' at (subst (λ m. IsNoLater m at) here low.2) (subst (λ m. IsNoLater m at') there high.2))
        where
          some_same : (a b : LaneTime) → Some a ≡ Some b → a ≡ b
          some_same a b is = cc

-- ---- the turn of the other work

-- the turn of the other work that begins with the same step
abbrev pub mirror : Work → Turn → Turn
mirror v turn = record {
  change = turn.change;
  first = turn.first;
  count = cond (is_split v turn.change) 1 (length (kinds_applied v.plan v.script turn.change));
}

abbrev pub mirror_started : Work → StartedTurn → StartedTurn
mirror_started v one = record { turn = mirror v one.turn; lane = one.lane; begin = one.begin }

abbrev pub mirrored : Work → List StartedTurn → List StartedTurn
mirrored v started = map (mirror_started v) started

-- The steps that begin in both turns go alike, and both turns wait for the same steps.
pub record IsMirrored (w v : Work) (turn : Turn) : Type 0 where
  pub alike : AllGoLike (begun_steps w turn) (begun_steps v (mirror v turn))
  pub waits : (name : Wait) → Contains (waits_of_turn w turn) name → Contains (waits_of_turn v (mirror v turn)) name
  pub no_more : (name : Wait) → Contains (waits_of_turn v (mirror v turn)) name → Contains (waits_of_turn w turn) name

abbrev pub AreMirrored : (w v : Work) → List StartedTurn → Type 0
AreMirrored w v started = (one : StartedTurn) → Contains started one → IsMirrored w v one.turn

module _ (w v : Work) where
  rest_of : (one : StartedTurn) (started : List StartedTurn) → AreMirrored w v (one ∷ started) → AreMirrored w v started
  rest_of one started all other there = all other (in_tail one started other there)

  pub mirrored_done : (started : List StartedTurn) (name : Wait) → AreMirrored w v started → done_at v (mirrored v started) name ≡ done_at w started name
  mirrored_done [] name all = refl
  mirrored_done (one ∷ started) name all =
      ap (λ a. first_some (cond (eqb one.turn.change name.change) a None) (done_at v (mirrored v started) name))
      (same_done name.step one.begin (begun_steps w one.turn) (begun_steps v (mirror v one.turn)) (all one (in_head one started)).alike)
      ∙ ap (first_some (done_in w one name)) (mirrored_done started name (rest_of one started all))

  pub mirrored_free : (n : ℕ) (started : List StartedTurn) → AreMirrored w v started → free_after v n (mirrored v started) ≡ free_after w n started
  mirrored_free n [] all = refl
  mirrored_free n (one ∷ started) all =
      ap (λ m. set (free_after v n (mirrored v started)) one.lane m)
      (same_end one.begin (begun_steps w one.turn) (begun_steps v (mirror v one.turn)) (all one (in_head one started)).alike)
      ∙ ap (λ f. set f one.lane (end_of_turn w one)) (mirrored_free n started (rest_of one started all))

  pub mirrored_shown : (started : List StartedTurn) (lane : ℕ) → AreMirrored w v started → hooks_of (lane_turns v (mirrored v started) lane) ≡ hooks_of (lane_turns w started lane)
  mirrored_shown [] lane all = refl
  mirrored_shown (one ∷ started) lane all =
      let p : Event → Bool = λ event. not (is_note event.what) in
      filter-append p (lane_turns v (mirrored v started) lane) (cond (eqb one.lane lane) (turn_events v (mirror_started v one)) [])
      ∙ ap (λ l. l ++ hooks_of (cond (eqb one.lane lane) (turn_events v (mirror_started v one)) [])) (mirrored_shown started lane (rest_of one started all))
      ∙ ap (λ l. hooks_of (lane_turns w started lane) ++ l) (by_test (eqb one.lane lane))
      ∙ sym (filter-append p (lane_turns w started lane) (cond (eqb one.lane lane) (turn_events w one) []))
    where
      by_test : (t : Bool) → hooks_of (cond t (turn_events v (mirror_started v one)) []) ≡ hooks_of (cond t (turn_events w one) [])
      by_test true = same_all_shown one.lane one.begin.second (begun_steps w one.turn) (begun_steps v (mirror v one.turn)) (all one (in_head one started)).alike
      by_test false = refl

  mirrored_started : (started : List StartedTurn) (turn : Turn) → is_started (mirrored v started) (mirror v turn) ≡ is_started started turn
  mirrored_started [] turn = refl
  mirrored_started (one ∷ started) turn = ap (λ t. is_same_turn one.turn turn || t) (mirrored_started started turn)

  mirrored_next : (started : List StartedTurn) (turn : Turn) → AreMirrored w v started → IsMirrored w v turn
      → next_of v (mirrored v started) (mirror v turn) ≡ option_map (with_turn (mirror v)) (next_of w started turn)
  mirrored_next started turn all h =
      ap (λ t. cond t None (option_map (ready_turn (mirror v turn)) (ready_at v (mirrored v started) (mirror v turn)))) (mirrored_started started turn)
      ∙ ap (λ a. cond (is_started started turn) None (option_map (ready_turn (mirror v turn)) a))
      (same_names w v started (mirrored v started) (λ name. mirrored_done started name all) (waits_of_turn w turn) (waits_of_turn v (mirror v turn)) h.waits h.no_more)
      ∙ by_answers (is_started started turn) (ready_at w started turn)
    where
      by_answers : (t : Bool) (answer : Option LaneTime) → cond t None (option_map (ready_turn (mirror v turn)) answer) ≡ option_map (with_turn (mirror v)) (cond t None (option_map (ready_turn turn) answer))
      by_answers true answer = refl
      by_answers false None = refl
      by_answers false (Some at) = refl

  -- ---- all rounds

  module _ (n : ℕ) (ts : List Turn) (each : (turn : Turn) → Contains ts turn → IsMirrored w v turn) where
    pub are_mirrored : (count : ℕ) → AreMirrored w v (chosen w n ts count)
    are_mirrored count one there = each one.turn (all_at (λ (x : StartedTurn). Contains ts x.turn) (chosen w n ts count) one (all_known w n ts count) there)

    pub mirrored_first : (started : List StartedTurn) → AreMirrored w v started → first_ready v (mirrored v started) (map (mirror v) ts) ≡ option_map (with_turn (mirror v)) (first_ready w started ts)
    mirrored_first started all = first_mirrored w v started (mirrored v started) (mirror v) ts (λ turn there. mirrored_next started turn all (each turn there))

    next_mirrored : (started : List StartedTurn) (answer : Option Ready) → AreMirrored w v started
        → with_next v n (mirrored v started) (option_map (with_turn (mirror v)) answer) ≡ mirrored v (with_next w n started answer)
    next_mirrored started None all = refl
    next_mirrored started (Some ready) all = ap (λ f. started_in f (with_turn (mirror v) ready) ∷ mirrored v started) (mirrored_free n started all)

    pub chosen_mirrored : (count : ℕ) → chosen v n (map (mirror v) ts) count ≡ mirrored v (chosen w n ts count)
    chosen_mirrored zero = refl
    chosen_mirrored (suc count) =
        let started = chosen w n ts count in
        let all = are_mirrored count in
        ap (λ l. with_next v n l (first_ready v l (map (mirror v) ts))) (chosen_mirrored count)
        ∙ ap (with_next v n (mirrored v started)) (mirrored_first started all)
        ∙ next_mirrored started (first_ready w started ts) all

    pub mirrored_end : (count : ℕ) → first_ready w (chosen w n ts count) ts ≡ None → first_ready v (chosen v n (map (mirror v) ts) count) (map (mirror v) ts) ≡ None
    mirrored_end count none =
        ap (λ l. first_ready v l (map (mirror v) ts)) (chosen_mirrored count) ∙ mirrored_first (chosen w n ts count) (are_mirrored count) ∙ ap (option_map (with_turn (mirror v))) none
