-- Each turn of the schedule can begin when it starts.
use Rattle.std.proofs.Common.{◌≡◌, ◌≢◌, ℕ, zero, suc, ◌+◌, ◌-◌, ◌*◌, ◌<◌, ◌≤◌, All, Bool, true, false, ◌&&◌, ◌||◌, List, [], ◌∷◌, ◌++◌, Option, Some, None, cond, drop, length, map, refl, sym, ap, ◌∙◌, subst, ⊎_elim, inl, inr, arith, eqb, eq-eqb, ne_eqb}
use Rattle.std.specs.List.{Contains, enumerate_from, range_with_len}
use Rattle.std.specs.Prelude.{is_some}
use Rattle.std.proofs.lemmas.Bool.{and_parts, cases_Bool, cases_eq, true≢false}
use Rattle.std.proofs.lemmas.Bool.Decides.{eqb_tells}
use Rattle.apply_hooks.specs.declared.phase.Phase.TheVariants.{Pre}
use Rattle.std.proofs.lemmas.List.{append_assoc, length-take}
use Rattle.std.proofs.lemmas.List.Elements.{All-contains_itself, All-weaker, Contains-append_right}
use Rattle.std.proofs.lemmas.List.Sums.{sum_by-cons, sum_by-le}
use Rattle.apply_model.specs.declared.plan.step_kind.StepKind.{StepKind}
use Rattle.apply_model.specs.Script.Limits.{max_seconds}
use Rattle.apply_model.specs.Script.Outcome.{IsBounded}
use Rattle.apply_model.specs.Script.OutcomeMap.{outcome_of}
use Rattle.apply_events.specs.declared.lanes.turn.StartedTurn.{StartedTurn}
use Rattle.apply_events.specs.declared.lanes.turn.Turn.{Turn}
use Rattle.apply_events.specs.Lanes.Startable.{AreWithinLimits, IsStartable, has_turn, is_that_turn}
use Rattle.apply_events.specs.Step.{Step, Work, kinds_applied, kinds_of, step_of, steps_of}
use Rattle.apply_events.specs.StepEvents.{seconds_of, step_time}
use Rattle.apply_events.specs.Waits.Done.{ready_at}
use Rattle.apply_events.specs.Waits.Schedule.{is_same_turn, is_started, schedule}
use Rattle.apply_events.specs.Waits.StartedTurns.{WereStarted}
use Rattle.apply_events.specs.Waits.Turn.{begun_steps, single, turns, turns_of, whole}
use Rattle.apply_events.proofs.AppliedSteps.{few_applied}
use Rattle.apply_events.proofs.TimeLines.Few.{IsSmall, small_step}
use Rattle.apply_events.proofs.Waits.DoneBefore.{IsAfterFirst, after_first}
use Rattle.apply_events.proofs.Waits.Ends.{each_begins, time_of, total}
use Rattle.apply_events.proofs.Waits.Members.{any_in, flat_map_in, in_any, in_cases, in_flat_map, in_head, in_split, in_tail, not_in_none}
use Rattle.apply_events.proofs.Waits.Once.{IsTurnOf, is_split, turn_is}
use Rattle.apply_events.proofs.Waits.Shares.{AreTwoEach, one_more_started, open_shares, share, shares, two_after}
use Rattle.apply_events.proofs.Waits.StartedTurns.{each_split, were_started}
use Rattle.apply_events.proofs.Waits.TurnSteps.{all_at, begun_of_change, begun_within, length-begun, steps_of_turn}

-- ---- a plan and a script within the limits

abbrev pub AllWithin : Work → Type 0
AllWithin w = (c : ℕ) → c < length w.plan.changes → AreWithinLimits w.plan w.script c

small_in : (w : Work) (c n : ℕ) (kinds : List StepKind) (s : Step) → n + length kinds ≤ 2 → IsBounded (outcome_of w.script c 0) → IsBounded (outcome_of w.script c 1)
    → Contains (map (λ p. step_of w c p.0 p.1) (enumerate_from n kinds)) s → IsSmall s
small_in w c n [] s few first second there = absurd (not_in_none s there)
small_in w c n (kind ∷ kinds) s few first second there = ⊎_elim
    (λ (is : step_of w c n kind ≡ s). subst IsSmall is (small_step w c n kind (bounded n (omega arith))))
    (λ (later : Contains (map (λ p. step_of w c p.0 p.1) (enumerate_from (n + 1) kinds)) s). small_in w c (n + 1) kinds s (omega arith) first second later)
    (in_cases (step_of w c n kind) (map (λ p. step_of w c p.0 p.1) (enumerate_from (n + 1) kinds)) s there)
  where
    bounded : (k : ℕ) → k < 2 → IsBounded (outcome_of w.script c k)
    bounded zero lt = first
    bounded (suc zero) lt = second
    bounded (suc (suc k)) lt = absurd (omega arith)

pub small_of : (w : Work) (c : ℕ) (s : Step) → AreWithinLimits w.plan w.script c → Contains (steps_of w c) s → IsSmall s
small_of w c s limits there = small_in w c 0 (kinds_applied w.plan w.script c) s (let few = limits.few in let applied = few_applied w.plan w.script c in omega arith) limits.first limits.second there

pub begun_small : (w : Work) (turn : Turn) → AreWithinLimits w.plan w.script turn.change → All IsSmall (begun_steps w turn)
begun_small w turn limits =
    All-weaker (Contains (begun_steps w turn)) IsSmall (λ s there. small_of w turn.change s limits (begun_of_change w turn s there)) (begun_steps w turn) (All-contains_itself (begun_steps w turn))

no_halt_longer : (w : Work) (s : Step) → IsSmall s → step_time s ≤ max_seconds
no_halt_longer w s small = let short = small.short in halted (s.halts Pre) short
  where
    halted : (answer : Option ℕ) → seconds_of s ≤ 86400 → cond (is_some answer) 0 (seconds_of s) ≤ max_seconds
    halted None short = omega arith
    halted (Some hook) short = omega arith

-- ---- the turns of a work

in_range : (a n c : ℕ) → Contains (range_with_len a n) c → (a ≤ c) × (c < a + n)
in_range a zero c there = absurd (not_in_none c there)
in_range a (suc n) c there = ⊎_elim
    (λ (is : a ≡ c). (omega arith, omega arith))
    (λ (later : Contains (range_with_len (a + 1) n) c). let rest = in_range (a + 1) n c later in let low = rest.0 in let high = rest.1 in (omega arith, omega arith))
    (in_cases a (range_with_len (a + 1) n) c there)

change_of : (w : Work) (c : ℕ) (turn : Turn) (split : Bool) → Contains (cond split (single c 0 ∷ single c 1 ∷ []) (whole w c ∷ [])) turn → turn.change ≡ c
change_of w c turn true there = ⊎_elim
    (λ (first : single c 0 ≡ turn). sym (ap (λ (t : Turn). t.change) first))
    (λ (later : Contains (single c 1 ∷ []) turn). ⊎_elim
    (λ (second : single c 1 ≡ turn). sym (ap (λ (t : Turn). t.change) second))
    (λ (none : Contains [] turn). absurd (not_in_none turn none))
    (in_cases (single c 1) [] turn later))
    (in_cases (single c 0) (single c 1 ∷ []) turn there)
change_of w c turn false there = ⊎_elim
    (λ (all : whole w c ≡ turn). sym (ap (λ (t : Turn). t.change) all))
    (λ (none : Contains [] turn). absurd (not_in_none turn none))
    (in_cases (whole w c) [] turn there)

pub known_change : (w : Work) (turn : Turn) → Contains (turns w) turn → turn.change < length w.plan.changes
known_change w turn known =
    let answer = flat_map_in (turns_of w) (range_with_len 0 (length w.plan.changes)) turn known in
    let high = (in_range 0 (length w.plan.changes) answer.0 answer.1).1 in
    let is = change_of w answer.0 turn (is_split w answer.0) answer.2 in omega arith

that_itself : (turn : Turn) → is_that_turn turn turn ≡ true
that_itself turn =
    ap (λ t. t && eqb turn.first turn.first && eqb turn.count turn.count) (eq-eqb turn.change turn.change refl)
    ∙ ap (λ t. t && eqb turn.count turn.count) (eq-eqb turn.first turn.first refl) ∙ eq-eqb turn.count turn.count refl

pub has_it : (w : Work) (turn : Turn) → Contains (turns w) turn → has_turn w turn ≡ true
has_it w turn known = any_in (λ other. is_that_turn other turn) (turns w) turn known (that_itself turn)

-- what is known of a turn by its change
pub record TurnFacts (w : Work) (turn : Turn) : Type 0 where
  pub first : turn.first ≤ 1
  pub last : turn.first + turn.count ≤ 2
  pub share : turn.count ≤ share w turn
  pub two : 0 < turn.first → (0 < length (kinds_applied w.plan w.script turn.change)) × (turn ≡ single turn.change 1) × (is_split w turn.change ≡ true)

same_number : (a b : ℕ) → eqb a b ≡ true → a ≡ b
same_number a b same = ⊎_elim
    (λ (c : _ × (a ≡ b)). c.1)
    (λ (c : _ × (a ≢ b)). absurd (true≢false (sym same ∙ ne_eqb a b c.1)))
    (eqb_tells a b)

pub turn_facts : (w : Work) (turn : Turn) → length (kinds_of w.plan turn.change) ≤ 2 → IsTurnOf w turn.change turn → TurnFacts w turn
turn_facts w turn few (inl all) =
    let applied = few_applied w.plan w.script turn.change in
    let first = ap (λ (t : Turn). t.first) all.1 in let count = ap (λ (t : Turn). t.count) all.1 in
    let two : share w turn ≡ 2 = ap (λ (t : Bool). cond t 1 2) all.0 in
    record { first = omega arith; last = omega arith; share = omega arith; two = λ some. absurd (omega arith) }
turn_facts w turn few (inr (split, inl one)) =
    let first = ap (λ (t : Turn). t.first) one in let count = ap (λ (t : Turn). t.count) one in
    let mine : share w turn ≡ 1 = ap (λ (t : Bool). cond t 1 2) split in
    record { first = omega arith; last = omega arith; share = omega arith; two = λ some. absurd (omega arith) }
turn_facts w turn few (inr (split, inr one)) =
    let first = ap (λ (t : Turn). t.first) one in let count = ap (λ (t : Turn). t.count) one in
    let mine : share w turn ≡ 1 = ap (λ (t : Bool). cond t 1 2) split in
    let steps = same_number (length (kinds_applied w.plan w.script turn.change)) 2 (and_parts (eqb (length (kinds_applied w.plan w.script turn.change)) 2) _ split).0 in
    record { first = omega arith; last = omega arith; share = omega arith; two = λ some. ((let more : 0 < length (kinds_applied w.plan w.script turn.change) = omega arith in more), one, split) }

-- ---- how long turns take

pub few_begun : (w : Work) (turn : Turn) → length (begun_steps w turn) ≤ turn.count
few_begun w turn =
    let less = length-begun (steps_of_turn w turn) in let started = length-take turn.count (drop turn.first (steps_of w turn.change)) in omega arith

pub time_within : (w : Work) (one : StartedTurn) → AreWithinLimits w.plan w.script one.turn.change → time_of w one ≤ max_seconds * one.turn.count
time_within w one limits =
    let few = few_begun w one.turn in
    let each = All-weaker IsSmall (λ s. step_time s ≤ max_seconds) (no_halt_longer w) (begun_steps w one.turn) (begun_small w one.turn limits) in
    let all = sum_by-le step_time max_seconds (begun_steps w one.turn) each in omega arith

pub total_within : (w : Work) (started : List StartedTurn) → length w.plan.changes ≤ 10000 → AllWithin w → ((one : StartedTurn) → Contains started one → Contains (turns w) one.turn) → total w started ≤ max_seconds * shares w started
total_within w [] few within known = omega arith
total_within w (one ∷ started) few within known =
    let here = known one (in_head one started) in
    let limits = within one.turn.change (known_change w one.turn here) in
    let facts = turn_facts w one.turn limits.few (turn_is w one.turn here) in
    let count = facts.share in
    let time = time_within w one limits in
    let rest = total_within w started few within (λ x there. known x (in_tail one started x there)) in
    let times : total w (one ∷ started) ≡ time_of w one + total w started = sum_by-cons (time_of w) one started in
    let sum : shares w (one ∷ started) ≡ share w one.turn + shares w started = sum_by-cons (λ (x : StartedTurn). share w x.turn) one started in omega arith

-- ---- a turn that starts

module _ (w : Work) (n : ℕ) (some : 0 < n) (few : length w.plan.changes ≤ 10000) (within : AllWithin w) where
  up : WereStarted w n (schedule w n)
  up = were_started w n some

  -- the turns before a started turn
  pub record Place (one : StartedTurn) (before : List StartedTurn) : Type 0 where
    pub later : List StartedTurn
    pub is : schedule w n ≡ later ++ one ∷ before

  known_before : (one : StartedTurn) (before : List StartedTurn) → Place one before → (x : StartedTurn) → Contains before x → Contains (turns w) x.turn
  known_before one before place x there =
      all_at (λ (y : StartedTurn). Contains (turns w) y.turn) (schedule w n) x up.known
      (subst (λ l. Contains l x) (sym place.is) (Contains-append_right place.later (one ∷ before) x (in_tail one before x there)))

  known_here : (one : StartedTurn) (before : List StartedTurn) → Place one before → Contains (turns w) one.turn
  known_here one before place =
      all_at (λ (y : StartedTurn). Contains (turns w) y.turn) (schedule w n) one up.known (subst (λ l. Contains l one) (sym place.is) (Contains-append_right place.later (one ∷ before) one (in_head one before)))

  -- if the second step of a change was started, the first step was started before it
  second_after : (one : StartedTurn) (before front rest : List StartedTurn) (second : StartedTurn) → Place one before → before ≡ front ++ second ∷ rest → second.turn ≡ single one.turn.change 1
      → IsAfterFirst w one.turn.change rest second.begin
  second_after one before front rest second place split its =
      let all : schedule w n ≡ (place.later ++ one ∷ front) ++ second ∷ rest =
      place.is ∙ ap (λ l. place.later ++ one ∷ l) split ∙ sym (append_assoc place.later (one ∷ front) (second ∷ rest)) in
      let ready = up.ready (place.later ++ one ∷ front) rest second all in
      after_first w one.turn.change rest ready.at second.begin (sym (ap (ready_at w rest) its) ∙ ready.ready) ready.in_time

  -- so the first step would start twice
  first_again : (one : StartedTurn) (before front rest : List StartedTurn) (second : StartedTurn) → before ≡ front ++ second ∷ rest → one.turn.first ≡ 0 → IsAfterFirst w one.turn.change rest second.begin
      → is_started before one.turn ≡ true
  first_again one before front rest second split first later_events =
      let other = later_events.one in
      let inside : Contains before other = subst (λ l. Contains l other) (sym split) (Contains-append_right front (second ∷ rest) other (in_tail second rest other later_events.there)) in
      let low = (begun_within w other.turn later_events.step.0 later_events.step.1).0 in
      let number = later_events.step.2 in
      let zero : other.turn.first ≡ one.turn.first = omega arith in
      any_in (λ (x : StartedTurn). is_same_turn x.turn one.turn) before other inside
      (ap (λ t. t && eqb other.turn.first one.turn.first) (eq-eqb other.turn.change one.turn.change later_events.change) ∙ eq-eqb other.turn.first one.turn.first zero)

  -- the second step of the change was not started before the first
  second_is_open : (one : StartedTurn) (before : List StartedTurn) → Place one before → one.turn ≡ single one.turn.change 0 → is_started before (single one.turn.change 1) ≡ false
  second_is_open one before place first = ⊎_elim
      (λ (yes : is_started before (single one.turn.change 1) ≡ true).
      let c = one.turn.change in
      let answer = in_any (λ (x : StartedTurn). is_same_turn x.turn (single c 1)) before yes in
      let second = answer.0 in
      let parts = and_parts (eqb second.turn.change c) (eqb second.turn.first 1) answer.2 in
      let change = same_number second.turn.change c parts.0 in
      let number = same_number second.turn.first 1 parts.1 in
      let known = known_before one before place second answer.1 in
      let facts = turn_facts w second.turn (within second.turn.change (known_change w second.turn known)).few (turn_is w second.turn known) in
      let its : second.turn ≡ single c 1 = (facts.two (omega arith)).1 ∙ ap (λ k. single k 1) change in
      let split = in_split before second answer.1 in
      let again = first_again one before split.0 split.1 second split.2 (ap (λ (t : Turn). t.first) first) (second_after one before split.0 split.1 second place split.2 its) in
      absurd (true≢false (sym again ∙ up.once place.later before one place.is)))
      (λ (no : is_started before (single one.turn.change 1) ≡ false). no)
      (cases_Bool (is_started before (single one.turn.change 1)))

  second_known : (c : ℕ) → c < length w.plan.changes → is_split w c ≡ true → Contains (turns w) (single c 1)
  second_known c lt split =
      in_flat_map (turns_of w) (range_with_len 0 (length w.plan.changes)) c (single c 1) (range_has 0 (length w.plan.changes) c (omega arith) (omega arith))
      (subst (λ t. Contains (cond t (single c 0 ∷ single c 1 ∷ []) (whole w c ∷ [])) (single c 1)) (sym split) (in_tail (single c 0) (single c 1 ∷ []) (single c 1) (in_head (single c 1) [])))
    where
      range_has : (a m k : ℕ) → a ≤ k → k < a + m → Contains (range_with_len a m) k
      range_has a zero k low high = absurd (omega arith)
      range_has a (suc m) k low high = ⊎_elim
          (λ (is : k ≡ a). subst (Contains (a ∷ range_with_len (a + 1) m)) (sym is) (in_head a (range_with_len (a + 1) m)))
          (λ (ne : k ≡ a → ⊥). in_tail a (range_with_len (a + 1) m) k (range_has (a + 1) m k (omega arith) (omega arith)))
          (cases_eq k a)

  -- the change has as many open shares as the turn and the turns after it need
  open_there : (one : StartedTurn) (before : List StartedTurn) → Place one before → 2 - one.turn.first ≤ open_shares w before (turns w)
  open_there one before place =
      let known = known_here one before place in
      let new = up.once place.later before one place.is in
      let less = one_more_started w one before (turns w) known new in
      of_turn (turn_is w one.turn known) less
    where
      of_turn : IsTurnOf w one.turn.change one.turn → open_shares w (one ∷ before) (turns w) + share w one.turn ≤ open_shares w before (turns w) → 2 - one.turn.first ≤ open_shares w before (turns w)
      of_turn (inl all) less = let two : share w one.turn ≡ 2 = ap (λ (t : Bool). cond t 1 2) all.0 in omega arith
      of_turn (inr (split, inr second)) less =
          let mine : share w one.turn ≡ 1 = ap (λ (t : Bool). cond t 1 2) split in let first = ap (λ (t : Turn). t.first) second in omega arith
      of_turn (inr (split, inl first)) less =
          let c = one.turn.change in
          let mine : share w one.turn ≡ 1 = ap (λ (t : Bool). cond t 1 2) split in
          let other : StartedTurn = record { turn = single c 1; lane = 0; begin = one.begin } in
          let its : share w (single c 1) ≡ 1 = ap (λ (t : Bool). cond t 1 2) split in
          let apart : is_same_turn one.turn (single c 1) ≡ false =
          ap (λ t. t && eqb one.turn.first 1) (eq-eqb one.turn.change c refl) ∙ ne_eqb one.turn.first 1 (let at = ap (λ (t : Turn). t.first) first in omega arith) in
          let new : is_started (one ∷ before) (single c 1) ≡ false = ap (λ t. t || is_started before (single c 1)) apart ∙ second_is_open one before place first in
          let lesser = one_more_started w other (one ∷ before) (turns w) (second_known c (known_change w one.turn (known_here one before place)) split) new in omega arith

  pub startable : (one : StartedTurn) (before : List StartedTurn) → Place one before → IsStartable w one
  startable one before place =
      let known = known_here one before place in
      let change = known_change w one.turn known in
      let limits = within one.turn.change change in
      let facts = turn_facts w one.turn limits.few (turn_is w one.turn known) in
      let begins = each_split (λ before one. one.begin.second ≤ total w before) place.later before one (schedule w n) (each_begins w n some (length (turns w))) place.is in
      let two = each_split (λ before one. AreTwoEach w before) place.later before one (schedule w n) (two_after w n (length (turns w))) place.is in
      let free = open_there one before place in
      let time = total_within w before few within (known_before one before place) in
      let ready = up.ready place.later before one place.is in
      let first = facts.first in
      let later_events : 0 < one.turn.first → IsAfterFirst w one.turn.change before one.begin =
      λ more. after_first w one.turn.change before ready.at one.begin (sym (ap (ready_at w before) (facts.two more).1) ∙ ready.ready) ready.in_time in
      record {
        known = has_it w one.turn known;
        change = change;
        few = limits.few;
        first = first;
        last = facts.last;
        in_time = omega arith;
        has_step = λ more. (facts.two more).0;
        went_on = λ more. (later_events more).went_on;
        late = λ more. (later_events more).late;
      }

  pub all_startable : All (IsStartable w) (schedule w n)
  all_startable =
      All-weaker (Contains (schedule w n)) (IsStartable w)
      (λ one there. let split = in_split (schedule w n) one there in startable one split.1 (record { later = split.0; is = split.2 }))
      (schedule w n) (All-contains_itself (schedule w n))
