-- Two works whose steps go alike have the same turns with steps that begin, but for the steps in
-- them that do not begin.
use Rattle.std.proofs.Common.{◌≡◌, ◌≢◌, ℕ, ◌<◌, ◌≤◌, Bool, true, false, ◌&&◌, not, List, [], ◌∷◌, ◌++◌, Option, Some, None, cond, length, map, refl, sym, ap, ◌∙◌, subst, ⊎_elim, ◌⊎◌, inl, inr, arith, eqb, eq-eqb, ne_eqb}
use Rattle.std.specs.Prelude.{slice_get}
use Rattle.std.specs.List.{Contains, filter, flat_map, list_any, range_with_len}
use Rattle.std.proofs.lemmas.Bool.{and_from, and_parts, cases_Bool, cases_eq, true≢false}
use Rattle.std.proofs.lemmas.List.{map-append}
use Rattle.std.proofs.lemmas.List.Elements.{filter-append}
use Rattle.apply_model.specs.declared.plan.step_kind.StepKind.{StepKind}
use Rattle.apply_model.specs.declared.script.wait.Wait.{Wait}
use Rattle.apply_model.specs.Script.OutcomeMap.{outcome_of}
use Rattle.apply_model.specs.Script.Waits.{waits_of}
use Rattle.apply_hooks.specs.Hooks.{first_halting}
use Rattle.apply_events.specs.Step.{Step, Work, address_of, kinds_applied, kinds_of, step_of, steps_of}
use Rattle.apply_events.specs.StepEvents.{goes_on}
use Rattle.apply_events.specs.declared.lanes.lane_time.LaneTime.{LaneTime}
use Rattle.apply_events.specs.declared.lanes.turn.StartedTurn.{StartedTurn}
use Rattle.apply_events.specs.declared.lanes.turn.Turn.{Turn}
use Rattle.apply_events.specs.Waits.Done.{done_at, done_in, first_some}
use Rattle.apply_events.specs.Waits.Schedule.{schedule}
use Rattle.apply_events.specs.Waits.Turn.{begun_steps, single, turns, turns_of, waits_of_turn, whole}
use Rattle.apply_events.proofs.AppliedSteps.{few_applied}
use Rattle.apply_events.proofs.StepNumbers.{steps_of-numbered}
use Rattle.apply_events.proofs.Waits.Members.{any_in, filter_in, in_any, in_cases, in_head, in_tail, not_in_none}
use Rattle.apply_events.proofs.Waits.Once.{AreTurns, IsTurnOf, is_split, known_turn, turn_is}
use Rattle.apply_events.proofs.Waits.StartedTurns.{were_started}
use Rattle.apply_events.proofs.Waits.TurnEvents.{done_then}
use Rattle.apply_events.proofs.Waits.TurnSteps.{begun_of_change, begun_within, length-steps_of, numbered_in}
use Rattle.laws_lanes.specs.Alike.{BeginsAlike, GoesAlike, WaitsInVain, is_begun}
use Rattle.laws_lanes.proofs.BegunSteps.{FirstSteps, alone, both, first_steps, first_turn, is_first_turn, kind_at, kind_planned, names_none, second_steps, split_if}
use Rattle.laws_lanes.proofs.Chosen.{from_test}
use Rattle.laws_lanes.proofs.Mirrored.{IsMirrored, mirror}
use Rattle.laws_lanes.proofs.StepsAlike.{AllGoLike, GoLike, same_goes_on}

pub are_turns : (w : Work) (n : ℕ) → 0 < n → AreTurns w (schedule w n)
are_turns w n some = let up = were_started w n some in record { known = up.known; once = up.once }

-- ---- a step that begins

pub record Begins (w : Work) (started : List StartedTurn) (c k : ℕ) : Type 0 where
  pub one : StartedTurn
  pub there : Contains started one
  pub change : one.turn.change ≡ c
  pub step : Step
  pub among : Contains (begun_steps w one.turn) step
  pub number : step.number ≡ k

pub when_begun : (w : Work) (started : List StartedTurn) (c k : ℕ) → is_begun w started c k ≡ true → Begins w started c k
when_begun w started c k is =
    let answer = in_any (λ (one : StartedTurn). eqb one.turn.change c && list_any (λ (step : Step). eqb step.number k) (begun_steps w one.turn)) started is in
    let one = answer.0 in
    let both = and_parts (eqb one.turn.change c) (list_any (λ (step : Step). eqb step.number k) (begun_steps w one.turn)) answer.2 in
    let step = in_any (λ (step : Step). eqb step.number k) (begun_steps w one.turn) both.1 in
    record { one = one; there = answer.1; change = from_test one.turn.change c both.0; step = step.0; among = step.1; number = from_test step.0.number k step.2 }

pub begun_if : (w : Work) (started : List StartedTurn) (c k : ℕ) (one : StartedTurn) (step : Step) → Contains started one → one.turn.change ≡ c → Contains (begun_steps w one.turn) step → step.number ≡ k
    → is_begun w started c k ≡ true
begun_if w started c k one step there change among number =
    any_in (λ (x : StartedTurn). eqb x.turn.change c && list_any (λ (s : Step). eqb s.number k) (begun_steps w x.turn)) started one there
    (and_from (eqb one.turn.change c) (list_any (λ (s : Step). eqb s.number k) (begun_steps w one.turn)) (eq-eqb one.turn.change c change)
    (any_in (λ (s : Step). eqb s.number k) (begun_steps w one.turn) step among (eq-eqb step.number k number)))

pub begun_applied : (w : Work) (started : List StartedTurn) (c k : ℕ) → Begins w started c k → k < length (kinds_applied w.plan w.script c)
begun_applied w started c k h =
    let within = numbered_in 0 (steps_of w h.one.turn.change) h.step (steps_of-numbered w h.one.turn.change) (begun_of_change w h.one.turn h.step h.among) in
    let high = within.1 in let number = h.number in
    let size = length-steps_of w h.one.turn.change in
    subst (λ x. k < length (kinds_applied w.plan w.script x)) h.change (omega arith)

-- ---- tests

not_true : (t : Bool) → not t ≡ true → t ≡ false
not_true true is = absurd cc
not_true false is = refl

some_count : (t : Bool) (size : ℕ) → 0 < size → eqb (cond t 1 size) 0 ≡ false
some_count true size some = refl
some_count false size some = ne_eqb size 0 (omega arith)

pub waits_are : (w : Work) (turn : Turn) → eqb turn.count 0 ≡ false → waits_of_turn w turn ≡ waits_of w.script turn.change turn.first
waits_are w turn some = ap (λ t. cond t [] (waits_of w.script turn.change turn.first)) some

single_mirrored : (v : Work) (c : ℕ) → is_split v c ≡ true → mirror v (single c 1) ≡ single c 1
single_mirrored v c split = ap (λ t. let x : Turn = record { change = c; first = 1; count = cond t 1 (length (kinds_applied v.plan v.script c)) } in x) split

is_second : (w : Work) (turn : Turn) → IsTurnOf w turn.change turn → turn.first ≢ 0 → (is_split w turn.change ≡ true) × (turn ≡ single turn.change 1)
is_second w turn (inl one) later = absurd (later (ap (λ (t : Turn). t.first) one.1))
is_second w turn (inr (split, inl is)) later = absurd (later (ap (λ (t : Turn). t.first) is))
is_second w turn (inr (split, inr is)) later = (split, is)

some_at : (kinds : List StepKind) (b : StepKind) → slice_get kinds 1 ≡ Some b → 1 < length kinds
some_at [] b is = absurd cc
some_at (x ∷ []) b is = absurd cc
some_at (x ∷ y ∷ kinds) b is = omega arith

-- a first step that goes on is not alone in a turn of both steps
not_alone : (u : Work) (c : ℕ) (a : StepKind) → is_split u c ≡ false → 1 < length (kinds_applied u.plan u.script c) → goes_on (step_of u c 0 a) ≡ true
    → (is_split u c ≡ true) ⊎ (length (kinds_applied u.plan u.script c) ≤ 1) ⊎ (goes_on (step_of u c 0 a) ≡ false) → ⊥
not_alone u c a unsplit more goes (inl split) = true≢false (sym split ∙ unsplit)
not_alone u c a unsplit more goes (inr (inl few)) = omega arith
not_alone u c a unsplit more goes (inr (inr stops)) = true≢false (sym goes ∙ stops)

module _ (w v : Work) (n : ℕ) (h : GoesAlike w v n) where
  abbrev pub begun : (c k : ℕ) → Bool
  begun c k = is_begun w (schedule w n) c k

  some_lanes : 0 < n
  some_lanes = let some = h.some in omega arith

  pub few_kinds : (c : ℕ) → length (kinds_of v.plan c) ≤ 2
  few_kinds c = subst (λ plan. length (kinds_of plan c) ≤ 2) (sym h.plan) (h.few c)

  -- ---- a step that begins in both works

  pub record BothBegin (c k : ℕ) : Type 0 where
    pub kind : StepKind
    pub first : slice_get (kinds_applied w.plan w.script c) k ≡ Some kind
    pub second : slice_get (kinds_applied v.plan v.script c) k ≡ Some kind
    pub like : BeginsAlike w v c k kind

  some_same : (a b : StepKind) → Some a ≡ Some b → a ≡ b
  some_same a b is = cc

  pub both_begin : (c k : ℕ) → begun c k ≡ true → BothBegin c k
  both_begin c k is =
      let applied = begun_applied w (schedule w n) c k (when_begun w (schedule w n) c k is) in
      let first = kind_at (kinds_applied w.plan w.script c) k applied in
      let planned = kind_planned w.plan w.script c k first.0 first.1 in
      let like = h.begun c k first.0 is planned in
      let second = kind_at (kinds_applied v.plan v.script c) k like.applied in
      let planned' = subst (λ plan. slice_get (kinds_of plan c) k ≡ Some second.0) h.plan (kind_planned v.plan v.script c k second.0 second.1) in
      let same : second.0 ≡ first.0 = some_same second.0 first.0 (sym planned' ∙ planned) in
      record { kind = first.0; first = first.1; second = subst (λ a. slice_get (kinds_applied v.plan v.script c) k ≡ Some a) same second.1; like = like }

  pub go_like : (c k : ℕ) (kind : StepKind) → BeginsAlike w v c k kind → GoLike (step_of w c k kind) (step_of v c k kind)
  go_like c k kind like = record {
    change = refl;
    number = refl;
    before = like.alike.before;
    ran = like.alike.ran;
    after = like.alike.after;
    fails = like.alike.fails;
    ends = like.alike.ends;
    other_ends = like.alike.other_ends;
    halts = λ phase. ap (λ hooks. first_halting hooks (record { phase = phase; kind = kind; address = address_of w.plan c })) h.hooks;
    other_halts = λ phase. ap (λ hooks. first_halting hooks (record { phase = phase; kind = kind; address = address_of v.plan c })) h.other_hooks;
  }

  -- where the second step begins, both works have the same turns of the change
  pub same_split : (c : ℕ) → begun c 1 ≡ true → is_split v c ≡ is_split w c
  same_split c is =
      let applied = begun_applied w (schedule w n) c 1 (when_begun w (schedule w n) c 1 is) in
      let its = both_begin c 1 is in
      let applied' = its.like.applied in
      let few = h.few c in let few' = few_kinds c in
      let less = few_applied w.plan w.script c in let less' = few_applied v.plan v.script c in
      split_if v c (omega arith) ∙ its.like.named ∙ sym (split_if w c (omega arith))

  -- ---- the turn with the first step

  pub record FirstBegins (c : ℕ) : Type 0 where
    pub one : StartedTurn
    pub there : Contains (schedule w n) one
    pub is : one.turn ≡ first_turn w c

  pub first_begins_in : (c : ℕ) → begun c 0 ≡ true → FirstBegins c
  first_begins_in c is =
      let its = when_begun w (schedule w n) c 0 is in
      let low = (begun_within w its.one.turn its.step its.among).0 in
      let number = its.number in
      let of : IsTurnOf w c its.one.turn = subst (λ x. IsTurnOf w x its.one.turn) its.change (known_turn w (schedule w n) its.one (are_turns w n some_lanes) its.there) in
      record { one = its.one; there = its.there; is = is_first_turn w c its.one.turn of (omega arith) }

  -- a step of it that goes on is done
  first_done : (c : ℕ) (s : Step) → FirstBegins c → Contains (begun_steps w (first_turn w c)) s → goes_on s ≡ true → s.number ≡ 0
      → (m : LaneTime) × (done_at w (schedule w n) (record { change = c; step = 0 }) ≡ Some m)
  first_done c s its among goes number =
      let name : Wait = record { change = c; step = 0 } in
      let done = done_then w its.one s name (subst (λ t. Contains (begun_steps w t) s) (sym its.is) among) goes (ap (λ (t : Turn). t.change) (sym its.is)) (sym number) in
      somewhere (schedule w n) its.one name its.there done.0 done.1
    where
      head_some : (a b : Option LaneTime) (m : LaneTime) → a ≡ Some m → (m' : LaneTime) × (first_some a b ≡ Some m')
      head_some None b m is = absurd cc
      head_some (Some a) b m is = (a, refl)

      tail_some : (a b : Option LaneTime) (m : LaneTime) → b ≡ Some m → (m' : LaneTime) × (first_some a b ≡ Some m')
      tail_some None b m is = (m, is)
      tail_some (Some a) b m is = (a, refl)

      somewhere : (started : List StartedTurn) (one : StartedTurn) (name : Wait) → Contains started one → (m : LaneTime) → done_in w one name ≡ Some m
          → (m' : LaneTime) × (done_at w started name ≡ Some m')
      somewhere [] one name there m is = absurd (not_in_none one there)
      somewhere (x ∷ started) one name there m is = ⊎_elim
          (λ (same : x ≡ one). head_some (done_in w x name) (done_at w started name) m (ap (λ y. done_in w y name) same ∙ is))
          (λ (later : Contains started one).
          let rest = somewhere started one name later m is in tail_some (done_in w x name) (done_at w started name) rest.0 rest.1)
          (in_cases x started one there)

  -- the second step begins in it
  second_begun : (c : ℕ) (s : Step) → FirstBegins c → Contains (begun_steps w (first_turn w c)) s → s.number ≡ 1 → begun c 1 ≡ true
  second_begun c s its among number =
      begun_if w (schedule w n) c 1 its.one s its.there (ap (λ (t : Turn). t.change) its.is) (subst (λ t. Contains (begun_steps w t) s) (sym its.is) among) number

  -- where the first step of both works goes on and the second step follows at once in the other
  -- work, the second step begins
  second_follows : (c : ℕ) (a : StepKind) → FirstBegins c → begun c 1 ≡ false → Contains (begun_steps w (first_turn w c)) (step_of w c 0 a) → goes_on (step_of w c 0 a) ≡ true
      → is_split v c ≡ false → 1 < length (kinds_applied v.plan v.script c) → ⊥
  second_follows c a its never among goes unsplit applied =
      let less = few_applied v.plan v.script c in
      let few = few_kinds c in
      let planned : 1 < length (kinds_of w.plan c) = subst (λ plan. 1 < length (kinds_of plan c)) h.plan (omega arith) in
      let none : (outcome_of v.script c 1).after ≡ [] = names_none (outcome_of v.script c 1) (sym (split_if v c (omega arith)) ∙ unsplit) in ⊎_elim
      (λ (skipped : length (kinds_applied v.plan v.script c) ≤ 1). let low = skipped in let high = applied in omega arith)
      (λ (vain : WaitsInVain w v n c 1).
      let zero_of : Wait = record { change = c; step = 0 } in ⊎_elim
      (λ (same : zero_of ≡ vain.name).
      let done = first_done c (step_of w c 0 a) its among goes refl in
      let never_done : done_at w (schedule w n) zero_of ≡ None = ap (done_at w (schedule w n)) same ∙ vain.never in
      let both : None ≡ Some done.0 = sym never_done ∙ done.1 in cc)
      (λ (later : Contains (outcome_of v.script c 1).after vain.name). not_in_none vain.name (subst (λ l. Contains l vain.name) none later))
      (in_cases zero_of (outcome_of v.script c 1).after vain.name vain.waits))
      (h.left_out c 1 planned never)

  pub first_alike : (c : ℕ) → begun c 0 ≡ true → AllGoLike (begun_steps w (first_turn w c)) (begun_steps v (first_turn v c))
  first_alike c is =
      let zero_th = both_begin c 0 is in
      by_steps zero_th (first_begins_in c is) (first_steps w c (h.few c) zero_th.kind zero_th.first) (first_steps v c (few_kinds c) zero_th.kind zero_th.second)
    where
      by_steps : (its : BothBegin c 0) → FirstBegins c → FirstSteps w c its.kind → FirstSteps v c its.kind → AllGoLike (begun_steps w (first_turn w c)) (begun_steps v (first_turn v c))
      by_steps its first (alone ones _) (alone others _) =
          subst (λ l. AllGoLike l (begun_steps v (first_turn v c))) (sym ones) (subst (AllGoLike (step_of w c 0 its.kind ∷ [])) (sym others) (go_like c 0 its.kind its.like, tt))
      by_steps its first (both b ones unsplit second goes) (both b' others unsplit' second' goes') =
          let then = both_begin c 1 (second_begun c (step_of w c 1 b) first (subst (λ l. Contains l (step_of w c 1 b)) (sym ones) (in_tail (step_of w c 0 its.kind) (step_of w c 1 b ∷ []) (step_of w c 1 b) (in_head (step_of w c 1 b) []))) refl) in
          let like = go_like c 1 then.kind then.like in
          let same : then.kind ≡ b = some_same then.kind b (sym then.first ∙ second) in
          let same' : then.kind ≡ b' = some_same then.kind b' (sym then.second ∙ second') in
          let last : GoLike (step_of w c 1 b) (step_of v c 1 b') = subst (λ k. GoLike (step_of w c 1 b) (step_of v c 1 k)) same' (subst (λ k. GoLike (step_of w c 1 k) (step_of v c 1 then.kind)) same like) in
          subst (λ l. AllGoLike l (begun_steps v (first_turn v c))) (sym ones)
          (subst (AllGoLike (step_of w c 0 its.kind ∷ step_of w c 1 b ∷ [])) (sym others) (go_like c 0 its.kind its.like, (last, tt)))
      by_steps its first (both b ones unsplit second goes) (alone others why) =
          let begins = second_begun c (step_of w c 1 b) first (subst (λ l. Contains l (step_of w c 1 b)) (sym ones) (in_tail (step_of w c 0 its.kind) (step_of w c 1 b ∷ []) (step_of w c 1 b) (in_head (step_of w c 1 b) []))) refl in
          let goes' : goes_on (step_of v c 0 its.kind) ≡ true = same_goes_on (step_of w c 0 its.kind) (step_of v c 0 its.kind) (go_like c 0 its.kind its.like) ∙ goes in
          absurd (not_alone v c its.kind (same_split c begins ∙ unsplit) (both_begin c 1 begins).like.applied goes' why)
      by_steps its first (alone ones why) (both b' others unsplit' second' goes') =
          let goes : goes_on (step_of w c 0 its.kind) ≡ true = sym (same_goes_on (step_of w c 0 its.kind) (step_of v c 0 its.kind) (go_like c 0 its.kind its.like)) ∙ goes' in ⊎_elim
          (λ (begins : begun c 1 ≡ true).
          absurd (not_alone w c its.kind (sym (same_split c begins) ∙ unsplit') (begun_applied w (schedule w n) c 1 (when_begun w (schedule w n) c 1 begins)) goes why))
          (λ (never : begun c 1 ≡ false).
          absurd (second_follows c its.kind first never (subst (λ l. Contains l (step_of w c 0 its.kind)) (sym ones) (in_head (step_of w c 0 its.kind) [])) goes unsplit'
          (some_at (kinds_applied v.plan v.script c) b' second')))
          (cases_Bool (begun c 1))

  second_alike : (c : ℕ) → is_split w c ≡ true → begun c 1 ≡ true → AllGoLike (begun_steps w (single c 1)) (begun_steps v (mirror v (single c 1)))
  second_alike c split is =
      let its = both_begin c 1 is in
      let split' = same_split c is ∙ split in
      let ones = second_steps w c (h.few c) its.kind split its.first in
      let others = ap (begun_steps v) (single_mirrored v c split') ∙ second_steps v c (few_kinds c) its.kind split' its.second in
      subst (λ l. AllGoLike l (begun_steps v (mirror v (single c 1)))) (sym ones) (subst (AllGoLike (step_of w c 1 its.kind ∷ [])) (sym others) (go_like c 1 its.kind its.like, tt))

  -- ---- the turns with steps that begin in the first work

  -- the first step of the turn begins in the first work
  abbrev pub takes : Turn → Bool
  takes turn = not (eqb turn.count 0) && begun turn.change turn.first

  pub is_mirrored : (turn : Turn) → Contains (filter takes (turns w)) turn → IsMirrored w v turn
  is_mirrored turn there =
      let its = filter_in takes (turns w) turn there in
      let both = and_parts (not (eqb turn.count 0)) (begun turn.change turn.first) its.1 in
      let begins = both_begin turn.change turn.first both.1 in
      let ones = waits_are w turn (not_true (eqb turn.count 0) both.0) in
      let others = waits_are v (mirror v turn) (some_count (is_split v turn.change) (length (kinds_applied v.plan v.script turn.change)) (let lt = begins.like.applied in omega arith)) in record {
        alike = its_alike turn (turn_is w turn its.0) both.1;
        waits = λ name among. subst (λ l. Contains l name) (sym others) (begins.like.waits name (subst (λ l. Contains l name) ones among));
        no_more = λ name among. subst (λ l. Contains l name) (sym ones) (begins.like.no_more name (subst (λ l. Contains l name) others among));
      }
    where
      its_alike : (turn : Turn) → IsTurnOf w turn.change turn → begun turn.change turn.first ≡ true → AllGoLike (begun_steps w turn) (begun_steps v (mirror v turn))
      its_alike turn of is = ⊎_elim
          (λ (first : turn.first ≡ 0).
          subst (λ t. AllGoLike (begun_steps w t) (begun_steps v (mirror v t))) (sym (is_first_turn w turn.change turn of first))
          (first_alike turn.change (ap (begun turn.change) (sym first) ∙ is)))
          (λ (later : turn.first ≢ 0).
          let second = is_second w turn of later in
          subst (λ t. AllGoLike (begun_steps w t) (begun_steps v (mirror v t))) (sym second.1)
          (second_alike turn.change second.0 (ap (λ (t : Turn). begun turn.change t.first) (sym second.1) ∙ is)))
          (cases_eq turn.first 0)

  -- those of a change
  taken_of : (u : Work) (c : ℕ) → (begun c 0 ≡ true → 0 < length (kinds_applied u.plan u.script c))
      → filter takes (turns_of u c) ≡ cond (begun c 0) (first_turn u c ∷ []) [] ++ cond (is_split u c && begun c 1) (single c 1 ∷ []) []
  taken_of u c some = by_split (is_split u c)
    where
      by_split : (t : Bool) → filter takes (cond t (single c 0 ∷ single c 1 ∷ []) (whole u c ∷ []))
          ≡ cond (begun c 0) ((let x : Turn = record { change = c; first = 0; count = cond t 1 (length (kinds_applied u.plan u.script c)) } in x) ∷ []) [] ++ cond (t && begun c 1) (single c 1 ∷ []) []
      by_split true = by_begun (begun c 0)
        where
          by_begun : (b : Bool) → cond b (single c 0 ∷ cond (begun c 1) (single c 1 ∷ []) []) (cond (begun c 1) (single c 1 ∷ []) []) ≡ cond b (single c 0 ∷ []) [] ++ cond (begun c 1) (single c 1 ∷ []) []
          by_begun true = refl
          by_begun false = refl
      by_split false = by_begun (begun c 0) refl
        where
          by_begun : (b : Bool) → begun c 0 ≡ b → cond (not (eqb (length (kinds_applied u.plan u.script c)) 0) && b) (whole u c ∷ []) [] ≡ cond b (whole u c ∷ []) [] ++ []
          by_begun true is = ap (λ t. cond (not t && true) (whole u c ∷ []) []) (ne_eqb (length (kinds_applied u.plan u.script c)) 0 (let lt = some is in omega arith))
          by_begun false is = elim (eqb (length (kinds_applied u.plan u.script c)) 0) as (λ t. cond (not t && false) (whole u c ∷ []) [] ≡ []) [ true ↦ refl | false ↦ refl ]

  same_of : (c : ℕ) (b0 b1 split split' : Bool) → is_split v c ≡ split' → (b1 ≡ true → split' ≡ split)
      → map (mirror v) (cond b0 (first_turn w c ∷ []) [] ++ cond (split && b1) (single c 1 ∷ []) []) ≡ cond b0 (first_turn v c ∷ []) [] ++ cond (split' && b1) (single c 1 ∷ []) []
  same_of c true false true true is h = refl
  same_of c true false true false is h = refl
  same_of c true false false true is h = refl
  same_of c true false false false is h = refl
  same_of c false false true true is h = refl
  same_of c false false true false is h = refl
  same_of c false false false true is h = refl
  same_of c false false false false is h = refl
  same_of c true true true true is h = ap (λ x. first_turn v c ∷ x ∷ []) (single_mirrored v c is)
  same_of c true true true false is h = absurd (true≢false (sym (h refl)))
  same_of c true true false true is h = absurd (true≢false (h refl))
  same_of c true true false false is h = refl
  same_of c false true true true is h = ap (λ x. x ∷ []) (single_mirrored v c is)
  same_of c false true true false is h = absurd (true≢false (sym (h refl)))
  same_of c false true false true is h = absurd (true≢false (h refl))
  same_of c false true false false is h = refl

  same_taken : (c : ℕ) → filter takes (turns_of v c) ≡ map (mirror v) (filter takes (turns_of w c))
  same_taken c =
      taken_of v c (λ is. (both_begin c 0 is).like.applied)
      ∙ sym (same_of c (begun c 0) (begun c 1) (is_split w c) (is_split v c) refl (same_split c))
      ∙ sym (ap (map (mirror v)) (taken_of w c (λ is. begun_applied w (schedule w n) c 0 (when_begun w (schedule w n) c 0 is))))

  all_taken : (cs : List ℕ) → filter takes (flat_map (turns_of v) cs) ≡ map (mirror v) (filter takes (flat_map (turns_of w) cs))
  all_taken [] = refl
  all_taken (c ∷ cs) =
      filter-append takes (turns_of v c) (flat_map (turns_of v) cs)
      ∙ ap (λ l. l ++ filter takes (flat_map (turns_of v) cs)) (same_taken c)
      ∙ ap (λ l. map (mirror v) (filter takes (turns_of w c)) ++ l) (all_taken cs)
      ∙ sym (ap (map (mirror v)) (filter-append takes (turns_of w c) (flat_map (turns_of w) cs))
      ∙ map-append (mirror v) (filter takes (turns_of w c)) (filter takes (flat_map (turns_of w) cs)))

  pub same_turns : filter takes (turns v) ≡ map (mirror v) (filter takes (turns w))
  same_turns =
      ap (λ plan. filter takes (flat_map (turns_of v) (range_with_len 0 (length plan.changes)))) h.plan
      ∙ all_taken (range_with_len 0 (length w.plan.changes))
