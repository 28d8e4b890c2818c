-- The steps of a turn, by their numbers.
use Rattle.std.proofs.Common.{◌≡◌, ℕ, zero, suc, ◌+◌, ◌<◌, ◌≤◌, All, true, false, List, [], ◌∷◌, cond, drop, length, map, take, Option, Some, refl, sym, ap, ◌∙◌, subst, ⊎_elim, arith}
use Rattle.std.specs.Prelude.{slice_get}
use Rattle.std.specs.List.{Contains, enumerate_from}
use Rattle.std.proofs.lemmas.Bool.{cases_Bool}
use Rattle.std.proofs.lemmas.List.{length-drop, length-map, length-take}
use Rattle.std.proofs.lemmas.List.Elements.{All-cons, All-head, All-nil, All-tail}
use Rattle.std.proofs.lemmas.List.FromFn.{length-enumerate_from}
use Rattle.apply_model.specs.declared.plan.step_kind.StepKind.{StepKind}
use Rattle.apply_events.specs.ChangeEvents.{begun}
use Rattle.apply_events.specs.Step.{Step, Work, kinds_applied, step_of, steps_of}
use Rattle.apply_events.specs.StepEvents.{goes_on}
use Rattle.apply_events.specs.declared.lanes.turn.Turn.{Turn}
use Rattle.apply_events.specs.Waits.Turn.{begun_steps, whole}
use Rattle.apply_events.proofs.StepNumbers.{AreNumbered, AreNumbered-begun, AreNumbered-drop, steps_of-numbered}
use Rattle.apply_events.proofs.Waits.Members.{in_cases, in_head, in_tail, not_in_none}

-- ---- what is begun is among the steps

pub AreNumbered-take : (n k : ℕ) (steps : List Step) → AreNumbered n steps → AreNumbered n (take k steps)
AreNumbered-take n zero steps h = tt
AreNumbered-take n (suc k) [] h = tt
AreNumbered-take n (suc k) (s ∷ steps) h = (h.0, AreNumbered-take (n + 1) k steps h.1)

begun_in : (steps : List Step) (s : Step) → Contains (begun steps) s → Contains steps s
begun_in [] s h = absurd (not_in_none s h)
begun_in (x ∷ steps) s h = ⊎_elim
    (λ (is : x ≡ s). subst (λ y. Contains (x ∷ steps) y) is (in_head x steps))
    (λ (later : Contains (cond (goes_on x) (begun steps) []) s). ⊎_elim
    (λ (on : goes_on x ≡ true). in_tail x steps s (begun_in steps s (subst (λ t. Contains (cond t (begun steps) []) s) on later)))
    (λ (off : goes_on x ≡ false). absurd (not_in_none s (subst (λ t. Contains (cond t (begun steps) []) s) off later)))
    (cases_Bool (goes_on x)))
    (in_cases x (cond (goes_on x) (begun steps) []) s h)

take_in : (k : ℕ) (steps : List Step) (s : Step) → Contains (take k steps) s → Contains steps s
take_in zero steps s h = absurd (not_in_none s h)
take_in (suc k) [] s h = absurd (not_in_none s h)
take_in (suc k) (x ∷ steps) s h = ⊎_elim
    (λ (is : x ≡ s). subst (λ y. Contains (x ∷ steps) y) is (in_head x steps))
    (λ (later : Contains (take k steps) s). in_tail x steps s (take_in k steps s later))
    (in_cases x (take k steps) s h)

drop_in : (k : ℕ) (steps : List Step) (s : Step) → Contains (drop k steps) s → Contains steps s
drop_in zero steps s h = h
drop_in (suc k) [] s h = h
drop_in (suc k) (x ∷ steps) s h = in_tail x steps s (drop_in k steps s h)

-- the steps of a turn, whether they begin or not
abbrev pub steps_of_turn : Work → Turn → List Step
steps_of_turn w turn = take turn.count (drop turn.first (steps_of w turn.change))

pub turn_numbered : (w : Work) (turn : Turn) → AreNumbered turn.first (steps_of_turn w turn)
turn_numbered w turn =
    let at : 0 + turn.first ≡ turn.first = omega arith in
    AreNumbered-take turn.first turn.count (drop turn.first (steps_of w turn.change))
    (subst (λ n. AreNumbered n (drop turn.first (steps_of w turn.change))) at (AreNumbered-drop 0 turn.first (steps_of w turn.change) (steps_of-numbered w turn.change)))

pub begun_numbered : (w : Work) (turn : Turn) → AreNumbered turn.first (begun_steps w turn)
begun_numbered w turn = AreNumbered-begun turn.first (steps_of_turn w turn) (turn_numbered w turn)

pub begun_of_change : (w : Work) (turn : Turn) (s : Step) → Contains (begun_steps w turn) s → Contains (steps_of w turn.change) s
begun_of_change w turn s h =
    drop_in turn.first (steps_of w turn.change) s (take_in turn.count (drop turn.first (steps_of w turn.change)) s (begun_in (steps_of_turn w turn) s h))

-- ---- numbers

pub numbered_in : (n : ℕ) (steps : List Step) (s : Step) → AreNumbered n steps → Contains steps s → (n ≤ s.number) × (s.number < n + length steps)
numbered_in n [] s h there = absurd (not_in_none s there)
numbered_in n (x ∷ steps) s h there = ⊎_elim
    (λ (is : x ≡ s). let first = h.0 in let same : x.number ≡ s.number = ap (λ (y : Step). y.number) is in (omega arith, omega arith))
    (λ (later : Contains steps s). let rest = numbered_in (n + 1) steps s h.1 later in let low = rest.0 in let high = rest.1 in (omega arith, omega arith))
    (in_cases x steps s there)

pub length-begun : (steps : List Step) → length (begun steps) ≤ length steps
length-begun [] = omega arith
length-begun (s ∷ steps) =
    let rest : length (begun steps) ≤ length steps = length-begun steps in
    elim (goes_on s) as (λ b. suc (length (cond b (begun steps) [])) ≤ suc (length steps)) [ true ↦ omega arith | false ↦ omega arith ]

pub begun_within : (w : Work) (turn : Turn) (s : Step) → Contains (begun_steps w turn) s → (turn.first ≤ s.number) × (s.number < turn.first + turn.count)
begun_within w turn s h =
    let within = numbered_in turn.first (begun_steps w turn) s (begun_numbered w turn) h in
    let low = within.0 in let high = within.1 in
    let few = length-begun (steps_of_turn w turn) in
    let less = length-take turn.count (drop turn.first (steps_of w turn.change)) in
    (omega arith, omega arith)

-- each step of a change names it
changes_of : (work : Work) (c n : ℕ) (kinds : List StepKind) → All (λ s. s.change ≡ c) (map (λ p. step_of work c p.0 p.1) (enumerate_from n kinds))
changes_of work c n [] = All-nil _
changes_of work c n (kind ∷ kinds) = All-cons (λ (s : Step). s.change ≡ c) (step_of work c n kind) _ refl (changes_of work c (n + 1) kinds)

pub all_at : {X : Type 0} (P : X → Type 0) (xs : List X) (x : X) → All P xs → Contains xs x → P x
all_at P [] x h there = absurd (not_in_none x there)
all_at P (y ∷ xs) x h there = ⊎_elim
    (λ (is : y ≡ x). subst P is (All-head P y xs h))
    (λ (later : Contains xs x). all_at P xs x (All-tail P y xs h) later)
    (in_cases y xs x there)

pub step_names_change : (w : Work) (c : ℕ) (s : Step) → Contains (steps_of w c) s → s.change ≡ c
step_names_change w c s h = all_at (λ (x : Step). x.change ≡ c) (steps_of w c) s (changes_of w c 0 (kinds_applied w.plan w.script c)) h

-- a step stands at its number
at_number : (n : ℕ) (steps : List Step) (s : Step) (k : ℕ) → AreNumbered n steps → Contains steps s → s.number ≡ n + k → slice_get steps k ≡ Some s
at_number n [] s k h there is = absurd (not_in_none s there)
at_number n (x ∷ steps) s zero h there is = ⊎_elim
    (λ (same : x ≡ s). ap (λ y. let answer : Option Step = Some y in answer) same)
    (λ (later : Contains steps s). let low = (numbered_in (n + 1) steps s h.1 later).0 in absurd (omega arith))
    (in_cases x steps s there)
at_number n (x ∷ steps) s (suc k) h there is = ⊎_elim
    (λ (same : x ≡ s). let first = h.0 in let number : x.number ≡ s.number = ap (λ (y : Step). y.number) same in absurd (omega arith))
    (λ (later : Contains steps s). at_number (n + 1) steps s k h.1 later (omega arith))
    (in_cases x steps s there)

pub step_at_number : (w : Work) (c : ℕ) (s : Step) → Contains (steps_of w c) s → slice_get (steps_of w c) s.number ≡ Some s
step_at_number w c s h = at_number 0 (steps_of w c) s s.number (steps_of-numbered w c) h (omega arith)

pub length-steps_of : (w : Work) (c : ℕ) → length (steps_of w c) ≡ length (kinds_applied w.plan w.script c)
length-steps_of w c =
    length-map (enumerate_from 0 (kinds_applied w.plan w.script c)) (λ p. step_of w c p.0 p.1) ∙ length-enumerate_from 0 (kinds_applied w.plan w.script c)

-- ---- which steps begin

first_of : (n : ℕ) (steps : List Step) → AreNumbered n steps → 0 < length steps → (s : Step) × Contains (begun steps) s × (s.number ≡ n)
first_of n [] h some = absurd (omega arith)
first_of n (s ∷ steps) h some = (s, in_head s (cond (goes_on s) (begun steps) []), h.0)

-- the first step of a turn begins
pub first_begins : (w : Work) (turn : Turn) → 0 < turn.count → turn.first < length (kinds_applied w.plan w.script turn.change)
    → (s : Step) × Contains (begun_steps w turn) s × (s.number ≡ turn.first)
first_begins w turn some known =
    let all = length-steps_of w turn.change in
    let left = length-drop turn.first (steps_of w turn.change) in
    let less = length-take turn.count (drop turn.first (steps_of w turn.change)) in
    first_of turn.first (steps_of_turn w turn) (turn_numbered w turn) (omega arith)

-- a change of two steps
pub record HasTwo (w : Work) (c : ℕ) : Type 0 where
  pub first : StepKind
  pub second : StepKind
  pub are : kinds_applied w.plan w.script c ≡ first ∷ second ∷ []

two_of : (kinds : List StepKind) → 1 < length kinds → length kinds ≤ 2 → (first : StepKind) × (second : StepKind) × (kinds ≡ first ∷ second ∷ [])
two_of [] more few = absurd (omega arith)
two_of (first ∷ []) more few = absurd (omega arith)
two_of (first ∷ second ∷ []) more few = (first, second, refl)
two_of (first ∷ second ∷ third ∷ kinds) more few = absurd (omega arith)

pub has_two : (w : Work) (c : ℕ) → 1 < length (kinds_applied w.plan w.script c) → length (kinds_applied w.plan w.script c) ≤ 2 → HasTwo w c
has_two w c more few = let two = two_of (kinds_applied w.plan w.script c) more few in record { first = two.0; second = two.1; are = two.2 }

-- its second step begins where its first goes on
pub two_begin : (w : Work) (c : ℕ) (two : HasTwo w c) → begun_steps w (whole w c)
    ≡ step_of w c 0 two.first ∷ cond (goes_on (step_of w c 0 two.first)) (begun (step_of w c 1 two.second ∷ [])) []
two_begin w c two = ap (λ kinds. begun (take (length kinds) (map (λ p. step_of w c p.0 p.1) (enumerate_from 0 kinds)))) two.are

pub second_begins : (w : Work) (c : ℕ) (two : HasTwo w c) → goes_on (step_of w c 0 two.first) ≡ true → Contains (begun_steps w (whole w c)) (step_of w c 1 two.second)
second_begins w c two on =
    let first = step_of w c 0 two.first in let second = step_of w c 1 two.second in
    subst (λ l. Contains l second) (sym (two_begin w c two ∙ ap (λ t. first ∷ cond t (begun (second ∷ [])) []) on))
    (in_tail first (begun (second ∷ [])) second (in_head second (cond (goes_on second) [] [])))

pub second_after_first : (w : Work) (c : ℕ) (two : HasTwo w c) (s : Step) → Contains (begun_steps w (whole w c)) s → s.number ≡ 1
    → Contains (begun_steps w (whole w c)) (step_of w c 0 two.first) × (goes_on (step_of w c 0 two.first) ≡ true)
second_after_first w c two s there is =
    let first = step_of w c 0 two.first in let second = step_of w c 1 two.second in
    let rest = cond (goes_on first) (begun (second ∷ [])) [] in (
      subst (λ l. Contains l first) (sym (two_begin w c two)) (in_head first rest),
      ⊎_elim
          (λ (same : first ≡ s). let number : 0 ≡ s.number = ap (λ (y : Step). y.number) same in absurd (omega arith))
          (λ (later : Contains rest s). ⊎_elim
          (λ (yes : goes_on first ≡ true). yes)
          (λ (no : goes_on first ≡ false). absurd (not_in_none s (subst (λ t. Contains (cond t (begun (second ∷ [])) []) s) no later)))
          (cases_Bool (goes_on first)))
          (in_cases first rest s (subst (λ l. Contains l s) (two_begin w c two) there)),
    )
