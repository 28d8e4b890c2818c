-- Each change has two shares. The started turns and the others have two shares of each change
-- together.
use Rattle.std.proofs.Common.{◌≡◌, ℕ, zero, suc, ◌+◌, ◌*◌, ◌≤◌, Bool, true, false, ◌||◌, List, [], ◌∷◌, ◌++◌, Option, Some, None, cond, length, sum_by, refl, ap, ◌∙◌, ⊎_elim, arith}
use Rattle.std.specs.List.{Contains, flat_map, range_with_len}
use Rattle.std.proofs.lemmas.List.Sums.{sum_by-cons}
use Rattle.apply_events.specs.declared.lanes.turn.StartedTurn.{StartedTurn}
use Rattle.apply_events.specs.declared.lanes.turn.Turn.{Turn}
use Rattle.apply_events.specs.Step.{Work}
use Rattle.apply_events.specs.Waits.Schedule.{Ready, first_ready, free_after, is_same_turn, is_started, scheduled, started_in, with_next}
use Rattle.apply_events.specs.Waits.Turn.{single, turns, turns_of, whole}
use Rattle.apply_events.proofs.Waits.Members.{in_cases, not_in_none}
use Rattle.apply_events.proofs.Waits.Once.{is_split}
use Rattle.apply_events.proofs.Waits.StartedTurns.{EachAfter, each_scheduled, is_fit, same_itself}

-- a change that is two turns gives each of them one
abbrev pub share : Work → Turn → ℕ
share w turn = cond (is_split w turn.change) 1 2

abbrev pub shares : Work → List StartedTurn → ℕ
shares w started = sum_by (λ (one : StartedTurn). share w one.turn) started

-- the shares of the turns that were not started
abbrev pub open_shares : Work → List StartedTurn → List Turn → ℕ
open_shares w started [] = 0
open_shares w started (turn ∷ ts) = cond (is_started started turn) 0 (share w turn) + open_shares w started ts

missing_if : (t u : Bool) (k : ℕ) → cond (t || u) 0 k ≤ cond u 0 k
missing_if true true k = omega arith
missing_if true false k = omega arith
missing_if false u k = omega arith

no_more_open : (w : Work) (one : StartedTurn) (started : List StartedTurn) (ts : List Turn) → open_shares w (one ∷ started) ts ≤ open_shares w started ts
no_more_open w one started [] = omega arith
no_more_open w one started (turn ∷ ts) =
    let here = missing_if (is_same_turn one.turn turn) (is_started started turn) (share w turn) in let rest = no_more_open w one started ts in omega arith

-- a turn that was not started has its share among them
pub one_more_started : (w : Work) (one : StartedTurn) (started : List StartedTurn) (ts : List Turn) → Contains ts one.turn → is_started started one.turn ≡ false
    → open_shares w (one ∷ started) ts + share w one.turn ≤ open_shares w started ts
one_more_started w one started [] there new = absurd (not_in_none one.turn there)
one_more_started w one started (turn ∷ ts) there new = ⊎_elim
    (λ (is : turn ≡ one.turn).
    let same : is_same_turn one.turn turn ≡ true = ap (is_same_turn one.turn) is ∙ same_itself one.turn in
    let before : cond (is_started started turn) 0 (share w turn) ≡ share w one.turn = ap (λ t. cond (is_started started t) 0 (share w t)) is ∙ ap (λ b. cond b 0 (share w one.turn)) new in
    let after : cond (is_same_turn one.turn turn || is_started started turn) 0 (share w turn) ≡ 0 = ap (λ b. cond (b || is_started started turn) 0 (share w turn)) same in
    let rest = no_more_open w one started ts in omega arith)
    (λ (later : Contains ts one.turn).
    let here = missing_if (is_same_turn one.turn turn) (is_started started turn) (share w turn) in let rest = one_more_started w one started ts later new in omega arith)
    (in_cases turn ts one.turn there)

-- ---- two for each change

open_append : (w : Work) (ts us : List Turn) → open_shares w [] (ts ++ us) ≡ open_shares w [] ts + open_shares w [] us
open_append w [] us = omega arith
open_append w (turn ∷ ts) us = let rest = open_append w ts us in omega arith

two_of_change : (w : Work) (c : ℕ) (split : Bool) → is_split w c ≡ split → open_shares w [] (cond split (single c 0 ∷ single c 1 ∷ []) (whole w c ∷ [])) ≡ 2
two_of_change w c true is = let first : share w (single c 0) ≡ 1 = ap (λ (t : Bool). cond t 1 2) is in let second : share w (single c 1) ≡ 1 = ap (λ (t : Bool). cond t 1 2) is in omega arith
two_of_change w c false is = let all : share w (whole w c) ≡ 2 = ap (λ (t : Bool). cond t 1 2) is in omega arith

two_of_each : (w : Work) (a n : ℕ) → open_shares w [] (flat_map (turns_of w) (range_with_len a n)) ≡ 2 * n
two_of_each w a zero = refl
two_of_each w a (suc n) =
    let both = open_append w (turns_of w a) (flat_map (turns_of w) (range_with_len (a + 1) n)) in
    let here = two_of_change w a (is_split w a) refl in
    let rest = two_of_each w (a + 1) n in omega arith

-- the shares of the started turns, and of the others
abbrev pub AreTwoEach : Work → List StartedTurn → Type 0
AreTwoEach w started = shares w started + open_shares w started (turns w) ≤ 2 * length w.plan.changes

module _ (w : Work) (n : ℕ) where
  two_next : (started : List StartedTurn) (answer : Option Ready) → first_ready w started (turns w) ≡ answer → AreTwoEach w started → AreTwoEach w (with_next w n started answer)
  two_next started None is two = two
  two_next started (Some ready) is two =
      let fit = is_fit w started (turns w) ready is in
      let one = started_in (free_after w n started) ready in
      let sum : shares w (one ∷ started) ≡ share w ready.turn + shares w started = sum_by-cons (λ (x : StartedTurn). share w x.turn) one started in
      let less = one_more_started w one started (turns w) fit.is_known fit.is_new in omega arith

  pub two_each : (count : ℕ) → AreTwoEach w (scheduled w n count)
  two_each zero = let all = two_of_each w 0 (length w.plan.changes) in (let none : shares w [] ≡ 0 = refl in omega arith)
  two_each (suc count) = two_next (scheduled w n count) (first_ready w (scheduled w n count) (turns w)) refl (two_each count)

  pub two_after : (count : ℕ) → EachAfter (λ before one. AreTwoEach w before) (scheduled w n count)
  two_after = each_scheduled w n (λ before one. AreTwoEach w before) (λ count ready answer. two_each count)
