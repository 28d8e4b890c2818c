-- The lane that is free first: the result of a search through all lanes.
use Rattle.std.proofs.Common.{◌≡◌, ℕ, zero, suc, ◌+◌, ◌<◌, ◌≤◌, Bool, true, false, ◌&&◌, List, [], ◌∷◌, cond, get_or, length, refl, sym, ap, ◌∙◌, ⊎_elim, arith}
use Rattle.std.specs.Prelude.{not}
use Rattle.std.specs.List.{list_all}
use Rattle.std.proofs.lemmas.Bool.{cases_Bool, cases_lt, true≢false}
use Rattle.stream_record_waits.specs.declared.lane_time.LaneTime.{LaneTime}
use Rattle.stream_record_waits.specs.LaneTime.{IsNoLater, first_earliest, first_lane_time, is_earlier}
use Rattle.stream_record_waits.proofs.Moments.{emits, no_later_both, no_later_on, not_before_itself}

abbrev at_lane : List LaneTime → ℕ → LaneTime
at_lane ms k = get_or ms k first_lane_time

-- of the first i lanes none is free before lane j, and those before j are free later
pub record IsFirstEarliest (ms : List LaneTime) (i j : ℕ) : Type 0 where
  pub below : j < i
  pub least : (k : ℕ) → k < i → is_earlier (get_or ms k first_lane_time) (get_or ms j first_lane_time) ≡ false
  pub first : (k : ℕ) → k < j → is_earlier (get_or ms j first_lane_time) (get_or ms k first_lane_time) ≡ true

pub earlier_is : (a b : LaneTime) → is_earlier a b ≡ true → IsNoLater a b
earlier_is a b its = ⊎_elim
    (λ (c : (is_earlier a b ≡ true) × IsNoLater a b). c.1)
    (λ (c : (is_earlier a b ≡ false) × IsNoLater b a). absurd (true≢false (sym its ∙ c.0)))
    (emits a b)

pub no_earlier_is : (a b : LaneTime) → is_earlier a b ≡ false → IsNoLater b a
no_earlier_is a b its = ⊎_elim
    (λ (c : (is_earlier a b ≡ true) × IsNoLater a b). absurd (true≢false (sym c.0 ∙ its)))
    (λ (c : (is_earlier a b ≡ false) × IsNoLater b a). c.1)
    (emits a b)

-- what is earlier than one is earlier than all that are no earlier than that one
earlier_on : (a b c : LaneTime) → is_earlier a b ≡ true → is_earlier c b ≡ false → is_earlier a c ≡ true
earlier_on a b c its no_earlier = ⊎_elim
    (λ (yes : is_earlier a c ≡ true). yes)
    (λ (late : is_earlier a c ≡ false).
    -- c is no later than a, a no later than b, b no later than c: so that all are the same
    let ca = no_earlier_is a c late in let bc = no_earlier_is c b no_earlier in
    let same : a ≡ b = no_later_both a b (earlier_is a b its) (no_later_on b c a bc ca) in
    absurd (true≢false (sym its ∙ ap (is_earlier a) (sym same) ∙ not_before_itself a)))
    (cases_Bool (is_earlier a c))

not_both : (a b : LaneTime) → is_earlier a b ≡ true → is_earlier b a ≡ false
not_both a b its = ⊎_elim
    (λ (back : is_earlier b a ≡ true).
    let same : a ≡ b = no_later_both a b (earlier_is a b its) (earlier_is b a back) in
    absurd (true≢false (sym its ∙ ap (is_earlier a) (sym same) ∙ not_before_itself a)))
    (λ (no_earlier : is_earlier b a ≡ false). no_earlier)
    (cases_Bool (is_earlier b a))

pub earliest_start : (ms : List LaneTime) → IsFirstEarliest ms 1 0
earliest_start ms = record {
  below = omega arith;
  least = λ k lt. let same : k ≡ 0 = omega arith in ap (λ x. is_earlier (get_or ms x first_lane_time) (get_or ms 0 first_lane_time)) same ∙ not_before_itself (get_or ms 0 first_lane_time);
  first = λ k lt. absurd (omega arith);
}

pub earliest_keeps : (ms : List LaneTime) (i j : ℕ) → IsFirstEarliest ms i j → is_earlier (get_or ms i first_lane_time) (get_or ms j first_lane_time) ≡ false → IsFirstEarliest ms (i + 1) j
earliest_keeps ms i j h no_earlier =
    let low = h.below in record {
      below = omega arith;
      least = λ k lt. ⊎_elim
          (λ (less : k < i). h.least k less)
          (λ (ge : i ≤ k). let same : k ≡ i = omega arith in ap (λ x. is_earlier (get_or ms x first_lane_time) (get_or ms j first_lane_time)) same ∙ no_earlier)
          (cases_lt k i);
      first = h.first;
    }

pub earliest_takes : (ms : List LaneTime) (i j : ℕ) → IsFirstEarliest ms i j → is_earlier (get_or ms i first_lane_time) (get_or ms j first_lane_time) ≡ true → IsFirstEarliest ms (i + 1) i
earliest_takes ms i j h earlier =
    let first : (k : ℕ) → k < i → is_earlier (get_or ms i first_lane_time) (get_or ms k first_lane_time) ≡ true =
    λ k lt. earlier_on (get_or ms i first_lane_time) (get_or ms j first_lane_time) (get_or ms k first_lane_time) earlier (h.least k lt) in record {
      below = omega arith;
      least = λ k lt. ⊎_elim
          (λ (less : k < i). not_both (get_or ms i first_lane_time) (get_or ms k first_lane_time) (first k less))
          (λ (ge : i ≤ k). let same : k ≡ i = omega arith in ap (λ x. is_earlier (get_or ms x first_lane_time) (get_or ms i first_lane_time)) same ∙ not_before_itself (get_or ms i first_lane_time))
          (cases_lt k i);
      first = first;
    }

all_no_earlier : (m : LaneTime) (ms : List LaneTime) → ((k : ℕ) → k < length ms → is_earlier (get_or ms k first_lane_time) m ≡ false) → list_all (λ other. not (is_earlier other m)) ms ≡ true
all_no_earlier m [] h = refl
all_no_earlier m (x ∷ ms) h =
    ap (λ t. not t && list_all (λ other. not (is_earlier other m)) ms) (h 0 (omega arith)) ∙ all_no_earlier m ms (λ k lt. h (suc k) (omega arith))

one_is_earlier : (m : LaneTime) (ms : List LaneTime) (k : ℕ) → k < length ms → is_earlier (get_or ms k first_lane_time) m ≡ true → list_all (λ other. not (is_earlier other m)) ms ≡ false
one_is_earlier m [] k lt its = absurd (omega arith)
one_is_earlier m (x ∷ ms) zero lt its = ap (λ t. not t && list_all (λ other. not (is_earlier other m)) ms) its
one_is_earlier m (x ∷ ms) (suc k) lt its =
    ap (λ t. not (is_earlier x m) && t) (one_is_earlier m ms k (omega arith) its) ∙ both_no (not (is_earlier x m))
  where
    both_no : (t : Bool) → (t && false) ≡ false
    both_no true = refl
    both_no false = refl

place_is : (ms : List LaneTime) (j : ℕ) → j < length ms → ((k : ℕ) → k < length ms → is_earlier (get_or ms k first_lane_time) (get_or ms j first_lane_time) ≡ false)
    → ((k : ℕ) → k < j → is_earlier (get_or ms j first_lane_time) (get_or ms k first_lane_time) ≡ true) → first_earliest ms ≡ j
place_is [] j lt least first = absurd (omega arith)
place_is (m ∷ ms) zero lt least first =
    ap (λ t. cond t 0 (first_earliest ms + 1)) (all_no_earlier m ms (λ k less. least (suc k) (omega arith)))
place_is (m ∷ ms) (suc j) lt least first =
    let rest = place_is ms j (omega arith) (λ k less. least (suc k) (omega arith)) (λ k less. first (suc k) (omega arith)) in
    ap (λ t. cond t 0 (first_earliest ms + 1)) (one_is_earlier m ms j (omega arith) (first 0 (omega arith))) ∙ omega arith

pub earliest_is : (ms : List LaneTime) (i j : ℕ) → IsFirstEarliest ms i j → i ≡ length ms → j ≡ first_earliest ms
earliest_is ms i j h all =
    let low = h.below in sym (place_is ms j (omega arith) (λ k lt. h.least k (omega arith)) h.first)
