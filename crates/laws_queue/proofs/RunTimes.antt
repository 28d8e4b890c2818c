-- Times of round 0 in the schedule of a run.
use Rattle.std.proofs.Common.{◌≡◌, ◌∙◌, ◌+◌, ◌<◌, ◌≤◌, ℕ, zero, suc, List, [], ◌∷◌, Bool, true, false, ◌&&◌, ◌||◌, cond, get_or, map, replicate, refl, sym, ap, arith, eqb, ltb, leb, lt-ltb, le-ltb, ⊎_elim}
use Rattle.std.specs.Prelude.{not}
use Rattle.std.specs.List.{list_all}
use Rattle.std.proofs.lemmas.Bool.{cases_eq, cases_lt, le-leb, lt-leb}
use Rattle.apply_events.specs.Lanes.Dealing.{first_least}
use Rattle.apply_events.specs.declared.lanes.lane_time.LaneTime.{LaneTime}
use Rattle.apply_events.specs.Waits.LaneTime.{first_lane_time, is_earlier, later_by, later_of}
use Rattle.apply_events.specs.Waits.Schedule.{first_earliest}
use Rattle.apply_events.proofs.Waits.Moments.{later_by_none, later_by_some}

-- no time is earlier than the first one
pub never_earlier : (m : LaneTime) → is_earlier m first_lane_time ≡ false
never_earlier m =
    ap (λ t. t || (eqb m.second 0 && ltb m.round 0)) (le-ltb m.second 0 (omega arith))
    ∙ ap (λ t. eqb m.second 0 && t) (le-ltb m.round 0 (omega arith)) ∙ both_no (eqb m.second 0)
  where
    both_no : (t : Bool) → (t && false) ≡ false
    both_no true = refl
    both_no false = refl

-- the first round of a second
abbrev pub early : ℕ → LaneTime
early second = record { second = second; round = 0 }

pub early_earlier : (x y : ℕ) → is_earlier (early x) (early y) ≡ ltb x y
early_earlier x y = no_round (ltb x y) (eqb x y)
  where
    no_round : (t u : Bool) → (t || (u && ltb 0 0)) ≡ t
    no_round true u = refl
    no_round false true = refl
    no_round false false = refl

early_later : (x y : ℕ) → not (is_earlier (early y) (early x)) ≡ leb x y
early_later x y = ap not (early_earlier y x) ∙ ⊎_elim
    (λ (lt : y < x). ap not (lt-ltb y x lt) ∙ sym (lt-leb x y lt))
    (λ (ge : x ≤ y). ap not (le-ltb y x ge) ∙ sym (le-leb x y ge))
    (cases_lt y x)

all_later : (x : ℕ) (xs : List ℕ) → list_all (λ (other : LaneTime). not (is_earlier other (early x))) (map early xs) ≡ list_all (leb x) xs
all_later x [] = refl
all_later x (y ∷ ys) =
    ap (λ t. t && list_all (λ (other : LaneTime). not (is_earlier other (early x))) (map early ys)) (early_later x y)
    ∙ ap (λ t. leb x y && t) (all_later x ys)

pub first_same : (xs : List ℕ) → first_earliest (map early xs) ≡ first_least xs
first_same [] = refl
first_same (x ∷ xs) =
    ap (λ t. cond t 0 (first_earliest (map early xs) + 1)) (all_later x xs) ∙ ap (λ k. cond (list_all (leb x) xs) 0 (k + 1)) (first_same xs)

pub early_at : (xs : List ℕ) (k : ℕ) → get_or (map early xs) k first_lane_time ≡ early (get_or xs k 0)
early_at [] k = refl
early_at (x ∷ xs) zero = refl
early_at (x ∷ xs) (suc k) = early_at xs k

pub early_free : (n : ℕ) → replicate n first_lane_time ≡ map early (replicate n 0)
early_free zero = refl
early_free (suc n) = ap (λ l. first_lane_time ∷ l) (early_free n)

pub not_before_first : (second : ℕ) → later_of first_lane_time (early second) ≡ early second
not_before_first zero = refl
not_before_first (suc second) = ap (λ t. cond (t || (eqb 0 (suc second) && ltb 0 0)) (early (suc second)) first_lane_time) (lt-ltb 0 (suc second) (omega arith))

pub early_by : (second seconds : ℕ) → later_by seconds (early second) ≡ early (second + seconds)
early_by second seconds = ⊎_elim
    (λ (is : seconds ≡ 0). later_by_none (early second) seconds is ∙ ap early (let same : second ≡ second + seconds = omega arith in same))
    (λ (ne : seconds ≡ 0 → ⊥). later_by_some (early second) seconds ne)
    (cases_eq seconds 0)
