-- Which told objects are lost, as the list of begins is read.
use Rattle.std.proofs.Common.{◌≡◌, ◌≢◌, ℕ, zero, suc, ◌+◌, ◌<◌, Bool, true, false, ◌||◌, List, [], ◌∷◌, Some, get_or, length, not, replicate, reverse, set, take, refl, sym, ap, ◌∙◌, ⊎_elim, arith, eqb, eq-eqb, ne_eqb, ◌&&◌}
use Rattle.std.specs.Prelude.{slice_get}
use Rattle.std.specs.Option.{option_map_or}
use Rattle.std.proofs.lemmas.Bool.{cases_eq}
use Rattle.std.proofs.lemmas.List.{get_or-set_other, get_or-set_same, reverse-append}
use Rattle.std.proofs.lemmas.List.Folds.{list_any-append}
use Rattle.std.proofs.Math.Seq.{take-suc}
use Rattle.apply_events.specs.declared.lanes.turn.StartedTurn.{StartedTurn}
use Rattle.apply_events.specs.Waits.Schedule.{is_same_turn, is_started}
use Rattle.apply_events.specs.Waits.Turn.{single}
use Rattle.apply_planning.specs.declared.told.Told.{Told}
use Rattle.apply_planning.specs.PlanningWork.{is_error}
use Rattle.apply_planning.specs.Schedule.{fails_at, is_lost_of}

or_true : (t : Bool) → (t || true) ≡ true
or_true true = refl
or_true false = refl

or_false : (t : Bool) → (t || false) ≡ t
or_false true = refl
or_false false = refl

or_comm : (t u : Bool) → (t || u) ≡ (u || t)
or_comm true true = refl
or_comm true false = refl
or_comm false true = refl
or_comm false false = refl

all_true : (n k : ℕ) → get_or (replicate n true) k true ≡ true
all_true zero k = refl
all_true (suc n) zero = refl
all_true (suc n) (suc k) = all_true n k

-- at first each is
pub none_begun : (told : List Told) (lost : List Bool) → lost ≡ replicate (length told) true → (k : ℕ) → get_or lost k true ≡ is_lost_of told [] k
none_begun told lost is k = ap (λ l. get_or l k true) is ∙ all_true (length told) k ∙ sym (or_true (fails_at told k))

module _ (told : List Told) (started : List StartedTurn) (place : ℕ) (one : StartedTurn) (lt : place < length started) (is : get_or started place one ≡ one)
    (first : one.turn.first ≡ 0) (object : Told) (read : slice_get told one.turn.change ≡ Some object) (lost : List Bool) (fits : one.turn.change < length lost) where
  more : (k : ℕ) → is_started (take (place + 1) started) (single k 0) ≡ (is_started (take place started) (single k 0) || is_same_turn one.turn (single k 0))
  more k =
      let next : place + 1 ≡ suc place = omega arith in
      ap (λ j. is_started (take j started) (single k 0)) next
      ∙ ap (λ l. is_started l (single k 0)) (take-suc started place one lt)
      ∙ list_any-append (λ (x : StartedTurn). is_same_turn x.turn (single k 0)) (take place started) (get_or started place one ∷ [])
      ∙ ap (λ (x : StartedTurn). is_started (take place started) (single k 0) || (is_same_turn x.turn (single k 0) || false)) is
      ∙ ap (λ t. is_started (take place started) (single k 0) || t) (or_false (is_same_turn one.turn (single k 0)))

  pub one_begun : ((k : ℕ) → k < length told → get_or lost k true ≡ is_lost_of told (take place started) k)
      → (k : ℕ) → k < length told → get_or (set lost one.turn.change (is_error object.failure)) k true ≡ is_lost_of told (take (place + 1) started) k
  one_begun before k known = ⊎_elim
      (λ (same : one.turn.change ≡ k).
      let mine : is_same_turn one.turn (single k 0) ≡ true = ap (λ t. t && eqb one.turn.first 0) (eq-eqb one.turn.change k same) ∙ eq-eqb one.turn.first 0 first in
      ap (λ j. get_or (set lost one.turn.change (is_error object.failure)) j true) (sym same)
      ∙ get_or-set_same lost one.turn.change (is_error object.failure) true fits
      ∙ sym (or_false (is_error object.failure))
      ∙ ap (λ t. t || false) (sym (ap (λ j. fails_at told j) (sym same) ∙ ap (λ o. option_map_or (λ (x : Told). is_error x.failure) o false) read))
      ∙ ap (λ t. fails_at told k || not t) (sym (more k ∙ ap (λ t. is_started (take place started) (single k 0) || t) mine ∙ or_true (is_started (take place started) (single k 0)))))
      (λ (ne : one.turn.change ≢ k).
      let other : is_same_turn one.turn (single k 0) ≡ false = ap (λ t. t && eqb one.turn.first 0) (ne_eqb one.turn.change k ne) in
      get_or-set_other lost one.turn.change k (is_error object.failure) true (λ same. ne (sym same))
      ∙ before k known
      ∙ ap (λ t. fails_at told k || not t) (sym (more k ∙ ap (λ t. is_started (take place started) (single k 0) || t) other ∙ or_false (is_started (take place started) (single k 0)))))
      (cases_eq one.turn.change k)

-- in the order of the begins or the other way round
pub either_order : (told : List Told) (started : List StartedTurn) (k : ℕ) → is_lost_of told started k ≡ is_lost_of told (reverse started) k
either_order told started k = ap (λ t. fails_at told k || not t) (turned started)
  where
    turned : (all : List StartedTurn) → is_started all (single k 0) ≡ is_started (reverse all) (single k 0)
    turned [] = refl
    turned (one ∷ all) =
        let p = λ (x : StartedTurn). is_same_turn x.turn (single k 0) in
        or_comm (p one) (is_started all (single k 0))
        ∙ ap (λ t. t || p one) (turned all)
        ∙ ap (λ t. is_started (reverse all) (single k 0) || t) (sym (or_false (p one)))
        ∙ sym (list_any-append p (reverse all) (one ∷ []))
        ∙ sym (ap (λ l. is_started l (single k 0)) (reverse-append (one ∷ []) all))
