-- How many told objects of a name are not done, as one more is done.
use Rattle.std.proofs.Common.{◌≡◌, ◌≢◌, ℕ, zero, suc, ◌<◌, ◌≤◌, true, false, List, Option, Some, None, cond, refl, sym, ap, ◌∙◌, ⊎_elim, arith, eqb, eq-eqb, ne_eqb}
use Rattle.std.proofs.lemmas.Bool.{cases_Bool, cases_eq}
use Rattle.apply_model.specs.declared.script.wait.Wait.{Wait}
use Rattle.apply_events.specs.declared.lanes.lane_time.LaneTime.{LaneTime}
use Rattle.apply_events.specs.Waits.Queue.{is_same_wait, missing_if, with_step_done}
use Rattle.apply_events.proofs.Waits.Followers.{is_same, same_wait}
use Rattle.apply_planning.specs.Names.{name_wait}
use Rattle.apply_planning.specs.PendingNames.{owner_at, pending_count, pending_if}

-- ---- counts

pub of_name : (owners : List ℕ) (done : Wait → Option LaneTime) (k c : ℕ) → owner_at owners c ≡ k → pending_if owners done k c ≡ missing_if (done (name_wait c))
of_name owners done k c is = ap (λ t. cond t (missing_if (done (name_wait c))) 0) (eq-eqb (owner_at owners c) k is)

pub of_other : (owners : List ℕ) (done : Wait → Option LaneTime) (k c : ℕ) → owner_at owners c ≢ k → pending_if owners done k c ≡ 0
of_other owners done k c ne = ap (λ t. cond t (missing_if (done (name_wait c))) 0) (ne_eqb (owner_at owners c) k ne)

-- where none is counted, each object of the name is done
pub none_pending : (owners : List ℕ) (done : Wait → Option LaneTime) (k count c : ℕ) → pending_count owners done k count ≡ 0 → c < count → owner_at owners c ≡ k
    → (m : LaneTime) × (done (name_wait c) ≡ Some m)
none_pending owners done k zero c none lt is = absurd (omega arith)
none_pending owners done k (suc count) c none lt is = ⊎_elim
    (λ (same : c ≡ count).
    let here : pending_if owners done k c ≡ 0 = ap (pending_if owners done k) same ∙ omega arith in
    by_answer (done (name_wait c)) (sym (of_name owners done k c is) ∙ here))
    (λ (ne : c ≢ count). none_pending owners done k count c (omega arith) (omega arith) is)
    (cases_eq c count)
  where
    by_answer : (answer : Option LaneTime) → missing_if answer ≡ 0 → (m : LaneTime) × (answer ≡ Some m)
    by_answer None is = absurd (omega arith)
    by_answer (Some m) is = (m, refl)

pub all_done : (owners : List ℕ) (done : Wait → Option LaneTime) (k count : ℕ) → ((c : ℕ) → c < count → owner_at owners c ≡ k → (m : LaneTime) × (done (name_wait c) ≡ Some m))
    → pending_count owners done k count ≡ 0
all_done owners done k zero each = refl
all_done owners done k (suc count) each =
    let rest = all_done owners done k count (λ c lt is. each c (omega arith) is) in
    let here : pending_if owners done k count ≡ 0 = ⊎_elim
    (λ (is : owner_at owners count ≡ k). of_name owners done k count is ∙ ap missing_if (each count (omega arith) is).1)
    (λ (ne : owner_at owners count ≢ k). of_other owners done k count ne)
    (cases_eq (owner_at owners count) k) in omega arith

-- no more than there are
pub few_pending : (owners : List ℕ) (done : Wait → Option LaneTime) (k count : ℕ) → pending_count owners done k count ≤ count
few_pending owners done k zero = omega arith
few_pending owners done k (suc count) =
    let rest = few_pending owners done k count in
    let here : pending_if owners done k count ≤ 1 = ⊎_elim
    (λ (is : owner_at owners count ≡ k). let one = of_name owners done k count is in let few = at_most (done (name_wait count)) in omega arith)
    (λ (ne : owner_at owners count ≢ k). let none = of_other owners done k count ne in omega arith)
    (cases_eq (owner_at owners count) k) in omega arith
  where
    at_most : (answer : Option LaneTime) → missing_if answer ≤ 1
    at_most None = omega arith
    at_most (Some m) = omega arith

-- ---- one more is done

pub with_itself : (done : Wait → Option LaneTime) (number : ℕ) (at : LaneTime) → with_step_done done (name_wait number) at (name_wait number) ≡ Some at
with_itself done number at = ap (λ t. cond t (Some at) (done (name_wait number))) (is_same (name_wait number) (name_wait number) refl refl)

pub with_other : (done : Wait → Option LaneTime) (number c : ℕ) (at : LaneTime) → c ≢ number → with_step_done done (name_wait number) at (name_wait c) ≡ done (name_wait c)
with_other done number c at ne = ap (λ t. cond t (Some at) (done (name_wait c))) (⊎_elim
    (λ (same : is_same_wait (name_wait number) (name_wait c) ≡ true). absurd (ne (sym (ap (λ (w : Wait). w.change) (same_wait (name_wait number) (name_wait c) same)))))
    (λ (differ : is_same_wait (name_wait number) (name_wait c) ≡ false). differ)
    (cases_Bool (is_same_wait (name_wait number) (name_wait c))))

module _ (owners : List ℕ) (done : Wait → Option LaneTime) (number : ℕ) (at : LaneTime) (new : done (name_wait number) ≡ None) where
  abbrev now : Wait → Option LaneTime
  now = with_step_done done (name_wait number) at

  same_if : (k c : ℕ) → c ≢ number → pending_if owners now k c ≡ pending_if owners done k c
  same_if k c ne = ap (λ o. cond (eqb (owner_at owners c) k) (missing_if o) 0) (with_other done number c at ne)

  same_count : (k count : ℕ) → count ≤ number → pending_count owners now k count ≡ pending_count owners done k count
  same_count k zero le = refl
  same_count k (suc count) le =
      let rest = same_count k count (omega arith) in let here = same_if k count (omega arith) in omega arith

  pub fewer : (k count : ℕ) → number < count → owner_at owners number ≡ k → pending_count owners done k count ≡ suc (pending_count owners now k count)
  fewer k zero lt is = absurd (omega arith)
  fewer k (suc count) lt is = ⊎_elim
      (λ (same : count ≡ number).
      let rest = same_count k count (omega arith) in
      let before : pending_if owners done k count ≡ 1 = ap (pending_if owners done k) same ∙ of_name owners done k number is ∙ ap missing_if new in
      let after : pending_if owners now k count ≡ 0 = ap (pending_if owners now k) same ∙ of_name owners now k number is ∙ ap missing_if (with_itself done number at) in omega arith)
      (λ (ne : count ≢ number).
      let rest = fewer k count (omega arith) is in let here = same_if k count ne in omega arith)
      (cases_eq count number)

  pub as_many : (k count : ℕ) → owner_at owners number ≢ k → pending_count owners now k count ≡ pending_count owners done k count
  as_many k zero ne = refl
  as_many k (suc count) ne =
      let rest = as_many k count ne in
      let here : pending_if owners now k count ≡ pending_if owners done k count = ⊎_elim
      (λ (same : count ≡ number). ap (pending_if owners now k) same ∙ of_other owners now k number ne ∙ sym (of_other owners done k number ne) ∙ sym (ap (pending_if owners done k) same))
      (λ (other : count ≢ number). same_if k count other)
      (cases_eq count number) in omega arith
