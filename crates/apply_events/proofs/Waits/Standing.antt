-- The turns that wait, and those that are ready, as the queue hears of a step that is done.
use Rattle.std.proofs.Common.{◌≡◌, ◌≢◌, ℕ, zero, suc, ◌+◌, ◌-◌, ◌<◌, ◌≤◌, All, true, false, List, [], ◌∷◌, Option, Some, None, cond, get_or, length, set, refl, sym, ap, ◌∙◌, subst, ⊎_elim, arith, eqb, eq-eqb, ne_eqb}
use Rattle.std.specs.BinaryHeap.{IsHeap}
use Rattle.std.specs.List.Sorted.{IsPermutation}
use Rattle.std.specs.declared.cmp.Reverse.{Reverse}
use Rattle.std.proofs.lemmas.Bool.{cases_Bool, cases_eq, true≢false}
use Rattle.std.proofs.lemmas.List.{get_or-set_other, get_or-set_same, length-set}
use Rattle.std.proofs.lemmas.List.Elements.{All-cons, All-weaker}
use Rattle.std.proofs.lemmas.List.Sorted.{All-permutation, sum_by_pushed}
use Rattle.apply_model.specs.declared.script.wait.Wait.{Wait}
use Rattle.apply_events.specs.declared.lanes.lane_time.LaneTime.{LaneTime}
use Rattle.apply_events.specs.declared.lanes.queue.ReadyTurn.{ReadyTurn}
use Rattle.apply_events.specs.declared.lanes.queue.Waiting.{Waiting}
use Rattle.apply_events.specs.Waits.LaneTime.{first_lane_time, later_of, next_round}
use Rattle.apply_events.specs.Waits.Queue.{IsRipe, Stands, is_same_wait, late_after, later_round_if, ready_round_of, named, names_at, one_if, missing_if, missing_count, with_step_done, reverse_cmp, times, waiting_at}
use Rattle.apply_events.proofs.Waits.Followers.{same_wait}
use Rattle.apply_events.proofs.Waits.Moments.{first_no_later, later_no_later, no_later_both, no_later_on, no_later_refl, second_no_later}

-- ---- the later of two times

later_same : (a : LaneTime) → later_of a a ≡ a
later_same a = no_later_both (later_of a a) a (later_no_later a a a (no_later_refl a) (no_later_refl a)) (first_no_later a a)

later_comm : (a b : LaneTime) → later_of a b ≡ later_of b a
later_comm a b = no_later_both (later_of a b) (later_of b a)
    (later_no_later a b (later_of b a) (second_no_later b a) (first_no_later b a))
    (later_no_later b a (later_of a b) (second_no_later a b) (first_no_later a b))

later_assoc : (a b c : LaneTime) → later_of (later_of a b) c ≡ later_of a (later_of b c)
later_assoc a b c =
    let left = later_of (later_of a b) c in let right = later_of a (later_of b c) in
    no_later_both left right
    (later_no_later (later_of a b) c right
    (later_no_later a b right (first_no_later a (later_of b c)) (no_later_on b (later_of b c) right (first_no_later b c) (second_no_later a (later_of b c))))
    (no_later_on c (later_of b c) right (second_no_later b c) (second_no_later a (later_of b c))))
    (later_no_later a (later_of b c) left (no_later_on a (later_of a b) left (first_no_later a b) (first_no_later (later_of a b) c))
    (later_no_later b c left (no_later_on b (later_of a b) left (second_no_later a b) (first_no_later (later_of a b) c)) (second_no_later (later_of a b) c)))

-- what comes to be later once stays so
after_once : (more : ℕ) (later at : LaneTime) → late_after more later (later_of at later) ≡ later_of at later
after_once zero later at = refl
after_once (suc more) later at = later_assoc at later later ∙ ap (later_of at) (later_same later)

-- ---- a step is done

other_way : (a b : Wait) → is_same_wait a b ≡ false → is_same_wait b a ≡ false
other_way a b differ = ⊎_elim
    (λ (same : is_same_wait b a ≡ true).
    let it : b ≡ a = same_wait b a same in
    absurd (true≢false (sym same ∙ ap (is_same_wait b) (sym it) ∙ ap (λ x. is_same_wait x b) it ∙ differ)))
    (λ (off : is_same_wait b a ≡ false). off)
    (cases_Bool (is_same_wait b a))

-- one that was not
module _ (done : Wait → Option LaneTime) (step : Wait) (at : LaneTime) (new : done step ≡ None) where
  pub open_put : (names : List Wait) → missing_count done names ≡ missing_count (with_step_done done step at) names + named step names
  open_put [] = refl
  open_put (name ∷ names) =
      let rest = open_put names in ⊎_elim
      (λ (same : is_same_wait step name ≡ true).
      let it : step ≡ name = same_wait step name same in
      let before : missing_if (done name) ≡ 1 = ap missing_if (sym (ap done it) ∙ new) in
      let after : missing_if (with_step_done done step at name) ≡ 0 = ap (λ t. missing_if (cond t (Some at) (done name))) same in
      let count : one_if (is_same_wait name step) ≡ 1 = ap one_if (ap (λ n. is_same_wait n step) (sym it) ∙ ap (is_same_wait step) it ∙ same) in omega arith)
      (λ (differ : is_same_wait step name ≡ false).
      let after : missing_if (with_step_done done step at name) ≡ missing_if (done name) = ap (λ t. missing_if (cond t (Some at) (done name))) differ in
      let count : one_if (is_same_wait name step) ≡ 0 = ap one_if (other_way step name differ) in omega arith)
      (cases_Bool (is_same_wait step name))

  pub late_put : (names : List Wait) → ready_round_of (with_step_done done step at) names ≡ late_after (named step names) (next_round at) (ready_round_of done names)
  late_put [] = refl
  late_put (name ∷ names) =
      let later = next_round at in
      let before = ready_round_of done names in
      let rest = late_put names in ⊎_elim
      (λ (same : is_same_wait step name ≡ true).
      let it : step ≡ name = same_wait step name same in
      let old : later_round_if (done name) before ≡ before = ap (λ d. later_round_if d before) (sym (ap done it) ∙ new) in
      let mine : one_if (is_same_wait name step) ≡ 1 = ap one_if (ap (λ n. is_same_wait n step) (sym it) ∙ ap (is_same_wait step) it ∙ same) in
      let count : named step (name ∷ names) ≡ suc (named step names) = omega arith in
      ap (λ t. later_round_if (cond t (Some at) (done name)) (ready_round_of (with_step_done done step at) names)) same
      ∙ ap (later_of later) rest ∙ joined (named step names) later before
      ∙ sym (ap (λ n. late_after n later (later_round_if (done name) before)) count ∙ ap (λ m. later_of m later) old))
      (λ (differ : is_same_wait step name ≡ false).
      let mine : one_if (is_same_wait name step) ≡ 0 = ap one_if (other_way step name differ) in
      let count : named step (name ∷ names) ≡ named step names = omega arith in
      ap (λ t. later_round_if (cond t (Some at) (done name)) (ready_round_of (with_step_done done step at) names)) differ
      ∙ ap (later_round_if (done name)) rest ∙ passed (done name) (named step names) later before
      ∙ sym (ap (λ n. late_after n later (later_round_if (done name) before)) count))
      (cases_Bool (is_same_wait step name))
    where
      joined : (n : ℕ) (later before : LaneTime) → later_of later (late_after n later before) ≡ later_of before later
      joined zero later before = later_comm later before
      joined (suc n) later before = later_comm later (later_of before later) ∙ later_assoc before later later ∙ ap (later_of before) (later_same later)

      passed : (answer : Option LaneTime) (n : ℕ) (later before : LaneTime) → later_round_if answer (late_after n later before) ≡ late_after n later (later_round_if answer before)
      passed None n later before = refl
      passed (Some m) zero later before = refl
      passed (Some m) (suc n) later before = sym (later_assoc (next_round m) before later)

-- ---- the queue hears of one

pub some_missing : (names : List (List Wait)) (done : Wait → Option LaneTime) (left : List ℕ) (later : LaneTime) (started : List ℕ) (waiting : List Waiting) (ready : List (Reverse ReadyTurn))
    (number : ℕ) → Stands names done (number ∷ left) later started waiting ready → number < length waiting → 0 < (waiting_at waiting number).missing
some_missing names done left later started waiting ready number h known =
    let size = h.size in
    let is = h.missing number (omega arith) in
    let itself = ap one_if (eq-eqb number number refl) in omega arith

module _ (names : List (List Wait)) (done : Wait → Option LaneTime) (left : List ℕ) (later : LaneTime) (started : List ℕ) (waiting after : List Waiting) (ready : List (Reverse ReadyTurn))
    (number : ℕ) (h : Stands names done (number ∷ left) later started waiting ready) (known : number < length waiting)
    (next : after ≡ set waiting number (record { missing = (waiting_at waiting number).missing - 1; at = later_of (waiting_at waiting number).at later })) where
  abbrev heard : Waiting
  heard = record { missing = (waiting_at waiting number).missing - 1; at = later_of (waiting_at waiting number).at later }

  itself : times number (number ∷ left) ≡ suc (times number left)
  itself = let same = ap one_if (eq-eqb number number refl) in omega arith

  is_missing : 0 < (waiting_at waiting number).missing
  is_missing = some_missing names done left later started waiting ready number h known

  here : waiting_at after number ≡ heard
  here = ap (λ l. waiting_at l number) next ∙ get_or-set_same waiting number heard (record { missing = 0; at = first_lane_time }) known

  there : (k : ℕ) → k ≢ number → waiting_at after k ≡ waiting_at waiting k
  there k ne = ap (λ l. waiting_at l k) next ∙ get_or-set_other waiting number k heard (record { missing = 0; at = first_lane_time }) ne

  other : (k : ℕ) → k ≢ number → times k (number ∷ left) ≡ times k left
  other k ne = let off = ap one_if (ne_eqb number k (λ is. ne (sym is))) in omega arith

  sizes : length after ≡ length waiting
  sizes = ap length next ∙ length-set waiting number heard

  missing_heard : (k : ℕ) → k < length names → (waiting_at after k).missing ≡ missing_count done (names_at names k) + times k left
  missing_heard k lt = ⊎_elim
      (λ (is : k ≡ number).
      let size = h.size in
      let old = h.missing number (omega arith) in
      let count = itself in
      let new : (waiting_at after number).missing ≡ (waiting_at waiting number).missing - 1 = ap (λ (x : Waiting). x.missing) here in
      subst (λ j. (waiting_at after j).missing ≡ missing_count done (names_at names j) + times j left) (sym is) (omega arith))
      (λ (ne : k ≢ number).
      let old = h.missing k lt in
      let same : (waiting_at after k).missing ≡ (waiting_at waiting k).missing = ap (λ (x : Waiting). x.missing) (there k ne) in
      let count = other k ne in omega arith)
      (cases_eq k number)

  late_heard : (k : ℕ) → k < length names → late_after (times k left) later (waiting_at after k).at ≡ ready_round_of done (names_at names k)
  late_heard k lt = ⊎_elim
      (λ (is : k ≡ number).
      let size = h.size in
      let at = (waiting_at waiting number).at in
      subst (λ j. late_after (times j left) later (waiting_at after j).at ≡ ready_round_of done (names_at names j)) (sym is)
      (ap (λ (x : Waiting). late_after (times number left) later x.at) here ∙ after_once (times number left) later at
      ∙ sym (ap (λ n. late_after n later at) itself) ∙ h.late number (omega arith)))
      (λ (ne : k ≢ number).
      ap (λ (x : Waiting). late_after (times k left) later x.at) (there k ne) ∙ sym (ap (λ n. late_after n later (waiting_at waiting k).at) (other k ne)) ∙ h.late k lt)
      (cases_eq k number)

  still_ripe : All (IsRipe after) ready
  still_ripe = All-weaker (IsRipe waiting) (IsRipe after)
      (λ one ripe.
      let lt = ripe.0 in let size = sizes in
      let apart : one.0.number ≢ number = λ is. (let more = is_missing in let none = ripe.1 in let same = ap (λ j. (waiting_at waiting j).missing) is in absurd (omega arith)) in
      (omega arith, ap (λ (x : Waiting). x.missing) (there one.0.number apart) ∙ ripe.1, ap (λ (x : Waiting). x.at) (there one.0.number apart) ∙ ripe.2))
      ready h.ripe

  pub hears : (waiting_at waiting number).missing - 1 ≢ 0 → Stands names done left later started after ready
  hears more = record {
    size = sizes ∙ h.size;
    known = h.known.1;
    missing = missing_heard;
    late = late_heard;
    ripe = still_ripe;
    each = λ k lt. ⊎_elim
        (λ (is : k ≡ number).
        let old = h.each k lt in
        let some = is_missing in
        let none : one_if (eqb (waiting_at waiting k).missing 0) ≡ 0 = ap (λ j. one_if (eqb (waiting_at waiting j).missing 0)) is ∙ ap one_if (ne_eqb (waiting_at waiting number).missing 0 (omega arith)) in
        let new : one_if (eqb (waiting_at after k).missing 0) ≡ 0 = ap (λ j. one_if (eqb (waiting_at after j).missing 0)) is ∙ ap (λ (x : Waiting). one_if (eqb x.missing 0)) here
        ∙ ap one_if (ne_eqb ((waiting_at waiting number).missing - 1) 0 more) in omega arith)
        (λ (ne : k ≢ number). h.each k lt ∙ sym (ap (λ (x : Waiting). one_if (eqb x.missing 0)) (there k ne)))
        (cases_eq k number);
    heap = h.heap;
  }

  pub hears_last : (more : List (Reverse ReadyTurn)) (at : LaneTime) → (waiting_at waiting number).missing - 1 ≡ 0 → at ≡ later_of (waiting_at waiting number).at later
      → IsPermutation ((record { 0 = record { at = at; number = number } }) ∷ ready) more
      → IsHeap reverse_cmp more → Stands names done left later started after more
  hears_last more at last is_at moved heap =
      let new : Reverse ReadyTurn = record { 0 = record { at = at; number = number } } in
      let pushed = λ (k : ℕ). sum_by_pushed (λ (one : Reverse ReadyTurn). one_if (eqb one.0.number k)) new ready more moved in
      let size = sizes in
      record {
        size = sizes ∙ h.size;
        known = h.known.1;
        missing = missing_heard;
        late = late_heard;
        ripe = All-permutation (IsRipe after) (new ∷ ready) more moved
            (All-cons (IsRipe after) new ready (omega arith, ap (λ (x : Waiting). x.missing) here ∙ last, ap (λ (x : Waiting). x.at) here ∙ sym is_at) still_ripe);
        each = λ k lt. (
            let push = pushed k in ⊎_elim
            (λ (is : k ≡ number).
            let old = h.each k lt in
            let some = is_missing in
            let mine : one_if (eqb number k) ≡ 1 = ap one_if (eq-eqb number k (sym is)) in
            let none : one_if (eqb (waiting_at waiting k).missing 0) ≡ 0 = ap (λ j. one_if (eqb (waiting_at waiting j).missing 0)) is ∙ ap one_if (ne_eqb (waiting_at waiting number).missing 0 (omega arith)) in
            let ripe : one_if (eqb (waiting_at after k).missing 0) ≡ 1 = ap (λ j. one_if (eqb (waiting_at after j).missing 0)) is ∙ ap (λ (x : Waiting). one_if (eqb x.missing 0)) here
            ∙ ap one_if (eq-eqb ((waiting_at waiting number).missing - 1) 0 last) in omega arith)
            (λ (ne : k ≢ number).
            let old = h.each k lt in
            let mine : one_if (eqb number k) ≡ 0 = ap one_if (ne_eqb number k (λ is. ne (sym is))) in
            let same = ap (λ (x : Waiting). one_if (eqb x.missing 0)) (there k ne) in omega arith)
            (cases_eq k number));
        heap = heap;
      }

-- ---- what is read

pub any_default : {X : Type 0} (xs : List X) (k : ℕ) (d e : X) → k < length xs → get_or xs k d ≡ get_or xs k e
any_default [] k d e lt = absurd (omega arith)
any_default (x ∷ xs) zero d e lt = refl
any_default (x ∷ xs) (suc k) d e lt = any_default xs k d e (omega arith)

pub written : (waiting : List Waiting) (number : ℕ) (x : Waiting) (at later : LaneTime) → waiting_at waiting number ≡ x → at ≡ later_of x.at later
    → set waiting number (let y : Waiting = record { missing = x.missing - 1; at = at } in y)
    ≡ set waiting number (let y : Waiting = record { missing = (waiting_at waiting number).missing - 1; at = later_of (waiting_at waiting number).at later } in y)
written waiting number x at later same is =
    ap (λ m. set waiting number (let y : Waiting = record { missing = x.missing - 1; at = m } in y)) is
    ∙ ap (λ (z : Waiting). set waiting number (let y : Waiting = record { missing = z.missing - 1; at = later_of z.at later } in y)) (sym same)

pub beyond : {X : Type 0} (xs : List X) (k : ℕ) (d : X) → length xs ≤ k → get_or xs k d ≡ d
beyond [] k d high = refl
beyond (x ∷ xs) zero d high = absurd (omega arith)
beyond (x ∷ xs) (suc k) d high = beyond xs k d (omega arith)
