-- A queue from which no turn was taken, with one turn more.
use Rattle.std.proofs.Common.{◌≡◌, ◌≢◌, ℕ, ◌+◌, ◌<◌, ◌≤◌, All, List, [], ◌∷◌, ◌++◌, cond, length, refl, sym, ap, ◌∙◌, ⊎_elim, ◌⊎◌, inl, inr, arith, eqb, eq-eqb, ne_eqb, length-append}
use Rattle.std.specs.BinaryHeap.{IsHeap}
use Rattle.std.specs.List.Sorted.{IsPermutation}
use Rattle.std.specs.declared.cmp.Reverse.{Reverse}
use Rattle.std.proofs.lemmas.Bool.{cases_eq, cases_lt}
use Rattle.std.proofs.lemmas.List.{get_or_append_left}
use Rattle.std.proofs.lemmas.List.Elements.{All-cons, All-weaker, recursion_from_All}
use Rattle.std.proofs.lemmas.List.Sorted.{All-permutation, sum_by_pushed}
use Rattle.std.proofs.Math.Seq.{get_or-append_seam}
use Rattle.apply_model.specs.declared.script.wait.Wait.{Wait}
use Rattle.apply_events.specs.declared.lanes.queue.ReadyTurn.{ReadyTurn}
use Rattle.apply_events.specs.declared.lanes.queue.Waiting.{Waiting}
use Rattle.apply_events.specs.declared.lanes.queue.followers.Followers.{Followers}
use Rattle.apply_events.specs.Waits.LaneTime.{first_lane_time}
use Rattle.apply_events.specs.Waits.Queue.{Follow, IsRipe, Stands, with_waits_of, counts_of, ready_round_of, named, names_at, none_done, one_if, missing_count, reverse_cmp, standing, waiting_at}
use Rattle.apply_events.proofs.Waits.Followers.{same_counts}
use Rattle.apply_events.proofs.Waits.ReadyFirst.{none_stand}
use Rattle.apply_events.proofs.Waits.Standing.{beyond}

open_at_first : (names : List Wait) → missing_count none_done names ≡ length names
open_at_first [] = refl
open_at_first (name ∷ names) = let rest = open_at_first names in omega arith

late_at_first : (names : List Wait) → ready_round_of none_done names ≡ first_lane_time
late_at_first [] = refl
late_at_first (name ∷ names) = late_at_first names

-- a number below that of the last, or the last
last_cases : {X : Type 0} (xs : List X) (x : X) (k : ℕ) → k < length (xs ++ x ∷ []) → (k < length xs) ⊎ (k ≡ length xs)
last_cases xs x k lt =
    let size = length-append xs (x ∷ []) in ⊎_elim
    (λ (less : k < length xs). inl less)
    (λ (high : length xs ≤ k). inr (omega arith))
    (cases_lt k (length xs))

module _ (names : List (List Wait)) (turn : List Wait) where
  old_names : (k : ℕ) → k < length names → names_at (names ++ turn ∷ []) k ≡ names_at names k
  old_names k lt = get_or_append_left names (turn ∷ []) [] k lt

  new_names : names_at (names ++ turn ∷ []) (length names) ≡ turn
  new_names = get_or-append_seam names turn [] []

  counts_more : (name : Wait) (k : ℕ) → with_waits_of (counts_of names) (length names) turn name k ≡ counts_of (names ++ turn ∷ []) name k
  counts_more name k = ⊎_elim
      (λ (is : k ≡ length names).
      let mine = ap (λ t. cond t (named name turn) 0) (eq-eqb k (length names) is) in
      let none : counts_of names name k ≡ 0 = ap (named name) (beyond names k [] (omega arith)) in
      let new : counts_of (names ++ turn ∷ []) name k ≡ named name turn = ap (λ j. named name (names_at (names ++ turn ∷ []) j)) is ∙ ap (named name) new_names in omega arith)
      (λ (ne : k ≢ length names).
      let off = ap (λ t. cond t (named name turn) 0) (ne_eqb k (length names) ne) in
      let same : counts_of (names ++ turn ∷ []) name k ≡ counts_of names name k = ⊎_elim
      (λ (lt : k < length names). ap (named name) (old_names k lt))
      (λ (high : length names ≤ k).
      let size = length-append names (turn ∷ []) in
      ap (named name) (beyond (names ++ turn ∷ []) k [] (omega arith) ∙ sym (beyond names k [] high)))
      (cases_lt k (length names)) in omega arith)
      (cases_eq k (length names))

  pub follow_turn : (limit number : ℕ) (f : Followers) → number ≡ length names → Follow limit (with_waits_of (counts_of names) number turn) f → Follow limit (counts_of (names ++ turn ∷ [])) f
  follow_turn limit number f is h = same_counts limit (with_waits_of (counts_of names) number turn) (counts_of (names ++ turn ∷ [])) f
      (λ name k. ap (λ n. with_waits_of (counts_of names) n turn name k) is ∙ counts_more name k) h

  module _ (waiting after : List Waiting) (ready : List (Reverse ReadyTurn)) (missing : ℕ) (h : Stands names none_done [] first_lane_time [] waiting ready)
      (next : after ≡ waiting ++ (record { missing = missing; at = first_lane_time }) ∷ []) (count : missing ≡ length turn) where
    new : Waiting
    new = record { missing = missing; at = first_lane_time }

    old_at : (k : ℕ) → k < length names → waiting_at after k ≡ waiting_at waiting k
    old_at k lt = let size = h.size in ap (λ l. waiting_at l k) next ∙ get_or_append_left waiting (record { missing = missing; at = first_lane_time } ∷ []) (record { missing = 0; at = first_lane_time }) k (omega arith)

    new_at : waiting_at after (length names) ≡ record { missing = missing; at = first_lane_time }
    new_at = ap (λ l. waiting_at l (length names)) next ∙ ap (waiting_at (waiting ++ record { missing = missing; at = first_lane_time } ∷ [])) (sym h.size)
        ∙ get_or-append_seam waiting (record { missing = missing; at = first_lane_time }) [] (record { missing = 0; at = first_lane_time })

    sizes : length after ≡ length (names ++ turn ∷ [])
    sizes =
        let size = h.size in let one = length-append names (turn ∷ []) in
        let two = length-append waiting ((let w : Waiting = record { missing = missing; at = first_lane_time } in w) ∷ []) in
        let is = ap length next in omega arith

    missing_more : (k : ℕ) → k < length (names ++ turn ∷ []) → (waiting_at after k).missing ≡ missing_count none_done (names_at (names ++ turn ∷ []) k) + 0
    missing_more k lt = ⊎_elim
        (λ (less : k < length names).
        let old = h.missing k less in
        let same = ap (λ (x : Waiting). x.missing) (old_at k less) in
        let its = ap (missing_count none_done) (old_names k less) in omega arith)
        (λ (is : k ≡ length names).
        let mine : (waiting_at after k).missing ≡ missing = ap (λ j. (waiting_at after j).missing) is ∙ ap (λ (x : Waiting). x.missing) new_at in
        let its : missing_count none_done (names_at (names ++ turn ∷ []) k) ≡ length turn =
        ap (λ j. missing_count none_done (names_at (names ++ turn ∷ []) j)) is ∙ ap (missing_count none_done) new_names ∙ open_at_first turn in omega arith)
        (last_cases names turn k lt)

    late_more : (k : ℕ) → k < length (names ++ turn ∷ []) → (waiting_at after k).at ≡ ready_round_of none_done (names_at (names ++ turn ∷ []) k)
    late_more k lt = ⊎_elim
        (λ (less : k < length names). ap (λ (x : Waiting). x.at) (old_at k less) ∙ h.late k less ∙ sym (ap (ready_round_of none_done) (old_names k less)))
        (λ (is : k ≡ length names).
        ap (λ j. (waiting_at after j).at) is ∙ ap (λ (x : Waiting). x.at) new_at ∙ sym (late_at_first turn)
        ∙ sym (ap (λ j. ready_round_of none_done (names_at (names ++ turn ∷ []) j)) is ∙ ap (ready_round_of none_done) new_names))
        (last_cases names turn k lt)

    still_ripe : All (IsRipe after) ready
    still_ripe = All-weaker (IsRipe waiting) (IsRipe after)
        (λ one ripe.
        let lt = ripe.0 in let size = h.size in let more = sizes in let one_more = length-append names (turn ∷ []) in
        (omega arith, ap (λ (x : Waiting). x.missing) (old_at one.0.number (omega arith)) ∙ ripe.1, ap (λ (x : Waiting). x.at) (old_at one.0.number (omega arith)) ∙ ripe.2))
        ready h.ripe

    none_yet : standing (length names) ready ≡ 0
    none_yet = let size = h.size in none_stand waiting (length names) ready (omega arith) (recursion_from_All (IsRipe waiting) ready h.ripe)

    pub stands_waiting : missing ≢ 0 → Stands (names ++ turn ∷ []) none_done [] first_lane_time [] after ready
    stands_waiting some = record {
      size = sizes;
      known = tt;
      missing = missing_more;
      late = late_more;
      ripe = still_ripe;
      each = λ k lt. ⊎_elim
          (λ (less : k < length names). h.each k less ∙ sym (ap (λ (x : Waiting). one_if (eqb x.missing 0)) (old_at k less)))
          (λ (is : k ≡ length names).
          let none = ap (λ j. standing j ready) is in
          let off : one_if (eqb (waiting_at after k).missing 0) ≡ 0 = ap (λ j. one_if (eqb (waiting_at after j).missing 0)) is ∙ ap (λ (x : Waiting). one_if (eqb x.missing 0)) new_at
          ∙ ap one_if (ne_eqb missing 0 some) in
          let empty = none_yet in omega arith)
          (last_cases names turn k lt);
      heap = h.heap;
    }

    pub stands_ready : (more : List (Reverse ReadyTurn)) (number : ℕ) → missing ≡ 0 → number ≡ length names
        → IsPermutation ((record { 0 = record { at = first_lane_time; number = number } }) ∷ ready) more → IsHeap reverse_cmp more
        → Stands (names ++ turn ∷ []) none_done [] first_lane_time [] after more
    stands_ready more number none last moved heap =
        let one : Reverse ReadyTurn = record { 0 = record { at = first_lane_time; number = number } } in
        let size = sizes in
        let longer = length-append names (turn ∷ []) in
        let here : waiting_at after number ≡ record { missing = missing; at = first_lane_time } = ap (waiting_at after) last ∙ new_at in
        record {
          size = sizes;
          known = tt;
          missing = missing_more;
          late = late_more;
          ripe = All-permutation (IsRipe after) (one ∷ ready) more moved
              (All-cons (IsRipe after) one ready (omega arith, ap (λ (x : Waiting). x.missing) here ∙ none, ap (λ (x : Waiting). x.at) here) still_ripe);
          each = λ k lt. (
              let pushed = sum_by_pushed (λ (x : Reverse ReadyTurn). one_if (eqb x.0.number k)) one ready more moved in ⊎_elim
              (λ (less : k < length names).
              let old = h.each k less in
              let off = ap one_if (ne_eqb number k (omega arith)) in
              let same = ap (λ (x : Waiting). one_if (eqb x.missing 0)) (old_at k less) in omega arith)
              (λ (is : k ≡ length names).
              let mine = ap one_if (eq-eqb number k (omega arith)) in
              let same = ap (λ j. standing j ready) is in
              let empty = none_yet in
              let ripe : one_if (eqb (waiting_at after k).missing 0) ≡ 1 = ap (λ j. one_if (eqb (waiting_at after j).missing 0)) is ∙ ap (λ (x : Waiting). one_if (eqb x.missing 0)) new_at
              ∙ ap one_if (eq-eqb missing 0 none) in omega arith)
              (last_cases names turn k lt));
          heap = heap;
        }
