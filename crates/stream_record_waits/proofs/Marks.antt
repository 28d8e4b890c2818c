-- When the waits of a step are done.
use Rattle.std.proofs.Common.{◌≡◌, ◌∙◌, ◌<◌, ◌≤◌, ◌+◌, ◌-◌, ℕ, zero, suc, List, [], ◌∷◌, ◌++◌, Option, None, Some, drop, length, get_or, refl, ap, arith}
use Rattle.std.specs.Prelude.{option_map, option_to_list}
use Rattle.std.proofs.lemmas.List.{drop_more}
use Rattle.stream_record_waits.specs.declared.lane_time.LaneTime.{LaneTime}
use Rattle.stream_record_waits.specs.Basis.{with_further}
use Rattle.stream_record_waits.specs.Course.{Basis, Course, done_at, done_by, later_if_both}
use Rattle.stream_record_waits.specs.LaneTime.{next_round}

pub never : (a : Option LaneTime) → later_if_both a None ≡ None
never None = refl
never (Some a) = refl

module _ (basis : Basis) (course : Course) where
  -- one wait more, from the back
  pub one_back : (after : List ℕ) (left : ℕ) (at : LaneTime) (d : ℕ) → 0 < left → left ≤ length after → done_by basis course (drop left after) ≡ Some at
      → done_by basis course (drop (left - 1) after) ≡ later_if_both (option_map next_round (done_at basis course (get_or after (left - 1) d))) (Some at)
  one_back after left at d some few is =
      let same : left - 1 + 1 ≡ left = omega (arith, some) in
      ap (done_by basis course) (drop_more after (left - 1) d (omega (arith, some, few)))
      ∙ ap (λ (k : ℕ). later_if_both (option_map next_round (done_at basis course (get_or after (left - 1) d))) (done_by basis course (drop k after))) same
      ∙ ap (later_if_both (option_map next_round (done_at basis course (get_or after (left - 1) d)))) is

  -- where some are never done, all are never done
  pub none_from : (k : ℕ) (after : List ℕ) → done_by basis course (drop k after) ≡ None → done_by basis course after ≡ None
  none_from zero after is = is
  none_from (suc k) [] is = cc
  none_from (suc k) (step ∷ steps) is =
      ap (later_if_both (option_map next_round (done_at basis course step))) (none_from k steps is) ∙ never (option_map next_round (done_at basis course step))

  pub further_is : (o : Option ℕ) (steps : List ℕ) → done_by basis course (option_to_list o ++ steps) ≡ with_further basis course o (done_by basis course steps)
  further_is None steps = refl
  further_is (Some step) steps = refl

  pub further_never : (o : Option ℕ) → with_further basis course o None ≡ None
  further_never None = refl
  further_never (Some step) = never (option_map next_round (done_at basis course step))
