-- How lanes share the changes of a plan over time.
use Rattle.std.specs.Prelude.{ℕ, ◌+◌, ◌&&◌, List, [], ◌∷◌, filter, get_or, nat_le, nat_lt, sum_by, if◌then◌else◌}
use Rattle.apply_events.specs.ChangeEvents.{span_of}
use Rattle.apply_events.specs.Step.{Work}
use Rattle.apply_events.specs.Lanes.Dealing.{lanes}

-- when the lane is free, if it applies only those of its changes that stand before change c
abbrev pub free_before : Work → List (List ℕ) → (lane c : ℕ) → ℕ
free_before work lists lane c = sum_by (span_of work) (filter (λ earlier. nat_lt earlier c) (get_or lists lane []))

-- how many of these changes are under way at the time `moment`, if they are applied one after
-- another from the time `at`
abbrev pub under_way_of : Work → (moment at : ℕ) → List ℕ → ℕ
under_way_of work moment at [] = 0
under_way_of work moment at (c ∷ changes) =
    (if nat_le at moment && nat_lt moment (at + span_of work c) then 1 else 0)
    + under_way_of work moment (at + span_of work c) changes

-- how many changes are under way in n lanes at the time `moment`
abbrev pub under_way : Work → (n moment : ℕ) → ℕ
under_way work n moment = sum_by (under_way_of work moment 0) (lanes work n)
