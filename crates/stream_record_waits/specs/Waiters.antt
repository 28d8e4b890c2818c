-- The steps that wait for each step, or may once they are put back.
use Rattle.std.specs.Prelude.{◌≡◌, ◌<◌, ◌⊎◌, ℕ, List, ◌++◌, length, option_to_list}
use Rattle.std.specs.List.{Contains}
use Rattle.stream_record_waits.specs.Course.{Basis, behind_at}
use Rattle.stream_record_waits.specs.Graph.{waits_at}
use Rattle.stream_record_waits.specs.Steps.{step_before}

-- The steps for which the turn that begins with a step may wait. For the first of them, if there is
-- one, it waits once it is put back.
abbrev pub all_waits : Basis → ℕ → List ℕ
all_waits basis step = option_to_list (behind_at basis step) ++ (option_to_list (step_before basis.steps step) ++ waits_at basis.after step)

-- The waiters of a step are those of the first steps that may wait for it.
pub record AreFirstWaiters (basis : Basis) (count : ℕ) (waiters : List (List ℕ)) : Type 0 where
  pub each : length waiters ≡ length basis.steps
  pub complete : (step wait : ℕ) → step < count → Contains (all_waits basis step) wait → Contains (waits_at waiters wait) step
  pub only : (step wait : ℕ) → Contains (waits_at waiters wait) step → (step < count) × Contains (all_waits basis step) wait

-- The waiters of a step are all steps that may wait for it.
abbrev pub AreWaiters : Basis → List (List ℕ) → Type 0
AreWaiters basis waiters = AreFirstWaiters basis (length basis.steps) waiters

-- A step joins the waiters of these steps, and no other does.
pub record Joins (step : ℕ) (waits : List ℕ) (old new : List (List ℕ)) : Type 0 where
  pub each : length new ≡ length old
  pub stay : (wait other : ℕ) → Contains (waits_at old wait) other → Contains (waits_at new wait) other
  pub joins : (wait : ℕ) → Contains waits wait → Contains (waits_at new wait) step
  pub only : (wait other : ℕ) → Contains (waits_at new wait) other → Contains (waits_at old wait) other ⊎ ((other ≡ step) × Contains waits wait)
