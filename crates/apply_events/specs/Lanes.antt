-- Changes under way at the same time, in lanes.
use Rattle.std.specs.Prelude.{◌≤◌, ℕ}
pub mod Dealing
pub mod Lane
pub mod LaneState
pub mod Merging
pub mod Props
pub mod Runs
pub mod Startable
pub mod Steady
pub mod TimeLine
pub mod ToCome

-- The number of lanes is allowed.
pub record AreLanes (lanes : ℕ) : Type 0 where
  pub some : 1 ≤ lanes
  pub few : lanes ≤ 64
