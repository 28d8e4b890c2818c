-- The worked examples, by computation.
use Rattle.std.proofs.Common.{refl}
use Rattle.laws_run.specs.Examples as example

pub one_waits : example.OneWaits
one_waits = refl

pub one_waits_in_one_lane : example.OneWaitsInOneLane
one_waits_in_one_lane = refl

pub no_time_goes_by : example.NoTimeGoesBy
no_time_goes_by = refl

pub two_wait_for_one : example.TwoWaitForOne
two_wait_for_one = refl

pub one_fails : example.OneFails
one_fails = refl

pub one_waits_for_two : example.OneWaitsForTwo
one_waits_for_two = refl

pub two_replacements : example.TwoReplacements
two_replacements = refl

pub create_first : example.CreateFirst
create_first = refl

pub create_first_and_fail : example.CreateFirstAndFail
create_first_and_fail = refl

pub first_step_in_one_lane : example.FirstStepInOneLane
first_step_in_one_lane = refl

pub first_step_in_two_lanes : example.FirstStepInTwoLanes
first_step_in_two_lanes = refl

pub gives_its_lane_away : example.GivesItsLaneAway
gives_its_lane_away = refl

pub one_is_halted : example.OneIsHalted
one_is_halted = refl

pub nothing_to_do : example.NothingToDo
nothing_to_do = refl

pub ready_first_goes_first : example.ReadyFirstGoesFirst
ready_first_goes_first = refl

pub first_is_skipped : example.FirstIsSkipped
first_is_skipped = refl

pub second_is_skipped : example.SecondIsSkipped
second_is_skipped = refl

pub skipped_is_not_halted : example.SkippedIsNotHalted
skipped_is_not_halted = refl

pub one_only_warns : example.OneOnlyWarns
one_only_warns = refl

pub one_goes_on_though_it_warns : example.OneGoesOnThoughItWarns
one_goes_on_though_it_warns = refl

pub one_warns_and_is_halted : example.OneWarnsAndIsHalted
one_warns_and_is_halted = refl

pub output_in_its_time : example.OutputInItsTime
output_in_its_time = refl
