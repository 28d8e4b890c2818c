use Rattle.laws_run.proofs.Computed as computed
use Rattle.laws_run.proofs.examples.worked_examples.Goals as goal

pub returns : goal.returns
returns c = record {
  one_waits = computed.one_waits;
  one_waits_in_one_lane = computed.one_waits_in_one_lane;
  no_time_goes_by = computed.no_time_goes_by;
  two_wait_for_one = computed.two_wait_for_one;
  one_fails = computed.one_fails;
  one_waits_for_two = computed.one_waits_for_two;
  two_replacements = computed.two_replacements;
  create_first = computed.create_first;
  create_first_and_fail = computed.create_first_and_fail;
  first_step_in_one_lane = computed.first_step_in_one_lane;
  first_step_in_two_lanes = computed.first_step_in_two_lanes;
  gives_its_lane_away = computed.gives_its_lane_away;
  one_is_halted = computed.one_is_halted;
  nothing_to_do = computed.nothing_to_do;
  ready_first_goes_first = computed.ready_first_goes_first;
  first_is_skipped = computed.first_is_skipped;
  second_is_skipped = computed.second_is_skipped;
  skipped_is_not_halted = computed.skipped_is_not_halted;
  one_only_warns = computed.one_only_warns;
  one_goes_on_though_it_warns = computed.one_goes_on_though_it_warns;
  one_warns_and_is_halted = computed.one_warns_and_is_halted;
  output_in_its_time = computed.output_in_its_time;
}
