use Rattle.std.proofs.Common.{◌≡◌, ◌≤◌, ◌++◌, drop, length, take}
use Rattle.std.specs.List.{filter_map}
use Rattle.apply_model.specs.Script.Limits.{max_outputs}
use Rattle.stream_record_outcomes.specs.Provisioners.{timed_output}
use Rattle.stream_record_outcomes.proofs.provisioners.first_outputs.Given as goal

abbrev pub invariant-loop-fact : goal.invariant-loop-fact
invariant-loop-fact l = record {
  so_far :
      take max_outputs (l.texts.items ++ filter_map (timed_output l.begin l.seconds) (drop l.fact-index l.facts))
      ≡ take max_outputs (filter_map (timed_output l.begin l.seconds) l.facts);
  few : length l.texts.items ≤ max_outputs;
}
