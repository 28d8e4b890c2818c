use Rattle.std.specs.Prelude.{◌≡◌, List}
use Rattle.std.specs.List.{flat_map, range_with_len}
use Rattle.apply_hooks.specs.declared.rule.Rule.{Rule}
use Rattle.apply_events.specs.Waits.Turn.{turns_of}
use Rattle.apply_events.proofs.lanes.turn.Turn.all.Given as goal

abbrev pub invariant-loop-change : goal.invariant-loop-change
invariant-loop-change l = (hooks : List (List Rule))
    → l.all.items ≡ flat_map (turns_of (record { plan = l.plan; script = l.script; hooks = hooks })) (range_with_len 0 l.change)
