use Rattle.std.proofs.Common.{◌∙◌, sym, ap}
use Rattle.std.specs.Option.{option_copied}
use Rattle.input_graph.specs.AllWaits.{lists_in}
use Rattle.input_graph.specs.Targets.{texts}
use Rattle.input_graph.proofs.Numbering.{name_at, one_list, one_list_more, pushed_length, next_within}
use Rattle.input_graph.proofs.numbered_graph.targets_by_number.Goals as goal

pub loop-number-preserved : goal.loop-number-preserved
loop-number-preserved c =
    let at = name_at c.loop-number.names.keys c.loop-number.number c.unwrap-name.result.now (sym c.get_index.ensures.key ∙ ap option_copied c.unwrap-name.ensures) in
    let grown = one_list_more c.loop-number.targets.items c.push.new.self.items c.in_ok-target_numbers.field-0 c.in_ok-push.ensures.items in
    let had = c.loop-number.invariant in (
      one_list c.args.edges.now (texts c.loop-number.names.keys) (texts c.target_numbers.new.names.keys) (lists_in c.loop-number.targets.items) (lists_in c.push.new.self.items) c.loop-number.number
          c.unwrap-name.result.now.now c.in_ok-target_numbers.field-0.items (had.0, had.1) c.in_ok-target_numbers.ensures.names at c.in_ok-target_numbers.ensures.numbers grown,
      pushed_length (lists_in c.loop-number.targets.items) (lists_in c.push.new.self.items) c.in_ok-target_numbers.field-0.items c.loop-number.number had.1 grown,
      next_within c.loop-number.names.keys c.target_numbers.new.names.keys c.loop-number.number c.unwrap-name.result.now.now at c.in_ok-target_numbers.ensures.names,
      λ number name is. c.in_ok-target_numbers.ensures.names number name (had.3 number name is),
    )
