use Rattle.std.proofs.Common.{option_map, sym, ◌∙◌}
use Rattle.std.specs.Option.{option_copied}
use Rattle.apply_plan.specs.Script.RawView.{failure_view}
use Rattle.apply_planning_script.proofs.Clashes.{clash_is, clashed, made}
use Rattle.apply_planning_script.proofs.raw_item.RawItem.with.Goals as goal

pub returns-then-do_clash : goal.returns-then-do_clash
returns-then-do_clash c =
    clashed c.args.address.now (option_copied c.args.deposed) (option_copied c.args.id) c.args.seconds c.args.is_gone c.args.is_skipped (option_map failure_view c.args.failure)
    (sym (clash_is c.args.id c.args.failure c.args.seconds c.args.is_gone c.args.is_skipped c.is_some.result c.is_some-2.result c.do_clash.result c.is_some.ensures c.is_some-2.ensures c.do_clash.ensures) ∙ c.if-do_clash.true)

pub returns : goal.returns
returns c =
    made c.args.address.now (option_copied c.args.deposed) (option_copied c.args.id) c.args.seconds c.args.is_gone c.args.is_skipped (option_map failure_view c.args.failure)
    c.unwrap_or.result
    (sym (clash_is c.args.id c.args.failure c.args.seconds c.args.is_gone c.args.is_skipped c.is_some.result c.is_some-2.result c.do_clash.result c.is_some.ensures c.is_some-2.ensures c.do_clash.ensures) ∙ c.if-do_clash.false)
    c.unwrap_or.ensures
