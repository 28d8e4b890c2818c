use Rattle.std.proofs.Common.{◌<◌, arith, map}
use Rattle.std.proofs.lemmas.Result.{on_ok_weaker}
use Rattle.serde_json.specs.View.{view}
use Rattle.apply_prior.specs.Views.{placed_view}
use Rattle.apply_prior.proofs.Placing.{all_modules, no_levels, one_level}
use Rattle.apply_prior.proofs.placed.+place.Goals as goal

pub place_module-returns-then-levels-eq0 : goal.place_module-returns-then-levels-eq0
place_module-returns-then-levels-eq0 t c = no_levels c.args.levels c.args.module_address.now (view c.args.module.now) (map placed_view c.args.placed.now.items) c.if-levels-eq0.true

pub place_module-returns : goal.place_module-returns
place_module-returns t c =
    let some : 0 < c.args.levels = omega arith in
    on_ok_weaker c.place_modules.result
    (one_level c.args.levels c.args.module_address.now (view c.args.module.now) (map placed_view c.args.placed.now.items) (map placed_view c.loop-element.placed.items) (map placed_view c.place_modules.new.placed.items) c.items_at-elements.result.now c.items_at.result.now c.loop-element.element-index some
    c.items_at-elements.ensures c.items_at.ensures c.loop-element-test.false c.loop-element.invariant)
    c.place_modules.ensures

pub place_modules-returns : goal.place_modules-returns
place_modules-returns t c =
    all_modules c.args.levels c.args.modules.now c.loop-module.module-index (map placed_view c.args.placed.now.items) (map placed_view c.loop-module.placed.items) c.loop-module-test.false c.loop-module.invariant
