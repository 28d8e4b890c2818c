use Rattle.std.proofs.Common.{◌≡◌, ◌+◌, ◌<◌, ◌≤◌, ℕ, arith, get_or}
use Rattle.stream_timeline.specs.Bars.{cell_begin}
use Rattle.stream_timeline.specs.declared.numbers.stretch.Stretch.{Stretch}
use Rattle.stream_timeline.proofs.Levels.{cells_rise, level_pushed, past_more}
use Rattle.stream_timeline.proofs.bars.levels.levels_of.Goals as goal

pub loop-cell-preserved : goal.loop-cell-preserved
loop-cell-preserved c =
    let ss = c.args.stretches.now in
    let cells = c.args.cells in
    let cell = c.loop-cell.cell in
    let begin = c.cell_begin-begin.result in
    let some : 1 ≤ cells = let within = c.loop-cell-test.true in omega arith in
    let at_begin : begin ≡ cell_begin cells c.args.span cell = c.cell_begin-begin.ensures.value some in
    let past : (k : ℕ) (d : Stretch) → k < c.skipped-passed_over.result → (get_or ss k d).end ≤ begin =
    past_more ss c.loop-cell.passed_over c.skipped-passed_over.result begin (λ k d l. let h = c.loop-cell.invariant.past k d l in omega (arith, h, at_begin)) c.skipped-passed_over.ensures.past in
    record {
      levels = λ order.
          level_pushed ss cells c.args.span cell c.skipped-passed_over.result begin c.cell_begin.result c.max-end.result c.level_in.result c.loop-cell.levels.items _
          at_begin (c.cell_begin.ensures.value some) c.max-end.ensures c.skipped-passed_over.ensures.bound past (c.level_in.ensures order) (c.loop-cell.invariant.levels order) c.in_ok-push.ensures.items;
      bound = c.skipped-passed_over.ensures.bound;
      past = λ k d l.
          let rises = cells_rise cells c.args.span cell (cell + 1) some (omega arith) in
          let h = past k d l in
          omega (arith, rises, h, at_begin);
    }
