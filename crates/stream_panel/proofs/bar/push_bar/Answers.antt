use Rattle.std.proofs.Common.{◌≡◌, ◌+◌}
use Rattle.stream_panel.specs.Bar.{bar, full_cells, reached_cells, total_of}
use Rattle.stream_panel.proofs.Parts.{part_as, same_bar}
use Rattle.stream_panel.proofs.bar.push_bar.Goals as goal

pub returns : goal.returns
unfolding bar
returns c =
    let counts = c.args.counts in
    let running = c.args.running in
    let cells = c.args.cells in
    let total : c.max-total.result ≡ total_of counts running = cc in
    let done : c.full_cells.result ≡ full_cells counts.done (total_of counts running) cells = cc in
    let ended : c.full_cells-2.result ≡ full_cells (counts.done + counts.failed) (total_of counts running) cells = cc in
    let begun : c.reached_cells.result ≡ reached_cells (counts.done + counts.failed + running) (total_of counts running) cells = cc in
    part_as c.args.out.now c.push_cells.new.out c.args.has_colour _ _ (same_bar _ _ _ _ _ _ cells done ended begun) c.push_cells.ensures
