use Rattle.std.proofs.Common.{None, Some, ◌++◌, ◌-◌}
use Rattle.term_text.specs.declared.rendition.Rendition.TheVariants as rendition
use Rattle.stream_panel.specs.Bar.{bar_up_to}
use Rattle.stream_panel.specs.Stretches.{copies}
use Rattle.stream_panel.proofs.Parts.{copies_as, part_then}
use Rattle.stream_panel.proofs.bar.push_cells.Goals as goal

pub returns : goal.returns
unfolding bar_up_to
returns c =
    let colour = c.args.has_colour in
    let done = c.args.done in
    let ended = c.args.ended in
    let begun = c.args.begun in
    let cells = c.args.cells in
    let t0 = c.args.out.now in
    let t1 = c.push_copies.new.out in
    let t2 = c.push_copies-2.new.out in
    let t3 = c.push_copies-3.new.out in
    let t4 = c.push_copies-4.new.out in
    let full = copies (Some rendition.Green) 0x2588 done in
    let lost = copies (Some rendition.Red) 0x2593 (ended - done) in
    let under = copies None 0x2592 (begun - ended) in
    let left = copies (Some rendition.Dim) 0x2591 (cells - begun) in
    let failed = copies_as t1 t2 colour (Some rendition.Red) 0x2593 c.saturating_sub.result (ended - done) c.saturating_sub.ensures c.push_copies-2.ensures in
    let running = copies_as t2 t3 colour None 0x2592 c.saturating_sub-2.result (begun - ended) c.saturating_sub-2.ensures c.push_copies-3.ensures in
    let rest = copies_as t3 t4 colour (Some rendition.Dim) 0x2591 c.saturating_sub-3.result (cells - begun) c.saturating_sub-3.ensures c.push_copies-4.ensures in
    let w2 = part_then t0 t1 t2 colour full lost c.push_copies.ensures failed in
    let w3 = part_then t0 t2 t3 colour (full ++ lost) under w2 running in
    part_then t0 t3 t4 colour (full ++ lost ++ under) left w3 rest
