-- The bar that shows how far the changes are.
use Rattle.std.specs.Prelude.{ℕ, ◌+◌, ◌-◌, ◌*◌, ◌/◌, ◌++◌, List, None, Some, max}
use Rattle.term_text.specs.declared.rendition.Rendition.TheVariants as rendition
use Rattle.stream_watch.specs.declared.counts.Counts.{Counts}
use Rattle.stream_panel.specs.Stretches.{Stretch, copies}

-- how many cells a part of all changes fills to their ends
abbrev pub full_cells : (part total cells : ℕ) → ℕ
full_cells part total cells = part * cells / total

-- how many cells a part of all changes reaches
abbrev pub reached_cells : (part total cells : ℕ) → ℕ
reached_cells part total cells = (part * cells + (total - 1)) / total

-- cells up to `done`, `ended` and `begun`, and the others
unfoldable pub bar_up_to : (done ended begun cells : ℕ) → List Stretch
bar_up_to done ended begun cells =
    copies (Some rendition.Green) 0x2588 done ++ copies (Some rendition.Red) 0x2593 (ended - done)
    ++ copies None 0x2592 (begun - ended) ++ copies (Some rendition.Dim) 0x2591 (cells - begun)

-- all changes: those that are planned, or those that began where they are more
abbrev pub total_of : Counts → (running : ℕ) → ℕ
total_of counts running = max counts.planned (counts.done + counts.failed + running)

-- changes that are done, those that failed, those that are open, and those that are left
unfoldable pub bar : Counts → (running cells : ℕ) → List Stretch
bar counts running cells = bar_up_to
    (full_cells counts.done (total_of counts running) cells)
    (full_cells (counts.done + counts.failed) (total_of counts running) cells)
    (reached_cells (counts.done + counts.failed + running) (total_of counts running) cells)
    cells
