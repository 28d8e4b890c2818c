use Rattle.std.proofs.Common.{◌≡◌, ℕ, ◌≤◌, List, length}
use Rattle.json.specs.Json.{items, parse_map, value}
use Rattle.serde_json.specs.Data.{Data}
use Rattle.serde_json.specs.Read.{converted}
use Rattle.apply_json.specs.Verbatim.{mixed_items}
use Rattle.apply_json.proofs.Gathered.{before}
use Rattle.apply_json.proofs.collector.read_items.Given as goal

abbrev pub invariant-items : goal.invariant-items
invariant-items g l =
    (n : ℕ) × (length l.reader ≤ n) × (ds : List Data) × g.C.Collector.holds l.initial.collector l.collector ds
    × (converted (mixed_items g.C.Collector.is_verbatim) (items (value l.depth) (length l.initial.reader) l.initial.reader)
    ≡ parse_map (before ds) (converted (mixed_items g.C.Collector.is_verbatim) (items (value l.depth) n l.reader)))
    × (length l.reader ≤ length l.initial.reader)

abbrev pub decreases-items : goal.decreases-items
decreases-items g l = length l.reader
