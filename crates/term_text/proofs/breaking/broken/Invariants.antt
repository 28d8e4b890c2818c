use Rattle.std.proofs.Common.{◌≡◌, ◌++◌, ◌<◌, ℕ, length}
use Rattle.term_text.specs.Breaking.{broken, pieces_within}
use Rattle.term_text.proofs.breaking.broken.Given as goal

abbrev pub invariant-pieces : goal.invariant-pieces
invariant-pieces l =
    (turns : ℕ) × (length l.rest < turns) × (l.pieces.items ++ pieces_within turns l.columns l.rest ≡ broken l.columns l.text)

abbrev pub decreases-pieces : goal.decreases-pieces
decreases-pieces l = length l.rest
