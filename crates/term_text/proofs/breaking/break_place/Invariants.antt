use Rattle.std.proofs.Common.{◌≡◌, ◌+◌, ◌/◌, ◌≤◌}
use Rattle.term_text.specs.Breaking.{last_blank}
use Rattle.term_text.proofs.breaking.break_place.Given as goal

abbrev pub invariant-back : goal.invariant-back
invariant-back l =
    (l.place ≤ l.count) × (last_blank (l.count / 3 + 1) l.place l.characters ≡ last_blank (l.count / 3 + 1) l.count l.characters)

abbrev pub decreases-back : goal.decreases-back
decreases-back l = l.place
