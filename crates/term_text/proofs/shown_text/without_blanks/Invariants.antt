use Rattle.std.proofs.Common.{◌≡◌, ◌++◌, ◌-◌, ◌≤◌, length, replicate, take}
use Rattle.term_text.proofs.shown_text.without_blanks.Given as goal

abbrev pub invariant-back : goal.invariant-back
invariant-back l =
    (l.len ≤ length l.characters) × (l.characters ≡ take l.len l.characters ++ replicate (length l.characters - l.len) 32)

abbrev pub decreases-back : goal.decreases-back
decreases-back l = l.len
