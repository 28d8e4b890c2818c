use Rattle.std.proofs.Common.{◌≡◌, ◌+◌, ◌≤◌, length, take}
use Rattle.std.specs.List.{suffix_len}
use Rattle.term_text.specs.LineTexts.{is_spacing}
use Rattle.term_text.proofs.line.without_spacing.Given as goal

abbrev pub invariant-back : goal.invariant-back
invariant-back l =
    (l.len ≤ length l.bytes) × (l.len + suffix_len is_spacing l.bytes ≡ length l.bytes + suffix_len is_spacing (take l.len l.bytes))

abbrev pub decreases-back : goal.decreases-back
decreases-back l = l.len
