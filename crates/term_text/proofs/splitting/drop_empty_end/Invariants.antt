use Rattle.std.proofs.Common.{◌≡◌, ◌+◌, ◌≤◌, length, map, string_bytes, take}
use Rattle.std.specs.List.{suffix_len}
use Rattle.term_text.specs.LineTexts.{is_empty_line}
use Rattle.term_text.proofs.splitting.drop_empty_end.Given as goal

abbrev pub invariant-back : goal.invariant-back
invariant-back l =
    (l.len ≤ length l.lines.items)
    × (l.len + suffix_len is_empty_line (map string_bytes l.lines.items)
    ≡ length l.lines.items + suffix_len is_empty_line (take l.len (map string_bytes l.lines.items)))

abbrev pub decreases-back : goal.decreases-back
decreases-back l = l.len
