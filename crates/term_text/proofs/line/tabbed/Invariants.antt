use Rattle.std.proofs.Common.{◌≡◌, ◌-◌, ◌≤◌, ◌++◌, [], drop, string_bytes, take}
use Rattle.term_text.specs.LineTexts.{tabbed_after}
use Rattle.term_text.proofs.line.tabbed.Given as goal

abbrev pub invariant-loop-place : goal.invariant-loop-place
invariant-loop-place l =
    (l.start ≤ l.place)
    × (string_bytes l.text ++ tabbed_after (take (l.place - l.start) (drop l.start l.bytes)) (drop l.place l.bytes) ≡ tabbed_after [] l.bytes)
