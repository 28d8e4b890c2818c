use Rattle.std.proofs.Common.{◌≡◌, ◌++◌, length, take, string_bytes}
use Rattle.term_text.specs.Shown.{shown_after, shown_text}
use Rattle.term_text.proofs.controls.push_until.Given as goal

-- the appended text followed by the rest, and the text before
abbrev pub invariant-loop-text : goal.invariant-loop-text
invariant-loop-text l = record {
  added : string_bytes l.text ++ shown_after l.start l.rest ≡ string_bytes l.fn.text ++ shown_text l.bytes;
  kept : take (length (string_bytes l.fn.text)) (string_bytes l.text) ≡ string_bytes l.fn.text;
}

abbrev pub decreases-loop-text : goal.decreases-loop-text
decreases-loop-text l = length l.rest
