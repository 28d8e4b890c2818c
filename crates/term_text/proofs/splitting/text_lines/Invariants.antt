use Rattle.std.proofs.Common.{◌≡◌, map, string_bytes}
use Rattle.term_text.specs.LineTexts.{line_text, without_empty_front}
use Rattle.term_text.proofs.splitting.text_lines.Given as goal

abbrev pub invariant-loop-line : goal.invariant-loop-line
invariant-loop-line l = map string_bytes l.lines.items ≡ without_empty_front (map line_text (map (λ line. line.now) l.yielded))
