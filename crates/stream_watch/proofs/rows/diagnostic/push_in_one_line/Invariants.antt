use denote.Text.{Utf8}
use denote.Shadow.{shadow}
use Rattle.std.proofs.Common.{◌≡◌, map, string_bytes, take}
use Rattle.std.specs.Prelude.{codes}
use Rattle.term_words.specs.MessageTexts.{AppendsText}
use Rattle.stream_watch.specs.DiagnosticRow.{in_one_line}
use Rattle.stream_watch.specs.Joined.{before_more}
use Rattle.stream_watch.proofs.rows.diagnostic.push_in_one_line.Given as goal

abbrev pub invariant-loop-line : goal.invariant-loop-line
invariant-loop-line l = record {
  words : AppendsText l.initial.text l.text (in_one_line (map string_bytes (take l.line-index l.lines)));
  is_text : shadow (Utf8 l.separator);
  separator : l.separator ≡ before_more (codes " ") (map string_bytes (take l.line-index l.lines));
}
