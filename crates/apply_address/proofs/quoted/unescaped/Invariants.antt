use Rattle.std.proofs.Common.{length, string_bytes}
use denote.Text.{Utf8}
use denote.Shadow.{shadow}
use Rattle.apply_address.proofs.Quotes.{IsUnescaped}
use Rattle.apply_address.proofs.quoted.unescaped.Given as goal

abbrev pub invariant-loop-character : goal.invariant-loop-character
invariant-loop-character l = record {
  text : shadow (Utf8 l.rest);
  so_far : IsUnescaped (string_bytes l.content) l.rest l.text;
}

abbrev pub decreases-loop-character : goal.decreases-loop-character
decreases-loop-character l = length l.rest
