use Rattle.std.proofs.Common.{◌≤◌, length}
use denote.Text.{Utf8}
use denote.Shadow.{shadow}
use Rattle.apply_address.proofs.Quotes.{IsLeft}
use Rattle.apply_address.proofs.quoted.after_text.Given as goal

abbrev pub invariant-loop-remainder : goal.invariant-loop-remainder
invariant-loop-remainder l = record {
  text : shadow (Utf8 l.rest);
  left : IsLeft l.rest l.text;
  no_longer : length l.rest ≤ length l.text;
}

abbrev pub decreases-loop-remainder : goal.decreases-loop-remainder
decreases-loop-remainder l = length l.rest
