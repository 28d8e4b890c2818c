use Rattle.std.proofs.Common.{length}
use denote.Text.{Utf8}
use denote.Shadow.{shadow}
use Rattle.apply_address.proofs.Modules.{IsLeft}
use Rattle.apply_address.proofs.address_parts.last_after_modules.Given as goal

abbrev pub invariant-loop-last : goal.invariant-loop-last
invariant-loop-last l = record {
  text : shadow (Utf8 l.rest);
  left : IsLeft l.rest l.text;
}

abbrev pub decreases-loop-last : goal.decreases-loop-last
decreases-loop-last l = length l.rest
