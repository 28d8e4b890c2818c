use Rattle.std.proofs.Common.{◌≡◌, take}
use Rattle.std.specs.Str.Parse.{AllDigits, digits_value}
use Rattle.apply_address.proofs.pieces.hexadecimal.Given as goal

abbrev pub invariant-loop-digit : goal.invariant-loop-digit
invariant-loop-digit l = record {
  all : AllDigits 16 (take l.digit-index l.digits);
  value : l.value ≡ digits_value 16 (take l.digit-index l.digits);
}
