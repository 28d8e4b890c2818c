-- Where names end.
use Rattle.std.proofs.Common.{◌≡◌, ℕ, ◌<◌, false, not, List, get_or, ap, arith}
use Rattle.std.specs.List.{position_or_len}
use Rattle.std.specs.Str.{IsCharBoundary}
use Rattle.std.proofs.lemmas.Bool.Decides.{nat_tests}
use Rattle.std.proofs.lemmas.List.Sums.{prefix_len-le-length, prefix_len_stops}
use Rattle.apply_address.specs.Names.{is_delimiter}

pub delimiter_ascii : (byte : ℕ) → not (is_delimiter byte) ≡ false → byte < 128
delimiter_ascii byte is = grind (arith, nat_tests)

-- a text can be cut where a name ends
pub delimiter_boundary : (text : List ℕ) (size : ℕ) → size ≡ position_or_len is_delimiter text → IsCharBoundary text size
delimiter_boundary text size is = (
  omega (arith, prefix_len-le-length (λ byte. not (is_delimiter byte)) text),
  λ less high. let low = delimiter_ascii (get_or text (position_or_len is_delimiter text) 0) (prefix_len_stops (λ byte. not (is_delimiter byte)) text 0 (rw (← is) less)) in
      absurd (let same : get_or text size 0 ≡ get_or text (position_or_len is_delimiter text) 0 = ap (λ k. get_or text k 0) is in omega arith),
)
