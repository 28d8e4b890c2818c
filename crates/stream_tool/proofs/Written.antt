-- What is written after one more write.
use Rattle.std.proofs.Common.{ℕ, ◌+◌, ◌-◌, List, Option, length, take, take-add, drop, subst, sym}
use Rattle.std.specs.Io.KnownBytes.{Appends}
use Rattle.std.proofs.KnownBytes.{Appends-trans}
use Rattle.std.proofs.lemmas.List.{take_rest}

pub written_more : (a b c : Option (List ℕ)) (bytes : List ℕ) (i n : ℕ) → Appends a b (take i bytes) → Appends b c (take n (take (length bytes - i) (drop i bytes))) → Appends a c (take (i + n) bytes)
written_more a b c bytes i n before more =
    subst (Appends a c) (sym (take-add i n bytes))
    (Appends-trans a b c (take i bytes) (take n (drop i bytes)) before (subst (λ (xs : List ℕ). Appends b c (take n xs)) (take_rest bytes i) more))
