-- How many more items of `after` a script may have.
use Rattle.std.proofs.Common.{◌≡◌, ℕ, ◌+◌, ◌-◌, List, Bool, true, false, is_some, Option, Some, None, if◌then◌else◌, refl, ap, arith}
use Rattle.std.specs.Prelude.{nat_lt, nat_le}
use Rattle.std.specs.List.{sum_by}
use Rattle.std.specs.Option.{option_and_then, option_copied}
use Rattle.std.proofs.lemmas.Bool.{le-ltb}
use Rattle.std.proofs.lemmas.Bool.Decides.{nat_tests}
use denote.Ref.{Bor}
use Rattle.serde_json.specs.Data.{Data}
use Rattle.apply_model.specs.Script.Limits.{max_waits}
use Rattle.input_validate.specs.AgainstPlan.{waits_left_after, waits_in, waits_left}

-- how many items a script may still have after these steps
pub after_over : (most : ℕ) (ds : List Data) → nat_lt most (sum_by waits_in ds) ≡ true → None ≡ waits_left_after most ds
after_over most ds e = rw e refl

pub after_left : (most left : ℕ) (ds : List Data) → left + sum_by waits_in ds ≡ most → Some left ≡ waits_left_after most ds
after_left most left ds e =
    let taken : ℕ = sum_by waits_in ds in
    let none : nat_lt most taken ≡ false = le-ltb most taken (let q : left + taken ≡ most = e in omega arith) in
    let rest : left ≡ most - taken = (let q : left + taken ≡ most = e in omega arith) in
    rw none (ap (λ (n : ℕ). Some n) rest)

by_more : (b : Bool) (count w : ℕ) → nat_le count max_waits ≡ true → nat_lt (max_waits - count) w ≡ b
    → (let o : Option ℕ = if b then None else Some (max_waits - count - w) in o) ≡ waits_left (count + w)
by_more true count w few e =
    let over : nat_le (count + w) max_waits ≡ false = grind (arith, nat_tests) in
    rw over refl
by_more false count w few e =
    let fits : nat_le (count + w) max_waits ≡ true = grind (arith, nat_tests) in
    let same : max_waits - count - w ≡ max_waits - (count + w) = omega arith in
    rw fits (ap (λ (n : ℕ). Some n) same)

by_left : (b : Bool) (count w : ℕ) → nat_le count max_waits ≡ b
    → option_and_then (λ most. let o : Option ℕ = if nat_lt most w then None else Some (most - w) in o) (let p : Option ℕ = if b then Some (max_waits - count) else None in p) ≡ waits_left (count + w)
by_left false count w e =
    let over : nat_le (count + w) max_waits ≡ false = grind (arith, nat_tests) in
    rw over refl
by_left true count w e = by_more (nat_lt (max_waits - count) w) count w e refl

pub left_more : (count w : ℕ) → option_and_then (λ most. let o : Option ℕ = if nat_lt most w then None else Some (most - w) in o) (waits_left count) ≡ waits_left (count + w)
left_more count w = by_left (nat_le count max_waits) count w refl

pub some_copied : {A : Type 0} (o : Option (Bor A)) → is_some (option_copied o) ≡ is_some o
some_copied None = refl
some_copied (Some x) = refl
