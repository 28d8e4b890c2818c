-- One step of the walk over the modules of an address.
use Rattle.std.proofs.Common.{◌≡◌, ℕ, zero, suc, ◌+◌, ◌-◌, ◌<◌, ◌==◌, List, ◌∷◌, drop, get_or, length, true, nat_eq, if◌then◌else◌, refl, sym, ap, ◌∙◌, arith}
use Rattle.std.specs.Prelude.{codes}
use Rattle.std.specs.List.{starts_with}
use Rattle.std.proofs.lemmas.List.{drop_more}
use Rattle.input_validate.specs.NearestAddresses.{after_modules}

module_first : (byte : ℕ) (bytes : List ℕ) → starts_with nat_eq (byte ∷ bytes) (codes "module.") ≡ true
    → after_modules 0 (byte ∷ bytes) ≡ after_modules 2 bytes
module_first byte bytes begins = rw begins refl

-- a module begins with the byte n
pub module_begun : (address : List ℕ) (n : ℕ) → n < length address → starts_with nat_eq (drop n address) (codes "module.") ≡ true
    → after_modules 0 (drop n address) ≡ after_modules 2 (drop (n + 1) address)
module_begun address n less begins =
    ap (after_modules 0) (drop_more address n 0 less)
    ∙ module_first (get_or address n 0) (drop (n + 1) address) (ap (λ (text : List ℕ). starts_with nat_eq text (codes "module.")) (sym (drop_more address n 0 less)) ∙ begins)

within_module : (dots byte : ℕ) (bytes : List ℕ) → (dots ≡ 0 → ⊥)
    → after_modules dots (byte ∷ bytes) ≡ after_modules (if byte == 46 then dots - 1 else dots) bytes
within_module zero byte bytes some = absurd (some refl)
within_module (suc dots) byte bytes some =
    ap (λ (n : ℕ). after_modules (if byte == 46 then n else suc dots) bytes) (let e : dots ≡ suc dots - 1 = omega arith in e)

-- the byte n is part of a module
pub module_continued : (address : List ℕ) (n dots : ℕ) → n < length address → (dots ≡ 0 → ⊥)
    → after_modules dots (drop n address) ≡ after_modules (if get_or address n 0 == 46 then dots - 1 else dots) (drop (n + 1) address)
module_continued address n dots less some =
    ap (after_modules dots) (drop_more address n 0 less) ∙ within_module dots (get_or address n 0) (drop (n + 1) address) some
