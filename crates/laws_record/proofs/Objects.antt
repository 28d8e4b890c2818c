-- An object's name finds its change.
use Rattle.std.proofs.Common.{◌≡◌, ℕ, zero, suc, ◌+◌, List, [], ◌∷◌, Bool, true, false, cond, slice_get, Option, Some, None, refl, sym, ap, ◌∙◌, subst, arith}
use Rattle.std.specs.Prelude.{◌&&◌, find, IfSome}
use Rattle.std.specs.List.{AllByRecursion, enumerate_from}
use Rattle.std.specs.Option.{option_eq}
use Rattle.std.specs.Str.{bytes_eq}
use Rattle.std.proofs.lemmas.Bool.{and_parts}
use Rattle.std.proofs.lemmas.Option.{same_Some}
use Rattle.std.proofs.lemmas.Slice.Eq.{bytes_eq-Decides}
use Rattle.apply_model.specs.Plan.ResourceChange.{ResourceChange}
use Rattle.apply_resolve.specs.ObjectName.{name_one_object}
use Rattle.laws_record.specs.Writable.{IsWritableChange, NamesEachObjectOnce}
use Rattle.laws_record.proofs.WaitTexts.{AreWritable}

-- the element at a place
pub held_at : {A : Type 0} (P : A → Type 0) (xs : List A) (k : ℕ) → AllByRecursion P xs → IfSome (slice_get xs k) P
held_at P [] k h = tt
held_at P (x ∷ xs) zero h = h.0
held_at P (x ∷ xs) (suc k) h = held_at P xs k h.1

pub at_place : {A : Type 0} (P : A → Type 0) (o : Option A) (a : A) → IfSome o P → o ≡ Some a → P a
at_place P None a h e = absurd cc
at_place P (Some x) a h e = subst P (same_Some x a e) h

pub all_writable : (changes : List ResourceChange) → AllByRecursion IsWritableChange changes → AreWritable changes
all_writable changes all = λ c. held_at IsWritableChange changes c all

same_bytes : (bytes : List ℕ) → bytes_eq bytes bytes ≡ true
same_bytes bytes = (bytes_eq-Decides bytes bytes).1 refl

same_key : (key : Option (List ℕ)) → option_eq bytes_eq key key ≡ true
same_key None = refl
same_key (Some key) = same_bytes key

key_is : (one other : Option (List ℕ)) → option_eq bytes_eq one other ≡ true → one ≡ other
key_is None None e = refl
key_is None (Some y) e = absurd cc
key_is (Some x) None e = absurd cc
key_is (Some x) (Some y) e = ap Some ((bytes_eq-Decides x y).0 e)

own_name : (change : ResourceChange) → name_one_object change.address change.deposed change.address change.deposed ≡ true
own_name change = λ i. same_bytes change.address i && same_key change.deposed i

other_name : (one other : ResourceChange) → ¬ ((other.address ≡ one.address) × (other.deposed ≡ one.deposed)) → name_one_object one.address one.deposed other.address other.deposed ≡ false
other_name one other differ = of_test (name_one_object one.address one.deposed other.address other.deposed) refl
  where
    of_test : (b : Bool) → name_one_object one.address one.deposed other.address other.deposed ≡ b → b ≡ false
    of_test false is = refl
    of_test true is =
        let both = and_parts (bytes_eq one.address other.address) (option_eq bytes_eq one.deposed other.deposed) is in
        absurd (differ (sym ((bytes_eq-Decides one.address other.address).0 both.0), sym (key_is one.deposed other.deposed both.1)))

abbrev pub names : ResourceChange → ℕ × ResourceChange → Bool
names change p = name_one_object p.1.address p.1.deposed change.address change.deposed

pub located : (first k : ℕ) (changes : List ResourceChange) (change : ResourceChange) → NamesEachObjectOnce changes → slice_get changes k ≡ Some change
    → find (names change) (enumerate_from first changes) ≡ Some (first + k, change)
located first k [] change once is = absurd cc
located first zero (x ∷ xs) change once is =
    let same = same_Some x change is in
    let place : first ≡ first + 0 = omega arith in
    subst (λ (c : ResourceChange). find (names c) (enumerate_from first (x ∷ xs)) ≡ Some (first + 0, c)) same
    ((λ i. cond (own_name x i) (Some (first, x)) (find (names x) (enumerate_from (first + 1) xs))) ∙ ap (λ n. Some (n, x)) place)
located first (suc k) (x ∷ xs) change once is =
    let differ = at_place (λ (other : ResourceChange). ¬ ((other.address ≡ x.address) × (other.deposed ≡ x.deposed))) (slice_get xs k) change (held_at _ xs k once.0) is in
    let other = other_name x change differ in
    let place : first + 1 + k ≡ first + suc k = omega arith in
    (λ i. cond (other i) (Some (first, x)) (find (names change) (enumerate_from (first + 1) xs)))
    ∙ located (first + 1) k xs change once.1 is ∙ ap (λ n. Some (n, change)) place
