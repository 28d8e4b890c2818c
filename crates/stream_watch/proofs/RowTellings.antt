-- What a row tells, or what is told in its place.
use Rattle.std.proofs.Common.{◌≡◌, ℕ, Bool, true, false, List, [], ◌∷◌, ◌==◌, ◌<◌, arith, Option, None, Some, Result, Ok, Err, is_some, length, refl, subst, sym, unwrap_or}
use Rattle.std.specs.Prelude.{IfOk, OnOk}
use Rattle.std.proofs.lemmas.Bool.{false≢true}
use Rattle.std.proofs.lemmas.Bool.Decides.{nat_tests}
use Rattle.apply_json.specs.Tree.{is_empty}
use Rattle.term_words.proofs.Appended.{text_none}
use Rattle.stream_watch.specs.State.{Tells, Told, nothing, state_of}
use Rattle.stream_watch.specs.declared.watcher.Watcher.{Watcher}

pub tells_nothing : (a : Watcher) → Tells a a (nothing (state_of a))
tells_nothing a = record { looks = refl; find = refl; state = refl; bytes = text_none a.printer.printed }

-- ---- results

pub on_ok : {T E : Type 0} (r : Result T E) (P Q : Type 0) → OnOk r P → (P → Q) → OnOk r Q
on_ok (Ok x) P Q had then = then had
on_ok (Err e) P Q had then = had

pub told_ok : {T E : Type 0} (r : Result T E) (a b : Watcher) (s t : Told) → s ≡ t → OnOk r (Tells a b s) → OnOk r (Tells a b t)
told_ok r a b s t same = subst (λ (told : Told). OnOk r (Tells a b told)) same

-- what a row tells, by another name of it
pub row_is : {E : Type 0} (r : Result Bool E) (s t : Option Told) → s ≡ t → IfOk r (λ is. is ≡ is_some s) → IfOk r (λ is. is ≡ is_some t)
row_is r s t same = subst (λ (told : Option Told). IfOk r (λ is. is ≡ is_some told)) same

pub row_told_as : {E : Type 0} (r : Result Bool E) (a b : Watcher) (s t : Option Told) → s ≡ t → OnOk r (Tells a b (unwrap_or s (nothing (state_of a))))
    → OnOk r (Tells a b (unwrap_or t (nothing (state_of a))))
row_told_as r a b s t same = subst (λ (told : Option Told). OnOk r (Tells a b (unwrap_or told (nothing (state_of a))))) same

-- ---- a row or something else

pub told_some : {X : Type 0} (o : Option X) (x y : X) → is_some o ≡ true → unwrap_or o x ≡ unwrap_or o y
told_some None x y some = absurd (false≢true some)
told_some (Some z) x y some = refl

pub told_none : {X : Type 0} (o : Option X) (x : X) → is_some o ≡ false → unwrap_or o x ≡ x
told_none None x none = refl
told_none (Some z) x none = absurd (false≢true (sym none))

-- ---- texts

some_left : (n : ℕ) → 0 < n → (n == 0) ≡ false
some_left n some = grind (arith, nat_tests)

pub empty_is : (xs : List ℕ) → (length xs == 0) ≡ is_empty xs
empty_is [] = refl
empty_is (x ∷ xs) = some_left (length (x ∷ xs)) (omega arith)

pub none_listed : {X : Type 0} (xs : List X) → length xs ≡ 0 → [] ≡ xs
none_listed [] none = refl
none_listed (x ∷ xs) none = absurd (cc)
