-- The address within its module is the text after the module's address and a dot.
use Rattle.std.proofs.Common.{◌≡◌, ℕ, ◌+◌, false, List, [], ◌∷◌, length, drop, codes, nat_eq, Option, Some, None, refl, sym, ap, subst, ◌∙◌}
use Rattle.std.specs.Prelude.{if◌then◌else◌, option_and_then}
use Rattle.std.specs.List.{starts_with}
use Rattle.std.specs.Option.{option_copied}
use Rattle.std.proofs.lemmas.List.{drop-drop}
use Rattle.std.proofs.lemmas.Option.{cond_some}
use denote.Ref.{Bor}
use Rattle.apply_model.specs.Plan.Address.{after_prefix, is_empty, relative_address}

after_prefix_some : (prefix text answer : List ℕ) → after_prefix prefix text ≡ Some answer → drop (length prefix) text ≡ answer
after_prefix_some prefix text answer e = (cond_some (starts_with nat_eq text prefix) (drop (length prefix) text) answer e).1

-- the value of a step that had an answer
and_then_some : {A B : Type 0} (f : A → Option B) (o : Option A) (y : B) → option_and_then f o ≡ Some y → (x : A) × (o ≡ Some x) × (f x ≡ Some y)
and_then_some f None y e = absurd cc
and_then_some f (Some x) y e = (x, refl, e)

-- what is left is all of it, and something
pub left_some : (text answer : List ℕ) → (if is_empty text then None else Some text) ≡ Some answer → (text ≡ answer) × (is_empty answer ≡ false)
left_some [] answer e = absurd cc
left_some (byte ∷ bytes) answer e =
    let same : byte ∷ bytes ≡ answer = cc in
    (same, subst (λ (text : List ℕ). is_empty text ≡ false) same refl)

-- what follows the module's address and a dot, one after the other
pub below_module : (module_address address answer : List ℕ)
    → option_and_then (λ relative. if is_empty relative then None else Some relative) (option_and_then (after_prefix (codes ".")) (after_prefix module_address address)) ≡ Some answer
    → (remainder : List ℕ) × (after_prefix module_address address ≡ Some remainder) × (after_prefix (codes ".") remainder ≡ Some answer) × (is_empty answer ≡ false)
below_module module_address address answer e =
    let left = and_then_some (λ relative. if is_empty relative then None else Some relative) (option_and_then (after_prefix (codes ".")) (after_prefix module_address address)) answer e in
    let dotted = and_then_some (after_prefix (codes ".")) (after_prefix module_address address) left.0 left.1 in
    let all = left_some left.0 answer left.2 in
    (dotted.0, dotted.1, dotted.2 ∙ ap (λ (rest : List ℕ). Some rest) all.0, all.1)

pub relative_is : (module_address address answer : List ℕ) → relative_address module_address address ≡ Some answer → answer ≡ (if is_empty module_address then address else drop (length module_address + 1) address)
relative_is [] address answer e = sym (left_some address answer e).0
relative_is (byte ∷ bytes) address answer e =
    let below = below_module (byte ∷ bytes) address answer e in
    sym (after_prefix_some (codes ".") below.0 answer below.2)
    ∙ ap (λ (rest : List ℕ). drop 1 rest) (sym (after_prefix_some (byte ∷ bytes) address below.0 below.1))
    ∙ drop-drop 1 (length (byte ∷ bytes)) address

-- the same through the copies that the calls give
pub relative_answer : (m a module_address address : List ℕ) (r : Option (Bor (List ℕ))) (x : Bor (List ℕ)) → m ≡ module_address → a ≡ address
    → option_copied r ≡ relative_address m a → r ≡ Some x → x.now ≡ (if is_empty module_address then address else drop (length module_address + 1) address)
relative_answer m a module_address address r x same_module same_address given some =
    relative_is module_address address x.now
    (ap (λ (b : List ℕ). relative_address b address) (sym same_module) ∙ ap (λ (b : List ℕ). relative_address m b) (sym same_address) ∙ sym given ∙ ap (λ (o : Option (Bor (List ℕ))). option_copied o) some)
