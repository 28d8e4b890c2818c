-- Lists of items that pass a test.
use Rattle.std.proofs.Common.{◌≡◌, ◌∙◌, Bool, true, false, cond, List, [], ◌∷◌, ◌++◌, filter, refl, sym, ap, subst, ◌⊎◌, inl, inr, ⊎_elim}
use Rattle.std.specs.List.{Contains, list_any}
use Rattle.std.proofs.lemmas.Bool.{cases_Bool, true≢false}
use Rattle.apply_events.proofs.Waits.Members.{any_in, filter_in, in_any, in_cases, in_head, in_tail}

-- an item among those that pass stands in the list before the same of them
pub record IsAmong {X : Type 0} (test : X → Bool) (xs : List X) (x : X) (later : List X) : Type 0 where
  pub before : List X
  pub after : List X
  pub are : xs ≡ before ++ x ∷ after
  pub kept : filter test after ≡ later

pub none_there : {X : Type 0} (before later : List X) (x : X) → [] ≡ before ++ x ∷ later → ⊥
none_there [] later x is = cc
none_there (y ∷ before) later x is = cc

one_more : {X : Type 0} (test : X → Bool) (y : X) (xs : List X) (x : X) (later : List X) → IsAmong test xs x later → IsAmong test (y ∷ xs) x later
one_more test y xs x later is = record { before = y ∷ is.before; after = is.after; are = ap (λ l. y ∷ l) is.are; kept = is.kept }

pub among : {X : Type 0} (test : X → Bool) (xs before later : List X) (x : X) → filter test xs ≡ before ++ x ∷ later → IsAmong test xs x later
among test [] before later x is = absurd (none_there before later x is)
among {X = X} test (y ∷ xs) before later x is = by (test y) refl before (λ front rest. among test xs front later x rest) is
  where
    by : (b : Bool) → test y ≡ b → (before : List X) → ((front : List X) → filter test xs ≡ front ++ x ∷ later → IsAmong test xs x later)
        → filter test (y ∷ xs) ≡ before ++ x ∷ later → IsAmong test (y ∷ xs) x later
    by false passes before in_rest is = one_more test y xs x later (in_rest before (sym (ap (λ b. cond b (y ∷ filter test xs) (filter test xs)) passes) ∙ is))
    by true passes [] in_rest is =
        let both : y ∷ filter test xs ≡ x ∷ later = sym (ap (λ b. cond b (y ∷ filter test xs) (filter test xs)) passes) ∙ is in
        let first : y ≡ x = cc in
        let rest : filter test xs ≡ later = cc in
        record { before = []; after = xs; are = ap (λ z. z ∷ xs) first; kept = rest }
    by true passes (z ∷ before) in_rest is =
        let both : y ∷ filter test xs ≡ z ∷ (before ++ x ∷ later) = sym (ap (λ b. cond b (y ∷ filter test xs) (filter test xs)) passes) ∙ is in
        let rest : filter test xs ≡ before ++ x ∷ later = cc in
        one_more test y xs x later (in_rest before rest)

pub in_either : {X : Type 0} (xs ys : List X) (x : X) → Contains (xs ++ ys) x → Contains xs x ⊎ Contains ys x
in_either [] ys x has = inr has
in_either (y ∷ xs) ys x has = ⊎_elim
    (λ (here : y ≡ x). inl (subst (Contains (y ∷ xs)) here (in_head y xs)))
    (λ (there : Contains (xs ++ ys) x). ⊎_elim (λ (one : Contains xs x). inl (in_tail y xs x one)) (λ (other : Contains ys x). inr other) (in_either xs ys x there))
    (in_cases y (xs ++ ys) x has)

-- where no item passes, none of some items does
pub none_kept : {X : Type 0} (wanted test : X → Bool) (xs : List X) → list_any wanted xs ≡ false → list_any wanted (filter test xs) ≡ false
none_kept wanted test xs none = ⊎_elim
    (λ (some : list_any wanted (filter test xs) ≡ true).
    let one = in_any wanted (filter test xs) some in
    absurd (true≢false (sym (any_in wanted xs one.0 (filter_in test xs one.0 one.1).0 one.2) ∙ none)))
    (λ (is : list_any wanted (filter test xs) ≡ false). is)
    (cases_Bool (list_any wanted (filter test xs)))
