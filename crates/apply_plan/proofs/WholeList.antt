-- Reading a list one by one gives what is defined over the whole list. The results for an element
-- must agree, by the elements before it and by the results before it.
use Rattle.std.proofs.Common.{◌≡◌, ℕ, ◌+◌, List, [], ◌∷◌, ◌++◌, length, take, map, Result, Ok, Err, refl, sym, ap, ◌∙◌, append_assoc, arith}
use Rattle.std.specs.List.{enumerate_from}
use Rattle.std.proofs.lemmas.List.{append-nil, length-append, take_at}
use Rattle.serde_json.specs.Data.{Data, Items, no_items, item}
use Rattle.apply_json.specs.Tree.{list_of}
use Rattle.apply_plan.specs.ListReading.{made_after}
use Rattle.apply_plan.specs.Results.{◌>>=◌, all_or_first, each_with_earlier}
use Rattle.apply_plan.proofs.Results.{done}

-- The two results for an element agree, and still agree with one element more.
pub record AnswersAlike {A E : Type 0} (after : List A → Data → Result A E) (at : List Data → Data → Result A E) (AreOf : List Data → List A → Type 0) : Type 0 where
  pub none : AreOf [] []
  pub same : (before : List Data) (made : List A) (d : Data) → AreOf before made → after made d ≡ at before d
  pub more : (before : List Data) (made : List A) (d : Data) (one : A) → AreOf before made → after made d ≡ Ok one → AreOf (before ++ d ∷ []) (made ++ one ∷ [])

-- the results for the elements from the n-th on
abbrev answers : {A E : Type 0} → (List Data → Data → Result A E) → List Data → ℕ → List Data → List (Result A E)
answers at all n ds = map (λ p. at (take p.0 all) p.1) (enumerate_from n ds)

abbrev behind : {A E : Type 0} → List A → Result (List A) E → Result (List A) E
behind made r = r >>= λ others. Ok (made ++ others)

regroup : {A E : Type 0} (made : List A) (one : A) (r : Result (List A) E)
    → behind (made ++ one ∷ []) r ≡ ((r >>= λ others. Ok (one ∷ others)) >>= λ others. Ok (made ++ others))
regroup {A} {E} made one (Ok others) = ap (λ (all : List A). done {E = E} all) (append_assoc made (one ∷ []) others)
regroup made one (Err e) = refl

by_answer : {A E : Type 0} (made : List A) (next : A → Result (List A) E) (others : Result (List A) E) (r s : Result A E)
    → r ≡ s → ((one : A) → r ≡ Ok one → next one ≡ behind (made ++ one ∷ []) others)
    → (r >>= next) ≡ behind made (s >>= λ one. (others >>= λ more. Ok (one ∷ more)))
by_answer made next others (Ok one) s same further = rw (← same) (further one refl ∙ regroup made one others)
by_answer made next others (Err e) s same further = rw (← same) refl

one_by_one : {A E : Type 0} (after : List A → Data → Result A E) (at : List Data → Data → Result A E) (AreOf : List Data → List A → Type 0) → AnswersAlike after at AreOf
    → (rest : Items) (before : List Data) (made : List A) (all : List Data) → all ≡ before ++ list_of rest → AreOf before made
    → made_after after made rest ≡ behind made (all_or_first (answers at all (length before) (list_of rest)))
unfolding made_after
one_by_one {A} {E} after at AreOf alike no_items before made all whole are = ap (λ (x : List A). done {E = E} x) (sym (append-nil made))
one_by_one after at AreOf alike (item d ds) before made all whole are =
    let front : take (length before) all ≡ before = rw whole (take_at before (d ∷ list_of ds) (length before) refl) in
    let answer : after made d ≡ at (take (length before) all) d = rw front (alike.same before made d are) in
    let one_more : length (before ++ d ∷ []) ≡ length before + 1 = omega (arith, length-append before (d ∷ [])) in
    let further : (one : _) → after made d ≡ Ok one → made_after after (made ++ one ∷ []) ds ≡ behind (made ++ one ∷ []) (all_or_first (answers at all (length before + 1) (list_of ds))) = λ one e.
    one_by_one after at AreOf alike ds (before ++ d ∷ []) (made ++ one ∷ []) all (whole ∙ sym (append_assoc before (d ∷ []) (list_of ds))) (alike.more before made d one are e)
    ∙ ap (λ (n : ℕ). behind (made ++ one ∷ []) (all_or_first (answers at all n (list_of ds)))) one_more in
    by_answer made (λ one. made_after after (made ++ one ∷ []) ds) (all_or_first (answers at all (length before + 1) (list_of ds))) (after made d) (at (take (length before) all) d) answer further

behind_nothing : {A E : Type 0} (r : Result (List A) E) → behind [] r ≡ r
behind_nothing (Ok made) = refl
behind_nothing (Err e) = refl

pub read_one_by_one : {A E : Type 0} (after : List A → Data → Result A E) (at : List Data → Data → Result A E) (AreOf : List Data → List A → Type 0) → AnswersAlike after at AreOf
    → (ds : Items) → made_after after [] ds ≡ all_or_first (each_with_earlier at (list_of ds))
read_one_by_one after at AreOf alike ds =
    one_by_one after at AreOf alike ds [] [] (list_of ds) refl alike.none ∙ behind_nothing (all_or_first (answers at (list_of ds) 0 (list_of ds)))
