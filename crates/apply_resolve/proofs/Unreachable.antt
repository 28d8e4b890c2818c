-- The entries with a step that could never begin, one by one.
use Rattle.std.proofs.Common.{◌≡◌, ℕ, zero, suc, ◌+◌, ◌*◌, ◌<◌, ◌≤◌, Bool, true, false, List, [], ◌∷◌, ◌++◌, length, drop, get_or, Option, Some, None, refl, sym, ap, ◌∙◌, add-one, arith}
use Rattle.std.specs.Prelude.{◌||◌, not, replicate}
use Rattle.std.specs.List.{list_any, position_from, range_with_len}
use Rattle.std.proofs.lemmas.List.{append-nil, append_assoc, drop_all, length-replicate}
use Rattle.std.proofs.lemmas.List.Folds.{list_any-append}
use Rattle.apply_model.proofs.Lists.{left_at}
use Rattle.apply_model.specs.Script.OutcomeMap.{OutcomeMap}
use Rattle.apply_model.specs.Script.Waits.{could_begin}
use Rattle.apply_resolve.specs.declared.visit_state.VisitState.{VisitState}
use Rattle.apply_resolve.specs.declared.visit_state.VisitState.TheVariants.{Unseen, OnPath, Begins, Unreachable}
use Rattle.apply_resolve.specs.VisitStates.{AreSettled, index_of, state_of}
use Rattle.apply_resolve.specs.Unreachable.{is_unreachable_at, numbers_from}

-- ---- the steps of one entry

range-push : (a n : ℕ) → range_with_len a (suc n) ≡ range_with_len a n ++ (a + n) ∷ []
range-push a zero = let same : a ≡ a + 0 = omega arith in ap (λ (x : ℕ). x ∷ []) same
range-push a (suc n) =
    let same : a + 1 + n ≡ a + suc n = omega arith in
    ap (λ (rest : List ℕ). a ∷ rest) (range-push (a + 1) n ∙ ap (λ (x : ℕ). range_with_len (a + 1) n ++ x ∷ []) same)

abbrev pub unreachable_below : OutcomeMap → (change count : ℕ) → Bool
unreachable_below script change count = list_any (λ step. not (could_begin script change step)) (range_with_len 0 count)

pub unreachable-push : (script : OutcomeMap) (change count : ℕ) → unreachable_below script change (count + 1) ≡ (unreachable_below script change count || not (could_begin script change count))
unreachable-push script change count =
    let test = λ (step : ℕ). not (could_begin script change step) in
    let place : 0 + count ≡ count = omega arith in
    ap (λ (n : ℕ). list_any test (range_with_len 0 n)) (add-one count)
    ∙ ap (list_any test) (range-push 0 count ∙ ap (λ (x : ℕ). range_with_len 0 count ++ x ∷ []) place)
    ∙ list_any-append test (range_with_len 0 count) (count ∷ [])
    ∙ ap (λ (b : Bool). list_any test (range_with_len 0 count) || b) (or_false (test count))
  where
    or_false : (b : Bool) → (b || false) ≡ b
    or_false true = refl
    or_false false = refl

pub none_unreachable_more : (script : OutcomeMap) (change count : ℕ) → unreachable_below script change count ≡ false → true ≡ could_begin script change count → unreachable_below script change (count + 1) ≡ false
none_unreachable_more script change count none begins = unreachable-push script change count ∙ rw (none, ← begins) refl

-- ---- the entries

abbrev pub unreachable_from : OutcomeMap → ℕ → List (ℕ × ℕ) → Option ℕ
unreachable_from script n entries = position_from (is_unreachable_at script) n (drop n entries)

pub unreachable_here : (script : OutcomeMap) (entries : List (ℕ × ℕ)) (n : ℕ) (entry : ℕ × ℕ) → n < length entries → entry ≡ get_or entries n entry → is_unreachable_at script entry ≡ true → unreachable_from script n entries ≡ Some n
unreachable_here script entries n entry below is unreachable = rw (left_at entries n entry below is, unreachable) refl

pub not_here : (script : OutcomeMap) (entries : List (ℕ × ℕ)) (n : ℕ) (entry : ℕ × ℕ) → n < length entries → entry ≡ get_or entries n entry → is_unreachable_at script entry ≡ false → unreachable_from script n entries ≡ unreachable_from script (n + 1) entries
not_here script entries n entry below is fine = rw (left_at entries n entry below is, fine) refl

pub no_entry_left : (script : OutcomeMap) (entries : List (ℕ × ℕ)) (n : ℕ) → length entries ≤ n → unreachable_from script n entries ≡ None
no_entry_left script entries n past = rw (drop_all n entries past) refl

-- all positions, after those of the first entries
abbrev pub with_rest : OutcomeMap → List ℕ → ℕ → List (ℕ × ℕ) → List ℕ
with_rest script answer n entries = answer ++ numbers_from n (is_unreachable_at script) (drop n entries)

pub one_more_unreachable : (script : OutcomeMap) (entries : List (ℕ × ℕ)) (answer more : List ℕ) (n : ℕ) (entry : ℕ × ℕ) → n < length entries → entry ≡ get_or entries n entry → is_unreachable_at script entry ≡ true → more ≡ answer ++ n ∷ []
    → with_rest script more (n + 1) entries ≡ with_rest script answer n entries
one_more_unreachable script entries answer more n entry below is unreachable more_is =
    rw (more_is, left_at entries n entry below is, unreachable) (append_assoc answer (n ∷ []) (numbers_from (n + 1) (is_unreachable_at script) (drop (n + 1) entries)))

pub none_more_unreachable : (script : OutcomeMap) (entries : List (ℕ × ℕ)) (answer : List ℕ) (n : ℕ) (entry : ℕ × ℕ) → n < length entries → entry ≡ get_or entries n entry → is_unreachable_at script entry ≡ false
    → with_rest script answer (n + 1) entries ≡ with_rest script answer n entries
none_more_unreachable script entries answer n entry below is fine = rw (left_at entries n entry below is, fine) refl

pub all_listed : (script : OutcomeMap) (entries : List (ℕ × ℕ)) (answer : List ℕ) (n : ℕ) → length entries ≤ n → with_rest script answer n entries ≡ answer
all_listed script entries answer n past = rw (drop_all n entries past) (append-nil answer)

-- ---- before anything is known

unseen : (n i : ℕ) → get_or (replicate n Unseen) i Unseen ≡ Unseen
unseen zero i = refl
unseen (suc n) zero = refl
unseen (suc n) (suc i) = unseen n i

pub no_objects : (script : OutcomeMap) (changes : ℕ) (states : List VisitState) → changes ≡ length script → states ≡ replicate (2 * changes) Unseen → AreSettled script states
no_objects script changes states count is = record {
  long = ap (λ (m : List VisitState). length m) is ∙ length-replicate (2 * changes) Unseen ∙ ap (λ (n : ℕ). 2 * n) count;
  begin = λ wait placed marked. let both : Unseen ≡ Begins = sym (unseen (2 * changes) (index_of wait)) ∙ sym (ap (λ (m : List VisitState). state_of m wait) is) ∙ marked in absurd cc;
  unreachable = λ wait placed marked. let both : Unseen ≡ Unreachable = sym (unseen (2 * changes) (index_of wait)) ∙ sym (ap (λ (m : List VisitState). state_of m wait) is) ∙ marked in absurd cc;
  settled = λ wait placed marked. let both : Unseen ≡ OnPath = sym (unseen (2 * changes) (index_of wait)) ∙ sym (ap (λ (m : List VisitState). state_of m wait) is) ∙ marked in absurd cc;
}
