-- The change of an entry, and the outcomes that several entries state for each change.
use Rattle.std.proofs.Common.{◌≡◌, ℕ, zero, suc, ◌+◌, ◌<◌, ◌≤◌, Bool, true, false, cond, List, [], ◌∷◌, ◌++◌, length, map, get_or, set, Option, Some, None, option_map, IfSome, refl, sym, ap, subst, ◌∙◌, add-one, arith, ⊎_elim}
use Rattle.std.specs.Prelude.{◌&&◌, ◌||◌, find, is_some, option_and_then, slice_get, ◌==◌}
use Rattle.std.specs.List.{All, count_by, enumerate_from, range_with_len}
use Rattle.std.specs.Option.{option_eq, option_map_or, option_or}
use Rattle.std.specs.Str.{bytes_eq}
use Rattle.std.proofs.lemmas.Bool.{cases_Bool, cases_lt}
use Rattle.std.proofs.lemmas.Bool.Decides.{eqb_tells}
use Rattle.std.proofs.lemmas.List.{get_or-set_other, get_or-set_same, length-set, same_lists}
use Rattle.std.proofs.lemmas.List.Elements.{All-cons, All-nil}
use Rattle.std.proofs.lemmas.List.FromFn.{get_or-map-range_with_len, length-map-range_with_len}
use Rattle.std.proofs.lemmas.List.Sums.{sum_by-cons, sum_by-set}
use Rattle.std.proofs.lemmas.Option.{get_or_from_slice_get, slice_get-get_or, slice_get_past, slice_get_within, some_pair_parts}
use Rattle.std.proofs.lemmas.Slice.Eq.{bytes_eq-Decides}
use Rattle.apply_model.specs.declared.script.script_step.ScriptStep.{ScriptStep}
use Rattle.apply_model.specs.Plan.ResourceChange.{ResourceChange}
use Rattle.apply_plan.specs.Script.Entry.{Entry}
use Rattle.apply_model.specs.Script.Outcome.{IsBounded}
use Rattle.apply_model.specs.Script.OutcomeMap.{IsInRange, OutcomeMap, stated_steps}
use Rattle.apply_model.specs.Script.Step.{after_of, answer_to}
use Rattle.apply_model.specs.Script.Waits.{named_for, stated_waits}
use Rattle.apply_resolve.specs.Placed.{AreAllPlaced, ArePlaced, IsPlaced}
use Rattle.apply_plan.specs.Script.EntriesView.{IsWithin, AllResolved}
use Rattle.apply_plan.specs.Script.OutcomeMap.{ResolvedEntry, by_number, change_of_entry, is_about, outcomes_of}

-- ---- the change that an entry is about

record IsFirst (p : ResourceChange → Bool) (changes : List ResourceChange) (s n : ℕ) (change : ResourceChange) : Type 0 where
  place : ℕ
  number : n ≡ s + place
  stands : slice_get changes place ≡ Some change
  passes : p change ≡ true

found_from : (p : ResourceChange → Bool) (s : ℕ) (changes : List ResourceChange) (n : ℕ) (change : ResourceChange) → find (λ e. p e.1) (enumerate_from s changes) ≡ Some (n, change) → IsFirst p changes s n change
found_from p s [] n change located = absurd cc
found_from p s (first ∷ others) n change located =
    ⊎_elim
    (λ (yes : p first ≡ true).
    let here : cond true (Some (s, first)) (find (λ e. p e.1) (enumerate_from (s + 1) others)) ≡ Some (n, change) = rw yes at located in
    let parts = some_pair_parts s n first change here in
    let number = parts.0 in
    record { place = 0; number = omega (arith, number); stands = ap (λ (c : ResourceChange). Some c) parts.1; passes = ap p (sym parts.1) ∙ yes })
    (λ (no : p first ≡ false).
    let later : find (λ e. p e.1) (enumerate_from (s + 1) others) ≡ Some (n, change) = rw no at located in
    let rest = found_from p (s + 1) others n change later in
    let number = rest.number in
    record { place = suc rest.place; number = omega (arith, number); stands = rest.stands; passes = rest.passes })
    (cases_Bool (p first))

-- the entry is about the change with this number
pub record IsChangeOf (changes : List ResourceChange) (entry : Entry) (number : ℕ) (change : ResourceChange) : Type 0 where
  pub located : change_of_entry changes entry ≡ Some (number, change)
  pub stands : slice_get changes number ≡ Some change
  pub about : is_about change entry ≡ true

pub change_is : (changes : List ResourceChange) (entry : Entry) (number : ℕ) (change : ResourceChange) → change_of_entry changes entry ≡ Some (number, change) → IsChangeOf changes entry number change
change_is changes entry number change located =
    let first = found_from (λ c. is_about c entry) 0 changes number change located in
    let same : first.place ≡ number = omega (arith, first.number) in
    record { located = located; stands = subst (λ (i : ℕ). slice_get changes i ≡ Some change) same first.stands; about = first.passes }

-- the entry is about the change, if the number is known
numbered : (o : Option (ℕ × ResourceChange)) (number : ℕ) → option_map (λ p. p.0) o ≡ Some number → (change : ResourceChange) × (o ≡ Some (number, change))
numbered None number e = absurd cc
numbered (Some p) number e =
    let same : p.0 ≡ number = cc in
    (p.1, ap (λ (n : ℕ). Some (n, p.1)) same)

pub change_numbered : (changes : List ResourceChange) (entry : Entry) (number : ℕ) (change : ResourceChange) → Some number ≡ option_map (λ p. p.0) (change_of_entry changes entry) → Some change ≡ slice_get changes number
    → IsChangeOf changes entry number change
change_numbered changes entry number change known stands =
    let some = numbered (change_of_entry changes entry) number (sym known) in
    let is = change_is changes entry number some.0 some.1 in
    let same : some.0 ≡ change = let both : Some some.0 ≡ Some change = sym is.stands ∙ sym stands in cc in
    subst (λ (c : ResourceChange). IsChangeOf changes entry number c) same is

pub some_change : (changes : List ResourceChange) (entry : Entry) (number : ℕ) → Some number ≡ option_map (λ p. p.0) (change_of_entry changes entry) → (change : ResourceChange) × IsChangeOf changes entry number change
some_change changes entry number known =
    let some = numbered (change_of_entry changes entry) number (sym known) in
    (some.0, change_is changes entry number some.0 some.1)

pub is_numbered : (changes : List ResourceChange) (entry : Entry) (number : ℕ) → Some number ≡ option_map (λ p. p.0) (change_of_entry changes entry) → number < length changes
is_numbered changes entry number known =
    let some = numbered (change_of_entry changes entry) number (sym known) in
    slice_get_within changes number some.0 (change_is changes entry number some.0 some.1).stands

pub not_numbered : (o : Option (ℕ × ResourceChange)) → None ≡ option_map (λ (p : ℕ × ResourceChange). p.0) o → o ≡ None
not_numbered None e = refl
not_numbered (Some p) e = absurd cc

both_true : (a b : Bool) → (a && b) ≡ true → (a ≡ true) × (b ≡ true)
both_true true b e = (refl, e)
both_true false b e = absurd cc

option_eq-same : (one other : Option (List ℕ)) → option_eq bytes_eq one other ≡ true → one ≡ other
option_eq-same None None e = refl
option_eq-same None (Some other) e = absurd cc
option_eq-same (Some one) None e = absurd cc
option_eq-same (Some one) (Some other) e = ap (λ (text : List ℕ). Some text) ((bytes_eq-Decides one other).0 e)

about_object : (change : ResourceChange) (entry : Entry) → is_about change entry ≡ true → (change.address ≡ entry.address) × (change.deposed ≡ entry.deposed)
about_object change entry e =
    let parts = both_true (bytes_eq change.address entry.address) (option_eq bytes_eq change.deposed entry.deposed) e in
    ((bytes_eq-Decides change.address entry.address).0 parts.0, option_eq-same change.deposed entry.deposed parts.1)

-- two entries are about one change if and only if their changes have one number
pub about_same : (changes : List ResourceChange) (entry other : Entry) (number at : ℕ) (change theirs : ResourceChange) → IsChangeOf changes entry number change → IsChangeOf changes other at theirs
    → is_about change other ≡ (at == number)
about_same changes entry other number at change theirs is are =
    ⊎_elim
    (λ same.
    let both : Some theirs ≡ Some change = sym are.stands ∙ ap (λ (i : ℕ). slice_get changes i) same.1 ∙ is.stands in
    let one : theirs ≡ change = cc in
    ap (λ (c : ResourceChange). is_about c other) (sym one) ∙ are.about ∙ sym same.0)
    (λ apart.
    ⊎_elim
    (λ (yes : is_about change other ≡ true).
    let mine = about_object change entry is.about in
    let its = about_object change other yes in
    let located : change_of_entry changes entry ≡ change_of_entry changes other = rw (← mine.0, ← mine.1, its.0, its.1) refl in
    let parts = some_pair_parts number at change theirs (sym is.located ∙ located ∙ are.located) in
    absurd (apart.1 (sym parts.0)))
    (λ (no : is_about change other ≡ false). no ∙ sym apart.0)
    (cases_Bool (is_about change other)))
    (eqb_tells at number)

-- ---- the outcomes of several entries

outcomes_of-append : (made : List ResolvedEntry) (one : ResolvedEntry) (number : ℕ) → outcomes_of (made ++ one ∷ []) number ≡ option_or (outcomes_of made number) (cond (one.change == number) (Some one.steps) None)
outcomes_of-append [] one number = elim (one.change == number) as (λ b. option_map (λ (e : ResolvedEntry). e.steps) (cond b (Some one) None) ≡ cond b (Some one.steps) None) [ true ↦ refl | false ↦ refl ]
outcomes_of-append (first ∷ others) one number =
    elim (first.change == number) as (λ b. option_map (λ (e : ResolvedEntry). e.steps) (cond b (Some first) (find (λ e. e.change == number) (others ++ one ∷ []))) ≡ option_or (option_map (λ e. e.steps) (cond b (Some first) (find (λ e. e.change == number) others))) (cond (one.change == number) (Some one.steps) None))
    [ true ↦ refl | false ↦ outcomes_of-append others one number ]

is_some_or : (o : Option (List ScriptStep)) (b : Bool) (x : List ScriptStep) → is_some (option_or o (cond b (Some x) None)) ≡ (is_some o || b)
is_some_or None true x = refl
is_some_or None false x = refl
is_some_or (Some y) b x = refl

pub is_said-append : (made : List ResolvedEntry) (one : ResolvedEntry) (number : ℕ) → is_some (outcomes_of (made ++ one ∷ []) number) ≡ (is_some (outcomes_of made number) || (one.change == number))
is_said-append made one number = rw (outcomes_of-append made one number) (is_some_or (outcomes_of made number) (one.change == number) one.steps)

-- the outcomes of a change are at its number
pub at_number : (count : ℕ) (made : List ResolvedEntry) (number : ℕ) → number < count → stated_steps (by_number count made) number ≡ outcomes_of made number
at_number count made number below =
    let within : number < length (by_number count made) = rw (length-map-range_with_len (outcomes_of made) 0 count) below in
    let place : 0 + number ≡ number = omega arith in
    rw (slice_get-get_or (by_number count made) number None within, get_or-map-range_with_len (outcomes_of made) 0 count number number None below place) refl

none_past : (count : ℕ) (made : List ResolvedEntry) (number : ℕ) → count ≤ number → stated_steps (by_number count made) number ≡ None
none_past count made number past =
    let long : length (by_number count made) ≤ number = rw (length-map-range_with_len (outcomes_of made) 0 count) past in
    rw (slice_get_past (by_number count made) number long) refl

pub length-by_number : (count : ℕ) (made : List ResolvedEntry) → length (by_number count made) ≡ count
length-by_number count made = length-map-range_with_len (outcomes_of made) 0 count

-- one entry more changes one place
pub by_number-append : (count : ℕ) (made : List ResolvedEntry) (one : ResolvedEntry) → one.change < count → outcomes_of made one.change ≡ None
    → by_number count (made ++ one ∷ []) ≡ set (by_number count made) one.change (Some one.steps)
by_number-append count made one below none =
    let before = by_number count made in
    let after = by_number count (made ++ one ∷ []) in
    let within : one.change < length before = rw (length-by_number count made) below in
    let lengths : length after ≡ length (set before one.change (Some one.steps)) = length-by_number count (made ++ one ∷ []) ∙ sym (length-by_number count made) ∙ sym (length-set before one.change (Some one.steps)) in
    same_lists after (set before one.change (Some one.steps)) lengths (λ k d h.
    let low : k < count = rw (length-by_number count (made ++ one ∷ [])) at h in
    let place : 0 + k ≡ k = omega arith in
    let mine : get_or after k d ≡ option_or (outcomes_of made k) (cond (one.change == k) (Some one.steps) None) =
    get_or-map-range_with_len (outcomes_of (made ++ one ∷ [])) 0 count k k d low place ∙ outcomes_of-append made one k in
    let theirs : get_or before k d ≡ outcomes_of made k = get_or-map-range_with_len (outcomes_of made) 0 count k k d low place in
    ⊎_elim
    (λ same.
    mine ∙ rw (same.0, ← same.1, none) refl ∙ sym (get_or-set_same before one.change (Some one.steps) d within) ∙ ap (λ (i : ℕ). get_or (set before one.change (Some one.steps)) i d) same.1)
    (λ apart.
    mine ∙ rw apart.0 (or_none (outcomes_of made k)) ∙ sym theirs ∙ sym (get_or-set_other before one.change k (Some one.steps) d (λ e. apart.1 (sym e))))
    (eqb_tells one.change k))
  where
    or_none : (o : Option (List ScriptStep)) → option_or o None ≡ o
    or_none None = refl
    or_none (Some x) = refl

pub nothing_stated : (count : ℕ) → by_number (count + 1) [] ≡ by_number count [] ++ None ∷ []
nothing_stated count = ap (λ (n : ℕ). by_number n []) (add-one count) ∙ from 0 count
  where
    from : (a n : ℕ) → map (outcomes_of []) (range_with_len a (suc n)) ≡ map (outcomes_of []) (range_with_len a n) ++ None ∷ []
    from a zero = refl
    from a (suc n) = ap (λ (outcomes : OutcomeMap). None ∷ outcomes) (from (a + 1) n)

-- ---- how many changes have outcomes

abbrev counted : Option (List ScriptStep) → ℕ
counted outcomes = cond (is_some outcomes) 1 0

pub none_counted : (count : ℕ) → count_by is_some (by_number count []) ≡ 0
none_counted count = from 0 count
  where
    from : (a n : ℕ) → count_by is_some (map (outcomes_of []) (range_with_len a n)) ≡ 0
    from a zero = refl
    from a (suc n) = sum_by-cons counted None (map (outcomes_of []) (range_with_len (a + 1) n)) ∙ ap (λ (n : ℕ). 0 + n) (from (a + 1) n)

pub counted_more : (outcomes : OutcomeMap) (number : ℕ) (steps : List ScriptStep) → number < length outcomes → stated_steps outcomes number ≡ None → count_by is_some (set outcomes number (Some steps)) ≡ count_by is_some outcomes + 1
counted_more outcomes number steps below none =
    let at = slice_get-get_or outcomes number None below in
    let nothing : get_or outcomes number None ≡ None = sym (ap (λ (o : Option (Option (List ScriptStep))). option_and_then (λ outcomes. outcomes) o) at) ∙ none in
    let grown = sum_by-set counted outcomes number (Some steps) None below in
    let none_before : counted (get_or outcomes number None) ≡ 0 = ap counted nothing in
    omega (arith, grown, none_before)

-- ---- each step is within the limits

pub says_more : (P : List ScriptStep → Type 0) (made : List ResolvedEntry) (one : ResolvedEntry) → AllResolved P made → P one.steps → AllResolved P (made ++ one ∷ [])
says_more P made one before holds number = subst (λ o. IfSome o P) (sym (outcomes_of-append made one number)) (either (outcomes_of made number) (one.change == number) (before number))
  where
    either : (o : Option (List ScriptStep)) (b : Bool) → IfSome o P → IfSome (option_or o (cond b (Some one.steps) None)) P
    either None true h = holds
    either None false h = tt
    either (Some steps) b h = h

within_at : (steps : List ScriptStep) (k : ℕ) (o : Option ScriptStep) → All IsWithin steps → slice_get steps k ≡ o → IfSome (option_and_then answer_to o) IsBounded
within_at steps k None within at = tt
within_at steps k (Some step) within at = subst IsWithin (get_or_from_slice_get steps k step step at) (within k step (slice_get_within steps k step at))

given_in_range : (outcomes : Option (List ScriptStep)) (k : ℕ) → IfSome outcomes (All IsWithin) → IfSome (option_and_then answer_to (option_and_then (λ steps. slice_get steps k) outcomes)) IsBounded
given_in_range None k h = tt
given_in_range (Some steps) k h = within_at steps k (slice_get steps k) h refl

pub is_in_range : (count : ℕ) (made : List ResolvedEntry) → AllResolved (All IsWithin) made → IsInRange (by_number count made)
is_in_range count made says c k =
    let P = λ (outcomes : Option (List ScriptStep)). IfSome (option_and_then answer_to (option_and_then (λ steps. slice_get steps k) outcomes)) IsBounded in
    ⊎_elim
    (λ (below : c < count). subst P (sym (at_number count made c below)) (given_in_range (outcomes_of made c) k (says c)))
    (λ (past : count ≤ c). subst P (sym (none_past count made c past)) tt)
    (cases_lt c count)

-- ---- each step waits for steps of the plan

waits_at : (n : ℕ) (steps : List ScriptStep) (k : ℕ) (o : Option ScriptStep) → ArePlaced n steps → slice_get steps k ≡ o → All (IsPlaced n) (option_map_or after_of o [])
waits_at n steps k None are at = All-nil (IsPlaced n)
waits_at n steps k (Some step) are at =
    subst (λ (x : ScriptStep). All (IsPlaced n) (after_of x)) (get_or_from_slice_get steps k step step at) (are.placed k step (slice_get_within steps k step at))

stated_placed : (n : ℕ) (outcomes : Option (List ScriptStep)) (k : ℕ) → IfSome outcomes (ArePlaced n) → All (IsPlaced n) (option_map_or after_of (option_and_then (λ steps. slice_get steps k) outcomes) [])
stated_placed n None k h = All-nil (IsPlaced n)
stated_placed n (Some steps) k h = waits_at n steps k (slice_get steps k) h refl

named_placed : (count : ℕ) (made : List ResolvedEntry) → AllResolved (ArePlaced count) made → (c k : ℕ) → c < count → All (IsPlaced count) (named_for (by_number count made) c k)
named_placed count made says c k below =
    subst (λ (outcomes : Option (List ScriptStep)). All (IsPlaced count) (option_map_or after_of (option_and_then (λ steps. slice_get steps k) outcomes) []))
    (sym (at_number count made c below)) (stated_placed count (outcomes_of made c) k (says c))

waits_placed : (count : ℕ) (made : List ResolvedEntry) → AllResolved (ArePlaced count) made → (c k : ℕ) → c < count → k < 2 → All (IsPlaced count) (stated_waits (by_number count made) c k)
waits_placed count made says c zero below low = named_placed count made says c zero below
waits_placed count made says c (suc k) below low =
    All-cons (IsPlaced count) (record { change = c; step = k }) (named_for (by_number count made) c (suc k)) (record { change_below = below; step_below = omega arith }) (named_placed count made says c (suc k) below)

pub are_all_placed : (count : ℕ) (made : List ResolvedEntry) → AllResolved (ArePlaced count) made → AreAllPlaced (by_number count made)
are_all_placed count made says wait placed =
    let long = length-by_number count made in
    subst (λ (n : ℕ). All (IsPlaced n) (stated_waits (by_number count made) wait.change wait.step)) (sym long)
    (let below : wait.change < count = omega (arith, placed.change_below, long) in waits_placed count made says wait.change wait.step below placed.step_below)
