-- The first and the last place of steps that pass a test.
use Rattle.std.proofs.Common.{◌≡◌, ℕ, ◌+◌, ◌-◌, ◌<◌, ◌≤◌, List, [], ◌∷◌, Bool, true, false, length, get_or, drop, Some, None, suc, refl, sym, ap, ◌∙◌, ⊎_elim, arith}
use Rattle.std.specs.Prelude.{◌&&◌}
use Rattle.std.specs.List.{filter}
use Rattle.std.specs.Str.{bytes_eq}
use Rattle.std.proofs.lemmas.Bool.{cases_Bool}
use Rattle.std.proofs.lemmas.List.{at_drop_more, at_drop_all}
use Rattle.stream_timeline.specs.declared.reading.builder.TimelineBuilder.{TimelineBuilder}
use Rattle.stream_timeline.specs.OpenPlaces.{places_at}
use Rattle.stream_timeline.specs.Steps.{StepRead, first_of, is_open_at, is_open_with, last_of, passes_at, places, places_from}
use Rattle.stream_timeline.specs.TimelineRead.{TimelineRead}
use Rattle.stream_timeline.specs.Building.{IsReadingLine}

-- ---- of those that pass one test, those that pass another too

abbrev From : ℕ → List ℕ → Type 0
From n [] = Unit {0}
From n (m ∷ ms) = (n ≤ m) × From n ms

from_less : (m n : ℕ) (ms : List ℕ) → m ≤ n → From n ms → From m ms
from_less m n [] l h = tt
from_less m n (k ∷ ks) l h = let on : n ≤ k = h.0 in (omega arith, from_less m n ks l h.1)

from_places : (p : StepRead → Bool) (n : ℕ) (xs : List StepRead) → From n (places_from n p xs)
from_places p n [] = tt
from_places p n (x ∷ xs) =
    let rest : From n (places_from (n + 1) p xs) = from_less n (n + 1) (places_from (n + 1) p xs) (omega arith) (from_places p (n + 1) xs) in
    ⊎_elim (λ (yes : p x ≡ true). rw yes (omega arith, rest)) (λ (out : p x ≡ false). rw out rest) (cases_Bool (p x))

filter_from : (f g : ℕ → Bool) (n : ℕ) (ms : List ℕ) → From n ms → ((i : ℕ) → n ≤ i → f i ≡ g i) → filter f ms ≡ filter g ms
filter_from f g n [] h same = refl
filter_from f g n (m ∷ ms) h same =
    let rest = filter_from f g n ms h.1 same in
    rw (same m h.0, rest) refl

abbrev at_from : ℕ → (StepRead → Bool) → List StepRead → ℕ → Bool
at_from n q xs i = passes_at (i - n) q xs

here : (n : ℕ) (q : StepRead → Bool) (x : StepRead) (xs : List StepRead) → at_from n q (x ∷ xs) n ≡ q x
here n q x xs = let none : n - n ≡ 0 = omega arith in ap (λ k. passes_at k q (x ∷ xs)) none

there : (n : ℕ) (q : StepRead → Bool) (x : StepRead) (xs : List StepRead) (i : ℕ) → n + 1 ≤ i → at_from n q (x ∷ xs) i ≡ at_from (n + 1) q xs i
there n q x xs i l = let e : i - n ≡ suc (i - (n + 1)) = omega arith in ap (λ k. passes_at k q (x ∷ xs)) e

both_places : (p q : StepRead → Bool) (n : ℕ) (xs : List StepRead) → places_from n (λ s. p s && q s) xs ≡ filter (at_from n q xs) (places_from n p xs)
both_places p q n [] = refl
both_places p q n (x ∷ xs) =
    let rest : places_from (n + 1) (λ s. p s && q s) xs ≡ filter (at_from n q (x ∷ xs)) (places_from (n + 1) p xs) =
    both_places p q (n + 1) xs
    ∙ sym (filter_from (at_from n q (x ∷ xs)) (at_from (n + 1) q xs) (n + 1) (places_from (n + 1) p xs) (from_places p (n + 1) xs) (there n q x xs)) in
    ⊎_elim
    (λ (yes : p x ≡ true).
    ⊎_elim
    (λ (also : q x ≡ true). rw (yes, also, here n q x xs, also) (ap (λ ms. n ∷ ms) rest))
    (λ (not_also : q x ≡ false). rw (yes, not_also, here n q x xs, not_also) rest)
    (cases_Bool (q x)))
    (λ (out : p x ≡ false). rw out rest)
    (cases_Bool (p x))

less_zero : (i : ℕ) → i - 0 ≡ i
less_zero i = omega arith

abbrev pub has_action : (action : List ℕ) → List StepRead → ℕ → Bool
has_action action steps place = passes_at place (λ (s : StepRead). bytes_eq s.action action) steps

pub open_with : (address action : List ℕ) (steps : List StepRead)
    → places (is_open_with address action) steps ≡ filter (has_action action steps) (places (is_open_at address) steps)
open_with address action steps =
    both_places (is_open_at address) (λ (s : StepRead). bytes_eq s.action action) 0 steps
    ∙ filter_from (at_from 0 (λ (s : StepRead). bytes_eq s.action action) steps) (has_action action steps) 0 (places (is_open_at address) steps) (from_places (is_open_at address) 0 steps)
    (λ i l. ap (λ k. passes_at k (λ (s : StepRead). bytes_eq s.action action) steps) (less_zero i))

-- ---- a loop that looks for the first

pub look_matched : (test : ℕ → Bool) (ps : List ℕ) (i : ℕ) → i < length ps → test (get_or ps i 0) ≡ true
    → first_of (filter test (drop i ps)) ≡ Some (get_or ps i 0)
look_matched test ps i l passes = at_drop_more (λ xs. first_of (filter test xs)) ps i 0 l ∙ (rw passes refl)

pub look_all : (test : ℕ → Bool) (ps : List ℕ) (i : ℕ) → length ps ≤ i → first_of (filter test (drop i ps)) ≡ None
look_all test ps i l = at_drop_all (λ xs. first_of (filter test xs)) ps i l

-- ---- the last

pub last_get : (ps : List ℕ) → 0 < length ps → last_of ps ≡ Some (get_or ps (length ps - 1) 0)
last_get [] l = absurd (omega arith)
last_get (p ∷ []) l = refl
last_get (p ∷ (q ∷ ps)) l =
    let e : suc (suc (length ps)) - 1 ≡ suc (length ps) = omega arith in
    let f : suc (length ps) - 1 ≡ length ps = omega arith in
    last_get (q ∷ ps) (omega arith) ∙ (ap (λ n. Some (get_or (q ∷ ps) n 0)) f ∙ ap (λ n. Some (get_or (p ∷ (q ∷ ps)) n 0)) (sym e))

-- ---- as a viewer looks them up

-- what it has at an address are the places of the steps that are open there
looked_up : (builder : TimelineBuilder) (t : TimelineRead) (a : List ℕ) (ps : List ℕ) → IsReadingLine builder t → ps ≡ places_at builder.opened a → ps ≡ places (is_open_at a) t.steps
looked_up builder t a ps h is = is ∙ h.opened.places a

among_open : (builder : TimelineBuilder) (t : TimelineRead) (a action ps : List ℕ) → IsReadingLine builder t → ps ≡ places_at builder.opened a
    → filter (has_action action builder.timeline.steps) ps ≡ places (is_open_with a action) t.steps
among_open builder t a action ps h is =
    ap (λ (x : TimelineRead). filter (has_action action x.steps) ps) h.is
    ∙ (ap (λ qs. filter (has_action action t.steps) qs) (looked_up builder t a ps h is) ∙ sym (open_with a action t.steps))

pub first_matched : (builder : TimelineBuilder) (t : TimelineRead) (a action ps : List ℕ) (i : ℕ) → IsReadingLine builder t → ps ≡ places_at builder.opened a → i < length ps
    → first_of (filter (has_action action builder.timeline.steps) (drop i ps)) ≡ first_of (filter (has_action action builder.timeline.steps) ps)
    → has_action action builder.timeline.steps (get_or ps i 0) ≡ true → Some (get_or ps i 0) ≡ first_of (places (is_open_with a action) t.steps)
first_matched builder t a action ps i h is l none passes =
    sym (look_matched (has_action action builder.timeline.steps) ps i l passes) ∙ (none ∙ ap first_of (among_open builder t a action ps h is))

pub first_none : (builder : TimelineBuilder) (t : TimelineRead) (a action ps : List ℕ) (i : ℕ) → IsReadingLine builder t → ps ≡ places_at builder.opened a → length ps ≤ i
    → first_of (filter (has_action action builder.timeline.steps) (drop i ps)) ≡ first_of (filter (has_action action builder.timeline.steps) ps)
    → None ≡ first_of (places (is_open_with a action) t.steps)
first_none builder t a action ps i h is l none =
    sym (look_all (has_action action builder.timeline.steps) ps i l) ∙ (none ∙ ap first_of (among_open builder t a action ps h is))

pub last_matched : (builder : TimelineBuilder) (t : TimelineRead) (a ps : List ℕ) → IsReadingLine builder t → ps ≡ places_at builder.opened a → 0 < length ps
    → Some (get_or ps (length ps - 1) 0) ≡ last_of (places (is_open_at a) t.steps)
last_matched builder t a ps h is some = sym (last_get ps some) ∙ ap last_of (looked_up builder t a ps h is)
