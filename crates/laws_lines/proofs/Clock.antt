-- The timestamp of each hook message is the time of its event, where the time never falls.
use Rattle.std.proofs.Common.{◌≡◌, ℕ, suc, ◌+◌, ◌≤◌, List, [], ◌∷◌, ◌++◌, fold, length, map, max, take, refl, ap, ◌∙◌, subst, append_assoc, arith}
use Rattle.std.specs.List.{AllByRecursion}
use Rattle.apply_events.specs.declared.event.Event.{Event}
use Rattle.apply_text.specs.Latest.{latest_of}
use Rattle.laws_lines.specs.Reading.{NeverFalls}

-- the clock after each of the events is the time of the event
abbrev pub IsClock : (latest : ℕ → ℕ) → (n : ℕ) → List Event → Type 0
IsClock latest n [] = Unit {0}
IsClock latest n (e ∷ es) = (latest (n + 1) ≡ e.at) × IsClock latest (n + 1) es

abbrev AllBefore : (at : ℕ) → List Event → Type 0
AllBefore at es = AllByRecursion (λ (e : Event). e.at ≤ at) es

-- the clock up to an event
up_to : (acc : ℕ) (before : List Event) (e : Event) (rest : List Event) → acc ≤ e.at → AllBefore e.at before → fold max acc (map (λ (event : Event). event.at) (take (suc (length before)) (before ++ e ∷ rest))) ≡ e.at
up_to acc [] e rest low all = let most : max acc e.at ≡ e.at = omega (arith, low) in most
up_to acc (b ∷ before) e rest low all = up_to (max acc b.at) before e rest (omega (arith, low, all.0)) all.1

all_more : (at : ℕ) (es : List Event) (e : Event) → AllBefore at es → e.at ≤ at → AllBefore at (es ++ e ∷ [])
all_more at [] e all low = (low, tt)
all_more at (x ∷ xs) e all low = (all.0, all_more at xs e all.1 low)

-- the events so far are before each event of the rest
abbrev BeforeEach : (before : List Event) → List Event → Type 0
BeforeEach before [] = Unit {0}
BeforeEach before (e ∷ es) = AllBefore e.at before × BeforeEach before es

each_more : (before : List Event) (e : Event) (es : List Event) → BeforeEach before es → AllByRecursion (λ (other : Event). e.at ≤ other.at) es → BeforeEach (before ++ e ∷ []) es
each_more before e [] each later = tt
each_more before e (x ∷ xs) each later = (all_more x.at before e each.0 later.0, each_more before e xs each.1 later.1)

clock_from : (before es rest : List Event) → BeforeEach before es → NeverFalls es → IsClock (latest_of (before ++ (es ++ rest))) (length before) es
clock_from before [] rest each falls = tt
clock_from before (e ∷ es) rest each falls =
    let more : length before + 1 ≡ suc (length before) = omega arith in
    let longer : length (before ++ e ∷ []) ≡ length before + 1 = length-more before e in
    let same : (before ++ e ∷ []) ++ (es ++ rest) ≡ before ++ (e ∷ (es ++ rest)) = append_assoc before (e ∷ []) (es ++ rest) in (
      ap (latest_of (before ++ (e ∷ (es ++ rest)))) more ∙ up_to 0 before e (es ++ rest) (omega arith) each.0,
      subst (λ n. IsClock (latest_of (before ++ (e ∷ (es ++ rest)))) n es) longer
          (subst (λ (l : List Event). IsClock (latest_of l) (length (before ++ e ∷ [])) es) same (clock_from (before ++ e ∷ []) es rest (each_more before e es each.1 falls.0) falls.1)),
    )
  where
    length-more : (xs : List Event) (e : Event) → length (xs ++ e ∷ []) ≡ length xs + 1
    length-more [] e = refl
    length-more (x ∷ xs) e = let rest = length-more xs e in omega (arith, rest)

nothing_before : (es : List Event) → BeforeEach [] es
nothing_before [] = tt
nothing_before (e ∷ es) = (tt, nothing_before es)

pub clock : (es rest : List Event) → NeverFalls es → IsClock (latest_of (es ++ rest)) 0 es
clock es rest falls = clock_from [] es rest (nothing_before es) falls
