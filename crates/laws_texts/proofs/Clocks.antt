-- Lines with the latest time so far. Diagnostics after all hook messages have the time of the last.
use Rattle.std.proofs.Common.{◌≡◌, ℕ, suc, ◌+◌, ◌<◌, ◌≤◌, List, [], ◌∷◌, ◌++◌, length, map, take, All, append_assoc, refl, sym, ap, ◌∙◌, subst, arith}
use Rattle.std.specs.Prelude.{flat_map, fold, max}
use Rattle.std.specs.List.{enumerate_from}
use Rattle.std.proofs.lemmas.List.Elements.{All-cons, All-head, All-nil, All-tail}
use Rattle.apply_events.specs.declared.event.Event.{Event}
use Rattle.apply_text.specs.Latest.{latest_of}

-- the latest of a time and the times of events
abbrev pub clock_after : ℕ → List Event → ℕ
clock_after clock es = fold max clock (map (λ (event : Event). event.at) es)

clock_after-append : (clock : ℕ) (xs ys : List Event) → clock_after clock (xs ++ ys) ≡ clock_after (clock_after clock xs) ys
clock_after-append clock [] ys = refl
clock_after-append clock (x ∷ xs) ys = clock_after-append (max clock x.at) xs ys

clock_stays : (clock : ℕ) (ys : List Event) → All (λ e. e.at ≤ clock) ys → clock_after clock ys ≡ clock
clock_stays clock [] late = refl
clock_stays clock (y ∷ ys) late =
    let low : y.at ≤ clock = All-head (λ (e : Event). e.at ≤ clock) y ys late in
    let same : max clock y.at ≡ clock = omega arith in
    ap (λ t. clock_after t ys) same ∙ clock_stays clock ys (All-tail (λ (e : Event). e.at ≤ clock) y ys late)

take_whole : (es : List Event) → take (length es) es ≡ es
take_whole [] = refl
take_whole (e ∷ es) = ap (λ l. e ∷ l) (take_whole es)

pub latest_is : (es : List Event) → latest_of es (length es) ≡ clock_after 0 es
latest_is es = ap (clock_after 0) (take_whole es)

-- the latest time of all hook messages
abbrev pub last_clock : List Event → ℕ
last_clock hooks = latest_of hooks (length hooks)

pub latest_with_notes : (hooks notes : List Event) → All (λ e. e.at ≤ last_clock hooks) notes → latest_of (hooks ++ notes) (length (hooks ++ notes)) ≡ last_clock hooks
latest_with_notes hooks notes late =
    latest_is (hooks ++ notes) ∙ clock_after-append 0 hooks notes ∙ ap (λ t. clock_after t notes) (sym (latest_is hooks))
    ∙ clock_stays (last_clock hooks) notes late

module _ (line : (clock : ℕ) → Event → List ℕ) where
  -- the lines of events after a time
  abbrev pub lines_from : (clock : ℕ) → List Event → List ℕ
  lines_from clock [] = []
  lines_from clock (e ∷ es) = line (max clock e.at) e ++ lines_from (max clock e.at) es

  abbrev pub body : List Event → List ℕ
  body written = flat_map (λ (p : ℕ × Event). line (latest_of written (p.0 + 1)) p.1) (enumerate_from 0 written)

  by_place : (c : ℕ → ℕ) (es : List Event) (n clock : ℕ) → ((i : ℕ) → i < length es → c (n + i) ≡ clock_after clock (take (suc i) es))
      → flat_map (λ (p : ℕ × Event). line (c p.0) p.1) (enumerate_from n es) ≡ lines_from clock es
  by_place c [] n clock is = refl
  by_place c (e ∷ es) n clock is =
      let now : n ≡ n + 0 = omega arith in
      let next : (i : ℕ) → n + 1 + i ≡ n + suc i = λ i. omega arith in
      let first : c n ≡ max clock e.at = ap c now ∙ is 0 (omega arith) in
      ap (λ t. line t e ++ flat_map (λ (p : ℕ × Event). line (c p.0) p.1) (enumerate_from (n + 1) es)) first
      ∙ ap (λ l. line (max clock e.at) e ++ l) (by_place c es (n + 1) (max clock e.at) (λ i lt. ap c (next i) ∙ is (suc i) (omega arith)))

  body_from : (es : List Event) → body es ≡ lines_from 0 es
  body_from es =
      by_place (λ i. latest_of es (i + 1)) es 0 0
      (λ i lt. (let here : 0 + i + 1 ≡ suc i = omega arith in ap (latest_of es) here))

  lines_from-append : (clock : ℕ) (xs ys : List Event) → lines_from clock (xs ++ ys) ≡ lines_from clock xs ++ lines_from (clock_after clock xs) ys
  lines_from-append clock [] ys = refl
  lines_from-append clock (x ∷ xs) ys =
      ap (λ l. line (max clock x.at) x ++ l) (lines_from-append (max clock x.at) xs ys)
      ∙ sym (append_assoc (line (max clock x.at) x) (lines_from (max clock x.at) xs) (lines_from (clock_after (max clock x.at) xs) ys))

  lines_late : (clock : ℕ) (ys : List Event) → All (λ e. e.at ≤ clock) ys → lines_from clock ys ≡ flat_map (line clock) ys
  lines_late clock [] late = refl
  lines_late clock (y ∷ ys) late =
      let low : y.at ≤ clock = All-head (λ (e : Event). e.at ≤ clock) y ys late in
      let same : max clock y.at ≡ clock = omega arith in
      ap (λ t. line t y ++ lines_from t ys) same ∙ ap (λ l. line clock y ++ l) (lines_late clock ys (All-tail (λ (e : Event). e.at ≤ clock) y ys late))

  -- hook messages have the latest time so far, and diagnostics the latest of all hook messages
  pub body_is : (hooks notes : List Event) → All (λ e. e.at ≤ last_clock hooks) notes
      → body (hooks ++ notes) ≡ lines_from 0 hooks ++ flat_map (line (last_clock hooks)) notes
  body_is hooks notes late =
      body_from (hooks ++ notes) ∙ lines_from-append 0 hooks notes
      ∙ ap (λ t. lines_from 0 hooks ++ lines_from t notes) (sym (latest_is hooks))
      ∙ ap (λ l. lines_from 0 hooks ++ l) (lines_late (last_clock hooks) notes late)

-- lines that are the same at each time
pub lines_same : (line other : (clock : ℕ) → Event → List ℕ) (clock : ℕ) (es : List Event) → All (λ e. (clock : ℕ) → other clock e ≡ line clock e) es
    → lines_from other clock es ≡ lines_from line clock es
lines_same line other clock [] same = refl
lines_same line other clock (e ∷ es) same =
    let P : Event → Type 0 = λ e. (clock : ℕ) → other clock e ≡ line clock e in
    ap (λ l. l ++ lines_from other (max clock e.at) es) (All-head P e es same (max clock e.at))
    ∙ ap (λ l. line (max clock e.at) e ++ l) (lines_same line other (max clock e.at) es (All-tail P e es same))

-- no event of a list comes after the latest of them

clock_rises : (clock : ℕ) (es : List Event) → clock ≤ clock_after clock es
clock_rises clock [] = omega arith
clock_rises clock (e ∷ es) = let rest = clock_rises (max clock e.at) es in omega arith

all_before : (clock : ℕ) (es : List Event) → All (λ e. e.at ≤ clock_after clock es) es
all_before clock [] = All-nil _
all_before clock (e ∷ es) =
    let here = clock_rises (max clock e.at) es in
    All-cons (λ (f : Event). f.at ≤ clock_after (max clock e.at) es) e es (omega arith) (all_before (max clock e.at) es)

pub none_later : (es : List Event) → All (λ e. e.at ≤ last_clock es) es
none_later es = subst (λ t. All (λ (e : Event). e.at ≤ t) es) (sym (latest_is es)) (all_before 0 es)
