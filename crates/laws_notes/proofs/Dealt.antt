-- Diagnostics are given step by step: each step takes the next diagnostic if that fits.
use Rattle.std.proofs.Common.{◌≡◌, ◌∙◌, ℕ, suc, ◌+◌, List, [], ◌∷◌, ◌++◌, Bool, true, false, cond, not, drop, Option, None, Some, IfSome, refl, sym, ap, ap₂, arith}
use Rattle.std.specs.List.{after_first, cons_option, filter_map, find, position_or_len}
use Rattle.std.specs.Option.{option_map_or}
use Rattle.apply_model.specs.declared.details.note.Note.{Note}
use Rattle.stream_record_outcomes.specs.Assignment.{Assignment, Taker, along, fits, give, takes_read}

-- The diagnostic fits the step, if any does.
abbrev pub goes : Option Taker → Note → Bool
goes None note = false
goes (Some taker) note = fits taker.fit note

module _ (taker : ℕ → Option Taker) where
  -- The diagnostic of the step at each place.
  abbrev pub dealt : List Note → (places : List ℕ) → List (Option Note)
  dealt notes [] = []
  dealt [] (place ∷ places) = None ∷ dealt [] places
  dealt (note ∷ notes) (place ∷ places) =
      cond (goes (taker place) note) (Some note ∷ dealt notes places) (None ∷ dealt (note ∷ notes) places)

  -- The diagnostics that are left.
  abbrev pub undealt : List Note → (places : List ℕ) → List Note
  undealt notes [] = notes
  undealt [] (place ∷ places) = undealt [] places
  undealt (note ∷ notes) (place ∷ places) = cond (goes (taker place) note) (undealt notes places) (undealt (note ∷ notes) places)

  -- Who has which. The first of these diagnostics has this number.
  abbrev pub giving : List Note → (number : ℕ) → (places : List ℕ) → Assignment → Assignment
  giving notes number [] before = before
  giving [] number (place ∷ places) before = giving [] number places before
  giving (note ∷ notes) number (place ∷ places) before =
      cond (goes (taker place) note) (giving notes (number + 1) places (give place number before)) (giving (note ∷ notes) number places before)

  pub in_order : (notes : List Note) (places : List ℕ) → filter_map (λ note. note) (dealt notes places) ++ undealt notes places ≡ notes
  in_order notes [] = refl
  in_order [] (place ∷ places) = in_order [] places
  in_order (note ∷ notes) (place ∷ places) =
      elim (goes (taker place) note) as (λ b.
      filter_map (λ note. note) (cond b (Some note ∷ dealt notes places) (None ∷ dealt (note ∷ notes) places))
      ++ cond b (undealt notes places) (undealt (note ∷ notes) places)
      ≡ note ∷ notes)
      [ true ↦ ap (λ (ns : List Note). note ∷ ns) (in_order notes places) | false ↦ in_order (note ∷ notes) places ]

-- ---- `along` deals them so

module _ (note : Note) (notes : List Note) (number : ℕ) (started : List Taker) (before : Assignment) (no_read : find (takes_read before note) started ≡ None) where
  abbrev fitting : Taker → Bool
  fitting taker = fits taker.fit note

  -- what follows where the step at the place has the diagnostic
  abbrev after : List Taker → (place : ℕ) → Assignment
  after ended place = along notes (number + 1) ended started (give place number before)

  abbrev by_ended : List Taker → Assignment
  by_ended ended = option_map_or (λ taker. after (after_first fitting ended) taker.place) (find fitting ended) before

  goes_to_ended : (ended : List Taker) → along (note ∷ notes) number ended started before ≡ by_ended ended
  goes_to_ended ended =
      ap
      (λ (read : Option Taker).
      option_map_or (λ taker. after (after_first fitting ended) taker.place) (find fitting ended)
      (option_map_or (λ taker. after ended taker.place) read before))
      no_read

  first_or_later : (taker : Taker) (rest : List Taker) (b : Bool)
      → option_map_or (λ other. after (drop (cond (not b) (1 + position_or_len fitting rest) 0 + 1) (taker ∷ rest)) other.place) (cond b (Some taker) (find fitting rest)) before
      ≡ cond b (after rest taker.place) (by_ended rest)
  first_or_later taker rest true = refl
  first_or_later taker rest false =
      let more : 1 + position_or_len fitting rest + 1 ≡ suc (position_or_len fitting rest + 1) = omega arith in
      ap (λ (k : ℕ). option_map_or (λ other. after (drop k (taker ∷ rest)) other.place) (find fitting rest) before) more

  one_step : (taker : Option Taker) (place : ℕ) (rest : List Taker) → IfSome taker (λ taker. taker.place ≡ place)
      → along (note ∷ notes) number (cons_option taker rest) started before
      ≡ cond (goes taker note) (after rest place) (along (note ∷ notes) number rest started before)
  one_step None place rest placed = refl
  one_step (Some taker) place rest placed =
      goes_to_ended (taker ∷ rest)
      ∙ first_or_later taker rest (fitting taker)
      ∙ ap₂ (λ (first later : Assignment). cond (fitting taker) first later) (ap (λ (p : ℕ). after rest p) placed) (sym (goes_to_ended rest))

module _ (taker : ℕ → Option Taker) (started : List Taker)
    (placed : (place : ℕ) → IfSome (taker place) (λ taker. taker.place ≡ place))
    (no_read : (before : Assignment) (note : Note) → find (takes_read before note) started ≡ None) where
  pub along_deals : (notes : List Note) (number : ℕ) (places : List ℕ) (before : Assignment)
      → along notes number (filter_map taker places) started before ≡ giving taker notes number places before
  along_deals [] number [] before = refl
  along_deals (note ∷ notes) number [] before = goes_to_ended note notes number started before (no_read before note) []
  along_deals [] number (place ∷ places) before = along_deals [] number places before
  along_deals (note ∷ notes) number (place ∷ places) before =
      one_step note notes number started before (no_read before note) (taker place) place (filter_map taker places) (placed place)
      ∙ ap₂ (λ (first later : Assignment). cond (goes (taker place) note) first later)
      (along_deals notes (number + 1) places (give place number before))
      (along_deals (note ∷ notes) number places before)
