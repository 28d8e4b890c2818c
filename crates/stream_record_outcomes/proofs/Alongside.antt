-- Diagnostics that are given to steps one after another.
use Rattle.std.proofs.Common.{◌≡◌, ◌∙◌, ℕ, ◌+◌, ◌<◌, List, ◌∷◌, Option, None, Some, Bool, ap, drop, get_or, length, map, refl, sym}
use Rattle.std.specs.Borrow.{Bor}
use Rattle.std.specs.Prelude.{option_map, position, slice_get}
use Rattle.std.specs.List.{after_first, find}
use Rattle.std.specs.Option.{option_map_or}
use Rattle.std.proofs.lemmas.List.{drop_more}
use Rattle.apply_model.specs.declared.details.note.Note.{Note}
use Rattle.stream_record_outcomes.specs.Assignment.{Assignment, Taker, along, fits, give, takes_read}
use Rattle.stream_record_outcomes.proofs.Places.{found_at, found_none, place_found}

chosen : (F : ℕ → Assignment) (other : Assignment) (o : Option Taker) (place : ℕ) → Some place ≡ option_map (λ taker. taker.place) o
    → option_map_or (λ taker. F taker.place) o other ≡ F place
chosen F other None place is = cc
chosen F other (Some taker) place is = let e : place ≡ taker.place = cc in ap (λ (p : ℕ). F p) (sym e)

unchosen : (F : ℕ → Assignment) (other : Assignment) (o : Option Taker) → (let none : Option ℕ = None in none) ≡ option_map (λ taker. taker.place) o
    → option_map_or (λ taker. F taker.place) o other ≡ other
unchosen F other None is = refl
unchosen F other (Some taker) is = cc

module _ (notes : List (Bor Note)) (number : ℕ) (note : Bor Note) (below : number < length notes) (is : note ≡ get_or notes number note)
    (left started : List Taker) (before : Assignment) where
  -- the diagnostics from a number on
  abbrev from : ℕ → List Note
  from n = map (λ note. note.now) (drop n notes)

  more : from number ≡ note.now ∷ from (number + 1)
  more =
      ap (λ (ns : List (Bor Note)). map (λ note. note.now) ns)
      (drop_more notes number note below ∙ ap (λ (n : Bor Note). n ∷ drop (number + 1) notes) (sym is))

  abbrev fitting : Taker → Bool
  fitting taker = fits taker.fit note.now

  -- what follows where an ended step takes it, and where a read does
  abbrev by_ended : ℕ → Assignment
  by_ended place = along (from (number + 1)) (number + 1) (after_first fitting left) started (give place number before)

  abbrev by_read : ℕ → Assignment
  by_read place = along (from (number + 1)) (number + 1) left started (give place number before)

  abbrev otherwise : Assignment
  otherwise = option_map_or (λ taker. by_read taker.place) (find (takes_read before note.now) started) before

  pub ended_more : (count place : ℕ) (rest : List Taker) → Some count ≡ position fitting left
      → Some place ≡ option_map (λ taker. taker.place) (slice_get left count) → rest ≡ drop (count + 1) left
      → along (from (number + 1)) (number + 1) rest started (give place number before) ≡ along (from number) number left started before
  ended_more count place rest found at cut =
      let after : after_first fitting left ≡ rest = ap (λ (n : ℕ). drop (n + 1) left) (place_found fitting left count found) ∙ sym cut in
      sym
      (ap (λ (ns : List Note). along ns number left started before) more
      ∙ ap (λ (o : Option Taker). option_map_or (λ taker. by_ended taker.place) o otherwise) (found_at fitting left count found)
      ∙ chosen by_ended otherwise (slice_get left count) place at
      ∙ ap (λ (ts : List Taker). along (from (number + 1)) (number + 1) ts started (give place number before)) after)

  passed : None ≡ position fitting left → along (from number) number left started before ≡ otherwise
  passed found =
      ap (λ (ns : List Note). along ns number left started before) more
      ∙ ap (λ (o : Option Taker). option_map_or (λ taker. by_ended taker.place) o otherwise) (found_none fitting left found)

  pub read_more : (place : ℕ) → None ≡ position fitting left
      → Some place ≡ option_map (λ taker. taker.place) (find (takes_read before note.now) started)
      → along (from (number + 1)) (number + 1) left started (give place number before) ≡ along (from number) number left started before
  read_more place found at =
      sym (passed found ∙ chosen by_read before (find (takes_read before note.now) started) place at)

  pub none_more : None ≡ position fitting left
      → None ≡ option_map (λ taker. taker.place) (find (takes_read before note.now) started)
      → before ≡ along (from number) number left started before
  none_more found at = sym (passed found ∙ unchosen by_read before (find (takes_read before note.now) started) at)
