-- How many lines of planned changes a stream in Terraform's form has.
use Rattle.std.proofs.Common.{◌≡◌, ℕ, cond, false, List, [], ◌∷◌, length, flat_map, Option, Some, None, refl, slice_get, count_by, arith}
use Rattle.std.specs.Prelude.{is_some}
use Rattle.std.specs.Option.{option_map_or}
use Rattle.std.proofs.lemmas.List.{length-append}
use Rattle.std.proofs.lemmas.List.Sums.{sum_by-cons}
use Rattle.apply_model.specs.declared.details.change_details.ChangeDetails.{ChangeDetails}
use Rattle.apply_model.specs.Plan.ResourceChange.{ResourceChange}
use Rattle.apply_text_terraform.specs.Details.{planned_word}
use Rattle.stream_record_lines.specs.declared.event.Event.TheVariants as event
use Rattle.laws_lines.specs.Stated.{stated_at}
use Rattle.laws_lines.specs.Streams.{planned_told}
use Rattle.laws_own_streams.specs.Runs.{has_line}

module _ (start : ℕ) (details : List ChangeDetails) where
  one_line : (p : ℕ × ResourceChange) → length (planned_told start details p) ≡ cond (has_line details p) 1 0
  one_line p = of_details (slice_get details p.0)
    where
      of_word : (word : Option (List ℕ)) → length (option_map_or (λ _. stated_at start event.Other ∷ []) word []) ≡ cond (is_some word) 1 0
      of_word None = refl
      of_word (Some word) = refl

      of_details : (o : Option ChangeDetails)
          → length (option_map_or (λ (d : ChangeDetails). option_map_or (λ word. stated_at start event.Other ∷ []) (planned_word p.1.steps d.forgets) []) o [])
          ≡ cond (option_map_or (λ (d : ChangeDetails). is_some (planned_word p.1.steps d.forgets)) o false) 1 0
      of_details None = refl
      of_details (Some d) = of_word (planned_word p.1.steps d.forgets)

  pub all_lines : (ps : List (ℕ × ResourceChange)) → length (flat_map (planned_told start details) ps) ≡ count_by (has_line details) ps
  all_lines [] = refl
  all_lines (p ∷ ps) =
      let both = length-append (planned_told start details p) (flat_map (planned_told start details) ps) in
      let here = one_line p in
      let rest = all_lines ps in
      let all = sum_by-cons (λ p. cond (has_line details p) 1 0) p ps in
      omega arith
