-- The pieces of what comes first in Terraform's form.
use Rattle.std.proofs.Common.{◌≡◌, ◌≢◌, ◌<◌, ◌+◌, ◌-◌, ◌∙◌, ℕ, suc, zero, List, [], ◌∷◌, length, get_or, map, refl, sym, ap, subst, arith}
use Rattle.std.specs.Prelude.{slice_get, slice_index_or, Option, Some, None}
use Rattle.std.specs.List.{enumerate_from}
use Rattle.std.specs.Option.{option_map_or}
use Rattle.std.proofs.lemmas.List.{get_or-map, length-map}
use Rattle.std.proofs.lemmas.List.FromFn.{get_or-enumerate_from, length-enumerate_from}
use Rattle.std.proofs.lemmas.Option.{slice_get-get_or}
use Rattle.apply_model.specs.Plan.ResourceChange.{ResourceChange}
use Rattle.apply_model.specs.Plan.SavedPlan.{SavedPlan}
use Rattle.apply_model.specs.declared.details.change_details.ChangeDetails.{ChangeDetails}
use Rattle.apply_writer.specs.Stream.Terraform.{terraform_head_chunks, planned_at}

-- one for the version, and one for each change
pub pieces_count : (plan : SavedPlan) (details : List ChangeDetails) (start : ℕ) → length (terraform_head_chunks plan details start) ≡ length plan.changes + 1
pieces_count plan details start =
    let mapped : length (map (planned_at start details) (enumerate_from 0 plan.changes)) ≡ length (enumerate_from 0 plan.changes) = length-map (enumerate_from 0 plan.changes) (planned_at start details) in
    omega (arith, mapped, length-enumerate_from 0 plan.changes)

-- the text of something, where it is
text_of_some : {X : Type 0} (f : X → List ℕ) (chosen : Option X) (x : X) → chosen ≡ Some x → option_map_or f chosen [] ≡ f x
text_of_some f chosen x is = ap (λ o. option_map_or f o []) is

-- the piece of a change, where one stands at that number
piece_at : (changes : List ResourceChange) (details : List ChangeDetails) (start number : ℕ) (change : ResourceChange) → number < length changes
    → option_map_or (λ c. planned_at start details (number, c)) (slice_get changes number) []
    ≡ get_or (map (planned_at start details) (enumerate_from 0 changes)) number []
piece_at changes details start number change low =
    let at = planned_at start details in
    let low' : number < length (enumerate_from 0 changes) = omega (arith, length-enumerate_from 0 changes) in
    let place : 0 + number ≡ number = omega arith in
    text_of_some (λ c. at (number, c)) (slice_get changes number) (get_or changes number change) (slice_get-get_or changes number change low)
    ∙ sym (get_or-map at (enumerate_from 0 changes) number (0, change) [] low'
    ∙ ap at (get_or-enumerate_from 0 changes number (0, change) low)
    ∙ ap (λ i. at (i, get_or changes number change)) place)

piece_of : (changes : List ResourceChange) (details : List ChangeDetails) (start number : ℕ) → number < length changes
    → option_map_or (λ c. planned_at start details (number, c)) (slice_get changes number) []
    ≡ get_or (map (planned_at start details) (enumerate_from 0 changes)) number []
piece_of [] details start number low = absurd (omega (arith, low))
piece_of (change ∷ changes) details start number low = piece_at (change ∷ changes) details start number change low

-- after the version
pub piece_of_change : (plan : SavedPlan) (details : List ChangeDetails) (start place : ℕ) → place ≢ 0 → place < length (terraform_head_chunks plan details start)
    → option_map_or (λ change. planned_at start details (place - 1, change)) (slice_get plan.changes (place - 1)) []
    ≡ slice_index_or (terraform_head_chunks plan details start) place []
piece_of_change plan details start zero none low = absurd (none refl)
piece_of_change plan details start (suc number) none low =
    let low' : number < length plan.changes = omega (arith, low, pieces_count plan details start) in
    let before : suc number - 1 ≡ number = omega arith in
    subst (λ n. option_map_or (λ change. planned_at start details (n, change)) (slice_get plan.changes n) [] ≡ slice_index_or (terraform_head_chunks plan details start) (suc number) [])
    (sym before) (piece_of plan.changes details start number low')

pub change_of_piece : (plan : SavedPlan) (details : List ChangeDetails) (start place : ℕ) → place ≢ 0 → place < length (terraform_head_chunks plan details start) → place - 1 < length plan.changes
change_of_piece plan details start place none low = omega (arith, low, pieces_count plan details start, none)
