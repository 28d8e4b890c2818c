-- The changes that are told, one change at a time.
use Rattle.std.proofs.Common.{◌≡◌, ◌<◌, ◌≤◌, ◌+◌, ◌++◌, ℕ, Bool, true, false, not, List, [], ◌∷◌, Option, Some, None, if◌then◌else◌, get_or, length, take, refl, sym, ap, ◌∙◌, arith}
use Rattle.std.specs.Prelude.{slice_get}
use Rattle.std.specs.List.{enumerate_from, filter_map}
use Rattle.std.specs.Option.{option_copied, option_map_or}
use Rattle.std.proofs.lemmas.List.{take_all, take_more}
use Rattle.std.proofs.lemmas.List.Elements.{filter_map-append}
use Rattle.std.proofs.lemmas.List.FromFn.{get_or-enumerate_from, length-enumerate_from}
use Rattle.std.proofs.lemmas.Option.{get_or_from_slice_get}
use Rattle.apply_model.specs.declared.details.change_details.ChangeDetails.{ChangeDetails}
use Rattle.apply_model.specs.Plan.ResourceChange.{ResourceChange}
use Rattle.apply_resolve.specs.declared.object_id.ObjectId.{ObjectId}
use Rattle.apply_planning_failures.specs.declared.lost_objects.LostObjects.{LostObjects}
use Rattle.apply_planning_failures.specs.LostObjects.{HasLost, has_object}
use Rattle.apply_planning_failures.specs.Planning.{Planning}
use Rattle.apply_planning_failures.specs.PlansPart.{details_at, is_kept, kept, told_with}

not_is : (b : Bool) → not b ≡ (if b then false else true)
not_is true = refl
not_is false = refl

-- a change is told, if its object is not among the lost ones
pub kept_unless_lost : (failed : Bool) (planning : Planning) (lost : Option LostObjects) (id : ObjectId) (change : ResourceChange) (b : Bool) → id.address.now ≡ change.address → option_copied id.deposed ≡ change.deposed
    → HasLost failed planning lost → b ≡ option_map_or (λ objects. has_object objects id) lost false → not b ≡ is_kept failed planning change
kept_unless_lost failed planning lost id change b address deposed has is = ap not (is ∙ has id) ∙ rw (address, deposed) (not_is _)

-- the numbers of those of the first n changes that are told
abbrev pub first_kept : Bool → Planning → List ResourceChange → (n : ℕ) → List ℕ
first_kept failed planning changes n =
    filter_map (λ (p : ℕ × ResourceChange). if is_kept failed planning p.1 then Some p.0 else None) (take n (enumerate_from 0 changes))

one_number : (b : Bool) (n : ℕ) → filter_map (λ (o : Option ℕ). o) ((if b then Some n else None) ∷ []) ≡ (if b then n ∷ [] else [])
one_number true n = refl
one_number false n = refl

-- one change more
pub kept_more : (failed : Bool) (planning : Planning) (changes : List ResourceChange) (n : ℕ) (change : ResourceChange) (b : Bool) → n < length changes → slice_get changes n ≡ Some change
    → b ≡ is_kept failed planning change → first_kept failed planning changes (n + 1) ≡ first_kept failed planning changes n ++ (if b then n ∷ [] else [])
kept_more failed planning changes n change b few at is =
    let number = λ (p : ℕ × ResourceChange). if is_kept failed planning p.1 then Some p.0 else None in
    let all = enumerate_from 0 changes in
    let before = filter_map number (take n all) in
    let few' : n < length all = omega (arith, length-enumerate_from 0 changes) in
    let from_zero : 0 + n ≡ n = omega arith in
    let here : get_or all n (n, change) ≡ (n, change) = get_or-enumerate_from 0 changes n (n, change) few ∙ ap {B = ℕ × ResourceChange} (λ m. (m, get_or changes n change)) from_zero ∙ ap {B = ℕ × ResourceChange} (λ c. (n, c)) (get_or_from_slice_get changes n change change at) in
    ap (filter_map number) (take_more all n (n, change) few')
    ∙ filter_map-append number (take n all) (get_or all n (n, change) ∷ [])
    ∙ ap (λ (p : ℕ × ResourceChange). before ++ filter_map number (p ∷ [])) here
    ∙ ap (λ (is_told : Bool). before ++ filter_map (λ (o : Option ℕ). o) ((if is_told then Some n else None) ∷ [])) (sym is)
    ∙ ap (λ (ns : List ℕ). before ++ ns) (one_number b n)

-- the numbers of one change more
pub numbers_after : (failed : Bool) (planning : Planning) (changes : List ResourceChange) (n : ℕ) (change : ResourceChange) (b : Bool) (numbers new : List ℕ) → n < length changes → slice_get changes n ≡ Some change
    → b ≡ is_kept failed planning change → numbers ≡ first_kept failed planning changes n → new ≡ numbers ++ (if b then n ∷ [] else []) → new ≡ first_kept failed planning changes (n + 1)
numbers_after failed planning changes n change b numbers new few at is so_far grown =
    grown ∙ ap (λ (ns : List ℕ). ns ++ (if b then n ∷ [] else [])) so_far ∙ sym (kept_more failed planning changes n change b few at is)

-- no change is left
pub kept_all : (failed : Bool) (planning : Planning) (changes : List ResourceChange) (n : ℕ) → length changes ≤ n → first_kept failed planning changes n ≡ kept failed planning changes
kept_all failed planning changes n past = ap (filter_map _) (take_all n (enumerate_from 0 changes) (omega (arith, length-enumerate_from 0 changes)))

one_told : (b : Bool) (changes : List ResourceChange) (details : List ChangeDetails) (n : ℕ) (change : ResourceChange) (o : Option ChangeDetails) → slice_get changes n ≡ Some change → slice_get details n ≡ o
    → filter_map (details_at changes details) (if b then n ∷ [] else []) ≡ told_with b change o
one_told false changes details n change None at d = refl
one_told false changes details n change (Some one) at d = refl
one_told true changes details n change None at d = rw (at, d) refl
one_told true changes details n change (Some one) at d = rw (at, d) refl

-- one change more, with its details
pub told_more : (failed : Bool) (planning : Planning) (changes : List ResourceChange) (details : List ChangeDetails) (n : ℕ) (change : ResourceChange) (b : Bool) (o : Option ChangeDetails)
    → n < length changes → slice_get changes n ≡ Some change → slice_get details n ≡ o → b ≡ is_kept failed planning change
    → filter_map (details_at changes details) (first_kept failed planning changes (n + 1)) ≡ filter_map (details_at changes details) (first_kept failed planning changes n) ++ told_with b change o
told_more failed planning changes details n change b o few at with is =
    let at_number = details_at changes details in
    let before = first_kept failed planning changes n in
    ap (filter_map at_number) (kept_more failed planning changes n change b few at is)
    ∙ filter_map-append at_number before (if b then n ∷ [] else [])
    ∙ ap (λ (told : List (ResourceChange × ChangeDetails)). filter_map at_number before ++ told) (one_told b changes details n change o at with)
