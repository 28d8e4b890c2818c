-- The lines of the objects that Terraform stops tracking.
use Rattle.std.proofs.Common.{zero, ◌≡◌, ℕ, suc, ◌+◌, ◌<◌, ◌≤◌, List, [], ◌∷◌, ◌++◌, length, drop, get_or, Bor, refl, sym, ap, ◌∙◌, add-one, append_assoc, append-nil}
use Rattle.std.specs.Prelude.{Option, Some, None, slice_get}
use Rattle.std.specs.List.{HoldsAt}
use Rattle.std.specs.Option.{IfSome, MatchOption, option_copied}
use Rattle.std.proofs.Math.ListN.{drop_of_length-le}
use Rattle.std.proofs.lemmas.Option.{slice_get_past, slice_get_read}
use Rattle.std.proofs.lemmas.Grind.{flat_map-append}
use Rattle.apply_model.specs.declared.details.change_details.ChangeDetails.{ChangeDetails}
use Rattle.apply_model.specs.Plan.ResourceChange.{ResourceChange}
use Rattle.apply_text_planning.specs.Notes.{forgotten_at, forgotten_in, forgotten_line, forgotten_lines, forgotten_note_of, note_of_lines}

-- the lines from a change on
abbrev pub lines_from : List ResourceChange → List ChangeDetails → ℕ → List ℕ
lines_from changes details i = forgotten_lines (forgotten_in (drop i changes) (drop i details))

none_without_details : (changes : List ResourceChange) → forgotten_in changes [] ≡ []
none_without_details [] = refl
none_without_details (change ∷ changes) = refl

next_from : (changes : List ResourceChange) (details : List ChangeDetails) (i : ℕ) (change : ResourceChange) → Some change ≡ slice_get changes i
    → forgotten_in (drop i changes) (drop i details) ≡ forgotten_at change (slice_get details i) ++ forgotten_in (drop (suc i) changes) (drop (suc i) details)
next_from [] details i change is = cc
next_from (c ∷ cs) [] zero change is = sym (none_without_details cs)
next_from (c ∷ cs) [] (suc i) change is = none_without_details (drop i cs) ∙ sym (none_without_details (drop (suc i) cs))
next_from (c ∷ cs) (d ∷ ds) zero change is = let same : change ≡ c = cc in ap (λ (x : ResourceChange). forgotten_at x (Some d) ++ forgotten_in cs ds) (sym same)
next_from (c ∷ cs) (d ∷ ds) (suc i) change is = next_from cs ds i change is

-- the details that a search of a slice found
pub details_at : (found : Option (Bor ChangeDetails)) (details : List ChangeDetails) (i : ℕ) → IfSome found (λ d. d.now ≡ get_or details i d.now)
    → MatchOption found (length details ≤ i) (λ d. (i < length details) × HoldsAt (λ y. d.now ≡ y) details i) → option_copied found ≡ slice_get details i
details_at None details i is past = sym (slice_get_past details i past)
details_at (Some d) details i is within = sym (slice_get_read details (length details) i d.now refl within.0 is)

-- one more change
pub more_named : (old new start : List ℕ) (changes : List ResourceChange) (details : List ChangeDetails) (i : ℕ) (change : ResourceChange) → Some change ≡ slice_get changes i
    → new ≡ old ++ forgotten_lines (forgotten_at change (slice_get details i))
    → old ++ lines_from changes details i ≡ start ++ forgotten_lines (forgotten_in changes details)
    → new ++ lines_from changes details (i + 1) ≡ start ++ forgotten_lines (forgotten_in changes details)
more_named old new start changes details i change is grown so_far =
    let one = forgotten_at change (slice_get details i) in
    let rest = forgotten_in (drop (suc i) changes) (drop (suc i) details) in
    ap (λ k. new ++ lines_from changes details k) (add-one i) ∙ ap (λ text. text ++ forgotten_lines rest) grown ∙ append_assoc old (forgotten_lines one) (forgotten_lines rest)
    ∙ ap (λ text. old ++ text) (sym (flat_map-append forgotten_line one rest) ∙ ap forgotten_lines (sym (next_from changes details i change is))) ∙ so_far

-- all changes
pub all_named : (text start : List ℕ) (changes : List ResourceChange) (details : List ChangeDetails) (i : ℕ) → length changes ≤ i
    → text ++ lines_from changes details i ≡ start ++ forgotten_lines (forgotten_in changes details)
    → text ≡ start ++ forgotten_lines (forgotten_in changes details)
all_named text start changes details i end so_far =
    sym (append-nil text) ∙ ap (λ (cs : List ResourceChange). text ++ forgotten_lines (forgotten_in cs (drop i details))) (sym (drop_of_length-le changes end)) ∙ so_far

-- ---- the diagnostic

pub none_named : (addresses : List (List ℕ)) → forgotten_lines addresses ≡ [] → None ≡ forgotten_note_of addresses
none_named [] empty = refl
none_named (address ∷ addresses) empty = absurd cc

pub some_named : (addresses : List (List ℕ)) → (forgotten_lines addresses ≡ [] → ⊥) → Some (note_of_lines (forgotten_lines addresses)) ≡ forgotten_note_of addresses
some_named [] some = absurd (some refl)
some_named (address ∷ addresses) some = refl
