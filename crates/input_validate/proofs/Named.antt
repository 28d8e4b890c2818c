-- The object that an element names.
use Rattle.std.proofs.Common.{◌≡◌, ℕ, List, [], ◌∷◌, ◌++◌, sym, Bool, true, false, not, ◌&&◌, is_some, Option, None, refl, ap, ◌∙◌, if◌then◌else◌}
use Rattle.std.specs.List.{list_any}
use Rattle.serde_json.specs.Data.{Data}
use Rattle.serde_json.specs.Find.{as_object}
use Rattle.input_validate.specs.declared.findings.expected.Expected.TheVariants.{Object}
use Rattle.input_validate.specs.declared.findings.problem.Problem.TheVariants.{IsNot}
use Rattle.input_validate.specs.Findings.{Reported, finding_here, is_refusal, reported}
use Rattle.input_validate.specs.PlanFindings.{by_itself, first_named, in_element_named, name_of, name_read, named_again}

by_refusal : {A : Type 0} (b : Bool) (x : Option A) → (if b then None else x) ≡ (if (true && not b) then x else None)
by_refusal true x = refl
by_refusal false x = refl

-- an object names what a run reads, unless it has an error
pub name_is : (d : Data) (refuses : Bool) (seen : Reported) → is_some (as_object d) ≡ true → refuses ≡ seen.refuses → seen ≡ reported (by_itself d)
    → (if refuses then None else name_read d) ≡ name_of d
unfolding reported
name_is d refuses seen there is reported_is =
    let e : refuses ≡ list_any is_refusal (by_itself d) = is ∙ ap (λ (t : Reported). t.refuses) reported_is in
    rw (e, there) (by_refusal (list_any is_refusal (by_itself d)) (name_read d))

-- what is no object names nothing
pub no_name : (d : Data) → is_some (as_object d) ≡ false → name_of d ≡ None
no_name d not_there = rw not_there refl

picked : {A : Type 0} (b : Bool) (x y : A) → b ≡ true → (if b then x else y) ≡ x
picked true x y e = refl
picked false x y e = absurd cc

-- the findings of an object
pub in_object : (earlier : List (Option (List ℕ × Option (List ℕ)))) (d : Data) → is_some (as_object d) ≡ true
    → by_itself d ++ named_again (first_named earlier (name_of d)) ≡ in_element_named earlier d
in_object earlier d there =
    sym (picked (is_some (as_object d)) (by_itself d ++ named_again (first_named earlier (name_of d))) (finding_here (IsNot Object) ∷ []) there)
