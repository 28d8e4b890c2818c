-- The names of prior objects, as objects are added.
use Rattle.std.proofs.Common.{◌≡◌, ℕ, ◌+◌, ◌<◌, List, [], ◌∷◌, ◌++◌, get_or, length, map, take, refl, sym, ap, ◌∙◌, arith}
use Rattle.std.proofs.lemmas.List.{length-map, length-take-le, map-append, take_more}
use Rattle.apply_model.specs.Plan.ResourceChange.{ResourceChange}
use Rattle.apply_prior.specs.declared.prior_object.PriorObject.{PriorObject}
use Rattle.apply_prior.specs.Objects.{ObjectOfPlan}
use Rattle.apply_prior.specs.Prior.{object_view}
use Rattle.input_validate.specs.FirstNamed.{of_objects}
use Rattle.input_validate.proofs.FirstNames.{object_of}

-- the objects of prior objects
abbrev pub objects_in : List PriorObject → List ResourceChange
objects_in priors = map (λ prior. prior.object) priors

pub so_many : (priors : List PriorObject) (i : ℕ) → i < length priors → i ≡ length (of_objects (objects_in (take i priors)))
so_many priors i below =
    sym (length-map (objects_in (take i priors)) object_of ∙ length-map (take i priors) (λ prior. prior.object) ∙ length-take-le i priors (omega arith))

pub one_more : (priors : List PriorObject) (i : ℕ) (prior : PriorObject) → i < length priors → prior ≡ get_or priors i prior
    → of_objects (objects_in (take i priors)) ++ object_of prior.object ∷ [] ≡ of_objects (objects_in (take (i + 1) priors))
one_more priors i prior below read =
    sym (ap (λ (ps : List PriorObject). of_objects (objects_in ps)) (take_more priors i prior below ∙ ap (λ (x : PriorObject). take i priors ++ x ∷ []) (sym read))
    ∙ ap of_objects (map-append (λ (p : PriorObject). p.object) (take i priors) (prior ∷ []))
    ∙ map-append object_of (objects_in (take i priors)) (prior.object ∷ []))

-- the objects that a plan has before it is made
pub views_in : (priors : List PriorObject) → map (λ (it : ObjectOfPlan). it.object) (map object_view priors) ≡ objects_in priors
views_in [] = refl
views_in (prior ∷ priors) = ap (λ (all : List ResourceChange). prior.object ∷ all) (views_in priors)
