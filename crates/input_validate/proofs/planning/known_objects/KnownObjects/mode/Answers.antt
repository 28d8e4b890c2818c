use Rattle.std.proofs.Common.{◌≡◌, ◌+◌, ℕ, List, Option, Some, None, option_map, refl, ap, sym, ◌∙◌, arith}
use Rattle.std.specs.Prelude.{slice_get}
use Rattle.std.proofs.lemmas.Option.{slice_get-map}
use Rattle.apply_model.specs.Plan.ResourceChange.{ResourceChange}
use Rattle.apply_prior.specs.declared.prior_object.PriorObject.{PriorObject}
use Rattle.input_validate.specs.FirstNamed.{of_objects}
use Rattle.input_validate.specs.ObjectNames.{name_view}
use Rattle.input_validate.specs.PlanFindings.{is_named}
use Rattle.input_validate.specs.Planning.{known_mode}
use Rattle.input_validate.proofs.FirstNames.{nowhere, object_of, where_first}
use Rattle.input_validate.proofs.PriorNames.{objects_in}
use Rattle.input_validate.proofs.planning.known_objects.KnownObjects.mode.Goals as goal

twice : (o : Option PriorObject) → option_map (λ prior. prior.object.mode) o ≡ option_map (λ (object : ResourceChange). object.mode) (option_map (λ prior. prior.object) o)
twice None = refl
twice (Some prior) = refl

pub returns-in-None : goal.returns-in-None
returns-in-None c =
    let objects = objects_in c.self.inside.objects.now in
    ap (λ (o : Option ResourceChange). option_map (λ object. object.mode) o)
    (sym (nowhere object_of (is_named (name_view c.args.name)) objects 0 (sym (c.in-None.ensures (of_objects objects) c.self.invariant))))
    ∙ ap (λ (all : List ResourceChange). known_mode all (name_view c.args.name)) c.self.view_is

pub returns-in-Some : goal.returns-in-Some
returns-in-Some c =
    let priors = c.self.inside.objects.now in
    let objects = objects_in priors in
    let it = where_first object_of (is_named (name_view c.args.name)) objects 0 c.in-Some.number (sym (c.in-Some.ensures (of_objects objects) c.self.invariant)) in
    let at : c.in-Some.number ≡ it.at = it.is ∙ (let q : 0 + it.at ≡ it.at = omega arith in q) in
    c.numbered_mode.ensures
    ∙ ap (λ (n : ℕ). option_map (λ (prior : PriorObject). prior.object.mode) (slice_get priors n)) at
    ∙ twice (slice_get priors it.at)
    ∙ ap (λ (o : Option ResourceChange). option_map (λ object. object.mode) o) (sym (slice_get-map (λ (prior : PriorObject). prior.object) priors it.at) ∙ it.same_value)
    ∙ ap (λ (all : List ResourceChange). known_mode all (name_view c.args.name)) c.self.view_is
