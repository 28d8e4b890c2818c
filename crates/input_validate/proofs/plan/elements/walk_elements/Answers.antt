use Rattle.std.proofs.Common.{◌≡◌, ◌<◌, ◌+◌, ◌∷◌, ◌++◌, [], List, Option, length, map, option_map, take, subst, sym, ap, ◌∙◌, arith}
use Rattle.std.proofs.lemmas.List.{length-map}
use Rattle.serde_json.specs.View.{items_view}
use Rattle.apply_json.specs.Tree.{list_of}
use Rattle.input_validate.specs.Findings.{reported}
use Rattle.input_validate.specs.FirstNamed.{AreFirst}
use Rattle.input_validate.specs.ObjectNames.{Named, name_view}
use Rattle.input_validate.specs.PlanFindings.{in_element, name_of}
use Rattle.input_validate.proofs.Trees.{after_more, length_so_far, named_more}
use Rattle.input_validate.proofs.plan.elements.walk_elements.Goals as goal

pub loop-number-preserved : goal.loop-number-preserved
loop-number-preserved c =
    let below : c.loop-number.number < length c.args.elements.now = omega arith in
    let element = c.index-elements-number.result in
    let so_far : List (Option Named) = map name_of (list_of (items_view (take c.loop-number.number c.args.elements.now))) in
    let counted : c.loop-number.number ≡ length so_far =
    sym (length-map (list_of (items_view (take c.loop-number.number c.args.elements.now))) name_of ∙ length_so_far c.args.elements.now c.loop-number.number (omega arith)) in
    let more : so_far ++ option_map name_view c.in_ok-findings.name ∷ [] ≡ map name_of (list_of (items_view (take (c.loop-number.number + 1) c.args.elements.now))) =
    ap (λ (x : Option Named). so_far ++ x ∷ []) c.in_ok-findings.ensures.name ∙ named_more name_of c.args.elements.now c.loop-number.number element below c.index-elements-number.is in
    record {
      findings = c.in_ok-all.ensures _ _ (c.all.view_is ∙ c.loop-number.invariant.findings) (c.in_ok-under.ensures _
          (c.in_ok-findings.ensures.findings so_far c.loop-number.invariant.named))
          ∙ ap reported (after_more in_element c.args.elements.now c.loop-number.number element below c.index-elements-number.is);
      named = subst (λ names. AreFirst c.push.new.self names) more (c.in_ok-push.ensures so_far c.loop-number.invariant.named counted);
    }
