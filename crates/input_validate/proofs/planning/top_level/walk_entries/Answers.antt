use Rattle.std.proofs.Common.{◌≡◌, ◌<◌, ◌∷◌, ◌++◌, [], ℕ, List, Option, length, map, subst, take, sym, ap, ◌∙◌, arith}
use Rattle.std.specs.Option.{option_copied}
use Rattle.std.proofs.lemmas.List.{length-map}
use Rattle.serde_json.specs.View.{items_view, view}
use Rattle.apply_json.specs.Tree.{list_of}
use Rattle.input_validate.specs.Findings.{reported}
use Rattle.input_validate.specs.FirstNamed.{AreFirst}
use Rattle.input_validate.specs.ObjectNames.{Named}
use Rattle.input_validate.specs.PlanFindings.{first_named}
use Rattle.input_validate.specs.Planning.{in_planned, in_planned_after, planned_name}
use Rattle.input_validate.proofs.Trees.{after_more, length_so_far, named_more}
use Rattle.input_validate.proofs.planning.top_level.walk_entries.Goals as goal

pub loop-number-preserved : goal.loop-number-preserved
loop-number-preserved c =
    let known = option_copied c.args.known in
    let entries = c.args.entries.now in
    let number = c.loop-number.number in
    let entry = c.index-entries-number.result in
    let d = view entry in
    let below : number < length entries = omega arith in
    let before = list_of (items_view (take number entries)) in
    let names : List (Option Named) = map planned_name before in
    let counted : number ≡ length names = sym (length-map before planned_name ∙ length_so_far entries number (omega arith)) in
    let first : c.get.result ≡ first_named names (planned_name d) = c.get.ensures names c.loop-number.invariant.named ∙ ap (first_named names) c.planned_name-name.ensures in
    let walked : c.in_ok-findings.findings ≡ reported (in_planned_after known before d) =
    c.in_ok-findings.ensures ∙ ap (λ (o : Option ℕ). reported (in_planned known o d)) first in
    record {
      findings = c.in_ok-all.ensures _ _ (c.all.view_is ∙ c.loop-number.invariant.findings) (c.in_ok-under.ensures _ walked)
          ∙ ap reported (after_more (in_planned_after known) entries number entry below c.index-entries-number.is);
      named = subst (λ all. AreFirst c.push.new.self all)
          (ap (λ (x : Option Named). names ++ x ∷ []) c.planned_name-name.ensures ∙ named_more planned_name entries number entry below c.index-entries-number.is)
          (c.in_ok-push.ensures names c.loop-number.invariant.named counted);
    }
