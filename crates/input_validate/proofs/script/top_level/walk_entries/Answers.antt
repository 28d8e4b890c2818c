use Rattle.std.proofs.Common.{◌≡◌, ◌<◌, ◌∷◌, ◌++◌, [], ℕ, List, Option, length, map, subst, take, sym, ap, ◌∙◌, arith}
use Rattle.std.specs.List.{sum_by}
use Rattle.std.specs.Option.{option_copied}
use Rattle.std.proofs.lemmas.List.{length-map}
use Rattle.serde_json.specs.View.{items_view, view}
use Rattle.apply_json.specs.Tree.{list_of}
use Rattle.input_validate.specs.AgainstPlan.{left_after, named_first, waits_in_all, waits_left}
use Rattle.input_validate.specs.Findings.{reported}
use Rattle.input_validate.specs.FirstNamed.{AreFirst}
use Rattle.input_validate.specs.ObjectNames.{Named}
use Rattle.input_validate.specs.PlanFindings.{first_named, name_read}
use Rattle.input_validate.specs.ScriptFindings.{in_entry, in_entry_after}
use Rattle.input_validate.proofs.WaitsLeft.{left_more}
use Rattle.input_validate.proofs.Trees.{after_more, length_so_far, named_more, sum_more}
use Rattle.input_validate.proofs.script.top_level.walk_entries.Goals as goal

pub loop-number-preserved : goal.loop-number-preserved
loop-number-preserved c =
    let changes = option_copied c.args.planned in
    let entries = c.args.entries.now in
    let number = c.loop-number.number in
    let entry = c.index-entries-number.result in
    let d = view entry in
    let below : number < length entries = omega arith in
    let before = list_of (items_view (take number entries)) in
    let names : List (Option Named) = map name_read before in
    let counted : number ≡ length names = sym (length-map before name_read ∙ length_so_far entries number (omega arith)) in
    let first : c.get.result ≡ named_first before d = c.get.ensures names c.loop-number.invariant.named ∙ ap (first_named names) c.of-name.ensures in
    let walked : c.in_ok-findings.findings ≡ reported (in_entry_after changes before d) =
    c.in_ok-findings.ensures
    ∙ ap (λ (o : Option ℕ). reported (in_entry changes o c.loop-number.left d)) first
    ∙ ap (λ (o : Option ℕ). reported (in_entry changes (named_first before d) o d)) c.loop-number.invariant.room in
    record {
      findings = c.in_ok-all.ensures _ _ (c.all.view_is ∙ c.loop-number.invariant.findings) (c.in_ok-under.ensures _ walked)
          ∙ ap reported (after_more (in_entry_after changes) entries number entry below c.index-entries-number.is);
      named = subst (λ all. AreFirst c.push.new.self all)
          (ap (λ (x : Option Named). names ++ x ∷ []) c.of-name.ensures ∙ named_more name_read entries number entry below c.index-entries-number.is)
          (c.in_ok-push.ensures names c.loop-number.invariant.named counted);
      room = c.left_after-left.ensures ∙ ap (λ (o : Option ℕ). left_after o d) c.loop-number.invariant.room
          ∙ left_more (sum_by waits_in_all before) (waits_in_all d)
          ∙ ap waits_left (sum_more waits_in_all entries number entry below c.index-entries-number.is);
    }
