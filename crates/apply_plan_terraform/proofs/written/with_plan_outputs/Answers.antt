use Rattle.std.proofs.Common.{◌≡◌, true, false, option_map, string_bytes, sym, ap, ◌∙◌, rules}
use Rattle.std.specs.Option.{is_some}
use Rattle.serde_json.specs.Data.{put}
use Rattle.serde_json.specs.Find.{get_member}
use Rattle.serde_json.specs.View.{view}
use Rattle.apply_plan_terraform.specs.StoredOutputs as stored
use Rattle.apply_plan_terraform.specs.StoredOutputs.{members_view}
use Rattle.apply_plan_terraform.specs.Outputs.{with_plan_outputs, is_written}
use Rattle.apply_plan_terraform.proofs.StoredMembers.{members_view-insert_entry}
use Rattle.apply_plan_terraform.proofs.MapMembers.{present_already, not_written, present_at, put_plan_output}
use Rattle.apply_plan_terraform.proofs.written.with_plan_outputs.Goals as goal
use Rattle.apply_plan_terraform.proofs.written.with_plan_outputs.Goals.{else-is_written-via-then-is_written+else-not-contains_key, else-is_written-via-else-is_written}

pub loop-name-preserved-then-not-contains_key : goal.loop-name-preserved-then-not-contains_key
loop-name-preserved-then-not-contains_key c =
    let changes = option_map (λ value. view value.now) c.args.changes in
    let l = c.loop-name in
    let name = string_bytes c.in-Some.name in
    let output = stored.view c.in-Some.output in
    let rest = members_view c.pop_first.new.self.entries in
    let collected = members_view l.collected.entries in
    let written : is_written changes name output ≡ true = search rules in
    let at = c.as_str-then-is_written.result.now in
    let same : at ≡ name = search rules in
    let absent : is_some (get_member name collected) ≡ false =
    ap (λ n. is_some (get_member n collected)) (sym same) ∙ present_at at l.collected ∙ sym c.contains_key.ensures ∙ c.if-not-contains_key.true in
    let new : members_view c.insert.new.self.entries ≡ put name output collected = ap members_view c.in_ok-insert.ensures.entries ∙ members_view-insert_entry l.collected.entries c.in-Some.name c.in-Some.output in
    l.invariant ∙ ap (λ es. with_plan_outputs changes (members_view es) collected) c.in-Some.ensures.removal ∙ put_plan_output changes name output rest collected _ written absent new

pub loop-name-preserved : goal.loop-name-preserved
loop-name-preserved c =
    let changes = option_map (λ value. view value.now) c.args.changes in
    let l = c.loop-name in
    let name = string_bytes c.in-Some.name in
    let output = stored.view c.in-Some.output in
    let rest = members_view c.pop_first.new.self.entries in
    let collected = members_view l.collected.entries in
    let passed : with_plan_outputs changes (members_view l.known.entries) collected ≡ with_plan_outputs changes rest collected = ap (λ es. with_plan_outputs changes (members_view es) collected) c.in-Some.ensures.removal ∙ elim c.else-is_written.branch [
      | else-is_written-via-then-is_written+else-not-contains_key w ↦ present_already changes name output rest collected
          (let same : w.as_str-then-is_written.result.now ≡ name = search rules in
          ap (λ n. is_some (get_member n collected)) (sym same) ∙ present_at w.as_str-then-is_written.result.now l.collected ∙ sym w.contains_key.ensures ∙ w.if-not-contains_key.false)
      | else-is_written-via-else-is_written w ↦ not_written changes name output rest collected (search rules)
    ] in
    l.invariant ∙ passed
