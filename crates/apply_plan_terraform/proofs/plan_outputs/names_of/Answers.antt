use Rattle.std.proofs.Common.{◌≡◌, ◌+◌, ◌++◌, ◌∷◌, [], get_or, string_bytes, option_map, take, sym, ap, ◌∙◌, rules}
use Rattle.std.proofs.lemmas.Map.Text.{btree_map_updates_str}
use Rattle.std.proofs.lemmas.List.{take_all, take_more}
use Rattle.serde_json.specs.Data.{no_members}
use Rattle.serde_json.specs.Find.{get_member}
use Rattle.apply_plan_terraform.specs.StoredOutputs.{put_all, view}
use Rattle.apply_plan_terraform.specs.Outputs.{is_typed}
use Rattle.apply_plan_terraform.proofs.Names.{named_last}
use Rattle.apply_plan_terraform.proofs.plan_outputs.names_of.Goals as goal

pub loop-entry-preserved : goal.loop-entry-preserved
loop-entry-preserved c =
    let l = c.loop-entry in
    let outputs = c.args.outputs.now in
    let entry = c.entry-item.result in
    let before = take l.entry-index outputs in
    let at : get_or outputs l.entry-index entry ≡ entry = search rules in
    let more : take (l.entry-index + 1) outputs ≡ before ++ entry ∷ [] = take_more outputs l.entry-index entry c.loop-entry-test.true ∙ ap (λ e. before ++ e ∷ []) at in
    let name : c.as_str.result.now ≡ string_bytes entry.0 = search rules in
    let typed : c.is_kind.result ≡ is_typed (view entry.1) = search rules in
    λ q.
    btree_map_updates_str c.as_str.result.now l.names c.insert.new.self _ c.in_ok-insert.ensures.updates q
    ∙ named_last before entry c.as_str.result.now c.is_kind.result q _ name typed (l.invariant q)
    ∙ ap (λ es. option_map is_typed (get_member q (put_all es no_members))) (sym more)

pub returns : goal.returns
returns c = λ name.
    c.loop-entry.invariant name ∙ ap (λ outputs. option_map is_typed (get_member name (put_all outputs no_members))) (take_all c.loop-entry.entry-index c.args.outputs.now c.loop-entry-test.false)
