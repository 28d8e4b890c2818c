use Rattle.std.proofs.Common.{◌≡◌, [], string_bytes, refl, sym, ap, ◌∙◌, arith}
use Rattle.std.specs.Vec.Iter.{into_iter_items}
use Rattle.std.proofs.lemmas.Grind.{common_steps}
use Rattle.serde_json.specs.Data.{put}
use Rattle.apply_plan_terraform.specs.StoredOutputs.{members_view, put_all, view}
use Rattle.apply_plan_terraform.proofs.StoredMembers.{members_view-insert_entry}
use Rattle.apply_plan_terraform.proofs.stored.by_name.by_name.Goals as goal

pub loop-name-init : goal.loop-name-init
loop-name-init c =
    let given = c.into_iter-name-iterator.ensures.into_iter_gives.0 in (
      rw (given, c.new-collected.ensures.empty) refl,
      grind (arith, common_steps),
    )

pub loop-name-preserved : goal.loop-name-preserved
loop-name-preserved c =
    let l = c.loop-name in
    let collected = members_view l.collected.entries in
    let inserted : members_view c.insert.new.self.entries ≡ put (string_bytes c.in-Some.name) (view c.in-Some.output) collected =
    ap members_view c.in_ok-insert.ensures.entries ∙ members_view-insert_entry l.collected.entries c.in-Some.name c.in-Some.output in (
      l.invariant.0 ∙ ap (λ outputs. put_all outputs collected) c.in-Some.ensures.steps.0 ∙ ap (put_all (into_iter_items c.next.new.self)) (sym inserted),
      grind (arith, common_steps),
    )

pub returns : goal.returns
returns c =
    let l = c.loop-name in
    let none : into_iter_items l.name-iterator ≡ [] = grind (arith, common_steps) in
    sym (l.invariant.0 ∙ ap (λ outputs. put_all outputs (members_view l.collected.entries)) none)
