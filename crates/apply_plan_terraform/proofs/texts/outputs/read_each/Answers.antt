use Rattle.std.proofs.Common.{rules, ◌≡◌, ◌-◌, ◌++◌, ◌∷◌, [], length, None, Some, refl, sym, ap, ◌∙◌, arith, string_bytes}
use Rattle.json.specs.Json.{member, no_members, read_key, value}
use Rattle.json.proofs.Grammar.{read_key-shorter}
use Rattle.serde_json.specs.Data as tree
use Rattle.serde_json.specs.Data.{put}
use Rattle.apply_json.proofs.Turns.{key_named}
use Rattle.apply_plan_terraform.specs.declared.texts.part.Part.TheVariants as part
use Rattle.apply_plan_terraform.specs.StoredOutputs.{put_all, view}
use Rattle.apply_plan_terraform.specs.Texts.{members_with_texts}
use Rattle.apply_plan_terraform.proofs.Copying.{unchanged}
use Rattle.apply_plan_terraform.proofs.StoredMembers.{put_last}
use Rattle.apply_plan_terraform.proofs.RawTexts.{named}
use Rattle.apply_plan_terraform.proofs.MemberTurns.{no_key, no_value, over, turn}
use Rattle.apply_plan_terraform.proofs.texts.outputs.read_each.Goals as goal

pub members-init : goal.members-init
members-init c =
    (length c.args.reader.now, omega arith, (λ ms. ms), unchanged _, (λ ms. ap (λ es. members_with_texts part.Outputs ms (put_all es tree.no_members)) (sym c.new-collected.ensures.items)), omega arith)

pub returns-in_err-name-clause-err : goal.returns-in_err-name-clause-err
returns-in_err-name-clause-err c =
    let l = c.members in
    λ refused. no_key (value c.args.depth) _ l.invariant.2 l.invariant.0 l.reader l.invariant.3 c.in_err-name.ensures.value

pub returns-in_err-output-clause-err : goal.returns-in_err-output-clause-err
returns-in_err-output-clause-err c =
    let l = c.members in
    let k = c.in-Some.name.now in
    let s = c.next_key.new.self in
    let key = key_named l.reader s c.in_ok-name.field-0 c.in-Some.name c.in_ok-name.ensures.value c.in-Some.is in
    λ refused. no_value (value c.args.depth) _ l.invariant.2 l.invariant.0 l.reader l.invariant.3 k s key (c.read_output.ensures.err (grind arith))

pub members-preserved : goal.members-preserved
members-preserved c =
    let l = c.members in
    let n = l.invariant.0 in
    let front = l.invariant.2 in
    let k = c.in-Some.name.now in
    let s = c.next_key.new.self in
    let key = key_named l.reader s c.in_ok-name.field-0 c.in-Some.name c.in_ok-name.ensures.value c.in-Some.is in
    let done = c.in_ok-output.ensures in
    let v = c.in_ok-output.output in
    let j = done.ok.0 in
    let r = c.read_output.new.reader in
    let less = read_key-shorter l.reader (Some k) s key in
    let lesser = done.shorter in
    let copied : string_bytes c.in_ok-key.key ≡ k = search rules in
    let old = put_all l.collected.items tree.no_members in
    let pushed : c.push.new.self.items ≡ l.collected.items ++ (c.in_ok-key.key, v) ∷ [] = grind arith in
    let inserted : put_all c.push.new.self.items tree.no_members ≡ put k (view v) old =
    ap (λ es. put_all es tree.no_members) pushed ∙ put_last l.collected.items (c.in_ok-key.key, v) tree.no_members ∙ ap (λ name. put name (view v) old) copied in (
      n - 1,
      omega (arith, l.invariant.1),
      (λ ms. front (member k j ms)),
      turn (value c.args.depth) _ front n l.reader l.invariant.3 k s r j (omega (arith, l.invariant.1)) key done.ok.1,
      (λ ms. l.invariant.4 (member k j ms)
          ∙ named part.Outputs part.Output k j ms old (put_all c.push.new.self.items tree.no_members) refl (inserted ∙ ap (λ d. put k d old) done.ok.2)),
      omega (arith, l.invariant.5),
    )

pub returns-clause-ok : goal.returns-clause-ok
returns-clause-ok c =
    let l = c.members in
    let end : read_key l.reader ≡ Some (None, c.next_key.new.self) = grind arith in (
      l.invariant.2 no_members,
      over (value c.args.depth) _ l.invariant.2 l.invariant.0 l.reader l.invariant.3 c.next_key.new.self l.invariant.1 end,
      sym (l.invariant.4 no_members),
    )
