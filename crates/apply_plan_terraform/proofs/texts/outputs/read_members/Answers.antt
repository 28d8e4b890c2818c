use Rattle.std.proofs.Common.{◌≡◌, ◌-◌, length, None, Some, sym, ap, ◌∙◌, arith, string_bytes}
use Rattle.json.specs.Json.{member, no_members, read_key, value}
use Rattle.json.proofs.Grammar.{left_none, left_some, read_key-shorter}
use Rattle.serde_json.specs.Data.{put, string}
use Rattle.apply_json.proofs.Turns.{key_named}
use Rattle.apply_plan_terraform.specs.declared.texts.part.Part.TheVariants as part
use Rattle.apply_plan_terraform.specs.StoredOutputs.{members_of_output}
use Rattle.apply_plan_terraform.specs.Texts.{members_with_texts}
use Rattle.apply_plan_terraform.proofs.Copying.{unchanged}
use Rattle.apply_plan_terraform.proofs.RawTexts.{raw_text, named, not_named}
use Rattle.apply_plan_terraform.proofs.MemberTurns.{no_key, no_value, over, turn}
use Rattle.apply_plan_terraform.proofs.texts.outputs.read_members.Goals as goal

pub members-init : goal.members-init
members-init c =
    (length c.args.reader.now, omega arith, (λ ms. ms), unchanged _, (λ ms. ap (members_with_texts part.Output ms) (sym c.none-collected.ensures)), omega arith)

pub returns-in_err-name-clause-err : goal.returns-in_err-name-clause-err
returns-in_err-name-clause-err c =
    let l = c.members in
    λ refused. no_key (value c.args.depth) _ l.invariant.2 l.invariant.0 l.reader l.invariant.3 c.in_err-name.ensures.value

pub returns-in_err-text-in-Some-named-clause-err : goal.returns-in_err-text-in-Some-named-clause-err
returns-in_err-text-in-Some-named-clause-err c =
    let l = c.members in
    let k = c.in-Some.name.now in
    let s = c.next_key.new.self in
    let key = key_named l.reader s c.in_ok-name.field-0 c.in-Some.name c.in_ok-name.ensures.value c.in-Some.is in
    λ refused. no_value (value c.args.depth) _ l.invariant.2 l.invariant.0 l.reader l.invariant.3 k s key (c.read_as_text.ensures.err (grind arith))

pub members-preserved-in-Some-named : goal.members-preserved-in-Some-named
members-preserved-in-Some-named c =
    let l = c.members in
    let n = l.invariant.0 in
    let front = l.invariant.2 in
    let k = c.in-Some.name.now in
    let s = c.next_key.new.self in
    let key = key_named l.reader s c.in_ok-name.field-0 c.in-Some.name c.in_ok-name.ensures.value c.in-Some.is in
    let done = c.in_ok-text-in-Some-named.ensures in
    let j = done.ok.0 in
    let r = c.read_as_text.new.reader in
    let less = read_key-shorter l.reader (Some k) s key in
    let lesser = done.shorter in
    let old = members_of_output l.collected in
    let facts = c.in-Some-named.ensures in
    let grown : members_of_output c.put.new.self ≡ put k (string (string_bytes c.in_ok-text-in-Some-named.text)) old =
    c.put.ensures ∙ ap (λ name. put name (string (string_bytes c.in_ok-text-in-Some-named.text)) old) facts.name in (
      n - 1,
      omega (arith, l.invariant.1),
      (λ ms. front (member k j ms)),
      turn (value c.args.depth) _ front n l.reader l.invariant.3 k s r j (omega (arith, l.invariant.1)) key done.ok.1,
      (λ ms. l.invariant.4 (member k j ms)
          ∙ named part.Output part.Text k j ms old (members_of_output c.put.new.self) facts.part (grown ∙ ap (λ d. put k d old) (ap string done.ok.2 ∙ sym (raw_text j)))),
      omega (arith, l.invariant.5),
    )

pub members-preserved : goal.members-preserved
members-preserved c =
    let l = c.members in
    let n = l.invariant.0 in
    let front = l.invariant.2 in
    let k = c.in-Some.name.now in
    let s = c.next_key.new.self in
    let key = key_named l.reader s c.in_ok-name.field-0 c.in-Some.name c.in_ok-name.ensures.value c.in-Some.is in
    let r = c.skip_value.new.self in
    let passed = left_some (value c.args.depth s) r c.in_ok-skip_value-in-None.ensures.value in
    let j = passed.0 in
    let less = read_key-shorter l.reader (Some k) s key in
    let lesser = c.in_ok-skip_value-in-None.ensures.shorter in (
      n - 1,
      omega (arith, l.invariant.1),
      (λ ms. front (member k j ms)),
      turn (value c.args.depth) _ front n l.reader l.invariant.3 k s r j (omega (arith, l.invariant.1)) key passed.1,
      (λ ms. l.invariant.4 (member k j ms) ∙ not_named part.Output k j ms (members_of_output l.collected) c.in-None.ensures.part),
      omega (arith, l.invariant.5),
    )

pub returns-in_err-skip_value-in-None-clause-err : goal.returns-in_err-skip_value-in-None-clause-err
returns-in_err-skip_value-in-None-clause-err c =
    let l = c.members in
    let k = c.in-Some.name.now in
    let s = c.next_key.new.self in
    let key = key_named l.reader s c.in_ok-name.field-0 c.in-Some.name c.in_ok-name.ensures.value c.in-Some.is in
    λ refused. no_value (value c.args.depth) _ l.invariant.2 l.invariant.0 l.reader l.invariant.3 k s key (left_none (value c.args.depth s) c.in_err-skip_value-in-None.ensures.value)

pub returns-clause-ok : goal.returns-clause-ok
returns-clause-ok c =
    let l = c.members in
    let end : read_key l.reader ≡ Some (None, c.next_key.new.self) = grind arith in (
      l.invariant.2 no_members,
      over (value c.args.depth) _ l.invariant.2 l.invariant.0 l.reader l.invariant.3 c.next_key.new.self l.invariant.1 end,
      sym (l.invariant.4 no_members),
    )
