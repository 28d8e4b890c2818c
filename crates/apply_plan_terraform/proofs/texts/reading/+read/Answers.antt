use Rattle.std.proofs.Common.{rules, ◌≡◌, ◌-◌, length, None, Some, sym, ap, ◌∙◌, arith, string_bytes}
use Rattle.json.specs.Json.{object, member, no_members, parse_map, read_key, value}
use Rattle.json.proofs.Grammar.{left_none, left_some, members_end, members_fail, members_more, members_no_key, read_key-shorter}
use Rattle.serde_json.specs.Data as tree
use Rattle.serde_json.specs.Data.{put}
use Rattle.serde_json.specs.View.{view, members_view}
use Rattle.serde_json.proofs.Views.{members_view-insert_entry, view-Object}
use Rattle.apply_json.proofs.Turns.{key_named}
use Rattle.apply_plan_terraform.specs.Texts.{members_with_texts}
use Rattle.apply_plan_terraform.proofs.Beginnings.{if_none, if_some}
use Rattle.apply_plan_terraform.proofs.Copying.{fused, unchanged}
use Rattle.apply_plan_terraform.proofs.RawTexts.{stored_whole, looked_into, named, not_named, shallow_text}
use Rattle.apply_plan_terraform.proofs.texts.reading.+read.Goals as goal

pub read-returns-then-is_text-clause-ok : goal.read-returns-then-is_text-clause-ok
read-returns-then-is_text-clause-ok t c =
    let done = c.in_ok-read_as_text.ensures.ok in
    (done.0, done.1, shallow_text c.in_ok-read_as_text.field-0 ∙ ap tree.string done.2 ∙ sym (stored_whole c.args.part done.0 (grind arith)))

pub read-returns-in_err-read_members-in-None-clause-err : goal.read-returns-in_err-read_members-in-None-clause-err
read-returns-in_err-read_members-in-None-clause-err t c =
    let begun = if_none _ _ c.in_ok-begin.field-0 c.in-None.is c.in_ok-begin.ensures.ok in
    λ refused. begun.1 ∙ ap (parse_map object) (c.read_members.ensures.err (grind arith))

pub read-returns-in_ok-read_members-in-None-clause-ok : goal.read-returns-in_ok-read_members-in-None-clause-ok
read-returns-in_ok-read_members-in-None-clause-ok t c =
    let begun = if_none _ _ c.in_ok-begin.field-0 c.in-None.is c.in_ok-begin.ensures.ok in
    let done = c.in_ok-read_members-in-None.ensures.ok in (
      object done.0,
      begun.1 ∙ ap (parse_map object) done.1,
      view-Object c.in_ok-read_members-in-None.field-0 ∙ ap tree.object done.2 ∙ sym (looked_into c.args.part done.0 (grind arith)),
    )

pub read-returns-in-Some-clause-ok : goal.read-returns-in-Some-clause-ok
read-returns-in-Some-clause-ok t c =
    let begun = if_some _ _ c.in_ok-begin.field-0 c.in-Some.text c.in-Some.is c.in_ok-begin.ensures.ok in
    (begun.0, begun.1, shallow_text c.in-Some.text ∙ sym (begun.2 c.args.part))

pub read_members-members-init : goal.read_members-members-init
read_members-members-init t c =
    (length c.args.reader.now, omega arith, (λ ms. ms), unchanged _, (λ ms. ap (members_with_texts c.args.part ms) (sym (ap members_view c.new-collected.ensures.empty))), omega arith)

pub read_members-returns-in_err-name-clause-err : goal.read_members-returns-in_err-name-clause-err
read_members-returns-in_err-name-clause-err t c =
    let l = c.members in
    λ refused. l.invariant.3 ∙ ap (parse_map l.invariant.2) (members_no_key (value c.args.depth) l.invariant.0 l.reader c.in_err-name.ensures.value)

pub read_members-returns-in_err-member-in-Some-named-clause-err : goal.read_members-returns-in_err-member-in-Some-named-clause-err
read_members-returns-in_err-member-in-Some-named-clause-err t c =
    let l = c.members in
    let k = c.in-Some.name.now in
    let s = c.next_key.new.self in
    let key = key_named l.reader s c.in_ok-name.field-0 c.in-Some.name c.in_ok-name.ensures.value c.in-Some.is in
    λ refused. l.invariant.3 ∙ ap (parse_map l.invariant.2) (members_fail (value c.args.depth) l.invariant.0 k l.reader s key (c.read.ensures.err (grind arith)))

pub read_members-members-preserved-in-Some-named : goal.read_members-members-preserved-in-Some-named
read_members-members-preserved-in-Some-named t c =
    let p = value c.args.depth in
    let l = c.members in
    let n = l.invariant.0 in
    let front = l.invariant.2 in
    let k = c.in-Some.name.now in
    let s = c.next_key.new.self in
    let key = key_named l.reader s c.in_ok-name.field-0 c.in-Some.name c.in_ok-name.ensures.value c.in-Some.is in
    let done = c.in_ok-member-in-Some-named.ensures in
    let v = c.in_ok-member-in-Some-named.member in
    let j = done.ok.0 in
    let r = c.read.new.reader in
    let less = read_key-shorter l.reader (Some k) s key in
    let lesser = done.shorter in
    let copied : string_bytes c.in_ok-key-in-Some-named.key ≡ k = search rules in
    let old = members_view l.collected.entries in
    let inserted : members_view c.insert.new.self.entries ≡ put k (view v) old =
    ap members_view c.in_ok-insert-in-Some-named.ensures.entries ∙ members_view-insert_entry l.collected.entries c.in_ok-key-in-Some-named.key v ∙ ap (λ name. put name (view v) old) copied in
    let turn = l.invariant.3 ∙ ap (parse_map front) (members_more p n k l.reader s r j (omega (arith, l.invariant.1)) key done.ok.1) ∙ fused front (member k j) _ in (
      n - 1,
      omega (arith, l.invariant.1),
      (λ ms. front (member k j ms)),
      turn,
      (λ ms. l.invariant.4 (member k j ms)
          ∙ named c.args.part c.in-Some-named.inner k j ms old (members_view c.insert.new.self.entries) c.in-Some-named.ensures (inserted ∙ ap (λ d. put k d old) done.ok.2)),
      omega (arith, l.invariant.5),
    )

pub read_members-members-preserved : goal.read_members-members-preserved
read_members-members-preserved t c =
    let p = value c.args.depth in
    let l = c.members in
    let n = l.invariant.0 in
    let front = l.invariant.2 in
    let k = c.in-Some.name.now in
    let s = c.next_key.new.self in
    let key = key_named l.reader s c.in_ok-name.field-0 c.in-Some.name c.in_ok-name.ensures.value c.in-Some.is in
    let r = c.skip_value.new.self in
    let passed = left_some (p s) r c.in_ok-skip_value-in-None.ensures.value in
    let j = passed.0 in
    let less = read_key-shorter l.reader (Some k) s key in
    let lesser = c.in_ok-skip_value-in-None.ensures.shorter in
    let turn = l.invariant.3 ∙ ap (parse_map front) (members_more p n k l.reader s r j (omega (arith, l.invariant.1)) key passed.1) ∙ fused front (member k j) _ in (
      n - 1,
      omega (arith, l.invariant.1),
      (λ ms. front (member k j ms)),
      turn,
      (λ ms. l.invariant.4 (member k j ms) ∙ not_named c.args.part k j ms (members_view l.collected.entries) c.in-None.ensures),
      omega (arith, l.invariant.5),
    )

pub read_members-returns-in_err-skip_value-in-None-clause-err : goal.read_members-returns-in_err-skip_value-in-None-clause-err
read_members-returns-in_err-skip_value-in-None-clause-err t c =
    let p = value c.args.depth in
    let l = c.members in
    let k = c.in-Some.name.now in
    let s = c.next_key.new.self in
    let key = key_named l.reader s c.in_ok-name.field-0 c.in-Some.name c.in_ok-name.ensures.value c.in-Some.is in
    λ refused. l.invariant.3 ∙ ap (parse_map l.invariant.2) (members_fail p l.invariant.0 k l.reader s key (left_none (p s) c.in_err-skip_value-in-None.ensures.value))

pub read_members-returns-clause-ok : goal.read_members-returns-clause-ok
read_members-returns-clause-ok t c =
    let l = c.members in
    let over : read_key l.reader ≡ Some (None, c.next_key.new.self) = grind arith in (
      l.invariant.2 no_members,
      l.invariant.3 ∙ ap (parse_map l.invariant.2) (members_end (value c.args.depth) l.invariant.0 l.reader c.next_key.new.self l.invariant.1 over),
      sym (l.invariant.4 no_members),
    )
