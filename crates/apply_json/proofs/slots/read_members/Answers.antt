use Rattle.std.proofs.Common.{◌-◌, length, Some, refl, ◌∙◌, arith}
use Rattle.json.specs.Json.{value}
use Rattle.json.proofs.Grammar.{read_key-shorter}
use Rattle.serde_json.specs.Data.{no_members, put}
use Rattle.apply_json.proofs.KeepingTurns.{key_refused, member_read, member_refused, members_over}
use Rattle.apply_json.proofs.Turns.{key_named}
use Rattle.apply_json.proofs.slots.read_members.Goals as goal

pub members-init : goal.members-init
members-init g c = (length c.args.reader.now, omega arith, no_members, c.requires, refl, omega arith)

pub returns-in_err-name-clause-err : goal.returns-in_err-name-clause-err
returns-in_err-name-clause-err g c refused =
    let l = c.members in
    l.invariant.4 ∙ key_refused g.S.Slots.is_verbatim (value c.args.depth) l.invariant.2 l.invariant.0 l.reader c.in_err-name.ensures.value

pub take-requires : goal.take-requires
take-requires g c = λ k. ((refl, tt), (c.args.slots.now, c.members.invariant.2, c.members.invariant.3))

pub returns-in_err-take-clause-err : goal.returns-in_err-take-clause-err
returns-in_err-take-clause-err g c refused =
    let l = c.members in
    let s = c.next_key.new.self in
    let named = key_named l.reader s c.in_ok-name.field-0 c.in-Some.name c.in_ok-name.ensures.value c.in-Some.is in
    l.invariant.4 ∙ member_refused g.S.Slots.is_verbatim (value c.args.depth) l.invariant.2 l.invariant.0 c.in-Some.name.now l.reader s named (c.take.ensures.err (grind arith))

pub members-preserved : goal.members-preserved
members-preserved g c =
    let p = value c.args.depth in
    let l = c.members in
    let n = l.invariant.0 in
    let all = l.invariant.2 in
    let k = c.in-Some.name.now in
    let s = c.next_key.new.self in
    let named = key_named l.reader s c.in_ok-name.field-0 c.in-Some.name c.in_ok-name.ensures.value c.in-Some.is in
    let done = c.in_ok-take.ensures in
    let d = done.ok.0 in
    let r = c.take.new.reader in
    let less = read_key-shorter l.reader (Some k) s named in
    let lesser = done.shorter in (
      n - 1,
      omega (arith, l.invariant.1),
      put k d all,
      done.ok.2 c.args.slots.now all l.invariant.3,
      l.invariant.4 ∙ member_read g.S.Slots.is_verbatim p all n k l.reader s r d (omega (arith, l.invariant.1)) named done.ok.1,
      omega (arith, l.invariant.5),
    )

pub returns-clause-ok : goal.returns-clause-ok
returns-clause-ok g c =
    let l = c.members in
    (l.invariant.2, l.invariant.4 ∙ members_over g.S.Slots.is_verbatim (value c.args.depth) l.invariant.2 l.invariant.0 l.reader c.next_key.new.self l.invariant.1 (grind arith), l.invariant.3)
