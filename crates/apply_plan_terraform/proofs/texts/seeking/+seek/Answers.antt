use Rattle.std.proofs.Common.{◌≡◌, ◌-◌, length, None, Some, option_map, refl, sym, ap, ◌∙◌, arith}
use Rattle.json.specs.Json.{member, no_members, read_key, value}
use Rattle.json.proofs.Grammar.{left_none, left_some, read_key-shorter}
use Rattle.serde_json.specs.Data as tree
use Rattle.serde_json.specs.Data.{put}
use Rattle.serde_json.specs.View.{view}
use Rattle.apply_json.proofs.Turns.{key_named}
use Rattle.apply_plan_terraform.specs.Texts.{part_named, with_texts}
use Rattle.apply_plan_terraform.proofs.Copying.{unchanged}
use Rattle.apply_plan_terraform.proofs.RawTexts.{named, not_named}
use Rattle.apply_plan_terraform.proofs.MemberTurns.{no_key, no_value, over, turn}
use Rattle.apply_plan_terraform.proofs.Seeking.{nothing_yet, with_companion, with_inner}
use Rattle.apply_plan_terraform.proofs.texts.seeking.+seek.Goals as goal

pub seek_in_members-members-init : goal.seek_in_members-members-init
seek_in_members-members-init t c = (
  length c.args.reader.now,
  omega arith,
  (λ ms. ms),
  unchanged _,
  tree.no_members,
  (λ ms. refl),
  nothing_yet c.args.part _ c.requires c.nothing-collected.ensures.0 c.nothing-collected.ensures.1,
  omega arith,
)

pub seek_in_members-returns-in_err-name-clause-err : goal.seek_in_members-returns-in_err-name-clause-err
seek_in_members-returns-in_err-name-clause-err t c =
    let l = c.members in
    λ refused. no_key (value c.args.depth) _ l.invariant.2 l.invariant.0 l.reader l.invariant.3 c.in_err-name.ensures.value

pub seek_in_members-members-preserved : goal.seek_in_members-members-preserved
seek_in_members-members-preserved t c =
    let l = c.members in
    let n = l.invariant.0 in
    let front = l.invariant.2 in
    let k = c.in-Some.name.now in
    let s = c.next_key.new.self in
    let key = key_named l.reader s c.in_ok-name.field-0 c.in-Some.name c.in_ok-name.ensures.value c.in-Some.is in
    let r = c.skip_value.new.self in
    let passed = left_some (value c.args.depth s) r c.in_ok-skip_value-in-None.ensures.value in
    let j = passed.0 in
    let less = read_key-shorter l.reader (Some k) s key in
    let lesser = c.in_ok-skip_value-in-None.ensures.shorter in (
      n - 1,
      omega (arith, l.invariant.1),
      (λ ms. front (member k j ms)),
      turn (value c.args.depth) _ front n l.reader l.invariant.3 k s r j (omega (arith, l.invariant.1)) key passed.1,
      l.invariant.4,
      (λ ms. l.invariant.5 (member k j ms) ∙ not_named c.args.part k j ms l.invariant.4 c.in-None.ensures),
      l.invariant.6,
      omega (arith, l.invariant.7),
    )

pub seek_in_members-returns-in_err-skip_value-in-None-clause-err : goal.seek_in_members-returns-in_err-skip_value-in-None-clause-err
seek_in_members-returns-in_err-skip_value-in-None-clause-err t c =
    let l = c.members in
    let k = c.in-Some.name.now in
    let s = c.next_key.new.self in
    let key = key_named l.reader s c.in_ok-name.field-0 c.in-Some.name c.in_ok-name.ensures.value c.in-Some.is in
    λ refused. no_value (value c.args.depth) _ l.invariant.2 l.invariant.0 l.reader l.invariant.3 k s key (left_none (value c.args.depth s) c.in_err-skip_value-in-None.ensures.value)

pub seek_in_members-returns-in_err-companion-in-Some-named-clause-err : goal.seek_in_members-returns-in_err-companion-in-Some-named-clause-err
seek_in_members-returns-in_err-companion-in-Some-named-clause-err t c =
    let l = c.members in
    let k = c.in-Some.name.now in
    let s = c.next_key.new.self in
    let key = key_named l.reader s c.in_ok-name.field-0 c.in-Some.name c.in_ok-name.ensures.value c.in-Some.is in
    λ refused. no_value (value c.args.depth) _ l.invariant.2 l.invariant.0 l.reader l.invariant.3 k s key (c.read.ensures.err (grind arith))

pub seek_in_members-members-preserved-then-is_companion : goal.seek_in_members-members-preserved-then-is_companion
seek_in_members-members-preserved-then-is_companion t c =
    let l = c.members in
    let n = l.invariant.0 in
    let front = l.invariant.2 in
    let k = c.in-Some.name.now in
    let s = c.next_key.new.self in
    let key = key_named l.reader s c.in_ok-name.field-0 c.in-Some.name c.in_ok-name.ensures.value c.in-Some.is in
    let done = c.in_ok-companion-in-Some-named.ensures in
    let j = done.ok.0 in
    let r = c.read.new.reader in
    let inner = c.in-Some-named.inner in
    let d = with_texts inner j in
    let less = read_key-shorter l.reader (Some k) s key in
    let lesser = done.shorter in
    let is : Some inner ≡ part_named c.args.part k = c.in-Some-named.ensures in
    let taken = c.set_companion.ensures in (
      n - 1,
      omega (arith, l.invariant.1),
      (λ ms. front (member k j ms)),
      turn (value c.args.depth) _ front n l.reader l.invariant.3 k s r j (omega (arith, l.invariant.1)) key done.ok.1,
      put k d l.invariant.4,
      (λ ms. l.invariant.5 (member k j ms) ∙ named c.args.part inner k j ms l.invariant.4 _ is refl),
      with_companion k d l.invariant.4 l.collected c.set_companion.new.self inner (sym c.is_companion.ensures ∙ c.if-is_companion.true) taken.0 (ap (option_map view) taken.1 ∙ ap Some done.ok.2) c.args.part is l.invariant.6,
      omega (arith, l.invariant.7),
    )

pub seek_in_members-returns-in_err-below-in-Some-named-clause-err : goal.seek_in_members-returns-in_err-below-in-Some-named-clause-err
seek_in_members-returns-in_err-below-in-Some-named-clause-err t c =
    let l = c.members in
    let k = c.in-Some.name.now in
    let s = c.next_key.new.self in
    let key = key_named l.reader s c.in_ok-name.field-0 c.in-Some.name c.in_ok-name.ensures.value c.in-Some.is in
    λ refused. no_value (value c.args.depth) _ l.invariant.2 l.invariant.0 l.reader l.invariant.3 k s key (c.seek.ensures.err (grind arith))

pub seek_in_members-members-preserved-else-is_companion : goal.seek_in_members-members-preserved-else-is_companion
seek_in_members-members-preserved-else-is_companion t c =
    let l = c.members in
    let n = l.invariant.0 in
    let front = l.invariant.2 in
    let k = c.in-Some.name.now in
    let s = c.next_key.new.self in
    let key = key_named l.reader s c.in_ok-name.field-0 c.in-Some.name c.in_ok-name.ensures.value c.in-Some.is in
    let done = c.in_ok-below-in-Some-named.ensures in
    let below = c.in_ok-below-in-Some-named.below in
    let inner = c.in-Some-named.inner in
    let j = done.ok.0 in
    let r = c.seek.new.reader in
    let d = with_texts inner j in
    let less = read_key-shorter l.reader (Some k) s key in
    let lesser = done.shorter in
    let is : Some inner ≡ part_named c.args.part k = c.in-Some-named.ensures in
    let taken = c.set_outputs.ensures in (
      n - 1,
      omega (arith, l.invariant.1),
      (λ ms. front (member k j ms)),
      turn (value c.args.depth) _ front n l.reader l.invariant.3 k s r j (omega (arith, l.invariant.1)) key done.ok.1,
      put k d l.invariant.4,
      (λ ms. l.invariant.5 (member k j ms) ∙ named c.args.part inner k j ms l.invariant.4 _ is refl),
      with_inner k d l.invariant.4 l.collected c.set_outputs.new.self inner below (sym c.is_companion.ensures ∙ c.if-is_companion.false) done.ok.2 taken.0 taken.1 c.args.part is c.requires l.invariant.6,
      omega (arith, l.invariant.7),
    )

pub seek_in_members-returns-clause-ok : goal.seek_in_members-returns-clause-ok
seek_in_members-returns-clause-ok t c =
    let l = c.members in
    let end : read_key l.reader ≡ Some (None, c.next_key.new.self) = grind arith in (
      l.invariant.2 no_members,
      over (value c.args.depth) _ l.invariant.2 l.invariant.0 l.reader l.invariant.3 c.next_key.new.self l.invariant.1 end,
      rw (l.invariant.5 no_members) l.invariant.6,
    )
