use Rattle.std.proofs.Common.{◌≡◌, ◌<◌, ◌-◌, length, None, Some, Result, Ok, Err, refl, ap, ◌∙◌, arith}
use Rattle.std.specs.Prelude.{OnOk, OnErr}
use Rattle.json.specs.Json.{after_end_array, items, parse_map, value}
use Rattle.json.proofs.Grammar.{read_key-shorter}
use Rattle.serde_json.specs.Data.{array, object, no_items, item, no_members, put}
use Rattle.serde_json.specs.Read.{of_items, converted}
use Rattle.apply_json.proofs.Turns.{item_behind, refused_behind, over_behind, key_named, member_read, member_refused, key_refused, members_over, none_before}
use Rattle.apply_json.proofs.skipping.+skip_value.Goals as goal

abbrev onok : {T E P Q : Type 0} (r : Result T E) → (P → Q) → OnOk r P → OnOk r Q
onok (Ok x) f p = f p
onok (Err e) f p = tt

abbrev onerr : {T E P Q : Type 0} (r : Result T E) → (P → Q) → OnErr r P → OnErr r Q
onerr (Ok x) f p = tt
onerr (Err e) f p = f p

abbrev held : {T E Q : Type 0} (r : Result T E) → Q → OnErr r Q
held (Ok x) q = tt
held (Err e) q = q

pub skip_value-returns-in-Array-clause-ok : goal.skip_value-returns-in-Array-clause-ok
skip_value-returns-in-Array-clause-ok t c =
    let value_start = rw c.in-Array.is at c.in_ok-read_start.ensures.ok in
    onok c.skip_items.result (λ f. (array f.0, value_start.1 ∙ ap (parse_map array) f.1)) c.skip_items.ensures.ok

pub skip_value-returns-in-Array-clause-err : goal.skip_value-returns-in-Array-clause-err
skip_value-returns-in-Array-clause-err t c =
    let value_start = rw c.in-Array.is at c.in_ok-read_start.ensures.ok in
    onerr c.skip_items.result (λ e. value_start.1 ∙ ap (parse_map array) e) c.skip_items.ensures.err

pub skip_value-returns-in-Object-clause-ok : goal.skip_value-returns-in-Object-clause-ok
skip_value-returns-in-Object-clause-ok t c =
    let value_start = rw c.in-Object.is at c.in_ok-read_start.ensures.ok in
    onok c.skip_members.result (λ f. (object f.0, value_start.1 ∙ ap (parse_map object) f.1)) c.skip_members.ensures.ok

pub skip_value-returns-in-Object-clause-err : goal.skip_value-returns-in-Object-clause-err
skip_value-returns-in-Object-clause-err t c =
    let value_start = rw c.in-Object.is at c.in_ok-read_start.ensures.ok in
    onerr c.skip_members.result (λ e. value_start.1 ∙ ap (parse_map object) e) c.skip_members.ensures.err

pub skip_items-items-init : goal.skip_items-items-init
skip_items-items-init t c =
    let all = converted of_items (items (value c.args.depth) (length c.args.reader.now) c.args.reader.now) in
    (length c.args.reader.now, omega arith, (λ ds. ds), none_before all, omega arith)

pub skip_items-items-preserved : goal.skip_items-items-preserved
skip_items-items-preserved t c =
    let p = value c.args.depth in
    let l = c.items in
    let n = l.invariant.0 in
    let front = l.invariant.2 in
    let going : (after_end_array l.reader ≡ None) × (c.take_end_array.new.self ≡ l.reader) = c.items-test.ensures in
    let done = c.in_ok-skip_value.ensures in
    let d = done.ok.0 in
    let r = c.skip_value.new.reader in
    let less : length r < length l.reader = rw (← going.1) done.shorter in
    let turn = item_behind p _ front n l.reader l.invariant.3 r d (omega (arith, l.invariant.1)) going.0 (rw (← going.1) done.ok.1) in (
      n - 1,
      omega (arith, l.invariant.1),
      (λ ds. front (item d ds)),
      turn,
      omega (arith, l.invariant.4),
    )

pub skip_items-returns-in_err-skip_value-clause-err : goal.skip_items-returns-in_err-skip_value-clause-err
skip_items-returns-in_err-skip_value-clause-err t c =
    let p = value c.args.depth in
    let l = c.items in
    let n = l.invariant.0 in
    let going : (after_end_array l.reader ≡ None) × (c.take_end_array.new.self ≡ l.reader) = c.items-test.ensures in
    let none = refused_behind p _ l.invariant.2 n l.reader l.invariant.3 going.0 (rw (← going.1) c.in_err-skip_value.ensures.err) in
    held c.from_residual.result none

pub skip_items-returns-clause-ok : goal.skip_items-returns-clause-ok
skip_items-returns-clause-ok t c =
    let p = value c.args.depth in
    let l = c.items in
    let n = l.invariant.0 in
    let r = c.take_end_array.new.self in
    (l.invariant.2 no_items, over_behind p _ l.invariant.2 n l.reader l.invariant.3 r l.invariant.1 c.items-test.ensures)

pub skip_members-members-init : goal.skip_members-members-init
skip_members-members-init t c = (length c.args.reader.now, omega arith, no_members, refl, omega arith)

pub skip_members-returns-in_err-_name-clause-err : goal.skip_members-returns-in_err-_name-clause-err
skip_members-returns-in_err-_name-clause-err t c =
    let p = value c.args.depth in
    let l = c.members in
    held c.from_residual.result (l.invariant.3 ∙ key_refused p l.invariant.2 l.invariant.0 l.reader c.in_err-_name.ensures.value)

pub skip_members-members-preserved : goal.skip_members-members-preserved
skip_members-members-preserved t c =
    let p = value c.args.depth in
    let l = c.members in
    let n = l.invariant.0 in
    let old = l.invariant.2 in
    let k = c.in-Some._name.now in
    let s = c.next_key.new.self in
    let named = key_named l.reader s c.in_ok-_name.field-0 c.in-Some._name c.in_ok-_name.ensures.value c.in-Some.is in
    let done = c.in_ok-skip_value.ensures in
    let d = done.ok.0 in
    let r = c.skip_value.new.reader in
    let less = read_key-shorter l.reader (Some k) s named in
    let lesser = done.shorter in (
      n - 1,
      omega (arith, l.invariant.1),
      put k d old,
      l.invariant.3 ∙ member_read p old n k l.reader s r d (omega (arith, l.invariant.1)) named done.ok.1,
      omega (arith, l.invariant.4),
    )

pub skip_members-returns-in_err-skip_value-clause-err : goal.skip_members-returns-in_err-skip_value-clause-err
skip_members-returns-in_err-skip_value-clause-err t c =
    let p = value c.args.depth in
    let l = c.members in
    let k = c.in-Some._name.now in
    let s = c.next_key.new.self in
    let named = key_named l.reader s c.in_ok-_name.field-0 c.in-Some._name c.in_ok-_name.ensures.value c.in-Some.is in
    held c.from_residual-in_err-skip_value.result (l.invariant.3 ∙ member_refused p l.invariant.2 l.invariant.0 k l.reader s named c.in_err-skip_value.ensures.err)

pub skip_members-returns-clause-ok : goal.skip_members-returns-clause-ok
skip_members-returns-clause-ok t c =
    let p = value c.args.depth in
    let l = c.members in
    let n = l.invariant.0 in
    (l.invariant.2, l.invariant.3 ∙ members_over p l.invariant.2 n l.reader c.next_key.new.self l.invariant.1 (grind arith))
