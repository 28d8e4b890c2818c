use Rattle.std.proofs.Common.{Vec, BTreeMap, Global, String as Owned, ◌≡◌, ◌-◌, ◌<◌, length, Some, None, Result, Ok, Err, true, false, refl, sym, ap, ◌∙◌, arith, rules}
use Rattle.std.specs.Prelude.{IfOk, OnOk}
use Rattle.json.specs.Json.{after_end_array, items, value}
use Rattle.json.proofs.Grammar.{after_end_array-shorter, read_key-shorter}
use Rattle.serde_json.specs.Data.{Data, Items, Members, array, object, no_items, item, no_members, put}
use Rattle.serde_json.specs.Read.{of_items, converted}
use Rattle.serde_json.specs.View.{view, items_view, members_view}
use Rattle.serde_json.specs.declared.value.Value.{Value, Array, Object}
use Rattle.serde_json.proofs.Views.{view-Array, view-Object}
use Rattle.apply_json.specs.ShallowView.{IsScalar}
use Rattle.apply_json_tree.specs.Trimmed.{Selection, is_within, trimmed}
use Rattle.apply_json_tree.proofs.Trimmed.Items.{items_before-no_items, kept, passed, none_found}
use Rattle.apply_json_tree.proofs.Trimmed.Members.{put_in_order, known_kept, put_unknown}
use Rattle.apply_json_tree.proofs.Made.{made_if, made_on, made_refused}
use Rattle.apply_json_tree.proofs.Scalars.{scalar_stays}
use Rattle.apply_json.proofs.Turns.{made_of, refused_of, item_behind, refused_behind, over_behind, key_named, member_read, member_refused, key_refused, members_over, none_before}
use Rattle.apply_json_tree.proofs.trimming.+read.Goals as goal

-- a scalar is stored whole
scalar_read : {S : Type 0} (selection : Selection S) (shape : S) (v : Value) (d : Data) → IsScalar d → view v ≡ d → view v ≡ trimmed selection shape d
scalar_read selection shape v d is read = read ∙ scalar_stays selection shape d is

array_seen : (v : Vec Value Global) (ds : Items) → items_view v.items ≡ ds → view (Array v) ≡ array ds
array_seen v ds is = view-Array v ∙ ap array is

object_seen : (m : BTreeMap (Owned Global) Value) (ms : Members) → members_view m.entries ≡ ms → view (Object m) ≡ object ms
object_seen m ms is = view-Object m ∙ ap object is

-- a consequence of a success
abbrev if_ok : {T E : Type 0} {P Q : T → Type 0} (r : Result T E) → ((x : T) → P x → Q x) → IfOk r P → IfOk r Q
if_ok (Ok x) f p = f x p
if_ok (Err e) f p = tt

abbrev on_ok : {T E Q : Type 0} (r : Result T E) → Q → OnOk r Q
on_ok (Ok x) q = q
on_ok (Err e) q = tt

pub read-returns-in-Shallow-clause-ok : goal.read-returns-in-Shallow-clause-ok
read-returns-in-Shallow-clause-ok g t c =
    let value_start = rw c.in-Shallow.is at c.in_ok-shallow.ensures.ok in
    if_ok c.value_of.result (λ v said. (value_start.0, value_start.1, scalar_read g.S.Shape.selection c.args.shape v value_start.0 value_start.3 (said value_start.0 value_start.3 value_start.2))) c.value_of.ensures.ok

pub read-returns-in-Shallow-clause-shorter : goal.read-returns-in-Shallow-clause-shorter
read-returns-in-Shallow-clause-shorter g t c = on_ok c.value_of.result c.in_ok-shallow.ensures.shorter

pub read-returns-in-Shallow-clause-err : goal.read-returns-in-Shallow-clause-err
read-returns-in-Shallow-clause-err g t c refused = absurd (c.value_of.ensures.err refused)

pub read-returns-in-Array-clause-ok : goal.read-returns-in-Array-clause-ok
read-returns-in-Array-clause-ok g t c =
    let value_start = rw c.in-Array.is at c.in_ok-shallow.ensures.ok in
    made_if _ c.read_items-is_read.result c.made.result (Array c.read_items-is_read.new.stored) c.made.ensures
    (λ f. (array f.0, made_of array _ _ f.0 _ value_start.1 f.1, array_seen c.read_items-is_read.new.stored _ f.2))
    c.read_items-is_read.ensures.ok

pub read-returns-in-Array-clause-shorter : goal.read-returns-in-Array-clause-shorter
read-returns-in-Array-clause-shorter g t c =
    let value_start = c.in_ok-shallow.ensures.shorter in
    made_on c.read_items-is_read.result c.made.result (Array c.read_items-is_read.new.stored) c.made.ensures (λ less. omega (arith, less, value_start)) c.read_items-is_read.ensures.shorter

pub read-returns-in-Array-clause-err : goal.read-returns-in-Array-clause-err
read-returns-in-Array-clause-err g t c refused =
    let value_start = rw c.in-Array.is at c.in_ok-shallow.ensures.ok in
    refused_of array _ _ value_start.1 (c.read_items-is_read.ensures.err (made_refused c.read_items-is_read.result c.made.result (Array c.read_items-is_read.new.stored) c.made.ensures refused))

pub read-returns-in-Object-clause-ok : goal.read-returns-in-Object-clause-ok
read-returns-in-Object-clause-ok g t c =
    let value_start = rw c.in-Object.is at c.in_ok-shallow.ensures.ok in
    made_if _ c.read_members-is_read.result c.made-in-Object.result (Object c.read_members-is_read.new.stored) c.made-in-Object.ensures
    (λ f. (object f.0, made_of object _ _ f.0 _ value_start.1 f.1, object_seen c.read_members-is_read.new.stored _ f.2))
    c.read_members-is_read.ensures.ok

pub read-returns-in-Object-clause-shorter : goal.read-returns-in-Object-clause-shorter
read-returns-in-Object-clause-shorter g t c =
    let value_start = c.in_ok-shallow.ensures.shorter in
    made_on c.read_members-is_read.result c.made-in-Object.result (Object c.read_members-is_read.new.stored) c.made-in-Object.ensures (λ less. omega (arith, less, value_start)) c.read_members-is_read.ensures.shorter

pub read-returns-in-Object-clause-err : goal.read-returns-in-Object-clause-err
read-returns-in-Object-clause-err g t c refused =
    let value_start = rw c.in-Object.is at c.in_ok-shallow.ensures.ok in
    refused_of object _ _ value_start.1 (c.read_members-is_read.ensures.err (made_refused c.read_members-is_read.result c.made-in-Object.result (Object c.read_members-is_read.new.stored) c.made-in-Object.ensures refused))

pub read_items-items-init : goal.read_items-items-init
read_items-items-init g t c =
    let all = converted of_items (items (value c.args.depth) (length c.args.reader.now) c.args.reader.now) in
    (length c.args.reader.now, omega arith, (λ ds. ds), none_before all, (λ ds. none_found g.S.Shape.selection (g.S.Shape.selection.item_shape c.args.shape) (g.S.Shape.selection.item_limit c.args.shape) c.args.stored.now.items ds c.requires), omega arith)

pub read_items-returns-in_err-store_item-clause-err : goal.read_items-returns-in_err-store_item-clause-err
read_items-returns-in_err-store_item-clause-err g t c refused =
    let p = value c.args.depth in
    let l = c.items in
    let going : (after_end_array l.reader ≡ None) × (c.take_end_array.new.self ≡ l.reader) = c.items-test.ensures in
    refused_behind p _ l.invariant.2 l.invariant.0 l.reader l.invariant.3 going.0 (rw (← going.1) (c.read-item.ensures.err (c.store_item.ensures.err (grind arith))))

pub read_items-items-preserved-in-Continue-1 : goal.read_items-items-preserved-in-Continue-1
read_items-items-preserved-in-Continue-1 g t c =
    let p = value c.args.depth in
    let l = c.items in
    let n = l.invariant.0 in
    let front = l.invariant.2 in
    let shape = g.S.Shape.selection.item_shape c.args.shape in
    let limit = g.S.Shape.selection.item_limit c.args.shape in
    let going : (after_end_array l.reader ≡ None) × (c.take_end_array.new.self ≡ l.reader) = c.items-test.ensures in
    let done = c.in_ok-store_item.ensures.ok in
    let v = done.0 in
    let got = rw done.1 at c.read-item.ensures.ok in
    let d = got.0 in
    let r = c.read-item.new.reader in
    let shorter = rw done.1 at c.read-item.ensures.shorter in
    let less : length r < length l.reader = rw (← going.1) shorter in
    let turn = item_behind p _ front n l.reader l.invariant.3 r d (omega (arith, l.invariant.1)) going.0 (rw (← going.1) got.1) in
    let within : is_within limit (length l.stored.items) ≡ true = search rules in
    let seen : view v ≡ trimmed g.S.Shape.selection shape d = got.2 ∙ ap (λ s. trimmed g.S.Shape.selection s d) c.item.ensures in (
      n - 1,
      omega (arith, l.invariant.1),
      (λ ds. front (item d ds)),
      turn,
      (λ ds. l.invariant.4 (item d ds) ∙ kept g.S.Shape.selection shape limit l.stored.items _ v d ds within seen done.2),
      omega (arith, l.invariant.5),
    )

pub read_items-items-preserved : goal.read_items-items-preserved
read_items-items-preserved g t c =
    let p = value c.args.depth in
    let l = c.items in
    let n = l.invariant.0 in
    let front = l.invariant.2 in
    let shape = g.S.Shape.selection.item_shape c.args.shape in
    let limit = g.S.Shape.selection.item_limit c.args.shape in
    let going : (after_end_array l.reader ≡ None) × (c.take_end_array.new.self ≡ l.reader) = c.items-test.ensures in
    let done = c.in_ok-skip_value.ensures in
    let d = done.ok.0 in
    let r = c.skip_value.new.reader in
    let less : length r < length l.reader = rw (← going.1) done.shorter in
    let turn = item_behind p _ front n l.reader l.invariant.3 r d (omega (arith, l.invariant.1)) going.0 (rw (← going.1) done.ok.1) in
    let past : is_within limit (length l.stored.items) ≡ false = search rules in (
      n - 1,
      omega (arith, l.invariant.1),
      (λ ds. front (item d ds)),
      turn,
      (λ ds. l.invariant.4 (item d ds) ∙ passed g.S.Shape.selection shape limit l.stored.items d ds past),
      omega (arith, l.invariant.5),
    )

pub read_items-returns-in_err-skip_value-clause-err : goal.read_items-returns-in_err-skip_value-clause-err
read_items-returns-in_err-skip_value-clause-err g t c refused =
    let p = value c.args.depth in
    let l = c.items in
    let n = l.invariant.0 in
    let going : (after_end_array l.reader ≡ None) × (c.take_end_array.new.self ≡ l.reader) = c.items-test.ensures in
    refused_behind p _ l.invariant.2 n l.reader l.invariant.3 going.0 (rw (← going.1) c.in_err-skip_value.ensures.err)

pub read_items-returns-clause-ok : goal.read_items-returns-clause-ok
read_items-returns-clause-ok g t c =
    let p = value c.args.depth in
    let l = c.items in
    let n = l.invariant.0 in
    let r = c.take_end_array.new.self in (
      l.invariant.2 no_items,
      over_behind p _ l.invariant.2 n l.reader l.invariant.3 r l.invariant.1 c.items-test.ensures,
      sym (l.invariant.4 no_items ∙ items_before-no_items l.stored.items),
    )

pub read_members-members-init : goal.read_members-members-init
read_members-members-init g t c = (length c.args.reader.now, omega arith, no_members, tt, ap members_view c.requires, refl, omega arith)

pub read_members-returns-in_err-name-clause-err : goal.read_members-returns-in_err-name-clause-err
read_members-returns-in_err-name-clause-err g t c refused =
    let p = value c.args.depth in
    let l = c.members in
    l.invariant.5 ∙ key_refused p l.invariant.2 l.invariant.0 l.reader c.in_err-name.ensures.value

pub read_members-returns-in_err-store_member-in-Some-member-clause-err : goal.read_members-returns-in_err-store_member-in-Some-member-clause-err
read_members-returns-in_err-store_member-in-Some-member-clause-err g t c refused =
    let p = value c.args.depth in
    let l = c.members in
    let k = c.in-Some.name.now in
    let s = c.next_key.new.self in
    let named = key_named l.reader s c.in_ok-name.field-0 c.in-Some.name c.in_ok-name.ensures.value c.in-Some.is in
    l.invariant.5 ∙ member_refused p l.invariant.2 l.invariant.0 k l.reader s named (c.read-member.ensures.err (c.store_member.ensures.err (grind arith)))

pub read_members-members-preserved-in-Continue-branch-3 : goal.read_members-members-preserved-in-Continue-branch-3
read_members-members-preserved-in-Continue-branch-3 g t c =
    let p = value c.args.depth in
    let l = c.members in
    let n = l.invariant.0 in
    let all = l.invariant.2 in
    let shape = c.args.shape in
    let k = c.in-Some.name.now in
    let s = c.next_key.new.self in
    let named = key_named l.reader s c.in_ok-name.field-0 c.in-Some.name c.in_ok-name.ensures.value c.in-Some.is in
    let known = c.in-Some-member.known in
    let looked : g.S.Shape.selection.member_shape shape k ≡ Some known = sym c.in-Some-member.ensures in
    let done = c.in_ok-store_member-in-Some-member.ensures.ok in
    let v = done.0 in
    let got = rw done.1 at c.read-member.ensures.ok in
    let d = got.0 in
    let r = c.read-member.new.reader in
    let less = read_key-shorter l.reader (Some k) s named in
    let lesser = rw done.1 at c.read-member.ensures.shorter in (
      n - 1,
      omega (arith, l.invariant.1),
      put k d all,
      put_in_order k d all l.invariant.3,
      known_kept g.S.Shape.selection shape known k d (view v) all _ _ looked l.invariant.3 done.2 got.2 l.invariant.4,
      l.invariant.5 ∙ member_read p all n k l.reader s r d (omega (arith, l.invariant.1)) named got.1,
      omega (arith, l.invariant.6),
    )

pub read_members-members-preserved : goal.read_members-members-preserved
read_members-members-preserved g t c =
    let p = value c.args.depth in
    let l = c.members in
    let n = l.invariant.0 in
    let all = l.invariant.2 in
    let shape = c.args.shape in
    let k = c.in-Some.name.now in
    let s = c.next_key.new.self in
    let named = key_named l.reader s c.in_ok-name.field-0 c.in-Some.name c.in_ok-name.ensures.value c.in-Some.is in
    let nobody : g.S.Shape.selection.member_shape shape k ≡ None = sym c.in-None.ensures in
    let done = c.in_ok-skip_value-in-None.ensures in
    let d = done.ok.0 in
    let r = c.skip_value.new.reader in
    let less = read_key-shorter l.reader (Some k) s named in
    let lesser = done.shorter in (
      n - 1,
      omega (arith, l.invariant.1),
      put k d all,
      put_in_order k d all l.invariant.3,
      l.invariant.4 ∙ sym (put_unknown g.S.Shape.selection shape k d all nobody),
      l.invariant.5 ∙ member_read p all n k l.reader s r d (omega (arith, l.invariant.1)) named done.ok.1,
      omega (arith, l.invariant.6),
    )

pub read_members-returns-in_err-skip_value-in-None-clause-err : goal.read_members-returns-in_err-skip_value-in-None-clause-err
read_members-returns-in_err-skip_value-in-None-clause-err g t c refused =
    let p = value c.args.depth in
    let l = c.members in
    let k = c.in-Some.name.now in
    let s = c.next_key.new.self in
    let named = key_named l.reader s c.in_ok-name.field-0 c.in-Some.name c.in_ok-name.ensures.value c.in-Some.is in
    l.invariant.5 ∙ member_refused p l.invariant.2 l.invariant.0 k l.reader s named c.in_err-skip_value-in-None.ensures.err

pub read_members-returns-clause-ok : goal.read_members-returns-clause-ok
read_members-returns-clause-ok g t c =
    let p = value c.args.depth in
    let l = c.members in
    let n = l.invariant.0 in
    (l.invariant.2, l.invariant.5 ∙ members_over p l.invariant.2 n l.reader c.next_key.new.self l.invariant.1 (grind arith), l.invariant.4)

-- ---- what is left grows shorter

pub read_items-items-smaller-in-Continue-1 : goal.read_items-items-smaller-in-Continue-1
read_items-items-smaller-in-Continue-1 g t c =
    let going : (after_end_array c.items.reader ≡ None) × (c.take_end_array.new.self ≡ c.items.reader) = c.items-test.ensures in
    let shorter = rw c.in_ok-store_item.ensures.ok.1 at c.read-item.ensures.shorter in
    rw (← going.1) shorter

pub read_items-items-smaller : goal.read_items-items-smaller
read_items-items-smaller g t c =
    let going : (after_end_array c.items.reader ≡ None) × (c.take_end_array.new.self ≡ c.items.reader) = c.items-test.ensures in
    rw (← going.1) c.in_ok-skip_value.ensures.shorter

pub read_items-returns-clause-shorter : goal.read_items-returns-clause-shorter
read_items-returns-clause-shorter g t c =
    let less = after_end_array-shorter c.items.reader c.take_end_array.new.self c.items-test.ensures in
    omega (arith, less, c.items.invariant.5)

pub read_members-members-smaller-in-Continue-branch-3 : goal.read_members-members-smaller-in-Continue-branch-3
read_members-members-smaller-in-Continue-branch-3 g t c =
    let l = c.members in
    let s = c.next_key.new.self in
    let less = read_key-shorter l.reader (Some c.in-Some.name.now) s (key_named l.reader s c.in_ok-name.field-0 c.in-Some.name c.in_ok-name.ensures.value c.in-Some.is) in
    let lesser = rw c.in_ok-store_member-in-Some-member.ensures.ok.1 at c.read-member.ensures.shorter in
    omega (arith, less, lesser)

pub read_members-members-smaller : goal.read_members-members-smaller
read_members-members-smaller g t c =
    let l = c.members in
    let s = c.next_key.new.self in
    let less = read_key-shorter l.reader (Some c.in-Some.name.now) s (key_named l.reader s c.in_ok-name.field-0 c.in-Some.name c.in_ok-name.ensures.value c.in-Some.is) in
    let lesser = c.in_ok-skip_value-in-None.ensures.shorter in
    omega (arith, less, lesser)
