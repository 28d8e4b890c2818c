use Rattle.std.proofs.Common.{◌≡◌, ◌<◌, ◌-◌, ◌++◌, length, None, Some, refl, ap, ◌∙◌, arith}
use Rattle.json.specs.Token.{Token}
use Rattle.json.specs.Json.{after_end_array, items, read_key, value}
use Rattle.json.proofs.Grammar.{after_end_array-shorter, closed_array, read_key-shorter, read_key_is}
use Rattle.serde_json.specs.Data.{array, object, no_items, item, no_members, put}
use Rattle.serde_json.specs.Read.{of_items, converted}
use Rattle.apply_json.proofs.Copied.{if_ok, moved}
use Rattle.apply_json.proofs.Turns.{made_of, refused_of, item_behind, refused_behind, over_behind, key_named, member_read, member_refused, key_refused, members_over, none_before}
use Rattle.apply_json.proofs.verbatim.+copy.Goals as goal

-- ---- an array or an object

pub copy-returns-in-Array-clause-copied : goal.copy-returns-in-Array-clause-copied
copy-returns-in-Array-clause-copied t c =
    if_ok c.copy_items.result (λ f. (f.0 ∙ c.in_ok-copy_beginning.ensures.copied.0, f.1 ∙ c.in_ok-copy_beginning.ensures.copied.1)) c.copy_items.ensures.copied

pub copy-returns-in-Array-clause-tree : goal.copy-returns-in-Array-clause-tree
copy-returns-in-Array-clause-tree t c =
    let value_start = rw c.in-Array.is at c.in_ok-copy_beginning.ensures.ok in
    if_ok c.copy_items.result (λ f. (array f.0, made_of array _ _ f.0 _ value_start.1 f.1)) c.copy_items.ensures.tree

pub copy-returns-in-Array-clause-shorter : goal.copy-returns-in-Array-clause-shorter
copy-returns-in-Array-clause-shorter t c =
    let began = c.in_ok-copy_beginning.ensures.shorter in
    if_ok c.copy_items.result (λ less. omega (arith, less, began)) c.copy_items.ensures.shorter

pub copy-returns-in-Array-clause-err : goal.copy-returns-in-Array-clause-err
copy-returns-in-Array-clause-err t c =
    let value_start = rw c.in-Array.is at c.in_ok-copy_beginning.ensures.ok in
    λ refused. refused_of array _ _ value_start.1 (c.copy_items.ensures.err refused)

pub copy-returns-in-Object-clause-copied : goal.copy-returns-in-Object-clause-copied
copy-returns-in-Object-clause-copied t c =
    if_ok c.copy_members.result (λ f. (f.0 ∙ c.in_ok-copy_beginning.ensures.copied.0, f.1 ∙ c.in_ok-copy_beginning.ensures.copied.1)) c.copy_members.ensures.copied

pub copy-returns-in-Object-clause-tree : goal.copy-returns-in-Object-clause-tree
copy-returns-in-Object-clause-tree t c =
    let value_start = rw c.in-Object.is at c.in_ok-copy_beginning.ensures.ok in
    if_ok c.copy_members.result (λ f. (object f.0, made_of object _ _ f.0 _ value_start.1 f.1)) c.copy_members.ensures.tree

pub copy-returns-in-Object-clause-shorter : goal.copy-returns-in-Object-clause-shorter
copy-returns-in-Object-clause-shorter t c =
    let began = c.in_ok-copy_beginning.ensures.shorter in
    if_ok c.copy_members.result (λ less. omega (arith, less, began)) c.copy_members.ensures.shorter

pub copy-returns-in-Object-clause-err : goal.copy-returns-in-Object-clause-err
copy-returns-in-Object-clause-err t c =
    let value_start = rw c.in-Object.is at c.in_ok-copy_beginning.ensures.ok in
    λ refused. refused_of object _ _ value_start.1 (c.copy_members.ensures.err refused)

-- ---- the items of an array

pub copy_items-items-init : goal.copy_items-items-init
copy_items-items-init t c =
    let all = converted of_items (items (value c.args.depth) (length c.args.reader.now) c.args.reader.now) in
    (length c.args.reader.now, omega arith, (λ ds. ds), none_before all, omega arith, refl, refl)

pub copy_items-items-preserved : goal.copy_items-items-preserved
copy_items-items-preserved t c =
    let p = value c.args.depth in
    let l = c.items in
    let n = l.invariant.0 in
    let front = l.invariant.2 in
    let going : (after_end_array l.reader ≡ None) × (c.take_end_array.new.self ≡ l.reader) = c.items-test.ensures in
    let done = c.in_ok-copy.ensures in
    let d = done.tree.0 in
    let r = c.copy.new.reader in
    let less : length r < length l.reader = rw (← going.1) done.shorter in
    let turn = item_behind p _ front n l.reader l.invariant.3 r d (omega (arith, l.invariant.1)) going.0 (rw (← going.1) done.tree.1) in (
      n - 1,
      omega (arith, l.invariant.1),
      (λ ds. front (item d ds)),
      turn,
      omega (arith, l.invariant.4),
      done.copied.0 ∙ ap (λ ts. l.out.tokens ++ ts) going.1 ∙ l.invariant.5,
      done.copied.1 ∙ l.invariant.6,
    )

pub copy_items-returns-in_err-copy-clause-err : goal.copy_items-returns-in_err-copy-clause-err
copy_items-returns-in_err-copy-clause-err t c =
    let p = value c.args.depth in
    let l = c.items in
    let going : (after_end_array l.reader ≡ None) × (c.take_end_array.new.self ≡ l.reader) = c.items-test.ensures in
    λ refused. refused_behind p _ l.invariant.2 l.invariant.0 l.reader l.invariant.3 going.0 (rw (← going.1) (c.copy.ensures.err (grind arith)))

pub copy_items-returns-clause-copied : goal.copy_items-returns-clause-copied
copy_items-returns-clause-copied t c =
    let l = c.items in
    let r = c.take_end_array.new.self in (
      moved l.out.tokens c.end_array.new.self.tokens l.reader r Token.end_array c.in_ok-end_array.ensures.ok (closed_array l.reader r c.items-test.ensures) ∙ l.invariant.5,
      c.end_array.ensures.room.0 ∙ l.invariant.6,
    )

pub copy_items-returns-clause-tree : goal.copy_items-returns-clause-tree
copy_items-returns-clause-tree t c =
    let l = c.items in
    let r = c.take_end_array.new.self in
    (l.invariant.2 no_items, over_behind (value c.args.depth) _ l.invariant.2 l.invariant.0 l.reader l.invariant.3 r l.invariant.1 c.items-test.ensures)

-- ---- the members of an object

pub copy_members-members-init : goal.copy_members-members-init
copy_members-members-init t c = (length c.args.reader.now, omega arith, no_members, refl, omega arith, refl, refl)

pub copy_members-returns-in_err-name-clause-err : goal.copy_members-returns-in_err-name-clause-err
copy_members-returns-in_err-name-clause-err t c =
    let l = c.members in
    λ refused. l.invariant.3 ∙ key_refused (value c.args.depth) l.invariant.2 l.invariant.0 l.reader c.in_err-name.ensures.value

pub copy_members-members-preserved : goal.copy_members-members-preserved
copy_members-members-preserved t c =
    let p = value c.args.depth in
    let l = c.members in
    let n = l.invariant.0 in
    let found = l.invariant.2 in
    let k = c.in-Some.name.now in
    let s = c.next_key.new.self in
    let named = key_named l.reader s c.in_ok-name.field-0 c.in-Some.name c.in_ok-name.ensures.value c.in-Some.is in
    let done = c.in_ok-copy.ensures in
    let d = done.tree.0 in
    let r = c.copy.new.reader in
    let less = read_key-shorter l.reader (Some k) s named in
    let lesser = done.shorter in (
      n - 1,
      omega (arith, l.invariant.1),
      put k d found,
      l.invariant.3 ∙ member_read p found n k l.reader s r d (omega (arith, l.invariant.1)) named done.tree.1,
      omega (arith, l.invariant.4),
      done.copied.0 ∙ moved l.out.tokens c.key.new.self.tokens l.reader s (Token.key k) c.in_ok-key.ensures.ok (read_key_is l.reader (Some k) s named) ∙ l.invariant.5,
      done.copied.1 ∙ c.key.ensures.room.0 ∙ l.invariant.6,
    )

pub copy_members-returns-in_err-copy-clause-err : goal.copy_members-returns-in_err-copy-clause-err
copy_members-returns-in_err-copy-clause-err t c =
    let p = value c.args.depth in
    let l = c.members in
    let k = c.in-Some.name.now in
    let s = c.next_key.new.self in
    let named = key_named l.reader s c.in_ok-name.field-0 c.in-Some.name c.in_ok-name.ensures.value c.in-Some.is in
    λ refused. l.invariant.3 ∙ member_refused p l.invariant.2 l.invariant.0 k l.reader s named (c.copy.ensures.err (grind arith))

pub copy_members-returns-clause-copied : goal.copy_members-returns-clause-copied
copy_members-returns-clause-copied t c =
    let l = c.members in
    let s = c.next_key.new.self in
    let over : read_key l.reader ≡ Some (None, s) = grind arith in (
      moved l.out.tokens c.end_object.new.self.tokens l.reader s Token.end_object c.in_ok-end_object.ensures.ok (read_key_is l.reader None s over) ∙ l.invariant.5,
      c.end_object.ensures.room.0 ∙ l.invariant.6,
    )

pub copy_members-returns-clause-tree : goal.copy_members-returns-clause-tree
copy_members-returns-clause-tree t c =
    let l = c.members in
    let over : read_key l.reader ≡ Some (None, c.next_key.new.self) = grind arith in
    (l.invariant.2, l.invariant.3 ∙ members_over (value c.args.depth) l.invariant.2 l.invariant.0 l.reader c.next_key.new.self l.invariant.1 over)

-- ---- what is left grows shorter

pub copy_items-items-smaller : goal.copy_items-items-smaller
copy_items-items-smaller t c =
    let going : (after_end_array c.items.reader ≡ None) × (c.take_end_array.new.self ≡ c.items.reader) = c.items-test.ensures in
    rw (← going.1) c.in_ok-copy.ensures.shorter

pub copy_items-returns-clause-shorter : goal.copy_items-returns-clause-shorter
copy_items-returns-clause-shorter t c =
    let less = after_end_array-shorter c.items.reader c.take_end_array.new.self c.items-test.ensures in
    omega (arith, less, c.items.invariant.4)

pub copy_members-members-smaller : goal.copy_members-members-smaller
copy_members-members-smaller t c =
    let l = c.members in
    let s = c.next_key.new.self in
    let less = read_key-shorter l.reader (Some c.in-Some.name.now) s (key_named l.reader s c.in_ok-name.field-0 c.in-Some.name c.in_ok-name.ensures.value c.in-Some.is) in
    let lesser = c.in_ok-copy.ensures.shorter in
    omega (arith, less, lesser)
