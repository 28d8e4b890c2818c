-- Items of `planning`, by the slots of their members.
use Rattle.std.proofs.Common.{◌≡◌, ℕ, List, [], true, codes, Option, Some, None, refl, ap, ◌∙◌}
use Rattle.std.specs.Str.{bytes_eq}
use Rattle.serde_json.specs.Data.{Data, null, boolean, number, string, array, object, Members, put}
use Rattle.serde_json.specs.Find.{get_member}
use Rattle.apply_json.specs.ShallowView.{members_in, shallow_of, shallow_view}
use Rattle.apply_json.specs.Tree.{◌>>=◌, member_of, unless_null}
use Rattle.apply_json.proofs.Held.{member_in, text_in, text_or_in}
use Rattle.apply_json.proofs.OneMember.{after_member, located_after}
use Rattle.apply_plan.specs.Script.Entry.{failure_or_none, flag_or_false, number_or_none}
use Rattle.apply_plan.specs.Script.Members.{failure_member, failure_option_view, flag_read, number_read}
use Rattle.apply_planning_script.specs.declared.item_slots.ItemSlots.{ItemSlots}
use Rattle.apply_planning_script.specs.Items.{item_of}
use Rattle.apply_planning_script.specs.ItemSlots.{HoldsItem, item_read}

number_is : (o : Option Data) → number_or_none (o >>= unless_null) ≡ number_read (shallow_of o)
number_is None = refl
number_is (Some null) = refl
number_is (Some (boolean b)) = refl
number_is (Some (number n)) = refl
number_is (Some (string t)) = refl
number_is (Some (array ds)) = refl
number_is (Some (object ms)) = refl

number_in : (name : List ℕ) (d : Data) → number_or_none (member_of name d) ≡ number_read (shallow_of (get_member name (members_in d)))
number_in name d = ap number_or_none (member_in name d) ∙ number_is (get_member name (members_in d))

flag_is : (o : Option Data) → flag_or_false (o >>= unless_null) ≡ flag_read (shallow_of o)
flag_is None = refl
flag_is (Some null) = refl
flag_is (Some (boolean b)) = refl
flag_is (Some (number n)) = refl
flag_is (Some (string t)) = refl
flag_is (Some (array ds)) = refl
flag_is (Some (object ms)) = refl

flag_in : (name : List ℕ) (d : Data) → flag_or_false (member_of name d) ≡ flag_read (shallow_of (get_member name (members_in d)))
flag_in name d = ap flag_or_false (member_in name d) ∙ flag_is (get_member name (members_in d))

failure_in : (name : List ℕ) (d : Data) → failure_or_none (member_of name d) ≡ failure_member (get_member name (members_in d))
failure_in name d = ap failure_or_none (member_in name d)

pub item_is : (slots : ItemSlots) (d : Data) → HoldsItem slots (members_in d) → item_read slots ≡ item_of d
unfolding item_of
item_is slots d holds =
    rw (
      text_in (codes "address") d,
      text_or_in [] (codes "deposed") d,
      text_or_in [] (codes "id") d,
      number_in (codes "seconds") d,
      flag_in (codes "gone") d,
      flag_in (codes "skipped") d,
      failure_in (codes "failed") d,
      ← holds.address,
      ← holds.deposed,
      ← holds.id,
      ← holds.seconds,
      ← holds.gone,
      ← holds.skipped,
      ← holds.failed,
    ) refl

module _ (k q : List ℕ) (d : Data) (ms : Members) (here : bytes_eq k q ≡ true) where
  pub item_behind : (slots : ItemSlots) → shallow_view slots.address ≡ shallow_of (located_after q d ms (codes "address"))
      → shallow_view slots.deposed ≡ shallow_of (located_after q d ms (codes "deposed"))
      → shallow_view slots.seconds ≡ shallow_of (located_after q d ms (codes "seconds"))
      → shallow_view slots.id ≡ shallow_of (located_after q d ms (codes "id"))
      → failure_option_view slots.failed ≡ failure_member (located_after q d ms (codes "failed"))
      → shallow_view slots.gone ≡ shallow_of (located_after q d ms (codes "gone"))
      → shallow_view slots.skipped ≡ shallow_of (located_after q d ms (codes "skipped")) → HoldsItem slots (put k d ms)
  item_behind slots address deposed seconds id failed gone skipped = record {
    address = after_member shallow_of (codes "address") k q d ms _ here address;
    deposed = after_member shallow_of (codes "deposed") k q d ms _ here deposed;
    seconds = after_member shallow_of (codes "seconds") k q d ms _ here seconds;
    id = after_member shallow_of (codes "id") k q d ms _ here id;
    failed = after_member failure_member (codes "failed") k q d ms _ here failed;
    gone = after_member shallow_of (codes "gone") k q d ms _ here gone;
    skipped = after_member shallow_of (codes "skipped") k q d ms _ here skipped;
  }
