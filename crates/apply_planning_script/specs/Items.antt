-- An item of `planning` in a script, and the rule of each of its members (the script's own format).
use Rattle.std.specs.Prelude.{ℕ, List, [], codes, nat_lt, Bool, ◌&&◌, ◌||◌, if◌then◌else◌, is_some, Option, Some, None, unwrap_or}
use Rattle.serde_json.specs.Data.{Data}
use Rattle.apply_json.specs.Tree.{◌>>=◌, member_of, non_empty_text_of, text_or, unless_empty}
use Rattle.apply_model.specs.Script.Limits.{max_seconds}
use Rattle.apply_plan.specs.Script.Entry.{Failure, failure_or_none, flag_or_false, number_or_none}
use Rattle.apply_planning_script.specs.Objects.{ObjectName}

-- what a script says of the planning of one object
pub record Item : Type 0 where
  pub address : List ℕ
  pub deposed : Option (List ℕ)
  pub seconds : ℕ
  pub id : Option (List ℕ)
  pub failure : Option Failure
  -- the object has vanished
  pub is_gone : Bool
  -- the stream tells nothing of the object
  pub is_skipped : Bool

-- the object that the item is about
abbrev pub object_of_item : Item → ObjectName
object_of_item item = record { address = item.address; deposed = item.deposed }

-- the members do not go together: too many seconds, a failure of what has vanished, or anything more
-- of what is skipped
abbrev pub do_clash : (seconds : Option ℕ) → (has_id fails is_gone is_skipped : Bool) → Bool
do_clash seconds has_id fails is_gone is_skipped =
    nat_lt max_seconds (unwrap_or seconds 0)
    || ((is_gone && fails) || (is_skipped && (is_some seconds || (has_id || (fails || is_gone)))))

-- the item with these members; none where they do not go together
abbrev pub item_with : (address : List ℕ) → (deposed id : Option (List ℕ)) → (seconds : Option ℕ) → (is_gone is_skipped : Bool) → (failure : Option Failure) → Option Item
item_with address deposed id seconds is_gone is_skipped failure =
    if do_clash seconds (is_some id) (is_some failure) is_gone is_skipped then None
    else Some (record {
      address = address;
      deposed = deposed;
      seconds = unwrap_or seconds 0;
      id = id;
      failure = failure;
      is_gone = is_gone;
      is_skipped = is_skipped;
    })

-- the item; none if one of its members is invalid or missing
unfoldable pub item_of : Data → Option Item
item_of d = do
  address ← non_empty_text_of (codes "address") d
  deposed ← text_or [] (member_of (codes "deposed") d)
  id ← text_or [] (member_of (codes "id") d)
  seconds ← number_or_none (member_of (codes "seconds") d)
  is_gone ← flag_or_false (member_of (codes "gone") d)
  is_skipped ← flag_or_false (member_of (codes "skipped") d)
  failure ← failure_or_none (member_of (codes "failed") d)
  item_with address (unless_empty deposed) (unless_empty id) seconds is_gone is_skipped failure
