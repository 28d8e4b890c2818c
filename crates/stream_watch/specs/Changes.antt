-- What is told of planned changes, and of changes outside of Terraform.
use Rattle.std.specs.Prelude.{ℕ, List, [], ◌+◌, ◌++◌, ◌==◌, Option, Some, None, codes, drop, if◌then◌else◌, is_some, length, map, option_map}
use Rattle.std.specs.Option.{option_map_or}
use Rattle.std.specs.Str.{bytes_eq}
use Rattle.memchr.specs.Find.{first_of, matches}
use Rattle.serde_json.specs.Data.{Data}
use Rattle.serde_json.specs.Find.{as_object}
use Rattle.serde_json.specs.View.{view}
use Rattle.apply_json.specs.Tree.{◌>>=◌, is_empty, member_of, non_empty_text_of, text_of, unless_empty}
use Rattle.term_text.specs.Shown.{shown_text}
use Rattle.stream_watch.specs.AfterRefreshes.{told_after_refreshes}
use Rattle.stream_watch.specs.Counts.{with_planned}
use Rattle.stream_watch.specs.Marks.{planned_mark}
use Rattle.stream_watch.specs.State.{State, Told}
use Rattle.stream_watch.specs.Words.{with_part}
use Rattle.stream_watch.specs.declared.looks.Looks.{Looks}
use Rattle.stream_watch.specs.declared.mark.Mark.TheVariants as mark
use Rattle.stream_watch.specs.declared.rows.planned.Change.{Change}

-- what a message names
pub record NamedChange : Type 0 where
  -- `change`
  pub object : Data
  pub action : List ℕ
  pub address : List ℕ

abbrev pub change_view : Change → NamedChange
change_view change = record { object = view change.object.now; action = change.action.now; address = change.address.now }

-- none where the message lacks the action or the address
unfoldable pub change_of : Data → Option NamedChange
change_of tree =
    member_of (codes "change") tree >>= λ object. text_of (codes "action") object
    >>= λ action. member_of (codes "resource") object
    >>= λ resource. option_map (λ address. record { object = object; action = action; address = address })
    (non_empty_text_of (codes "addr") resource)

-- ---- what stands in parentheses

-- the address before, if it was another one
unfoldable pub moved_note : NamedChange → Option (List ℕ)
moved_note change =
    member_of (codes "previous_resource") change.object >>= λ resource. non_empty_text_of (codes "addr") resource
    >>= λ old. if bytes_eq old change.address then None else Some (codes "moved from " ++ shown_text old)

abbrev pub import_words : (id : Option (List ℕ)) → List ℕ
import_words None = codes "imported"
import_words (Some id) = codes "imported [id=" ++ shown_text id ++ codes "]"

-- that the object is imported, with its id where there is one
unfoldable pub imported_note : NamedChange → Option (List ℕ)
imported_note change =
    member_of (codes "importing") change.object
    >>= λ importing. if is_some (as_object importing) then Some (import_words (text_of (codes "id") importing)) else None

abbrev pub because : List ℕ
because = codes "because_"

-- what follows the first `because_`, or all
unfoldable pub behind_because : List ℕ → List ℕ
behind_because reason =
    option_map_or (λ place. drop (place + length because) reason) (first_of (matches reason because 0)) reason

-- a text with a blank in place of each `_`
abbrev pub spaced : List ℕ → List ℕ
spaced text = map (λ byte. if byte == 95 then 32 else byte) text

-- the reason, unless nothing follows `because_`
unfoldable pub reason_note : NamedChange → Option (List ℕ)
reason_note change =
    text_of (codes "reason") change.object
    >>= λ reason. option_map (λ words. shown_text (spaced words)) (unless_empty (behind_because reason))

-- one more note, where there is one
abbrev pub with_note : Option (List ℕ) → (notes : List ℕ) → List ℕ
with_note None notes = notes
with_note (Some note) notes = with_part note notes

unfoldable pub notes_of : NamedChange → List ℕ
notes_of change = with_note (reason_note change) (with_note (imported_note change) (with_note (moved_note change) []))

abbrev pub in_parentheses : (notes : List ℕ) → List ℕ
in_parentheses notes = if is_empty notes then [] else codes " (" ++ notes ++ codes ")"

-- ---- the lines

-- the address, and what else is known
unfoldable pub object_words : NamedChange → List ℕ
object_words change = shown_text change.address ++ in_parentheses (notes_of change)

unfoldable pub planned_words : NamedChange → List ℕ
planned_words change = codes "plan to " ++ shown_text change.action ++ codes " " ++ object_words change

unfoldable pub drift_words : NamedChange → List ℕ
drift_words change = codes "changed outside of Terraform (" ++ shown_text change.action ++ codes "): " ++ object_words change

-- ---- what is told

-- the state with one more planned change
abbrev pub counting : (action : List ℕ) → State → State
counting action state = record state { counts = with_planned action state.counts }

-- a planned change, which is counted; none where the message lacks what this names
abbrev pub planned_told : Looks → Data → State → Option Told
planned_told looks tree state = option_map
    (λ change. told_after_refreshes looks (planned_mark change.action) (planned_words change) (counting change.action state))
    (change_of tree)

-- a change outside of Terraform; none where the message lacks what this names
abbrev pub drift_told : Looks → Data → State → Option Told
drift_told looks tree state =
    option_map (λ change. told_after_refreshes looks mark.Drift (drift_words change) state) (change_of tree)
