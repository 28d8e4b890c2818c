-- The words of an action list, for the private type `Actions`.
use Rattle.std.specs.Prelude.{ℕ, List, [], ◌∷◌, codes, Bool, false, ◌&&◌, if◌then◌else◌, Option, Some, None}
use Rattle.std.specs.Option.{option_copied, option_map_or}
use Rattle.std.specs.Str.{bytes_eq}
use Rattle.serde_json.specs.Data.{Data}
use Rattle.serde_json.specs.Find.{as_str}
use Rattle.apply_model.specs.declared.plan.step_kind.StepKind.{StepKind}
use Rattle.apply_model.specs.declared.plan.step_kind.StepKind.TheVariants.{Create, Update, Delete, Read}
use Rattle.apply_plan.specs.declared.plan.actions.Actions.{Actions}
use Rattle.apply_plan.specs.declared.plan.actions.Actions.TheVariants as actions

-- the first two words; an item that is not a text is none
pub data Words : Type 0 where
  nothing : Words
  one : Option (List ℕ) → Words
  two : (first second : Option (List ℕ)) → Words
  more : Words

abbrev pub words_of : List Data → Words
words_of [] = nothing
words_of (first ∷ []) = one (as_str first)
words_of (first ∷ second ∷ []) = two (as_str first) (as_str second)
words_of (first ∷ second ∷ third ∷ others) = more

abbrev pub words_view : Actions → Words
words_view actions.Nothing = nothing
words_view (actions.One word) = one (option_copied word)
words_view (actions.Two first second) = two (option_copied first) (option_copied second)
words_view actions.More = more

abbrev pub with_next_word : Words → Option (List ℕ) → Words
with_next_word nothing word = one word
with_next_word (one first) word = two first word
with_next_word (two first second) word = more
with_next_word more word = more

-- whether the item is this word
abbrev pub says : List ℕ → Option (List ℕ) → Bool
says word item = option_map_or (λ text. bytes_eq text word) item false

-- the steps of a list with one action
abbrev pub steps_of_word : Option (List ℕ) → Option (List StepKind)
steps_of_word action =
    if says (codes "no-op") action then Some []
    else if says (codes "create") action then Some (Create ∷ [])
    else if says (codes "read") action then Some (Read ∷ [])
    else if says (codes "update") action then Some (Update ∷ [])
    else if says (codes "delete") action then Some (Delete ∷ [])
    else if says (codes "forget") action then Some []
    else None

-- the steps of a list with two actions: a replacement
abbrev pub steps_of_two : (first second : Option (List ℕ)) → Option (List StepKind)
steps_of_two first second =
    if says (codes "delete") first && says (codes "create") second then Some (Delete ∷ Create ∷ [])
    else if says (codes "create") first && says (codes "delete") second then Some (Create ∷ Delete ∷ [])
    else None

abbrev pub steps_of_words : Words → Option (List StepKind)
steps_of_words nothing = None
steps_of_words (one action) = steps_of_word action
steps_of_words (two first second) = steps_of_two first second
steps_of_words more = None
