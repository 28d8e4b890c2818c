-- What is told of the sums of a plan or an apply.
use Rattle.std.specs.Prelude.{ℕ, List, [], ◌++◌, ◌==◌, Option, Some, None, codes, if◌then◌else◌, option_map, unwrap_or}
use Rattle.std.specs.Str.{bytes_eq}
use Rattle.serde_json.specs.Data.{Data}
use Rattle.apply_json.specs.Tree.{◌>>=◌, member_of, text_of}
use Rattle.term_text.specs.Shown.{shown_text}
use Rattle.term_words.specs.Words.{grouped}
use Rattle.stream_watch.specs.AfterRefreshes.{told_after_refreshes}
use Rattle.stream_watch.specs.State.{State, Told}
use Rattle.stream_watch.specs.Words.{whole_of}
use Rattle.stream_watch.specs.declared.looks.Looks.{Looks}
use Rattle.stream_watch.specs.declared.mark.Mark.TheVariants as mark

-- a sum, or `?` for what is no whole number
abbrev pub sum_words : Option ℕ → List ℕ
sum_words None = codes "?"
sum_words (Some sum) = grouped sum

-- the sum of that name in `changes`
abbrev pub sum_in : (changes : Data) → (name : List ℕ) → List ℕ
sum_in changes name = sum_words (whole_of name changes)

-- the imports, where there are some
unfoldable pub imports_in : (changes : Data) → (imported : List ℕ) → List ℕ
imports_in changes imported =
    let imports = unwrap_or (whole_of (codes "import") changes) 0 in
    if imports == 0 then [] else codes ", " ++ grouped imports ++ imported

-- what is added, changed, removed and imported, each with its words
unfoldable pub changes_in : (changes : Data) → (added changed removed imported : List ℕ) → List ℕ
changes_in changes added changed removed imported =
    sum_in changes (codes "add") ++ added ++ sum_in changes (codes "change") ++ changed
    ++ sum_in changes (codes "remove") ++ removed ++ imports_in changes imported

unfoldable pub plan_words : (changes : Data) → List ℕ
plan_words changes = codes "plan: " ++ changes_in changes (codes " to add, ") (codes " to change, ") (codes " to destroy") (codes " to import")

unfoldable pub done_words : (operation : List ℕ) → (changes : Data) → List ℕ
done_words operation changes =
    shown_text operation ++ codes " complete: "
    ++ changes_in changes (codes " added, ") (codes " changed, ") (codes " destroyed") (codes " imported")

abbrev pub sums_words : (operation : List ℕ) → (changes : Data) → List ℕ
sums_words operation changes = if bytes_eq operation (codes "plan") then plan_words changes else done_words operation changes

-- none where the message names no operation
unfoldable pub summary_words : Data → Option (List ℕ)
summary_words tree =
    member_of (codes "changes") tree
    >>= λ changes. option_map (λ operation. sums_words operation changes) (text_of (codes "operation") changes)

-- the sums; none where the message names no operation
abbrev pub summary_told : Looks → Data → State → Option Told
summary_told looks tree state =
    option_map (λ words. told_after_refreshes looks mark.Sum words state) (summary_words tree)
