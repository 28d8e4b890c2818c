-- Words that several rows share.
use Rattle.std.specs.Prelude.{ℕ, ℤ, List, [], ◌++◌, Option, Some, None, codes, if◌then◌else◌, option_and_then, option_map}
use Rattle.std.specs.Int.{int_gap}
use Rattle.serde_json.specs.Data.{Data}
use Rattle.serde_json.specs.Find.{as_number, as_u64}
use Rattle.apply_json.specs.Tree.{is_empty, member_of}
use Rattle.term_text.specs.Shown.{shown_text}
use Rattle.term_words.specs.Words.{duration_words}
use Rattle.stream_watch.specs.Steps.{Running}

-- the whole number of that name, from 0 to 2^64 - 1
abbrev pub whole_of : List ℕ → Data → Option ℕ
whole_of name tree = option_and_then as_u64 (option_and_then as_number (member_of name tree))

-- an action and an address
abbrev pub step_words : (action address : List ℕ) → List ℕ
step_words action address = shown_text action ++ codes " " ++ shown_text address

-- a duration after a word, where it is known
abbrev pub length_words : (word : List ℕ) → Option ℕ → List ℕ
length_words word None = []
length_words word (Some length) = word ++ duration_words length

-- the microseconds from a begin to a moment, where the begin is known
abbrev pub length_since : Option ℤ → (moment : ℤ) → Option ℕ
length_since begin moment = option_map (λ from. int_gap from moment) begin

-- a further part, behind a comma unless it is the first
abbrev pub with_part : (words text : List ℕ) → List ℕ
with_part words text = if is_empty text then words else text ++ codes ", " ++ words

-- the provisioner that runs in a step
unfoldable pub provisioner_words : Option Running → List ℕ
provisioner_words None = []
provisioner_words (Some running) = codes " (" ++ shown_text running.name ++ codes ")"
