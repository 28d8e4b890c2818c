-- What is told of the code that a diagnostic is about.
use Rattle.std.specs.Prelude.{ℕ, List, [], ◌∷◌, ◌++◌, Bool, Option, codes, if◌then◌else◌, is_some, max, option_map, option_to_list, unwrap_or}
use Rattle.std.specs.Fmt.{decimal}
use Rattle.std.specs.List.{filter_map, slice_split}
use Rattle.std.specs.Option.{option_map_or}
use Rattle.serde_json.specs.Data.{Data}
use Rattle.apply_json.specs.Tree.{◌>>=◌, is_empty, items_or_empty, list_of, member_of, non_empty_text_of, text_of}
use Rattle.term_text.specs.LineTexts.{is_line_feed, line_text}
use Rattle.term_text.specs.Shown.{shown_text}
use Rattle.term_words.specs.MessageTexts.{right_text}
use Rattle.stream_watch.specs.Counts.{plus}
use Rattle.stream_watch.specs.Joined.{joined}
use Rattle.stream_watch.specs.Words.{whole_of}

-- ---- the code

-- a line of the code with its number
abbrev pub code_words : (number : ℕ) → (line : List ℕ) → List ℕ
code_words number line = right_text 4 (decimal number) ++ codes ": " ++ line_text line

-- lines with their numbers, from this number on
abbrev pub numbered : (number : ℕ) → (lines : List (List ℕ)) → List (List ℕ)
numbered number [] = []
numbered number (line ∷ lines) = code_words number line ∷ numbered (plus number 1) lines

-- the number of the first line, from 1 on; 1 if it is not known
abbrev pub first_number : (snippet : Data) → ℕ
first_number snippet = max (unwrap_or (whole_of (codes "start_line") snippet) 1) 1

abbrev pub context_words : (context : List ℕ) → List ℕ
context_words context = codes "in " ++ shown_text context ++ codes ":"

-- the context, and the code behind it, cut at line feeds
abbrev pub code_lines : (snippet : Data) → (code : List ℕ) → List (List ℕ)
code_lines snippet code =
    option_to_list (option_map context_words (non_empty_text_of (codes "context") snippet))
    ++ numbered (first_number snippet) (slice_split is_line_feed code)

-- ---- the values

-- the items of the array of that name; none if there is no such array
abbrev pub items_of : (name : List ℕ) → Data → List Data
items_of name tree = option_map_or list_of (items_or_empty (member_of name tree)) []

abbrev pub read_words : (traversal statement : List ℕ) → List ℕ
read_words traversal statement = codes "      " ++ shown_text traversal ++ codes " " ++ shown_text statement

-- a value that the code reads; none unless it has both texts
abbrev pub value_words : (value : Data) → Option (List ℕ)
value_words value =
    text_of (codes "traversal") value >>= λ traversal. option_map (read_words traversal) (text_of (codes "statement") value)

-- ---- the function

-- the name of a parameter, if it is a text
abbrev pub name_of : (parameter : Data) → Option (List ℕ)
name_of parameter = option_map shown_text (text_of (codes "name") parameter)

-- the parameter that takes any number of values
abbrev pub variadic_of : (signature : Data) → Option Data
variadic_of signature = member_of (codes "variadic_param") signature

abbrev pub parameter_names : (signature : Data) → List (List ℕ)
parameter_names signature =
    filter_map name_of (items_of (codes "params") signature) ++ option_to_list (variadic_of signature >>= name_of)

-- what stands behind the last name, if the last parameter takes any number of values
abbrev pub dots_words : (is_variadic : Bool) → (names : List (List ℕ)) → List ℕ
dots_words is_variadic [] = []
dots_words is_variadic (name ∷ names) = if is_variadic then codes "..." else []

abbrev pub signature_words : (signature : Data) → List ℕ
signature_words signature =
    joined (codes ", ") (parameter_names signature) ++ dots_words (is_some (variadic_of signature)) (parameter_names signature)

abbrev pub parameters_words : (call : Data) → List ℕ
parameters_words call = option_map_or signature_words (member_of (codes "signature") call) []

abbrev pub calling_words : (call : Data) → (name : List ℕ) → List ℕ
calling_words call name = codes "      while calling " ++ shown_text name ++ codes "(" ++ parameters_words call ++ codes ")"

-- a function that the code calls; none if it has no name
abbrev pub call_words : (call : Data) → Option (List ℕ)
call_words call = option_map (calling_words call) (text_of (codes "called_as") call)

abbrev pub call_of : (snippet : Data) → Option (List ℕ)
call_of snippet = member_of (codes "function_call") snippet >>= call_words

-- ---- all of it

abbrev pub snippet_lines : (snippet : Data) → List (List ℕ)
snippet_lines snippet =
    option_map_or (code_lines snippet) (text_of (codes "code") snippet) []
    ++ filter_map value_words (items_of (codes "values") snippet)
    ++ option_to_list (call_of snippet)

-- ---- for private clauses

-- what stands behind the names, by what would stand before one more
abbrev pub dots_after : (before : List ℕ) → List ℕ
dots_after before = if is_empty before then [] else codes "..."
