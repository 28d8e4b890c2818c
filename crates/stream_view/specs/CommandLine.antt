-- What the arguments after `view` mean: the options as `clap` takes them, and the setting that each
-- gives.
use Rattle.std.specs.Prelude.{◌≡◌, ◌≤◌, ◌&&◌, ◌||◌, ℕ, Bool, List, [], ◌∷◌, Option, Some, None, IfSome, true, false, codes, find, if◌then◌else◌, option_and_then, option_map, pos, string_bytes}
use Rattle.std.specs.Borrow.{Bor}
use Rattle.std.specs.Option.{option_map_or}
use Rattle.std.specs.Str.{bytes_eq}
use Rattle.std.specs.Str.Parse.{IsNumeral, digits_value, without_leading_plus}
use Rattle.clap.specs.Simple.{App, new_rule, new_shape}
use Rattle.clap.specs.Walk.{Row, Rule, Text, first_of, one_of, texts}
use Rattle.clap.specs.declared.builder.value_parser.ValueParser.{ValueParser}
use Rattle.clap.specs.declared.builder.value_parser.ValueParser.TheVariants as values
use Rattle.clap.specs.declared.parser.matches.ValueSource.{ValueSource}
use Rattle.clap.specs.declared.parser.matches.ValueSource.TheVariants as source
use Rattle.stream_runs.specs.Arguments.{is_run_wrong, run_rule, stated_run}
use Rattle.stream_tool.specs.Arguments.{Arguments}
use Rattle.stream_tool.specs.Words.{file_rule, flag_rule, unless_dash}
use Rattle.stream_view.specs.declared.command.colour.Colour.{Colour}
use Rattle.stream_view.specs.declared.command.colour.Colour.TheVariants as colour
use Rattle.stream_view.specs.declared.command.settings.Form.{Form}
use Rattle.stream_view.specs.declared.command.settings.Form.TheVariants as form
use Rattle.stream_view.specs.declared.command.settings.Settings.{Settings}
use Rattle.stream_view.specs.declared.row_choice.Sort.{Sort}
use Rattle.stream_view.specs.declared.row_choice.Sort.TheVariants as sort

-- ---- the options

-- `--NAME VALUE`
abbrev pub option_named : Text → Rule
option_named name = record (new_rule name) { long = Some name; value_names = 1 }

-- an option with a number from `least` to `most`
abbrev pub number_named : Text → (least most : ℕ) → Rule
number_named name least most = record (option_named name) { parser = Some (values.Signed (pos least) (pos most)) }

-- such an option with a default
abbrev pub width_rule : Rule
width_rule = record (number_named (codes "width") 60 400) { defaults = codes "120" ∷ [] }

-- the values of `--color`
abbrev pub colour_words : List Text
colour_words = codes "auto" ∷ codes "always" ∷ codes "never" ∷ []

-- the parser accepts only these words
abbrev pub TakesOnly : List Text → ValueParser → Type 0
TakesOnly words parser = (names : Bor (List (Bor Text))) × (texts names.now ≡ words) × (parser ≡ values.Names names)

abbrev pub TakesColours : ValueParser → Type 0
TakesColours parser = TakesOnly colour_words parser

abbrev pub colour_rule : (colours : ValueParser) → Rule
colour_rule colours = record (option_named (codes "color")) { parser = Some colours; defaults = codes "auto" ∷ [] }

-- the values of `--sort`
abbrev pub sort_words : List Text
sort_words = codes "begin" ∷ codes "length" ∷ []

abbrev pub TakesSorts : ValueParser → Type 0
TakesSorts parser = TakesOnly sort_words parser

abbrev pub sort_rule : (sorts : ValueParser) → Rule
sort_rule sorts = record (option_named (codes "sort")) { parser = Some sorts; defaults = codes "begin" ∷ [] }

-- the command, whose words are those after `view`
abbrev pub command_line : (colours sorts : ValueParser) → App
command_line colours sorts = record {
  top = record (new_shape (codes "applystream view")) {
    no_binary_name = true;
    rules = flag_rule (codes "svg") ∷ flag_rule (codes "json") ∷ flag_rule (codes "markdown") ∷ number_named (codes "rows") 1 100000 ∷ flag_rule (codes "all") ∷ sort_rule sorts ∷ width_rule
        ∷ colour_rule colours ∷ flag_rule (codes "find") ∷ run_rule ∷ file_rule ∷ [];
  };
  subs = [];
}

-- the command `view`, with some parsers of colours and orders
abbrev pub IsCommand : App → Type 0
IsCommand app = (colours : ValueParser) × (sorts : ValueParser) × TakesColours colours × TakesSorts sorts × (app ≡ command_line colours sorts)

-- ---- options that exclude each other

-- the value comes from the arguments, and is not a default
abbrev pub is_of_words : Option ValueSource → Bool
is_of_words (Some source.CommandLine) = true
is_of_words (Some source.DefaultValue) = false
is_of_words None = false

-- the option was given
abbrev pub is_given : (name : Text) → List Row → Bool
is_given name rows = is_of_words (option_and_then (λ r. r.source) (find (λ r. bytes_eq r.id name) rows))

-- an SVG, and an option for texts only
abbrev pub is_svg_conflicting : List Row → Bool
is_svg_conflicting rows = is_given (codes "svg") rows && (is_given (codes "width") rows || is_given (codes "color") rows)

-- an object, and an option of pictures
abbrev pub is_json_conflicting : List Row → Bool
is_json_conflicting rows =
    is_given (codes "json") rows
    && (is_given (codes "svg") rows
    || (is_given (codes "rows") rows
    || (is_given (codes "all") rows
    || (is_given (codes "sort") rows || (is_given (codes "width") rows || is_given (codes "color") rows)))))

-- Markdown, and another output or an option for texts only
abbrev pub is_markdown_conflicting : List Row → Bool
is_markdown_conflicting rows =
    is_given (codes "markdown") rows
    && (is_given (codes "svg") rows
    || (is_given (codes "json") rows || (is_given (codes "width") rows || is_given (codes "color") rows)))

-- options that exclude each other: an SVG or Markdown with one for texts only, an object with one
-- for pictures, two outputs, or all rows with a number of rows
abbrev pub are_exclusive : List Row → Bool
are_exclusive rows =
    is_svg_conflicting rows
    || (is_json_conflicting rows || (is_markdown_conflicting rows || (is_given (codes "all") rows && is_given (codes "rows") rows)))

-- the arguments are refused: options exclude each other, or the value of `--run` names no run
abbrev pub are_conflicting : List Row → Bool
are_conflicting rows = are_exclusive rows || is_run_wrong rows

-- ---- the settings

-- if the text is a number in the range, `n` is that number
abbrev pub IsNumber : (least most : ℕ) → Text → ℕ → Type 0
IsNumber least most text n = IsNumeral 10 (without_leading_plus text) → least ≤ digits_value 10 (without_leading_plus text)
    → digits_value 10 (without_leading_plus text) ≤ most → n ≡ digits_value 10 (without_leading_plus text)

abbrev pub colour_of_word : Text → Colour
colour_of_word choice =
    if bytes_eq choice (codes "always") then colour.Always else if bytes_eq choice (codes "never") then colour.Never else colour.Auto

-- the colours that the option states, else those of `auto`
abbrev pub stated_colour : List Row → Colour
stated_colour rows = option_map_or colour_of_word (first_of (codes "color") rows) colour.Auto

abbrev pub sort_of_word : Text → Sort
sort_of_word choice = if bytes_eq choice (codes "length") then sort.Length else sort.Begin

-- the order that the option states, else that of the begins
abbrev pub stated_sort : List Row → Sort
stated_sort rows = option_map_or sort_of_word (first_of (codes "sort") rows) sort.Begin

-- the output is a text with the stated width and colours
pub record IsTextStated (rows : List Row) (asked : Form) : Type 0 where
  pub width : ℕ
  pub is : asked ≡ form.Text width (stated_colour rows)
  pub stated : IfSome (one_of (codes "width") rows) (λ text. IsNumber 60 400 text width)

-- Markdown or a text, where neither an SVG nor an object is asked for
pub record IsFormForPeople (rows : List Row) (asked : Form) : Type 0 where
  pub markdown : one_of (codes "markdown") rows ≡ Some (codes "true") → asked ≡ form.Markdown
  pub text : one_of (codes "markdown") rows ≡ Some (codes "false") → IsTextStated rows asked

-- an object, Markdown or a text, where no SVG is asked for
pub record IsFormButSvg (rows : List Row) (asked : Form) : Type 0 where
  pub json : one_of (codes "json") rows ≡ Some (codes "true") → asked ≡ form.Json
  pub others : one_of (codes "json") rows ≡ Some (codes "false") → IsFormForPeople rows asked

-- the greatest number of rows by default
abbrev pub rows_of_form : Form → ℕ
rows_of_form (form.Text width colour) = 40
rows_of_form form.Svg = 200
rows_of_form form.Json = 40
rows_of_form form.Markdown = 40

-- the greatest number of rows is the stated one, or that by default
pub record AreRowsStated (rows : List Row) (asked : Form) (limit : Option ℕ) : Type 0 where
  pub count : ℕ
  pub is : limit ≡ Some count
  pub stated : IfSome (one_of (codes "rows") rows) (λ text. IsNumber 1 100000 text count)
  pub none : one_of (codes "rows") rows ≡ None → count ≡ rows_of_form asked

-- each setting is what its option states
pub record AreStated (rows : List Row) (settings : Settings) : Type 0 where
  pub file : option_map string_bytes settings.file ≡ unless_dash (first_of (codes "file") rows)
  pub svg : one_of (codes "svg") rows ≡ Some (codes "true") → settings.form ≡ form.Svg
  pub others : one_of (codes "svg") rows ≡ Some (codes "false") → IsFormButSvg rows settings.form
  pub all : one_of (codes "all") rows ≡ Some (codes "true") → settings.rows.limit ≡ None
  pub limit : one_of (codes "all") rows ≡ Some (codes "false") → AreRowsStated rows settings.form settings.rows.limit
  pub sort : settings.rows.sort ≡ stated_sort rows
  pub run : settings.run ≡ stated_run rows
  pub find : one_of (codes "find") rows ≡ Some (codes "true") → settings.find ≡ true
  pub no_find : one_of (codes "find") rows ≡ Some (codes "false") → settings.find ≡ false

-- how arguments state the settings
abbrev pub arguments : Arguments Settings
arguments = record {
  IsCommand = IsCommand;
  are_conflicting = are_conflicting;
  AreStated = AreStated;
  file = λ settings. option_map string_bytes settings.file;
}
