-- What the parser states of the command, and of its options.
use Rattle.std.proofs.Common.{◌≡◌, ◌∙◌, Option, None, Some, Result, Ok, Err, true, ap, refl, sym}
use Rattle.std.specs.Prelude.{IfOk, find, option_and_then, option_map}
use Rattle.std.specs.Str.{bytes_eq}
use Rattle.clap.specs.Facts.{Entry}
use Rattle.clap.specs.Faults.{is_simple_and_free}
use Rattle.clap.specs.Matches.{matched_of}
use Rattle.clap.specs.Simple.{App, is_simple}
use Rattle.clap.specs.Walk.{Row, Text, row_of, rows_of}
use Rattle.clap.specs.declared.builder.value_parser.ValueParser.{ValueParser}
use Rattle.clap.specs.declared.parser.matches.Found.{Found}
use Rattle.clap.specs.declared.parser.matches.MatchedArg.{MatchedArg}
use Rattle.clap.proofs.OnLiterals.{clap_on_literals}
use Rattle.clap.proofs.WalkLemmas.{find_row}
use Rattle.stream_view.specs.CommandLine.{IsCommand, command_line}

-- `clap` states the result of parsing for simple commands; `view` is one
line_is_simple : (colours sorts : ValueParser) → is_simple (command_line colours sorts) ≡ true
unfolding clap_on_literals
line_is_simple colours sorts = refl

line_is_free : (colours sorts : ValueParser) → is_simple_and_free (command_line colours sorts) ≡ true
unfolding clap_on_literals
line_is_free colours sorts = refl

pub command_is_simple : (app : App) → IsCommand app → is_simple app ≡ true
command_is_simple app is = ap is_simple is.4 ∙ line_is_simple is.0 is.1

pub command_is_free : (app : App) → IsCommand app → is_simple_and_free app ≡ true
command_is_free app is = ap is_simple_and_free is.4 ∙ line_is_free is.0 is.1

-- what follows for each value that was made
pub then_made : {A E : Type 0} (P Q : A → Type 0) (made : Result A E) → ((a : A) → P a → Q a) → IfOk made P → IfOk made Q
then_made P Q (Ok a) follows is = follows a is
then_made P Q (Err e) follows is = tt

-- where the value of an option came from
pub source-rows : (f : Found) (id : Text) → option_and_then (λ (a : MatchedArg). a.source) (matched_of f id)
    ≡ option_and_then (λ (r : Row). r.source) (find (λ (r : Row). bytes_eq r.id id) (rows_of f))
source-rows f id = go (find (λ e. bytes_eq e.0.now id) f.entries.items) ∙ ap (option_and_then (λ (r : Row). r.source)) (sym (find_row f.entries.items id))
  where
    go : (o : Option Entry) → option_and_then (λ (a : MatchedArg). a.source) (option_map (λ e. e.1) o) ≡ option_and_then (λ (r : Row). r.source) (option_map row_of o)
    go None = refl
    go (Some e) = refl
