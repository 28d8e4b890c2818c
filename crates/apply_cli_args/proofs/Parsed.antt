-- From the words to what the matches say, and to why they are refused.
use Rattle.std.proofs.Common.{◌≡◌, ◌∙◌, List, [], None, Result, Ok, Err, true, ap, inl, inr, refl, subst, sym}
use Rattle.std.proofs.lemmas.Result.{IfErr-weaker, IfOk-weaker}
use Rattle.std.specs.Prelude.{IfErr, IfOk}
use Rattle.clap.specs.Faults.{fault_of, is_simple_and_free}
use Rattle.clap.specs.Kinds.{FailsBy, HasKind, IsAmong}
use Rattle.clap.specs.Matches.{found_of}
use Rattle.clap.specs.Simple.{App, HasMatchesOf, app_of, is_simple, matches_of}
use Rattle.clap.specs.Values.{kind_of}
use Rattle.clap.specs.Walk.{Row, Text, rows_of}
use Rattle.clap.specs.declared.builder.command.Command.{Command}
use Rattle.clap.specs.declared.error.Error.{Error}
use Rattle.clap.specs.declared.error.kind.ErrorKind.{ErrorKind}
use Rattle.clap.specs.declared.error.kind.ErrorKind.TheVariants.{DisplayHelp, DisplayVersion, OutOfMemory}
use Rattle.clap.specs.declared.parser.matches.ArgMatches.{ArgMatches}
use Rattle.clap.proofs.OnLiterals.{clap_on_literals}
use Rattle.apply_text_terraform.specs.declared.command.Command.TheVariants.{Saved}
use Rattle.apply_cli_args.specs.CommandLine.{Answers, AreChoices, AreStatedSettings, AreNoSettings, HasCause, HaveStatedSettings, IsOneOf, IsNoInvocation, command_line, kind_words, settings_line}
use Rattle.apply_cli_args.specs.Invocation.{HaveInvoked, IsInvoked}
use Rattle.apply_cli_args.specs.declared.invocation.Invocation.{Invocation}
use Rattle.apply_cli_args.specs.declared.settings.Settings.{Settings}
use Rattle.apply_cli_args.specs.declared.usage.Usage.{Usage}
use Rattle.apply_cli_args.specs.declared.usage.Usage.TheVariants as usage

-- `clap` states what it makes of words for simple commands
pub record IsSimple {P : Type 0} (line : P → App) : Type 0 where
  pub simple : (parsers : P) → is_simple (line parsers) ≡ true
  pub free : (parsers : P) → is_simple_and_free (line parsers) ≡ true

-- ours are some
pub command_line_is_simple : IsSimple command_line
unfolding clap_on_literals
command_line_is_simple = record { simple = λ choices. refl; free = λ choices. refl }

pub settings_line_is_simple : IsSimple settings_line
unfolding clap_on_literals
settings_line_is_simple = record { simple = λ kinds. refl; free = λ kinds. refl }

-- a parse by one of our commands, and what is known of it
pub record IsParse {P : Type 0} (TakeWords : P → Type 0) (line : P → App) (command : Command) (words : List Text) (parse : Result ArgMatches Error) : Type 0 where
  pub of_simple : IsSimple line
  pub parsers : P
  pub take_words : TakeWords parsers
  pub is_line : app_of command ≡ line parsers
  pub fails : is_simple_and_free (app_of command) ≡ true → FailsBy (fault_of (app_of command) words) parse

-- by what the maker of the command promises, and what `clap` does
pub is_parse : {P : Type 0} (TakeWords : P → Type 0) (line : P → App) (command : Command) (words : List Text) (parse : Result ArgMatches Error)
    → IsSimple line → (parsers : P) × TakeWords parsers × (app_of command ≡ line parsers)
    → (is_simple_and_free (app_of command) ≡ true → FailsBy (fault_of (app_of command) words) parse) → IsParse TakeWords line command words parse
is_parse TakeWords line command words parse of_simple made fails =
    record { of_simple = of_simple; parsers = made.0; take_words = made.1; is_line = made.2; fails = fails }

faults_are : {P : Type 0} {TakeWords : P → Type 0} {line : P → App} {command : Command} {words : List Text} {parse : Result ArgMatches Error} (result : Result ArgMatches Error)
    → (is : IsParse TakeWords line command words parse) → parse ≡ result → FailsBy (fault_of (line is.parsers) words) result
faults_are {P} {TakeWords} {line} {command} {words} {parse} result is same =
    subst (FailsBy (fault_of (line is.parsers) words)) same
    (subst (λ (app : App). FailsBy (fault_of app words) parse) is.is_line (is.fails (ap is_simple_and_free is.is_line ∙ is.of_simple.free is.parsers)))

rows_are : {P : Type 0} {TakeWords : P → Type 0} {line : P → App} {command : Command} {words : List Text} {parse : Result ArgMatches Error} (matches : ArgMatches)
    → (is : IsParse TakeWords line command words parse) → HasMatchesOf (app_of command) words matches
    → rows_of (found_of matches) ≡ matches_of (line is.parsers) words
rows_are {P} {TakeWords} {line} {command} {words} {parse} matches is has =
    (has (ap is_simple is.is_line ∙ is.of_simple.simple is.parsers)).0 ∙ ap (λ (app : App). matches_of app words) is.is_line

-- settings that the matches say are those that the words say
pub have_stated : {command : Command} {words : List Text} {parse : Result ArgMatches Error} (matches : ArgMatches) (settings : Result Settings Usage)
    → IsParse (IsOneOf kind_words) settings_line command words parse → parse ≡ Ok matches → HasMatchesOf (app_of command) words matches
    → IfOk settings (AreStatedSettings None Saved (rows_of (found_of matches))) → IfOk settings (HaveStatedSettings words)
have_stated {command} {words} {parse} matches settings is ok has =
    IfOk-weaker settings (AreStatedSettings None Saved (rows_of (found_of matches))) (HaveStatedSettings words) (λ s stated. record {
      kinds = is.parsers;
      are_kinds = is.take_words;
      parsed = faults_are (Ok matches) is ok;
      stated = subst (λ (rows : List Row). AreStatedSettings None Saved rows s) (rows_are matches is has) stated;
    })

-- an invocation that the matches say is the one that the words say
pub have_invoked : {command : Command} {words : List Text} {parse : Result ArgMatches Error} (matches : ArgMatches) (invocation : Result Invocation Usage)
    → IsParse AreChoices command_line command words parse → parse ≡ Ok matches → HasMatchesOf (app_of command) words matches
    → IfOk invocation (IsInvoked (rows_of (found_of matches))) → IfOk invocation (HaveInvoked words)
have_invoked {command} {words} {parse} matches invocation is ok has =
    IfOk-weaker invocation (IsInvoked (rows_of (found_of matches))) (HaveInvoked words) (λ i stated. record {
      choices = is.parsers;
      are_choices = is.take_words;
      parsed = faults_are (Ok matches) is ok;
      invoked = subst (λ (rows : List Row). IsInvoked rows i) (rows_are matches is has) stated;
    })

-- an error in what parsed words state is neither a call for help or the version, nor an error of
-- the parser
pub record IsOfRows (IsWrong : List Row → Usage → Type 0) : Type 0 where
  pub no_help : (rows : List Row) (text : Text) → IsWrong rows (usage.Help text) → ⊥
  pub no_version : (rows : List Row) → IsWrong rows usage.Version → ⊥
  pub no_words : (rows : List Row) (text : Text) → IsWrong rows (usage.Words text) → ⊥

pub invocation_is_of_rows : IsOfRows (λ rows why. IsNoInvocation rows why)
invocation_is_of_rows = record { no_help = λ rows text wrong. wrong.1.1; no_version = λ rows wrong. wrong.1.1; no_words = λ rows text wrong. wrong.1.1 }

pub settings_are_of_rows : IsOfRows (λ rows why. AreNoSettings None rows why)
settings_are_of_rows = record { no_help = λ rows text wrong. wrong; no_version = λ rows wrong. wrong; no_words = λ rows text wrong. wrong }

-- words that were parsed, but state something wrong
pub are_wrong : {P : Type 0} {TakeWords : P → Type 0} {line : P → App} {command : Command} {words : List Text} {parse : Result ArgMatches Error} {X : Type 0} (IsWrong : List Row → Usage → Type 0) (matches : ArgMatches) (stated : Result X Usage)
    → IsParse TakeWords line command words parse → IsOfRows IsWrong → parse ≡ Ok matches → HasMatchesOf (app_of command) words matches
    → IfErr stated (IsWrong (rows_of (found_of matches))) → IfErr stated (HasCause TakeWords line IsWrong words)
are_wrong {P} {TakeWords} {line} {command} {words} {parse} IsWrong matches stated is of_rows ok has =
    IfErr-weaker stated (IsWrong (rows_of (found_of matches))) (HasCause TakeWords line IsWrong words)
    (λ why wrong. cause why (subst (λ (rows : List Row). IsWrong rows why) (rows_are matches is has) wrong))
  where
    parsed : fault_of (line is.parsers) words ≡ []
    parsed = faults_are (Ok matches) is ok

    cause : (why : Usage) → IsWrong (matches_of (line is.parsers) words) why → HasCause TakeWords line IsWrong words why
    cause (usage.Help text) wrong = absurd (of_rows.no_help _ text wrong)
    cause usage.Version wrong = absurd (of_rows.no_version _ wrong)
    cause (usage.Words text) wrong = absurd (of_rows.no_words _ text wrong)
    cause usage.Conflict wrong = inr (is.parsers, is.take_words, (parsed, wrong))
    cause (usage.Misplaced misplaced) wrong = inr (is.parsers, is.take_words, (parsed, wrong))
    cause usage.Clock wrong = inr (is.parsers, is.take_words, (parsed, wrong))
    cause (usage.Moment error) wrong = inr (is.parsers, is.take_words, (parsed, wrong))
    cause usage.Hooks wrong = inr (is.parsers, is.take_words, (parsed, wrong))
    cause usage.Memory wrong = inl refl

-- words that were not parsed
pub are_refused : {P : Type 0} {TakeWords : P → Type 0} {line : P → App} {command : Command} {words : List Text} {parse : Result ArgMatches Error} (IsWrong : List Row → Usage → Type 0) (error : Error) (why : Usage)
    → IsParse TakeWords line command words parse → parse ≡ Err error → Answers (kind_of error) why → HasCause TakeWords line IsWrong words why
are_refused {P} {TakeWords} {line} {command} {words} {parse} IsWrong error why is failed = cause why (faults_are (Err error) is failed)
  where
    cause : (u : Usage) → HasKind (fault_of (line is.parsers) words) error → Answers (kind_of error) u → HasCause TakeWords line IsWrong words u
    cause (usage.Help text) (inl memory) help =
        let bad : DisplayHelp ≡ OutOfMemory = sym help ∙ memory in
        cc
    cause (usage.Help text) (inr among) help =
        inr (is.parsers, is.take_words, subst (λ (kind : ErrorKind). IsAmong kind (fault_of (line is.parsers) words)) help among)
    cause usage.Version (inl memory) version =
        let bad : DisplayVersion ≡ OutOfMemory = sym version ∙ memory in
        cc
    cause usage.Version (inr among) version =
        inr (is.parsers, is.take_words, subst (λ (kind : ErrorKind). IsAmong kind (fault_of (line is.parsers) words)) version among)
    cause (usage.Words text) (inl memory) other = absurd (other.0 memory)
    cause (usage.Words text) (inr among) other = inr (is.parsers, is.take_words, (kind_of error, other.1, other.2, among))
    cause usage.Conflict has answers = absurd answers
    cause (usage.Misplaced misplaced) has answers = absurd answers
    cause usage.Clock has answers = absurd answers
    cause (usage.Moment wrong) has answers = absurd answers
    cause usage.Hooks has answers = absurd answers
    cause usage.Memory has answers = inl refl
