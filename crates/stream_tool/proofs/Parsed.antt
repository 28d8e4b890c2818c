-- From the words to why they are refused.
use Rattle.std.proofs.Common.{◌≡◌, ◌∙◌, List, Result, Err, true, ap, inl, inr, subst, sym}
use Rattle.clap.specs.Faults.{fault_of, is_simple_and_free}
use Rattle.clap.specs.Kinds.{FailsBy, HasKind, IsAmong}
use Rattle.clap.specs.Simple.{App, app_of}
use Rattle.clap.specs.Values.{kind_of}
use Rattle.clap.specs.Walk.{Text}
use Rattle.clap.specs.declared.builder.command.Command.{Command}
use Rattle.clap.specs.declared.error.Error.{Error}
use Rattle.clap.specs.declared.error.kind.ErrorKind.{ErrorKind}
use Rattle.clap.specs.declared.error.kind.ErrorKind.TheVariants.{DisplayHelp, OutOfMemory}
use Rattle.clap.specs.declared.parser.matches.ArgMatches.{ArgMatches}
use Rattle.stream_tool.specs.Words.{Answers, WereRefused}
use Rattle.stream_tool.specs.declared.usage.Usage.{Usage}
use Rattle.stream_tool.specs.declared.usage.Usage.TheVariants as usage

pub faults_are : (command : Command) (app : App) (words : List Text) (parse result : Result ArgMatches Error)
    → app_of command ≡ app → is_simple_and_free app ≡ true → (is_simple_and_free (app_of command) ≡ true → FailsBy (fault_of (app_of command) words) parse)
    → parse ≡ result → FailsBy (fault_of app words) result
faults_are command app words parse result is free fails same =
    subst (FailsBy (fault_of app words)) same
    (subst (λ (a : App). FailsBy (fault_of a words) parse) is (fails (ap is_simple_and_free is ∙ free)))

pub are_refused : (command : Command) (app : App) (words : List Text) (parse : Result ArgMatches Error) (error : Error) (why : Usage)
    → app_of command ≡ app → is_simple_and_free app ≡ true → (is_simple_and_free (app_of command) ≡ true → FailsBy (fault_of (app_of command) words) parse)
    → parse ≡ Err error → Answers (kind_of error) why → WereRefused app words why
are_refused command app words parse error why is free fails failed =
    cause why (faults_are command app words parse (Err error) is free fails failed)
  where
    cause : (u : Usage) → HasKind (fault_of app words) error → Answers (kind_of error) u → WereRefused app words u
    cause (usage.Help text) (inl memory) help =
        let bad : DisplayHelp ≡ OutOfMemory = sym help ∙ memory in
        cc
    cause (usage.Help text) (inr among) help =
        subst (λ (kind : ErrorKind). IsAmong kind (fault_of app words)) help among
    cause (usage.Words text) (inl memory) other = absurd (other.0 memory)
    cause (usage.Words text) (inr among) other = (kind_of error, other.1, among)
    cause usage.Memory has answers = tt
