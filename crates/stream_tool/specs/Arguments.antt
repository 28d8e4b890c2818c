-- The arguments of a command: the settings that they state, or why they state none.
use Rattle.std.specs.Prelude.{◌≡◌, ◌⊎◌, ⊤, List, [], Bool, Option, false, true}
use Rattle.clap.specs.Faults.{fault_of}
use Rattle.clap.specs.Simple.{App, matches_of}
use Rattle.clap.specs.Walk.{Row, Text}
use Rattle.stream_tool.specs.Words.{AskForHelp, WereNotAccepted}
use Rattle.stream_tool.specs.declared.usage.Usage.{Usage}
use Rattle.stream_tool.specs.declared.usage.Usage.TheVariants as usage

-- how arguments state the settings `S`
pub record Arguments (S : Type 0) : Type 1 where
  -- the command has these options
  pub IsCommand : App → Type 0
  -- options were given that exclude each other
  pub are_conflicting : List Row → Bool
  -- each setting is the value of its own option
  pub AreStated : List Row → S → Type 0
  -- the file that the settings name
  pub file : S → Option Text

-- this holds of the command
abbrev pub ByCommand : {S : Type 0} → Arguments S → (App → Type 0) → Type 0
ByCommand arguments IsSo = (app : App) × arguments.IsCommand app × IsSo app

-- the arguments were accepted, and state these settings
pub record State {S : Type 0} (arguments : Arguments S) (words : List Text) (settings : S) : Type 0 where
  pub app : App
  pub is_command : arguments.IsCommand app
  pub accepted : fault_of app words ≡ []
  pub apart : arguments.are_conflicting (matches_of app words) ≡ false
  pub stated : arguments.AreStated (matches_of app words) settings

-- the arguments do not fit the options, or give options that exclude each other
abbrev pub AreWrong : {S : Type 0} → Arguments S → (words : List Text) → App → Type 0
AreWrong arguments words app =
    WereNotAccepted app words ⊎ ((fault_of app words ≡ []) × (arguments.are_conflicting (matches_of app words) ≡ true))

-- why the arguments state no settings: they ask for help, they are wrong, or memory was refused
abbrev pub StateNone : {S : Type 0} → Arguments S → (words : List Text) → Usage → Type 0
StateNone arguments words (usage.Help text) = ByCommand arguments (λ app. AskForHelp app words)
StateNone arguments words (usage.Words text) = ByCommand arguments (AreWrong arguments words)
StateNone arguments words usage.Memory = ⊤
