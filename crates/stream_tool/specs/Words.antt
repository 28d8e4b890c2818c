-- The arguments that tools share, and why arguments are refused.
use Rattle.std.specs.Prelude.{◌≡◌, ⊤, List, if◌then◌else◌, Option, Some, None, codes}
use Rattle.std.specs.Str.{bytes_eq}
use Rattle.clap.specs.Faults.{fault_of}
use Rattle.clap.specs.Kinds.{IsAmong}
use Rattle.clap.specs.Simple.{App, new_rule}
use Rattle.clap.specs.Walk.{Rule, Text}
use Rattle.clap.specs.declared.builder.action.ArgAction.TheVariants.{SetTrue}
use Rattle.clap.specs.declared.error.kind.ErrorKind.{ErrorKind}
use Rattle.clap.specs.declared.error.kind.ErrorKind.TheVariants.{DisplayHelp, OutOfMemory}
use Rattle.stream_tool.specs.declared.usage.Usage.{Usage}
use Rattle.stream_tool.specs.declared.usage.Usage.TheVariants as usage

-- `--NAME`, an option without a value
abbrev pub flag_rule : (name : Text) → Rule
flag_rule name = record (new_rule name) { long = Some name; action = Some SetTrue }

-- the argument `FILE`
abbrev pub file_rule : Rule
file_rule = record (new_rule (codes "file")) { value_names = 1 }

-- the name of the file; `-` names none
abbrev pub unless_dash : Option Text → Option Text
unless_dash None = None
unless_dash (Some name) = if bytes_eq name (codes "-") then None else Some name

-- the answer to an error of the parser: help if and only if help was asked for
abbrev pub Answers : ErrorKind → Usage → Type 0
Answers kind (usage.Help text) = kind ≡ DisplayHelp
Answers kind (usage.Words text) = (kind ≡ OutOfMemory → ⊥) × (kind ≡ DisplayHelp → ⊥)
Answers kind usage.Memory = ⊤

-- the arguments ask for help
abbrev pub AskForHelp : App → List Text → Type 0
AskForHelp app words = IsAmong DisplayHelp (fault_of app words)

-- the arguments do not fit the options of the command
abbrev pub WereNotAccepted : App → List Text → Type 0
WereNotAccepted app words = (kind : ErrorKind) × (kind ≡ DisplayHelp → ⊥) × IsAmong kind (fault_of app words)

-- why the arguments are refused: they ask for help, they do not fit, or memory was refused
abbrev pub WereRefused : App → List Text → Usage → Type 0
WereRefused app words (usage.Help text) = AskForHelp app words
WereRefused app words (usage.Words text) = WereNotAccepted app words
WereRefused app words usage.Memory = ⊤
