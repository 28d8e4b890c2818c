-- Why a tool did not run.
use Rattle.std.proofs.Common.{◌≡◌, ◌⊎◌, ◌∙◌, ℕ, List, [], true, Option, ap, inl, inr, sym}
use Rattle.std.specs.Prelude.{IsSome}
use Rattle.std.proofs.KnownBytes.{Keeps-refl}
use Rattle.clap.specs.Faults.{fault_of}
use Rattle.clap.specs.Simple.{App, matches_of}
use Rattle.clap.specs.Walk.{Row, Text}
use Rattle.stream_tool.specs.Arguments.{Arguments, State, StateNone}
use Rattle.stream_tool.specs.Refused.{IsRefusal}
use Rattle.stream_tool.specs.Running.{HasNotRun}
use Rattle.stream_tool.specs.Words.{WereRefused}
use Rattle.stream_tool.specs.declared.usage.Usage.{Usage}
use Rattle.stream_tool.specs.declared.usage.Usage.TheVariants as usage

-- the parser refuses the arguments
pub parser_refuses : {S : Type 0} (arguments : Arguments S) (words : List Text) (app : App) (why : Usage) → arguments.IsCommand app
    → WereRefused app words why → StateNone arguments words why
parser_refuses arguments words app (usage.Help text) is refused = (app, is, refused)
parser_refuses arguments words app (usage.Words text) is refused = (app, is, inl refused)
parser_refuses arguments words app usage.Memory is refused = tt

-- options exclude each other
pub conflict_refuses : {S : Type 0} (arguments : Arguments S) (words : List Text) (app : App) (rows : List Row) (why : Usage) → arguments.IsCommand app
    → (fault_of app words ≡ []) × (rows ≡ matches_of app words) → arguments.are_conflicting rows ≡ true → IsRefusal why → StateNone arguments words why
conflict_refuses arguments words app rows (usage.Help text) is accepted conflicting refusal = absurd refusal
conflict_refuses arguments words app rows (usage.Words text) is accepted conflicting refusal =
    (app, is, inr (accepted.0, ap arguments.are_conflicting (sym accepted.1) ∙ conflicting))
conflict_refuses arguments words app rows usage.Memory is accepted conflicting refusal = tt

-- the file can't be opened
pub not_opened : {S A : Type 0} (arguments : Arguments S) (settings : S) (name : A) (words : List Text) (held : Option (List ℕ)) (status : ℕ)
    → State arguments words settings → IsSome (arguments.file settings) → (status ≡ 2) ⊎ (status ≡ 3) → HasNotRun arguments words held held status
not_opened arguments settings name words held status stated named (inl two) =
    inr (inl (two, Keeps-refl held, inr (record { settings = settings; stated = stated; named = named })))
not_opened arguments settings name words held status stated named (inr three) = inr (inr (three, Keeps-refl held))
