-- What a tool does, from its arguments to its exit status.
use Rattle.std.specs.Prelude.{◌≡◌, ◌⊎◌, ℕ, List, Bool, true, Option, Some, None, IsSome, OnOk}
use Rattle.std.specs.Io.KnownBytes.{IsAtEnd, Keeps}
use Rattle.clap.specs.Walk.{Text}
use Rattle.stream_tool.specs.Arguments.{Arguments, AreWrong, ByCommand, State}
use Rattle.stream_tool.specs.Words.{AskForHelp}
use Rattle.stream_tool.specs.declared.outcome.Outcome.{Outcome}

-- The bytes that the tool reads: those of the input where no file is named, else those of an opened
-- file.
abbrev pub IsGivenBy : {A File : Type 0} → (remaining : File → Option (List ℕ)) → (input : Option (List ℕ)) → (name : Option A)
    → (given : Option (List ℕ)) → Type 0
IsGivenBy remaining input None given = given ≡ input
IsGivenBy {File = File} remaining input (Some name) given = (file : File) × (given ≡ remaining file)

-- there is a value, and this holds of it
abbrev pub OnValue : {A : Type 0} → Option A → (A → Type 0) → Type 0
OnValue None Holds = ⊥
OnValue (Some a) Holds = Holds a

-- What a tool gives for some bytes: `Gives settings given before after answer status` relates the
-- bytes that it read, those of the output before and after, the answer and the exit status.
abbrev pub Giving : (S A : Type 0) → Type 1
Giving S A = S → (given before after : Option (List ℕ)) → A → (status : ℕ) → Type 0

-- The arguments were accepted, and the tool ran on the input, or on the file that they name.
-- `remaining` gives the bytes of a file. Where the answer demands it, the input was read to its
-- end; `left` is what is left of the input. With a file, nothing of the input was read.
pub record HasRun {S A File : Type 0} (arguments : Arguments S) (Gives : Giving S A) (reads_on : A → Bool) (remaining : File → Option (List ℕ))
    (words : List Text) (input left before after : Option (List ℕ)) (outcome : Outcome A) (answer : A) : Type 0 where
  pub settings : S
  pub stated : State arguments words settings
  pub given : Option (List ℕ)
  pub is_given : IsGivenBy remaining input (arguments.file settings) given
  pub gives : Gives settings given before after answer outcome.status
  pub read : arguments.file settings ≡ None → reads_on answer ≡ true → OnOk outcome.rest (IsAtEnd left)
  pub unread : IsSome (arguments.file settings) → left ≡ input

-- the arguments name a file
pub record NameAFile {S : Type 0} (arguments : Arguments S) (words : List Text) : Type 0 where
  pub settings : S
  pub stated : State arguments words settings
  pub named : IsSome (arguments.file settings)

-- The tool did not run. Status 0: help was asked for. Status 2: the arguments are wrong, or their
-- file could not be opened; the output is unchanged. Status 3: memory was refused; the output is
-- unchanged.
abbrev pub HasNotRun : {S : Type 0} → Arguments S → (words : List Text) → (before after : Option (List ℕ)) → (status : ℕ) → Type 0
HasNotRun arguments words before after status =
    ((status ≡ 0) × ByCommand arguments (λ app. AskForHelp app words))
    ⊎ ((status ≡ 2) × Keeps before after × (ByCommand arguments (AreWrong arguments words) ⊎ NameAFile arguments words))
    ⊎ ((status ≡ 3) × Keeps before after)
