-- The version: which words ask for it, and the answer.
use Rattle.std.specs.Prelude.{◌≡◌, ◌<◌, ◌⊎◌, ◌++◌, ℕ, List, [], ◌∷◌, codes}
use Rattle.std.specs.Io.KnownBytes.{Appends}
use mathlib.Core.List.{IsPrefix}
use Rattle.clap.specs.Walk.{Text}
use Rattle.clap.specs.declared.error.kind.ErrorKind.TheVariants.{DisplayVersion}
use Rattle.apply_run.specs.Run.{SinkState}
use Rattle.apply_cli_args.specs.CommandLine.{AskAlone, AskForVersionToo}
use Rattle.apply_cli_args.specs.declared.version.TheConstants.{VERSION}

-- one of two words, and no other
abbrev pub AskForVersion : List Text → Type 0
AskForVersion words = (words ≡ codes "--version" ∷ []) ⊎ (words ≡ codes "-V" ∷ [])

-- `clap` reads the words as a question for the version, and nothing else is wrong with them
abbrev pub AskForVersionAlone : List Text → Type 0
AskForVersionAlone words = AskAlone DisplayVersion words

-- the name of the program, the version, and a line feed
abbrev pub version_line : List ℕ
version_line = codes "applystream " ++ VERSION.now ++ codes "\n"

-- all of the bytes were written after those that the output had, and nothing has failed
abbrev pub IsWritten : (before after : SinkState) → (bytes : List ℕ) → Type 0
IsWritten before after bytes = Appends before.bytes after.bytes bytes × (after.failed ≡ before.failed)

-- a prefix of the bytes was written, and a write or a flush has failed
pub record IsWrittenInPart (before after : SinkState) (bytes : List ℕ) : Type 0 where
  pub part : List ℕ
  pub is_prefix : IsPrefix part bytes
  pub appended : Appends before.bytes after.bytes part
  pub failed : before.failed < after.failed

-- the line of the version was written with status 0, or cut off with status 3
abbrev pub WasAnswered : (before after : SinkState) → (status : ℕ) → Type 0
WasAnswered before after status =
    ((status ≡ 0) × IsWritten before after version_line) ⊎ ((status ≡ 3) × IsWrittenInPart before after version_line)

-- the words ask for the version, among other things, and it was answered
abbrev pub WereAnsweredVersion : List Text → (before after : SinkState) → (status : ℕ) → Type 0
WereAnsweredVersion words before after status =
    (AskForVersion words ⊎ AskForVersionToo words) × WasAnswered before after status
