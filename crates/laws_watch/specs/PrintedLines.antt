-- Lines of text, and how they begin.
use Rattle.std.specs.Prelude.{◌≡◌, ◌⊎◌, ◌<◌, ◌+◌, ◌∷◌, ◌++◌, [], ℕ, Bool, List, All, encode_utf8, replicate}
use Rattle.std.specs.List.{flat_map}
use Rattle.std.specs.Str.{NoCharPasses}
use Rattle.term_text.specs.Commands.{HoldsNoCommand}
use Rattle.term_text.specs.Shown.{is_hidden}
use Rattle.stream_watch.specs.declared.looks.Looks.{Looks}

-- ---- how a line begins

-- with a digit behind blanks
pub record BeginsWithTime (line : List ℕ) : Type 0 where
  pub blanks : ℕ
  pub digit : ℕ
  pub rest : List ℕ
  pub is_digit : digit < 10
  pub is : line ≡ replicate blanks 32 ++ (48 + digit) ∷ rest

-- with `│` behind eight blanks
pub record BeginsWithBar (line : List ℕ) : Type 0 where
  pub rest : List ℕ
  pub is : line ≡ replicate 8 32 ++ encode_utf8 0x2502 ++ rest

-- with a time or with a bar
abbrev pub BeginsAsTold : (line : List ℕ) → Type 0
BeginsAsTold line = BeginsWithTime line ⊎ BeginsWithBar line

-- ---- lines

-- Nothing that is hidden stands in the line: no control character, and so no line feed. It holds no
-- command to a runner of jobs.
pub record IsPlain (line : List ℕ) : Type 0 where
  pub no_hidden : NoCharPasses is_hidden line
  pub no_command : HoldsNoCommand line

-- each line with its line feed
abbrev pub bytes_of_lines : List (List ℕ) → List ℕ
bytes_of_lines lines = flat_map (λ line. line ++ 10 ∷ []) lines

-- the bytes are plain lines, and each is as `P` says
pub record AreLines (P : List ℕ → Type 0) (bytes : List ℕ) : Type 0 where
  pub lines : List (List ℕ)
  pub plain : All IsPlain lines
  pub each : All P lines
  pub are : bytes ≡ bytes_of_lines lines

-- the bytes are a plain line with a time, and plain lines with a bar behind it
pub record AreTimedLines (bytes : List ℕ) : Type 0 where
  pub first : List ℕ
  pub rest : List ℕ
  pub plain : IsPlain first
  pub begins : BeginsWithTime first
  pub later : AreLines BeginsWithBar rest
  pub are : bytes ≡ first ++ 10 ∷ rest

-- the same looks, with colours or without
abbrev pub with_colour : (has_colour : Bool) → Looks → Looks
with_colour has_colour looks = record looks { has_colour = has_colour }
