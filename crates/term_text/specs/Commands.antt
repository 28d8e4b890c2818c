-- Commands to the runners of jobs of GitHub, Azure Pipelines and TeamCity: `##`, letters and `[`,
-- wherever they stand in a line.
use Rattle.std.specs.Prelude.{ℕ, ◌≢◌, List, ◌++◌, Bool, true, false, ◌&&◌, ◌==◌, if◌then◌else◌, Option, Some, None, IsTrue, codes}
use Rattle.std.specs.Char.{is_ascii_alphabetic}
use Rattle.std.specs.List.{list_all}
use Rattle.term_text.specs.declared.command_start.CommandStart.{CommandStart}
use Rattle.term_text.specs.declared.command_start.CommandStart.TheVariants as command_start

-- The bytes hold no command: no `[` follows `##`, or `##` and letters.
abbrev pub HoldsNoCommand : List ℕ → Type 0
HoldsNoCommand bytes =
    (before name rest : List ℕ) → IsTrue (list_all is_ascii_alphabetic name) → bytes ≢ before ++ (codes "##" ++ (name ++ (codes "[" ++ rest)))

-- ---- how much of a command stands before a character

-- whether it is `##`, or `##` and letters
abbrev pub is_named : CommandStart → Bool
is_named command_start.Nothing = false
is_named command_start.OneHash = false
is_named command_start.TwoHashes = true
is_named command_start.Name = true

abbrev pub after_hash : CommandStart → CommandStart
after_hash command_start.Nothing = command_start.OneHash
after_hash command_start.OneHash = command_start.TwoHashes
after_hash command_start.TwoHashes = command_start.TwoHashes
after_hash command_start.Name = command_start.OneHash

abbrev pub after_character : CommandStart → ℕ → CommandStart
after_character start character =
    if character == 35 then after_hash start
    else if is_ascii_alphabetic character && is_named start then command_start.Name
    else command_start.Nothing

-- a byte that belongs to no character is part of no command
abbrev pub after_piece : CommandStart → Option ℕ → CommandStart
after_piece start None = command_start.Nothing
after_piece start (Some character) = after_character start character
