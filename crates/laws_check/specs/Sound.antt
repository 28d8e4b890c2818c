-- JSON values that are read back from their texts: each string is UTF-8, and each number is an
-- integer of 64 bits.
use Rattle.std.specs.Prelude.{◌<◌, ◌≤◌, ◌^◌, List, length, pos, negsuc, IsUtf8, ⊤}
use Rattle.std.specs.List.{AllByRecursion}
use Rattle.serde_json.specs.Data.{Num, unsigned, negative, float, Data, null, boolean, number, string, array, object, Items, no_items, item, Members, no_members, member}
use Rattle.serde_json.specs.Written.{compact_text}
use Rattle.stream_lines.specs.Limits.{max_bytes}

-- the number is an integer of 64 bits
abbrev pub FitsBits : Num → Type 0
FitsBits (unsigned n) = n < 2 ^ 64
FitsBits (negative (pos n)) = ⊥
FitsBits (negative (negsuc n)) = n < 2 ^ 63
FitsBits (float x) = ⊥

abbrev mutual
  pub IsSound : Data → Type 0
  IsSound null = ⊤
  IsSound (boolean b) = ⊤
  IsSound (number n) = FitsBits n
  IsSound (string s) = IsUtf8 s
  IsSound (array ds) = AreSoundItems ds
  IsSound (object ms) = AreSoundMembers ms

  pub AreSoundItems : Items → Type 0
  AreSoundItems no_items = ⊤
  AreSoundItems (item d ds) = IsSound d × AreSoundItems ds

  pub AreSoundMembers : Members → Type 0
  AreSoundMembers no_members = ⊤
  AreSoundMembers (member k d ms) = IsUtf8 k × IsSound d × AreSoundMembers ms

-- the line of the object is no longer than a line may be
abbrev pub IsShort : Data → Type 0
IsShort d = length (compact_text d) ≤ max_bytes

-- The objects are read back from their texts: no string is damaged, no number is too great, and no
-- line is too long.
pub record CanBeRead (objects : List Data) : Type 0 where
  pub sound : AllByRecursion IsSound objects
  pub short : AllByRecursion IsShort objects
