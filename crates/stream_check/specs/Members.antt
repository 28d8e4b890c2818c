-- The members that messages of known types need, and the first fault of a member.
use Rattle.std.specs.Prelude.{ℕ, List, if◌then◌else◌, Option, None, is_some, Result, Ok, Err}
use Rattle.std.specs.Option.{option_map_or}
use Rattle.serde_json.specs.Data.{Data}
use Rattle.serde_json.specs.Find.{as_number, as_object, as_str, as_u64, get}
use Rattle.stream_check.specs.declared.messages.member_fault.MemberFault.TheVariants.{Missing, NoObject, NoText, NoWholeNumber}
use Rattle.stream_check.specs.declared.messages.path.Path.{Path}
use Rattle.stream_check.specs.declared.rules.fault.Fault.{Fault}
use Rattle.stream_check.specs.declared.rules.fault.Fault.TheVariants.{Malformed}
use Rattle.stream_check.specs.Results.{◌>>=◌, or_refuse}

-- the value, which must be present, also as `null`
abbrev pub there : Path → Option Data → Result Data Fault
there member found = or_refuse (Malformed member Missing) found

-- the value, which must be an object
abbrev pub as_container : Path → Data → Result Data Fault
as_container container d = if is_some (as_object d) then Ok d else Err (Malformed container NoObject)

-- the object that holds the member; without the object, the member is missing
abbrev pub object_at : (member : Path) → (name : List ℕ) → (container : Path) → Data → Result Data Fault
object_at member name container d = there member (get name d) >>= as_container container

-- the text of that name, which is required
abbrev pub text_at : (member : Path) → (name : List ℕ) → Data → Result (List ℕ) Fault
text_at member name d = there member (get name d) >>= λ found. or_refuse (Malformed member NoText) (as_str found)

-- a number from 0 to 2^64 - 1, without sign, point or exponent
abbrev pub whole_number : Data → Option ℕ
whole_number d = option_map_or as_u64 (as_number d) None

-- the whole number of that name, which is required
abbrev pub count_at : (member : Path) → (name : List ℕ) → Data → Result ℕ Fault
count_at member name d =
    there member (get name d) >>= λ found. or_refuse (Malformed member NoWholeNumber) (whole_number found)
