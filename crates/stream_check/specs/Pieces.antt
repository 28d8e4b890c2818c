-- The text of a line's message, for private clauses.
use Rattle.std.specs.Prelude.{ℕ, List, Bool, if◌then◌else◌, Option, Some, None, Result, Ok}
use Rattle.stream_check.specs.declared.rules.fault.Fault.{Fault}
use Rattle.stream_check.specs.declared.rules.fault.Fault.TheVariants.{NotJson}
use Rattle.stream_message.specs.Located.{from_mark, through_brace}
use Rattle.stream_check.specs.Results.{mapped, or_refuse}

-- the text up to the last closing brace; none where no message starts
abbrev pub piece_from : (from : Option (List ℕ)) → Result (Option (List ℕ)) Fault
piece_from None = Ok None
piece_from (Some text) = mapped Some (or_refuse NotJson (through_brace text))

-- the line, or the message located in it
abbrev pub piece_of : (find : Bool) → List ℕ → Result (Option (List ℕ)) Fault
piece_of find text = if find then piece_from (from_mark text) else Ok (Some text)
