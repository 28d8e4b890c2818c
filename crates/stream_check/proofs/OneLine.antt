-- One line by itself.
use Rattle.std.proofs.Common.{◌≡◌, ◌<◌, ◌≤◌, ℕ, List, ◌∷◌, length, Bool, Option, Some, None, Result, Ok, Err, true, false, ltb, refl, sym, ◌∙◌}
use Rattle.std.specs.Option.{option_map_or}
use Rattle.std.proofs.lemmas.Bool.{le-ltb, lt-ltb}
use Rattle.stream_check.specs.declared.rules.checker.Checker.{Checker}
use Rattle.stream_check.specs.declared.rules.fault.Fault.{Fault}
use Rattle.stream_check.specs.declared.rules.fault.Fault.TheVariants.{TooLong, NotJson}
use Rattle.stream_check.specs.Checking.{Continues, HasRead}
use Rattle.stream_message.specs.Located.{from_mark, through_brace}
use Rattle.stream_lines.specs.Limits.{max_bytes}
use Rattle.stream_check.specs.Lines.{as_first, after_version, located_message, line_message, next, read_line, read_text, text_message}
use Rattle.stream_check.specs.Message.{Message, foreign}
use Rattle.stream_check.specs.Pieces.{piece_from, piece_of}
use Rattle.stream_check.specs.Results.{◌>>=◌, mapped, or_refuse}
use Rattle.stream_check.specs.Tally.{is_version, line_of}

-- ---- a line that is passed over

foreign_anywhere : (version : Option ℕ) (ms : List Message) → option_map_or (λ first. after_version ms first foreign) version (as_first ms foreign) ≡ Ok (foreign ∷ ms)
foreign_anywhere None ms = refl
foreign_anywhere (Some line) ms = refl

pub next_foreign : (ms : List Message) → next ms foreign ≡ Ok (foreign ∷ ms)
next_foreign ms = foreign_anywhere (line_of is_version ms) ms

-- ---- the text of a message

pub of_text : (find : Bool) (text : List ℕ) (m : Message) (ms : List Message) → text_message find text ≡ Ok m → next ms m ≡ read_text find ms text
of_text find text m ms e = rw e refl

pub no_text : (find : Bool) (text : List ℕ) (fault : Fault) (ms : List Message) → text_message find text ≡ Err fault → read_text find ms text ≡ Err fault
no_text find text fault ms e = rw e refl

-- ---- a line

pub too_long : (find : Bool) (text : List ℕ) (ms : List Message) → max_bytes < length text → read_line find ms text ≡ Err TooLong
unfolding read_line line_message
too_long find text ms many =
    let more : ltb max_bytes (length text) ≡ true = lt-ltb _ _ many in
    rw more refl

-- what is read of a line, by the text of its message
abbrev pub read_piece : (find : Bool) → List Message → Result (Option (List ℕ)) Fault → Result (List Message) Fault
read_piece find ms (Ok None) = next ms foreign
read_piece find ms (Ok (Some piece)) = read_text find ms piece
read_piece find ms (Err fault) = Err fault

up_to_brace : (o : Option (List ℕ)) (ms : List Message) → read_piece true ms (mapped Some (or_refuse NotJson o)) ≡ ((or_refuse NotJson o >>= text_message true) >>= next ms)
up_to_brace None ms = refl
up_to_brace (Some piece) ms = refl

from_mark_on : (from : Option (List ℕ)) (ms : List Message) → read_piece true ms (piece_from from) ≡ (located_message from >>= next ms)
from_mark_on None ms = refl
from_mark_on (Some text) ms = up_to_brace (through_brace text) ms

pub piece_line : (find : Bool) (text : List ℕ) (ms : List Message) → length text ≤ max_bytes → read_piece find ms (piece_of find text) ≡ read_line find ms text
unfolding read_line line_message
piece_line true text ms few =
    let no_more : ltb max_bytes (length text) ≡ false = le-ltb _ _ few in
    rw no_more (from_mark_on (from_mark text) ms)
piece_line false text ms few =
    let no_more : ltb max_bytes (length text) ≡ false = le-ltb _ _ few in
    rw no_more refl

-- ---- answers

-- the same answer, for another function with the same values
pub continues_as : (old new : Checker) (f g : List Message → Result (List Message) Fault) (r : Result (Unit {0}) Fault) → ((ms : List Message) → f ms ≡ g ms) → Continues old new f r → Continues old new g r
continues_as old new f g (Ok done) same h = λ ms read. let k = h ms read in (k.0, sym (same ms) ∙ k.1, k.2)
continues_as old new f g (Err fault) same h = λ ms read. let k = h ms read in (k.0, λ memory. sym (same ms) ∙ k.1 memory)

-- the same answer, of a checker that holds what is needed of the same messages
pub continues_from : (old kept new : Checker) (f : List Message → Result (List Message) Fault) (r : Result (Unit {0}) Fault) → ((ms : List Message) → HasRead old ms → HasRead kept ms) → Continues kept new f r → Continues old new f r
continues_from old kept new f (Ok done) same h = λ ms read. h ms (same ms read)
continues_from old kept new f (Err fault) same h = λ ms read. h ms (same ms read)

-- the same answer, of a checker that is another one afterwards
pub continues_to : (old new kept : Checker) (f : List Message → Result (List Message) Fault) (r : Result (Unit {0}) Fault) → ((ms : List Message) → HasRead new ms → HasRead kept ms) → Continues old new f r → Continues old kept f r
continues_to old new kept f (Ok done) same h = λ ms read. let k = h ms read in (k.0, k.1, same k.0 k.2)
continues_to old new kept f (Err fault) same h = λ ms read. let k = h ms read in (same ms k.0, k.1)
