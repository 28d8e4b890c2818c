-- What is read of a text is what it is written of.
use Rattle.std.proofs.Common.{◌≡◌, ℕ, List, Option, Some, None, Result, Ok, Err, sym, ap, ◌∙◌}
use Rattle.std.specs.Prelude.{IfOk, IfSome, option_map}
use Rattle.std.specs.Str.{IsUtf8}
use Rattle.apply_address.specs.declared.address_parts.AddressParts.{AddressParts}
use Rattle.apply_address.specs.Address.{Address, IsAddress, parts_of, written}
use Rattle.apply_address.specs.Parts.{parts_view}
use Rattle.apply_address.specs.Reading.{parts_in}
use Rattle.apply_address.proofs.LocatedAddresses.{address_located}
use Rattle.apply_address.proofs.WrittenAddresses.{address_read}

-- the parts are those of an address that is written so
abbrev IsOfAddress : List ℕ → AddressParts → Type 0
IsOfAddress text parts = (address : Address) × IsAddress address × (text ≡ written address) × (parts_view parts ≡ parts_of address)

some_located : (text : List ℕ) (answer : Option AddressParts) → IsUtf8 text → option_map parts_view answer ≡ parts_in text → IfSome answer (IsOfAddress text)
some_located text None utf8 is = tt
some_located text (Some parts) utf8 is = address_located text (parts_view parts) utf8 (sym is)

pub all_located : {E : Type 0} (text : List ℕ) (r : Result (Option AddressParts) E) → IsUtf8 text → IfOk r (λ answer. option_map parts_view answer ≡ parts_in text)
    → IfOk r (λ answer. IfSome answer (IsOfAddress text))
all_located text (Ok answer) utf8 is = some_located text answer utf8 is
all_located text (Err e) utf8 is = tt

pub only_located : {E : Type 0} (text : List ℕ) (r : Result (Option AddressParts) E) → IfOk r (λ answer. option_map parts_view answer ≡ parts_in text)
    → IfOk r (λ answer. (address : Address) → IsAddress address → text ≡ written address → option_map parts_view answer ≡ Some (parts_of address))
only_located text (Ok answer) is = λ address fits same. is ∙ ap parts_in same ∙ address_read address fits
only_located text (Err e) is = tt
