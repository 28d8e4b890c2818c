-- Keys as an address writes them.
use Rattle.apply_model.specs.declared.plan.key.Key.{Key}
use Rattle.apply_model.specs.declared.plan.key.Key.TheVariants as key
use Rattle.apply_address.specs.declared.key_text.KeyText.{KeyText}
use Rattle.apply_address.specs.declared.key_text.KeyText.TheVariants as written
use Rattle.apply_address.specs.declared.named.Named.{Named}
use Rattle.apply_address.specs.declared.last_part.LastPart.{LastPart}
use Rattle.apply_address.specs.Reading.{Last, NameAndKey, unescaped_in}

-- The instance key.
abbrev pub key_of : KeyText → Key
key_of written.None = key.None
key_of (written.Number number) = key.Number number
key_of (written.Quoted text) = key.Name (unescaped_in text.now)

-- A borrowed name with its key, by its texts.
abbrev pub named_view : Named → NameAndKey
named_view named = record { name = named.name.now; key = key_of named.key }

-- A borrowed last part, by its texts.
abbrev pub last_view : LastPart → Last
last_view last = record { kind_name = last.kind_name.now; named = named_view last.named }
