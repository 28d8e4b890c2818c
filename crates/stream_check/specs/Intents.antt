-- What a plan intends for an object.
use Rattle.std.specs.Prelude.{Bool, true, false}
use Rattle.stream_check.specs.declared.messages.intent.Intent.{Intent}
use Rattle.stream_check.specs.declared.messages.intent.Intent.TheVariants.{Create, Update, Delete, Replace, Nothing}
use Rattle.stream_check.specs.Message.{Message, planned}

abbrev pub creates : Intent → Bool
creates Create = true
creates Update = false
creates Delete = false
creates Replace = true
creates Nothing = false

abbrev pub updates : Intent → Bool
updates Create = false
updates Update = true
updates Delete = false
updates Replace = false
updates Nothing = false

abbrev pub deletes : Intent → Bool
deletes Create = false
deletes Update = false
deletes Delete = true
deletes Replace = true
deletes Nothing = false

-- the intent of a message
abbrev pub intent_of : Message → Intent
intent_of (planned intent address) = intent
intent_of _ = Nothing
