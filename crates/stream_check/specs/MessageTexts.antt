-- The text of a message that is built, as long as memory suffices, for private clauses.
use Rattle.std.specs.Prelude.{◌≡◌, ◌++◌, ℕ, List, string_bytes, true}
use Rattle.stream_check.specs.declared.command.message_text.MessageText.{MessageText}

abbrev pub HasText : MessageText → List ℕ → Type 0
HasText saying words = saying.is_whole ≡ true → string_bytes saying.text ≡ words

-- the text is appended
abbrev pub AppendsText : (before after : MessageText) → List ℕ → Type 0
AppendsText before after words = after.is_whole ≡ true → (before.is_whole ≡ true) × (string_bytes after.text ≡ string_bytes before.text ++ words)
