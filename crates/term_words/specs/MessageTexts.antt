-- Messages that are put together, as far as memory suffices.
use Rattle.std.specs.Prelude.{◌≡◌, ◌-◌, ◌++◌, ℕ, List, Bool, encode_utf8_all, replicate, true}
use Rattle.term_text.specs.Columns.{columns_of}
use Rattle.term_text.specs.Fitted.{shown_characters}
use Rattle.term_text.specs.Fitting.{fitted}
use Rattle.term_words.specs.declared.message_text.MessageText.{MessageText}

-- the bytes that were added
abbrev pub text_bytes : MessageText → List ℕ
text_bytes message = message.bytes.items

-- whether nothing was lost for want of memory
abbrev pub is_whole_text : MessageText → Bool
is_whole_text message = message.is_whole

-- unless memory was refused, the message has these words
abbrev pub HasText : MessageText → List ℕ → Type 0
HasText message words = is_whole_text message ≡ true → text_bytes message ≡ words

-- unless memory was refused, these words were added
abbrev pub AppendsText : (before after : MessageText) → List ℕ → Type 0
AppendsText before after words =
    is_whole_text after ≡ true → (is_whole_text before ≡ true) × (text_bytes after ≡ text_bytes before ++ words)

-- words as they are shown, fitted to `columns` columns
abbrev pub fitted_text : (columns : ℕ) → List ℕ → List ℕ
fitted_text columns words = encode_utf8_all (fitted columns (shown_characters words))

-- the blanks that fill `columns` columns with the words as they are shown
abbrev pub blanks_before : (columns : ℕ) → List ℕ → List ℕ
blanks_before columns words = replicate (columns - columns_of (shown_characters words)) 32

-- words, right in `columns` columns
abbrev pub right_text : (columns : ℕ) → List ℕ → List ℕ
right_text columns words = blanks_before columns words ++ words
