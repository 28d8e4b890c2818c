use Rattle.std.proofs.Common.{◌≡◌, ◌==◌, ◌++◌, ◌∷◌, [], ℕ, List, ap, codes, false, length, refl, sym, ◌∙◌}
use Rattle.std.proofs.lemmas.Bool.{false≢true}
use Rattle.term_words.proofs.Appended.{text_as, text_then}
use Rattle.stream_watch.specs.Changes.{in_parentheses}
use Rattle.stream_watch.proofs.rows.planned.push_in_parentheses.Goals as goal

-- notes that are there stand in parentheses
in_parentheses_some : (notes : List ℕ) → (length notes == 0) ≡ false → codes " (" ++ notes ++ codes ")" ≡ in_parentheses notes
in_parentheses_some [] none = absurd (false≢true (sym none))
in_parentheses_some (byte ∷ bytes) some = refl

pub returns-then-not-is_empty : goal.returns-then-not-is_empty
returns-then-not-is_empty c = λ words has.
    let notes : c.args.notes.now.bytes.items ≡ words = has (sym c.is_whole.ensures ∙ c.if-not-is_whole.false) in
    let some : (length words == 0) ≡ false =
    ap (λ (bytes : List ℕ). length bytes == 0) (sym (c.as_bytes.ensures ∙ notes)) ∙ sym c.is_empty.ensures ∙ c.if-not-is_empty.true in
    let front = text_then c.args.text.now c.text.new.self c.add.new.self (codes " (") words c.text.ensures (c.add.ensures words has) in
    let whole = text_then c.args.text.now c.add.new.self c.text-then-not-is_empty.new.self (codes " (" ++ words) (codes ")") front c.text-then-not-is_empty.ensures in
    text_as c.args.text.now c.text-then-not-is_empty.new.self (codes " (" ++ words ++ codes ")") (in_parentheses words) (in_parentheses_some words some) whole
