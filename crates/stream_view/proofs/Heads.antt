-- What a buffer begins with, and what is added to it.
use Rattle.std.proofs.Common.{◌≡◌, ◌∙◌, ℕ, ◌+◌, ◌-◌, ◌<◌, ◌≤◌, ◌∷◌, [], ◌++◌, List, Bool, Option, None, Some, true, false, ap, subst, sym, get_or, length, take, append_assoc, arith}
use Rattle.std.specs.Prelude.{◌==◌, if◌then◌else◌, map}
use Rattle.std.proofs.lemmas.Bool.Decides.{nat_tests}
use Rattle.std.proofs.lemmas.List.{map_more, take_all}
use Rattle.stream_timeline.specs.declared.rows.choosing.Rows.{Rows}
use Rattle.term_text.specs.Columns.{columns_of}
use Rattle.term_text.specs.Fitted.{shown_characters}
use Rattle.stream_view.specs.Growth.{HasLines, HasMoreLines, lines_in}
use Rattle.stream_view.specs.LeftOut.{IsLeftOutAs, left_out_shown, left_out_words}
use Rattle.stream_view.specs.Lines.{text_line}
use Rattle.stream_view.specs.Texts.{IsHeadedBy}
use Rattle.stream_view.specs.declared.text.line.Line.{Line}
use Rattle.stream_view.specs.declared.text.line_buffer.LineBuffer.{LineBuffer}
use Rattle.stream_view.specs.declared.text.rendition.Rendition.TheVariants as rendition
use Rattle.stream_view.specs.declared.text.line_piece.LinePiece.{LinePiece}

-- ---- lines that a page has more

pub lines_then : (a b c : LineBuffer) (xs ys : List (List LinePiece)) → HasLines a b xs → HasLines b c ys → HasMoreLines a c
lines_then a b c xs ys first second whole =
    let later = second whole in
    let sooner = first later.0 in
    (sooner.0, (xs ++ ys, later.1 ∙ ap (λ (ls : List (List LinePiece)). ls ++ ys) sooner.1 ∙ append_assoc (lines_in a) xs ys))

-- a text more
pub texts_more : (first mid last : LineBuffer) (f : List ℕ → List LinePiece) (items : List (List ℕ)) (i : ℕ) (item : List ℕ) → i < length items
    → item ≡ get_or items i item → HasLines first mid (map f (take i items)) → HasLines mid last (f item ∷ [])
    → HasLines first last (map f (take (i + 1) items))
texts_more first mid last f items i item below is before more whole =
    let later = more whole in
    let sooner = before later.0 in
    let grown : map f (take i items) ++ f item ∷ [] ≡ map f (take (i + 1) items) =
    ap (λ (x : List ℕ). map f (take i items) ++ f x ∷ []) is ∙ sym (map_more f items i item below) in (
      sooner.0,
      later.1 ∙ ap (λ (ls : List (List LinePiece)). ls ++ f item ∷ []) sooner.1 ∙ append_assoc (lines_in first) (map f (take i items)) (f item ∷ [])
          ∙ ap (λ (ls : List (List LinePiece)). lines_in first ++ ls) grown,
    )

pub texts_all : (first last : LineBuffer) (f : List ℕ → List LinePiece) (items : List (List ℕ)) (i : ℕ) → length items ≤ i
    → HasLines first last (map f (take i items)) → HasLines first last (map f items)
texts_all first last f items i ends has = subst (λ (xs : List (List ℕ)). HasLines first last (map f xs)) (take_all i items ends) has

-- ---- what was done

pub headed : (width : ℕ) (heading : List ℕ) (old mid new : LineBuffer) → old.lines.items ≡ []
    → (columns_of heading ≤ width - 0 → HasLines old mid (text_line width 0 (Some rendition.Bold) heading ∷ [])) → HasMoreLines mid new
    → new.is_whole ≡ true → IsHeadedBy width heading (lines_in new)
headed width heading old mid new none given more whole fits =
    let later = more whole in
    let room : columns_of heading ≤ width - 0 = omega (arith, fits) in
    let line = text_line width 0 (Some rendition.Bold) heading in
    let first = given room later.0 in
    let only : lines_in mid ≡ line ∷ [] = first.1 ∙ ap (λ (ls : List Line). map (λ (l : Line). l.pieces.items) ls ++ line ∷ []) none in
    (later.1.0, later.1.1 ∙ ap (λ (ls : List (List LinePiece)). ls ++ later.1.0) only)

-- ---- what has no row

some_shown : (n : ℕ) (stated : List ℕ) → 1 ≤ n → (if n == 0 then None else Some stated) ≡ Some stated
some_shown n stated some =
    let test : (n == 0) ≡ false = grind (arith, nat_tests) in
    ap (λ (none : Bool). if none then None else Some stated) test

pub left_out_line : (width indent given : ℕ) (rows : Rows) (old new : LineBuffer) → 1 ≤ rows.left_out → given ≡ indent → old.lines.items ≡ []
    → (columns_of (shown_characters (left_out_words rows)) ≤ width - given
    → HasLines old new (text_line width given (Some rendition.Dim) (shown_characters (left_out_words rows)) ∷ []))
    → new.is_whole ≡ true → IsLeftOutAs width indent (left_out_shown rows) (lines_in new)
left_out_line width indent given rows old new some same none has whole =
    let stated = shown_characters (left_out_words rows) in
    let line = text_line width given (Some rendition.Dim) stated in
    subst (λ (s : Option (List ℕ)). IsLeftOutAs width indent s (lines_in new)) (sym (some_shown rows.left_out stated some))
    (subst (λ (n : ℕ). columns_of stated ≤ width - n → lines_in new ≡ text_line width n (Some rendition.Dim) stated ∷ []) same
    (λ fits. (has fits whole).1 ∙ ap (λ (ls : List Line). map (λ (l : Line). l.pieces.items) ls ++ line ∷ []) none))

pub left_out_none : (width indent : ℕ) (rows : Rows) (line_buffer : LineBuffer) → rows.left_out ≡ 0 → line_buffer.lines.items ≡ []
    → IsLeftOutAs width indent (left_out_shown rows) (lines_in line_buffer)
left_out_none width indent rows line_buffer left none =
    let stated = shown_characters (left_out_words rows) in
    let unsaid : left_out_shown rows ≡ None = ap (λ (n : ℕ). if n == 0 then None else Some stated) left in
    subst (λ (s : Option (List ℕ)). IsLeftOutAs width indent s (lines_in line_buffer)) (sym unsaid)
    (ap (λ (ls : List Line). map (λ (l : Line). l.pieces.items) ls) none)
