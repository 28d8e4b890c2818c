-- What was written, with more of it.
use Rattle.std.proofs.Common.{◌≡◌, ◌∙◌, ℕ, ◌+◌, ◌<◌, ◌≤◌, ◌∷◌, [], ◌++◌, List, Bool, Option, ap, false, refl, subst, sym, get_or, length, take, append-nil, arith}
use Rattle.std.specs.Prelude.{All, map}
use Rattle.std.specs.List.{AllZip, flat_map}
use Rattle.std.specs.Io.KnownBytes.{Appends, Keeps}
use Rattle.std.proofs.KnownBytes.{Appends-kept, Appends-nil, Appends-trans}
use Rattle.std.proofs.lemmas.Grind.{flat_map-append}
use Rattle.std.proofs.lemmas.List.{map-append, map_more, take_all, take_more}
use Rattle.std.proofs.lemmas.List.Elements.{All-append}
use Rattle.stream_timeline.specs.declared.rows.choosing.Rows.{Rows}
use Rattle.stream_view.specs.LeftOut.{IsLeftOutAs, left_out_shown}
use Rattle.stream_view.specs.Lines.{IsLine, LinesWritten, line_bytes, text_bytes}
use Rattle.stream_view.specs.Markdown.{InsideWritten}
use Rattle.stream_view.specs.Rows.{AreTicks, Layout, layout_of, row_at, rows_of}
use Rattle.stream_view.specs.Texts.{HeadLinesWritten, IsHeadedBy, LeftOutWritten, RowsWritten, TextWritten, heading_characters, indent_of}
use Rattle.stream_view.specs.declared.picture.Picture.{Picture}
use Rattle.stream_view.specs.declared.text.line.Line.{Line}
use Rattle.stream_view.specs.declared.text.line_piece.LinePiece.{LinePiece}
use Rattle.stream_view.specs.declared.text.line_buffer.Style.{Style}

-- ---- one element more

pub flat_map-more : {X A : Type 0} (f : X → List A) (xs : List X) (i : ℕ) (x : X) → i < length xs → x ≡ get_or xs i x
    → flat_map f (take (i + 1) xs) ≡ flat_map f (take i xs) ++ f x
flat_map-more f xs i x below is =
    ap (flat_map f) (take_more xs i x below) ∙ flat_map-append f (take i xs) (get_or xs i x ∷ [])
    ∙ ap (λ bs. flat_map f (take i xs) ++ bs) (append-nil (f (get_or xs i x)) ∙ ap f (sym is))

pub text-more : (colour : Bool) (lines : List Line) (i : ℕ) (line : Line) → i < length lines → line ≡ get_or lines i line
    → text_bytes colour (map (λ (l : Line). l.pieces.items) (take (i + 1) lines))
    ≡ text_bytes colour (map (λ (l : Line). l.pieces.items) (take i lines)) ++ line_bytes colour line.pieces.items
text-more colour lines i line below is =
    let pieces : Line → List LinePiece = λ (l : Line). l.pieces.items in
    ap (λ ls. text_bytes colour (map pieces ls)) (take_more lines i line below)
    ∙ ap (text_bytes colour) (map-append pieces (take i lines) (get_or lines i line ∷ []))
    ∙ flat_map-append (line_bytes colour) (map pieces (take i lines)) (pieces (get_or lines i line) ∷ [])
    ∙ ap (λ bs. text_bytes colour (map pieces (take i lines)) ++ bs)
    (append-nil (line_bytes colour (pieces (get_or lines i line))) ∙ ap (λ l. line_bytes colour (pieces l)) (sym is))

pub line-sent : (colour : Bool) (lines : List Line) (i : ℕ) (line : Line) (a b c : Option (List ℕ)) → i < length lines → line ≡ get_or lines i line
    → Appends a b (text_bytes colour (map (λ (l : Line). l.pieces.items) (take i lines)))
    → Appends b c (line_bytes colour line.pieces.items)
    → Appends a c (text_bytes colour (map (λ (l : Line). l.pieces.items) (take (i + 1) lines)))
line-sent colour lines i line a b c below is before more =
    subst (Appends a c) (sym (text-more colour lines i line below is)) (Appends-trans a b c _ _ before more)

-- ---- two lists, place by place

pub zip_push : {A B : Type 0} (R : A → B → Type 0) (xs : List A) (ys : List B) (x : A) (y : B) → AllZip R xs ys → R x y
    → AllZip R (xs ++ x ∷ []) (ys ++ y ∷ [])
zip_push R [] [] x y all one = (one, tt)
zip_push R [] (z ∷ zs) x y all one = absurd all
zip_push R (w ∷ ws) [] x y all one = absurd all
zip_push R (w ∷ ws) (z ∷ zs) x y all one = (all.0, zip_push R ws zs x y all.1 one)

pub zip_more : {A B : Type 0} (R : A → B → Type 0) (xs : List A) (i : ℕ) (d : A) (ys : List B) (y : B) → i < length xs
    → AllZip R (take i xs) ys → R (get_or xs i d) y → AllZip R (take (i + 1) xs) (ys ++ y ∷ [])
zip_more R xs i d ys y below all one =
    subst (λ zs. AllZip R zs (ys ++ y ∷ [])) (sym (take_more xs i d below)) (zip_push R (take i xs) ys (get_or xs i d) y all one)

-- ---- lines

pub no_rows : (width : ℕ) (colour : Bool) (picture : Picture) (ticks : List ℕ) (a : Option (List ℕ)) → RowsWritten width colour picture ticks [] a a
no_rows width colour picture ticks a = record { fine = λ k d below. absurd (omega (arith, below)); written = Appends-nil a }

-- what is so of each of some lines and of one more
all-more : (P : List LinePiece → Type 0) (lines : List (List LinePiece)) (line : List LinePiece) → All P lines → P line → All P (lines ++ line ∷ [])
all-more P lines line all one = All-append P lines (line ∷ []) all (λ k d below. let zero : k ≡ 0 = omega (arith, below) in rw zero one)

pub row_more : (width : ℕ) (colour : Bool) (picture : Picture) (ticks places : List ℕ) (i : ℕ) (a b c : Option (List ℕ)) (row : List LinePiece)
    → i < length places → RowsWritten width colour picture ticks (take i places) a b → row ≡ row_at width picture ticks (get_or places i 0)
    → IsLine width row → Appends b c (line_bytes colour row) → RowsWritten width colour picture ticks (take (i + 1) places) a c
row_more width colour picture ticks places i a b c row below before is fine more =
    let rows = map (row_at width picture ticks) (take i places) in
    let grown : map (row_at width picture ticks) (take (i + 1) places) ≡ rows ++ row ∷ [] =
    map_more (row_at width picture ticks) places i 0 below ∙ ap (λ r. rows ++ r ∷ []) (sym is) in
    let one : text_bytes colour (row ∷ []) ≡ line_bytes colour row = append-nil (line_bytes colour row) in
    let bytes : text_bytes colour (map (row_at width picture ticks) (take (i + 1) places)) ≡ text_bytes colour rows ++ line_bytes colour row =
    ap (text_bytes colour) grown ∙ flat_map-append (line_bytes colour) rows (row ∷ []) ∙ ap (λ bs. text_bytes colour rows ++ bs) one in
    record {
      fine = subst (All (IsLine width)) (sym grown) (all-more (IsLine width) rows row before.fine fine);
      written = subst (Appends a c) (sym bytes) (Appends-trans a b c _ _ before.written more);
    }

-- all of them
pub rows_all : (width : ℕ) (colour : Bool) (picture : Picture) (ticks places items : List ℕ) (i : ℕ) (a b : Option (List ℕ)) → items ≡ places
    → length items ≤ i → RowsWritten width colour picture ticks (take i items) a b → RowsWritten width colour picture ticks places a b
rows_all width colour picture ticks places items i a b are ends rows =
    subst (λ ps. RowsWritten width colour picture ticks ps a b) (take_all i items ends ∙ are) rows

-- lines of a buffer of that style
pub buffer_written : (style : Style) (a b : Option (List ℕ)) (lines : List (List LinePiece)) (had : Style) → had ≡ style → All (IsLine had.width) lines
    → Appends a b (text_bytes had.has_colour lines) → LinesWritten style.width style.has_colour a b
buffer_written style a b lines had is fine sent = record {
  lines = lines;
  fine = subst (λ (s : Style). All (IsLine s.width) lines) is fine;
  written = subst (λ (s : Style). Appends a b (text_bytes s.has_colour lines)) is sent;
}

pub head_buffer_written : (style : Style) (picture : Picture) (a b : Option (List ℕ)) (lines : List (List LinePiece)) (had : Style) → had ≡ style
    → All (IsLine had.width) lines → Appends a b (text_bytes had.has_colour lines) → IsHeadedBy style.width (heading_characters picture) lines
    → HeadLinesWritten style.width style.has_colour picture a b
unfolding buffer_written
head_buffer_written style picture a b lines had is fine sent headed =
    let line_buffer = buffer_written style a b lines had is fine sent in
    record { lines = lines; headed = headed; fine = line_buffer.fine; written = line_buffer.written }

pub left_out_written : (style : Style) (indent : ℕ) (rows : Rows) (a b : Option (List ℕ)) (lines : List (List LinePiece)) (had : Style) → had ≡ style
    → All (IsLine had.width) lines → Appends a b (text_bytes had.has_colour lines) → IsLeftOutAs had.width indent (left_out_shown rows) lines
    → LeftOutWritten style.width style.has_colour indent rows a b
unfolding buffer_written
left_out_written style indent rows a b lines had is fine sent same_parts =
    let line_buffer = buffer_written style a b lines had is fine sent in
    record {
      lines = lines;
      is = subst (λ (s : Style). IsLeftOutAs s.width indent (left_out_shown rows) lines) is same_parts;
      fine = line_buffer.fine;
      written = line_buffer.written;
    }

-- some lines, the rows, the line about the steps without a row, and more lines
record AreJoined (width : ℕ) (colour : Bool) (lines : List (List LinePiece)) (a b : Option (List ℕ)) : Type 0 where
  fine : All (IsLine width) lines
  written : Appends a b (text_bytes colour lines)

joined : (width : ℕ) (colour : Bool) (indent : ℕ) (picture : Picture) (ticks : List ℕ) (a b c d e : Option (List ℕ)) (head : LinesWritten width colour a b)
    → RowsWritten width colour picture ticks picture.rows.places.items b c → (left : LeftOutWritten width colour indent picture.rows c d)
    → (tail : LinesWritten width colour d e) → AreJoined width colour (head.lines ++ rows_of width picture ticks ++ left.lines ++ tail.lines) a e
joined width colour indent picture ticks a b c d e head written left tail =
    let rows = rows_of width picture ticks in
    let bytes : List (List LinePiece) → List ℕ = text_bytes colour in
    let together : bytes (head.lines ++ rows ++ left.lines ++ tail.lines) ≡ bytes head.lines ++ bytes rows ++ bytes left.lines ++ bytes tail.lines =
    flat_map-append (line_bytes colour) (head.lines ++ rows ++ left.lines) tail.lines
    ∙ ap (λ bs. bs ++ bytes tail.lines) (flat_map-append (line_bytes colour) (head.lines ++ rows) left.lines
    ∙ ap (λ bs. bs ++ bytes left.lines) (flat_map-append (line_bytes colour) head.lines rows)) in
    record {
      fine = All-append (IsLine width) (head.lines ++ rows ++ left.lines) tail.lines (All-append (IsLine width) (head.lines ++ rows) left.lines
          (All-append (IsLine width) head.lines rows head.fine written.fine) left.fine) tail.fine;
      written = subst (Appends a e) (sym together)
          (Appends-trans a d e _ _ (Appends-trans a c d _ _ (Appends-trans a b c _ _ head.written written.written) left.written) tail.written);
    }

-- the indent of the line about the steps without a row
left_out_at : (width : ℕ) (layout : Layout) (picture : Picture) (lines : List (List LinePiece)) → layout ≡ layout_of width picture
    → IsLeftOutAs width (layout.action + 1) (left_out_shown picture.rows) lines → IsLeftOutAs width (indent_of width picture) (left_out_shown picture.rows) lines
left_out_at width layout picture lines same is = subst (λ (l : Layout). IsLeftOutAs width (l.action + 1) (left_out_shown picture.rows) lines) same is

-- a head, the rows, what has none, and a tail
pub text_written : (width : ℕ) (colour : Bool) (layout : Layout) (picture : Picture) (ticks : List ℕ) (a b c d e f : Option (List ℕ))
    → layout ≡ layout_of width picture → AreTicks (layout_of width picture) ticks → HeadLinesWritten width colour picture a b
    → RowsWritten width colour picture ticks picture.rows.places.items b c → LeftOutWritten width colour (layout.action + 1) picture.rows c d
    → LinesWritten width colour d e → Keeps e f → TextWritten width colour picture a f
text_written width colour layout picture ticks a b c d e f same are_ticks head written left tail unchanged =
    let above : LinesWritten width colour a b = record { lines = head.lines; fine = head.fine; written = head.written } in
    let all = joined width colour (layout.action + 1) picture ticks a b c d e above written left tail in
    record {
      head = head.lines;
      ticks = ticks;
      left_out = left.lines;
      tail = tail.lines;
      headed = head.headed;
      are_ticks = are_ticks;
      is_left_out = left_out_at width layout picture left.lines same left.is;
      fine = all.fine;
      written = Appends-kept a e f _ all.written unchanged;
    }

-- the same without a heading, in Markdown
pub inside_written : (layout : Layout) (picture : Picture) (ticks : List ℕ) (a b c d e : Option (List ℕ)) → layout ≡ layout_of 100 picture
    → AreTicks (layout_of 100 picture) ticks → LinesWritten 100 false a b → RowsWritten 100 false picture ticks picture.rows.places.items b c
    → LeftOutWritten 100 false (layout.action + 1) picture.rows c d → LinesWritten 100 false d e → InsideWritten picture a e
inside_written layout picture ticks a b c d e same are_ticks head written left tail =
    let all = joined 100 false (layout.action + 1) picture ticks a b c d e head written left tail in
    let lines = head.lines ++ rows_of 100 picture ticks ++ left.lines ++ tail.lines in
    record {
      inside = text_bytes false lines;
      is = record {
        head = head.lines;
        ticks = ticks;
        left_out = left.lines;
        tail = tail.lines;
        are_ticks = are_ticks;
        is_left_out = left_out_at 100 layout picture left.lines same left.is;
        fine = all.fine;
        is = refl;
      };
      written = all.written;
    }

pub as_lines : (width : ℕ) (colour : Bool) (picture : Picture) (a b : Option (List ℕ)) → TextWritten width colour picture a b
    → LinesWritten width colour a b
as_lines width colour picture a b text =
    record { lines = text.head ++ rows_of width picture text.ticks ++ text.left_out ++ text.tail; fine = text.fine; written = text.written }
