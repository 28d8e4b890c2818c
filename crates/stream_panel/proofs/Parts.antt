-- The stretches and the lines of a panel, one after another.
use Rattle.std.proofs.Common.{◌≡◌, ◌≢◌, ◌∙◌, ◌+◌, ◌<◌, ◌++◌, ◌∷◌, [], ℕ, ℤ, Bool, List, Option, ap, append-nil, append_assoc, arith, get_or, length, map, refl, subst, sym, take}
use Rattle.std.specs.Prelude.{codes, encode_utf8_all, false, true, if◌then◌else◌, not}
use Rattle.std.specs.Str.{bytes_eq}
use Rattle.std.proofs.lemmas.Grind.{flat_map-append}
use Rattle.std.proofs.lemmas.List.{map-append, take_more}
use Rattle.term_words.proofs.Appended.{text_as, text_none}
use Rattle.term_text.specs.declared.rendition.Rendition.{Rendition}
use Rattle.term_words.specs.MessageTexts.{AppendsText, text_bytes}
use Rattle.term_words.specs.declared.message_text.MessageText.{MessageText}
use Rattle.stream_panel.specs.Bar.{bar_up_to}
use Rattle.stream_panel.specs.Canvases.{Draws, DrawsLines, EndsLine, width_in}
use Rattle.stream_panel.specs.Frames.{between_modes, unbroken_bytes}
use Rattle.stream_panel.specs.Rows.{to_words}
use Rattle.stream_panel.specs.Sizes.{age}
use Rattle.stream_panel.specs.Stretches.{Stretch, bytes_of, copies, line_bytes, panel_bytes, rendered, rendered_bytes, stretch_bytes}
use Rattle.stream_panel.specs.declared.canvas.Canvas.{Canvas}
use Rattle.stream_panel.proofs.Widths.{columns_in-append}

pub bytes_of-append : (has_colour : Bool) (xs ys : List Stretch) → bytes_of has_colour xs ++ bytes_of has_colour ys ≡ bytes_of has_colour (xs ++ ys)
unfolding bytes_of
bytes_of-append has_colour xs ys = sym (flat_map-append (stretch_bytes has_colour) xs ys)

-- ---- the line at hand

pub part_then : (a b c : Canvas) (has_colour : Bool) (xs ys : List Stretch) → Draws a b has_colour xs → Draws b c has_colour ys
    → Draws a c has_colour (xs ++ ys)
part_then a b c has_colour xs ys first second whole =
    let later = second whole in
    let sooner = first later.whole in
    record {
      whole = sooner.whole;
      text = later.text
          ∙ ap (λ (bytes : List ℕ). bytes ++ bytes_of has_colour ys) sooner.text
          ∙ append_assoc (text_bytes a.text) (bytes_of has_colour xs) (bytes_of has_colour ys)
          ∙ ap (λ (bytes : List ℕ). text_bytes a.text ++ bytes) (bytes_of-append has_colour xs ys);
      widths = later.widths ∙ sooner.widths;
      columns = omega (arith, later.columns, sooner.columns, columns_in-append xs ys);
    }

pub part_as : (a b : Canvas) (has_colour : Bool) (xs ys : List Stretch) → xs ≡ ys → Draws a b has_colour xs → Draws a b has_colour ys
part_as a b has_colour xs ys same more =
    let Draws_these : List Stretch → Type 0 = λ zs. Draws a b has_colour zs in
    subst Draws_these same more

pub copies_as : (a b : Canvas) (has_colour : Bool) (rendition : Option Rendition) (character m n : ℕ) → m ≡ n
    → Draws a b has_colour (copies rendition character m) → Draws a b has_colour (copies rendition character n)
copies_as a b has_colour rendition character m n same = part_as a b has_colour _ _ (ap (copies rendition character) same)

-- no characters are no stretch
pub stretch_none : (a : MessageText) (has_colour : Bool) (rendition : Option Rendition) (characters : List ℕ) → length characters ≡ 0
    → AppendsText a a (bytes_of has_colour (rendered rendition characters))
unfolding bytes_of
stretch_none a has_colour rendition [] none = text_none a
stretch_none a has_colour rendition (character ∷ characters) none = absurd (omega (arith, none))

pub stretch_some : (a b : MessageText) (has_colour : Bool) (rendition : Option Rendition) (characters : List ℕ) → length characters ≢ 0
    → AppendsText a b (rendered_bytes has_colour rendition (encode_utf8_all characters))
    → AppendsText a b (bytes_of has_colour (rendered rendition characters))
unfolding bytes_of
stretch_some a b has_colour rendition [] some more = absurd (some refl)
stretch_some a b has_colour rendition (character ∷ characters) some more =
    text_as a b _ _ (sym (append-nil (rendered_bytes has_colour rendition (encode_utf8_all (character ∷ characters))))) more

-- ---- lines

-- a line, and its end
pub line_then : (a b c : Canvas) (has_colour : Bool) (xs : List Stretch) → Draws a b has_colour xs → EndsLine b c
    → DrawsLines a c has_colour (xs ∷ [])
line_then a b c has_colour xs line end whole =
    let ended = end whole in
    let drawn = line ended.whole in
    record {
      whole = drawn.whole;
      text = ended.text
          ∙ ap (λ (bytes : List ℕ). bytes ++ 10 ∷ []) drawn.text
          ∙ append_assoc (text_bytes a.text) (bytes_of has_colour xs) (10 ∷ [])
          ∙ ap (λ (bytes : List ℕ). text_bytes a.text ++ bytes) (sym (append-nil (line_bytes has_colour xs)));
      widths = λ start.
          let known : b.columns ≡ width_in xs = omega (arith, drawn.columns, start) in
          ended.widths ∙ ap (λ (widths : List ℕ). widths ++ b.columns ∷ []) drawn.widths
          ∙ ap (λ (width : ℕ). a.widths.items ++ width ∷ []) known;
      columns = λ start. ended.columns;
    }

pub lines_then : (a b c : Canvas) (has_colour : Bool) (xs ys : List (List Stretch)) → DrawsLines a b has_colour xs → DrawsLines b c has_colour ys
    → DrawsLines a c has_colour (xs ++ ys)
lines_then a b c has_colour xs ys first second whole =
    let later = second whole in
    let sooner = first later.whole in
    record {
      whole = sooner.whole;
      text = later.text
          ∙ ap (λ (bytes : List ℕ). bytes ++ panel_bytes has_colour ys) sooner.text
          ∙ append_assoc (text_bytes a.text) (panel_bytes has_colour xs) (panel_bytes has_colour ys)
          ∙ ap (λ (bytes : List ℕ). text_bytes a.text ++ bytes) (sym (flat_map-append (line_bytes has_colour) xs ys));
      widths = λ start.
          later.widths (sooner.columns start)
          ∙ ap (λ (widths : List ℕ). widths ++ map width_in ys) (sooner.widths start)
          ∙ append_assoc a.widths.items (map width_in xs) (map width_in ys)
          ∙ ap (λ (widths : List ℕ). a.widths.items ++ widths) (sym (map-append width_in xs ys));
      columns = λ start. later.columns (sooner.columns start);
    }

pub lines_as : (a b : Canvas) (has_colour : Bool) (xs ys : List (List Stretch)) → xs ≡ ys → DrawsLines a b has_colour xs → DrawsLines a b has_colour ys
lines_as a b has_colour xs ys same more =
    let Draws_these : List (List Stretch) → Type 0 = λ zs. DrawsLines a b has_colour zs in
    subst Draws_these same more

-- no lines
pub lines_none : (a : Canvas) (has_colour : Bool) → DrawsLines a a has_colour []
lines_none a has_colour whole = record {
  whole = whole;
  text = sym (append-nil (text_bytes a.text));
  widths = λ start. sym (append-nil a.widths.items);
  columns = λ start. start;
}

-- one row more
pub map_take-more : {A B : Type 0} (f : A → B) (xs : List A) (i : ℕ) (x : A) → i < length xs → x ≡ get_or xs i x
    → map f (take i xs) ++ f x ∷ [] ≡ map f (take (i + 1) xs)
map_take-more f xs i x below is =
    ap (λ y. map f (take i xs) ++ f y ∷ []) is
    ∙ sym (map-append f (take i xs) (get_or xs i x ∷ []))
    ∙ sym (ap (map f) (take_more xs i x below))

-- ----

pub same_bar : (done ended begun done' ended' begun' cells : ℕ) → done ≡ done' → ended ≡ ended' → begun ≡ begun'
    → bar_up_to done ended begun cells ≡ bar_up_to done' ended' begun' cells
same_bar done ended begun done' ended' begun' cells first second third = cc

pub some_unbroken : (bytes : List ℕ) → length bytes ≢ 0 → between_modes bytes ≡ unbroken_bytes bytes
some_unbroken [] some = absurd (some refl)
some_unbroken (byte ∷ bytes) some = refl

pub not_true : (b : Bool) → not b ≡ true → b ≡ false
not_true b is = elim b as (λ v. not v ≡ true → v ≡ false) [ true ↦ λ h. sym h | false ↦ λ h. refl ] is

pub not_false : (b : Bool) → not b ≡ false → b ≡ true
not_false b is = elim b as (λ v. not v ≡ false → v ≡ true) [ true ↦ λ h. refl | false ↦ λ h. sym h ] is

-- where the times differ
pub longer_words : (a b shorter longer : List ℕ) → a ≡ shorter → b ≡ longer → bytes_eq a b ≡ false → codes " to " ++ longer ≡ to_words shorter longer
longer_words a b shorter longer first second differ =
    let no : bytes_eq shorter longer ≡ false = cc in
    sym (ap (λ (alike : Bool). if alike then [] else codes " to " ++ longer) no)

pub same_age : (since : ℕ) (a b begin now : ℤ) → a ≡ begin → b ≡ now → age since a b ≡ age since begin now
same_age since a b begin now first second = cc
