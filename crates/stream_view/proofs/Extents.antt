-- Texts, byte by byte: their extents, and what is kept of them.
use Rattle.std.proofs.Common.{◌≡◌, ◌∙◌, ℕ, zero, suc, ◌+◌, ◌<◌, ◌≤◌, ◌∷◌, [], List, Bool, true, false, add-one, ap, ap₂, arith, get_or, length, refl, subst, sym, take}
use Rattle.std.specs.Prelude.{◌&&◌, ◌==◌, if◌then◌else◌, slice_index}
use Rattle.std.specs.List.{fold}
use Rattle.std.proofs.lemmas.List.{length-take-le}
use Rattle.std.proofs.lemmas.List.Sums.{fold_more}
use Rattle.stream_view.specs.Markdown.{IsSmall, extent_after, extent_of, has_room, kept_after, kept_of, kept_within, line_count, lines_after, no_extent, run_after}
use Rattle.stream_view.specs.declared.markdown.extent.Extent.{Extent}

-- ---- one byte more

pub extent-more : (bytes : List ℕ) (i : ℕ) (extent next : Extent) → i < length bytes → extent ≡ extent_of (take i bytes)
    → next ≡ extent_after extent (get_or bytes i 0) → next ≡ extent_of (take (i + 1) bytes)
extent-more bytes i extent next below is more =
    more ∙ ap (λ e. extent_after e (get_or bytes i 0)) is ∙ sym (fold_more extent_after no_extent bytes i 0 below)

-- ---- no count exceeds the length

choice-le : (test : Bool) (a b n : ℕ) → a ≤ n → b ≤ n → (if test then a else b) ≤ n
choice-le true a b n left right = left
choice-le false a b n left right = right

-- no count exceeds the length
record IsWithin (extent : Extent) : Type 0 where
  lines : extent.lines ≤ extent.len
  run : extent.run ≤ extent.len
  longest : extent.longest ≤ extent.len

within_after : (extent : Extent) (byte : ℕ) → IsWithin extent → IsWithin (extent_after extent byte)
within_after extent byte within =
    let few : extent.lines ≤ extent.len = within.lines in
    let short : extent.run ≤ extent.len = within.run in
    let long : extent.longest ≤ extent.len = within.longest in
    let lines : lines_after extent.lines byte ≤ extent.len + 1 =
    choice-le (byte == 10) (extent.lines + 1) extent.lines (extent.len + 1) (omega (arith, few)) (omega (arith, few)) in
    let run : run_after extent.run byte ≤ extent.len + 1 =
    choice-le (byte == 96) (extent.run + 1) 0 (extent.len + 1) (omega (arith, short)) (omega arith) in
    record { lines = lines; run = run; longest = omega (arith, long, run) }

within_all : (extent : Extent) (bytes : List ℕ) → IsWithin extent → IsWithin (fold extent_after extent bytes)
within_all extent [] within = within
within_all extent (byte ∷ bytes) within = within_all (extent_after extent byte) bytes (within_after extent byte within)

len-fold : (extent : Extent) (bytes : List ℕ) → (fold extent_after extent bytes).len ≡ extent.len + length bytes
len-fold extent [] = omega arith
len-fold extent (byte ∷ bytes) = let rest = len-fold (extent_after extent byte) bytes in rest ∙ omega arith

pub len-extent_of : (bytes : List ℕ) → (extent_of bytes).len ≡ length bytes
len-extent_of bytes = len-fold no_extent bytes ∙ omega arith

none_within : IsWithin no_extent
none_within = record { lines = omega arith; run = omega arith; longest = omega arith }

pub small : (bytes : List ℕ) → length bytes ≤ 18446744073709551614 → IsSmall (extent_of bytes)
small bytes room =
    let within = within_all no_extent bytes none_within in
    let len : (extent_of bytes).len ≡ length bytes = len-extent_of bytes in
    record { lines = within.lines; run = within.run; longest = within.longest; room = omega (arith, len, room) }

pub small_front : (bytes : List ℕ) (i : ℕ) (extent : Extent) → i ≤ length bytes → i ≤ 18446744073709551614 → extent ≡ extent_of (take i bytes) → IsSmall extent
small_front bytes i extent below room is =
    let front : length (take i bytes) ≡ i = length-take-le i bytes below in
    subst IsSmall (sym is) (small (take i bytes) (omega (arith, front, room)))

-- ---- what is kept

pub kept_more : (headline lines : ℕ) (inside : List ℕ) (i : ℕ) (extent kept next : Extent) → extent ≡ extent_of (take (i + 1) inside)
    → kept ≡ kept_within headline lines inside i → next ≡ kept_after headline lines (slice_index inside i) extent kept
    → next ≡ kept_within headline lines inside (i + 1)
kept_more headline lines inside i extent kept next grown had chosen =
    let later : extent ≡ extent_of (take (suc i) inside) = grown ∙ ap (λ n. extent_of (take n inside)) (add-one i) in
    let step : next ≡ kept_within headline lines inside (suc i) =
    chosen ∙ ap₂ (λ e k. kept_after headline lines (slice_index inside i) e k) later had in
    step ∙ ap (kept_within headline lines inside) (sym (add-one i))

-- the extent of a front
pub record IsFront (inside : List ℕ) (count : ℕ) (kept : Extent) : Type 0 where
  pub len : kept.len ≤ count
  pub is : kept ≡ extent_of (take kept.len inside)

front_later : (inside : List ℕ) (count : ℕ) (kept : Extent) → IsFront inside count kept → IsFront inside (suc count) kept
front_later inside count kept front = let len : kept.len ≤ count = front.len in record { len = omega (arith, len); is = front.is }

front_now : (inside : List ℕ) (count : ℕ) → suc count ≤ length inside → IsFront inside (suc count) (extent_of (take (suc count) inside))
front_now inside count below =
    let len : (extent_of (take (suc count) inside)).len ≡ suc count = len-extent_of (take (suc count) inside) ∙ length-take-le (suc count) inside below in
    record { len = omega (arith, len); is = ap (λ n. extent_of (take n inside)) (sym len) }

front_chosen : (inside : List ℕ) (count : ℕ) (test : Bool) (a b : Extent) → IsFront inside count a → IsFront inside count b
    → IsFront inside count (if test then a else b)
front_chosen inside count true a b left right = left
front_chosen inside count false a b left right = right

pub front_kept : (headline lines : ℕ) (inside : List ℕ) (count : ℕ) → count ≤ length inside → IsFront inside count (kept_within headline lines inside count)
front_kept headline lines inside zero below = record { len = omega arith; is = refl }
front_kept headline lines inside (suc count) below =
    let extent = extent_of (take (suc count) inside) in
    front_chosen inside (suc count) ((slice_index inside count == 10) && has_room headline lines extent) extent (kept_within headline lines inside count)
    (front_now inside count below) (front_later inside count (kept_within headline lines inside count) (front_kept headline lines inside count (omega (arith, below))))

-- all bytes were read
pub kept_all : (headline : ℕ) (inside : List ℕ) (i lines : ℕ) (kept : Extent) → i ≡ length inside → lines ≡ line_count inside
    → kept ≡ kept_within headline lines inside i → kept ≡ kept_of headline inside
unfolding kept_of
kept_all headline inside i lines kept ends counted is = is ∙ ap₂ (λ l n. kept_within headline l inside n) counted ends

pub kept_front : (headline : ℕ) (inside : List ℕ) (kept : Extent) → kept ≡ kept_of headline inside → IsFront inside (length inside) kept
unfolding kept_of
kept_front headline inside kept is =
    subst (IsFront inside (length inside)) (sym is) (front_kept headline (line_count inside) inside (length inside) (omega arith))
