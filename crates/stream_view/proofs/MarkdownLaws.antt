-- Laws of a text in its fence: how long the fence is, how much has room, and what is cut.
use Rattle.std.proofs.Common.{◌≡◌, ◌∙◌, ℕ, zero, suc, ◌+◌, ◌-◌, ◌<◌, ◌≤◌, ◌∷◌, [], ◌++◌, List, Bool, true, false, ap, arith, drop, inl, inr, length, length-append, refl, replicate, sym, take, take-append-drop}
use Rattle.std.specs.Prelude.{◌⊎◌, ◌&&◌, ◌==◌, codes, if◌then◌else◌, slice_index}
use Rattle.std.specs.List.{fold}
use Rattle.std.proofs.lemmas.Bool.Decides.{nat_tests}
use Rattle.std.proofs.lemmas.Grind.{fold-append}
use Rattle.std.proofs.lemmas.List.{length-replicate, length-take-le, take_more}
use Rattle.stream_view.specs.Markdown.{EndsLine, back_bytes, cut_text, extent_after, extent_of, fence_around, fence_bytes, fence_len, front_bytes, has_room, kept_of, kept_text, kept_within, line_count, lines_after, longest_run, markdown_bytes, markdown_len, markdown_with, more_line, no_extent}
use Rattle.stream_view.specs.declared.markdown.extent.Extent.{Extent}
use Rattle.stream_view.proofs.Extents.{front_kept, kept_front, len-extent_of}

-- ---- runs of backticks

longest_rises : (extent : Extent) (bytes : List ℕ) → extent.longest ≤ (fold extent_after extent bytes).longest
longest_rises extent [] = omega arith
longest_rises extent (byte ∷ bytes) = let rest = longest_rises (extent_after extent byte) bytes in omega (arith, rest)

run-le : (extent : Extent) (bytes : List ℕ) → extent.run ≤ extent.longest → (fold extent_after extent bytes).run ≤ (fold extent_after extent bytes).longest
run-le extent [] below = below
run-le extent (byte ∷ bytes) below = run-le (extent_after extent byte) bytes (omega arith)

run-backticks : (extent : Extent) (n : ℕ) → (fold extent_after extent (replicate n 96)).run ≡ extent.run + n
run-backticks extent zero = omega arith
run-backticks extent (suc n) = let rest = run-backticks (extent_after extent 96) n in rest ∙ omega arith

pub run_within : (before after : List ℕ) (n : ℕ) → n ≤ longest_run (before ++ (replicate n 96 ++ after))
run_within before after n =
    let first = fold extent_after no_extent before in
    let next = fold extent_after first (replicate n 96) in
    let all : extent_of (before ++ (replicate n 96 ++ after)) ≡ fold extent_after next after =
    fold-append extent_after no_extent before (replicate n 96 ++ after) ∙ fold-append extent_after first (replicate n 96) after in
    let run : next.run ≡ first.run + n = run-backticks first n in
    let begins : first.run ≤ first.longest = run-le no_extent before (omega arith) in
    let long : next.run ≤ next.longest = run-le first (replicate n 96) begins in
    let rises : next.longest ≤ (fold extent_after next after).longest = longest_rises next after in
    let same : longest_run (before ++ (replicate n 96 ++ after)) ≡ (fold extent_after next after).longest = ap (λ (e : Extent). e.longest) all in
    omega (arith, run, long, rises, same)

pub fence_longer : (headline inside before after : List ℕ) (n : ℕ) → kept_text headline inside ≡ before ++ (replicate n 96 ++ after)
    → n < fence_around headline inside
fence_longer headline inside before after n is =
    let kept = kept_of (length headline) inside in
    let front = kept_front (length headline) inside kept refl in
    let run : n ≤ longest_run (before ++ (replicate n 96 ++ after)) = run_within before after n in
    let longest : kept.longest ≡ longest_run (before ++ (replicate n 96 ++ after)) =
    ap (λ (e : Extent). e.longest) front.is ∙ ap longest_run is in
    omega (arith, run, longest)

-- ---- how much has room

and-right : (a b : Bool) → (a && b) ≡ true → b ≡ true
and-right true b is = is
and-right false b is = cc

room_chosen : (headline lines : ℕ) (ends : Bool) (extent kept : Extent) (b : Bool) → b ≡ (ends && has_room headline lines extent)
    → (kept ≡ no_extent) ⊎ (has_room headline lines kept ≡ true)
    → ((if b then extent else kept) ≡ no_extent) ⊎ (has_room headline lines (if b then extent else kept) ≡ true)
room_chosen headline lines ends extent kept true is before = inr (and-right ends (has_room headline lines extent) (sym is))
room_chosen headline lines ends extent kept false is before = before

room_kept : (headline lines : ℕ) (inside : List ℕ) (count : ℕ)
    → (kept_within headline lines inside count ≡ no_extent) ⊎ (has_room headline lines (kept_within headline lines inside count) ≡ true)
room_kept headline lines inside zero = inl refl
room_kept headline lines inside (suc count) =
    let extent = extent_of (take (suc count) inside) in
    room_chosen headline lines (slice_index inside count == 10) extent (kept_within headline lines inside count)
    ((slice_index inside count == 10) && has_room headline lines extent) refl (room_kept headline lines inside count)

length-fence : (n : ℕ) → length (fence_bytes n) ≡ n + 1
length-fence n = length-append (replicate n 96) (10 ∷ []) ∙ ap (λ k. k + 1) (length-replicate n 96)

length-front : (headline : List ℕ) (fence : ℕ) → length (front_bytes headline fence) ≡ length headline + fence + 7
length-front headline fence =
    let whole = length-append (codes "**" ++ headline ++ codes "**\n\n") (fence_bytes fence) in
    let signs = length-append (codes "**" ++ headline) (codes "**\n\n") in
    let begins = length-append (codes "**") headline in
    let line = length-fence fence in
    omega (arith, whole, signs, begins, line)

length-markdown : (headline inside : List ℕ) (kept : Extent) → kept.len ≤ length inside
    → length (markdown_with headline inside kept) ≡ markdown_len (length headline) (line_count inside) kept
length-markdown headline inside kept within =
    let fence = fence_len kept.longest in
    let more = line_count inside - kept.lines in
    let whole = length-append (front_bytes headline fence ++ take kept.len inside) (back_bytes more fence) in
    let before = length-append (front_bytes headline fence) (take kept.len inside) in
    let front = length-front headline fence in
    let middle = length-take-le kept.len inside within in
    let back = length-append (more_line more) (fence_bytes fence) in
    let line = length-fence fence in
    omega (arith, whole, before, front, middle, back, line)

room_or_none : (headline inside : List ℕ) (kept : Extent) → kept.len ≤ length inside
    → (kept ≡ no_extent) ⊎ (has_room (length headline) (line_count inside) kept ≡ true)
    → (length (markdown_with headline inside kept) ≤ 65000) ⊎ (take kept.len inside ≡ [])
room_or_none headline inside kept within (inl none) = inr (ap (λ (e : Extent). take e.len inside) none)
room_or_none headline inside kept within (inr room) =
    let len = length-markdown headline inside kept within in
    let few : markdown_len (length headline) (line_count inside) kept ≤ 65000 = grind (arith, nat_tests, room) in
    inl (omega (arith, len, few))

pub has_room_or_none : (headline inside : List ℕ) → (length (markdown_bytes headline inside) ≤ 65000) ⊎ (kept_text headline inside ≡ [])
unfolding kept_of
has_room_or_none headline inside =
    let kept = kept_within (length headline) (line_count inside) inside (length inside) in
    let front = front_kept (length headline) (line_count inside) inside (length inside) (omega arith) in
    room_or_none headline inside kept front.len (room_kept (length headline) (line_count inside) inside (length inside))

-- ---- what is cut

whole_chosen : (inside : List ℕ) (count : ℕ) (kept : Extent) (ends room b : Bool) → b ≡ (ends && room) → suc count ≤ length inside
    → ends ≡ (slice_index inside count == 10) → EndsLine (take kept.len inside)
    → EndsLine (take (if b then extent_of (take (suc count) inside) else kept).len inside)
whole_chosen inside count kept ends room false is below test before = before
whole_chosen inside count kept false room true is below test before = cc
whole_chosen inside count kept true room true is below test before =
    let byte : slice_index inside count ≡ 10 = grind (arith, nat_tests, test) in
    let len : (extent_of (take (suc count) inside)).len ≡ count + 1 =
    len-extent_of (take (suc count) inside) ∙ length-take-le (suc count) inside below ∙ omega arith in
    let last : take (count + 1) inside ≡ take count inside ++ 10 ∷ [] =
    take_more inside count 0 (omega (arith, below)) ∙ ap (λ x. take count inside ++ x ∷ []) byte in
    inr (take count inside, ap (λ n. take n inside) len ∙ last)

whole_kept : (headline lines : ℕ) (inside : List ℕ) (count : ℕ) → count ≤ length inside → EndsLine (take (kept_within headline lines inside count).len inside)
whole_kept headline lines inside zero below = inl refl
whole_kept headline lines inside (suc count) below =
    let room = has_room headline lines (extent_of (take (suc count) inside)) in
    let ends = slice_index inside count == 10 in
    whole_chosen inside count (kept_within headline lines inside count) ends room (ends && room) refl below refl
    (whole_kept headline lines inside count (omega (arith, below)))

pub whole_lines : (headline inside : List ℕ) → EndsLine (kept_text headline inside)
unfolding kept_of
whole_lines headline inside = whole_kept (length headline) (line_count inside) inside (length inside) (omega arith)

lines-fold : (extent : Extent) (bytes : List ℕ) → (fold extent_after extent bytes).lines ≡ extent.lines + line_count bytes
lines-fold extent [] = omega arith
lines-fold extent (byte ∷ bytes) =
    let rest = lines-fold (extent_after extent byte) bytes in
    let first = lines-fold (extent_after no_extent byte) bytes in
    let one : lines_after extent.lines byte ≡ extent.lines + lines_after 0 byte = one-line extent.lines (byte == 10) in
    omega (arith, rest, first, one)
  where
    one-line : (n : ℕ) (test : Bool) → (if test then n + 1 else n) ≡ n + (if test then 1 else 0)
    one-line n true = refl
    one-line n false = omega arith

line_count-append : (before after : List ℕ) → line_count (before ++ after) ≡ line_count before + line_count after
line_count-append before after =
    ap (λ (e : Extent). e.lines) (fold-append extent_after no_extent before after) ∙ lines-fold (extent_of before) after

pub lines_cut : (headline inside : List ℕ) → line_count inside - (kept_of (length headline) inside).lines ≡ line_count (cut_text headline inside)
lines_cut headline inside =
    let kept = kept_of (length headline) inside in
    let front = kept_front (length headline) inside kept refl in
    let all : line_count inside ≡ line_count (take kept.len inside) + line_count (drop kept.len inside) =
    ap line_count (sym (take-append-drop kept.len inside)) ∙ line_count-append (take kept.len inside) (drop kept.len inside) in
    let lines : kept.lines ≡ line_count (take kept.len inside) = ap (λ (e : Extent). e.lines) front.is in
    omega (arith, all, lines)
