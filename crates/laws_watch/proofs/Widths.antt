-- How many columns texts have that are fitted or broken.
use Rattle.std.proofs.Common.{◌≡◌, ◌∙◌, ℕ, zero, suc, ◌+◌, ◌-◌, ◌*◌, ◌/◌, ◌<◌, ◌≤◌, ◌==◌, ◌∷◌, [], List, Bool, Option, None, Some, true, false, ⊎_elim, ap, arith, get_or, leb, length, max, refl, take}
use Rattle.std.specs.Prelude.{All, if◌then◌else◌, nat_le, nat_lt, unwrap_or}
use Rattle.std.proofs.lemmas.Bool.{cases_Bool, leb-true}
use Rattle.std.proofs.lemmas.Bool.Decides.{nat_tests}
use Rattle.std.proofs.lemmas.List.Elements.{All-cons, All-nil}
use Rattle.std.proofs.lemmas.List.Sums.{sum_by-append, sum_by-cons, sum_by-take-le}
use Rattle.term_text.specs.Breaking.{behind_piece, break_place, broken, count_within, last_blank, piece_len, pieces_within}
use Rattle.term_text.specs.Columns.{column_count, columns_of}
use Rattle.term_text.specs.Fitting.{back_within, cut_short, few_marks, fitted, front_within, is_blank, without_blanks}
use Rattle.term_text.proofs.Blanks.{take-without_blanks}
use Rattle.unicode_width.specs.Kind.{kind}
use Rattle.unicode_width.specs.Width.{alone, char_width, of_kind, single}
use Rattle.unicode_width.specs.declared.kind.Kind.{Kind}
use Rattle.unicode_width.specs.declared.kind.Kind.TheVariants as kinds
use Rattle.unicode_width.specs.declared.state.State.{State}
use Rattle.laws_watch.proofs.Signs.{ellipsis}

-- ---- a character

-- no character has more than three columns
either : (test : Bool) (x y : ℕ × State) → x.0 ≤ 3 → y.0 ≤ 3 → (if test then x else y).0 ≤ 3
either true x y then_is else_is = then_is
either false x y then_is else_is = else_is

single-few : (c : ℕ) → (single false c).0 ≤ 3
single-few c =
    either (c == 0x05DC) _ _ (omega arith)
    (either (c == 0xFB3C) _ _ (omega arith)
    (either (c == 0x17D8) _ _ (omega arith)
    (either (c == 0x1A10) _ _ (omega arith)
    (either (c == 0x10C03) _ _ (omega arith)
    (either (c == 0x16D67) _ _ (omega arith)
    (either (c == 0x16D68) _ _ (omega arith)
    (either (c == 0xFE0F) _ _ (omega arith)
    (either (c == 0xFE01) _ _ (omega arith) (either (c == 0xFE0E) _ _ (omega arith) (omega arith))))))))))

of_kind-few : (c : ℕ) (k : Kind) → (of_kind false c k).0 ≤ 3
of_kind-few c kinds.Zero = omega arith
of_kind-few c kinds.Narrow = omega arith
of_kind-few c kinds.Wide = omega arith
of_kind-few c kinds.Ambiguous = omega arith
of_kind-few c kinds.Alef = omega arith
of_kind-few c kinds.KhmerLetter = omega arith
of_kind-few c kinds.TifinaghConsonant = omega arith
of_kind-few c kinds.LisuTone = omega arith
of_kind-few c kinds.RegionalIndicator = omega arith
of_kind-few c kinds.EmojiModifier = omega arith
of_kind-few c kinds.Emoji = omega arith
of_kind-few c kinds.Single = single-few c

either_width : (test : Bool) (x y : Option ℕ) → unwrap_or x 0 ≤ 3 → unwrap_or y 0 ≤ 3 → unwrap_or (if test then x else y) 0 ≤ 3
either_width true x y then_is else_is = then_is
either_width false x y then_is else_is = else_is

pub column_count-few : (c : ℕ) → column_count c ≤ 3
unfolding alone char_width
column_count-few c =
    either_width (nat_lt c 0x7F) _ _ (either_width (nat_le 0x20 c) (Some 1) None (omega arith) (omega arith))
    (either_width (nat_le 0xA0 c) (Some (of_kind false c (kind c)).0) None (of_kind-few c (kind c)) (omega arith))

-- a character of ASCII that is no control has one column
pub column_count-ascii : (c : ℕ) → 32 ≤ c → c < 127 → column_count c ≡ 1
unfolding char_width
column_count-ascii c low high =
    let small : nat_lt c 0x7F ≡ true = grind (arith, nat_tests) in
    let space : nat_le 0x20 c ≡ true = grind (arith, nat_tests) in
    rw (small, space) refl

-- ---- fronts

pub front_fits : (limit : ℕ) (cs : List ℕ) → columns_of (front_within limit cs) ≤ limit
front_fits limit [] = omega arith
front_fits limit (c ∷ cs) =
    ⊎_elim
    (λ (yes : leb (column_count c) limit ≡ true).
    let fits = leb-true (column_count c) limit yes in
    let rest = front_fits (limit - column_count c) cs in
    let sum = sum_by-cons column_count c (front_within (limit - column_count c) cs) in
    rw yes (omega (arith, fits, rest, sum)))
    (λ (no_room : leb (column_count c) limit ≡ false). rw no_room (omega arith))
    (cases_Bool (leb (column_count c) limit))

back_fits : (limit : ℕ) (cs : List ℕ) → columns_of (back_within limit cs) ≤ limit
back_fits limit [] = omega arith
back_fits limit (c ∷ cs) =
    ⊎_elim
    (λ (yes : leb (columns_of (c ∷ cs)) limit ≡ true). let fits = leb-true (columns_of (c ∷ cs)) limit yes in rw yes fits)
    (λ (no_room : leb (columns_of (c ∷ cs)) limit ≡ false). rw no_room (back_fits limit cs))
    (cases_Bool (leb (columns_of (c ∷ cs)) limit))

cut_fits : (room : ℕ) (cs : List ℕ) → columns_of (cut_short room cs) ≤ room + 1
cut_fits room cs =
    let start = front_within (room * 2 / 5) cs in
    let end = back_within (room - columns_of start) cs in
    omega (arith, front_fits (room * 2 / 5) cs, back_fits (room - columns_of start) cs, sum_by-append column_count start (8230 ∷ end), sum_by-cons column_count 8230 end, ellipsis.one)

pub fitted_fits : (n : ℕ) (text : List ℕ) → 1 ≤ n → columns_of (fitted n text) ≤ n
unfolding fitted
fitted_fits n text some =
    let few = few_marks 0 text in
    ⊎_elim
    (λ (yes : leb (columns_of few) n ≡ true). let fits = leb-true (columns_of few) n yes in rw yes fits)
    (λ (no_room : leb (columns_of few) n ≡ false). let cut = cut_fits (n - 1) few in rw no_room (omega (arith, cut)))
    (cases_Bool (leb (columns_of few) n))

front_is_front : (limit : ℕ) (cs : List ℕ) → take (length (front_within limit cs)) cs ≡ front_within limit cs
front_is_front limit [] = refl
front_is_front limit (c ∷ cs) =
    ⊎_elim
    (λ (yes : leb (column_count c) limit ≡ true). rw yes (ap (λ t. c ∷ t) (front_is_front (limit - column_count c) cs)))
    (λ (no_room : leb (column_count c) limit ≡ false). rw no_room refl)
    (cases_Bool (leb (column_count c) limit))

-- a shorter front has no more columns
fewer : (n m : ℕ) (cs : List ℕ) → n ≤ m → columns_of (take n cs) ≤ columns_of (take m cs)
fewer zero m cs less = omega arith
fewer (suc n) zero cs less = absurd (omega (arith, less))
fewer (suc n) (suc m) [] less = omega arith
fewer (suc n) (suc m) (c ∷ cs) less =
    omega (arith, fewer n m cs (omega (arith, less)), sum_by-cons column_count c (take n cs), sum_by-cons column_count c (take m cs))

-- ---- pieces

either_place : (test : Bool) (x y : Option ℕ) (bound : ℕ) → unwrap_or x bound ≤ bound → unwrap_or y bound ≤ bound → unwrap_or (if test then x else y) bound ≤ bound
either_place true x y bound then_is else_is = then_is
either_place false x y bound then_is else_is = else_is

last_blank-below : (least end bound : ℕ) (cs : List ℕ) → end ≤ bound → unwrap_or (last_blank least end cs) bound ≤ bound
last_blank-below least zero bound cs within = omega arith
last_blank-below least (suc place) bound cs within =
    either_place (nat_lt place least) None _ bound (omega arith)
    (either_place (is_blank (get_or cs place 0)) (Some place) (last_blank least place cs) bound (omega arith)
    (last_blank-below least place bound cs (omega arith)))

-- so many characters have room
count-fits : (columns : ℕ) (cs : List ℕ) → 3 ≤ columns → columns_of (take (count_within columns cs) cs) ≤ columns
count-fits columns [] wide = omega arith
count-fits columns (c ∷ cs) wide =
    let front = front_within columns (c ∷ cs) in
    let few : leb (column_count c) columns ≡ true = let most = column_count-few c in grind (arith, nat_tests) in
    let some : front ≡ c ∷ front_within (columns - column_count c) cs = rw few refl in
    let long : length front ≡ suc (length (front_within (columns - column_count c) cs)) = ap length some in
    let all : max (length front) 1 ≡ length front = omega (arith, long) in
    let same : take (count_within columns (c ∷ cs)) (c ∷ cs) ≡ front = ap (λ n. take n (c ∷ cs)) all ∙ front_is_front columns (c ∷ cs) in
    omega (arith, ap columns_of same, front_fits columns (c ∷ cs))

first-fits : (columns : ℕ) (cs : List ℕ) → 3 ≤ columns → columns_of (take (piece_len columns cs) cs) ≤ columns
first-fits columns cs wide =
    let count = count_within columns cs in
    ⊎_elim
    (λ (yes : nat_le (columns_of cs) columns ≡ true).
    let fits = leb-true (columns_of cs) columns yes in
    omega (arith, fits, sum_by-take-le column_count cs (piece_len columns cs)))
    (λ (no_room : nat_le (columns_of cs) columns ≡ false).
    let cut : piece_len columns cs ≡ break_place count cs = rw no_room refl in
    let less = last_blank-below (count / 3 + 1) count count cs (omega arith) in
    let same = ap (λ n. columns_of (take n cs)) cut in
    omega (arith, same, fewer (break_place count cs) count cs less, count-fits columns cs wide))
    (cases_Bool (nat_le (columns_of cs) columns))

piece-fits : (columns : ℕ) (cs : List ℕ) → 3 ≤ columns → columns_of (without_blanks (take (piece_len columns cs) cs)) ≤ columns
piece-fits columns cs wide =
    let front = take (piece_len columns cs) cs in
    let same = ap columns_of (take-without_blanks front) in
    omega (arith, same, sum_by-take-le column_count front (length (without_blanks front)), first-fits columns cs wide)

either_pieces : (P : List (List ℕ) → Type 0) (test : Bool) (x y : List (List ℕ)) → P x → P y → P (if test then x else y)
either_pieces P true x y then_is else_is = then_is
either_pieces P false x y then_is else_is = else_is

pieces_within-fit : (turns columns : ℕ) (cs : List ℕ) → 3 ≤ columns → All (λ piece. columns_of piece ≤ columns) (pieces_within turns columns cs)
pieces_within-fit zero columns cs wide = All-nil (λ piece. columns_of piece ≤ columns)
pieces_within-fit (suc turns) columns cs wide =
    let fits : List ℕ → Type 0 = λ piece. columns_of piece ≤ columns in
    let rest = behind_piece columns cs in
    All-cons fits _ _ (piece-fits columns cs wide)
    (either_pieces (All fits) (length rest == 0) [] (pieces_within turns columns rest) (All-nil fits) (pieces_within-fit turns columns rest wide))

pub broken-fit : (columns : ℕ) (cs : List ℕ) → 3 ≤ columns → All (λ piece. columns_of piece ≤ columns) (broken columns cs)
unfolding broken
broken-fit columns cs wide = pieces_within-fit (length cs + 1) columns cs wide
