-- Sums over intervals and over their edges.
use Rattle.std.proofs.Common.{◌≡◌, ℕ, ◌+◌, ◌<◌, ◌≤◌, List, [], ◌∷◌, ◌++◌, Bool, true, false, cond, eqb, leb, length, Some, None, refl, sym, ap, ◌∙◌, ⊎_elim, arith}
use Rattle.std.specs.Prelude.{◌&&◌, not}
use Rattle.std.specs.List.{filter, sum_by}
use Rattle.std.proofs.lemmas.Bool.{cases_lt, cases_Bool, le-leb, lt-leb, ne_eqb}
use Rattle.std.proofs.lemmas.List.Sums.{sum_by-cons, sum_by-append}
use Rattle.stream_timeline.specs.declared.numbers.edge.Edge.{Edge}
use Rattle.stream_timeline.specs.declared.numbers.interval.Interval.{Interval}
use Rattle.stream_timeline.specs.Edges.{begin_of, edges_of, end_of}
use Rattle.stream_timeline.specs.Stretches.{IsOrdered, is_under_way, only_place}

-- the weight of a place, where a test passes
abbrev pub weighed : {X : Type 0} → (X → Bool) → (X → ℕ) → X → ℕ
weighed test weight x = cond (test x) (weight x) 0

abbrev pub interval_weight : (ℕ → ℕ) → Interval → ℕ
interval_weight weight i = weight i.place

abbrev pub edge_weight : (ℕ → ℕ) → Edge → ℕ
edge_weight weight e = weight e.place

-- ---- under way are those that have begun and not ended

-- an interval ends by a, or not before b
abbrev pub EndsApart : ℕ → ℕ → Interval → Type 0
EndsApart a b i = (b ≤ i.end → ⊥) → i.end ≤ a

abbrev pub AllApart : ℕ → ℕ → List Interval → Type 0
AllApart a b [] = Unit {0}
AllApart a b (i ∷ is) = EndsApart a b i × AllApart a b is

abbrev pub AllOrdered : List Interval → Type 0
AllOrdered [] = Unit {0}
AllOrdered (i ∷ is) = IsOrdered i × AllOrdered is

one_weighed : (begin end a b w : ℕ) → a < b → begin ≤ end → ((b ≤ end → ⊥) → end ≤ a)
    → cond (leb begin a && leb b end) w 0 + cond (leb end a) w 0 ≡ cond (leb begin a) w 0
one_weighed begin end a b w l o apart =
    ⊎_elim
    (λ (late : end < b).
    let ends : end ≤ a = apart (λ (h : b ≤ end). omega arith) in
    rw (le-leb begin a (omega arith), lt-leb b end late, le-leb end a ends) (omega arith))
    (λ (on : b ≤ end).
    rw (le-leb b end on, lt-leb end a (omega arith)) (
    ⊎_elim
    (λ (before : a < begin). rw (lt-leb begin a before) refl)
    (λ (begun : begin ≤ a). rw (le-leb begin a begun) (omega arith))
    (cases_lt a begin)))
    (cases_lt end b)

pub under_way_sum : (w : ℕ → ℕ) (a b : ℕ) (is : List Interval) → a < b → AllOrdered is → AllApart a b is
    → sum_by (weighed (is_under_way a b) (interval_weight w)) is + sum_by (weighed (λ (i : Interval). leb i.end a) (interval_weight w)) is
    ≡ sum_by (weighed (λ (i : Interval). leb i.begin a) (interval_weight w)) is
under_way_sum w a b [] l o p = refl
under_way_sum w a b (i ∷ is) l o p =
    rw (sum_by-cons (weighed (is_under_way a b) (interval_weight w)) i is, sum_by-cons (weighed (λ (i : Interval). leb i.end a) (interval_weight w)) i is, sum_by-cons (weighed (λ (i : Interval). leb i.begin a) (interval_weight w)) i is)
    (let here = one_weighed i.begin i.end a b (w i.place) l o.0 p.0 in
    let rest = under_way_sum w a b is l o.1 p.1 in
    omega (arith, here, rest))

-- ---- edges

abbrev pub is_begin_by : ℕ → Edge → Bool
is_begin_by a e = not e.is_end && leb e.time a

abbrev pub is_end_by : ℕ → Edge → Bool
is_end_by a e = e.is_end && leb e.time a

pub begins_sum : (w : ℕ → ℕ) (a : ℕ) (is : List Interval)
    → sum_by (weighed (is_begin_by a) (edge_weight w)) (edges_of is) ≡ sum_by (weighed (λ (i : Interval). leb i.begin a) (interval_weight w)) is
begins_sum w a [] = refl
begins_sum w a (i ∷ is) =
    sum_by-cons (weighed (is_begin_by a) (edge_weight w)) (begin_of i) (end_of i ∷ edges_of is)
    ∙ (ap (λ n. cond (leb i.begin a) (w i.place) 0 + n) (sum_by-cons (weighed (is_begin_by a) (edge_weight w)) (end_of i) (edges_of is))
    ∙ (rw (begins_sum w a is) (omega arith)
    ∙ sym (sum_by-cons (weighed (λ (i : Interval). leb i.begin a) (interval_weight w)) i is)))

pub ends_sum : (w : ℕ → ℕ) (a : ℕ) (is : List Interval)
    → sum_by (weighed (is_end_by a) (edge_weight w)) (edges_of is) ≡ sum_by (weighed (λ (i : Interval). leb i.end a) (interval_weight w)) is
ends_sum w a [] = refl
ends_sum w a (i ∷ is) =
    sum_by-cons (weighed (is_end_by a) (edge_weight w)) (begin_of i) (end_of i ∷ edges_of is)
    ∙ (ap (λ n. 0 + n) (sum_by-cons (weighed (is_end_by a) (edge_weight w)) (end_of i) (edges_of is))
    ∙ (rw (ends_sum w a is) (omega arith)
    ∙ sym (sum_by-cons (weighed (λ (i : Interval). leb i.end a) (interval_weight w)) i is)))

-- ---- a front of the edges, behind which all come later

abbrev pub AllBy : ℕ → List Edge → Type 0
AllBy a [] = Unit {0}
AllBy a (e ∷ es) = (e.time ≤ a) × AllBy a es

abbrev pub AllAfter : ℕ → List Edge → Type 0
AllAfter a [] = Unit {0}
AllAfter a (e ∷ es) = (a < e.time) × AllAfter a es

and_true : (b : Bool) → (b && true) ≡ b
and_true true = refl
and_true false = refl

and_false : (b : Bool) → (b && false) ≡ false
and_false true = refl
and_false false = refl

front_sum : (kind : Edge → Bool) (w : Edge → ℕ) (a : ℕ) (es : List Edge) → AllBy a es
    → sum_by (weighed (λ e. kind e && leb e.time a) w) es ≡ sum_by (weighed kind w) es
front_sum kind w a [] h = refl
front_sum kind w a (e ∷ es) h =
    rw (sum_by-cons (weighed (λ e. kind e && leb e.time a) w) e es, sum_by-cons (weighed kind w) e es)
    (rw (le-leb e.time a h.0, and_true (kind e), front_sum kind w a es h.1) refl)

rest_sum : (kind : Edge → Bool) (w : Edge → ℕ) (a : ℕ) (es : List Edge) → AllAfter a es
    → sum_by (weighed (λ e. kind e && leb e.time a) w) es ≡ 0
rest_sum kind w a [] h = refl
rest_sum kind w a (e ∷ es) h =
    rw (sum_by-cons (weighed (λ e. kind e && leb e.time a) w) e es)
    (rw (lt-leb e.time a h.0, and_false (kind e), rest_sum kind w a es h.1) refl)

pub split_sum : (kind : Edge → Bool) (w : Edge → ℕ) (a : ℕ) (front rest : List Edge) → AllBy a front → AllAfter a rest
    → sum_by (weighed (λ e. kind e && leb e.time a) w) (front ++ rest) ≡ sum_by (weighed kind w) front
split_sum kind w a front rest by after =
    sum_by-append (weighed (λ e. kind e && leb e.time a) w) front rest
    ∙ (rw (front_sum kind w a front by, rest_sum kind w a rest after) (omega arith))

-- ---- the only one

pub only_sum : (is : List Interval) → only_place is ≡ cond (eqb (length is) 1) (Some (sum_by (λ (i : Interval). i.place) is)) None
only_sum [] = refl
only_sum (i ∷ []) = let e : i.place ≡ 0 + i.place = omega arith in ap Some e
only_sum (i ∷ (j ∷ is)) = rw (ne_eqb (length (i ∷ (j ∷ is))) 1 (λ e. omega arith)) refl

pub filtered_sum : {X : Type 0} (p : X → Bool) (w : X → ℕ) (is : List X) → sum_by w (filter p is) ≡ sum_by (weighed p w) is
filtered_sum p w [] = refl
filtered_sum p w (i ∷ is) =
    ⊎_elim
    (λ (yes : p i ≡ true). rw (sum_by-cons (weighed p w) i is, yes) (sum_by-cons w i (filter p is) ∙ ap (λ n. w i + n) (filtered_sum p w is)))
    (λ (no : p i ≡ false). rw (sum_by-cons (weighed p w) i is, no) (filtered_sum p w is ∙ omega arith))
    (cases_Bool (p i))
