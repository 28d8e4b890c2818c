-- What a sweep keeps of the edges so far, and that the stretch it gives is the one that is defined.
use Rattle.std.proofs.Common.{◌≡◌, ℕ, ◌+◌, ◌-◌, ◌^◌, ◌<◌, ◌≤◌, List, [], ◌∷◌, ◌++◌, Bool, true, false, cond, eqb, leb, map, length, take, drop, get_or, Option, Some, None, refl, sym, ap, ap₂, ◌∙◌, subst, ⊎_elim, arith, All, suc, zero}
use Rattle.std.specs.Prelude.{◌||◌, not}
use Rattle.std.specs.List.{AllByRecursion, count_by, filter, list_any, sum_by}
use Rattle.std.specs.List.Sorted.{IsNonDecreasingBy, IsPermutation}
use Rattle.std.proofs.lemmas.Bool.{cases_Bool, cases_lt, le-ltb, lt-ltb, ne_eqb, eq-eqb}
use Rattle.std.proofs.lemmas.List.{drop_more, map-append, take-append-drop}
use Rattle.std.proofs.lemmas.List.Elements.{recursion_from_All}
use Rattle.std.proofs.lemmas.List.Sorted.{All-permutation, IsPermutation-sym, list_any-IsPermutation, sum_by-IsPermutation}
use Rattle.std.proofs.lemmas.List.Sums.{length-filter, sum_by_push}
use Rattle.stream_timeline.specs.declared.numbers.edge.Edge.{Edge}
use Rattle.stream_timeline.specs.declared.numbers.interval.Interval.{Interval}
use Rattle.stream_timeline.specs.declared.numbers.running.Running.{Running}
use Rattle.stream_timeline.specs.declared.numbers.stretch.Stretch.{Stretch}
use Rattle.stream_timeline.specs.Edges.{edges_of}
use Rattle.stream_timeline.specs.Steps.{last_of}
use Rattle.stream_timeline.specs.Stretches.{IsOrdered, IsSmallInterval, cuts, is_under_way, only_place, stretch_of, stretches_of}
use Rattle.stream_timeline.specs.Sweeping.{IsReady, next_running, pushed, running_stretch}
use Rattle.stream_timeline.proofs.Cuts.{has, has_cuts}
use Rattle.stream_timeline.proofs.Sums.{AllApart, AllAfter, AllBy, AllOrdered, begins_sum, edge_weight, ends_sum, filtered_sum, interval_weight, is_begin_by, is_end_by, only_sum, split_sum, under_way_sum, weighed}
use Rattle.stream_timeline.proofs.Swept.{NoneBelow, Rises, swept, swept_all, swept_more}
use Rattle.stream_timeline.proofs.Swept as plain

abbrev pub time_of : Edge → ℕ
time_of e = e.time

abbrev pub edge_times : List Edge → List ℕ
edge_times es = map time_of es

abbrev pub is_begin : Edge → Bool
is_begin e = not e.is_end

abbrev pub is_end : Edge → Bool
is_end e = e.is_end

abbrev one : ℕ → ℕ
one place = 1

abbrev itself : ℕ → ℕ
itself place = place

-- what holds after the edges so far
pub record IsSweptSoFar (is : List Interval) (done : List Edge) (running : Running) (at : Option ℕ) (value : List Stretch) : Type 0 where
  pub stretches : value ≡ swept is (edge_times done)
  pub last : at ≡ last_of (edge_times done)
  pub begun : running.begun ≡ sum_by (weighed is_begin (edge_weight one)) done
  pub ended : running.ended ≡ sum_by (weighed is_end (edge_weight one)) done
  pub begun_places : running.begun_places ≡ sum_by (weighed is_begin (edge_weight itself)) done
  pub ended_places : running.ended_places ≡ sum_by (weighed is_end (edge_weight itself)) done

-- all edges, in order
pub record AreEdges (is : List Interval) (es : List Edge) : Type 0 where
  pub ordered : AllOrdered is
  pub all : IsPermutation (edges_of is) es
  pub rise : Rises (edge_times es)

-- ---- what sorting gives

none_below : (m : ℕ) (es : List Edge) → ((j : ℕ) (d : Edge) → j < length es → m ≤ (get_or es j d).time) → NoneBelow m (edge_times es)
none_below m [] h = tt
none_below m (e ∷ es) h = (h 0 e (omega arith), none_below m es (λ j d l. h (suc j) d (omega arith)))

pub rises_from : (es : List Edge) → IsNonDecreasingBy time_of es → Rises (edge_times es)
rises_from [] h = tt
rises_from (e ∷ es) h =
    (none_below e.time es (λ j d l. h 0 (suc j) d (omega arith) (omega arith)), rises_from es (λ i j d le l. h (suc i) (suc j) d (omega arith) (omega arith)))

-- ---- a front and what is behind it

none_after : (m : ℕ) (done : List Edge) (e : Edge) (rest : List Edge) → NoneBelow m (edge_times (done ++ e ∷ rest)) → m ≤ e.time
none_after m [] e rest h = h.0
none_after m (k ∷ ks) e rest h = none_after m ks e rest h.1

front_last : (m a : ℕ) (done : List Edge) → Rises (m ∷ edge_times done) → last_of (m ∷ edge_times done) ≡ Some a → (m ≤ a) × AllBy a done
front_last m a [] r e = let same : m ≡ a = cc in (omega arith, tt)
front_last m a (k ∷ ks) r e =
    let rest = front_last k.time a ks r.1 e in
    let below : m ≤ k.time = r.0.0 in
    (omega (arith, rest.0), rest)

none_front : (m : ℕ) (done : List Edge) (e : Edge) (rest : List Edge) → NoneBelow m (edge_times (done ++ e ∷ rest)) → NoneBelow m (edge_times done)
none_front m [] e rest h = tt
none_front m (k ∷ ks) e rest h = (h.0, none_front m ks e rest h.1)

rises_front : (done : List Edge) (e : Edge) (rest : List Edge) → Rises (edge_times (done ++ e ∷ rest)) → Rises (edge_times done)
rises_front [] e rest r = tt
rises_front (k ∷ ks) e rest r = (none_front k.time ks e rest r.0, rises_front ks e rest r.1)

pub front_by : (a : ℕ) (done : List Edge) (e : Edge) (rest : List Edge) → Rises (edge_times (done ++ e ∷ rest)) → last_of (edge_times done) ≡ Some a → AllBy a done
front_by a [] e rest r l = absurd cc
front_by a (k ∷ ks) e rest r l = front_last k.time a ks (rises_front (k ∷ ks) e rest r) l

last_below : (a : ℕ) (done : List Edge) (e : Edge) (rest : List Edge) → Rises (edge_times (done ++ e ∷ rest)) → last_of (edge_times done) ≡ Some a → a ≤ e.time
last_below a [] e rest r l = absurd cc
last_below a (k ∷ []) e rest r l = let same : k.time ≡ a = cc in let below : k.time ≤ e.time = r.0.0 in omega arith
last_below a (k ∷ (j ∷ js)) e rest r l = last_below a (j ∷ js) e rest r.1 l

all_after : (a m : ℕ) (es : List Edge) → a < m → NoneBelow m (edge_times es) → AllAfter a es
all_after a m [] l h = tt
all_after a m (e ∷ es) l h = let on : m ≤ e.time = h.0 in (omega arith, all_after a m es l h.1)

rises_rest : (done : List Edge) (e : Edge) (rest : List Edge) → Rises (edge_times (done ++ e ∷ rest)) → Rises (edge_times (e ∷ rest))
rises_rest [] e rest r = r
rises_rest (k ∷ ks) e rest r = rises_rest ks e rest r.1

rest_after : (a : ℕ) (done : List Edge) (e : Edge) (rest : List Edge) → Rises (edge_times (done ++ e ∷ rest)) → a < e.time → AllAfter a (e ∷ rest)
rest_after a done e rest r l = (l, all_after a e.time rest l (rises_rest done e rest r).0)

-- ---- no edge lies between

abbrev IsOutside : ℕ → ℕ → Edge → Type 0
IsOutside a b e = (b ≤ e.time → ⊥) → e.time ≤ a

front_outside : (a b : ℕ) (done : List Edge) → AllBy a done → AllByRecursion (IsOutside a b) done
front_outside a b [] h = tt
front_outside a b (e ∷ es) h = (λ no. h.0, front_outside a b es h.1)

rest_outside : (a b : ℕ) (es : List Edge) → NoneBelow b (edge_times es) → AllByRecursion (IsOutside a b) es
rest_outside a b [] h = tt
rest_outside a b (e ∷ es) h = (λ no. absurd (no h.0), rest_outside a b es h.1)

both_outside : (a b : ℕ) (xs ys : List Edge) → AllByRecursion (IsOutside a b) xs → AllByRecursion (IsOutside a b) ys → AllByRecursion (IsOutside a b) (xs ++ ys)
both_outside a b [] ys h k = k
both_outside a b (x ∷ xs) ys h k = (h.0, both_outside a b xs ys h.1 k)

at_each : {X : Type 0} (P : X → Type 0) (x : X) (xs : List X) → P x → All P xs → (k : ℕ) (d : X) → k < length (x ∷ xs) → P (get_or (x ∷ xs) k d)
at_each P x xs p h zero d l = p
at_each P x xs p h (suc k) d l = h k d (omega arith)

pub all_from : {X : Type 0} (P : X → Type 0) (xs : List X) → AllByRecursion P xs → All P xs
all_from P [] h = λ k d l. absurd (omega arith)
all_from P (x ∷ xs) h = λ k d l. at_each P x xs h.0 (all_from P xs h.1) k d l

ends_apart : (a b : ℕ) (is : List Interval) → AllByRecursion (IsOutside a b) (edges_of is) → AllApart a b is
ends_apart a b [] h = tt
ends_apart a b (i ∷ is) h = (h.1.0, ends_apart a b is h.1.1)

apart : (is : List Interval) (a : ℕ) (done : List Edge) (e : Edge) (rest : List Edge) → AreEdges is (done ++ e ∷ rest) → AllBy a done → AllApart a e.time is
apart is a done e rest h by =
    let full : AllByRecursion (IsOutside a e.time) (done ++ e ∷ rest) =
    both_outside a e.time done (e ∷ rest) (front_outside a e.time done by) (λ no. absurd (no (omega arith)), rest_outside a e.time rest (rises_rest done e rest h.rise).0) in
    ends_apart a e.time is
    (recursion_from_All (IsOutside a e.time) (edges_of is)
    (All-permutation (IsOutside a e.time) (done ++ e ∷ rest) (edges_of is) (IsPermutation-sym (edges_of is) (done ++ e ∷ rest) h.all) (all_from (IsOutside a e.time) (done ++ e ∷ rest) full)))

-- ---- the difference is what is under way

difference : (w : ℕ → ℕ) (is : List Interval) (a : ℕ) (done : List Edge) (e : Edge) (rest : List Edge) → AreEdges is (done ++ e ∷ rest)
    → last_of (edge_times done) ≡ Some a → a < e.time
    → sum_by (weighed (is_under_way a e.time) (interval_weight w)) is + sum_by (weighed is_end (edge_weight w)) done
    ≡ sum_by (weighed is_begin (edge_weight w)) done
difference w is a done e rest h last l =
    let by : AllBy a done = front_by a done e rest h.rise last in
    let after : AllAfter a (e ∷ rest) = rest_after a done e rest h.rise l in
    let begins : sum_by (weighed is_begin (edge_weight w)) done ≡ sum_by (weighed (λ (i : Interval). leb i.begin a) (interval_weight w)) is =
    sym (split_sum is_begin (edge_weight w) a done (e ∷ rest) by after)
    ∙ (sum_by-IsPermutation (weighed (is_begin_by a) (edge_weight w)) (edges_of is) (done ++ e ∷ rest) h.all ∙ begins_sum w a is) in
    let ends : sum_by (weighed is_end (edge_weight w)) done ≡ sum_by (weighed (λ (i : Interval). leb i.end a) (interval_weight w)) is =
    sym (split_sum is_end (edge_weight w) a done (e ∷ rest) by after)
    ∙ (sum_by-IsPermutation (weighed (is_end_by a) (edge_weight w)) (edges_of is) (done ++ e ∷ rest) h.all ∙ ends_sum w a is) in
    rw (begins, ends) (under_way_sum w a e.time is l h.ordered (apart is a done e rest h by))

-- ---- the stretch

places_weighed : (p : Interval → Bool) (is : List Interval) → sum_by (λ (i : Interval). i.place) (filter p is) ≡ sum_by (weighed p (interval_weight itself)) is
places_weighed p is = filtered_sum p (λ i. i.place) is

sub_is : (n e b : ℕ) → n + e ≡ b → n ≡ b - e
sub_is n e b h = omega arith

number_is : (is : List Interval) (a : ℕ) (done : List Edge) (e : Edge) (rest : List Edge) (running : Running) (stretches : List Stretch) (last : Option ℕ)
    → AreEdges is (done ++ e ∷ rest) → IsSweptSoFar is done running last stretches → last ≡ Some a → a < e.time
    → count_by (is_under_way a e.time) is + running.ended ≡ running.begun
number_is is a done e rest running stretches last h k at l =
    rw (k.ended, k.begun) (difference one is a done e rest h (sym k.last ∙ at) l)

places_is : (is : List Interval) (a : ℕ) (done : List Edge) (e : Edge) (rest : List Edge) (running : Running) (stretches : List Stretch) (last : Option ℕ)
    → AreEdges is (done ++ e ∷ rest) → IsSweptSoFar is done running last stretches → last ≡ Some a → a < e.time
    → sum_by (λ (i : Interval). i.place) (filter (is_under_way a e.time) is) + running.ended_places ≡ running.begun_places
places_is is a done e rest running stretches last h k at l =
    rw (places_weighed (is_under_way a e.time) is, k.ended_places, k.begun_places) (difference itself is a done e rest h (sym k.last ∙ at) l)

pub stretch_is : (is : List Interval) (a : ℕ) (done : List Edge) (e : Edge) (rest : List Edge) (running : Running) (stretches : List Stretch) (last : Option ℕ)
    → AreEdges is (done ++ e ∷ rest) → IsSweptSoFar is done running last stretches → last ≡ Some a → a < e.time
    → running_stretch running a e.time ≡ stretch_of is a e.time
stretch_is is a done e rest running stretches last h k at l =
    let under = is_under_way a e.time in
    let number : count_by under is ≡ running.begun - running.ended = sub_is _ _ _ (number_is is a done e rest running stretches last h k at l) in
    let places : sum_by (λ (i : Interval). i.place) (filter under is) ≡ running.begun_places - running.ended_places = sub_is _ _ _ (places_is is a done e rest running stretches last h k at l) in
    let only : only_place (filter under is) ≡ cond (eqb (running.begun - running.ended) 1) (Some (running.begun_places - running.ended_places)) None =
    only_sum (filter under is) ∙ ap₂ (λ (n p : ℕ). cond (eqb n 1) (Some p) None) (length-filter under is ∙ number) places in
    rw (number, only) refl

-- ---- where the stretch may be made

abbrev pub AreSmall : List Interval → Type 0
AreSmall is = AllByRecursion IsSmallInterval is

filtered_small : (p : Interval → Bool) (is : List Interval) → AreSmall is → AreSmall (filter p is)
filtered_small p [] h = tt
filtered_small p (i ∷ is) h =
    ⊎_elim (λ (yes : p i ≡ true). rw yes (h.0, filtered_small p is h.1)) (λ (no : p i ≡ false). rw no (filtered_small p is h.1)) (cases_Bool (p i))

only_small : (is : List Interval) → AreSmall is → length is ≡ 1 → sum_by (λ (i : Interval). i.place) is < 2 ^ 64
only_small [] h e = omega arith
only_small (i ∷ []) h e = let small : i.place < 2 ^ 64 = h.0.place in omega arith
only_small (i ∷ (j ∷ is)) h e = absurd (omega arith)

pub is_ready : (is : List Interval) (a : ℕ) (done : List Edge) (e : Edge) (rest : List Edge) (running : Running) (stretches : List Stretch) (last : Option ℕ)
    → AreSmall is → AreEdges is (done ++ e ∷ rest) → IsSweptSoFar is done running last stretches → last ≡ Some a → a < e.time → IsReady running
is_ready is a done e rest running stretches last small h k at l =
    let under = is_under_way a e.time in
    let number = number_is is a done e rest running stretches last h k at l in
    let places = places_is is a done e rest running stretches last h k at l in
    record {
      number = omega (arith, number);
      places = omega (arith, places);
      place = λ lone.
          let count : length (filter under is) ≡ 1 = length-filter under is ∙ (sub_is _ _ _ number ∙ lone) in
          let below = only_small (filter under is) (filtered_small under is small) count in
          omega (arith, below, places);
    }

-- ---- one edge more

pushed_is : (is : List Interval) (done : List Edge) (e : Edge) (rest : List Edge) (running : Running) (stretches : List Stretch) (last : Option ℕ)
    → AreEdges is (done ++ e ∷ rest) → IsSweptSoFar is done running last stretches → (o : Option ℕ) → last ≡ o → pushed running o e.time ≡ plain.pushed is o e.time
pushed_is is done e rest running stretches last h k None at = refl
pushed_is is done e rest running stretches last h k (Some a) at =
    let below : a ≤ e.time = last_below a done e rest h.rise (sym k.last ∙ at) in
    ⊎_elim
    (λ (less : a < e.time). rw (lt-ltb a e.time less, ne_eqb a e.time (λ same. omega arith)) (ap (λ s. s ∷ []) (stretch_is is a done e rest running stretches last h k at less)))
    (λ (same : e.time ≤ a). rw (le-ltb a e.time same, eq-eqb a e.time (omega arith)) refl)
    (cases_lt a e.time)

sum_more : (kind : Edge → Bool) (w : ℕ → ℕ) (done : List Edge) (e : Edge) (n : ℕ) → n ≡ sum_by (weighed kind (edge_weight w)) done
    → n + cond (kind e) (w e.place) 0 ≡ sum_by (weighed kind (edge_weight w)) (done ++ e ∷ [])
sum_more kind w done e n h = rw (sum_by_push (weighed kind (edge_weight w)) done e) (ap (λ m. m + cond (kind e) (w e.place) 0) h)

last_push : (xs : List ℕ) (x : ℕ) → last_of (xs ++ x ∷ []) ≡ Some x
last_push [] x = refl
last_push (y ∷ []) x = refl
last_push (y ∷ (z ∷ zs)) x = last_push (z ∷ zs) x

times_push : (done : List Edge) (e : Edge) → edge_times (done ++ e ∷ []) ≡ edge_times done ++ e.time ∷ []
times_push done e = map-append time_of done (e ∷ [])

next_begun : (e : Edge) (r : Running) → (next_running e r).begun ≡ r.begun + cond (not e.is_end) 1 0
next_begun e r = ⊎_elim (λ (yes : e.is_end ≡ true). rw yes (omega arith)) (λ (no : e.is_end ≡ false). rw no refl) (cases_Bool e.is_end)

next_ended : (e : Edge) (r : Running) → (next_running e r).ended ≡ r.ended + cond e.is_end 1 0
next_ended e r = ⊎_elim (λ (yes : e.is_end ≡ true). rw yes refl) (λ (no : e.is_end ≡ false). rw no (omega arith)) (cases_Bool e.is_end)

next_begun_places : (e : Edge) (r : Running) → (next_running e r).begun_places ≡ r.begun_places + cond (not e.is_end) e.place 0
next_begun_places e r = ⊎_elim (λ (yes : e.is_end ≡ true). rw yes (omega arith)) (λ (no : e.is_end ≡ false). rw no refl) (cases_Bool e.is_end)

next_ended_places : (e : Edge) (r : Running) → (next_running e r).ended_places ≡ r.ended_places + cond e.is_end e.place 0
next_ended_places e r = ⊎_elim (λ (yes : e.is_end ≡ true). rw yes refl) (λ (no : e.is_end ≡ false). rw no (omega arith)) (cases_Bool e.is_end)

pub so_far_more : (is : List Interval) (done : List Edge) (e : Edge) (rest : List Edge) (running : Running) (stretches : List Stretch) (last : Option ℕ)
    → AreEdges is (done ++ e ∷ rest) → IsSweptSoFar is done running last stretches
    → IsSweptSoFar is (done ++ e ∷ []) (next_running e running) (Some e.time) (stretches ++ pushed running last e.time)
so_far_more is done e rest running stretches last h k = record {
  stretches = rw (times_push done e, swept_more is (edge_times done) e.time)
      (ap₂ (λ (xs ys : List Stretch). xs ++ ys) k.stretches (pushed_is is done e rest running stretches last h k last refl ∙ ap (λ o. plain.pushed is o e.time) k.last));
  last = rw (times_push done e) (sym (last_push (edge_times done) e.time));
  begun = next_begun e running ∙ sum_more is_begin one done e running.begun k.begun;
  ended = next_ended e running ∙ sum_more is_end one done e running.ended k.ended;
  begun_places = next_begun_places e running ∙ sum_more is_begin itself done e running.begun_places k.begun_places;
  ended_places = next_ended_places e running ∙ sum_more is_end itself done e running.ended_places k.ended_places;
}

-- ---- at the end

has_edges : (n : ℕ) (is : List Interval) → list_any (λ (e : Edge). eqb n e.time) (edges_of is) ≡ has n (cuts is)
has_edges n [] = refl
has_edges n (i ∷ is) = ap (λ b. eqb n i.begin || (eqb n i.end || b)) (has_edges n is) ∙ sym (has_cuts n i is)

has_times : (n : ℕ) (es : List Edge) → has n (edge_times es) ≡ list_any (λ (e : Edge). eqb n e.time) es
has_times n [] = refl
has_times n (e ∷ es) = ap (λ b. eqb n e.time || b) (has_times n es)

pub so_far_all : (is : List Interval) (es : List Edge) (running : Running) (stretches : List Stretch) (last : Option ℕ)
    → AreEdges is es → IsSweptSoFar is es running last stretches → stretches ≡ stretches_of is
so_far_all is es running stretches last h k =
    k.stretches
    ∙ swept_all is (edge_times es) h.rise (λ n. has_times n es ∙ (sym (list_any-IsPermutation (λ (e : Edge). eqb n e.time) (edges_of is) es h.all) ∙ has_edges n is))

-- ---- what the calls give

ordered_from : (is : List Interval) → All IsOrdered is → AllOrdered is
ordered_from [] h = tt
ordered_from (i ∷ is) h = (h 0 i (omega arith), ordered_from is (λ k d l. h (suc k) d (omega arith)))

pub are_edges : (is : List Interval) (es fs : List Edge) → fs ≡ es → All IsOrdered is → IsPermutation (edges_of is) es → IsNonDecreasingBy time_of es → AreEdges is fs
are_edges is es fs same o p n = subst (AreEdges is) (sym same) (record { ordered = ordered_from is o; all = p; rise = rises_from es n })

cut_at : (es : List Edge) (i : ℕ) (d : Edge) → i < length es → es ≡ take i es ++ (get_or es i d ∷ drop (i + 1) es)
cut_at es i d l = sym (take-append-drop i es) ∙ ap (λ xs. take i es ++ xs) (drop_more es i d l)

pub edges_at : (is : List Interval) (es : List Edge) (i : ℕ) (d : Edge) → i < length es → AreEdges is es → AreEdges is (take i es ++ (get_or es i d ∷ drop (i + 1) es))
edges_at is es i d l h = subst (AreEdges is) (cut_at es i d l) h

edges_small : (is : List Interval) → AreSmall is → AllByRecursion (λ (e : Edge). e.place < 2 ^ 64) (edges_of is)
edges_small [] h = tt
edges_small (i ∷ is) h = (h.0.place, (h.0.place, edges_small is h.1))

pub place_small : (is : List Interval) (es : List Edge) → AreSmall is → AreEdges is es → (i : ℕ) (d : Edge) → i < length es → (get_or es i d).place < 2 ^ 64
place_small is es small h i d l =
    All-permutation (λ (e : Edge). e.place < 2 ^ 64) (edges_of is) es h.all (all_from (λ (e : Edge). e.place < 2 ^ 64) (edges_of is) (edges_small is small)) i d l

cond_le : (b : Bool) (n m : ℕ) → n + cond b m 0 ≤ n + m
cond_le true n m = omega arith
cond_le false n m = omega arith

pub begun_le : (e : Edge) (r : Running) → (next_running e r).begun ≤ r.begun + 1
begun_le e r = rw (next_begun e r) (cond_le (not e.is_end) r.begun 1)

pub ended_le : (e : Edge) (r : Running) → (next_running e r).ended ≤ r.ended + 1
ended_le e r = rw (next_ended e r) (cond_le e.is_end r.ended 1)

pub begun_places_le : (e : Edge) (r : Running) → (next_running e r).begun_places ≤ r.begun_places + e.place
begun_places_le e r = rw (next_begun_places e r) (cond_le (not e.is_end) r.begun_places e.place)

pub ended_places_le : (e : Edge) (r : Running) → (next_running e r).ended_places ≤ r.ended_places + e.place
ended_places_le e r = rw (next_ended_places e r) (cond_le e.is_end r.ended_places e.place)
