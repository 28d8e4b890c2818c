-- Sorting the joined lists of lanes gives an ordered interleaving of them, if the seconds of no
-- list fall.
use Rattle.std.proofs.Common.{◌≡◌, ◌≢◌, ℕ, zero, suc, ◌+◌, ◌<◌, ◌≤◌, Bool, true, false, List, [], ◌∷◌, ◌++◌, All, cond, sym, refl, ap, ◌∙◌, subst, ⊎_elim, ◌⊎◌, inl, inr, lt_of_not-le, arith, eq-eqb, ne_eqb, lt-ltb, le-ltb, leb, eqb, ◌&&◌, ◌||◌}
use Rattle.std.proofs.lemmas.Bool.Decides.{eqb_tells}
use Rattle.std.proofs.lemmas.Bool.{cases_lt, cases_eq, le-leb, lt-leb, cond-true, cond-false}
use Rattle.std.proofs.lemmas.List.{append-nil}
use Rattle.std.proofs.lemmas.List.Elements.{All-append, All-cons, All-head, All-nil, All-tail, All-weaker, filter-append}
use Rattle.std.specs.List.{range_with_len, flat_map}
use Rattle.apply_events.specs.Interleaving.{IsInterleaving}
use Rattle.apply_events.specs.declared.event.Event.{Event}
use Rattle.apply_events.specs.OfWorker.{of_worker}
use Rattle.apply_events.specs.Lanes.TimeLine.{Precedes, InOrder}
use Rattle.apply_events.specs.Lanes.Merging.{may_precede, insert, sorted, merged}
use Rattle.apply_events.proofs.TimeLines.Order.{here, elsewhere, nobody_else, unique}

-- ---- one event is put into its place

-- what the result of the test means
abbrev Emits : Event → Event → Bool → Type 0
Emits e f b = ((b ≡ true) × Precedes e f) ⊎ ((b ≡ false) × (f.at ≤ e.at) × (f.at ≡ e.at → f.worker < e.worker))

emits : (e f : Event) → Emits e f (may_precede e f)
emits e f = ⊎_elim
    (λ (lt : e.at < f.at). inl ((ap (λ b. b || (eqb e.at f.at && leb e.worker f.worker)) (lt-ltb e.at f.at lt), (omega arith, λ is. absurd (omega arith)))))
    (λ (ge : f.at ≤ e.at).
    let first = ap (λ b. b || (eqb e.at f.at && leb e.worker f.worker)) (le-ltb e.at f.at ge) in ⊎_elim
    (λ (is : e.at ≡ f.at).
    let second = ap (λ b. b && leb e.worker f.worker) (eq-eqb e.at f.at is) in ⊎_elim
    (λ (high : f.worker < e.worker). inr ((first ∙ second ∙ lt-leb e.worker f.worker high, ge, λ _. high)))
    (λ (low : e.worker ≤ f.worker). inl ((first ∙ second ∙ le-leb e.worker f.worker low, (omega arith, λ _. low))))
    (cases_lt f.worker e.worker))
    (λ (ne : e.at ≡ f.at → ⊥). inr ((first ∙ ap (λ b. b && leb e.worker f.worker) (ne_eqb e.at f.at ne), ge, λ is. absurd (ne (sym is)))))
    (cases_eq e.at f.at))
    (cases_lt e.at f.at)

all_insert : (P : Event → Type 0) (e : Event) (fs : List Event) → P e → All P fs → All P (insert e fs)
all_insert P e [] p all = All-cons P e [] p all
all_insert P e (f ∷ fs) p all =
    elim (may_precede e f) as (λ b. All P (cond b (e ∷ f ∷ fs) (f ∷ insert e fs))) [
      | true ↦ All-cons P e (f ∷ fs) p all
      | false ↦ All-cons P f (insert e fs) (All-head P f fs all) (all_insert P e fs p (All-tail P f fs all))
    ]

precedes_on : (e f g : Event) → Precedes e f → Precedes f g → Precedes e g
precedes_on e f g p q =
    let ef = p.0 in let fg = q.0 in (
      omega arith,
      λ is.
          let low = p.1 (omega arith) in let high = q.1 (omega arith) in omega arith,
    )

insert_in_order : (e : Event) (fs : List Event) → InOrder fs → InOrder (insert e fs)
insert_in_order e [] h = (All-nil (Precedes e), tt)
insert_in_order e (f ∷ fs) h = ⊎_elim
    (λ (c : _ × Precedes e f). subst InOrder (sym (cond-true (may_precede e f) (e ∷ f ∷ fs) (f ∷ insert e fs) c.0))
    (All-cons (Precedes e) f fs c.1 (All-weaker (Precedes f) (Precedes e) (λ g. precedes_on e f g c.1) fs h.0), h))
    (λ (c : (may_precede e f ≡ false) × (f.at ≤ e.at) × (f.at ≡ e.at → f.worker < e.worker)).
    subst InOrder (sym (cond-false (may_precede e f) (e ∷ f ∷ fs) (f ∷ insert e fs) c.0))
    (all_insert (Precedes f) e fs (c.1, λ is. let low = c.2 is in omega arith) h.0, insert_in_order e fs h.1))
    (emits e f)

-- e is no later than f where both are of one lane
abbrev Leads : Event → Event → Type 0
Leads e f = f.worker ≡ e.worker → e.at ≤ f.at

insert_parts : (w : ℕ) (e : Event) (fs : List Event) → All (Leads e) fs → of_worker w (insert e fs) ≡ of_worker w (e ∷ fs)
insert_parts w e [] h = refl
insert_parts w e (f ∷ fs) h = ⊎_elim
    (λ (c : _ × Precedes e f). ap (of_worker w) (cond-true (may_precede e f) (e ∷ f ∷ fs) (f ∷ insert e fs) c.0))
    (λ (c : (may_precede e f ≡ false) × (f.at ≤ e.at) × (f.at ≡ e.at → f.worker < e.worker)).
    let late = c.1 in
    let other : f.worker ≢ e.worker = λ is. (let early = All-head (Leads e) f fs h is in let low = c.2 (omega arith) in omega arith) in
    let rest = insert_parts w e fs (All-tail (Leads e) f fs h) in
    ap (of_worker w) (cond-false (may_precede e f) (e ∷ f ∷ fs) (f ∷ insert e fs) c.0) ∙ ⊎_elim
    (λ (d : _ × (f.worker ≡ w)).
    let is = d.1 in let not_e : e.worker ≢ w = (λ e_is. other (omega arith)) in
    here w f (insert e fs) is ∙ ap (λ l. f ∷ l) (rest ∙ elsewhere w e fs not_e) ∙ sym (here w f fs is) ∙ sym (elsewhere w e (f ∷ fs) not_e))
    (λ (d : _ × (f.worker ≢ w)). elsewhere w f (insert e fs) d.1 ∙ rest ∙ ⊎_elim
    (λ (k : _ × (e.worker ≡ w)). here w e fs k.1 ∙ ap (λ l. e ∷ l) (sym (elsewhere w f fs d.1)) ∙ sym (here w e (f ∷ fs) k.1))
    (λ (k : _ × (e.worker ≢ w)). elsewhere w e fs k.1 ∙ sym (elsewhere w f fs d.1) ∙ sym (elsewhere w e (f ∷ fs) k.1))
    (eqb_tells e.worker w))
    (eqb_tells f.worker w))
    (emits e f)

-- ---- all of them

-- no event is later than a later event of its lane
abbrev pub Own : List Event → Type 0
Own [] = Unit {0}
Own (e ∷ es) = All (Leads e) es × Own es

pub all_sorted : (P : Event → Type 0) (es : List Event) → All P es → All P (sorted es)
all_sorted P [] all = all
all_sorted P (e ∷ es) all = all_insert P e (sorted es) (All-head P e es all) (all_sorted P es (All-tail P e es all))

pub sorted_in_order : (es : List Event) → InOrder (sorted es)
sorted_in_order [] = tt
sorted_in_order (e ∷ es) = insert_in_order e (sorted es) (sorted_in_order es)

pub sorted_parts : (w : ℕ) (es : List Event) → Own es → of_worker w (sorted es) ≡ of_worker w es
sorted_parts w [] own = refl
sorted_parts w (e ∷ es) own =
    let rest = sorted_parts w es own.1 in
    insert_parts w e (sorted es) (all_sorted (Leads e) es own.0) ∙ ⊎_elim
    (λ (c : _ × (e.worker ≡ w)). here w e (sorted es) c.1 ∙ ap (λ l. e ∷ l) rest ∙ sym (here w e es c.1))
    (λ (c : _ × (e.worker ≢ w)). elsewhere w e (sorted es) c.1 ∙ rest ∙ sym (elsewhere w e es c.1))
    (eqb_tells e.worker w)

-- ---- the lists of lanes

-- the events of a lane from second `low` on: the seconds never fall, and each event names the lane
abbrev pub Rises : (lane low : ℕ) → List Event → Type 0
Rises lane low [] = Unit {0}
Rises lane low (e ∷ es) = (e.worker ≡ lane) × (low ≤ e.at) × Rises lane e.at es

pub rises_lower : (lane low mid : ℕ) (es : List Event) → low ≤ mid → Rises lane mid es → Rises lane low es
rises_lower lane low mid [] le h = tt
rises_lower lane low mid (e ∷ es) le h = (h.0, (let first = h.1 in omega arith), h.2)

-- each event is of the lane and no earlier
abbrev pub From : (lane low : ℕ) → Event → Type 0
From lane low f = (f.worker ≡ lane) × (low ≤ f.at)

pub rises_from : (lane low : ℕ) (es : List Event) → Rises lane low es → All (From lane low) es
rises_from lane low [] h = All-nil (From lane low)
rises_from lane low (e ∷ es) h =
    let first = h.1 in
    All-cons (From lane low) e es (h.0, h.1) (All-weaker (From lane e.at) (From lane low) (λ f p. (p.0, (let le = p.1 in omega arith))) es (rises_from lane e.at es h.2))

own_list : (lane low : ℕ) (es : List Event) → Rises lane low es → Own es
own_list lane low [] h = tt
own_list lane low (e ∷ es) h = (All-weaker (From lane e.at) (Leads e) (λ f p _. p.1) es (rises_from lane e.at es h.2), own_list lane e.at es h.2)

own_append : (lane : ℕ) (xs ys : List Event) → Own xs → All (λ x. x.worker ≡ lane) xs → Own ys → All (λ y. lane < y.worker) ys → Own (xs ++ ys)
own_append lane [] ys own named rest above = rest
own_append lane (x ∷ xs) ys own named rest above =
    let is : x.worker ≡ lane = All-head (λ (e : Event). e.worker ≡ lane) x xs named in (
      All-append (Leads x) xs ys own.0 (All-weaker (λ (y : Event). lane < y.worker) (Leads x) (λ y lt same. absurd (omega arith)) ys above),
      own_append lane xs ys own.1 (All-tail (λ (e : Event). e.worker ≡ lane) x xs named) rest above,
    )

-- the lists of n lanes, from one on
abbrev pub AllRise : (ℕ → List Event) → (a n : ℕ) → Type 0
AllRise list a n = (w : ℕ) → a ≤ w → w < a + n → Rises w 0 (list w)

abbrev joined : (ℕ → List Event) → ℕ → ℕ → List Event
joined list a n = flat_map list (range_with_len a n)

abbrev Within : ℕ → ℕ → Event → Type 0
Within a n f = (a ≤ f.worker) × (f.worker < a + n)

joined_within : (list : ℕ → List Event) (a n : ℕ) → AllRise list a n → All (Within a n) (joined list a n)
joined_within list a zero h = All-nil (Within a 0)
joined_within list a (suc n) h = All-append (Within a (suc n)) (list a) (joined list (a + 1) n)
    (All-weaker (From a 0) (Within a (suc n)) (λ f p. (let is = p.0 in omega arith, let is = p.0 in omega arith)) (list a) (rises_from a 0 (list a) (h a (omega arith) (omega arith))))
    (All-weaker (Within (a + 1) n) (Within a (suc n)) (λ f p. (let low = p.0 in omega arith, let high = p.1 in omega arith)) (joined list (a + 1) n) (joined_within list (a + 1) n (λ w low high. h w (omega arith) (omega arith))))

joined_own : (list : ℕ → List Event) (a n : ℕ) → AllRise list a n → Own (joined list a n)
joined_own list a zero h = tt
joined_own list a (suc n) h =
    let later : AllRise list (a + 1) n = λ w low high. h w (omega arith) (omega arith) in
    let first = h a (omega arith) (omega arith) in
    own_append a (list a) (joined list (a + 1) n) (own_list a 0 (list a) first) (All-weaker (From a 0) (λ (x : Event). x.worker ≡ a) (λ f p. p.0) (list a) (rises_from a 0 (list a) first))
    (joined_own list (a + 1) n later) (All-weaker (Within (a + 1) n) (λ (y : Event). a < y.worker) (λ f p. let low = p.0 in omega arith) (joined list (a + 1) n) (joined_within list (a + 1) n later))

all_of : (w : ℕ) (es : List Event) → All (λ e. e.worker ≡ w) es → of_worker w es ≡ es
all_of w [] h = refl
all_of w (e ∷ es) h = here w e es (All-head (λ (f : Event). f.worker ≡ w) e es h) ∙ ap (λ l. e ∷ l) (all_of w es (All-tail (λ (f : Event). f.worker ≡ w) e es h))

none_of : (w : ℕ) (es : List Event) → All (λ e. e.worker ≢ w) es → of_worker w es ≡ []
none_of w [] h = refl
none_of w (e ∷ es) h = elsewhere w e es (All-head (λ (f : Event). f.worker ≢ w) e es h) ∙ none_of w es (All-tail (λ (f : Event). f.worker ≢ w) e es h)

of_append : (w : ℕ) (xs ys : List Event) → of_worker w (xs ++ ys) ≡ of_worker w xs ++ of_worker w ys
of_append w xs ys = filter-append (λ (e : Event). eqb e.worker w) xs ys

joined_parts : (list : ℕ → List Event) (a n w : ℕ) → AllRise list a n → a ≤ w → w < a + n → of_worker w (joined list a n) ≡ list w
joined_parts list a zero w h low high = absurd (omega arith)
joined_parts list a (suc n) w h low high =
    let later : AllRise list (a + 1) n = λ v l m. h v (omega arith) (omega arith) in
    let first = rises_from a 0 (list a) (h a (omega arith) (omega arith)) in
    of_append w (list a) (joined list (a + 1) n) ∙ ⊎_elim
    (λ (c : _ × (a ≡ w)).
    let is = c.1 in
    ap (λ l. l ++ of_worker w (joined list (a + 1) n)) (all_of w (list a) (All-weaker (From a 0) (λ (f : Event). f.worker ≡ w) (λ f p. p.0 ∙ is) (list a) first))
    ∙ ap (λ l. list a ++ l) (none_of w (joined list (a + 1) n) (All-weaker (Within (a + 1) n) (λ (f : Event). f.worker ≢ w) (λ f p same. let lo = p.0 in absurd (omega arith)) (joined list (a + 1) n) (joined_within list (a + 1) n later)))
    ∙ append-nil (list a) ∙ ap list is)
    (λ (c : _ × (a ≢ w)).
    let ne = c.1 in let above : a < w = lt_of_not-le (λ le. ne (omega arith)) in
    ap (λ l. l ++ of_worker w (joined list (a + 1) n)) (none_of w (list a) (All-weaker (From a 0) (λ (f : Event). f.worker ≢ w) (λ f p same. ne (sym p.0 ∙ same)) (list a) first))
    ∙ joined_parts list (a + 1) n w later (omega arith) (omega arith))
    (eqb_tells a w)

pub merged_is : (n : ℕ) (list : ℕ → List Event) → AllRise list 0 n → IsInterleaving n list (merged n list)
merged_is n list h = record {
  named = all_sorted (λ e. e.worker < n) (joined list 0 n) (All-weaker (Within 0 n) (λ (e : Event). e.worker < n) (λ f p. let high = p.1 in omega arith) (joined list 0 n) (joined_within list 0 n h));
  parts = λ w lt. sorted_parts w (joined list 0 n) (joined_own list 0 n h) ∙ joined_parts list 0 n w h (omega arith) (omega arith);
}

pub merged_in_order : (n : ℕ) (list : ℕ → List Event) → InOrder (merged n list)
merged_in_order n list = sorted_in_order (joined list 0 n)

-- ---- the first of them

-- what holds of the events of each lane holds of each that is merged
pub all_parts : (P : Event → Type 0) (es : List Event) → ((w : ℕ) → All P (of_worker w es)) → All P es
all_parts P [] h = All-nil P
all_parts P (e ∷ es) h = All-cons P e es
    (All-head P e (of_worker e.worker es) (subst (All P) (here e.worker e es refl) (h e.worker)))
    (all_parts P es (λ w. ⊎_elim
    (λ (c : _ × (e.worker ≡ w)). All-tail P e (of_worker w es) (subst (All P) (here w e es c.1) (h w)))
    (λ (c : _ × (e.worker ≢ w)). subst (All P) (elsewhere w e es c.1) (h w))
    (eqb_tells e.worker w)))

-- one event comes before all that is merged, and is the first of its lane
pub first_is : (n : ℕ) (list rest : ℕ → List Event) (e : Event) → AllRise list 0 n → AllRise rest 0 n → e.worker < n
    → list e.worker ≡ e ∷ rest e.worker → ((w : ℕ) → w < n → w ≢ e.worker → list w ≡ rest w) → ((w : ℕ) → w < n → All (Precedes e) (rest w))
    → merged n list ≡ e ∷ merged n rest
first_is n list rest e h k lt own others low =
    let inner = merged_is n rest k in
    unique n list (merged n list) (e ∷ merged n rest) (merged_is n list h)
    (record {
      named = All-cons (λ (f : Event). f.worker < n) e (merged n rest) lt inner.named;
      parts = λ w less. ⊎_elim
          (λ (c : _ × (e.worker ≡ w)). here w e (merged n rest) c.1 ∙ ap (λ l. e ∷ l) (inner.parts w less) ∙ ap (λ v. e ∷ rest v) (sym c.1) ∙ sym own ∙ ap list c.1)
          (λ (c : _ × (e.worker ≢ w)). elsewhere w e (merged n rest) c.1 ∙ inner.parts w less ∙ sym (others w less (λ is. c.1 (sym is))))
          (eqb_tells e.worker w);
    })
    (merged_in_order n list) (
      all_parts (Precedes e) (merged n rest) (λ w. ⊎_elim
          (λ (less : w < n). subst (All (Precedes e)) (sym (inner.parts w less)) (low w less))
          (λ (ge : n ≤ w). subst (All (Precedes e)) (sym (nobody_else n (merged n rest) inner.named w ge)) (All-nil (Precedes e)))
          (cases_lt w n)),
      merged_in_order n rest,
    )

-- lists that are the same for each lane are merged to the same
pub merged_same : (n : ℕ) (list rest : ℕ → List Event) → AllRise list 0 n → AllRise rest 0 n → ((w : ℕ) → w < n → list w ≡ rest w) → merged n list ≡ merged n rest
merged_same n list rest h k same =
    let p = merged_is n list h in
    unique n rest (merged n list) (merged n rest) (record { named = p.named; parts = λ w lt. p.parts w lt ∙ same w lt }) (merged_is n rest k) (merged_in_order n list) (merged_in_order n rest)

pub merged_none : (n : ℕ) (list : ℕ → List Event) → ((w : ℕ) → w < n → list w ≡ []) → merged n list ≡ []
merged_none n list none = ap sorted (joined_none 0 n (λ w low high. none w (omega arith)))
  where
    joined_none : (a m : ℕ) → ((w : ℕ) → a ≤ w → w < a + m → list w ≡ []) → joined list a m ≡ []
    joined_none a zero h = refl
    joined_none a (suc m) h = ap (λ l. l ++ joined list (a + 1) m) (h a (omega arith) (omega arith)) ∙ joined_none (a + 1) m (λ w low high. h w (omega arith) (omega arith))
