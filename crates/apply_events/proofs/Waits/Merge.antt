-- Sorting the joined lists of lanes by time and lane gives an ordered interleaving of them, if the
-- times of no list fall.
use Rattle.std.proofs.Common.{◌≡◌, ◌≢◌, ℕ, zero, suc, ◌+◌, ◌<◌, ◌≤◌, Bool, true, false, List, [], ◌∷◌, ◌++◌, All, cond, sym, refl, ap, ◌∙◌, subst, ⊎_elim, ◌⊎◌, inl, inr, arith, eq-eqb, ne_eqb, le-ltb, leb, ltb, eqb, ◌&&◌, ◌||◌}
use Rattle.std.proofs.lemmas.Bool.Decides.{eqb_tells}
use Rattle.std.proofs.lemmas.Bool.{cases_lt, le-leb, lt-leb, cond-true, cond-false, true≢false}
use Rattle.std.proofs.lemmas.List.{append-nil}
use Rattle.std.proofs.lemmas.List.Elements.{All-append, All-cons, All-contains_itself, All-head, All-nil, All-tail, All-weaker, filter-append}
use Rattle.std.specs.List.{Contains, range_with_len, flat_map}
use Rattle.apply_events.specs.Interleaving.{IsInterleaving}
use Rattle.apply_events.specs.declared.event.Event.{Event}
use Rattle.apply_events.specs.OfWorker.{of_worker}
use Rattle.apply_events.specs.Waits.Merging.{insert, is_same_lane_time, may_precede, merged, sorted}
use Rattle.apply_events.specs.declared.lanes.lane_time.LaneTime.{LaneTime}
use Rattle.apply_events.specs.Waits.LaneTime.{IsNoLater, is_earlier}
use Rattle.apply_events.specs.Waits.TimeLine.{InOrder, Precedes}
use Rattle.apply_events.proofs.TimeLines.Order.{elsewhere, here, nobody_else}
use Rattle.apply_events.proofs.TimeLines.Merge.{all_parts}
use Rattle.apply_events.proofs.Waits.Members.{in_head, in_tail}
use Rattle.apply_events.proofs.Waits.Moments.{no_later_both, no_later_on, no_later_refl, same_lane_time, emits}
use Rattle.apply_events.proofs.Waits.Order.{unique}

-- ---- tests

pub not_before_itself : (a : LaneTime) → is_earlier a a ≡ false
not_before_itself a =
    ap (λ t. t || (eqb a.second a.second && ltb a.round a.round)) (le-ltb a.second a.second (omega arith))
    ∙ ap (λ t. t && ltb a.round a.round) (eq-eqb a.second a.second refl) ∙ le-ltb a.round a.round (omega arith)

same_emits : (a b : LaneTime) → ((is_same_lane_time a b ≡ true) × (a ≡ b)) ⊎ ((is_same_lane_time a b ≡ false) × (a ≢ b))
same_emits a b = ⊎_elim
    (λ (c : _ × (a.second ≡ b.second)). ⊎_elim
    (λ (d : _ × (a.round ≡ b.round)). inl ((ap (λ t. t && eqb a.round b.round) (eq-eqb a.second b.second c.1) ∙ eq-eqb a.round b.round d.1, same_lane_time a b c.1 d.1)))
    (λ (d : _ × (a.round ≢ b.round)). inr ((ap (λ t. t && eqb a.round b.round) (eq-eqb a.second b.second c.1) ∙ ne_eqb a.round b.round d.1, λ is. d.1 (ap (λ (m : LaneTime). m.round) is))))
    (eqb_tells a.round b.round))
    (λ (c : _ × (a.second ≢ b.second)). inr ((ap (λ t. t && eqb a.round b.round) (ne_eqb a.second b.second c.1), λ is. c.1 (ap (λ (m : LaneTime). m.second) is))))
    (eqb_tells a.second b.second)

module _ (when : Event → LaneTime) where
  -- what the result of the test means
  abbrev Before : Event → Event → Bool → Type 0
  Before e f t = ((t ≡ true) × Precedes when e f) ⊎ ((t ≡ false) × IsNoLater (when f) (when e) × (when f ≡ when e → f.worker < e.worker))

  before_is : (e f : Event) → Before e f (may_precede when e f)
  before_is e f =
      let a = when e in let b = when f in
      let rest = is_same_lane_time a b && leb e.worker f.worker in ⊎_elim
      (λ (c : (is_earlier a b ≡ true) × IsNoLater a b).
      inl ((ap (λ t. t || rest) c.0, (c.1, λ is. absurd (true≢false (sym c.0 ∙ ap (is_earlier a) (sym is) ∙ not_before_itself a))))))
      (λ (c : (is_earlier a b ≡ false) × IsNoLater b a). ⊎_elim
      (λ (d : _ × (a ≡ b)).
      let test = ap (λ t. t || rest) c.0 ∙ ap (λ t. t && leb e.worker f.worker) d.0 in ⊎_elim
      (λ (high : f.worker < e.worker). inr ((test ∙ lt-leb e.worker f.worker high, c.1, λ _. high)))
      (λ (low : e.worker ≤ f.worker). inl ((test ∙ le-leb e.worker f.worker low, (subst (IsNoLater a) d.1 (no_later_refl a), λ _. low))))
      (cases_lt f.worker e.worker))
      (λ (d : _ × (a ≢ b)). inr ((ap (λ t. t || rest) c.0 ∙ ap (λ t. t && leb e.worker f.worker) d.0, c.1, λ is. absurd (d.1 (sym is)))))
      (same_emits a b))
      (emits a b)

  -- ---- one event is put into its place

  all_insert : (P : Event → Type 0) (e : Event) (fs : List Event) → P e → All P fs → All P (insert when e fs)
  all_insert P e [] p all = All-cons P e [] p all
  all_insert P e (f ∷ fs) p all =
      elim (may_precede when e f) as (λ b. All P (cond b (e ∷ f ∷ fs) (f ∷ insert when e fs))) [
        | true ↦ All-cons P e (f ∷ fs) p all
        | false ↦ All-cons P f (insert when e fs) (All-head P f fs all) (all_insert P e fs p (All-tail P f fs all))
      ]

  precedes_on : (e f g : Event) → Precedes when e f → Precedes when f g → Precedes when e g
  precedes_on e f g p q = (
    no_later_on (when e) (when f) (when g) p.0 q.0,
    λ is.
        let ef : when e ≡ when f = no_later_both (when e) (when f) p.0 (subst (IsNoLater (when f)) (sym is) q.0) in
        let low = p.1 ef in let high = q.1 (sym ef ∙ is) in omega arith,
  )

  insert_in_order : (e : Event) (fs : List Event) → InOrder when fs → InOrder when (insert when e fs)
  insert_in_order e [] h = (All-nil (Precedes when e), tt)
  insert_in_order e (f ∷ fs) h = ⊎_elim
      (λ (c : _ × Precedes when e f). subst (InOrder when) (sym (cond-true (may_precede when e f) (e ∷ f ∷ fs) (f ∷ insert when e fs) c.0))
      (All-cons (Precedes when e) f fs c.1 (All-weaker (Precedes when f) (Precedes when e) (λ g. precedes_on e f g c.1) fs h.0), h))
      (λ (c : (may_precede when e f ≡ false) × IsNoLater (when f) (when e) × (when f ≡ when e → f.worker < e.worker)).
      subst (InOrder when) (sym (cond-false (may_precede when e f) (e ∷ f ∷ fs) (f ∷ insert when e fs) c.0))
      (all_insert (Precedes when f) e fs (c.1, λ is. let low = c.2 is in omega arith) h.0, insert_in_order e fs h.1))
      (before_is e f)

  -- e is no later than f where both are of one lane
  abbrev Leads : Event → Event → Type 0
  Leads e f = f.worker ≡ e.worker → IsNoLater (when e) (when f)

  insert_parts : (w : ℕ) (e : Event) (fs : List Event) → All (Leads e) fs → of_worker w (insert when e fs) ≡ of_worker w (e ∷ fs)
  insert_parts w e [] h = refl
  insert_parts w e (f ∷ fs) h = ⊎_elim
      (λ (c : _ × Precedes when e f). ap (of_worker w) (cond-true (may_precede when e f) (e ∷ f ∷ fs) (f ∷ insert when e fs) c.0))
      (λ (c : (may_precede when e f ≡ false) × IsNoLater (when f) (when e) × (when f ≡ when e → f.worker < e.worker)).
      let other : f.worker ≢ e.worker = λ is. (let low = c.2 (no_later_both (when f) (when e) c.1 (All-head (Leads e) f fs h is)) in absurd (omega arith)) in
      let rest = insert_parts w e fs (All-tail (Leads e) f fs h) in
      ap (of_worker w) (cond-false (may_precede when e f) (e ∷ f ∷ fs) (f ∷ insert when e fs) c.0) ∙ ⊎_elim
      (λ (d : _ × (f.worker ≡ w)).
      let is = d.1 in let not_e : e.worker ≢ w = (λ e_is. other (is ∙ sym e_is)) in
      here w f (insert when e fs) is ∙ ap (λ l. f ∷ l) (rest ∙ elsewhere w e fs not_e) ∙ sym (here w f fs is) ∙ sym (elsewhere w e (f ∷ fs) not_e))
      (λ (d : _ × (f.worker ≢ w)). elsewhere w f (insert when e fs) d.1 ∙ rest ∙ ⊎_elim
      (λ (k : _ × (e.worker ≡ w)). here w e fs k.1 ∙ ap (λ l. e ∷ l) (sym (elsewhere w f fs d.1)) ∙ sym (here w e (f ∷ fs) k.1))
      (λ (k : _ × (e.worker ≢ w)). elsewhere w e fs k.1 ∙ sym (elsewhere w f fs d.1) ∙ sym (elsewhere w e (f ∷ fs) k.1))
      (eqb_tells e.worker w))
      (eqb_tells f.worker w))
      (before_is e f)

  -- ---- all of them

  -- no event is later than a later event of its lane
  abbrev Own : List Event → Type 0
  Own [] = Unit {0}
  Own (e ∷ es) = All (Leads e) es × Own es

  all_sorted : (P : Event → Type 0) (es : List Event) → All P es → All P (sorted when es)
  all_sorted P [] all = all
  all_sorted P (e ∷ es) all = all_insert P e (sorted when es) (All-head P e es all) (all_sorted P es (All-tail P e es all))

  sorted_in_order : (es : List Event) → InOrder when (sorted when es)
  sorted_in_order [] = tt
  sorted_in_order (e ∷ es) = insert_in_order e (sorted when es) (sorted_in_order es)

  sorted_parts : (w : ℕ) (es : List Event) → Own es → of_worker w (sorted when es) ≡ of_worker w es
  sorted_parts w [] own = refl
  sorted_parts w (e ∷ es) own =
      let rest = sorted_parts w es own.1 in
      insert_parts w e (sorted when es) (all_sorted (Leads e) es own.0) ∙ ⊎_elim
      (λ (c : _ × (e.worker ≡ w)). here w e (sorted when es) c.1 ∙ ap (λ l. e ∷ l) rest ∙ sym (here w e es c.1))
      (λ (c : _ × (e.worker ≢ w)). elsewhere w e (sorted when es) c.1 ∙ rest ∙ sym (elsewhere w e es c.1))
      (eqb_tells e.worker w)

  -- ---- the lists of lanes

  -- the events of a lane, whose times never fall
  abbrev pub Rises : (lane : ℕ) → List Event → Type 0
  Rises lane [] = Unit {0}
  Rises lane (e ∷ es) = (e.worker ≡ lane) × All (λ f. IsNoLater (when e) (when f)) es × Rises lane es

  pub rises_named : (lane : ℕ) (es : List Event) → Rises lane es → All (λ e. e.worker ≡ lane) es
  rises_named lane [] h = All-nil _
  rises_named lane (e ∷ es) h = All-cons (λ (f : Event). f.worker ≡ lane) e es h.0 (rises_named lane es h.2)

  pub rises_append : (lane : ℕ) (xs ys : List Event) → Rises lane xs → Rises lane ys → ((x y : Event) → Contains xs x → Contains ys y → IsNoLater (when x) (when y)) → Rises lane (xs ++ ys)
  rises_append lane [] ys p q cross = q
  rises_append lane (x ∷ xs) ys p q cross = (
    p.0,
    All-append (λ f. IsNoLater (when x) (when f)) xs ys p.1 (All-weaker (Contains ys) (λ f. IsNoLater (when x) (when f)) (λ y there. cross x y (in_head x xs) there) ys (All-contains_itself ys)),
    rises_append lane xs ys p.2 q (λ a b there. cross a b (in_tail x xs a there)),
  )

  own_list : (lane : ℕ) (es : List Event) → Rises lane es → Own es
  own_list lane [] h = tt
  own_list lane (e ∷ es) h = (All-weaker (λ (f : Event). IsNoLater (when e) (when f)) (Leads e) (λ f p _. p) es h.1, own_list lane es h.2)

  own_append : (lane : ℕ) (xs ys : List Event) → Own xs → All (λ x. x.worker ≡ lane) xs → Own ys → All (λ y. lane < y.worker) ys → Own (xs ++ ys)
  own_append lane [] ys own named rest above = rest
  own_append lane (x ∷ xs) ys own named rest above =
      let is : x.worker ≡ lane = All-head (λ (e : Event). e.worker ≡ lane) x xs named in (
        All-append (Leads x) xs ys own.0 (All-weaker (λ (y : Event). lane < y.worker) (Leads x) (λ y lt same. absurd (omega arith)) ys above),
        own_append lane xs ys own.1 (All-tail (λ (e : Event). e.worker ≡ lane) x xs named) rest above,
      )

  -- the lists of n lanes, from one on
  abbrev pub AllRise : (ℕ → List Event) → (a n : ℕ) → Type 0
  AllRise list a n = (w : ℕ) → a ≤ w → w < a + n → Rises w (list w)

  abbrev joined : (ℕ → List Event) → ℕ → ℕ → List Event
  joined list a n = flat_map list (range_with_len a n)

  abbrev Within : ℕ → ℕ → Event → Type 0
  Within a n f = (a ≤ f.worker) × (f.worker < a + n)

  joined_within : (list : ℕ → List Event) (a n : ℕ) → AllRise list a n → All (Within a n) (joined list a n)
  joined_within list a zero h = All-nil (Within a 0)
  joined_within list a (suc n) h = All-append (Within a (suc n)) (list a) (joined list (a + 1) n)
      (All-weaker (λ (f : Event). f.worker ≡ a) (Within a (suc n)) (λ f is. (omega arith, omega arith)) (list a) (rises_named a (list a) (h a (omega arith) (omega arith))))
      (All-weaker (Within (a + 1) n) (Within a (suc n)) (λ f p. (let low = p.0 in omega arith, let high = p.1 in omega arith)) (joined list (a + 1) n) (joined_within list (a + 1) n (λ w low high. h w (omega arith) (omega arith))))

  joined_own : (list : ℕ → List Event) (a n : ℕ) → AllRise list a n → Own (joined list a n)
  joined_own list a zero h = tt
  joined_own list a (suc n) h =
      let later : AllRise list (a + 1) n = λ w low high. h w (omega arith) (omega arith) in
      let first = h a (omega arith) (omega arith) in
      own_append a (list a) (joined list (a + 1) n) (own_list a (list a) first) (rises_named a (list a) first)
      (joined_own list (a + 1) n later) (All-weaker (Within (a + 1) n) (λ (y : Event). a < y.worker) (λ f p. let low = p.0 in omega arith) (joined list (a + 1) n) (joined_within list (a + 1) n later))

  all_of : (w : ℕ) (es : List Event) → All (λ e. e.worker ≡ w) es → of_worker w es ≡ es
  all_of w [] h = refl
  all_of w (e ∷ es) h = here w e es (All-head (λ (f : Event). f.worker ≡ w) e es h) ∙ ap (λ l. e ∷ l) (all_of w es (All-tail (λ (f : Event). f.worker ≡ w) e es h))

  none_of : (w : ℕ) (es : List Event) → All (λ e. e.worker ≢ w) es → of_worker w es ≡ []
  none_of w [] h = refl
  none_of w (e ∷ es) h = elsewhere w e es (All-head (λ (f : Event). f.worker ≢ w) e es h) ∙ none_of w es (All-tail (λ (f : Event). f.worker ≢ w) e es h)

  of_append : (w : ℕ) (xs ys : List Event) → of_worker w (xs ++ ys) ≡ of_worker w xs ++ of_worker w ys
  of_append w xs ys = filter-append (λ (e : Event). eqb e.worker w) xs ys

  joined_parts : (list : ℕ → List Event) (a n w : ℕ) → AllRise list a n → a ≤ w → w < a + n → of_worker w (joined list a n) ≡ list w
  joined_parts list a zero w h low high = absurd (omega arith)
  joined_parts list a (suc n) w h low high =
      let later : AllRise list (a + 1) n = λ v l m. h v (omega arith) (omega arith) in
      let first = rises_named a (list a) (h a (omega arith) (omega arith)) in
      of_append w (list a) (joined list (a + 1) n) ∙ ⊎_elim
      (λ (c : _ × (a ≡ w)).
      let is = c.1 in
      ap (λ l. l ++ of_worker w (joined list (a + 1) n)) (all_of w (list a) (All-weaker (λ (f : Event). f.worker ≡ a) (λ (f : Event). f.worker ≡ w) (λ f p. p ∙ is) (list a) first))
      ∙ ap (λ l. list a ++ l) (none_of w (joined list (a + 1) n) (All-weaker (Within (a + 1) n) (λ (f : Event). f.worker ≢ w) (λ f p same. let lo = p.0 in absurd (omega arith)) (joined list (a + 1) n) (joined_within list (a + 1) n later)))
      ∙ append-nil (list a) ∙ ap list is)
      (λ (c : _ × (a ≢ w)).
      let ne = c.1 in
      ap (λ l. l ++ of_worker w (joined list (a + 1) n)) (none_of w (list a) (All-weaker (λ (f : Event). f.worker ≡ a) (λ (f : Event). f.worker ≢ w) (λ f p same. ne (sym p ∙ same)) (list a) first))
      ∙ joined_parts list (a + 1) n w later (let above : a ≢ w = ne in omega arith) (omega arith))
      (eqb_tells a w)

  pub merged_is : (n : ℕ) (list : ℕ → List Event) → AllRise list 0 n → IsInterleaving n list (merged when n list)
  merged_is n list h = record {
    named = all_sorted (λ e. e.worker < n) (joined list 0 n) (All-weaker (Within 0 n) (λ (e : Event). e.worker < n) (λ f p. let high = p.1 in omega arith) (joined list 0 n) (joined_within list 0 n h));
    parts = λ w lt. sorted_parts w (joined list 0 n) (joined_own list 0 n h) ∙ joined_parts list 0 n w h (omega arith) (omega arith);
  }

  pub merged_in_order : (n : ℕ) (list : ℕ → List Event) → InOrder when (merged when n list)
  merged_in_order n list = sorted_in_order (joined list 0 n)

  -- ---- the first of them

  -- one event comes before all that is merged, and is the first of its lane
  pub first_is : (n : ℕ) (list rest : ℕ → List Event) (e : Event) → AllRise list 0 n → AllRise rest 0 n → e.worker < n
      → list e.worker ≡ e ∷ rest e.worker → ((w : ℕ) → w < n → w ≢ e.worker → list w ≡ rest w) → ((w : ℕ) → w < n → All (Precedes when e) (rest w))
      → merged when n list ≡ e ∷ merged when n rest
  first_is n list rest e h k lt own others low =
      let inner = merged_is n rest k in
      unique when n list (merged when n list) (e ∷ merged when n rest) (merged_is n list h)
      (record {
        named = All-cons (λ (f : Event). f.worker < n) e (merged when n rest) lt inner.named;
        parts = λ w less. ⊎_elim
            (λ (c : _ × (e.worker ≡ w)). here w e (merged when n rest) c.1 ∙ ap (λ l. e ∷ l) (inner.parts w less) ∙ ap (λ v. e ∷ rest v) (sym c.1) ∙ sym own ∙ ap list c.1)
            (λ (c : _ × (e.worker ≢ w)). elsewhere w e (merged when n rest) c.1 ∙ inner.parts w less ∙ sym (others w less (λ is. c.1 (sym is))))
            (eqb_tells e.worker w);
      })
      (merged_in_order n list) (
        all_parts (Precedes when e) (merged when n rest) (λ w. ⊎_elim
            (λ (less : w < n). subst (All (Precedes when e)) (sym (inner.parts w less)) (low w less))
            (λ (ge : n ≤ w). subst (All (Precedes when e)) (sym (nobody_else n (merged when n rest) inner.named w ge)) (All-nil (Precedes when e)))
            (cases_lt w n)),
        merged_in_order n rest,
      )

  -- lists that are the same for each lane are merged to the same
  pub merged_same : (n : ℕ) (list rest : ℕ → List Event) → AllRise list 0 n → AllRise rest 0 n → ((w : ℕ) → w < n → list w ≡ rest w) → merged when n list ≡ merged when n rest
  merged_same n list rest h k same =
      let p = merged_is n list h in
      unique when n rest (merged when n list) (merged when n rest) (record { named = p.named; parts = λ w lt. p.parts w lt ∙ same w lt }) (merged_is n rest k) (merged_in_order n list) (merged_in_order n rest)

  pub merged_none : (n : ℕ) (list : ℕ → List Event) → ((w : ℕ) → w < n → list w ≡ []) → merged when n list ≡ []
  merged_none n list none = ap (sorted when) (joined_none 0 n (λ w low high. none w (omega arith)))
    where
      joined_none : (a m : ℕ) → ((w : ℕ) → a ≤ w → w < a + m → list w ≡ []) → joined list a m ≡ []
      joined_none a zero h = refl
      joined_none a (suc m) h = ap (λ l. l ++ joined list (a + 1) m) (h a (omega arith) (omega arith)) ∙ joined_none (a + 1) m (λ w low high. h w (omega arith) (omega arith))
