-- An error marks the steps that are open at its address.
use Rattle.std.proofs.Common.{◌≡◌, ℕ, ◌+◌, List, [], ◌∷◌, ◌++◌, true, false, length, map, Option, Some, None, refl, sym, ap, ap₂, ◌∙◌, subst, ⊎_elim, arith}
use Rattle.std.proofs.lemmas.Bool.{cases_Bool}
use Rattle.std.proofs.lemmas.List.{append_assoc}
use Rattle.std.proofs.lemmas.List.Sums.{sum_by-cons}
use Rattle.stream_timeline.specs.declared.reading.open_places.OpenPlaces.{OpenPlaces}
use Rattle.stream_timeline.specs.declared.reading.builder.TimelineBuilder.{TimelineBuilder}
use Rattle.stream_timeline.specs.Details.{DiagnosticRead}
use Rattle.stream_timeline.specs.OpenPlaces.{HoldsPlaces, index_bytes, places_at, text_bytes}
use Rattle.stream_timeline.specs.Steps.{StepRead, at_place, is_open_at, marked, marked_by_error, places, places_from}
use Rattle.stream_timeline.specs.TimelineRead.{TimelineRead, with_error}
use Rattle.stream_timeline.specs.Building.{HasRead, IsReadingLine, added, marked_at}
use Rattle.stream_timeline.proofs.Holding.{added_is, held, indexed, retained_places, less}
use Rattle.stream_timeline.proofs.Places.{places_mapped}

at_front : (front : List StepRead) (x : StepRead) (xs : List StepRead) → at_place (length front) marked (front ++ x ∷ xs) ≡ front ++ marked x ∷ xs
at_front [] x xs = refl
at_front (y ∷ ys) x xs = ap (λ zs. y ∷ zs) (at_front ys x xs)

one_on : (front : List StepRead) (y : StepRead) → length (front ++ y ∷ []) ≡ length front + 1
one_on [] y = omega arith
one_on (x ∷ xs) y = let rest = one_on xs y in omega (arith, rest)

marked_after : (a : List ℕ) (front xs : List StepRead)
    → marked_at (places_from (length front) (is_open_at a) xs) (front ++ xs) ≡ front ++ map (marked_by_error (Some a)) xs
marked_after a front [] = refl
marked_after a front (x ∷ xs) =
    ⊎_elim
    (λ (yes : is_open_at a x ≡ true).
    let rest = marked_after a (front ++ marked x ∷ []) xs in
    let there : marked_at (places_from (length front + 1) (is_open_at a) xs) ((front ++ marked x ∷ []) ++ xs) ≡ (front ++ marked x ∷ []) ++ map (marked_by_error (Some a)) xs =
    subst (λ (n : ℕ). marked_at (places_from n (is_open_at a) xs) ((front ++ marked x ∷ []) ++ xs) ≡ (front ++ marked x ∷ []) ++ map (marked_by_error (Some a)) xs) (one_on front (marked x)) rest in
    rw yes
    (ap (marked_at (places_from (length front + 1) (is_open_at a) xs)) (at_front front x xs ∙ sym (append_assoc front (marked x ∷ []) xs)) ∙ (there ∙ append_assoc front (marked x ∷ []) (map (marked_by_error (Some a)) xs))))
    (λ (out : is_open_at a x ≡ false).
    let rest = marked_after a (front ++ x ∷ []) xs in
    let there : marked_at (places_from (length front + 1) (is_open_at a) xs) ((front ++ x ∷ []) ++ xs) ≡ (front ++ x ∷ []) ++ map (marked_by_error (Some a)) xs =
    subst (λ (n : ℕ). marked_at (places_from n (is_open_at a) xs) ((front ++ x ∷ []) ++ xs) ≡ (front ++ x ∷ []) ++ map (marked_by_error (Some a)) xs) (one_on front x) rest in
    rw out
    (ap (marked_at (places_from (length front + 1) (is_open_at a) xs)) (sym (append_assoc front (x ∷ []) xs)) ∙ (there ∙ append_assoc front (x ∷ []) (map (marked_by_error (Some a)) xs))))
    (cases_Bool (is_open_at a x))

marked_all : (a : List ℕ) (steps : List StepRead) → marked_at (places (is_open_at a) steps) steps ≡ map (marked_by_error (Some a)) steps
marked_all a steps = marked_after a [] steps

none_marked : (steps : List StepRead) → map (marked_by_error None) steps ≡ steps
none_marked [] = refl
none_marked (s ∷ ss) = ap (λ xs. s ∷ xs) (none_marked ss)

still_open : (address : Option (List ℕ)) (b : List ℕ) (s : StepRead) → is_open_at b (marked_by_error address s) ≡ is_open_at b s
still_open None b s = refl
still_open (Some a) b s =
    ⊎_elim (λ (yes : is_open_at a s ≡ true). rw yes refl) (λ (out : is_open_at a s ≡ false). rw out refl) (cases_Bool (is_open_at a s))

same_address : (address : Option (List ℕ)) (s : StepRead) → (marked_by_error address s).address ≡ s.address
same_address None s = refl
same_address (Some a) s =
    ⊎_elim (λ (yes : is_open_at a s ≡ true). rw yes refl) (λ (out : is_open_at a s ≡ false). rw out refl) (cases_Bool (is_open_at a s))

marked_index : (address : Option (List ℕ)) (steps : List StepRead) → index_bytes (map (marked_by_error address) steps) ≡ index_bytes steps
marked_index address [] = refl
marked_index address (s ∷ ss) =
    sum_by-cons indexed (marked_by_error address s) (map (marked_by_error address) ss)
    ∙ (ap₂ (λ (a : List ℕ) (n : ℕ). text_bytes a + 32 + n) (same_address address s) (marked_index address ss) ∙ sym (sum_by-cons indexed s ss))

error_preserved : (old new : TimelineBuilder) (t : TimelineRead) (address : Option (List ℕ)) (d : DiagnosticRead) → IsReadingLine old t
    → new.timeline ≡ record old.timeline { errors = added d old.timeline.errors; steps = map (marked_by_error address) old.timeline.steps }
    → new.opened ≡ old.opened → HasRead new (with_error address d t)
error_preserved old new t address d h is at =
    let timeline : record old.timeline { errors = added d old.timeline.errors; steps = map (marked_by_error address) old.timeline.steps } ≡ with_error address d t =
    ap (λ (x : TimelineRead). record x { errors = added d x.errors; steps = map (marked_by_error address) x.steps }) h.is
    ∙ ap (λ e. record t { errors = e; steps = map (marked_by_error address) t.steps }) (added_is d t.errors t.lines h.errors h.lines) in
    held old new t (with_error address d t) h (is ∙ timeline)
    (subst (λ (o : OpenPlaces). HoldsPlaces o (map (marked_by_error address) t.steps)) (sym at)
    (retained_places old.opened t.steps (map (marked_by_error address) t.steps)
    (λ a. places_mapped (is_open_at a) (marked_by_error address) (still_open address a) 0 t.steps) (marked_index address t.steps) h.opened))
    h.begun refl refl (less _ _ h.passed_over) (omega (arith, h.errors)) (less _ _ h.warnings)

pub error_at_preserved : (old new : TimelineBuilder) (t : TimelineRead) (a : List ℕ) (d : DiagnosticRead) → IsReadingLine old t
    → new.timeline ≡ record old.timeline { errors = added d old.timeline.errors; steps = marked_at (places_at old.opened a) old.timeline.steps }
    → new.opened ≡ old.opened → HasRead new (with_error (Some a) d t)
error_at_preserved old new t a d h is at =
    let steps : marked_at (places_at old.opened a) old.timeline.steps ≡ map (marked_by_error (Some a)) old.timeline.steps =
    ap (λ ps. marked_at ps old.timeline.steps) (h.opened.places a ∙ ap (λ (x : TimelineRead). places (is_open_at a) x.steps) (sym h.is)) ∙ marked_all a old.timeline.steps in
    error_preserved old new t (Some a) d h (is ∙ ap (λ ss. record old.timeline { errors = added d old.timeline.errors; steps = ss }) steps) at

pub error_alone_preserved : (old new : TimelineBuilder) (t : TimelineRead) (d : DiagnosticRead) → IsReadingLine old t
    → new.timeline ≡ record old.timeline { errors = added d old.timeline.errors }
    → new.opened ≡ old.opened → HasRead new (with_error None d t)
error_alone_preserved old new t d h is at =
    error_preserved old new t None d h (is ∙ ap (λ ss. record old.timeline { errors = added d old.timeline.errors; steps = ss }) (sym (none_marked old.timeline.steps))) at
