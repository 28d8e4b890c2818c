-- What holds of a builder, change by change.
use Rattle.std.proofs.Common.{◌≡◌, ℕ, ◌+◌, ◌<◌, ◌≤◌, ℤ, List, [], ◌∷◌, ◌++◌, Bool, true, false, cond, length, min, Some, suc, zero, refl, sym, ap, ap₂, ◌∙◌, subst, ⊎_elim, arith}
use Rattle.std.specs.Prelude.{◌&&◌, nat_le, not, is_none}
use Rattle.std.specs.Str.{bytes_eq}
use Rattle.std.proofs.lemmas.Bool.{cases_Bool, and_parts, leb-false}
use Rattle.std.proofs.lemmas.List.{append-nil}
use Rattle.std.proofs.lemmas.List.Sums.{sum_by-cons, sum_by_push}
use Rattle.std.proofs.lemmas.Slice.Eq.{bytes_eq-Decides}
use Rattle.stream_timeline.specs.declared.reading.open_places.OpenPlaces.{OpenPlaces}
use Rattle.stream_timeline.specs.declared.reading.builder.TimelineBuilder.{TimelineBuilder}
use Rattle.stream_timeline.specs.Details.{DiagnosticRead}
use Rattle.stream_timeline.specs.OpenPlaces.{AreFilled, HoldsPlaces, index_bytes, places_at, places_bytes, text_bytes, without}
use Rattle.stream_timeline.specs.Steps.{StepRead, at_place, begun_step, ended, first_of, is_open_at, is_open_with, last_of, passes_at, places, places_from, has_open_provisioner, with_provisioner, with_provisioner_ended}
use Rattle.stream_timeline.specs.TimelineRead.{DiagnosticsRead, TimelineRead, max_lines, max_steps, with_begin, with_diagnostic, with_end, with_provisioner_begin, with_provisioner_end}
use Rattle.stream_timeline.specs.Building.{HasRead, IsReadingLine, added}
use Rattle.stream_timeline.proofs.Places.{places_apart, places_retained, places_left, places_push}

-- ---- counts fit

capped : (n lines : ℕ) → n < lines → lines ≤ max_lines → min (n + 1) 18446744073709551615 ≡ n + 1
capped n lines l m = omega arith

pub added_is : (d : DiagnosticRead) (ds : DiagnosticsRead) (lines : ℕ) → ds.count < lines → lines ≤ max_lines → added d ds ≡ with_diagnostic d ds
added_is d ds lines l m = rw (capped ds.count lines l m) refl

-- ---- what becomes of steps leaves their addresses

abbrev pub indexed : StepRead → ℕ
indexed s = text_bytes s.address + 32

pub placed_index : (k : ℕ) (f : StepRead → StepRead) (steps : List StepRead) → ((s : StepRead) → (f s).address ≡ s.address)
    → index_bytes (at_place k f steps) ≡ index_bytes steps
placed_index k f [] same = refl
placed_index zero f (s ∷ ss) same =
    sum_by-cons indexed (f s) ss ∙ (ap (λ (a : List ℕ). text_bytes a + 32 + index_bytes ss) (same s) ∙ sym (sum_by-cons indexed s ss))
placed_index (suc k) f (s ∷ ss) same =
    sum_by-cons indexed s (at_place k f ss) ∙ (ap (λ (n : ℕ). indexed s + n) (placed_index k f ss same) ∙ sym (sum_by-cons indexed s ss))

-- ---- what is told is known, and so are the places

pub held : (old new : TimelineBuilder) (t u : TimelineRead) → IsReadingLine old t → new.timeline ≡ u → HoldsPlaces new.opened u.steps → u.begun ≤ max_steps
    → u.lines ≡ t.lines → u.runs ≡ t.runs → u.passed_over ≤ t.lines → u.errors.count ≤ t.lines → u.warnings.count ≤ t.lines → HasRead new u
held old new t u h is at begun lines runs passed_over errors warnings = record {
  is = is;
  opened = at;
  begun = begun;
  lines = rw lines h.lines;
  runs = rw (runs, lines) h.runs;
  passed_over = rw lines passed_over;
  errors = rw lines errors;
  warnings = rw lines warnings;
}

pub less : (n m : ℕ) → n < m → n ≤ m
less n m l = omega arith

-- where not as many have begun as may, one more may
pub below_full : (begun : ℕ) (full : Bool) → full ≡ nat_le max_steps begun → full ≡ false → begun < max_steps
below_full begun full is room = leb-false max_steps begun (sym is ∙ room)

begun_more : (old : TimelineBuilder) (t : TimelineRead) → IsReadingLine old t → old.timeline.begun < max_steps → t.begun + 1 ≤ max_steps
begun_more old t h room = let same : old.timeline.begun ≡ t.begun = ap (λ (x : TimelineRead). x.begun) h.is in omega (arith, same, room)

-- the steps change, and neither the places of the open ones nor the addresses
pub retained_places : (opened : OpenPlaces) (before after : List StepRead) → ((a : List ℕ) → places (is_open_at a) after ≡ places (is_open_at a) before)
    → index_bytes after ≡ index_bytes before → HoldsPlaces opened before → HoldsPlaces opened after
retained_places opened before after same bytes h = record {
  places = λ a. h.places a ∙ sym (same a);
  filled = h.filled;
  bytes = rw bytes h.bytes;
}

-- a change of neither the steps nor the counts
pub extended_preserved : (old new : TimelineBuilder) (t u : TimelineRead) → IsReadingLine old t → new.timeline ≡ u → new.opened ≡ old.opened
    → ((a : List ℕ) → places (is_open_at a) u.steps ≡ places (is_open_at a) t.steps) → index_bytes u.steps ≡ index_bytes t.steps → u.begun ≤ max_steps → u.lines ≡ t.lines → u.runs ≡ t.runs → u.passed_over ≡ t.passed_over → u.errors.count ≤ t.lines → u.warnings.count ≤ t.lines
    → HasRead new u
extended_preserved old new t u h is at same bytes begun lines runs passed_over errors warnings =
    held old new t u h is (subst (λ (o : OpenPlaces). HoldsPlaces o u.steps) (sym at) (retained_places old.opened t.steps u.steps same bytes h.opened))
    begun lines runs (rw passed_over (less _ _ h.passed_over)) errors warnings

-- ---- a step begins

add_zero : (n : ℕ) → 0 + n ≡ n
add_zero n = omega arith

by_case : (b : Bool) (ps : List ℕ) (n : ℕ) → ps ++ cond b (n ∷ []) [] ≡ cond b (ps ++ n ∷ []) ps
by_case true ps n = refl
by_case false ps n = append-nil ps

pub begun_places : (address action : List ℕ) (line : ℕ) (m : ℤ) (steps : List StepRead) (a : List ℕ)
    → places (is_open_at a) (steps ++ begun_step line address action m ∷ []) ≡ cond (bytes_eq address a) (places (is_open_at a) steps ++ length steps ∷ []) (places (is_open_at a) steps)
begun_places address action line m steps a =
    places_push (is_open_at a) 0 steps (begun_step line address action m)
    ∙ (ap (λ (n : ℕ). places (is_open_at a) steps ++ cond (bytes_eq address a) (n ∷ []) []) (add_zero (length steps)) ∙ by_case (bytes_eq address a) (places (is_open_at a) steps) (length steps))

pub begun_preserved : (old new : TimelineBuilder) (t : TimelineRead) (address action : List ℕ) (m : ℤ) → IsReadingLine old t → old.timeline.begun < max_steps → new.timeline ≡ with_begin address action m old.timeline
    → ((a : List ℕ) → places_at new.opened a ≡ cond (bytes_eq address a) (places_at old.opened a ++ length old.timeline.steps ∷ []) (places_at old.opened a))
    → (AreFilled old.opened → AreFilled new.opened) → places_bytes new.opened ≤ places_bytes old.opened + (text_bytes address + 32)
    → HasRead new (with_begin address action m t)
begun_preserved old new t address action m h room is at filled bytes =
    held old new t (with_begin address action m t) h (is ∙ ap (with_begin address action m) h.is)
    (record {
      places = λ a. at a
          ∙ (ap₂ (λ (ps : List ℕ) (n : ℕ). cond (bytes_eq address a) (ps ++ n ∷ []) ps) (h.opened.places a) (ap (λ (x : TimelineRead). length x.steps) h.is)
          ∙ sym (begun_places address action t.lines m t.steps a));
      filled = filled h.opened.filled;
      bytes = let before = h.opened.bytes in omega (arith, before, bytes, sum_by_push indexed t.steps (begun_step t.lines address action m));
    })
    (begun_more old t h room) refl refl (less _ _ h.passed_over) (less _ _ h.errors) (less _ _ h.warnings)

-- ---- a step ends

passes_weaker : (p q : StepRead → Bool) → ((s : StepRead) → p s ≡ true → q s ≡ true) → (n : ℕ) (xs : List StepRead) → passes_at n p xs ≡ true → passes_at n q xs ≡ true
passes_weaker p q w n [] h = absurd cc
passes_weaker p q w zero (x ∷ xs) h = w x h
passes_weaker p q w (suc n) (x ∷ xs) h = passes_weaker p q w n xs h

-- the first place counted from `n` is that many after `n`
pub first_passes : (p : StepRead → Bool) (n k : ℕ) (xs : List StepRead) → first_of (places_from n p xs) ≡ Some k → (j : ℕ) × (k ≡ n + j) × (passes_at j p xs ≡ true)
first_passes p n k [] e = absurd cc
first_passes p n k (x ∷ xs) e =
    ⊎_elim
    (λ (yes : p x ≡ true).
    let here : Some n ≡ Some k = rw yes at e in
    let same : n ≡ k = cc in
    (0, omega arith, yes))
    (λ (out : p x ≡ false).
    let there = first_passes p (n + 1) k xs (rw out at e) in
    (suc there.0, omega (arith, there.1), there.2))
    (cases_Bool (p x))

other_address : (a b : List ℕ) (s : StepRead) → bytes_eq a b ≡ false → is_open_at a s ≡ true → is_open_at b s ≡ false
other_address a b s differ there =
    let parts = and_parts (is_none s.end) (bytes_eq s.address a) there in
    let same : s.address ≡ a = (bytes_eq-Decides s.address a).0 parts.1 in
    rw (parts.0, same) differ

not_both : (a b : Bool) → a ≡ false → b ≡ false → (not a && not b) ≡ true
not_both a b e g = rw (e, g) refl

pub ended_places : (a action : List ℕ) (failed : Bool) (m : ℤ) (steps : List StepRead) (k : ℕ) → first_of (places (is_open_with a action) steps) ≡ Some k → (b : List ℕ)
    → places (is_open_at b) (at_place k (ended m failed) steps) ≡ cond (bytes_eq a b) (without k (places (is_open_at b) steps)) (places (is_open_at b) steps)
ended_places a action failed m steps k e b =
    let there = first_passes (is_open_with a action) 0 k steps e in
    let at : k ≡ there.0 = there.1 ∙ add_zero there.0 in
    ⊎_elim
    (λ (yes : bytes_eq a b ≡ true).
    rw yes (places_left (is_open_at b) (ended m failed) (λ s. refl) 0 k steps ∙ ap (λ n. without n (places (is_open_at b) steps)) (add_zero k)))
    (λ (out : bytes_eq a b ≡ false).
    let passes : passes_at k (is_open_with a action) steps ≡ true = subst (λ (n : ℕ). passes_at n (is_open_with a action) steps ≡ true) (sym at) there.2 in
    let apart : passes_at k (λ s. not (is_open_at b s) && not (is_open_at b (ended m failed s))) steps ≡ true =
    passes_weaker (is_open_with a action) (λ s. not (is_open_at b s) && not (is_open_at b (ended m failed s)))
    (λ s h. not_both (is_open_at b s) (is_open_at b (ended m failed s)) (other_address a b s out (and_parts (is_open_at a s) (bytes_eq s.action action) h).0) refl) k steps passes in
    rw out (places_apart (is_open_at b) (ended m failed) 0 k steps apart))
    (cases_Bool (bytes_eq a b))

pub end_preserved : (old new : TimelineBuilder) (t : TimelineRead) (address action : List ℕ) (failed : Bool) (m : ℤ) (k : ℕ) → IsReadingLine old t
    → first_of (places (is_open_with address action) t.steps) ≡ Some k
    → new.timeline ≡ record old.timeline { steps = at_place k (ended m failed) old.timeline.steps }
    → ((b : List ℕ) → places_at new.opened b ≡ cond (bytes_eq address b) (without k (places_at old.opened b)) (places_at old.opened b))
    → (AreFilled old.opened → AreFilled new.opened) → places_bytes new.opened ≤ places_bytes old.opened
    → HasRead new (with_end address action failed m t)
end_preserved old new t address action failed m k h e is at filled bytes =
    rw e
    (held old new t (record t { steps = at_place k (ended m failed) t.steps }) h
    (is ∙ ap (λ (x : TimelineRead). record x { steps = at_place k (ended m failed) x.steps }) h.is)
    (record {
      places = λ b. at b
          ∙ (ap (λ (ps : List ℕ). cond (bytes_eq address b) (without k ps) ps) (h.opened.places b) ∙ sym (ended_places address action failed m t.steps k e b));
      filled = filled h.opened.filled;
      bytes = let before = h.opened.bytes in omega (arith, before, bytes, placed_index k (ended m failed) t.steps (λ s. refl));
    })
    h.begun refl refl (less _ _ h.passed_over) (less _ _ h.errors) (less _ _ h.warnings))

-- ---- provisioners

pub provisioner_begun_preserved : (old new : TimelineBuilder) (t : TimelineRead) (address name : List ℕ) (m : ℤ) (k : ℕ) → IsReadingLine old t
    → last_of (places (is_open_at address) t.steps) ≡ Some k → old.timeline.begun < max_steps
    → new.timeline ≡ record old.timeline { steps = at_place k (with_provisioner name m) old.timeline.steps; begun = old.timeline.begun + 1 }
    → new.opened ≡ old.opened → HasRead new (with_provisioner_begin address name m t)
provisioner_begun_preserved old new t address name m k h e room is at =
    rw e
    (extended_preserved old new t (record t { steps = at_place k (with_provisioner name m) t.steps; begun = t.begun + 1 }) h
    (is ∙ ap (λ (x : TimelineRead). record x { steps = at_place k (with_provisioner name m) x.steps; begun = x.begun + 1 }) h.is) at
    (λ a. places_retained (is_open_at a) (with_provisioner name m) (λ s. refl) 0 k t.steps) (placed_index k (with_provisioner name m) t.steps (λ s. refl)) (begun_more old t h room) refl refl refl (less _ _ h.errors) (less _ _ h.warnings))

pub provisioner_ended_preserved : (old new : TimelineBuilder) (t : TimelineRead) (address : List ℕ) (failed : Bool) (m : ℤ) (k : ℕ) → IsReadingLine old t
    → last_of (places (is_open_at address) t.steps) ≡ Some k → passes_at k has_open_provisioner old.timeline.steps ≡ true
    → new.timeline ≡ record old.timeline { steps = at_place k (with_provisioner_ended m failed) old.timeline.steps }
    → new.opened ≡ old.opened → HasRead new (with_provisioner_end address failed m t)
provisioner_ended_preserved old new t address failed m k h e passes is at =
    let there : passes_at k has_open_provisioner t.steps ≡ true = ap (λ (x : TimelineRead). passes_at k has_open_provisioner x.steps) (sym h.is) ∙ passes in
    rw (e, there)
    (extended_preserved old new t (record t { steps = at_place k (with_provisioner_ended m failed) t.steps }) h
    (is ∙ ap (λ (x : TimelineRead). record x { steps = at_place k (with_provisioner_ended m failed) x.steps }) h.is) at
    (λ a. places_retained (is_open_at a) (with_provisioner_ended m failed) (λ s. refl) 0 k t.steps) (placed_index k (with_provisioner_ended m failed) t.steps (λ s. refl)) h.begun refl refl refl (less _ _ h.errors) (less _ _ h.warnings))
