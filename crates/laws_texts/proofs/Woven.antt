-- Hook messages with the diagnostic of each end after it.
use Rattle.std.proofs.Common.{◌≡◌, ◌≢◌, ℕ, Bool, true, false, cond, List, [], ◌∷◌, ◌++◌, All, Option, Some, None, refl, sym, ap, ◌∙◌, ⊎_elim, eq-eqb, ne_eqb, eqb}
use Rattle.std.specs.Prelude.{filter, flat_map, filter_map, option_map, option_to_list}
use Rattle.std.specs.List.{cons_option}
use Rattle.std.proofs.lemmas.Bool.Decides.{eqb_tells}
use Rattle.std.proofs.lemmas.List.Concat.{flat_map-append}
use Rattle.std.proofs.lemmas.List.Elements.{All-append, All-cons, All-head, All-nil, All-tail, filter-append}
use Rattle.apply_model.specs.Script.Outcome.{fails}
use Rattle.apply_model.specs.Script.OutcomeMap.{OutcomeMap, outcome_of}
use Rattle.apply_events.specs.declared.event.Event.{Event}
use Rattle.apply_events.specs.declared.what.What.{What}
use Rattle.apply_events.specs.declared.what.What.TheVariants.{ErrorNote, WarnNote}
use Rattle.apply_events.specs.Diagnostics.{is_note}
use Rattle.apply_events.specs.OfWorker.{of_worker}
use Rattle.apply_events.specs.Step.{has_warning}
use Rattle.apply_events.specs.Totals.{is_halted}
use Rattle.apply_events.proofs.TimeLines.Order.{elsewhere, here}
use Rattle.apply_text.specs.Order.{notes_of}
use Rattle.laws_texts.specs.Notes.{ends_of, is_end, note_after, note_of}

abbrev pub with_what : Event → What → Event
with_what e what = record e { what = what }

put_before : {X : Type 0} (x : Option X) (xs : List X) → option_to_list x ++ xs ≡ cons_option x xs
put_before None xs = refl
put_before (Some x) xs = refl

-- the diagnostic of an end, if there is one, is a diagnostic
is_diagnostic : (fails warns : Bool) (e : Event)
    → notes_of (option_to_list (option_map (with_what e) (note_of fails warns))) ≡ option_to_list (option_map (with_what e) (note_of fails warns))
is_diagnostic true warns e = refl
is_diagnostic false true e = refl
is_diagnostic false false e = refl

-- what holds of an event, whatever happens but for a halt, holds of the diagnostic after it
of_note : (P : Event → Type 0) (fails warns : Bool) (e : Event) → ((what : What) → is_halted what ≡ false → P (with_what e what))
    → All P (option_to_list (option_map (with_what e) (note_of fails warns)))
of_note P true warns e holds = All-cons P (with_what e ErrorNote) [] (holds ErrorNote refl) (All-nil P)
of_note P false true e holds = All-cons P (with_what e WarnNote) [] (holds WarnNote refl) (All-nil P)
of_note P false false e holds = All-nil P

pub filter_kept : (p : Event → Bool) (es : List Event) → All (λ e. p e ≡ true) es → filter p es ≡ es
filter_kept p [] all = refl
filter_kept p (e ∷ es) all =
    ap (λ t. cond t (e ∷ filter p es) (filter p es)) (All-head (λ f. p f ≡ true) e es all)
    ∙ ap (λ l. e ∷ l) (filter_kept p es (All-tail (λ f. p f ≡ true) e es all))

pub filter_dropped : (p : Event → Bool) (es : List Event) → All (λ e. p e ≡ false) es → filter p es ≡ []
filter_dropped p [] all = refl
filter_dropped p (e ∷ es) all =
    ap (λ t. cond t (e ∷ filter p es) (filter p es)) (All-head (λ f. p f ≡ false) e es all)
    ∙ filter_dropped p es (All-tail (λ f. p f ≡ false) e es all)

module _ (script : OutcomeMap) where
  -- the event, and the diagnostic after it, if it ends a step that has one
  abbrev pub note_list : (ends : Bool) → Event → List Event
  note_list ends e = cond ends (option_to_list (note_after script e)) []

  abbrev pub with_note : Event → List Event
  with_note e = e ∷ note_list (is_end e.what) e

  abbrev pub woven : List Event → List Event
  woven es = flat_map with_note es

  pub woven-append : (es fs : List Event) → woven (es ++ fs) ≡ woven es ++ woven fs
  woven-append es fs = flat_map-append with_note es fs

  -- ---- the diagnostics among them

  notes_step : (ends : Bool) (e : Event) (rest es : List Event) → rest ≡ filter_map (note_after script) es
      → notes_of (note_list ends e) ++ rest ≡ filter_map (note_after script) (cond ends (e ∷ es) es)
  notes_step true e rest es is =
      let outcome = outcome_of script e.change e.step in
      ap (λ l. l ++ rest) (is_diagnostic (fails outcome) (has_warning outcome.result) e)
      ∙ ap (λ l. option_to_list (note_after script e) ++ l) is
      ∙ put_before (note_after script e) (filter_map (note_after script) es)
  notes_step false e rest es is = is

  pub notes_of_woven : (es : List Event) → All (λ e. is_note e.what ≡ false) es
      → notes_of (woven es) ≡ filter_map (note_after script) (ends_of es)
  notes_of_woven [] hooks = refl
  notes_of_woven (e ∷ es) hooks =
      let rest = notes_of_woven es (All-tail (λ (f : Event). is_note f.what ≡ false) e es hooks) in
      let after = note_list (is_end e.what) e in
      ap (λ t. cond t (e ∷ notes_of (after ++ woven es)) (notes_of (after ++ woven es))) (All-head (λ (f : Event). is_note f.what ≡ false) e es hooks)
      ∙ filter-append (λ (f : Event). is_note f.what) after (woven es)
      ∙ notes_step (is_end e.what) e (notes_of (woven es)) (ends_of es) rest

  -- ---- what holds of all of them

  holds_of_list : (P : Event → Type 0) (ends : Bool) (e : Event) → ((what : What) → is_halted what ≡ false → P (with_what e what)) → All P (note_list ends e)
  holds_of_list P true e holds =
      let outcome = outcome_of script e.change e.step in of_note P (fails outcome) (has_warning outcome.result) e holds
  holds_of_list P false e holds = All-nil P

  pub all_woven : (P : Event → Type 0) (es : List Event) → ((e : Event) (what : What) → is_halted what ≡ false → P e → P (with_what e what)) → All P es → All P (woven es)
  all_woven P [] keeps all = All-nil P
  all_woven P (e ∷ es) keeps all =
      let here = All-head P e es all in
      let after = note_list (is_end e.what) e in
      All-cons P e (after ++ woven es) here
      (All-append P after (woven es) (holds_of_list P (is_end e.what) e (λ what not_halted. keeps e what not_halted here)) (all_woven P es keeps (All-tail P e es all)))

  -- ---- the part of a worker

  own_part : (w : ℕ) (e : Event) → e.worker ≡ w → (ends : Bool) → of_worker w (note_list ends e) ≡ note_list ends e
  own_part w e is true = filter_kept (λ (f : Event). eqb f.worker w) (note_list true e) (holds_of_list (λ f. eqb f.worker w ≡ true) true e (λ what _. eq-eqb e.worker w is))
  own_part w e is false = refl

  no_part : (w : ℕ) (e : Event) → e.worker ≢ w → (ends : Bool) → of_worker w (note_list ends e) ≡ []
  no_part w e is true = filter_dropped (λ (f : Event). eqb f.worker w) (note_list true e) (holds_of_list (λ f. eqb f.worker w ≡ false) true e (λ what _. ne_eqb e.worker w is))
  no_part w e is false = refl

  pub part_of_woven : (w : ℕ) (es : List Event) → of_worker w (woven es) ≡ woven (of_worker w es)
  part_of_woven w [] = refl
  part_of_woven w (e ∷ es) =
      let after = note_list (is_end e.what) e in
      let both = filter-append (λ (f : Event). eqb f.worker w) after (woven es) in
      let rest = part_of_woven w es in ⊎_elim
      (λ (c : _ × (e.worker ≡ w)).
      here w e (after ++ woven es) c.1 ∙ ap (λ l. e ∷ l) (both ∙ ap (λ l. l ++ of_worker w (woven es)) (own_part w e c.1 (is_end e.what)) ∙ ap (λ l. after ++ l) rest)
      ∙ ap woven (sym (here w e es c.1)))
      (λ (c : _ × (e.worker ≢ w)).
      elsewhere w e (after ++ woven es) c.1 ∙ both ∙ ap (λ l. l ++ of_worker w (woven es)) (no_part w e c.1 (is_end e.what)) ∙ rest
      ∙ ap woven (sym (elsewhere w e es c.1)))
      (eqb_tells e.worker w)
