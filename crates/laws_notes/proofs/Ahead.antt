-- `record` gives each diagnostic no later than a step told it. It gives only warnings too early.
use Rattle.std.proofs.Common.{◌≡◌, ◌∙◌, ℕ, List, [], ◌∷◌, ◌++◌, append_assoc, Bool, true, false, cond, Option, None, Some, ⊎_elim, refl, sym}
use Rattle.std.specs.List.{AllByRecursion, cons_option, filter_map}
use Rattle.apply_model.specs.declared.details.note.Note.{Note}
use Rattle.stream_record_steps.specs.Begun.{Begun}
use Rattle.stream_record_outcomes.specs.Assignment.{Taker, taker_at}
use Rattle.laws_notes.specs.Told.{HasNote, HaveNotes}
use Rattle.laws_notes.proofs.Dealt.{dealt, goes, undealt}
use Rattle.laws_notes.proofs.Fitting.{HasFailed, IsCompleted, IsError, IsWarning, completed_or_failed, may_have, told_goes}

-- The steps to come told the diagnostics of `told`, and no step has those of `left` yet. Those that
-- steps have too early are warnings.
pub record IsAhead (told left : List Note) : Type 0 where
  pub ahead : List Note
  pub warnings : AllByRecursion IsWarning ahead
  pub are : told ≡ ahead ++ left

one_more : (ahead : List Note) (note : Note) → AllByRecursion IsWarning ahead → IsWarning note → AllByRecursion IsWarning (ahead ++ note ∷ [])
one_more [] note warnings is = (is, tt)
one_more (first ∷ ahead) note warnings is = (warnings.0, one_more ahead note warnings.1 is)

-- an error is not given ahead
error_is_next : (ahead : List Note) (note : Note) (rest left : List Note) → AllByRecursion IsWarning ahead → IsError note → note ∷ rest ≡ ahead ++ left → left ≡ note ∷ rest
error_is_next [] note rest left warnings is are = sym are
error_is_next (first ∷ ahead) note rest left warnings is are =
    let same : note ≡ first = cc in
    let warning : IsWarning note = rw same warnings.0 in absurd cc

-- ---- one step

module _ (rest left : List Note) where
  -- a step that needs none takes the next
  warning_taken : (own : Option Note) (note : Note) (ahead : List Note) → AllByRecursion IsWarning ahead → IsWarning note
      → cons_option own [] ++ rest ≡ ahead ++ note ∷ left → IsAhead rest left
  warning_taken None note ahead warnings is are = record {
    ahead = ahead ++ note ∷ [];
    warnings = one_more ahead note warnings is;
    are = are ∙ sym (append_assoc ahead (note ∷ []) left);
  }
  warning_taken (Some told) note [] warnings is are = record { ahead = []; warnings = tt; are = cc }
  warning_taken (Some told) note (first ∷ ahead) warnings is are = record {
    ahead = ahead ++ note ∷ [];
    warnings = one_more ahead note warnings.1 is;
    are = let same : rest ≡ ahead ++ note ∷ left = cc in same ∙ sym (append_assoc ahead (note ∷ []) left);
  }

  -- a step that needs none takes none
  none_taken : (own : Option Note) (ahead : List Note) → AllByRecursion IsWarning ahead → cons_option own [] ++ rest ≡ ahead ++ left
      → ((note : Note) → own ≡ Some note → left ≡ note ∷ rest → ⊥) → IsAhead rest left
  none_taken None ahead warnings are other = record { ahead = ahead; warnings = warnings; are = are }
  none_taken (Some note) [] warnings are other = absurd (other note refl (sym are))
  none_taken (Some note) (first ∷ ahead) warnings are other = record { ahead = ahead; warnings = warnings.1; are = cc }

module _ (is_default_form : Bool) (begun : Begun) (place : ℕ) (own : Option Note) (has : HasNote is_default_form begun place own) (rest : List Note) where
  -- a step takes the next, which fits it
  takes_next : (note : Note) (left : List Note) → goes (taker_at is_default_form begun place) note ≡ true
      → IsAhead (cons_option own [] ++ rest) (note ∷ left) → IsAhead rest left
  takes_next note left fit before = ⊎_elim
      (λ (completed : IsCompleted is_default_form begun place).
      warning_taken rest left own note before.ahead before.warnings (completed.warns note fit) before.are)
      (λ (failed : HasFailed is_default_form begun place own).
      let told = failed.told in
      let are : failed.note ∷ rest ≡ before.ahead ++ note ∷ left = rw told at before.are in
      let next = error_is_next before.ahead failed.note rest (note ∷ left) before.warnings failed.is_error are in
      record { ahead = []; warnings = tt; are = cc })
      (completed_or_failed is_default_form begun place own has)

  -- A step takes none: what it told, if anything, is not the next.
  pub record IsPassed (left : List Note) : Type 0 where
    pub has_none : HasNote is_default_form begun place None
    pub after : IsAhead rest left

  takes_none : (left : List Note) → ((note : Note) → own ≡ Some note → left ≡ note ∷ rest → ⊥)
      → IsAhead (cons_option own [] ++ rest) left → IsPassed left
  takes_none left other before = ⊎_elim
      (λ (completed : IsCompleted is_default_form begun place).
      record { has_none = completed.without; after = none_taken rest left own before.ahead before.warnings before.are other })
      (λ (failed : HasFailed is_default_form begun place own).
      let told = failed.told in
      let are : failed.note ∷ rest ≡ before.ahead ++ left = rw told at before.are in
      absurd (other failed.note told (error_is_next before.ahead failed.note rest left before.warnings failed.is_error are)))
      (completed_or_failed is_default_form begun place own has)

  none_is_left : IsAhead (cons_option own [] ++ rest) [] → IsPassed []
  none_is_left before = takes_none [] (λ note told next. absurd cc) before

  goes_past : (note : Note) (left : List Note) → goes (taker_at is_default_form begun place) note ≡ false
      → IsAhead (cons_option own [] ++ rest) (note ∷ left) → IsPassed (note ∷ left)
  goes_past note left unfit before =
      takes_none (note ∷ left)
      (λ other told next.
      let same : other ≡ note = cc in
      let owned : HasNote is_default_form begun place (Some other) = rw (← told) has in
      let fit : goes (taker_at is_default_form begun place) note ≡ true = rw (← same) (told_goes is_default_form begun place other owned) in
      absurd cc)
      before

-- ---- all steps

told_first : (own : Option Note) (told loose : List Note) → cons_option own told ++ loose ≡ cons_option own [] ++ (told ++ loose)
told_first None told loose = refl
told_first (Some note) told loose = refl

aligned : (own : Option Note) (told : List (Option Note)) (loose left : List Note) → IsAhead (filter_map (λ note. note) (own ∷ told) ++ loose) left
    → IsAhead (cons_option own [] ++ (filter_map (λ note. note) told ++ loose)) left
aligned own told loose left before = record {
  ahead = before.ahead;
  warnings = before.warnings;
  are = sym (told_first own (filter_map (λ note. note) told) loose) ∙ before.are;
}

nothing_after : (xs ys : List Note) → [] ≡ xs ++ ys → ys ≡ []
nothing_after [] ys is = sym is
nothing_after (x ∷ xs) ys is = absurd cc

module _ (is_default_form : Bool) (begun : Begun) where
  -- Each step that needs a diagnostic has one, and each diagnostic fits its step. If all are of
  -- steps, none is left.
  pub record AreWellDealt (places : List ℕ) (given : List (Option Note)) (loose left : List Note) : Type 0 where
    pub have : HaveNotes is_default_form begun places given
    pub none_left : loose ≡ [] → left ≡ []

  abbrev taker : ℕ → Option Taker
  taker = taker_at is_default_form begun

  pub well_dealt : (notes : List Note) (places : List ℕ) (told : List (Option Note)) (loose : List Note)
      → HaveNotes is_default_form begun places told → IsAhead (filter_map (λ note. note) told ++ loose) notes
      → AreWellDealt places (dealt taker notes places) loose (undealt taker notes places)
  well_dealt notes [] [] loose have before = record {
    have = tt;
    none_left = λ none. nothing_after before.ahead notes (sym none ∙ before.are);
  }
  well_dealt notes [] (own ∷ told) loose have before = absurd have
  well_dealt notes (place ∷ places) [] loose have before = absurd have
  well_dealt [] (place ∷ places) (own ∷ told) loose have before =
      let rest = filter_map (λ (note : Option Note). note) told ++ loose in
      let passed = none_is_left is_default_form begun place own have.0 rest (aligned own told loose [] before) in
      let later = well_dealt [] places told loose have.1 passed.after in
      record { have = (passed.has_none, later.have); none_left = later.none_left }
  well_dealt (note ∷ notes) (place ∷ places) (own ∷ told) loose have before =
      let rest = filter_map (λ (note : Option Note). note) told ++ loose in
      let here = aligned own told loose (note ∷ notes) before in
      (elim (goes (taker place) note) as (λ b.
      goes (taker place) note ≡ b
      → AreWellDealt (place ∷ places) (cond b (Some note ∷ dealt taker notes places) (None ∷ dealt taker (note ∷ notes) places))
      loose (cond b (undealt taker notes places) (undealt taker (note ∷ notes) places))) [
        | true ↦ λ fit.
            let later = well_dealt notes places told loose have.1 (takes_next is_default_form begun place own have.0 rest note notes fit here) in
            record { have = (may_have is_default_form begun place own note have.0 fit, later.have); none_left = later.none_left }
        | false ↦ λ unfit.
            let passed = goes_past is_default_form begun place own have.0 rest note notes unfit here in
            let later = well_dealt (note ∷ notes) places told loose have.1 passed.after in
            record { have = (passed.has_none, later.have); none_left = later.none_left }
      ]) refl
