-- The diagnostics that `record` gives to steps and to no step, told again, are the same list.
use Rattle.std.proofs.Common.{◌≡◌, ◌∙◌, ℕ, ◌+◌, List, [], ◌∷◌, ◌++◌, Bool, filter, length, map, slice_get, Option, None, Some, refl, sym, ap, arith}
use Rattle.std.specs.List.{AllByRecursion, cons_option, filter_map}
use Rattle.std.proofs.lemmas.List.Elements.{All-from_recursion}
use Rattle.std.proofs.lemmas.Option.{slice_get_within}
use Rattle.apply_model.specs.declared.details.note.Note.{Note}
use Rattle.stream_record_steps.specs.Begun.{Begun}
use Rattle.stream_record_outcomes.specs.declared.turn.Turn.{Turn}
use Rattle.stream_record_outcomes.specs.declared.turn.Turn.TheVariants as turn
use Rattle.stream_record_outcomes.specs.Assignment.{Assignment, Taker, along, assignment_of, is_in_turn, loose_notes, none_taken, note_of_step, share_left, taker_at, takers_of, takes_read}
use Rattle.laws_notes.specs.Told.{AreNotesTold, AreNotesToldAgain, HasNote, HaveNotes}
use Rattle.laws_notes.proofs.Ahead.{AreWellDealt, well_dealt}
use Rattle.laws_notes.proofs.Dealt.{along_deals, dealt, giving, in_order, undealt}
use Rattle.laws_notes.proofs.ReadBack.{AreReady, get_replicated, left_back, read_back}
use Rattle.laws_notes.proofs.Settled.{HasEnd, begins_have, no_open_read, no_other_open, none_open, not_found, shares_nothing, taker_at_place, takes_no_read}

-- ---- lists

given_by : {X Y : Type 0} (f : X → Option Y) (xs : List X) → filter_map f xs ≡ filter_map (λ y. y) (map f xs)
given_by f [] = refl
given_by f (x ∷ xs) = ap (λ ys. cons_option (f x) ys) (given_by f xs)

after_itself : {X : Type 0} (xs ys : List X) → xs ≡ xs ++ ys → ys ≡ []
after_itself [] ys is = sym is
after_itself (x ∷ xs) ys is = after_itself xs ys cc

-- ---- at first no step has a diagnostic

module _ (is_default_form : Bool) (begun : Begun) where
  each_has : (own : ℕ → Option Note) (places : List ℕ) → HaveNotes is_default_form begun places (map own places)
      → AllByRecursion (λ place. HasNote is_default_form begun place (own place)) places
  each_has own [] have = tt
  each_has own (place ∷ places) have = (have.0, each_has own places have.1)

  all_free : (count : ℕ) (places : List ℕ) (told : List (Option Note)) → HaveNotes is_default_form begun places told
      → AllByRecursion (λ place. slice_get (none_taken (length begun.planned) count).of_step place ≡ Some None) places
  all_free count [] told have = tt
  all_free count (place ∷ places) [] have = absurd have
  all_free count (place ∷ places) (own ∷ told) have =
      let first = have.0 in (
        get_replicated (length begun.planned) place None (slice_get_within begun.planned place first.step first.planned),
        all_free count places told have.1,
      )

  ready : (notes : List Note) (places : List ℕ) (told : List (Option Note)) → HaveNotes is_default_form begun places told
      → AreReady notes notes 0 places (none_taken (length begun.planned) (length notes))
  ready notes places told have = record {
    from = λ k. let same : 0 + k ≡ k = omega arith in ap (λ (n : ℕ). slice_get notes n) same;
    free = all_free (length notes) places told have;
    fresh = λ k below. let same : 0 + k ≡ k = omega arith in rw same (get_replicated (length notes) k _ below);
  }

-- ---- all together

module _ (is_default_form : Bool) (begun : Begun) (told : List (Option Note)) (loose notes : List Note) (is : AreNotesTold is_default_form begun told loose notes) where
  abbrev taker : ℕ → Option Taker
  taker = taker_at is_default_form begun

  -- who has which, after the diagnostics were given in the order of the ends
  abbrev given : Assignment
  given = giving taker notes 0 begun.ends (none_taken (length begun.planned) (length notes))

  abbrev own : ℕ → Option Note
  own = note_of_step notes given

  dealt_well : AreWellDealt is_default_form begun begun.ends (dealt taker notes begun.ends) loose (undealt taker notes begun.ends)
  dealt_well = well_dealt is_default_form begun notes begun.ends told loose is.have record { ahead = []; warnings = tt; are = sym is.are }

  owns : map own begun.ends ≡ dealt taker notes begun.ends
  owns =
      read_back taker notes notes 0 begun.ends (none_taken (length begun.planned) (length notes)) is.distinct
      (ready is_default_form begun notes begun.ends told is.have)

  left : loose_notes notes given ≡ undealt taker notes begun.ends
  left =
      left_back taker notes notes 0 begun.ends (none_taken (length begun.planned) (length notes)) is.distinct
      (ready is_default_form begun notes begun.ends told is.have)

  each : AllByRecursion (λ place. HasNote is_default_form begun place (own place)) begun.ends
  each = each_has is_default_form begun own begun.ends (rw owns dealt_well.have)

  begun_ended : AllByRecursion (λ place. HasEnd (taker place)) begun.begins
  begun_ended = begins_have is_default_form begun begun.ends begun.begins told is.have is.ended

  along_is : along notes 0 (takers_of is_default_form begun begun.ends) (takers_of is_default_form begun begun.begins) (none_taken (length begun.planned) (length notes)) ≡ given
  along_is =
      along_deals taker (takers_of is_default_form begun begun.begins) (taker_at_place is_default_form begun)
      (λ before note. not_found (takes_read before note) (takes_no_read before note) taker begun.begins begun_ended)
      notes 0 begun.ends (none_taken (length begun.planned) (length notes))

  -- no step takes one of those that are left
  shared : (test : Turn) → filter (is_in_turn test) (takers_of is_default_form begun begun.begins) ≡ []
      → share_left notes (filter (is_in_turn test) (takers_of is_default_form begun begun.begins)) given ≡ given
  shared test none = ap (λ (takers : List Taker). share_left notes takers given) none

  assignment_is : assignment_of is_default_form begun notes ≡ given
  assignment_is =
      ap
      (λ (first : Assignment).
      share_left notes (filter (is_in_turn turn.OtherOpen) (takers_of is_default_form begun begun.begins))
      (share_left notes (filter (is_in_turn turn.OpenReads) (takers_of is_default_form begun begun.begins))
      (share_left notes (filter (is_in_turn turn.Failed) (takers_of is_default_form begun begun.ends)) first)))
      along_is
      ∙ ap
      (λ (failed : Assignment).
      share_left notes (filter (is_in_turn turn.OtherOpen) (takers_of is_default_form begun begun.begins))
      (share_left notes (filter (is_in_turn turn.OpenReads) (takers_of is_default_form begun begun.begins)) failed))
      (shares_nothing notes given is_default_form begun begun.ends each)
      ∙ ap
      (λ (reads : Assignment). share_left notes (filter (is_in_turn turn.OtherOpen) (takers_of is_default_form begun begun.begins)) reads)
      (shared turn.OpenReads (none_open (is_in_turn turn.OpenReads) no_open_read taker begun.begins begun_ended))
      ∙ shared turn.OtherOpen (none_open (is_in_turn turn.OtherOpen) no_other_open taker begun.begins begun_ended)

  again_by_given : AreNotesToldAgain is_default_form begun told notes given
  again_by_given = record {
    fit = All-from_recursion (λ (place : ℕ). HasNote is_default_form begun place (own place)) begun.ends each;
    same =
        ap (λ (ns : List Note). ns ++ loose_notes notes given) (given_by own begun.ends ∙ ap (λ (ns : List (Option Note)). filter_map (λ note. note) ns) owns)
        ∙ ap (λ (ns : List Note). filter_map (λ note. note) (dealt taker notes begun.ends) ++ ns) left
        ∙ in_order taker notes begun.ends;
    none_loose = λ alone. left ∙ dealt_well.none_left (after_itself (filter_map (λ note. note) told) loose (sym alone ∙ is.are));
  }

  pub are_again : AreNotesToldAgain is_default_form begun told notes (assignment_of is_default_form begun notes)
  are_again = rw assignment_is again_by_given
