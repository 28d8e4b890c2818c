-- The diagnostic of a step has the severity and the address of those that fit the step.
use Rattle.std.proofs.Common.{◌≡◌, ℕ, List, Bool, true, Option, None, Some, option_map, refl, sym, ap}
use Rattle.std.proofs.lemmas.Bool.{and_parts}
use Rattle.std.proofs.lemmas.Slice.Eq.{bytes_eq-Decides}
use Rattle.apply_model.specs.declared.details.note.Note.{Note}
use Rattle.stream_record_steps.specs.declared.begun_step.EndResult.{EndResult}
use Rattle.stream_record_steps.specs.declared.begun_step.EndResult.TheVariants.{Completed, Failed}
use Rattle.stream_record_steps.specs.Begun.{Begun}
use Rattle.stream_record_outcomes.specs.Assignment.{Fit, fit_of, same_address}
use Rattle.laws_notes.specs.Told.{FitsStep, HasNote}

same_address_is : (a b : Option (List ℕ)) → same_address a b ≡ true → b ≡ a
same_address_is None None same = refl
same_address_is None (Some b) same = absurd cc
same_address_is (Some a) None same = absurd cc
same_address_is (Some a) (Some b) same = ap Some (sym ((bytes_eq-Decides a b).0 same))

module _ (note : Note) where
  address_of_fit : (fit : Option Fit) (result : EndResult) → FitsStep fit result (Some note) → option_map (λ fit. fit.address) fit ≡ Some note.address
  address_of_fit None (Completed id_key id) is = absurd (is.1 refl)
  address_of_fit None Failed is = absurd (is.1 refl)
  address_of_fit (Some fit) (Completed id_key id) is = ap Some (same_address_is note.address fit.address (and_parts _ _ is.0).1)
  address_of_fit (Some fit) Failed is = ap Some (same_address_is note.address fit.address (and_parts _ _ is.0).1)

pub has_address : (is_default_form : Bool) (begun : Begun) (place : ℕ) (note : Note) (has : HasNote is_default_form begun place (Some note))
    → option_map (λ fit. fit.address) (fit_of is_default_form has.step has.known) ≡ Some note.address
has_address is_default_form begun place note has = address_of_fit note (fit_of is_default_form has.step has.known) has.end.result has.fits_step
