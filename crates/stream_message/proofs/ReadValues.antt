-- A value that was read, and the fault that a read ends with, or does not.
use Rattle.std.proofs.Common.{◌≡◌, Some, Result, Ok, Err, refl}
use Rattle.serde_json.specs.Data.{Data, null, boolean, number, string, array, object}
use Rattle.apply_json.specs.declared.shallow.Shallow.{Shallow}
use Rattle.apply_json.specs.declared.shallow.Shallow.TheVariants as scalar
use Rattle.apply_json.specs.ShallowView.{an_object, shallow_view, shallow_of}
use Rattle.stream_message.specs.declared.presence.Presence.TheVariants.{NoObject, Object}
use Rattle.stream_message.specs.Slots.{presence_of}

pub an_object_is : (d : Data) → an_object ≡ shallow_of (Some d) → Object ≡ presence_of (Some d)
an_object_is null is = absurd cc
an_object_is (boolean b) is = absurd cc
an_object_is (number n) is = absurd cc
an_object_is (string s) is = absurd cc
an_object_is (array ds) is = absurd cc
an_object_is (object ms) is = refl

pub no_object_is : (d : Data) → (an_object ≡ shallow_of (Some d) → ⊥) → NoObject ≡ presence_of (Some d)
no_object_is null is = refl
no_object_is (boolean b) is = refl
no_object_is (number n) is = refl
no_object_is (string s) is = refl
no_object_is (array ds) is = refl
no_object_is (object ms) is = absurd (is refl)

pub not_object : (value : Shallow) → (value ≡ scalar.Object → ⊥) → an_object ≡ shallow_view value → ⊥
not_object scalar.Absent never is = absurd cc
not_object (scalar.Bool b) never is = absurd cc
not_object (scalar.Number n) never is = absurd cc
not_object (scalar.Text t) never is = absurd cc
not_object scalar.Array never is = absurd cc
not_object scalar.Object never is = never refl

pub no_fault : {T E R : Type 0} (done : T) (fault : E) → Ok done ≡ Err fault → R
no_fault done fault same = absurd cc

pub same_fault : {T U E : Type 0} (a b : E) → ◌≡◌ {A = Result T E} (Err a) (Err b) → ◌≡◌ {A = Result U E} (Err a) (Err b)
same_fault a b same = cc
