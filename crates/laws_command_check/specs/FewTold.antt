-- The objects that are told while a plan is made: how many share an address, and which only warn.
use Rattle.std.specs.Prelude.{◌≡◌, ◌⊎◌, ℕ, ◌<◌, List, count_by, Bool, true, None, Some, slice_get}
use Rattle.std.specs.Str.{bytes_eq}
use Rattle.apply_model.specs.declared.plan.mode.Mode.TheVariants.{Managed}
use Rattle.apply_planning.specs.declared.told.Told.{Told}
use Rattle.apply_planning.specs.PlanningWork.{is_error}
use Rattle.stream_check.specs.Course.{max_overlap}

-- the object has that address
abbrev pub is_told_at : (address : List ℕ) → Told → Bool
is_told_at address told = bytes_eq told.object.address address

-- Fewer objects have the same address than steps may overlap for a checker, 10,000. They are the
-- current object and deposed ones.
abbrev pub FewShareAnAddress : List Told → Type 0
FewShareAnAddress told = (address : List ℕ) → count_by (is_told_at address) told < max_overlap

-- A refresh that fails ends with an error. Only the failure of a read may be a warning.
abbrev pub OnlyReadsWarn : List Told → Type 0
OnlyReadsWarn told = (c : ℕ) (one : Told) → slice_get told c ≡ Some one → one.object.mode ≡ Managed → (one.failure ≡ None) ⊎ (is_error one.failure ≡ true)
