-- The members of an element, joined in pairs. They give the element, or none if one is missing.
use Rattle.std.proofs.Common.{◌≡◌, ℕ, List, Option, Some, None, option_map, [], refl, sym}
use Rattle.std.specs.Borrow.{Bor}
use Rattle.std.specs.Option.{option_copied, option_zip}
use Rattle.apply_json.specs.ShallowView.{shallow_view, shallow_text, shallow_text_or}
use Rattle.apply_json.specs.Tree.{◌>>=◌, unless_empty}
use Rattle.apply_model.specs.declared.plan.key.Key.{Key}
use Rattle.apply_model.specs.declared.plan.mode.Mode.{Mode}
use Rattle.apply_plan.specs.declared.plan.element.IndexKey.{IndexKey}
use Rattle.apply_plan.specs.declared.plan.element_slots.ElementSlots.{ElementSlots}
use Rattle.apply_plan.specs.declared.plan.planned_change.PlannedChange.{PlannedChange}
use Rattle.apply_plan.specs.Plan.ElementView.{ReadElement, key_view, planned_change_view}
use Rattle.apply_plan.specs.Plan.Members.{element_read, key_read, mode_read}

abbrev Text : Type 0
Text = Option (Bor (List ℕ))

-- the element, if each member is present
abbrev pub made : (((Bor (List ℕ) × Mode) × (Bor (List ℕ) × Bor (List ℕ))) × ((Bor (List ℕ) × IndexKey) × (Bor (List ℕ) × PlannedChange))) → ReadElement
made all = record {
  address = all.0.0.0.now;
  mode = all.0.0.1;
  kind_name = all.0.1.0.now;
  name = all.0.1.1.now;
  module_address = all.1.0.0.now;
  key = key_view all.1.0.1;
  deposed = unless_empty all.1.1.0.now;
  steps = (planned_change_view all.1.1.1).0;
  prior_id = (planned_change_view all.1.1.1).1;
}

-- the element, with the members one by one
abbrev one_by_one : Option (List ℕ) → Option Mode → (kind_name name module_address : Option (List ℕ)) → Option Key → Option (List ℕ) → Option PlannedChange → Option ReadElement
one_by_one a m k n o y d p = do
  address ← a
  mode ← m
  kind_name ← k
  name ← n
  module_address ← o
  key ← y
  deposed ← d
  change ← option_map planned_change_view p
  Some (record {
    address = address;
    mode = mode;
    kind_name = kind_name;
    name = name;
    module_address = module_address;
    key = key;
    deposed = unless_empty deposed;
    steps = change.0;
    prior_id = change.1;
  })

joined : (a : Text) (m : Option Mode) (k n o : Text) (y : Option IndexKey) (d : Text) (p : Option PlannedChange)
    → one_by_one (option_copied a) m (option_copied k) (option_copied n) (option_copied o) (option_map key_view y) (option_copied d) p
    ≡ option_map made (option_zip (option_zip (option_zip a m) (option_zip k n)) (option_zip (option_zip o y) (option_zip d p)))
joined None m k n o y d p = refl
joined (Some a) None k n o y d p = refl
joined (Some a) (Some m) None n o y d p = refl
joined (Some a) (Some m) (Some k) None o y d p = refl
joined (Some a) (Some m) (Some k) (Some n) None y d p = refl
joined (Some a) (Some m) (Some k) (Some n) (Some o) None d p = refl
joined (Some a) (Some m) (Some k) (Some n) (Some o) (Some y) None p = refl
joined (Some a) (Some m) (Some k) (Some n) (Some o) (Some y) (Some d) None = refl
joined (Some a) (Some m) (Some k) (Some n) (Some o) (Some y) (Some d) (Some p) = refl

-- the element, from its slots
pub held : (slots : ElementSlots) (a : Text) (m : Option Mode) (k n o : Text) (y : Option IndexKey) (d : Text)
    → option_copied a ≡ shallow_text (shallow_view slots.address)
    → m ≡ mode_read (shallow_view slots.mode)
    → option_copied k ≡ (shallow_text (shallow_view slots.kind_name) >>= unless_empty)
    → option_copied n ≡ (shallow_text (shallow_view slots.name) >>= unless_empty)
    → option_copied o ≡ shallow_text_or [] (shallow_view slots.module_address)
    → option_map key_view y ≡ key_read (shallow_view slots.index)
    → option_copied d ≡ shallow_text_or [] (shallow_view slots.deposed)
    → element_read slots ≡ option_map made (option_zip (option_zip (option_zip a m) (option_zip k n)) (option_zip (option_zip o y) (option_zip d slots.change)))
held slots a m k n o y d e1 e2 e3 e4 e5 e6 e7 = rw (sym e1, sym e2, sym e3, sym e4, sym e5, sym e6, sym e7) (joined a m k n o y d slots.change)
