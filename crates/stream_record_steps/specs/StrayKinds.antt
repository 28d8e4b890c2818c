-- The kinds of strays in a map, for private clauses.
use Rattle.std.specs.Prelude.{◌≡◌, ◌||◌, ℕ, List, Bool, false, String, unwrap_or}
use Rattle.std.specs.HashMap.{HashMap, get_by_text}
use Rattle.std.specs.declared.alloc.Global.{Global}
use Rattle.apply_model.specs.declared.plan.step_kind.StepKind.{StepKind}
use Rattle.apply_model.specs.declared.plan.step_kind.StepKind.TheVariants.{Create, Update, Delete, Read}
use Rattle.apply_model.specs.Plan.StepKind.{is_kind}
use Rattle.stream_record_steps.specs.declared.kinds.Kinds.{Kinds}
use Rattle.stream_record_steps.specs.declared.strays.Stray.{Stray}
use Rattle.stream_record_steps.specs.Strays.{has_stray}

abbrev pub no_kinds : Kinds
no_kinds = record { creates = false; updates = false; deletes = false; reads = false }

abbrev pub has_kind : Kinds → StepKind → Bool
has_kind kinds Create = kinds.creates
has_kind kinds Update = kinds.updates
has_kind kinds Delete = kinds.deletes
has_kind kinds Read = kinds.reads

-- These kinds, and one more.
abbrev pub with_kind : StepKind → Kinds → Kinds
with_kind kind kinds = record {
  creates = is_kind Create kind || kinds.creates;
  updates = is_kind Update kind || kinds.updates;
  deletes = is_kind Delete kind || kinds.deletes;
  reads = is_kind Read kind || kinds.reads;
}

-- The map has the kinds of the strays at each address.
abbrev pub AreKinds : {S : Type 0} → HashMap (String Global) Kinds S → List Stray → Type 0
AreKinds by_address strays = (address : List ℕ) (kind : StepKind)
    → has_kind (unwrap_or (get_by_text by_address address) no_kinds) kind ≡ has_stray strays kind address
