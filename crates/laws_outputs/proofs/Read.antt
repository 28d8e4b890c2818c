-- Outputs that were read of a plan and of a script are in byte order of their names, and each
-- output of the script is one of the plan.
use Rattle.std.proofs.Common.{◌≡◌, ℕ, List, [], cond, Bool, true, false, Option, Some, None, Result, Ok, Err, Ordering, Less, Equal, Greater, refl, subst}
use Rattle.std.specs.Prelude.{⊤, IfOk, IfSome, codes}
use Rattle.std.specs.Cmp.Lexicographic.{slice_cmp}
use Rattle.std.specs.Option.{option_map_or}
use Rattle.std.specs.Ordering.{nat_cmp, match_ordering}
use Rattle.json.specs.Json as json
use Rattle.serde_json.specs.Data.{Data, null, boolean, number, string, array, object, Members, no_members, member, put}
use Rattle.serde_json.specs.Find.{get, get_member}
use Rattle.serde_json.specs.Read.{of_json}
use Rattle.apply_json.specs.Tree.{◌>>=◌}
use Rattle.apply_model.specs.declared.details.note.Note.{Note}
use Rattle.apply_plan.specs.Results as results
use Rattle.apply_plan.specs.declared.script.script_error.ScriptError.{ScriptError}
use Rattle.apply_plan.specs.declared.script.script_error.ScriptError.TheVariants.{BadShape}
use Rattle.apply_plan_terraform.specs.declared.texts.part.Part.{Part}
use Rattle.apply_plan_terraform.specs.declared.texts.part.Part.TheVariants as part
use Rattle.apply_plan_terraform.specs.Changes.{changes_of}
use Rattle.apply_plan_terraform.specs.Extras.{ExtrasOfScript, extras_of_json, with_notes}
use Rattle.apply_plan_terraform.specs.Notes.{notes_in_script}
use Rattle.apply_plan_terraform.specs.Outputs.{OutputsOfPlan, fault_of, is_null, member_in, members_or_none, outputs_in_script, outputs_of_plan, unless_faulty}
use Rattle.apply_plan_terraform.specs.Plan.{note_of}
use Rattle.apply_plan_terraform.specs.ReadDetails.{DetailsOfPlan, details_of}
use Rattle.apply_plan_terraform.specs.Texts.{is_text, json_of, members_with_texts, part_named, text_of, with_texts}
use Rattle.apply_run.specs.Read.{given_extras}
use Rattle.laws_outputs.specs.NamesInOrder.{AreInOrder}
use Rattle.laws_outputs.proofs.Names.{put_in_order}

-- ---- trees whose members are in order

mutual
  -- The members of each object are in order, at each depth.
  IsTidy : Data → Type 0
  IsTidy null = ⊤
  IsTidy (boolean b) = ⊤
  IsTidy (number n) = ⊤
  IsTidy (string s) = ⊤
  IsTidy (array ds) = ⊤
  IsTidy (object ms) = AreInOrder ms × AreTidy ms

  AreTidy : Members → Type 0
  AreTidy no_members = ⊤
  AreTidy (member name d ms) = IsTidy d × AreTidy ms

put_tidy : (name : List ℕ) (d : Data) (ms : Members) → IsTidy d → AreTidy ms → AreTidy (put name d ms)
unfolding AreTidy
put_tidy name d no_members one all = (one, tt)
put_tidy name d (member other e ms) one all = of_order (slice_cmp nat_cmp name other) (put_tidy name d ms one all.1)
  where
    of_order : (o : Ordering) → AreTidy (put name d ms) → AreTidy (match_ordering o (member name d (member other e ms)) (member other d ms) (member other e (put name d ms)))
    of_order Less rest = (one, all)
    of_order Equal rest = (one, all.1)
    of_order Greater rest = (all.0, rest)

one_tidy : (name : List ℕ) (ms : Members) → AreTidy ms → IfSome (get_member name ms) IsTidy
unfolding AreTidy
one_tidy name no_members all = tt
one_tidy name (member other d ms) all = of_order (slice_cmp nat_cmp name other) (one_tidy name ms all.1)
  where
    of_order : (o : Ordering) → IfSome (get_member name ms) IsTidy → IfSome (match_ordering o (get_member name ms) (Some d) (get_member name ms)) IsTidy
    of_order Less rest = rest
    of_order Equal rest = all.0
    of_order Greater rest = rest

get_tidy : (name : List ℕ) (d : Data) → IsTidy d → IfSome (get name d) IsTidy
unfolding IsTidy
get_tidy name null is = tt
get_tidy name (boolean b) is = tt
get_tidy name (number n) is = tt
get_tidy name (string s) is = tt
get_tidy name (array ds) is = tt
get_tidy name (object ms) is = one_tidy name ms is.1

member_tidy : (name : List ℕ) (o : Option Data) → IfSome o IsTidy → IfSome (member_in name o) IsTidy
member_tidy name None is = tt
member_tidy name (Some d) is = get_tidy name d is

-- ---- trees that are read

AreSorted : Members → Type 0
AreSorted ms = AreInOrder ms × AreTidy ms

unless_text : (b : Bool) (text : List ℕ) (ms : Members) → AreSorted ms → IsTidy (cond b (string text) (object ms))
unfolding AreSorted IsTidy
unless_text true text ms all = tt
unless_text false text ms all = all

put_or_not : (o : Option Part) (name : List ℕ) (tree : Part → Data) (collected : Members) → ((inner : Part) → IsTidy (tree inner)) → AreSorted collected
    → AreSorted (option_map_or (λ (inner : Part). put name (tree inner) collected) o collected)
unfolding AreSorted
put_or_not None name tree collected each all = all
put_or_not (Some inner) name tree collected each all = (put_in_order name (tree inner) collected all.0, put_tidy name (tree inner) collected (each inner) all.1)

mutual
  unfolding AreSorted IsTidy

  read_tidy : (p : Part) (j : json.Json) → IsTidy (with_texts p j)
  read_tidy p json.null = tt
  read_tidy p (json.boolean b) = tt
  read_tidy p (json.number s) = tt
  read_tidy p (json.string s) = tt
  read_tidy p (json.array js) = tt
  read_tidy p (json.object ms) = unless_text (is_text p) (text_of (json.object ms)) (members_with_texts p ms no_members) (read_sorted p ms no_members (tt, tt))

  read_sorted : (p : Part) (ms : json.Members) (collected : Members) → AreSorted collected → AreSorted (members_with_texts p ms collected)
  read_sorted p json.no_members collected all = all
  read_sorted p (json.member name j ms) collected all =
      read_sorted p ms (option_map_or (λ (inner : Part). put name (with_texts inner j) collected) (part_named p name) collected)
      (put_or_not (part_named p name) name (λ (inner : Part). with_texts inner j) collected (λ inner. read_tidy inner j) all)

-- ---- the outputs of a plan

members_in_order : (o : Option Data) → IfSome o IsTidy → AreInOrder (members_or_none o)
unfolding IsTidy
members_in_order None is = tt
members_in_order (Some null) is = tt
members_in_order (Some (boolean b)) is = tt
members_in_order (Some (number n)) is = tt
members_in_order (Some (string s)) is = tt
members_in_order (Some (array ds)) is = tt
members_in_order (Some (object ms)) is = is.0

plan_in_order : (d : Data) → IsTidy d → AreInOrder (outputs_of_plan d).known
plan_in_order d is =
    let state = get_tidy (codes "prior_state") d is in
    let values = member_tidy (codes "values") (get (codes "prior_state") d) state in
    members_in_order (member_in (codes "outputs") (member_in (codes "values") (get (codes "prior_state") d)))
    (member_tidy (codes "outputs") (member_in (codes "values") (get (codes "prior_state") d)) values)

abbrev details_with : json.Json → Data → DetailsOfPlan
details_with j whole = record { changes = changes_of whole; note = note_of whole; outputs = outputs_of_plan (with_texts part.Plan j) }

by_tree : (j : json.Json) (o : Option Data) (details : DetailsOfPlan) → (o >>= λ (whole : Data). Some (details_with j whole)) ≡ Some details → AreInOrder details.outputs.known
by_tree j None details is = absurd cc
by_tree j (Some whole) details is =
    let same : details_with j whole ≡ details = cc in
    subst (λ (these : DetailsOfPlan). AreInOrder these.outputs.known) same (plan_in_order (with_texts part.Plan j) (read_tidy part.Plan j))

by_json : (o : Option json.Json) (details : DetailsOfPlan) → (o >>= λ (j : json.Json). (of_json j >>= λ (whole : Data). Some (details_with j whole))) ≡ Some details → AreInOrder details.outputs.known
by_json None details is = absurd cc
by_json (Some j) details is = by_tree j (of_json j) details is

pub known_in_order : (bytes : List ℕ) (details : DetailsOfPlan) → details_of bytes ≡ Some details → AreInOrder details.outputs.known
known_in_order bytes details is = by_json (json_of bytes) details is

-- ---- the outputs of a script

module _ (plan : OutputsOfPlan) where
  -- in order, and without an error
  abbrev pub AreRead : Members → Type 0
  AreRead ms = AreInOrder ms × (fault_of plan 0 ms ≡ None)

  of_fault : (ms : Members) → AreInOrder ms → (f : Option ScriptError) → fault_of plan 0 ms ≡ f → IfOk (results.unless_refused f ms) AreRead
  of_fault ms all None is = (all, is)
  of_fault ms all (Some fault) is = tt

  null_or_not : (b : Bool) → IfOk (unless_faulty plan (cond b (Ok no_members) (Err (BadShape None)))) AreRead
  null_or_not true = (tt, refl)
  null_or_not false = tt

  in_script : (o : Option Data) → IfSome o IsTidy → IfOk (unless_faulty plan (outputs_in_script o)) AreRead
  unfolding IsTidy
  in_script None is = (tt, refl)
  in_script (Some null) is = tt
  in_script (Some (boolean b)) is = tt
  in_script (Some (number n)) is = tt
  in_script (Some (string s)) is = null_or_not (is_null (Some s))
  in_script (Some (array ds)) is = tt
  in_script (Some (object ms)) is = of_fault ms is.0 (fault_of plan 0 ms) refl

  with_both : (outputs : Members) (notes : Result (List Note) ScriptError) (extras : ExtrasOfScript) → AreRead outputs
      → results.◌>>=◌ notes (λ (ns : List Note). Ok (with_notes outputs ns)) ≡ Ok extras → AreRead extras.outputs
  with_both outputs (Err e) extras all is = absurd cc
  with_both outputs (Ok notes) extras all is =
      let same : with_notes outputs notes ≡ extras = cc in subst (λ (these : ExtrasOfScript). AreRead these.outputs) same all

  by_outputs : (outputs : Result Members ScriptError) (notes : Result (List Note) ScriptError) (extras : ExtrasOfScript) → IfOk outputs AreRead
      → results.◌>>=◌ outputs (λ (os : Members). results.◌>>=◌ notes (λ (ns : List Note). Ok (with_notes os ns))) ≡ Ok extras → AreRead extras.outputs
  by_outputs (Err e) notes extras all is = absurd cc
  by_outputs (Ok outputs) notes extras all is = with_both outputs notes extras all is

  of_json_script : (o : Option json.Json) (extras : ExtrasOfScript) → extras_of_json plan o ≡ Ok extras → AreRead extras.outputs
  of_json_script None extras is = absurd cc
  of_json_script (Some j) extras is =
      let tree = with_texts part.Script j in
      by_outputs (unless_faulty plan (outputs_in_script (get (codes "outputs") tree))) (notes_in_script (get (codes "diagnostics") tree)) extras
      (in_script (get (codes "outputs") tree) (get_tidy (codes "outputs") tree (read_tidy part.Script j))) is

  pub script_read : (bytes : Option (List ℕ)) (extras : ExtrasOfScript) → given_extras plan bytes ≡ Ok extras → AreRead extras.outputs
  script_read None extras is =
      let none : ExtrasOfScript = record { outputs = no_members; notes = [] } in
      let same : none ≡ extras = cc in subst (λ (these : ExtrasOfScript). AreRead these.outputs) same (tt, refl)
  script_read (Some bytes) extras is = of_json_script (json_of bytes) extras is
