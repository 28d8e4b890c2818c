-- The outputs of a script that `record` writes of the outputs that a run showed.
use Rattle.std.proofs.Common.{◌≡◌, ℕ, List, [], ◌∷◌, ◌++◌, append-nil, append_assoc, cond, option_map, Bool, true, false, map, not, Option, Some, None, is_eq, refl, sym, ap, ◌∙◌}
use Rattle.std.specs.Prelude.{codes, ⊤}
use Rattle.std.specs.Cmp.Lexicographic.{texts_ties}
use Rattle.std.specs.List.{AllByRecursion, cons_option, filter_map}
use Rattle.std.specs.Str.{bytes_eq}
use Rattle.serde_json.specs.Data.{Data, Members, no_members, member}
use Rattle.apply_model.specs.declared.details.output as told
use Rattle.apply_plan_terraform.specs.Outputs.{OutputsOfPlan, as_outputs, has_output, is_typed, or_null, output_of, text_at}
use Rattle.apply_plan_terraform.specs.RawOutput.{is_kind}
use Rattle.stream_record.specs.declared.output as script
use Rattle.stream_record_lines.specs.declared.outputs.output.Output.{Output}
use Rattle.stream_record_lines.specs.Outputs as lines
use Rattle.stream_record_script.specs.Outputs.{is_known, known_outputs, script_outputs, unless_told}
use Rattle.stream_record_script.specs.Outputs as record_of
use Rattle.laws_outputs.specs.NamesInOrder.{AreAfter, AreInOrder}
use Rattle.laws_lines.specs.Outputs.{outputs_put, outputs_told, stated_output}
use Rattle.laws_outputs.proofs.Names.{AllMembers, turned_back}

-- ---- the outputs of a line

-- no name stands among the outputs
Apart : List lines.StatedOutput → Members → Type 0
Apart found no_members = ⊤
Apart found (member name d ms) = AllByRecursion (λ (other : lines.StatedOutput). bytes_eq name other.name ≡ false) found × Apart found ms

all_and_last : {A : Type 0} (P : A → Type 0) (xs : List A) (x : A) → AllByRecursion P xs → P x → AllByRecursion P (xs ++ x ∷ [])
all_and_last P [] x all last = (last, tt)
all_and_last P (y ∷ xs) x all last = (all.0, all_and_last P xs x all.1 last)

put_last : (output : lines.StatedOutput) (found : List lines.StatedOutput) → AllByRecursion (λ (other : lines.StatedOutput). bytes_eq output.name other.name ≡ false) found
    → lines.put_output output found ≡ found ++ output ∷ []
put_last output [] all = refl
put_last output (other ∷ found) all =
    ap (λ (b : Bool). cond b (output ∷ found) (other ∷ lines.put_output output found)) all.0
    ∙ ap (λ (os : List lines.StatedOutput). other ∷ os) (put_last output found all.1)

still_apart : (found : List lines.StatedOutput) (key : List ℕ) (d : Data) (ms : Members) → AreAfter key ms → Apart found ms → Apart (found ++ stated_output (output_of key d) ∷ []) ms
unfolding Apart
still_apart found key d no_members behind apart = tt
still_apart found key d (member name e ms) behind apart = (
  all_and_last (λ (other : lines.StatedOutput). bytes_eq name other.name ≡ false) found (stated_output (output_of key d)) apart.0 (texts_ties name key ∙ ap is_eq (turned_back key name behind.0)),
  still_apart found key d ms behind.1 apart.1,
)

put_each : (found : List lines.StatedOutput) (ms : Members) → AreInOrder ms → Apart found ms → outputs_put (as_outputs ms) found ≡ found ++ map stated_output (as_outputs ms)
unfolding Apart
put_each found no_members all apart = sym (append-nil found)
put_each found (member key d ms) all apart =
    let one = stated_output (output_of key d) in
    ap (λ (os : List lines.StatedOutput). outputs_put (as_outputs ms) os) (put_last one found apart.0)
    ∙ put_each (found ++ one ∷ []) ms all.1 (still_apart found key d ms all.0 apart.1)
    ∙ append_assoc found (one ∷ []) (map stated_output (as_outputs ms))

apart_from_none : (ms : Members) → Apart [] ms
unfolding Apart
apart_from_none no_members = tt
apart_from_none (member name d ms) = (tt, apart_from_none ms)

-- ---- the outputs that can be repeated

-- The plan has the output after the apply, and its type is not `null`.
pub record IsToRepeat (plan : OutputsOfPlan) (name : List ℕ) (d : Data) : Type 0 where
  pub typed : is_typed d ≡ true
  pub known : has_output plan name ≡ true

-- an output as its line states it
abbrev pub stated : told.Output.Output → Output
stated output = record {
  name = output.name;
  is_sensitive = output.sensitive;
  type_json = output.kind;
  value_json = cond output.sensitive None (Some output.value);
}

untrue : (b : Bool) → not b ≡ true → b ≡ false
untrue true is = absurd cc
untrue false is = refl

not_null : (kind : Option (List ℕ)) → is_kind kind ≡ true → bytes_eq (or_null kind) (codes "null") ≡ false
not_null None is = absurd cc
not_null (Some text) is = untrue (bytes_eq text (codes "null")) is

one_stated : (name : List ℕ) (d : Data) → is_typed d ≡ true → lines.output_of (stated_output (output_of name d)) ≡ Some (stated (output_of name d))
one_stated name d typed =
    ap (λ (b : Bool). option_map (lines.with_type (stated_output (output_of name d))) (cond b None (Some (or_null (text_at (codes "type") d))))) (not_null (text_at (codes "type") d) typed)

module _ (plan : OutputsOfPlan) where
  kept : (g : Output → Option script.Output.Output) (ms : Members) → AllMembers (IsToRepeat plan) ms
      → filter_map g (known_outputs plan (filter_map lines.output_of (map stated_output (as_outputs ms)))) ≡ filter_map (λ (o : told.Output.Output). g (stated o)) (as_outputs ms)
  kept g no_members all = refl
  kept g (member name d ms) all =
      let rest = filter_map lines.output_of (map stated_output (as_outputs ms)) in
      ap (λ (o : Option Output). filter_map g (known_outputs plan (cons_option o rest))) (one_stated name d all.0.typed)
      ∙ ap (λ (b : Bool). filter_map g (cond b (stated (output_of name d) ∷ known_outputs plan rest) (known_outputs plan rest))) all.0.known
      ∙ ap (λ (os : List script.Output.Output). cons_option (g (stated (output_of name d))) os) (kept g ms all.1)

  -- the script has each output that a run without a script shows in another way
  pub all_stated : (ms : Members) → AreInOrder ms → AllMembers (IsToRepeat plan) ms
      → script_outputs plan (outputs_told (as_outputs ms)) ≡ filter_map (λ (o : told.Output.Output). unless_told (record_of.outputs_told plan) (stated o)) (as_outputs ms)
  all_stated ms in_order all =
      ap (λ (os : List lines.StatedOutput). script_outputs plan (filter_map lines.output_of os)) (put_each [] ms in_order (apart_from_none ms))
      ∙ kept (unless_told (record_of.outputs_told plan)) ms all
