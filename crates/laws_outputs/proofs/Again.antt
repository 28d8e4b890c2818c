-- The outputs of a run with the recorded script are shown as those of the first run.
use Rattle.std.proofs.Common.{◌≡◌, ℕ, suc, List, cond, Bool, true, false, not, map, Option, Some, None, option_map, refl, sym, ap, ◌∙◌, subst}
use Rattle.std.specs.Prelude.{◌&&◌, ◌||◌, codes, IfSome}
use Rattle.std.specs.Bool.{beq}
use Rattle.std.specs.Cmp.{first_so, second_so}
use Rattle.std.specs.List.{filter_map}
use Rattle.std.specs.Option.{option_map_or}
use Rattle.std.specs.Str.{bytes_eq}
use Rattle.std.proofs.lemmas.Slice.Eq.{bytes_eq-Decides}
use Rattle.serde_json.specs.Data.{Data, Members, no_members, member}
use Rattle.serde_json.specs.Find.{get_member}
use Rattle.apply_model.specs.declared.details.output as told
use Rattle.apply_plan.specs.declared.script.script_error.ScriptError.TheVariants.{BadOutput, UnknownOutput}
use Rattle.apply_plan_terraform.specs.Outputs.{OutputsOfPlan, as_outputs, change_of, equals_word, fault_of, has_output, is_changed, is_deleted, is_output, is_typed, is_unknown, is_written, knows, or_null, output_of, text_at, with_plan_outputs, written_outputs}
use Rattle.apply_plan_terraform.specs.RawOutput.{is_flag_or_absent}
use Rattle.apply_text_terraform.specs.Laws.{without_secret}
use Rattle.stream_record.specs.declared.output as script
use Rattle.stream_record_script.specs.Outputs.{is_same, is_told, is_value, output_named, script_output, script_outputs, unless_told}
use Rattle.stream_record_script.specs.Outputs as record_of
use Rattle.laws_outputs.specs.NamesInOrder.{AreInOrder}
use Rattle.laws_lines.specs.Outputs.{outputs_told}
use Rattle.laws_record.specs.Extras.{output_tree, outputs_by_name}
use Rattle.laws_outputs.proofs.Lookups.{again, again_found, if_written, named_found, or_else, plan_found, plan_in_order, stated_in_order}
use Rattle.laws_outputs.proofs.Names.{AllMembers, each_found, found_one}
use Rattle.laws_outputs.proofs.Shown.{SameAt, same_outputs, shown}
use Rattle.laws_outputs.proofs.Stated.{IsToRepeat, all_stated, stated}

-- ---- each output that a run shows can be repeated

of_script : (plan : OutputsOfPlan) (n : ℕ) (ms : Members) → fault_of plan n ms ≡ None → AllMembers (IsToRepeat plan) ms
of_script plan n no_members none = tt
of_script plan n (member name d ms) none = of_tests (is_output d) (has_output plan name) refl refl none (of_script plan (suc n) ms)
  where
    of_tests : (is has : Bool) → is_output d ≡ is → has_output plan name ≡ has
        → cond (not is) (Some (BadOutput n)) (cond (not has) (Some (UnknownOutput n)) (fault_of plan (suc n) ms)) ≡ None
        → (fault_of plan (suc n) ms ≡ None → AllMembers (IsToRepeat plan) ms) → AllMembers (IsToRepeat plan) (member name d ms)
    of_tests true true valid known rest others =
        (record { typed = first_so (is_typed d) (is_flag_or_absent (text_at (codes "sensitive") d)) valid; known = known }, others rest)
    of_tests true false valid known rest others = absurd cc
    of_tests false has valid known rest others = absurd cc

neither : (u x : Bool) → not (u || x) ≡ true → not x ≡ true
neither true x is = absurd cc
neither false x is = is

module _ (plan : OutputsOfPlan) where
  of_plan : (name : List ℕ) (d : Data) → get_member name plan.known ≡ Some d → is_written plan.changes name d ≡ true → IsToRepeat plan name d
  of_plan name d found written =
      let change = change_of plan.changes name in
      let typed : is_typed d ≡ true = first_so (is_typed d) (not (is_unknown change || is_deleted change)) written in
      let left : not (is_deleted change) ≡ true = neither (is_unknown change) (is_deleted change) (second_so (is_typed d) (not (is_unknown change || is_deleted change)) written) in
      let knows_it : knows plan name ≡ true = ap (λ (o : Option Data). option_map_or is_typed o false) found ∙ typed in
      record { typed = typed; known = λ i. left i && (knows_it i || is_changed change) }

  of_either : (name : List ℕ) (s k : Option Data) → IfSome s (IsToRepeat plan name) → get_member name plan.known ≡ k
      → IfSome (or_else s (if_written plan.changes name k)) (IsToRepeat plan name)
  of_either name (Some d) k is found = is
  of_either name None None is found = tt
  of_either name None (Some d) is found = of_test (is_written plan.changes name d) refl
    where
      of_test : (b : Bool) → is_written plan.changes name d ≡ b → IfSome (cond b (Some d) None) (IsToRepeat plan name)
      of_test true written = of_plan name d found written
      of_test false written = tt

-- ---- one output of the recorded script

told_again : (name : List ℕ) (sensitive : Bool) (kind value : List ℕ)
    → without_secret (output_of name (output_tree (record { name = name; is_sensitive = sensitive; type_json = kind; value_json = cond sensitive None (cond sensitive None (Some value)) })))
    ≡ without_secret (record { name = name; sensitive = sensitive; kind = kind; value = value })
told_again name true kind value = refl
told_again name false kind value = refl

-- the two outputs of one name
abbrev one_of : (name : List ℕ) (sensitive : Bool) (kind value : List ℕ) → told.Output.Output
one_of name sensitive kind value = record { name = name; sensitive = sensitive; kind = kind; value = value }

told_same : (name : List ℕ) (s t : Bool) (kind other value text : List ℕ)
    → beq s t && (bytes_eq kind other && (s || is_value text (cond s None (Some value)))) ≡ true
    → without_secret (one_of name t other text) ≡ without_secret (one_of name s kind value)
told_same name true true kind other value text same =
    ap (λ (k : List ℕ). without_secret (one_of name true k value)) (sym ((bytes_eq-Decides kind other).0 (first_so (bytes_eq kind other) true same)))
told_same name true false kind other value text same = absurd cc
told_same name false true kind other value text same = absurd cc
told_same name false false kind other value text same =
    ap (λ (k : List ℕ). without_secret (one_of name false k text)) (sym ((bytes_eq-Decides kind other).0 (first_so (bytes_eq kind other) (bytes_eq value text) same)))
    ∙ ap (λ (v : List ℕ). without_secret (one_of name false kind v)) (sym ((bytes_eq-Decides value text).0 (second_so (bytes_eq kind other) (bytes_eq value text) same)))

-- ---- all outputs

or_else-none : (s o : Option Data) → or_else s o ≡ None → o ≡ None
or_else-none None o is = is
or_else-none (Some d) o is = absurd cc

module _ (plan : OutputsOfPlan) (in_plan : AreInOrder plan.known) where
  -- the plan's own output of that name, if a run without a script shows it
  abbrev own : List ℕ → Option Data
  own name = if_written plan.changes name (get_member name plan.known)

  -- what the script states of an output that was shown
  abbrev recorded : told.Output.Output → Option script.Output.Output
  recorded o = unless_told (record_of.outputs_told plan) (stated o)

  keeps : (o : told.Output.Output) → IfSome (recorded o) (λ (r : script.Output.Output). r.name ≡ o.name)
  keeps o = of_test (is_told (record_of.outputs_told plan) (stated o))
    where
      of_test : (b : Bool) → IfSome (cond b None (Some (script_output (stated o)))) (λ (r : script.Output.Output). r.name ≡ o.name)
      of_test true = tt
      of_test false = refl

  own_named : (name : List ℕ) → output_named (record_of.outputs_told plan) name ≡ option_map (output_of name) (own name)
  own_named name =
      named_found name (with_plan_outputs plan.changes plan.known no_members)
      ∙ ap (option_map (output_of name)) (plan_found plan.changes name plan.known no_members in_plan)

  of_told : (name : List ℕ) (d : Data) (w : Option Data) → option_map_or (is_same (stated (output_of name d))) (option_map (output_of name) w) false ≡ true
      → option_map (shown name) w ≡ Some (shown name d)
  of_told name d None same = absurd cc
  of_told name d (Some e) same =
      ap Some
      (told_same name (equals_word (codes "true") (text_at (codes "sensitive") d)) (equals_word (codes "true") (text_at (codes "sensitive") e))
      (or_null (text_at (codes "type") d)) (or_null (text_at (codes "type") e)) (or_null (text_at (codes "value") d)) (or_null (text_at (codes "value") e)) same)

  one_again : (name : List ℕ) (d : Data) → option_map (shown name) (or_else (or_else (again recorded keeps name (Some d)) None) (own name)) ≡ Some (shown name d)
  one_again name d = of_test (is_told (record_of.outputs_told plan) (stated (output_of name d))) refl
    where
      of_test : (b : Bool) → is_told (record_of.outputs_told plan) (stated (output_of name d)) ≡ b
          → option_map (shown name) (or_else (or_else (option_map output_tree (cond b None (Some (script_output (stated (output_of name d)))))) None) (own name)) ≡ Some (shown name d)
      of_test true is =
          of_told name d (own name) (sym (ap (λ (o : Option told.Output.Output). option_map_or (is_same (stated (output_of name d))) o false) (own_named name)) ∙ is)
      of_test false is =
          ap Some (told_again name (equals_word (codes "true") (text_at (codes "sensitive") d)) (or_null (text_at (codes "type") d)) (or_null (text_at (codes "value") d)))

  module _ (given : Members) (in_script : AreInOrder given) (n : ℕ) (faultless : fault_of plan n given ≡ None) where
    -- the outputs that the run shows, by name
    abbrev whole : Members
    whole = with_plan_outputs plan.changes plan.known given

    whole_in_order : AreInOrder whole
    whole_in_order = plan_in_order plan.changes plan.known given in_script

    whole_found : (name : List ℕ) → get_member name whole ≡ or_else (get_member name given) (own name)
    whole_found name = plan_found plan.changes name plan.known given in_plan

    all_repeat : AllMembers (IsToRepeat plan) whole
    all_repeat =
        each_found (IsToRepeat plan) whole whole_in_order
        (λ name. subst (λ (o : Option Data). IfSome o (IsToRepeat plan name)) (sym (whole_found name))
        (of_either plan name (get_member name given) (get_member name plan.known) (found_one (IsToRepeat plan) name given (of_script plan n given faultless)) refl))

    -- what Terraform's form reads of the recorded script
    abbrev read_back : Members
    read_back = outputs_by_name (filter_map recorded (as_outputs whole)) no_members

    by_found : (name : List ℕ) (w : Option Data) → get_member name whole ≡ w
        → option_map (shown name) (or_else (or_else (again recorded keeps name w) None) (own name)) ≡ option_map (shown name) w
    by_found name None is = ap (option_map (shown name)) (or_else-none (get_member name given) (own name) (sym (whole_found name) ∙ is))
    by_found name (Some d) is = one_again name d

    same_at : (name : List ℕ) → SameAt (with_plan_outputs plan.changes plan.known read_back) whole name
    same_at name =
        ap (option_map (shown name)) (plan_found plan.changes name plan.known read_back in_plan)
        ∙ ap (λ (o : Option Data). option_map (shown name) (or_else o (own name))) (again_found recorded keeps name whole no_members whole_in_order)
        ∙ by_found name (get_member name whole) refl

    pub come_again : map without_secret (written_outputs plan (outputs_by_name (script_outputs plan (outputs_told (written_outputs plan given))) no_members)) ≡ map without_secret (written_outputs plan given)
    come_again =
        ap (λ (os : List script.Output.Output). map without_secret (written_outputs plan (outputs_by_name os no_members))) (all_stated plan whole whole_in_order all_repeat)
        ∙ same_outputs (with_plan_outputs plan.changes plan.known read_back) whole
        (plan_in_order plan.changes plan.known read_back (stated_in_order recorded keeps (filter_map recorded (as_outputs whole)) no_members tt)) whole_in_order same_at
