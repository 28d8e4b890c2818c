-- Outputs by name: those that a stream shows, and those that a recorded script states.
use Rattle.std.proofs.Common.{◌≡◌, ℕ, List, [], ◌∷◌, cond, Bool, true, false, not, Option, Some, None, option_map, Ordering, Less, Equal, Greater, is_some, is_eq, refl, sym, ap, ◌∙◌, subst}
use Rattle.std.specs.Prelude.{◌&&◌, IfSome}
use Rattle.std.specs.Cmp.Lexicographic.{slice_cmp, texts_ties}
use Rattle.std.specs.List.{cons_option, filter_map}
use Rattle.std.specs.Ordering.{nat_cmp, match_ordering}
use Rattle.std.proofs.lemmas.Map.Lookups.{exact_bytes}
use Rattle.serde_json.specs.Data.{Data, Members, no_members, member, put}
use Rattle.serde_json.specs.Find.{get_member}
use Rattle.apply_model.specs.declared.details.output as told
use Rattle.apply_plan_terraform.specs.Outputs.{as_outputs, is_written, output_of, with_plan_outputs}
use Rattle.stream_record.specs.declared.output as script
use Rattle.laws_outputs.specs.NamesInOrder.{AreInOrder}
use Rattle.stream_record_script.specs.Outputs.{output_named}
use Rattle.laws_record.specs.Extras.{output_tree, outputs_by_name}
use Rattle.laws_outputs.proofs.Names.{none_among, put_found, put_in_order}

abbrev pub or_else : Option Data → Option Data → Option Data
or_else None other = other
or_else (Some d) other = Some d

same_both : (b : Bool) (o : Option Data) → cond b o o ≡ o
same_both true o = refl
same_both false o = refl

-- ---- the outputs that a stream shows

-- the output, if a stream shows it where the script does not name it
abbrev pub if_written : (changes : Option Data) → (name : List ℕ) → Option Data → Option Data
if_written changes name None = None
if_written changes name (Some d) = cond (is_written changes name d) (Some d) None

module _ (changes : Option Data) where
  abbrev one_more : List ℕ → Data → Members → Members
  one_more key d collected = cond (is_written changes key d && not (is_some (get_member key collected))) (put key d collected) collected

  put_if : (b : Bool) (name key : List ℕ) (d : Data) (collected : Members)
      → get_member name (cond b (put key d collected) collected)
      ≡ cond b (match_ordering (slice_cmp nat_cmp name key) (get_member name collected) (Some d) (get_member name collected)) (get_member name collected)
  put_if true name key d collected = put_found name key d collected
  put_if false name key d collected = refl

  decided : (w : Bool) (g : Option Data) (d : Data) → or_else (cond (w && not (is_some g)) (Some d) g) None ≡ or_else g (cond w (Some d) None)
  decided true None d = refl
  decided true (Some e) d = refl
  decided false None d = refl
  decided false (Some e) d = refl

  one_found : (name key : List ℕ) (d : Data) (ms collected : Members) → get_member key ms ≡ None
      → or_else (get_member name (one_more key d collected)) (if_written changes name (get_member name ms))
      ≡ or_else (get_member name collected) (if_written changes name (get_member name (member key d ms)))
  one_found name key d ms collected none =
      let b = is_written changes key d && not (is_some (get_member key collected)) in
      ap (λ (o : Option Data). or_else o (if_written changes name (get_member name ms))) (put_if b name key d collected)
      ∙ of_order (slice_cmp nat_cmp name key) (exact_bytes name key)
    where
      of_order : (o : Ordering) → (o ≡ Equal → name ≡ key)
          → or_else (cond (is_written changes key d && not (is_some (get_member key collected))) (match_ordering o (get_member name collected) (Some d) (get_member name collected)) (get_member name collected)) (if_written changes name (get_member name ms))
          ≡ or_else (get_member name collected) (if_written changes name (match_ordering o (get_member name ms) (Some d) (get_member name ms)))
      of_order Less same =
          ap (λ (o : Option Data). or_else o (if_written changes name (get_member name ms))) (same_both (is_written changes key d && not (is_some (get_member key collected))) (get_member name collected))
      of_order Equal same =
          subst
          (λ (at : List ℕ). or_else (cond (is_written changes key d && not (is_some (get_member key collected))) (Some d) (get_member at collected)) (if_written changes at (get_member at ms)) ≡ or_else (get_member at collected) (cond (is_written changes at d) (Some d) None))
          (sym (same refl))
          (ap (λ (o : Option Data). or_else (cond (is_written changes key d && not (is_some (get_member key collected))) (Some d) (get_member key collected)) (if_written changes key o)) none
          ∙ decided (is_written changes key d) (get_member key collected) d)
      of_order Greater same =
          ap (λ (o : Option Data). or_else o (if_written changes name (get_member name ms))) (same_both (is_written changes key d && not (is_some (get_member key collected))) (get_member name collected))

  or_nothing : (o : Option Data) → o ≡ or_else o None
  or_nothing None = refl
  or_nothing (Some d) = refl

  pub plan_found : (name : List ℕ) (ms collected : Members) → AreInOrder ms
      → get_member name (with_plan_outputs changes ms collected) ≡ or_else (get_member name collected) (if_written changes name (get_member name ms))
  plan_found name no_members collected all = or_nothing (get_member name collected)
  plan_found name (member key d ms) collected all = plan_found name ms (one_more key d collected) all.1 ∙ one_found name key d ms collected (none_among key ms all.0)

  put_if_in_order : (b : Bool) (key : List ℕ) (d : Data) (collected : Members) → AreInOrder collected → AreInOrder (cond b (put key d collected) collected)
  put_if_in_order true key d collected all = put_in_order key d collected all
  put_if_in_order false key d collected all = all

  pub plan_in_order : (ms collected : Members) → AreInOrder collected → AreInOrder (with_plan_outputs changes ms collected)
  plan_in_order no_members collected all = all
  plan_in_order (member key d ms) collected all =
      plan_in_order ms (one_more key d collected) (put_if_in_order (is_written changes key d && not (is_some (get_member key collected))) key d collected all)

-- ---- the first output of a name

pub named_found : (name : List ℕ) (ms : Members) → output_named (as_outputs ms) name ≡ option_map (output_of name) (get_member name ms)
named_found name no_members = refl
named_found name (member key d ms) =
    ap (λ (b : Bool). cond b (Some (output_of key d)) (output_named (as_outputs ms) name)) (texts_ties name key)
    ∙ of_order (slice_cmp nat_cmp name key) (exact_bytes name key) (named_found name ms)
  where
    of_order : (o : Ordering) → (o ≡ Equal → name ≡ key) → output_named (as_outputs ms) name ≡ option_map (output_of name) (get_member name ms)
        → cond (is_eq o) (Some (output_of key d)) (output_named (as_outputs ms) name) ≡ option_map (output_of name) (match_ordering o (get_member name ms) (Some d) (get_member name ms))
    of_order Less same rest = rest
    of_order Equal same rest = ap (λ (at : List ℕ). Some (output_of at d)) (sym (same refl))
    of_order Greater same rest = rest

-- ---- the outputs that a script states of those that were shown

module _ (f : told.Output.Output → Option script.Output.Output) (keeps : (o : told.Output.Output) → IfSome (f o) (λ (r : script.Output.Output). r.name ≡ o.name)) where
  -- what the script states of the output
  abbrev pub again : List ℕ → Option Data → Option Data
  again name None = None
  again name (Some d) = option_map output_tree (f (output_of name d))

  pub again_found : (name : List ℕ) (ms collected : Members) → AreInOrder ms
      → get_member name (outputs_by_name (filter_map f (as_outputs ms)) collected) ≡ or_else (again name (get_member name ms)) (get_member name collected)
  again_found name no_members collected all = refl
  again_found name (member key d ms) collected all = of_first (f (output_of key d)) refl (keeps (output_of key d)) (λ left. again_found name ms left all.1)
    where
      unstated : (o : Ordering) → (o ≡ Equal → name ≡ key) → f (output_of key d) ≡ None
          → or_else (again name (get_member name ms)) (get_member name collected) ≡ or_else (again name (match_ordering o (get_member name ms) (Some d) (get_member name ms))) (get_member name collected)
      unstated Less same is = refl
      unstated Equal same is =
          ap (λ (o : Option Data). or_else (again name o) (get_member name collected)) (ap (λ (at : List ℕ). get_member at ms) (same refl) ∙ none_among key ms all.0)
          ∙ sym (ap (λ (r : Option script.Output.Output). or_else (option_map output_tree r) (get_member name collected)) (ap (λ (at : List ℕ). f (output_of at d)) (same refl) ∙ is))
      unstated Greater same is = refl

      stated : (o : Ordering) (r : script.Output.Output) → (o ≡ Equal → name ≡ key) → f (output_of key d) ≡ Some r
          → or_else (again name (get_member name ms)) (match_ordering o (get_member name collected) (Some (output_tree r)) (get_member name collected))
          ≡ or_else (again name (match_ordering o (get_member name ms) (Some d) (get_member name ms))) (get_member name collected)
      stated Less r same is = refl
      stated Equal r same is =
          ap (λ (o : Option Data). or_else (again name o) (Some (output_tree r))) (ap (λ (at : List ℕ). get_member at ms) (same refl) ∙ none_among key ms all.0)
          ∙ sym (ap (λ (q : Option script.Output.Output). or_else (option_map output_tree q) (get_member name collected)) (ap (λ (at : List ℕ). f (output_of at d)) (same refl) ∙ is))
      stated Greater r same is = refl

      of_first : (o : Option script.Output.Output) → f (output_of key d) ≡ o → IfSome o (λ (r : script.Output.Output). r.name ≡ key)
          → ((left : Members) → get_member name (outputs_by_name (filter_map f (as_outputs ms)) left) ≡ or_else (again name (get_member name ms)) (get_member name left))
          → get_member name (outputs_by_name (cons_option o (filter_map f (as_outputs ms))) collected) ≡ or_else (again name (get_member name (member key d ms))) (get_member name collected)
      of_first None is named rest = rest collected ∙ unstated (slice_cmp nat_cmp name key) (exact_bytes name key) is
      of_first (Some r) is named rest =
          rest (put r.name (output_tree r) collected)
          ∙ ap (λ (o : Option Data). or_else (again name (get_member name ms)) o)
          (put_found name r.name (output_tree r) collected ∙ ap (λ (at : List ℕ). match_ordering (slice_cmp nat_cmp name at) (get_member name collected) (Some (output_tree r)) (get_member name collected)) named)
          ∙ stated (slice_cmp nat_cmp name key) r (exact_bytes name key) is

  pub stated_in_order : (outputs : List script.Output.Output) (collected : Members) → AreInOrder collected → AreInOrder (outputs_by_name outputs collected)
  stated_in_order [] collected all = all
  stated_in_order (r ∷ outputs) collected all = stated_in_order outputs (put r.name (output_tree r) collected) (put_in_order r.name (output_tree r) collected all)
