-- Members in order that a look-up does not tell apart are shown as the same outputs.
use Rattle.std.proofs.Common.{◌≡◌, ℕ, List, ◌∷◌, Some, None, option_map, map, Ordering, Less, Equal, Greater, refl, sym, ap, ap₂, ◌∙◌, subst}
use Rattle.std.specs.Cmp.Lexicographic.{slice_cmp}
use Rattle.std.specs.Ordering.{nat_cmp, match_ordering}
use Rattle.std.proofs.lemmas.Map.Lookups.{exact_bytes}
use Rattle.std.proofs.lemmas.Option.{same_Some}
use Rattle.serde_json.specs.Data.{Data, Members, no_members, member}
use Rattle.serde_json.specs.Find.{get_member}
use Rattle.apply_model.specs.declared.details.output.Output.{Output}
use Rattle.apply_plan_terraform.specs.Outputs.{as_outputs, output_of}
use Rattle.apply_text_terraform.specs.Laws.{without_secret}
use Rattle.laws_outputs.specs.NamesInOrder.{AreAfter, AreInOrder}
use Rattle.laws_outputs.proofs.Names.{first_found, later, none_among, turned}

-- the output as a line shows it
abbrev pub shown : List ℕ → Data → Output
shown name d = without_secret (output_of name d)

-- a line shows the same at that name
abbrev pub SameAt : (ones others : Members) → List ℕ → Type 0
SameAt ones others name = option_map (shown name) (get_member name ones) ≡ option_map (shown name) (get_member name others)

-- the first name stands in one of them alone
first_alone : (name : List ℕ) (d : Data) (ms others : Members) → get_member name others ≡ None → SameAt (member name d ms) others name → ⊥
first_alone name d ms others none same =
    let never : Some (shown name d) ≡ None = ap (option_map (shown name)) (sym (first_found name d ms)) ∙ same ∙ ap (option_map (shown name)) none in cc

module _ (key : List ℕ) (a b : Data) (ones others : Members) (one : AreAfter key ones) (other : AreAfter key others)
    (same : (name : List ℕ) → SameAt (member key a ones) (member key b others) name) where
  heads : shown key a ≡ shown key b
  heads =
      same_Some (shown key a) (shown key b)
      (ap (option_map (shown key)) (sym (first_found key a ones)) ∙ same key ∙ ap (option_map (shown key)) (first_found key b others))

  tails : (name : List ℕ) → SameAt ones others name
  tails name = of_order (slice_cmp nat_cmp name key) refl (same name)
    where
      of_order : (o : Ordering) → slice_cmp nat_cmp name key ≡ o → SameAt (member key a ones) (member key b others) name → SameAt ones others name
      of_order Less is at =
          subst
          (λ (p : Ordering). option_map (shown name) (match_ordering p (get_member name ones) (Some a) (get_member name ones)) ≡ option_map (shown name) (match_ordering p (get_member name others) (Some b) (get_member name others)))
          is at
      of_order Equal is at =
          subst (λ (n : List ℕ). SameAt ones others n) (sym (exact_bytes name key is))
          (ap (option_map (shown key)) (none_among key ones one) ∙ sym (ap (option_map (shown key)) (none_among key others other)))
      of_order Greater is at =
          subst
          (λ (p : Ordering). option_map (shown name) (match_ordering p (get_member name ones) (Some a) (get_member name ones)) ≡ option_map (shown name) (match_ordering p (get_member name others) (Some b) (get_member name others)))
          is at

pub same_outputs : (ones others : Members) → AreInOrder ones → AreInOrder others → ((name : List ℕ) → SameAt ones others name)
    → map without_secret (as_outputs ones) ≡ map without_secret (as_outputs others)
same_outputs no_members no_members one other same = refl
same_outputs no_members (member key b others) one other same = absurd (first_alone key b others no_members refl (sym (same key)))
same_outputs (member key a ones) no_members one other same = absurd (first_alone key a ones no_members refl (same key))
same_outputs (member key a ones) (member name b others) one other same =
    of_order (slice_cmp nat_cmp key name) refl (λ least like. same_outputs ones others one.1 other.1 (tails key a b ones others one.0 least like))
  where
    aligned : AreAfter key others → ((n : List ℕ) → SameAt (member key a ones) (member key b others) n)
        → (AreAfter key others → ((n : List ℕ) → SameAt (member key a ones) (member key b others) n) → map without_secret (as_outputs ones) ≡ map without_secret (as_outputs others))
        → map without_secret (as_outputs (member key a ones)) ≡ map without_secret (as_outputs (member key b others))
    aligned least like rest = ap₂ (λ (o : Output) (os : List Output). o ∷ os) (heads key a b ones others one.0 least like) (rest least like)

    of_order : (o : Ordering) → slice_cmp nat_cmp key name ≡ o
        → (AreAfter key others → ((n : List ℕ) → SameAt (member key a ones) (member key b others) n) → map without_secret (as_outputs ones) ≡ map without_secret (as_outputs others))
        → map without_secret (as_outputs (member key a ones)) ≡ map without_secret (as_outputs (member name b others))
    of_order Less is rest =
        absurd (first_alone key a ones (member name b others) (none_among key (member name b others) (is, later key name others is other.0)) (same key))
    of_order Equal is rest =
        subst
        (λ (n : List ℕ). AreAfter n others → ((m : List ℕ) → SameAt (member key a ones) (member n b others) m) → map without_secret (as_outputs (member key a ones)) ≡ map without_secret (as_outputs (member n b others)))
        (exact_bytes key name is) (λ least like. aligned least like rest) other.0 same
    of_order Greater is rest =
        let less = turned key name is in
        absurd (first_alone name b others (member key a ones) (none_among name (member key a ones) (less, later name key ones less one.0)) (sym (same name)))
