-- In Terraform's form, a run stores exactly the known members of an output and of a diagnostic.
use Rattle.std.proofs.Common.{◌≡◌, ℕ, List, [], ◌∷◌, codes, Bool, true, false, ◌||◌, if◌then◌else◌, is_some, Option, Some, None, refl, sym, ap, ◌∙◌, ⊎_elim}
use Rattle.std.specs.List.{list_any}
use Rattle.std.specs.Str.{bytes_eq}
use Rattle.std.proofs.lemmas.Bool.{cases_Bool, true≢false}
use Rattle.std.proofs.lemmas.Slice.Eq.{bytes_eq-Decides}
use Rattle.apply_plan_terraform.specs.declared.texts.part.Part.{Part}
use Rattle.apply_plan_terraform.specs.declared.texts.part.Part.TheVariants as part
use Rattle.apply_plan_terraform.specs.Texts.{part_named}
use Rattle.input_validate.specs.declared.findings.name.Name.{Name}
use Rattle.input_validate.specs.Extras.{note_names, plan_output_names}
use Rattle.input_validate.specs.Names.{name_text}
use Rattle.input_validate.specs.Rules.{is_known}

same_text : (one other : List ℕ) → bytes_eq one other ≡ true → bytes_eq other one ≡ true
same_text one other is = (bytes_eq-Decides other one).1 (sym ((bytes_eq-Decides one other).0 is))

either_way : (one other : List ℕ) → bytes_eq one other ≡ bytes_eq other one
either_way one other =
    ⊎_elim (λ (is : bytes_eq one other ≡ true). is ∙ sym (same_text one other is))
    (λ (differ : bytes_eq one other ≡ false). differ ∙ sym (not_other differ)) (cases_Bool (bytes_eq one other))
  where
    not_other : bytes_eq one other ≡ false → bytes_eq other one ≡ false
    not_other differ =
        ⊎_elim (λ (is : bytes_eq other one ≡ true). absurd (true≢false (sym (same_text other one is) ∙ differ)))
        (λ (differs : bytes_eq other one ≡ false). differs) (cases_Bool (bytes_eq other one))

turned : (names : List Name) (text : List ℕ) → is_known names text ≡ list_any (λ name. bytes_eq text (name_text name)) names
turned [] text = refl
turned (name ∷ names) text =
    ap (λ b. b || is_known names text) (either_way (name_text name) text) ∙ ap (λ b. bytes_eq text (name_text name) || b) (turned names text)

abbrev verbatim_where : Bool → Option Part
verbatim_where b = if b then Some part.Text else None

one_of_three : (kind value sensitive : Bool) → (kind || (value || (sensitive || false))) ≡ is_some (verbatim_where (sensitive || (kind || value)))
one_of_three true value true = refl
one_of_three true value false = refl
one_of_three false true true = refl
one_of_three false true false = refl
one_of_three false false true = refl
one_of_three false false false = refl

pub of_output : (text : List ℕ) → is_known plan_output_names text ≡ is_some (part_named part.Output text)
of_output text = turned plan_output_names text ∙ one_of_three (bytes_eq text (codes "type")) (bytes_eq text (codes "value")) (bytes_eq text (codes "sensitive"))

one_of_six : (a b c d e f : Bool) → (a || (b || (c || (d || (e || (f || false)))))) ≡ is_some (verbatim_where (a || (b || (c || (d || (e || f))))))
one_of_six true b c d e f = refl
one_of_six false true c d e f = refl
one_of_six false false true d e f = refl
one_of_six false false false true e f = refl
one_of_six false false false false true f = refl
one_of_six false false false false false true = refl
one_of_six false false false false false false = refl

pub of_note : (text : List ℕ) → is_known note_names text ≡ is_some (part_named part.Diagnostic text)
of_note text =
    turned note_names text
    ∙ one_of_six (bytes_eq text (codes "severity")) (bytes_eq text (codes "summary")) (bytes_eq text (codes "detail")) (bytes_eq text (codes "address")) (bytes_eq text (codes "range"))
    (bytes_eq text (codes "snippet"))
