-- Provisioners that run alike, by their places.
use Rattle.std.proofs.Common.{◌≡◌, ℕ, zero, suc, ◌<◌, true, false, cond, List, [], ◌∷◌, length, ap, ◌∙◌, subst, ⊎_elim, arith}
use Rattle.std.specs.Prelude.{slice_get}
use Rattle.std.specs.Option.{option_map_or}
use Rattle.std.proofs.lemmas.Bool.{cases_Bool}
use Rattle.apply_model.specs.declared.script.outcome.Outcome.{Outcome}
use Rattle.apply_model.specs.declared.script.provisioner.Provisioner.{Provisioner}
use Rattle.apply_model.specs.Script.Outcome.{makes_fail, ran}
use Rattle.apply_text.specs.Message.{name_of, output_of}
use Rattle.laws_lanes.specs.Alike.{RunAlike, RunsAlike}

-- what provisioners that run alike have in common is found at each place among those that ran
at_place : (f : Provisioner → List ℕ) (ones others : List Provisioner) (i : ℕ)
    → ((one other : Provisioner) → RunsAlike one other → f other ≡ f one)
    → RunAlike (ran ones) (ran others) → i < length (ran ones)
    → option_map_or f (slice_get others i) [] ≡ option_map_or f (slice_get ones i) []
at_place f [] others i same alike lt = absurd (omega arith)
at_place f (one ∷ ones) [] i same alike lt = absurd alike
at_place f (one ∷ ones) (other ∷ others) zero same alike lt = same one other alike.0
at_place f (one ∷ ones) (other ∷ others) (suc i) same alike lt = ⊎_elim
    (λ (yes : makes_fail one ≡ true).
    let short : suc i < suc (length (cond true [] (ran ones))) = subst (λ t. suc i < suc (length (cond t [] (ran ones)))) yes lt in
    absurd (omega arith))
    (λ (no : makes_fail one ≡ false).
    let also : makes_fail other ≡ false = alike.0.fatal ∙ no in
    let rest : RunAlike (ran ones) (ran others) =
    subst (λ t. RunAlike (cond t [] (ran ones)) (ran others)) no
    (subst (λ t. RunAlike (cond (makes_fail one) [] (ran ones)) (cond t [] (ran others))) also alike.1) in
    let less : suc i < suc (length (ran ones)) = subst (λ t. suc i < suc (length (cond t [] (ran ones)))) no lt in
    at_place f ones others i same rest (omega arith))
    (cases_Bool (makes_fail one))

pub same_name : (one other : Outcome) (i : ℕ) → RunAlike (ran one.provisioners) (ran other.provisioners) → i < length (ran one.provisioners)
    → name_of other i ≡ name_of one i
same_name one other i alike lt =
    at_place (λ provisioner. provisioner.name) one.provisioners other.provisioners i (λ p q same. same.name) alike lt

pub same_output : (one other : Outcome) (i line : ℕ) → RunAlike (ran one.provisioners) (ran other.provisioners) → i < length (ran one.provisioners)
    → output_of other i line ≡ output_of one i line
same_output one other i line alike lt =
    at_place (λ provisioner. option_map_or (λ timed. timed.text) (slice_get provisioner.output line) []) one.provisioners other.provisioners i
    (λ p q same. ap (λ output. option_map_or (λ timed. timed.text) (slice_get output line) []) same.output) alike lt
