-- The tokens of outputs, which are appended one by one.
use Rattle.std.proofs.Common.{◌≡◌, ℕ, ◌+◌, ◌<◌, ◌≤◌, List, [], ◌∷◌, ◌++◌, drop, length, get_or, refl, sym, ap, ◌∙◌, append_assoc, append-nil}
use Rattle.std.proofs.Math.ListN.{drop_of_length-le}
use Rattle.std.proofs.lemmas.List.{drop_more}
use Rattle.json.specs.Token.{Token, end_object}
use Rattle.json.specs.Tree.{members_tokens}
use Rattle.serde_json.specs.Written.{members_outline}
use Rattle.apply_prior.specs.declared.planned_output.PlannedOutput.{PlannedOutput}
use Rattle.apply_text.specs.Sending.{member_tokens}
use Rattle.apply_text_planning.specs.Objects.{output_members, output_object}
use Rattle.apply_text_planning.specs.Sending.{output_tokens}

-- the outputs are the members of an object
pub members_are : (outputs : List PlannedOutput) → output_tokens outputs ++ end_object ∷ [] ≡ members_tokens (members_outline (output_members outputs))
members_are [] = refl
members_are (output ∷ outputs) =
    let one = member_tokens output.name (output_object output) in
    append_assoc one (output_tokens outputs) (end_object ∷ []) ∙ ap (λ tokens. one ++ tokens) (members_are outputs)

-- one more output
pub more_written : (old new start : List Token) (outputs : List PlannedOutput) (i : ℕ) (output : PlannedOutput)
    → i < length outputs → output ≡ get_or outputs i output → new ≡ old ++ member_tokens output.name (output_object output)
    → old ++ output_tokens (drop i outputs) ≡ start ++ output_tokens outputs
    → new ++ output_tokens (drop (i + 1) outputs) ≡ start ++ output_tokens outputs
more_written old new start outputs i output below is grown so_far =
    let one = member_tokens output.name (output_object output) in
    let rest = output_tokens (drop (i + 1) outputs) in
    let next : drop i outputs ≡ output ∷ drop (i + 1) outputs = drop_more outputs i output below ∙ ap (λ o. o ∷ drop (i + 1) outputs) (sym is) in
    ap (λ tokens. tokens ++ rest) grown ∙ append_assoc old one rest ∙ ap (λ os. old ++ output_tokens os) (sym next) ∙ so_far

-- all outputs
pub all_written : (tokens start : List Token) (outputs : List PlannedOutput) (i : ℕ) → length outputs ≤ i
    → tokens ++ output_tokens (drop i outputs) ≡ start ++ output_tokens outputs → tokens ≡ start ++ output_tokens outputs
all_written tokens start outputs i end so_far =
    sym (append-nil tokens) ∙ ap (λ os. tokens ++ output_tokens os) (sym (drop_of_length-le outputs end)) ∙ so_far
