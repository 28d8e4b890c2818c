-- Outputs whose names are apart come back one after another.
use Rattle.std.proofs.Common.{◌≡◌, ◌≢◌, ℕ, List, [], ◌∷◌, ◌++◌, append-nil, append_assoc, bytes_eq, cond, map, Bool, true, false, refl, sym, ap, ◌∙◌}
use Rattle.std.specs.List.{AllByRecursion, filter_map}
use Rattle.std.proofs.lemmas.Slice.Eq.{bytes_eq-Decides}
use Rattle.apply_model.specs.declared.details.output.Output.{Output}
use Rattle.stream_record_lines.specs.Outputs.{StatedOutput, output_of, put_output}
use Rattle.laws_lines.specs.Outputs.{HaveNamesApart, outputs_put, outputs_told, stated_output}

-- no output of the list has the name
abbrev HasNot : StatedOutput → List StatedOutput → Type 0
HasNot output found = AllByRecursion (λ (other : StatedOutput). bytes_eq output.name other.name ≡ false) found

put_last : (output : StatedOutput) (found : List StatedOutput) → HasNot output found → put_output output found ≡ found ++ output ∷ []
put_last output [] none = refl
put_last output (other ∷ found) none =
    ap (λ (b : Bool). cond b (output ∷ found) (other ∷ put_output output found)) none.0 ∙ ap (λ (l : List StatedOutput). other ∷ l) (put_last output found none.1)

other_name : (a b : List ℕ) → a ≢ b → bytes_eq a b ≡ false
other_name a b apart = of_test (bytes_eq a b) (bytes_eq-Decides a b).0
  where
    of_test : (t : Bool) → (t ≡ true → a ≡ b) → t ≡ false
    of_test true same = absurd (apart (same refl))
    of_test false same = refl

has_more : (output last : StatedOutput) (found : List StatedOutput) → HasNot output found → bytes_eq output.name last.name ≡ false → HasNot output (found ++ last ∷ [])
has_more output last [] none other = (other, tt)
has_more output last (x ∷ found) none other = (none.0, has_more output last found none.1 other)

-- none of these outputs has the name of one that was found
abbrev AreNew : List Output → List StatedOutput → Type 0
AreNew outputs found = AllByRecursion (λ (output : Output). HasNot (stated_output output) found) outputs

are_more : (last : Output) (outputs : List Output) (found : List StatedOutput) → AreNew outputs found → AllByRecursion (λ (other : Output). other.name ≢ last.name) outputs → AreNew outputs (found ++ stated_output last ∷ [])
are_more last [] found new apart = tt
are_more last (output ∷ outputs) found new apart =
    (has_more (stated_output output) (stated_output last) found new.0 (other_name output.name last.name apart.0), are_more last outputs found new.1 apart.1)

all_last : (outputs : List Output) (found : List StatedOutput) → AreNew outputs found → HaveNamesApart outputs → outputs_put outputs found ≡ found ++ map stated_output outputs
all_last [] found new apart = sym (append-nil found)
all_last (output ∷ outputs) found new apart =
    ap (outputs_put outputs) (put_last (stated_output output) found new.0)
    ∙ all_last outputs (found ++ stated_output output ∷ []) (are_more output outputs found new.1 apart.0) apart.1
    ∙ append_assoc found (stated_output output ∷ []) (map stated_output outputs)

nothing_found : (outputs : List Output) → AreNew outputs []
nothing_found [] = tt
nothing_found (output ∷ outputs) = (tt, nothing_found outputs)

pub told_apart : (outputs : List Output) → HaveNamesApart outputs → outputs_told outputs ≡ filter_map output_of (map stated_output outputs)
told_apart outputs apart = ap (filter_map output_of) (all_last outputs [] (nothing_found outputs) apart)
