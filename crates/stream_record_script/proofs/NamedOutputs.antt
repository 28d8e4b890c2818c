-- The first output of each name, from the last output to the first.
use Rattle.std.proofs.Common.{◌≡◌, ◌<◌, ◌≤◌, ◌-◌, ℕ, suc, List, length, drop, get_or, Option, Some, Bor, Bool, true, false, cond, refl, sym, ap, ◌∙◌, ⊎_elim, arith, drop-cons}
use Rattle.std.specs.Prelude.{option_map}
use Rattle.std.specs.Str.{bytes_eq}
use Rattle.std.proofs.lemmas.Bool.{cases_Bool, true≢false}
use Rattle.std.proofs.lemmas.Slice.Eq.{bytes_eq-Decides}
use Rattle.apply_model.specs.declared.details.output.Output.{Output}
use Rattle.stream_record_script.specs.Outputs.{output_named}

same_either_way : (a b : List ℕ) → bytes_eq a b ≡ bytes_eq b a
same_either_way a b = ⊎_elim
    (λ (yes : bytes_eq a b ≡ true). yes ∙ sym ((bytes_eq-Decides b a).1 (sym ((bytes_eq-Decides a b).0 yes))))
    (λ (differs : bytes_eq a b ≡ false). ⊎_elim
    (λ (yes : bytes_eq b a ≡ true). absurd (true≢false (sym ((bytes_eq-Decides a b).1 (sym ((bytes_eq-Decides b a).0 yes))) ∙ differs)))
    (λ (also : bytes_eq b a ≡ false). differs ∙ sym also) (cases_Bool (bytes_eq b a)))
    (cases_Bool (bytes_eq a b))

one_more : (outputs : List Output) (n : ℕ) (output : Output) (name : List ℕ) → 0 < n → n ≤ length outputs → output ≡ get_or outputs (n - 1) output
    → output_named (drop (n - 1) outputs) name ≡ cond (bytes_eq name output.name) (Some output) (output_named (drop n outputs) name)
one_more outputs n output name some within is =
    let below : n - 1 < length outputs = omega arith in
    let follows : suc (n - 1) ≡ n = omega arith in
    ap (λ (os : List Output). output_named os name) (drop-cons outputs (n - 1) output below)
    ∙ ap (λ (o : Output). cond (bytes_eq name o.name) (Some o) (output_named (drop (suc (n - 1)) outputs) name)) (sym is)
    ∙ ap (λ (m : ℕ). cond (bytes_eq name output.name) (Some output) (output_named (drop m outputs) name)) follows

read_through : (b : Bool) (output : Bor Output) (other : Option (Bor Output))
    → option_map (λ (o : Bor Output). o.now) (cond b (Some output) other) ≡ cond b (Some output.now) (option_map (λ (o : Bor Output). o.now) other)
read_through true output other = refl
read_through false output other = refl

-- one output more, before the others
pub named_more : (outputs : List Output) (n : ℕ) (output : Bor Output) (key name : List ℕ) (before after : Option (Bor Output))
    → 0 < n → n ≤ length outputs → output.now ≡ get_or outputs (n - 1) output.now → key ≡ output.now.name
    → option_map (λ (o : Bor Output). o.now) before ≡ output_named (drop n outputs) name
    → after ≡ cond (bytes_eq key name) (Some output) before
    → option_map (λ (o : Bor Output). o.now) after ≡ output_named (drop (n - 1) outputs) name
named_more outputs n output key name before after some within is same had has =
    ap (option_map (λ (o : Bor Output). o.now)) has
    ∙ read_through (bytes_eq key name) output before
    ∙ ap (λ (o : Option Output). cond (bytes_eq key name) (Some output.now) o) had
    ∙ ap (λ (k : List ℕ). cond (bytes_eq k name) (Some output.now) (output_named (drop n outputs) name)) same
    ∙ ap (λ (b : Bool). cond b (Some output.now) (output_named (drop n outputs) name)) (same_either_way output.now.name name)
    ∙ sym (one_more outputs n output.now name some within is)
