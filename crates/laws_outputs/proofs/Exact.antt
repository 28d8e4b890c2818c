-- Outputs that are shown the same are the same where no output is sensitive.
use Rattle.std.proofs.Common.{◌≡◌, List, [], ◌∷◌, cond, Bool, true, false, map, refl, sym, ap, ap₂, ◌∙◌}
use Rattle.std.specs.List.{AllByRecursion}
use Rattle.apply_model.specs.declared.details.output.Output.{Output}
use Rattle.apply_text_terraform.specs.Laws.{without_secret}

keeps_sensitive : (output : Output) → (without_secret output).sensitive ≡ output.sensitive
keeps_sensitive output = of_test output.sensitive
  where
    of_test : (b : Bool) → (cond b (record output { value = [] }) output).sensitive ≡ output.sensitive
    of_test true = refl
    of_test false = refl

plain : (output : Output) → output.sensitive ≡ false → without_secret output ≡ output
plain output is = ap (λ (b : Bool). cond b (record output { value = [] }) output) is

one_same : (one other : Output) → without_secret one ≡ without_secret other → other.sensitive ≡ false → one ≡ other
one_same one other same is =
    let not_hidden : one.sensitive ≡ false = sym (keeps_sensitive one) ∙ ap (λ (o : Output). o.sensitive) same ∙ keeps_sensitive other ∙ is in
    sym (plain one not_hidden) ∙ same ∙ plain other is

first_same : (x y : Output) (xs ys : List Output) → x ∷ xs ≡ y ∷ ys → x ≡ y
first_same x y xs ys is = cc

rest_same : (x y : Output) (xs ys : List Output) → x ∷ xs ≡ y ∷ ys → xs ≡ ys
rest_same x y xs ys is = cc

pub all_same : (ones others : List Output) → map without_secret ones ≡ map without_secret others → AllByRecursion (λ (o : Output). o.sensitive ≡ false) others → ones ≡ others
all_same [] [] same all = refl
all_same [] (other ∷ others) same all = absurd cc
all_same (one ∷ ones) [] same all = absurd cc
all_same (one ∷ ones) (other ∷ others) same all =
    ap₂ (λ (o : Output) (os : List Output). o ∷ os)
    (one_same one other (first_same (without_secret one) (without_secret other) (map without_secret ones) (map without_secret others) same) all.0)
    (all_same ones others (rest_same (without_secret one) (without_secret other) (map without_secret ones) (map without_secret others) same) all.1)
