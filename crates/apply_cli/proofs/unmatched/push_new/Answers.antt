use Rattle.std.proofs.Common.{◌≡◌, ◌∷◌, [], ℕ, List, Bool, true, false, Bor, map, ◌||◌, refl, sym, ap, ◌∙◌, rules}
use Rattle.std.specs.List.{list_any}
use Rattle.std.specs.Str.{bytes_eq}
use Rattle.std.proofs.lemmas.List.{map_push}
use Rattle.apply_cli.proofs.unmatched.push_new.Goals as goal

any_of_map : (p : List ℕ → Bool) (items : List (Bor (List ℕ))) → list_any p (map (λ (one : Bor (List ℕ)). one.now) items) ≡ list_any (λ (one : Bor (List ℕ)). p one.now) items
any_of_map p [] = refl
any_of_map p (x ∷ xs) = ap (λ rest. p x.now || rest) (any_of_map p xs)

-- what `contains` gives, of the texts
found : (items read : List (Bor (List ℕ))) (text : List ℕ) (answer : Bool) → read ≡ items → answer ≡ list_any (λ (one : Bor (List ℕ)). bytes_eq one.now text) read
    → list_any (λ other. bytes_eq other text) (map (λ (one : Bor (List ℕ)). one.now) items) ≡ answer
found items read text answer same is = any_of_map (λ other. bytes_eq other text) items ∙ ap (λ xs. list_any (λ (one : Bor (List ℕ)). bytes_eq one.now text) xs) (sym same) ∙ sym is

pub returns-in_ok-push : goal.returns-in_ok-push
returns-in_ok-push c =
    let text = c.args.prefix.now in
    let items = c.args.prefixes.now.items in
    let absent : list_any (λ other. bytes_eq other text) (map (λ (one : Bor (List ℕ)). one.now) items) ≡ false = found items c.deref.result.now text c.contains.result c.deref.ensures.value c.contains.ensures.value ∙ (search rules) in
    rw absent (ap (λ xs. map (λ (one : Bor (List ℕ)). one.now) xs) (search rules) ∙ map_push (λ (one : Bor (List ℕ)). one.now) items c.args.prefix)

pub returns-else-not-contains : goal.returns-else-not-contains
returns-else-not-contains c =
    let text = c.args.prefix.now in
    let items = c.args.prefixes.now.items in
    let present : list_any (λ other. bytes_eq other text) (map (λ (one : Bor (List ℕ)). one.now) items) ≡ true = found items c.deref.result.now text c.contains.result c.deref.ensures.value c.contains.ensures.value ∙ (search rules) in
    rw present refl
