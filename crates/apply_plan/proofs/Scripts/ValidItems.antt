-- Lists of a script, as they are read item by item.
use Rattle.std.proofs.Common.{◌≡◌, ℕ, ◌+◌, ◌<◌, Global, List, [], ◌∷◌, ◌++◌, length, map, take, get_or, Option, Some, None, option_map, Vec, refl, sym, ap, subst, ◌∙◌}
use Rattle.std.specs.Prelude.{IfOk, Ok, Result}
use Rattle.std.proofs.lemmas.List.{map-append, take_more}
use Rattle.serde_json.specs.Data.{Data}
use Rattle.apply_json.specs.Tree.{◌>>=◌}
use Rattle.apply_plan.specs.ValidItems.{added}
use Rattle.apply_plan.specs.Script.Entry.{all_some}

-- a list with one item more
and_more : {A : Type 0} (first : A) (others : Option (List A)) (last : Option A) → (added others last >>= λ xs. Some (first ∷ xs)) ≡ added (others >>= λ xs. Some (first ∷ xs)) last
and_more first None last = refl
and_more first (Some others) None = refl
and_more first (Some others) (Some x) = refl

all_some_more : {A : Type 0} (part : Data → Option A) (ds : List Data) (d : Data) → all_some (map part (ds ++ d ∷ [])) ≡ added (all_some (map part ds)) (part d)
all_some_more {A} part [] d = last (part d)
  where
    last : (o : Option A) → (o >>= λ x. Some (x ∷ [])) ≡ added (Some []) o
    last None = refl
    last (Some x) = refl
all_some_more {A} part (first ∷ ds) d = ap (λ (rest : Option (List A)). part first >>= λ x. rest >>= λ xs. Some (x ∷ xs)) (all_some_more part ds d) ∙ behind (part first)
  where
    behind : (o : Option A) → (o >>= λ x. added (all_some (map part ds)) (part d) >>= λ xs. Some (x ∷ xs)) ≡ added (o >>= λ x. all_some (map part ds) >>= λ xs. Some (x ∷ xs)) (part d)
    behind None = refl
    behind (Some x) = and_more x (all_some (map part ds)) (part d)

-- a list with one item more, as contracts see it
seen_list : {T A : Type 0} (see : T → A) (list : Option (Vec T Global)) → option_map (λ (v : Vec T Global). map see v.items) list ≡ option_map (map see) (option_map (λ (v : Vec T Global). v.items) list)
seen_list see None = refl
seen_list see (Some v) = refl

seen_more : {T A : Type 0} (see : T → A) (list : Option (List T)) (last : Option T) → option_map (map see) (added list last) ≡ added (option_map (map see) list) (option_map see last)
seen_more see None last = refl
seen_more see (Some items) None = refl
seen_more see (Some items) (Some x) = ap (λ seen. Some seen) (map-append see items (x ∷ []))

pub found_more : {T A : Type 0} (see : T → A) (part : Data → Option A) (old new : Option (Vec T Global)) (last : Option T) (ds : List Data) (d : Data)
    → option_map (λ (v : Vec T Global). v.items) new ≡ added (option_map (λ (v : Vec T Global). v.items) old) last → option_map see last ≡ part d
    → option_map (λ (v : Vec T Global). map see v.items) old ≡ all_some (map part ds) → option_map (λ (v : Vec T Global). map see v.items) new ≡ all_some (map part (ds ++ d ∷ []))
found_more see part old new last ds d more is so_far =
    seen_list see new ∙ ap (option_map (map see)) more ∙ seen_more see (option_map (λ (v : Vec _ Global). v.items) old) last
    ∙ ap (λ list. added list (option_map see last)) (sym (seen_list see old) ∙ so_far) ∙ ap (added (all_some (map part ds))) is
    ∙ sym (all_some_more part ds d)

-- ---- copies of the items of a list

-- one copy more
pub copied_more : {T A : Type 0} (see : T → A) (made : List A) (xs : List T) (i : ℕ) (x : T) → i < length xs → x ≡ get_or xs i x → made ≡ map see (take i xs) → made ++ see x ∷ [] ≡ map see (take (i + 1) xs)
copied_more see made xs i x below is so_far =
    rw (take_more xs i x below, ← is, map-append see (take i xs) (x ∷ []), so_far) refl

-- what holds for each copy holds for this one
pub made : {T E : Type 0} (P : T → Type 0) (r : Result T E) (x : T) → r ≡ Ok x → IfOk r P → P x
made P r x is holds = subst (λ s. IfOk s P) is holds
