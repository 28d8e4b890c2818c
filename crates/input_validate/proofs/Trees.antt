-- The findings of the items of a tree so far.
use Rattle.std.proofs.Common.{◌≡◌, ℕ, suc, ◌+◌, ◌<◌, ◌≤◌, List, [], ◌∷◌, ◌++◌, length, map, drop, take, get_or, true, false, Some, None, refl, sym, ap, ◌∙◌, append_assoc, arith}
use Rattle.std.specs.List.{sum_by}
use Rattle.std.proofs.Math.Seq.{drop-cons}
use Rattle.std.specs.Prelude.{String, nat_lt, string_bytes}
use Rattle.std.specs.declared.alloc.Global.{Global}
use Rattle.std.proofs.lemmas.List.Sums.{sum_by-append, sum_by-cons}
use Rattle.std.proofs.lemmas.List.{append-nil, drop_all, length-map, length-take-le, map-append, take_more}
use denote.Ref.{Bor}
use Rattle.serde_json.specs.Data.{Data, null, boolean, number, string, array, object, Members, no_members}
use Rattle.serde_json.specs.Find.{as_object}
use Rattle.serde_json.specs.View.{items_of, items_view, members_view, view}
use Rattle.serde_json.specs.declared.value.Value.{Value}
use Rattle.apply_json.specs.ShallowView.{members_in}
use Rattle.apply_json.specs.Tree.{list_of}
use Rattle.input_validate.specs.declared.findings.finding.Finding.{Finding}
use Rattle.input_validate.specs.declared.findings.name.Name.{Name}
use Rattle.input_validate.specs.declared.findings.path.Segment.TheVariants.{Item}
use Rattle.input_validate.specs.AgainstPlan.{beyond_at, waits_beyond, waits_in}
use Rattle.input_validate.specs.Findings.{under}
use Rattle.input_validate.specs.PlanFindings.{is_one_of_eight}
use Rattle.input_validate.specs.Rules.{items_after, items_from, texts_in, unless_known, ignored_from}

in_order : (ds : List Data) → list_of (items_of ds) ≡ ds
in_order [] = refl
in_order (d ∷ ds) = ap (λ (es : List Data). d ∷ es) (in_order ds)

pub listed : (vs : List Value) → list_of (items_view vs) ≡ map view vs
listed vs = in_order (map view vs)

pub length_listed : (vs : List Value) → length (list_of (items_view vs)) ≡ length vs
length_listed vs = ap length (listed vs) ∙ length-map vs view

pub listed_more : (vs : List Value) (i : ℕ) (v : Value) → i < length vs → v ≡ get_or vs i v
    → list_of (items_view (take (i + 1) vs)) ≡ list_of (items_view (take i vs)) ++ view v ∷ []
listed_more vs i v below read =
    listed (take (i + 1) vs)
    ∙ ap (map view) (take_more vs i v below ∙ ap (λ (x : Value). take i vs ++ x ∷ []) (sym read))
    ∙ map-append view (take i vs) (v ∷ [])
    ∙ ap (λ (ds : List Data). ds ++ view v ∷ []) (sym (listed (take i vs)))

pub length_so_far : (vs : List Value) (i : ℕ) → i ≤ length vs → length (list_of (items_view (take i vs))) ≡ i
length_so_far vs i few = length_listed (take i vs) ∙ length-take-le i vs few

-- ---- one more

pub items_from_push : (findings : ℕ → Data → List Finding) (n : ℕ) (ds : List Data) (d : Data)
    → items_from findings n (ds ++ d ∷ []) ≡ items_from findings n ds ++ map (under (Item (n + length ds))) (findings (n + length ds) d)
items_from_push findings n [] d =
    append-nil (map (under (Item n)) (findings n d)) ∙ ap (λ (k : ℕ). map (under (Item k)) (findings k d)) (let e : n ≡ n + 0 = omega arith in e)
items_from_push findings n (e ∷ ds) d =
    ap (λ (xs : List Finding). map (under (Item n)) (findings n e) ++ xs) (items_from_push findings (suc n) ds d)
    ∙ sym (append_assoc (map (under (Item n)) (findings n e)) (items_from findings (suc n) ds) (map (under (Item (suc n + length ds))) (findings (suc n + length ds) d)))
    ∙ ap (λ (k : ℕ). map (under (Item n)) (findings n e) ++ items_from findings (suc n) ds ++ map (under (Item k)) (findings k d)) (let q : suc n + length ds ≡ n + suc (length ds) = omega arith in q)

pub items_more : (findings : ℕ → Data → List Finding) (vs : List Value) (i : ℕ) (v : Value) → i < length vs → v ≡ get_or vs i v
    → items_from findings 0 (list_of (items_view (take i vs))) ++ map (under (Item i)) (findings i (view v)) ≡ items_from findings 0 (list_of (items_view (take (i + 1) vs)))
items_more findings vs i v below read =
    let so_far : List Data = list_of (items_view (take i vs)) in
    let n : i ≡ 0 + length so_far = sym (let e : 0 + length so_far ≡ length so_far = omega arith in e ∙ length_so_far vs i (omega arith)) in
    ap (λ (k : ℕ). items_from findings 0 so_far ++ map (under (Item k)) (findings k (view v))) n
    ∙ sym (items_from_push findings 0 so_far (view v))
    ∙ ap (λ (ds : List Data). items_from findings 0 ds) (sym (listed_more vs i v below read))

after_push : (findings : List Data → Data → List Finding) (before ds : List Data) (d : Data)
    → items_after findings before (ds ++ d ∷ []) ≡ items_after findings before ds ++ map (under (Item (length (before ++ ds)))) (findings (before ++ ds) d)
after_push findings before [] d =
    append-nil (map (under (Item (length before))) (findings before d))
    ∙ ap (λ (bs : List Data). map (under (Item (length bs))) (findings bs d)) (sym (append-nil before))
after_push findings before (e ∷ ds) d =
    let own : List Finding = map (under (Item (length before))) (findings before e) in
    ap (λ (xs : List Finding). own ++ xs) (after_push findings (before ++ e ∷ []) ds d)
    ∙ sym (append_assoc own (items_after findings (before ++ e ∷ []) ds) (map (under (Item (length (before ++ e ∷ [] ++ ds)))) (findings (before ++ e ∷ [] ++ ds) d)))
    ∙ ap (λ (bs : List Data). own ++ items_after findings (before ++ e ∷ []) ds ++ map (under (Item (length bs))) (findings bs d)) (append_assoc before (e ∷ []) ds)

pub after_more : (findings : List Data → Data → List Finding) (vs : List Value) (i : ℕ) (v : Value) → i < length vs → v ≡ get_or vs i v
    → items_after findings [] (list_of (items_view (take i vs))) ++ map (under (Item i)) (findings (list_of (items_view (take i vs))) (view v))
    ≡ items_after findings [] (list_of (items_view (take (i + 1) vs)))
after_more findings vs i v below read =
    let so_far : List Data = list_of (items_view (take i vs)) in
    ap (λ (k : ℕ). items_after findings [] so_far ++ map (under (Item k)) (findings so_far (view v))) (sym (length_so_far vs i (omega arith)))
    ∙ sym (after_push findings [] so_far (view v))
    ∙ ap (λ (ds : List Data). items_after findings [] ds) (sym (listed_more vs i v below read))

-- what each of the values names, of one more
pub named_more : {A : Type 0} (named : Data → A) (vs : List Value) (i : ℕ) (v : Value) → i < length vs → v ≡ get_or vs i v
    → map named (list_of (items_view (take i vs))) ++ named (view v) ∷ [] ≡ map named (list_of (items_view (take (i + 1) vs)))
named_more named vs i v below read =
    sym (map-append named (list_of (items_view (take i vs))) (view v ∷ [])) ∙ ap (map named) (sym (listed_more vs i v below read))

ignored_push : (names : List Name) (n : ℕ) (texts : List (List ℕ)) (text : List ℕ)
    → ignored_from names n (texts ++ text ∷ []) ≡ ignored_from names n texts ++ unless_known names (n + length texts) text
ignored_push names n [] text =
    append-nil (unless_known names n text) ∙ ap (λ (k : ℕ). unless_known names k text) (let e : n ≡ n + 0 = omega arith in e)
ignored_push names n (t ∷ texts) text =
    ap (λ (xs : List Finding). unless_known names n t ++ xs) (ignored_push names (suc n) texts text)
    ∙ sym (append_assoc (unless_known names n t) (ignored_from names (suc n) texts) (unless_known names (suc n + length texts) text))
    ∙ ap (λ (k : ℕ). unless_known names n t ++ ignored_from names (suc n) texts ++ unless_known names k text) (let q : suc n + length texts ≡ n + suc (length texts) = omega arith in q)

abbrev texts_of : List (Bor (List ℕ)) → List (List ℕ)
texts_of texts = map (λ text. text.now) texts

pub texts_more : (names : List Name) (texts : List (Bor (List ℕ))) (i : ℕ) (d : Bor (List ℕ)) → i < length texts
    → ignored_from names 0 (texts_of (take i texts)) ++ unless_known names i (get_or texts i d).now ≡ ignored_from names 0 (texts_of (take (i + 1) texts))
texts_more names texts i d below =
    let so_far : List (List ℕ) = texts_of (take i texts) in
    let n : i ≡ 0 + length so_far = sym (let e : 0 + length so_far ≡ length so_far = omega arith in e ∙ length-map (take i texts) (λ text. text.now) ∙ length-take-le i texts (omega arith)) in
    ap (λ (k : ℕ). ignored_from names 0 so_far ++ unless_known names k (get_or texts i d).now) n
    ∙ sym (ignored_push names 0 so_far (get_or texts i d).now)
    ∙ ap (λ (xs : List (List ℕ)). ignored_from names 0 xs) (sym (ap texts_of (take_more texts i d below) ∙ map-append (λ text. text.now) (take i texts) (get_or texts i d ∷ [])))

-- ---- sums

pub sum_listed : (f : Data → ℕ) (vs : List Value) → sum_by f (list_of (items_view vs)) ≡ sum_by (λ v. f (view v)) vs
sum_listed f [] = refl
sum_listed f (v ∷ vs) =
    sum_by-cons f (view v) (list_of (items_view vs))
    ∙ ap (λ (n : ℕ). f (view v) + n) (sum_listed f vs)
    ∙ sym (sum_by-cons (λ (w : Value). f (view w)) v vs)

pub sum_more : (f : Data → ℕ) (vs : List Value) (i : ℕ) (v : Value) → i < length vs → v ≡ get_or vs i v
    → sum_by f (list_of (items_view (take i vs))) + f (view v) ≡ sum_by f (list_of (items_view (take (i + 1) vs)))
sum_more f vs i v below read =
    let so_far : List Data = list_of (items_view (take i vs)) in
    let one : sum_by f (view v ∷ []) ≡ f (view v) = sum_by-cons f (view v) [] ∙ (let e : f (view v) + sum_by f [] ≡ f (view v) = omega arith in e) in
    sym (ap (sum_by f) (listed_more vs i v below read) ∙ sum_by-append f so_far (view v ∷ []) ∙ ap (λ (n : ℕ). sum_by f so_far + n) one)

-- ---- items of `after`

pub beyond_here : (left i : ℕ) (vs : List Value) (v : Value) → i < length vs → v ≡ get_or vs i v → nat_lt left (waits_in (view v)) ≡ true
    → waits_beyond left i (map view (drop i vs)) ≡ beyond_at i left
beyond_here left i vs v below read over =
    ap (λ (ws : List Value). waits_beyond left i (map view ws)) (drop-cons vs i v below ∙ ap (λ (x : Value). x ∷ drop (suc i) vs) (sym read)) ∙ rw over refl

pub beyond_none : (left i : ℕ) (vs : List Value) → length vs ≤ i → waits_beyond left i (map view (drop i vs)) ≡ []
beyond_none left i vs past = ap (λ (ws : List Value). waits_beyond left i (map view ws)) (drop_all i vs past)

-- ---- the names of members

pub texts_listed : (ms : List (String Global × Value)) → texts_in (members_view ms) ≡ map (λ m. string_bytes m.0) ms
texts_listed [] = refl
texts_listed (m ∷ ms) = ap (λ (texts : List (List ℕ)). string_bytes m.0 ∷ texts) (texts_listed ms)

pub members_there : (d : Data) (ms : Members) → as_object d ≡ Some ms → members_in d ≡ ms
members_there null ms e = absurd cc
members_there (boolean b) ms e = absurd cc
members_there (number n) ms e = absurd cc
members_there (string s) ms e = absurd cc
members_there (array ds) ms e = absurd cc
members_there (object ns) ms e = cc

pub none_there : (d : Data) → as_object d ≡ None → members_in d ≡ no_members
none_there null e = refl
none_there (boolean b) e = refl
none_there (number n) e = refl
none_there (string s) e = refl
none_there (array ds) e = refl
none_there (object ns) e = absurd cc

-- ---- actions

pub three_or_more : (vs : List Value) → 3 ≤ length vs → false ≡ is_one_of_eight (items_view vs)
three_or_more [] many = absurd (omega arith)
three_or_more (v ∷ []) many = absurd (omega arith)
three_or_more (v ∷ w ∷ []) many = absurd (omega arith)
three_or_more (v ∷ w ∷ x ∷ vs) many = refl
