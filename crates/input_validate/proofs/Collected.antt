-- The report of findings that are put together.
use Rattle.std.proofs.Common.{◌≡◌, ℕ, zero, suc, ◌+◌, ◌-◌, List, [], ◌∷◌, ◌++◌, length, map, min, take, drop, get_or, set, ◌<◌, Bool, nat_lt, true, false, ◌||◌, refl, sym, ap, ◌∙◌, arith}
use Rattle.std.specs.List.{flat_map, list_any}
use Rattle.std.proofs.lemmas.Bool.{le-ltb, lt-ltb}
use Rattle.std.proofs.lemmas.List.Edits.{map_over_more}
use Rattle.std.proofs.lemmas.List.{flat_map_more, length-append, length-map, take-map, take-take, take_more}
use Rattle.std.proofs.lemmas.List.Folds.{list_any-append}
use Rattle.input_validate.specs.declared.findings.finding.Finding.{Finding}
use Rattle.input_validate.specs.declared.findings.path.Segment.{Segment}
use Rattle.input_validate.specs.declared.findings.problem.Problem.{Problem}
use Rattle.input_validate.specs.Findings.{Reported, is_refusal, most_counted, max_stored, reported, under}

abbrev pub stored_as : List Finding → ℕ → Bool → Reported
stored_as stored count refuses = record { stored = stored; count = count; refuses = refuses }

same_reported : (f g : Reported) → f.stored ≡ g.stored → f.count ≡ g.count → f.refuses ≡ g.refuses → f ≡ g
same_reported f g stored count refuses =
    ap (λ (k : List Finding). stored_as k f.count f.refuses) stored
    ∙ ap (λ (n : ℕ). stored_as g.stored n f.refuses) count
    ∙ ap (λ (r : Bool). stored_as g.stored g.count r) refuses

pub take_append : (n : ℕ) (xs ys : List Finding) → take n xs ++ take (n - length (take n xs)) ys ≡ take n (xs ++ ys)
take_append zero xs ys = refl
take_append (suc n) [] ys = ap (λ (k : ℕ). take k ys) (let e : suc n - 0 ≡ suc n = omega arith in e)
take_append (suc n) (x ∷ xs) ys =
    ap (λ (zs : List Finding). x ∷ zs)
    (ap (λ (k : ℕ). take n xs ++ take k ys) (let e : suc n - suc (length (take n xs)) ≡ n - length (take n xs) = omega arith in e) ∙ take_append n xs ys)

or_false : (b : Bool) → (b || false) ≡ b
or_false true = refl
or_false false = refl

pub reported_one : (stored : List Finding) (x : Finding) (refuses : Bool) → stored ≡ x ∷ [] → refuses ≡ is_refusal x
    → stored_as stored 1 refuses ≡ reported (x ∷ [])
unfolding reported
reported_one stored x refuses is said =
    ap (λ (k : List Finding). stored_as k 1 refuses) is
    ∙ ap (λ (b : Bool). stored_as (x ∷ []) 1 b) (said ∙ sym (or_false (is_refusal x)))

-- two counts that stop at the greatest, together
counts : (a b m : ℕ) → min (min a m + min b m) m ≡ min (a + b) m
counts a b m = omega arith

pub reported_then : (xs ys : List Finding) (f : Reported) → f.stored ≡ (reported xs).stored ++ take (max_stored - length (reported xs).stored) (reported ys).stored
    → f.count ≡ min ((reported xs).count + (reported ys).count) most_counted → f.refuses ≡ ((reported xs).refuses || (reported ys).refuses)
    → f ≡ reported (xs ++ ys)
unfolding reported
reported_then xs ys f stored count refuses =
    let k : f.stored ≡ take max_stored (xs ++ ys) = stored
    ∙ ap (λ (zs : List Finding). take max_stored xs ++ zs) (take-take (max_stored - length (take max_stored xs)) max_stored ys (omega arith))
    ∙ take_append max_stored xs ys in
    let n : f.count ≡ min (length (xs ++ ys)) most_counted = count ∙ counts (length xs) (length ys) most_counted ∙ ap (λ (n : ℕ). min n most_counted) (sym (length-append xs ys)) in
    let r : f.refuses ≡ list_any is_refusal (xs ++ ys) = refuses ∙ sym (list_any-append is_refusal xs ys) in
    same_reported f (reported (xs ++ ys)) k n r

same_refusals : (segment : Segment) (xs : List Finding) → list_any is_refusal (map (under segment) xs) ≡ list_any is_refusal xs
same_refusals segment [] = refl
same_refusals segment (x ∷ xs) = ap (λ (b : Bool). is_refusal x || b) (same_refusals segment xs)

pub reported_under : (segment : Segment) (xs : List Finding) (f : Reported) → f.stored ≡ map (under segment) (reported xs).stored → f.count ≡ (reported xs).count → f.refuses ≡ (reported xs).refuses
    → f ≡ reported (map (under segment) xs)
unfolding reported
reported_under segment xs f stored count refuses =
    let k : f.stored ≡ take max_stored (map (under segment) xs) = stored ∙ sym (take-map (under segment) max_stored xs) in
    let n : f.count ≡ min (length (map (under segment) xs)) most_counted = count ∙ ap (λ (n : ℕ). min n most_counted) (sym (length-map xs (under segment))) in
    let r : f.refuses ≡ list_any is_refusal (map (under segment) xs) = refuses ∙ sym (same_refusals segment xs) in
    same_reported f (reported (map (under segment) xs)) k n r

abbrev finding_of : List Segment → Problem → Finding
finding_of path problem = record { path = path; problem = problem }

-- one path more begins with the step
pub begin_more : (segment : Segment) (xs ys : List Finding) (i : ℕ) (item : Finding) (path : List Segment) → i < length xs → ys ≡ map (under segment) (take i xs) ++ drop i xs
    → item ≡ get_or ys i item → path ≡ segment ∷ (get_or ys i item).path
    → set ys i (finding_of path (get_or ys i item).problem) ≡ map (under segment) (take (i + 1) xs) ++ drop (i + 1) xs
begin_more segment xs ys i item path below so_far read is =
    let e : finding_of path (get_or ys i item).problem ≡ under segment item =
    ap (λ (p : List Segment). finding_of p (get_or ys i item).problem) is ∙ ap (under segment) (sym read) in
    ap (λ (x : Finding). set ys i x) e ∙ map_over_more (under segment) xs ys i item below so_far read

-- the findings of one item more, and of all
pub flat_map_next : {X : Type 0} (f : X → List Finding) (xs : List X) (i : ℕ) (x : X) → i < length xs → x ≡ get_or xs i x
    → flat_map f (take i xs) ++ f x ≡ flat_map f (take (i + 1) xs)
flat_map_next f xs i x below read =
    flat_map_more f [] (take i xs) x
    ∙ ap (λ ys. flat_map f ys) (ap (λ y. take i xs ++ y ∷ []) read ∙ sym (take_more xs i x below))

pub refuses_is : (t : Reported) (xs : List Finding) → t ≡ reported xs → t.refuses ≡ list_any is_refusal xs
unfolding reported
refuses_is t xs is = ap (λ (s : Reported). s.refuses) is

-- a list with findings is counted as more than 0
pub some_counted : (f : Reported) (all : List Finding) (n : ℕ) → f ≡ reported all → n ≡ f.count → 0 < n → nat_lt 0 (length all) ≡ true
unfolding reported
some_counted f all n is counted some =
    let count : f.count ≡ min (length all) most_counted = ap (λ (r : Reported). r.count) is in
    lt-ltb 0 (length all) (omega (arith, count, counted))

-- a list without findings is counted as 0
pub none_counted : (f : Reported) (all : List Finding) (n : ℕ) → f ≡ reported all → n ≡ f.count → n ≡ 0 → nat_lt 0 (length all) ≡ false
unfolding reported
none_counted f all n is counted none =
    let count : f.count ≡ min (length all) most_counted = ap (λ (r : Reported). r.count) is in
    le-ltb 0 (length all) (omega (arith, count, counted))
