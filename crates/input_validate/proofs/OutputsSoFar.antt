-- The findings of the output items so far.
use Rattle.std.proofs.Common.{◌≡◌, ℕ, suc, ◌+◌, ◌<◌, List, [], ◌∷◌, ◌++◌, length, map, take, get_or, Option, None, refl, sym, ap, ◌∙◌, append_assoc, arith}
use Rattle.std.proofs.lemmas.List.{append-nil}
use Rattle.serde_json.specs.Data.{Data}
use Rattle.serde_json.specs.View.{items_view, view}
use Rattle.serde_json.specs.declared.value.Value.{Value}
use Rattle.apply_json.specs.Tree.{list_of}
use Rattle.input_validate.specs.declared.findings.finding.Finding.{Finding}
use Rattle.input_validate.specs.declared.findings.path.Segment.TheVariants.{Item}
use Rattle.input_validate.specs.Findings.{under}
use Rattle.input_validate.specs.ScriptFindings.{comes_after, in_output, outputs_after}
use Rattle.input_validate.proofs.Trees.{length_so_far, listed_more}

-- when the last of some items comes
abbrev pub last_after : (seconds before : Option ℕ) → List Data → Option ℕ
last_after seconds before [] = before
last_after seconds before (d ∷ ds) = last_after seconds (comes_after seconds d) ds

last_push : (s b : Option ℕ) (ds : List Data) (d : Data) → last_after s b (ds ++ d ∷ []) ≡ comes_after s d
last_push s b [] d = refl
last_push s b (e ∷ ds) d = last_push s (comes_after s e) ds d

pub last_more : (s : Option ℕ) (vs : List Value) (i : ℕ) (v : Value) → i < length vs → v ≡ get_or vs i v
    → last_after s None (list_of (items_view (take (i + 1) vs))) ≡ comes_after s (view v)
last_more s vs i v below read =
    ap (last_after s None) (listed_more vs i v below read) ∙ last_push s None (list_of (items_view (take i vs))) (view v)

outputs_push : (s b : Option ℕ) (n : ℕ) (ds : List Data) (d : Data)
    → outputs_after s b n (ds ++ d ∷ []) ≡ outputs_after s b n ds ++ map (under (Item (n + length ds))) (in_output s (last_after s b ds) d)
outputs_push s b n [] d =
    append-nil (map (under (Item n)) (in_output s b d)) ∙ ap (λ (k : ℕ). map (under (Item k)) (in_output s b d)) (let e : n ≡ n + 0 = omega arith in e)
outputs_push s b n (e ∷ ds) d =
    let own : List Finding = map (under (Item n)) (in_output s b e) in
    let after_it : List Finding = outputs_after s (comes_after s e) (suc n) ds in
    let last : List Finding = in_output s (last_after s (comes_after s e) ds) d in
    ap (λ (xs : List Finding). own ++ xs) (outputs_push s (comes_after s e) (suc n) ds d)
    ∙ sym (append_assoc own after_it (map (under (Item (suc n + length ds))) last))
    ∙ ap (λ (k : ℕ). own ++ after_it ++ map (under (Item k)) last) (let q : suc n + length ds ≡ n + suc (length ds) = omega arith in q)

pub outputs_more : (s : Option ℕ) (vs : List Value) (i : ℕ) (v : Value) → i < length vs → v ≡ get_or vs i v
    → outputs_after s None 0 (list_of (items_view (take i vs))) ++ map (under (Item i)) (in_output s (last_after s None (list_of (items_view (take i vs)))) (view v))
    ≡ outputs_after s None 0 (list_of (items_view (take (i + 1) vs)))
outputs_more s vs i v below read =
    let so_far : List Data = list_of (items_view (take i vs)) in
    let n : i ≡ 0 + length so_far = sym (let e : 0 + length so_far ≡ length so_far = omega arith in e ∙ length_so_far vs i (omega arith)) in
    ap (λ (k : ℕ). outputs_after s None 0 so_far ++ map (under (Item k)) (in_output s (last_after s None so_far) (view v))) n
    ∙ sym (outputs_push s None 0 so_far (view v))
    ∙ ap (λ (ds : List Data). outputs_after s None 0 ds) (sym (listed_more vs i v below read))
