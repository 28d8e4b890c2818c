-- Nodes that get numbers.
use Rattle.std.proofs.Common.{◌≡◌, ◌<◌, ◌≤◌, ◌+◌, ℕ, List, [], ◌∷◌, ◌++◌, Bor, length, take, get_or, cond, true, Option, Some, refl, sym, ap, ◌∙◌, ⊎_elim, arith, subst, option_map, length-append}
use Rattle.std.specs.Prelude.{slice_get}
use Rattle.std.specs.List.{Contains, list_any}
use Rattle.std.specs.Str.{bytes_eq}
use Rattle.std.proofs.lemmas.Bool.{cases_lt}
use Rattle.std.proofs.lemmas.List.{get_or-map, length-map, map-append, take_more}
use Rattle.std.proofs.lemmas.List.Elements.{All-push, All-weaker, Contains-append_left, Contains-push}
use Rattle.std.proofs.lemmas.Option.{get_or_from_slice_get, slice_get-get_or, slice_get-map, slice_get_within}
use Rattle.std.proofs.lemmas.Slice.Eq.{bytes_eq-Decides}
use Rattle.std.specs.declared.alloc.Global.{Global}
use Rattle.std.specs.declared.vec.Vec.{Vec}
use Rattle.input_graph.specs.AllWaits.{lists_in}
use Rattle.input_graph.specs.Numbering.{AreNumbersOf, AreStarts, Extends, HaveSteps, HaveTargets, IsNumbering}
use Rattle.input_graph.specs.StepNodes.{step_named}
use Rattle.input_graph.specs.Targets.{targets_of, texts}
use Rattle.input_graph.proofs.Members.{joins, same_place}
use Rattle.input_graph.proofs.Texts.{joined_text}

-- a node that joins gets a number, and the others keep theirs
pub joined_extends : (node : Bor (List ℕ)) (nodes new : List (Bor (List ℕ))) → new ≡ cond (list_any (λ other. bytes_eq node.now other.now) nodes) nodes (nodes ++ node ∷ [])
    → Extends (texts nodes) (texts new)
joined_extends node nodes new is number name at =
    ap (λ (names : List (List ℕ)). slice_get names number) (joined_text node nodes new is)
    ∙ (joins (texts nodes) node.now).stays number (slice_get_within (texts nodes) number name at) ∙ at

pub stored_name : (node : Bor (List ℕ)) (keys : List (Bor (List ℕ))) (number : ℕ) → (k : Bor (List ℕ)) × (slice_get keys number ≡ Some k) × (bytes_eq node.now k.now ≡ true)
    → slice_get (texts keys) number ≡ Some node.now
stored_name node keys number s =
    slice_get-map (λ (reference : Bor (List ℕ)). reference.now) keys number
    ∙ ap (λ (found : Option (Bor (List ℕ))). option_map (λ reference. reference.now) found) s.1
    ∙ ap Some (sym ((bytes_eq-Decides node.now s.0.now).0 s.2))

pub kept_numbers : (names new : List (List ℕ)) (numbers : List ℕ) (nodes : List (List ℕ)) → Extends names new → AreNumbersOf names numbers nodes → AreNumbersOf new numbers nodes
kept_numbers names new numbers nodes ext are = record {
  each = All-weaker (λ number. (name : List ℕ) × (slice_get names number ≡ Some name) × Contains nodes name) (λ number. (name : List ℕ) × (slice_get new number ≡ Some name) × Contains nodes name)
      (λ number has. (has.0, ext number has.0 has.1, has.2)) numbers are.each;
  all = All-weaker (λ node. (number : ℕ) × Contains numbers number × (slice_get names number ≡ Some node)) (λ node. (number : ℕ) × Contains numbers number × (slice_get new number ≡ Some node))
      (λ node has. (has.0, has.1, ext has.0 node has.2)) nodes are.all;
}

pub more_numbers : (names : List (List ℕ)) (numbers : List ℕ) (nodes : List (List ℕ)) (number : ℕ) (node : List ℕ) → AreNumbersOf names numbers nodes → slice_get names number ≡ Some node
    → AreNumbersOf names (numbers ++ number ∷ []) (nodes ++ node ∷ [])
more_numbers names numbers nodes number node are at = record {
  each = All-push (λ number. (name : List ℕ) × (slice_get names number ≡ Some name) × Contains (nodes ++ node ∷ []) name) numbers number
      (All-weaker (λ number. (name : List ℕ) × (slice_get names number ≡ Some name) × Contains nodes name) (λ number. (name : List ℕ) × (slice_get names number ≡ Some name) × Contains (nodes ++ node ∷ []) name)
      (λ number has. (has.0, has.1, Contains-append_left nodes (node ∷ []) has.0 has.2)) numbers are.each)
      (node, at, Contains-push nodes node);
  all = All-push (λ node. (n : ℕ) × Contains (numbers ++ number ∷ []) n × (slice_get names n ≡ Some node)) nodes node
      (All-weaker (λ node. (number : ℕ) × Contains numbers number × (slice_get names number ≡ Some node)) (λ node. (n : ℕ) × Contains (numbers ++ number ∷ []) n × (slice_get names n ≡ Some node))
      (λ node has. (has.0, Contains-append_left numbers (number ∷ []) has.0 has.1, has.2)) nodes are.all)
      (number, Contains-push numbers number, at);
}

pub one_numbered : (all : List (Bor (List ℕ))) (i : ℕ) (d : Bor (List ℕ)) (names new : List (List ℕ)) (numbers grown : List ℕ) (number : ℕ) → i < length all
    → AreNumbersOf names numbers (take i (texts all)) → Extends names new → slice_get new number ≡ Some (get_or all i d).now → grown ≡ numbers ++ number ∷ []
    → AreNumbersOf new grown (take (i + 1) (texts all))
one_numbered all i d names new numbers grown number within are ext at is =
    let inside : i < length (texts all) = rw length-map within in
    let text : get_or (texts all) i [] ≡ (get_or all i d).now = get_or-map (λ (reference : Bor (List ℕ)). reference.now) all i d [] within in
    let taken : take (i + 1) (texts all) ≡ take i (texts all) ++ (get_or all i d).now ∷ [] =
    take_more (texts all) i [] inside ∙ ap (λ (t : List ℕ). take i (texts all) ++ t ∷ []) text in
    subst (λ (ns : List ℕ). AreNumbersOf new ns (take (i + 1) (texts all))) (sym is)
    (subst (AreNumbersOf new (numbers ++ number ∷ [])) (sym taken)
    (more_numbers new numbers (take i (texts all)) number (get_or all i d).now (kept_numbers names new numbers (take i (texts all)) ext are) at))

-- an item at the end
pub last_place : {X : Type 0} (xs : List X) (x : X) (k : ℕ) → k ≡ length xs → slice_get (xs ++ x ∷ []) k ≡ Some x
last_place [] x k is = rw is refl
last_place (y ∷ ys) x k is = rw is (last_place ys x (length ys) refl)

pub one_start : (steps names new : List (List ℕ)) (starts grown : List ℕ) (count number : ℕ) (node : List ℕ) → AreStarts steps names starts count × (length starts ≡ count) → Extends names new
    → slice_get steps count ≡ Some node → slice_get new number ≡ Some node → grown ≡ starts ++ number ∷ [] → AreStarts steps new grown (count + 1)
one_start steps names new starts grown count number node had ext here at is =
    subst (λ (list : List ℕ). AreStarts steps new list (count + 1)) (sym is)
    (λ step name before is_named. ⊎_elim
    (λ (lt : step < count).
    let was = had.0 step name lt is_named in
    (was.0, same_place starts (number ∷ []) step (slice_get_within starts step was.0 was.1) ∙ was.1, ext was.0 name was.2))
    (λ (ge : count ≤ step).
    let same : step ≡ count = omega (arith, ge, before) in
    let it : node ≡ name = cc (here, is_named, same) in
    (number, last_place starts number step (same ∙ sym had.1), at ∙ ap Some it))
    (cases_lt step count))

pub one_step_of : (steps names : List (List ℕ)) (step_of grown : List (Option ℕ)) (count : ℕ) (node : List ℕ) (of : Option ℕ) → HaveSteps steps names step_of count × (length step_of ≡ count)
    → slice_get names count ≡ Some node → of ≡ step_named steps node → grown ≡ step_of ++ of ∷ [] → HaveSteps steps names grown (count + 1)
one_step_of steps names step_of grown count node of had here named is =
    subst (λ (list : List (Option ℕ)). HaveSteps steps names list (count + 1)) (sym is)
    (λ number name before at. ⊎_elim
    (λ (lt : number < count).
    let was = had.0 number name lt at in
    same_place step_of (of ∷ []) number (slice_get_within step_of number (step_named steps name) was) ∙ was)
    (λ (ge : count ≤ number).
    let same : number ≡ count = omega (arith, ge, before) in
    let it : node ≡ name = cc (here, at, same) in
    last_place step_of of number (same ∙ sym had.1) ∙ ap Some (named ∙ ap (λ (n : List ℕ). step_named steps n) it))
    (cases_lt number count))

pub one_list : (edges : List (List ℕ × List ℕ)) (names new : List (List ℕ)) (lists grown : List (List ℕ)) (count : ℕ) (node : List ℕ) (numbers : List ℕ)
    → HaveTargets edges names lists count × (length lists ≡ count) → Extends names new → slice_get names count ≡ Some node → AreNumbersOf new numbers (targets_of edges node)
    → grown ≡ lists ++ numbers ∷ [] → HaveTargets edges new grown (count + 1)
one_list edges names new lists grown count node numbers had ext here are is =
    let within = slice_get_within names count node here in
    subst (λ (all : List (List ℕ)). HaveTargets edges new all (count + 1)) (sym is)
    (λ number name before at. ⊎_elim
    (λ (lt : number < count).
    let inside : number < length names = omega (arith, lt, within) in
    let old = slice_get-get_or names number [] inside in
    let now : slice_get new number ≡ Some (get_or names number []) = ext number (get_or names number []) old in
    let it : get_or names number [] ≡ name = cc (now, at) in
    let was = had.0 number name lt (old ∙ ap Some it) in
    (was.0, same_place lists (numbers ∷ []) number (slice_get_within lists number was.0 was.1) ∙ was.1, kept_numbers names new was.0 (targets_of edges name) ext was.2))
    (λ (ge : count ≤ number).
    let same : number ≡ count = omega (arith, ge, before) in
    let now : slice_get new count ≡ Some node = ext count node here in
    let it : node ≡ name = cc (now, at, same) in
    (numbers, last_place lists numbers number (same ∙ sym had.1), subst (λ (n : List ℕ). AreNumbersOf new numbers (targets_of edges n)) it are))
    (cases_lt number count))

pub pushed_length : {X : Type 0} (xs new : List X) (x : X) (count : ℕ) → length xs ≡ count → new ≡ xs ++ x ∷ [] → length new ≡ count + 1
pushed_length xs new x count had is = ap length is ∙ length-append xs (x ∷ []) ∙ ap (λ (n : ℕ). n + 1) had

pub name_at : (keys : List (Bor (List ℕ))) (number : ℕ) (name : Bor (List ℕ)) → slice_get keys number ≡ Some name → slice_get (texts keys) number ≡ Some name.now
name_at keys number name at =
    slice_get-map (λ (reference : Bor (List ℕ)). reference.now) keys number ∙ ap (λ (found : Option (Bor (List ℕ))). option_map (λ reference. reference.now) found) at

pub one_list_more : (vectors new : List (Vec ℕ Global)) (vector : Vec ℕ Global) → new ≡ vectors ++ vector ∷ [] → lists_in new ≡ lists_in vectors ++ vector.items ∷ []
one_list_more vectors new vector is = ap lists_in is ∙ map-append (λ (v : Vec ℕ Global). v.items) vectors (vector ∷ [])

pub next_within : (keys new : List (Bor (List ℕ))) (number : ℕ) (name : List ℕ) → slice_get (texts keys) number ≡ Some name → Extends (texts keys) (texts new) → number + 1 ≤ length new
next_within keys new number name at ext =
    let inside = slice_get_within (texts new) number name (ext number name at) in
    let long : length (texts new) ≡ length new = length-map new (λ (reference : Bor (List ℕ)). reference.now) in
    omega (arith, inside, long)

-- one node more
pub numbered_more : (all : List (Bor (List ℕ))) (i : ℕ) (d : Bor (List ℕ)) (first : List (List ℕ)) (keys new : List (Bor (List ℕ))) (numbers grown : List ℕ) (number : ℕ) → i < length all
    → AreNumbersOf (texts keys) numbers (take i (texts all)) × Extends first (texts keys)
    → new ≡ cond (list_any (λ other. bytes_eq (get_or all i d).now other.now) keys) keys (keys ++ get_or all i d ∷ [])
    → (k : Bor (List ℕ)) × (slice_get new number ≡ Some k) × (bytes_eq (get_or all i d).now k.now ≡ true) → grown ≡ numbers ++ number ∷ []
    → AreNumbersOf (texts new) grown (take (i + 1) (texts all)) × Extends first (texts new)
numbered_more all i d first keys new numbers grown number within had joined stored is =
    let ext = joined_extends (get_or all i d) keys new joined in (
      one_numbered all i d (texts keys) (texts new) numbers grown number within had.0 ext (stored_name (get_or all i d) new number stored) is,
      λ n name at. ext n name (had.1 n name at),
    )

pub start_named : (steps names : List (List ℕ)) (starts : List ℕ) (step start : ℕ) → step < length steps → AreStarts steps names starts (length steps) → start ≡ get_or starts step start
    → slice_get names start ≡ Some (get_or steps step [])
start_named steps names starts step start within are here =
    let name = get_or steps step [] in
    let has = are step name within (slice_get-get_or steps step [] within) in
    let same : has.0 ≡ start = sym (get_or_from_slice_get starts step has.0 start has.1) ∙ sym here in
    subst (λ (n : ℕ). slice_get names n ≡ Some name) same has.2

pub numbering : (steps : List (List ℕ)) (edges : List (List ℕ × List ℕ)) (first keys : List (Bor (List ℕ))) (lists : List (List ℕ)) (step_of : List (Option ℕ)) (starts : List ℕ)
    → AreStarts steps (texts first) starts (length steps) → Extends (texts first) (texts keys) → HaveTargets edges (texts keys) lists (length keys) → HaveSteps steps (texts keys) step_of (length keys)
    → IsNumbering steps edges (texts keys) lists step_of starts
numbering steps edges first keys lists step_of starts begins ext leads knows =
    let long : length (texts keys) ≡ length keys = length-map keys (λ (reference : Bor (List ℕ)). reference.now) in
    record {
      begins = λ step name within at. let has = begins step name within at in (has.0, has.1, ext has.0 name has.2);
      leads = λ number name within at. leads number name (omega (arith, within, long)) at;
      knows = λ number name within at. knows number name (omega (arith, within, long)) at;
    }
