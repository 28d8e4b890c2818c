-- The tree of a script, and the tree in which a run in Terraform's form stores values as their
-- texts: what stands at a name in both.
use Rattle.std.proofs.Common.{◌≡◌, ◌≤◌, ℕ, List, Bool, true, false, Option, Some, None, refl, sym, ap, subst, ◌∙◌, Ordering, Less, Equal, Greater, arith, true≢false}
use Rattle.std.specs.Prelude.{option_and_then}
use Rattle.std.specs.Option.{option_map_or}
use Rattle.std.specs.Ordering.{nat_cmp, match_ordering}
use Rattle.std.specs.Cmp.Lexicographic.{slice_cmp}
use Rattle.std.specs.Str.{bytes_eq}
use Rattle.std.proofs.lemmas.Slice.Eq.{bytes_eq-Decides}
use Rattle.json.specs.Json as json
use Rattle.json.specs.Json.{Json}
use Rattle.json.specs.Tree.{MembersHaveNumbers, members_depth}
use Rattle.serde_json.specs.Data.{Data, null, boolean, number, string, array, object, Members, no_members, member, put}
use Rattle.serde_json.specs.Find.{as_str, get, get_member}
use Rattle.serde_json.proofs.Views.{get_member-put, get_member-put_other}
use Rattle.serde_json.specs.Read.{max_depth, number_of, of_items, of_json, of_members}
use Rattle.apply_json.specs.Tree.{◌>>=◌, member_of}
use Rattle.apply_plan_terraform.specs.declared.texts.part.Part.{Part}
use Rattle.apply_plan_terraform.specs.declared.texts.part.Part.TheVariants.{Output, Outputs, Text}
use Rattle.apply_plan_terraform.specs.Notes.{raw_member}
use Rattle.apply_plan_terraform.specs.Outputs.{text_at}
use Rattle.apply_plan_terraform.specs.Texts.{is_text, members_with_texts, part_named, text_of, with_texts}
use Rattle.laws_validate.proofs.Spelt.{AreSpelt, IsOf, raw_tree, verbatim_spelt, mapped}

some_is : {A : Type 0} (x y : A) → Some x ≡ Some y → x ≡ y
some_is x y e = cc

pub behind : {A B : Type 0} (o : Option A) (f : A → Option B) (y : B) → option_and_then f o ≡ Some y → (x : A) × (o ≡ Some x) × (f x ≡ Some y)
behind None f y e = absurd cc
behind (Some x) f y e = (x, refl, e)

-- a value that is always stored as text
pub verbatim_whole : (it : Part) (j : Json) → is_text it ≡ true → with_texts it j ≡ string (text_of j)
verbatim_whole it json.null raw_tree = refl
verbatim_whole it (json.boolean b) raw_tree = refl
verbatim_whole it (json.number s) raw_tree = refl
verbatim_whole it (json.string s) raw_tree = refl
verbatim_whole it (json.array js) raw_tree = refl
verbatim_whole it (json.object ms) raw_tree = rw raw_tree refl

-- ---- what stands at a name

at_name : (key name : List ℕ) (d : Data) (ms : Members) → bytes_eq name key ≡ true → get_member key (put name d ms) ≡ Some d
at_name key name d ms is = ap (λ (k : List ℕ). get_member k (put name d ms)) (sym ((bytes_eq-Decides name key).0 is)) ∙ get_member-put name d ms

at_other : (key name : List ℕ) (d : Data) (ms : Members) → bytes_eq name key ≡ false → get_member key (put name d ms) ≡ get_member key ms
at_other key name d ms not =
    get_member-put_other key name d ms (λ same. true≢false (sym ((bytes_eq-Decides name key).1 (sym same)) ∙ not))

-- no value in either tree, or the same value
abbrev pub AreOf : Part → Option Data → Option Data → Type 0
AreOf inner None p = p ≡ None
AreOf inner (Some d) p = (j : Json) × IsOf j d × (p ≡ Some (with_texts inner j))

module _ (part inner : Part) (n : List ℕ) (is : part_named part n ≡ Some inner) where
  -- the members with one more, if a run looks at it
  abbrev grown : Option Part → List ℕ → Json → Members → Members
  grown looked k j g = option_map_or (λ it. put k (with_texts it j) g) looked g

  others : (looked : Option Part) (k : List ℕ) (j : Json) (g : Members) → bytes_eq k n ≡ false → get_member n (grown looked k j g) ≡ get_member n g
  others None k j g not = refl
  others (Some it) k j g not = at_other n k (with_texts it j) g not

  put_one : (same : Bool) (k : List ℕ) (j : Json) (d : Data) (f g : Members) → bytes_eq k n ≡ same → IsOf j d → AreOf inner (get_member n f) (get_member n g)
      → AreOf inner (get_member n (put k d f)) (get_member n (grown (part_named part k) k j g))
  put_one true k j d f g same of a =
      let looked : part_named part k ≡ Some inner = ap (part_named part) ((bytes_eq-Decides k n).0 same) ∙ is in
      rw (at_name n k d f same, looked, at_name n k (with_texts inner j) g same) (j, of, refl)
  put_one false k j d f g same of a = rw (at_other n k d f same, others (part_named part k) k j g same) a

  findings : (ms : json.Members) (f g x : Members) → MembersHaveNumbers ms → members_depth ms ≤ max_depth → of_members ms f ≡ Some x → AreOf inner (get_member n f) (get_member n g)
      → AreOf inner (get_member n x) (get_member n (members_with_texts part ms g))
  findings json.no_members f g x has shallow e a = subst (λ (y : Members). AreOf inner (get_member n y) (get_member n g)) (some_is f x e) a
  findings (json.member k j ms) f g x has shallow e a =
      let one = behind (of_json j) (λ d. of_members ms (put k d f)) x e in
      let of : IsOf j one.0 = record { numbers = has.0; shallow = omega (arith, shallow); is = one.1 } in
      findings ms (put k one.0 f) (grown (part_named part k) k j g) x has.1 (omega (arith, shallow)) one.2 (put_one (bytes_eq k n) k j one.0 f g refl of a)

  pub at_part : is_text part ≡ false → (j : Json) (d : Data) → IsOf j d → AreOf inner (get n d) (get n (with_texts part j))
  at_part not json.null d of = rw (sym (some_is null d of.is)) refl
  at_part not (json.boolean b) d of = rw (sym (some_is (boolean b) d of.is)) refl
  at_part not (json.number s) d of = let it = mapped number (number_of s) d of.is in rw it.2 refl
  at_part not (json.string s) d of = rw (sym (some_is (string s) d of.is)) refl
  at_part not (json.array js) d of = let it = mapped array (of_items js) d of.is in rw it.2 refl
  at_part not (json.object ms) d of =
      let it = mapped object (of_members ms no_members) d of.is in
      rw (it.2, not) (findings ms no_members no_members it.0 of.numbers (omega (arith, of.shallow)) it.1 refl)

spelt : (o p : Option Data) → AreOf Text o p → AreSpelt o (p >>= as_str)
spelt None p a = rw a refl
spelt (Some d) p a = (a.0, a.1, ap (λ (q : Option Data). q >>= as_str) (a.2 ∙ ap (λ (t : Data). Some t) (verbatim_whole Text a.0 refl)))

-- a member that is stored as text
module _ (part : Part) (n : List ℕ) (is : part_named part n ≡ Some Text) (not : is_text part ≡ false) (j : Json) (d : Data) (of : IsOf j d) where
  pub text_spelt : AreSpelt (get n d) (text_at n (with_texts part j))
  text_spelt = spelt (get n d) (get n (with_texts part j)) (at_part part Text n is not j d of)

  -- the same for a member that is not `null`
  pub member_spelt : AreSpelt (member_of n d) (raw_member n (with_texts part j))
  member_spelt = verbatim_spelt (get n d) (text_at n (with_texts part j)) text_spelt

-- ---- outputs by their names

-- the members are the same, in order
abbrev pub AreOutputs : Members → Members → Type 0
AreOutputs no_members ts = ts ≡ no_members
AreOutputs (member l d ms) ts = (j : Json) × (others : Members) × (ts ≡ member l (with_texts Output j) others) × IsOf j d × AreOutputs ms others

by_order : (o : Ordering) (k l : List ℕ) (i j : Json) (d x : Data) (ms ts : Members) → IsOf j d → IsOf i x → AreOutputs ms ts → AreOutputs (put k d ms) (put k (with_texts Output j) ts)
    → AreOutputs (match_ordering o (member k d (member l x ms)) (member l d ms) (member l x (put k d ms)))
    (match_ordering o (member k (with_texts Output j) (member l (with_texts Output i) ts)) (member l (with_texts Output j) ts) (member l (with_texts Output i) (put k (with_texts Output j) ts)))
by_order Less k l i j d x ms ts one other rest more = (j, member l (with_texts Output i) ts, refl, one, (i, ts, refl, other, rest))
by_order Equal k l i j d x ms ts one other rest more = (j, ts, refl, one, rest)
by_order Greater k l i j d x ms ts one other rest more = (i, put k (with_texts Output j) ts, refl, other, more)

put_output : (k : List ℕ) (j : Json) (d : Data) (ms ts : Members) → IsOf j d → AreOutputs ms ts → AreOutputs (put k d ms) (put k (with_texts Output j) ts)
put_output k j d no_members ts of rest = (j, no_members, ap (put k (with_texts Output j)) rest, of, refl)
put_output k j d (member l x ms) ts of rest =
    rw (rest.2) (by_order (slice_cmp nat_cmp k l) k l rest.0 j d x ms rest.1 of rest.3 rest.4 (put_output k j d ms rest.1 of rest.4))

pub all_outputs : (ms : json.Members) (f g x : Members) → MembersHaveNumbers ms → members_depth ms ≤ max_depth → of_members ms f ≡ Some x → AreOutputs f g
    → AreOutputs x (members_with_texts Outputs ms g)
all_outputs json.no_members f g x has shallow e a = subst (λ (y : Members). AreOutputs y g) (some_is f x e) a
all_outputs (json.member k j ms) f g x has shallow e a =
    let one = behind (of_json j) (λ d. of_members ms (put k d f)) x e in
    let of : IsOf j one.0 = record { numbers = has.0; shallow = omega (arith, shallow); is = one.1 } in
    all_outputs ms (put k one.0 f) (put k (with_texts Output j) g) x has.1 (omega (arith, shallow)) one.2 (put_output k j one.0 f g of a)
