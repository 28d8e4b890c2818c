-- An element of `resource_changes` alone has no error if and only if a run reads it.
use Rattle.std.proofs.Common.{◌≡◌, ℕ, List, [], ◌∷◌, ◌++◌, Bool, true, false, not, ◌&&◌, ◌||◌, is_some, Option, Some, None, refl, sym, ap, ◌∙◌}
use Rattle.std.specs.Prelude.{codes, if◌then◌else◌, is_none}
use Rattle.std.specs.List.{list_all}
use Rattle.std.specs.Option.{option_map_or}
use Rattle.std.specs.Str.{bytes_eq}
use Rattle.serde_json.specs.Data.{Data, Items, null, boolean, number, string, array, object}
use Rattle.serde_json.specs.Find.{as_array, as_object, as_str}
use Rattle.apply_json.specs.Tree.{◌>>=◌, member_of, non_empty_text_of, text_of, text_or, unless_empty}
use Rattle.apply_model.specs.declared.plan.key.Key.{Key}
use Rattle.apply_model.specs.declared.plan.mode.Mode.{Mode}
use Rattle.apply_model.specs.declared.plan.mode.Mode.TheVariants.{Managed, DataSource}
use Rattle.apply_model.specs.Plan.Address.{relative_address}
use Rattle.apply_plan.specs.Plan.Element.{Element, element_of, key_of, mode_named, planned_change_of, prior_id_of}
use Rattle.apply_plan.specs.Plan.Steps.{steps_of_actions}
use Rattle.input_validate.specs.declared.findings.finding.Finding.{Finding}
use Rattle.input_validate.specs.declared.findings.name.Name.TheVariants as name
use Rattle.input_validate.specs.declared.findings.expected.Expected.TheVariants as expected
use Rattle.input_validate.specs.PlanFindings.{actions_violation, address_violations, by_itself, element_table, has_empty_address, in_change, is_misplaced, is_one_of_eight, is_sound, misplaces, name_read}
use Rattle.input_validate.specs.Rules.{faults_of, inside, rule, violation_findings, member_at}
use Rattle.input_validate.specs.Expectations.{is_met}
use Rattle.laws_validate.proofs.Clean.{clean, clean-append, clean-faults_of, clean-inside, clean-violation_findings, clean-where, is_absent_or}
use Rattle.input_validate.proofs.Options.{and_then_is, and_true, not_not}
use Rattle.laws_validate.proofs.Wanted.{met_array, met_non_empty, met_text, met_text_or, needs_object}

-- ---- what values have to be

of_tests : (b c : Bool) (m n : Mode) → (b || c) ≡ is_some (if b then Some m else if c then Some n else None)
of_tests true c m n = refl
of_tests false true m n = refl
of_tests false false m n = refl

-- a text that names a mode
mode_text : (text : Option (List ℕ))
    → (option_map_or (λ t. bytes_eq t (codes "managed")) text false || option_map_or (λ t. bytes_eq t (codes "data")) text false) ≡ is_some (text >>= mode_named)
mode_text None = refl
mode_text (Some t) = of_tests (bytes_eq t (codes "managed")) (bytes_eq t (codes "data")) Managed DataSource

met_mode : (o : Option Data) → is_met expected.Mode o ≡ is_some (o >>= as_str >>= mode_named)
met_mode None = refl
met_mode (Some d) = mode_text (as_str d)

met_key : (o : Option Data) → is_met expected.Key o ≡ is_some (key_of o)
met_key None = refl
met_key (Some d) = refl

-- ---- `change`

-- the actions of a change are there, and one of the eight lists
abbrev has_steps : Data → Bool
has_steps change = option_map_or is_one_of_eight (member_of (codes "actions") change >>= as_array) false

of_actions : (o : Option Items) → (is_some o && not (option_map_or (λ actions. not (is_one_of_eight actions)) o false)) ≡ option_map_or is_one_of_eight o false
of_actions None = refl
of_actions (Some actions) = not_not (is_one_of_eight actions)

clean_members_of_change : (d : Data) → clean (faults_of (rule name.Actions expected.Array ∷ []) d ++ violation_findings (actions_violation d ∷ [])) ≡ has_steps d
clean_members_of_change d =
    let o : Option Data = member_of (codes "actions") d in
    clean-append (faults_of (rule name.Actions expected.Array ∷ []) d) (violation_findings (actions_violation d ∷ []))
    ∙ ap (λ (b : Bool). b && clean (violation_findings (actions_violation d ∷ [])))
    (clean-faults_of (rule name.Actions expected.Array ∷ []) d ∙ and_true (is_met expected.Array o) ∙ met_array o)
    ∙ ap (λ (b : Bool). is_some (o >>= as_array) && b)
    (clean-violation_findings (actions_violation d ∷ []) refl ∙ and_true (not (actions_violation d).holds)
    ∙ ap (λ (x : Option Items). not (option_map_or (λ actions. not (is_one_of_eight actions)) x false)) (and_then_is as_array o))
    ∙ of_actions (o >>= as_array)

-- a value is no object, or has steps
abbrev is_change : Data → Bool
is_change d = if is_some (as_object d) then has_steps d else true

clean_change : (d : Data) → clean (in_change d) ≡ is_change d
unfolding in_change
clean_change d =
    clean-where (is_some (as_object d)) (faults_of (rule name.Actions expected.Array ∷ []) d ++ violation_findings (actions_violation d ∷ [])) (has_steps d) (clean_members_of_change d)

-- ---- the address

of_violations : (m e : Bool) → (not (m && e) && (not (m && not e) && true)) ≡ not m
of_violations true true = refl
of_violations true false = refl
of_violations false e = refl

clean_address : (d : Data) → clean (violation_findings (address_violations d)) ≡ not (misplaces d)
clean_address d = clean-violation_findings (address_violations d) refl ∙ of_violations (misplaces d) (has_empty_address d)

-- ---- what a run reads

abbrev read_as : List ℕ → Mode → List ℕ → List ℕ → List ℕ → Key → List ℕ → Items × Option (List ℕ) → Element
read_as address mode kind_name name module_address key deposed planned = record {
  address = address;
  mode = mode;
  kind_name = kind_name;
  name = name;
  module_address = module_address;
  key = key;
  deposed = unless_empty deposed;
  actions = planned.0;
  prior_id = planned.1;
}

abbrev pub gathered : Option (List ℕ) → Option Mode → Option (List ℕ) → Option (List ℕ) → Option (List ℕ) → Option Key → Option (List ℕ)
    → Option (Items × Option (List ℕ)) → Option Element
gathered address mode kind_name name module_address key deposed planned =
    address >>= λ a. mode >>= λ o. kind_name >>= λ k. name >>= λ n. module_address >>= λ m. key >>= λ x. deposed >>= λ p. planned >>= λ c.
    Some (read_as a o k n m x p c)

-- an element has steps, and its address is in its module
abbrev pub has_change : Element → Bool
has_change e = is_some (steps_of_actions e.actions) && is_some (relative_address e.module_address e.address)

there : {A : Type 0} (o : Option A) → not (is_none o) ≡ is_some o
there None = refl
there (Some x) = refl

pub some_is : {A : Type 0} (x y : A) → Some x ≡ Some y → x ≡ y
some_is x y e = cc

-- what a run reads of a change
abbrev pub planned : Items → Option (List ℕ) → Items × Option (List ℕ)
planned actions prior = (actions, prior)

abbrev has_one_of_eight : Option (Items × Option (List ℕ)) → Bool
has_one_of_eight o = option_map_or (λ change. is_one_of_eight change.0) o false

-- the gathered values come from the members
all_there : (a : Option (List ℕ)) (o : Option Mode) (k n m : Option (List ℕ)) (x : Option Key) (p : Option (List ℕ)) (c : Option (Items × Option (List ℕ)))
    → (is_some a && (is_some o && (is_some k && (is_some n && (is_some m && (is_some x && (is_some p && (has_one_of_eight c && not (is_misplaced a m)))))))))
    ≡ option_map_or has_change (gathered a o k n m x p c) false
all_there None o k n m x p c = refl
all_there (Some a) None k n m x p c = refl
all_there (Some a) (Some o) None n m x p c = refl
all_there (Some a) (Some o) (Some k) None m x p c = refl
all_there (Some a) (Some o) (Some k) (Some n) None x p c = refl
all_there (Some a) (Some o) (Some k) (Some n) (Some m) None p c = refl
all_there (Some a) (Some o) (Some k) (Some n) (Some m) (Some x) None c = refl
all_there (Some a) (Some o) (Some k) (Some n) (Some m) (Some x) (Some p) None = refl
all_there (Some a) (Some o) (Some k) (Some n) (Some m) (Some x) (Some p) (Some c) = ap (λ (b : Bool). is_some (steps_of_actions c.0) && b) (there (relative_address m a))

abbrev pub named : List ℕ → Option (List ℕ) → List ℕ × Option (List ℕ)
named address deposed = (address, deposed)

-- what was gathered
pub record IsGathered (address module_address deposed : Option (List ℕ)) (change : Option (Items × Option (List ℕ))) (e : Element) : Type 0 where
  pub address_is : address ≡ Some e.address
  pub module_is : module_address ≡ Some e.module_address
  pub change_is : change ≡ Some (planned e.actions e.prior_id)
  -- the object that the element is of
  pub name_is : (address >>= λ a. deposed >>= λ p. Some (named a (unless_empty p))) ≡ Some (named e.address e.deposed)

is_gathered : (a : Option (List ℕ)) (o : Option Mode) (k n m : Option (List ℕ)) (x : Option Key) (p : Option (List ℕ)) (c : Option (Items × Option (List ℕ))) (e : Element)
    → gathered a o k n m x p c ≡ Some e → IsGathered a m p c e
is_gathered None o k n m x p c e is = absurd cc
is_gathered (Some a) None k n m x p c e is = absurd cc
is_gathered (Some a) (Some o) None n m x p c e is = absurd cc
is_gathered (Some a) (Some o) (Some k) None m x p c e is = absurd cc
is_gathered (Some a) (Some o) (Some k) (Some n) None x p c e is = absurd cc
is_gathered (Some a) (Some o) (Some k) (Some n) (Some m) None p c e is = absurd cc
is_gathered (Some a) (Some o) (Some k) (Some n) (Some m) (Some x) None c e is = absurd cc
is_gathered (Some a) (Some o) (Some k) (Some n) (Some m) (Some x) (Some p) None e is = absurd cc
is_gathered (Some a) (Some o) (Some k) (Some n) (Some m) (Some x) (Some p) (Some c) e is =
    let same : read_as a o k n m x p c ≡ e = some_is (read_as a o k n m x p c) e is in
    record {
      address_is = ap (λ (y : Element). Some y.address) same;
      module_is = ap (λ (y : Element). Some y.module_address) same;
      change_is = ap (λ (y : Element). Some (planned y.actions y.prior_id)) same;
      name_is = ap (λ (y : Element). Some (named y.address y.deposed)) same;
    }

-- the tests, in the order in which a run makes them
shuffle : (a m o k n x p j c r : Bool)
    → (((a && (m && (o && (k && (n && (x && (p && (j && true)))))))) && c) && r) ≡ (a && (o && (k && (n && (m && (x && (p && ((j && c) && r))))))))
shuffle false m o k n x p j c r = refl
shuffle true false false k n x p j c r = refl
shuffle true false true false n x p j c r = refl
shuffle true false true true false x p j c r = refl
shuffle true false true true true x p j c r = refl
shuffle true true false k n x p j c r = refl
shuffle true true true false n x p j c r = refl
shuffle true true true true false x p j c r = refl
shuffle true true true true true false p j c r = refl
shuffle true true true true true true false j c r = refl
shuffle true true true true true true true j c r = ap (λ (b : Bool). (b && c) && r) (and_true j)

-- ---- `change`, as a run reads it

planned_of : (actions : Option Items) (prior : Option (List ℕ))
    → option_map_or is_one_of_eight actions false ≡ has_one_of_eight (actions >>= λ findings. Some (planned findings prior))
planned_of None prior = refl
planned_of (Some actions) prior = refl

planned_reads : (list : Option Data) (prior : Option (List ℕ))
    → option_map_or is_one_of_eight (list >>= as_array) false ≡ has_one_of_eight (list >>= λ l. as_array l >>= λ actions. Some (planned actions prior))
planned_reads None prior = refl
planned_reads (Some l) prior = planned_of (as_array l) prior

abbrev pub read_change : Data → Option (Items × Option (List ℕ))
read_change change = member_of (codes "actions") change >>= λ list. as_array list >>= λ actions. Some (planned actions (prior_id_of change))

by_test : (b h : Bool) → (b && (if b then h else true)) ≡ (b && h)
by_test true h = refl
by_test false h = refl

change_there : (d : Data) (o : Option Data) → o ≡ member_of (codes "change") d
    → (is_met expected.Object o && is_absent_or is_change o) ≡ has_one_of_eight (o >>= read_change)
change_there d None e = refl
change_there d (Some change) e =
    by_test (is_some (as_object change)) (has_steps change)
    ∙ needs_object (codes "actions") change (has_steps change) (λ none. ap (λ (x : Option Data). option_map_or is_one_of_eight (x >>= as_array) false) none)
    ∙ planned_reads (member_of (codes "actions") change) (prior_id_of change)

-- ---- the element by itself

members : {a m o k n x p a1 m1 o1 k1 n1 x1 p1 : Bool} (j : Bool) → a ≡ a1 → m ≡ m1 → o ≡ o1 → k ≡ k1 → n ≡ n1 → x ≡ x1 → p ≡ p1
    → (a && (m && (o && (k && (n && (x && (p && (j && true)))))))) ≡ (a1 && (m1 && (o1 && (k1 && (n1 && (x1 && (p1 && (j && true))))))))
members j ea em eo ek en ex ep = cc

-- a mode is read of a word
mode_first : {B : Type 0} (a w : Option (List ℕ)) (rest : List ℕ → Mode → Option B)
    → (a >>= λ x. w >>= λ y. mode_named y >>= λ o. rest x o) ≡ (a >>= λ x. (w >>= mode_named) >>= λ o. rest x o)
mode_first None w rest = refl
mode_first (Some a) None rest = refl
mode_first (Some a) (Some w) rest = refl

abbrev gathered_of : Data → Option Element
gathered_of d =
    gathered (text_of (codes "address") d) (text_of (codes "mode") d >>= mode_named) (non_empty_text_of (codes "type") d) (non_empty_text_of (codes "name") d)
    (text_or [] (member_of (codes "module_address") d)) (key_of (member_of (codes "index") d)) (text_or [] (member_of (codes "deposed") d)) (planned_change_of d)

pub element_is : (d : Data) → element_of d ≡ gathered_of d
unfolding element_of
element_is d =
    mode_first (text_of (codes "address") d) (text_of (codes "mode") d)
    (λ a o. non_empty_text_of (codes "type") d >>= λ k. non_empty_text_of (codes "name") d >>= λ n. text_or [] (member_of (codes "module_address") d) >>= λ m.
    key_of (member_of (codes "index") d) >>= λ x. text_or [] (member_of (codes "deposed") d) >>= λ p. planned_change_of d >>= λ c. Some (read_as a o k n m x p c))

pub gathered_there : (d : Data) (e : Element) → element_of d ≡ Some e
    → IsGathered (text_of (codes "address") d) (text_or [] (member_of (codes "module_address") d)) (text_or [] (member_of (codes "deposed") d)) (planned_change_of d) e
gathered_there d e is =
    is_gathered (text_of (codes "address") d) (text_of (codes "mode") d >>= mode_named) (non_empty_text_of (codes "type") d) (non_empty_text_of (codes "name") d)
    (text_or [] (member_of (codes "module_address") d)) (key_of (member_of (codes "index") d)) (text_or [] (member_of (codes "deposed") d)) (planned_change_of d) e
    (sym (element_is d) ∙ is)

-- each member is what it has to be, where a run reads each, and finds an object in `change`
pub members_met : (d : Data)
    → list_all (λ rule. is_met rule.expected (member_at rule.name d)) element_table
    ≡ (is_some (text_of (codes "address") d) && (is_some (text_or [] (member_of (codes "module_address") d)) && (is_some (text_of (codes "mode") d >>= mode_named)
    && (is_some (non_empty_text_of (codes "type") d) && (is_some (non_empty_text_of (codes "name") d) && (is_some (key_of (member_of (codes "index") d))
    && (is_some (text_or [] (member_of (codes "deposed") d)) && (is_met expected.Object (member_of (codes "change") d) && true))))))))
members_met d =
    members (is_met expected.Object (member_of (codes "change") d)) (met_text (member_of (codes "address") d)) (met_text_or (member_of (codes "module_address") d))
    (met_mode (member_of (codes "mode") d)) (met_non_empty (member_of (codes "type") d)) (met_non_empty (member_of (codes "name") d))
    (met_key (member_of (codes "index") d)) (met_text_or (member_of (codes "deposed") d))

clean_itself : (d : Data) → clean (by_itself d) ≡ option_map_or has_change (element_of d) false
clean_itself d =
    let a : Option (List ℕ) = text_of (codes "address") d in
    let m : Option (List ℕ) = text_or [] (member_of (codes "module_address") d) in
    let o : Option Mode = text_of (codes "mode") d >>= mode_named in
    let k : Option (List ℕ) = non_empty_text_of (codes "type") d in
    let n : Option (List ℕ) = non_empty_text_of (codes "name") d in
    let x : Option Key = key_of (member_of (codes "index") d) in
    let p : Option (List ℕ) = text_or [] (member_of (codes "deposed") d) in
    let ch : Option Data = member_of (codes "change") d in
    let wrong : List Finding = faults_of element_table d in
    let change : List Finding = inside in_change name.Change d in
    let address : List Finding = violation_findings (address_violations d) in
    let all_met : Bool = is_some a && (is_some m && (is_some o && (is_some k && (is_some n && (is_some x && (is_some p && (is_met expected.Object ch && true))))))) in
    let e1 : clean wrong ≡ all_met = clean-faults_of element_table d ∙ members_met d in
    let e2 : clean change ≡ is_absent_or is_change ch = clean-inside in_change is_change clean_change name.Change d in
    let e3 : clean address ≡ not (is_misplaced a m) = clean_address d in
    clean-append (wrong ++ change) address
    ∙ ap (λ (b : Bool). b && clean address) (clean-append wrong change ∙ ap (λ (b : Bool). b && clean change) e1 ∙ ap (λ (b : Bool). all_met && b) e2)
    ∙ ap (λ (b : Bool). (all_met && is_absent_or is_change ch) && b) e3
    ∙ shuffle (is_some a) (is_some m) (is_some o) (is_some k) (is_some n) (is_some x) (is_some p) (is_met expected.Object ch) (is_absent_or is_change ch) (not (is_misplaced a m))
    ∙ ap (λ (b : Bool). is_some a && (is_some o && (is_some k && (is_some n && (is_some m && (is_some x && (is_some p && (b && not (is_misplaced a m)))))))))
    (change_there d ch refl)
    ∙ all_there a o k n m x p (planned_change_of d)
    ∙ ap (λ (e : Option Element). option_map_or has_change e false) (sym (element_is d))

object_needed : (d : Data) → (is_some (as_object d) && option_map_or has_change (element_of d) false) ≡ option_map_or has_change (element_of d) false
unfolding element_of
object_needed null = refl
object_needed (boolean b) = refl
object_needed (number z) = refl
object_needed (string s) = refl
object_needed (array ds) = refl
object_needed (object ms) = refl

pub sound_is : (d : Data) → is_sound d ≡ option_map_or has_change (element_of d) false
sound_is d = ap (λ (b : Bool). is_some (as_object d) && b) (clean_itself d) ∙ object_needed d

pub name_read_is : (d : Data) (e : Element) → element_of d ≡ Some e → name_read d ≡ Some (named e.address e.deposed)
name_read_is d e is = (gathered_there d e is).name_is
