-- By a script that was read, a refresh that fails ends with an error.
use Rattle.std.proofs.Common.{◌≡◌, ℕ, zero, suc, ◌+◌, ◌⊎◌, inl, inr, List, [], ◌∷◌, ◌++◌, cond, find, flat_map, length, map, Bool, true, false, Option, Some, None, Result, Ok, Err, option_map, refl, sym, ap, ◌∙◌, subst, slice_get, bytes_eq, arith}
use Rattle.std.specs.Prelude.{◌&&◌, ◌||◌, IfOk, IfSome, is_some, option_and_then}
use Rattle.std.specs.List.{AllByRecursion, enumerate_from, filter_map, list_any}
use Rattle.std.specs.Option.{option_eq, option_map_or, option_or}
use Rattle.std.proofs.lemmas.Bool.{and_parts, or_parts}
use Rattle.std.proofs.lemmas.Option.{same_Some}
use Rattle.std.proofs.lemmas.Slice.Eq.{bytes_eq-Decides}
use Rattle.serde_json.specs.Data.{Data}
use Rattle.apply_address.specs.Modes.{mode_of}
use Rattle.apply_address.specs.Parts.{Parts}
use Rattle.apply_address.specs.Reading.{parts_in}
use Rattle.apply_json.specs.Tree.{tree_of}
use Rattle.apply_model.specs.declared.plan.mode.Mode.{Mode}
use Rattle.apply_model.specs.declared.plan.mode.Mode.TheVariants.{Managed}
use Rattle.apply_plan.specs.Results.{unless_refused}
use Rattle.apply_plan.specs.Script.Entry.{Failure}
use Rattle.apply_plan.specs.declared.script.planning_error.PlanningError.{PlanningError}
use Rattle.apply_plan.specs.declared.script.planning_error.PlanningError.TheVariants.{Misfits, Repeated}
use Rattle.apply_plan.specs.declared.script.script_error.ScriptError.TheVariants.{Planning}
use Rattle.apply_planning.specs.declared.told.Told.{Told}
use Rattle.apply_planning.specs.PlanningWork.{is_error}
use Rattle.apply_planning_script.specs.declared.rules.PlanningRules.{PlanningRules}
use Rattle.apply_planning_script.specs.Items.{Item, object_of_item}
use Rattle.apply_planning_script.specs.Objects.{ObjectName, is_same_name, number_in, object_of}
use Rattle.apply_planning_script.specs.Planning.{ReadItems, checked, fault_of, fault_with, first_fault, is_known, is_repeated, known_mode, misfits, mode_of_object, object_of_prior, only_warns, said_in_option, said_of}
use Rattle.apply_planning_script.specs.Rules.{PlannedObjects}
use Rattle.apply_planning_script.specs.Told.{Object, ToldObject, is_told, item_about, note_of, object_view, severity_of, told_at, told_by_script, told_if, told_known, told_unknown, told_view, told_with, unknown_with}
use Rattle.apply_prior.specs.declared.prior.Prior.{Prior}
use Rattle.apply_prior.specs.declared.prior_object.PriorObject.{PriorObject}
use Rattle.apply_prior.specs.Drifts.{drifts_of}
use Rattle.apply_prior.specs.Objects.{ObjectOfPlan, objects_of, placed_object, placed_of, vanished_object, with_object, with_objects}
use Rattle.apply_prior.specs.Prior as prior
use Rattle.apply_prior.specs.Prior.{PriorOfPlan, prior_of, prior_view}
use Rattle.apply_resolve.specs.ObjectName.{is_same_object}
use Rattle.apply_writer.specs.Stream.Terraform.{is_severe}
use Rattle.laws_check.proofs.FormStream.{by_number}
use Rattle.laws_check.proofs.Given.{any_given, held_at, is_answered, is_given, next_of, then_of}
use Rattle.laws_check.proofs.MemberLists.{weaker}
use Rattle.laws_check.proofs.SoundObjects.{all_both}
use Rattle.laws_command_check.specs.FewTold.{OnlyReadsWarn}

-- ---- names

same_key : (key : Option (List ℕ)) → option_eq bytes_eq key key ≡ true
same_key None = refl
same_key (Some key) = (bytes_eq-Decides key key).1 refl

key_is : (one another : Option (List ℕ)) → option_eq bytes_eq one another ≡ true → one ≡ another
key_is None None e = refl
key_is None (Some y) e = absurd cc
key_is (Some x) None e = absurd cc
key_is (Some x) (Some y) e = ap (λ (b : List ℕ). Some b) ((bytes_eq-Decides x y).0 e)

own_name : (name : ObjectName) → is_same_name name name ≡ true
own_name name = λ i. (bytes_eq-Decides name.address name.address).1 refl i && same_key name.deposed i

abbrev named : List ℕ → Option (List ℕ) → ObjectName
named address deposed = record { address = address; deposed = deposed }

name_is : (one another : ObjectName) → is_same_name one another ≡ true → one ≡ another
name_is one another e =
    let both = and_parts (bytes_eq one.address another.address) (option_eq bytes_eq one.deposed another.deposed) e in
    ap (λ (x : List ℕ). named x one.deposed) ((bytes_eq-Decides one.address another.address).0 both.0) ∙ ap (named another.address) (key_is one.deposed another.deposed both.1)

-- ---- each object once

abbrev Once : List ObjectOfPlan → Type 0
Once [] = Unit {0}
Once (x ∷ xs) = AllByRecursion (λ (later : ObjectOfPlan). is_same_object later.object x.object ≡ false) xs × Once xs

one_more : (objects : List ObjectOfPlan) (more : ObjectOfPlan) → Once objects → list_any (is_same_object more.object) (map (λ prior. prior.object) objects) ≡ false → Once (objects ++ more ∷ [])
one_more [] more once new = (tt, tt)
one_more (x ∷ xs) more once new =
    let parts = or_parts (is_same_object more.object x.object) (list_any (is_same_object more.object) (map (λ prior. prior.object) xs)) new in
    (all_both (λ (later : ObjectOfPlan). is_same_object later.object x.object ≡ false) xs (more ∷ []) once.0 (parts.0, tt), one_more xs more once.1 parts.1)

with_once : (objects : List ObjectOfPlan) (more : ObjectOfPlan) → Once objects → Once (with_object objects more)
with_once objects more once = of_test (list_any (is_same_object more.object) (map (λ prior. prior.object) objects)) refl
  where
    of_test : (b : Bool) → list_any (is_same_object more.object) (map (λ prior. prior.object) objects) ≡ b → Once (cond b objects (objects ++ more ∷ []))
    of_test true is = once
    of_test false is = one_more objects more once is

all_once : (objects others : List ObjectOfPlan) → Once objects → Once (with_objects objects others)
all_once objects [] once = once
all_once objects (more ∷ others) once = all_once (with_object objects more) others (with_once objects more once)

objects_once : (plan : Data) → Once (objects_of plan)
objects_once plan =
    let drifts = drifts_of plan in
    all_once (with_objects [] (filter_map (placed_object drifts) (placed_of plan))) (filter_map (vanished_object drifts) drifts) (all_once [] (filter_map (placed_object drifts) (placed_of plan)) tt)

pub prior_once : (bytes : List ℕ) (p : Prior) → prior_of bytes ≡ Some (prior_view p) → Once (map prior.object_view p.objects.items)
prior_once bytes p is =
    is_given (λ (q : PriorOfPlan). Once q.objects) (prior_of bytes) (prior_view p) (next_of (λ _. Unit {0}) (λ (q : PriorOfPlan). Once q.objects) (tree_of bytes) _ (any_given (tree_of bytes)) (λ d u. objects_once d)) is

-- ---- the mode of an object that the plan knows

abbrev about_one : ObjectName → ℕ × PriorObject → Bool
about_one name p = is_same_name (object_of_prior p.1) name

own_place : (n k : ℕ) (xs : List PriorObject) (one : PriorObject) → Once (map prior.object_view xs) → slice_get xs k ≡ Some one → find (about_one (object_of one.object)) (enumerate_from n xs) ≡ Some (n + k, one)
own_place n k [] one once is = absurd cc
own_place n zero (x ∷ xs) one once is =
    let same = same_Some x one is in
    let place : n ≡ n + 0 = omega arith in
    subst (λ (c : PriorObject). find (about_one (object_of c.object)) (enumerate_from n (x ∷ xs)) ≡ Some (n + 0, c)) same
    ((λ i. cond (own_name (object_of x.object) i) (Some (n, x)) (find (about_one (object_of x.object)) (enumerate_from (n + 1) xs))) ∙ ap (λ m. Some (m, x)) place)
own_place n (suc k) (x ∷ xs) one once is =
    let differ : is_same_name (object_of x.object) (object_of one.object) ≡ false = later xs k once.0 is in
    let place : n + 1 + k ≡ n + suc k = omega arith in
    (λ i. cond (differ i) (Some (n, x)) (find (about_one (object_of one.object)) (enumerate_from (n + 1) xs))) ∙ own_place (n + 1) k xs one once.1 is ∙ ap (λ m. Some (m, one)) place
  where
    later : (ys : List PriorObject) (j : ℕ) → AllByRecursion (λ (later : ObjectOfPlan). is_same_object later.object x.object ≡ false) (map prior.object_view ys) → slice_get ys j ≡ Some one → is_same_name (object_of x.object) (object_of one.object) ≡ false
    later [] j h e = absurd cc
    later (y ∷ ys) zero h e = subst (λ (z : PriorObject). is_same_name (object_of x.object) (object_of z.object) ≡ false) (same_Some y one e) h.0
    later (y ∷ ys) (suc j) h e = later ys j h.1 e

mode_is : (objects : List PriorObject) (k : ℕ) (one : PriorObject) → Once (map prior.object_view objects) → slice_get objects k ≡ Some one → known_mode objects (object_of one.object) ≡ Some one.object.mode
mode_is objects k one once is =
    ap (λ (o : Option (ℕ × PriorObject)). option_map (λ (p : PriorObject). p.object.mode) (option_and_then (slice_get objects) (option_map (λ p. p.0) o))) (own_place 0 k objects one once is)
    ∙ ap (λ (n : ℕ). option_map (λ (p : PriorObject). p.object.mode) (slice_get objects n)) (let same : 0 + k ≡ k = omega arith in same)
    ∙ ap (option_map (λ (p : PriorObject). p.object.mode)) is

-- ---- what was checked

abbrev Fits : List PriorObject → Item → Type 0
Fits objects item = (mode : Mode) × (mode_of_object (known_mode objects (object_of_item item)) item ≡ Some mode) × (misfits item mode ≡ false)

one_fits : (objects : List PriorObject) (earlier : List Item) (item : Item) → fault_of objects earlier item ≡ None → Fits objects item
one_fits objects earlier item e = of_mode (mode_of_object (known_mode objects (object_of_item item)) item) refl e
  where
    of_test : (mode : Mode) (b : Bool) → mode_of_object (known_mode objects (object_of_item item)) item ≡ Some mode → misfits item mode ≡ b → cond b (Some (Misfits (length earlier))) (cond (is_repeated earlier item) (Some (Repeated (length earlier))) None) ≡ None → Fits objects item
    of_test mode true is m e = absurd cc
    of_test mode false is m e = (mode, is, m)

    of_mode : (o : Option Mode) → mode_of_object (known_mode objects (object_of_item item)) item ≡ o → fault_with earlier item o ≡ None → Fits objects item
    of_mode None is e = absurd cc
    of_mode (Some mode) is e = of_test mode (misfits item mode) is refl e

or_none : {A : Type 0} (o p : Option A) → option_or o p ≡ None → (o ≡ None) × (p ≡ None)
or_none None p e = (refl, e)
or_none (Some x) p e = absurd cc

all_fit : (objects : List PriorObject) (earlier items : List Item) → first_fault objects earlier items ≡ None → AllByRecursion (Fits objects) items
unfolding first_fault
all_fit objects earlier [] e = tt
all_fit objects earlier (item ∷ items) e =
    let both = or_none (fault_of objects earlier item) (first_fault objects (earlier ++ item ∷ []) items) e in
    (one_fits objects earlier item both.0, all_fit objects (earlier ++ item ∷ []) items both.1)

checked_fit : (objects : List PriorObject) (read : ReadItems) → IfOk (checked objects read) (AllByRecursion (Fits objects))
checked_fit objects read = of_fault (first_fault objects [] read.items) refl
  where
    of_read : (o : Option PlanningError) → first_fault objects [] read.items ≡ None → IfOk (unless_refused (option_map Planning o) read.items) (AllByRecursion (Fits objects))
    of_read None is = all_fit objects [] read.items is
    of_read (Some fault) is = tt

    of_fault : (o : Option PlanningError) → first_fault objects [] read.items ≡ o → IfOk (unless_refused (option_map Planning (option_or o read.fault)) read.items) (AllByRecursion (Fits objects))
    of_fault None is = of_read read.fault is
    of_fault (Some fault) is = tt

any_answered : {A E : Type 0} (r : Result A E) → IfOk r (λ _. Unit {0})
any_answered (Ok x) = tt
any_answered (Err e) = tt

said_fit : (objects : List PriorObject) (script : Option (List ℕ)) → IfOk (said_of objects script) (AllByRecursion (Fits objects))
said_fit objects script = then_of (λ _. Unit {0}) (AllByRecursion (Fits objects)) (said_in_option script) (checked objects) (any_answered (said_in_option script)) (λ read u. checked_fit objects read)

-- ---- the item about an object

abbrev IsFound : {X : Type 0} → (ℕ × X → Bool) → ℕ → List X → ℕ × X → Type 0
IsFound p n xs q = (p q ≡ true) × (i : ℕ) × (q.0 ≡ n + i) × (slice_get xs i ≡ Some q.1)

found : {X : Type 0} (p : ℕ × X → Bool) (n : ℕ) (xs : List X) → IfSome (find p (enumerate_from n xs)) (IsFound p n xs)
found p n [] = tt
found p n (x ∷ xs) = of_test (p (n, x)) refl (found p (n + 1) xs)
  where
    of_test : (b : Bool) → p (n, x) ≡ b → IfSome (find p (enumerate_from (n + 1) xs)) (IsFound p (n + 1) xs) → IfSome (cond b (Some (n, x)) (find p (enumerate_from (n + 1) xs))) (IsFound p n (x ∷ xs))
    of_test true is later = (is, 0, (let place : n ≡ n + 0 = omega arith in place), refl)
    of_test false is later =
        weaker (IsFound p (n + 1) xs) (IsFound p n (x ∷ xs)) (find p (enumerate_from (n + 1) xs)) (λ q h. (h.0, suc h.1, h.2 ∙ (let place : n + 1 + h.1 ≡ n + suc h.1 = omega arith in place), h.3)) later

about_fits : (objects : List PriorObject) (items : List Item) (name : ObjectName) → AllByRecursion (Fits objects) items → IfSome (item_about items name) (λ item. Fits objects item × (object_of_item item ≡ name))
about_fits objects items name fits = of_found (find (λ (p : ℕ × Item). is_same_name (object_of_item p.1) name) (enumerate_from 0 items)) (found (λ (p : ℕ × Item). is_same_name (object_of_item p.1) name) 0 items)
  where
    of_found : (o : Option (ℕ × Item)) → IfSome o (IsFound (λ (p : ℕ × Item). is_same_name (object_of_item p.1) name) 0 items)
        → IfSome (option_and_then (slice_get items) (option_map (λ p. p.0) o)) (λ item. Fits objects item × (object_of_item item ≡ name))
    of_found None h = tt
    of_found (Some q) h =
        let is : slice_get items q.0 ≡ Some q.1 = ap (slice_get items) (h.2 ∙ (let same : 0 + h.1 ≡ h.1 = omega arith in same)) ∙ h.3 in
        subst (λ (o : Option Item). IfSome o (λ item. Fits objects item × (object_of_item item ≡ name))) (sym is)
        (is_given (Fits objects) (slice_get items q.0) q.1 (held_at (Fits objects) items q.0 fits) is, name_is (object_of_item q.1) name h.0)

-- ---- what is told

abbrev EndsWithError : ToldObject → Type 0
EndsWithError told = told.object.mode ≡ Managed → (told.failure ≡ None) ⊎ (is_error told.failure ≡ true)

of_failure : (address : List ℕ) (failure : Option Failure) → only_warns failure ≡ false → (option_map (note_of address) failure ≡ None) ⊎ (is_error (option_map (note_of address) failure) ≡ true)
of_failure address None e = inl refl
of_failure address (Some failure) e = inr (ap (λ (b : Bool). is_severe (severity_of b)) e)

told_so : (object : Object) (item : Option Item) → (object.object.mode ≡ Managed → IfSome item (λ (one : Item). only_warns one.failure ≡ false)) → EndsWithError (told_with object item)
told_so object None h managed = inl refl
told_so object (Some item) h managed = of_failure object.object.address item.failure (h managed)

never_warns : (item : Item) (mode : Mode) → misfits item mode ≡ false → mode ≡ Managed → only_warns item.failure ≡ false
never_warns item mode fits managed = subst (λ (m : Mode). misfits item m ≡ false) managed fits

module _ (rules : PlanningRules) (plan : PlannedObjects) (all : List PriorObject) (items : List Item) (fits : AllByRecursion (Fits all) items) where
  abbrev HasMode : PriorObject → Type 0
  HasMode one = known_mode all (object_of one.object) ≡ Some one.object.mode

  of_known : (one : PriorObject) → HasMode one → one.object.mode ≡ Managed → IfSome (item_about items (object_of one.object)) (λ (item : Item). only_warns item.failure ≡ false)
  of_known one known managed =
      weaker (λ (item : Item). Fits all item × (object_of_item item ≡ object_of one.object)) (λ (item : Item). only_warns item.failure ≡ false) (item_about items (object_of one.object)) so (about_fits all items (object_of one.object) fits)
    where
      so : (item : Item) → Fits all item × (object_of_item item ≡ object_of one.object) → only_warns item.failure ≡ false
      so item h =
          let mode_at_name : mode_of_object (known_mode all (object_of_item item)) item ≡ Some one.object.mode = ap (λ (o : Option Mode). mode_of_object o item) (ap (known_mode all) h.1 ∙ known) in
          never_warns item h.0.0 h.0.2 (same_Some h.0.0 one.object.mode (sym h.0.1 ∙ mode_at_name) ∙ managed)

  each_known : (objects : List PriorObject) → AllByRecursion HasMode objects → AllByRecursion EndsWithError (flat_map (λ prior. told_known rules plan items (object_view prior)) objects)
  each_known [] known = tt
  each_known (one ∷ objects) known =
      let item = item_about items (object_of one.object) in
      all_both EndsWithError (told_known rules plan items (object_view one)) (flat_map (λ prior. told_known rules plan items (object_view prior)) objects) (of_test (is_told rules plan one.object item)) (each_known objects known.1)
    where
      of_test : (b : Bool) → AllByRecursion EndsWithError (told_if b (object_view one) (item_about items (object_of one.object)))
      of_test true = (told_so (object_view one) (item_about items (object_of one.object)) (of_known one known.0), tt)
      of_test false = tt

at_item : (all : List PriorObject) (item : Item) → Fits all item → known_mode all (object_of_item item) ≡ None → AllByRecursion EndsWithError (told_at item)
at_item all item fits unknown = of_parts (parts_in item.address) refl
  where
    of_parts : (o : Option Parts) → parts_in item.address ≡ o → AllByRecursion EndsWithError (option_map_or (λ object. told_with object (Some item) ∷ []) (option_map (unknown_with item.address item.deposed) o) [])
    of_parts None is = tt
    of_parts (Some parts) is =
        let mode_there : mode_of_object (known_mode all (object_of_item item)) item ≡ Some (mode_of parts.resource) =
        ap (λ (o : Option Mode). mode_of_object o item) unknown ∙ ap (option_map (λ (parts : Parts). mode_of parts.resource)) is in
        (told_so (unknown_with item.address item.deposed parts) (Some item) (λ managed. never_warns item fits.0 fits.2 (same_Some fits.0 (mode_of parts.resource) (sym fits.1 ∙ mode_there) ∙ managed)), tt)

none_known : (all : List PriorObject) (name : ObjectName) → is_known all name ≡ false → known_mode all name ≡ None
none_known all name e = of_number (number_in object_of_prior all name) e
  where
    of_number : (o : Option ℕ) → is_some o ≡ false → option_map (λ (p : PriorObject). p.object.mode) (option_and_then (slice_get all) o) ≡ None
    of_number None e = refl
    of_number (Some n) e = absurd cc

each_unknown : (all : List PriorObject) (items : List Item) → AllByRecursion (Fits all) items → AllByRecursion EndsWithError (flat_map (told_unknown all) items)
each_unknown all [] fits = tt
each_unknown all (item ∷ items) fits =
    all_both EndsWithError (told_unknown all item) (flat_map (told_unknown all) items) (of_test (is_known all (object_of_item item) || item.is_skipped) refl) (each_unknown all items fits.1)
  where
    of_test : (b : Bool) → (is_known all (object_of_item item) || item.is_skipped) ≡ b → AllByRecursion EndsWithError (cond b [] (told_at item))
    of_test true is = tt
    of_test false is = at_item all item fits.0 (none_known all (object_of_item item) (or_parts (is_known all (object_of_item item)) item.is_skipped is).0)

pub only_reads_warn : (rules : PlanningRules) (plan : PlannedObjects) (objects : List PriorObject) (script : Option (List ℕ)) (told : List Told) → Once (map prior.object_view objects)
    → told_by_script rules plan objects script ≡ Ok (map told_view told) → OnlyReadsWarn told
only_reads_warn rules plan objects script told once is c one place managed =
    at_place told c
    (is_answered (AllByRecursion EndsWithError) (told_by_script rules plan objects script) (map told_view told)
    (then_of (AllByRecursion (Fits objects)) (AllByRecursion EndsWithError) (said_of objects script) _ (said_fit objects script)
    (λ items fits. all_both EndsWithError (flat_map (λ prior. told_known rules plan items (object_view prior)) objects) (flat_map (told_unknown objects) items)
    (each_known rules plan objects items fits objects (by_number (λ (p : PriorObject). known_mode objects (object_of p.object) ≡ Some p.object.mode) objects (λ n x at. mode_is objects n x once at))) (each_unknown objects items fits)))
    is)
    place
  where
    at_place : (ts : List Told) (k : ℕ) → AllByRecursion EndsWithError (map told_view ts) → slice_get ts k ≡ Some one → (one.failure ≡ None) ⊎ (is_error one.failure ≡ true)
    at_place [] k h e = absurd cc
    at_place (t ∷ ts) zero h e =
        let same = same_Some t one e in
        subst (λ (x : Told). (x.failure ≡ None) ⊎ (is_error x.failure ≡ true)) same (h.0 (ap (λ (x : Told). x.object.mode) same ∙ managed))
    at_place (t ∷ ts) (suc k) h e = at_place ts k h.1 e
