-- A script has no error if and only if each of its entries is an entry that a run accepts.
use Rattle.std.proofs.Common.{◌≡◌, ℕ, suc, ◌+◌, List, [], ◌∷◌, ◌++◌, length, map, Bool, true, false, not, ◌&&◌, if◌then◌else◌, is_some, Option, Some, None, refl, sym, ap, ◌∙◌}
use Rattle.std.specs.Prelude.{codes, nat_lt}
use Rattle.std.specs.List.{list_all, sum_by}
use Rattle.std.specs.Option.{option_map_or}
use Rattle.std.proofs.lemmas.List.{map-append}
use Rattle.std.proofs.lemmas.List.Sums.{sum_by-append, sum_by-cons}
use Rattle.serde_json.specs.Data.{Data, Items, no_items, item, null, boolean, number, string, array, object}
use Rattle.serde_json.specs.Find.{as_array, as_object, as_str}
use Rattle.apply_json.specs.ShallowView.{items_in}
use Rattle.apply_json.specs.Verbatim.{mixed_tree_of}
use Rattle.apply_json.specs.Tree.{◌>>=◌, list_of, member_of, text_of, text_or, tree_of, unless_empty}
use Rattle.apply_model.specs.Plan.ResourceChange.{ResourceChange}
use Rattle.apply_plan.specs.Bytes.{max_bytes}
use Rattle.apply_plan.specs.Script.Entry.{Entry, EntryStep, all_some, entry_of, is_verbatim_name, step_from}
use Rattle.input_validate.specs.declared.findings.finding.Finding.{Finding}
use Rattle.input_validate.specs.declared.findings.name.Name.TheVariants as name
use Rattle.input_validate.specs.declared.findings.path.Segment.TheVariants.{Item, Member}
use Rattle.input_validate.specs.declared.findings.expected.Expected.TheVariants as expected
use Rattle.input_validate.specs.declared.findings.problem.Problem.TheVariants as problem
use Rattle.input_validate.specs.AgainstPlan.{repeat_violation, beyond_in, change_at, named_first, object_named, step_count_violation, unknown_violations, waits_in_all, waits_left}
use Rattle.input_validate.specs.Findings.{finding_here, under}
use Rattle.input_validate.specs.PlanFindings.{first_named, name_read}
use Rattle.laws_validate.specs.Laws.{are_script, has_refusal, is_entry, is_script, is_within_limits}
use Rattle.input_validate.specs.ScriptFindings.{entry_names, entry_table, in_entry, in_entry_after, in_script, in_step, script_names}
use Rattle.input_validate.specs.Rules.{fault_of, faults_of, in_items, inside, items_at, items_after, rule, violation_findings, ignored}
use Rattle.input_validate.specs.Expectations.{is_met}
use Rattle.input_validate.specs.Whole.{script_findings}
use Rattle.laws_validate.proofs.Alike.{Alike, AlikeItems, AreAlike, both_trees, bytes_alike, member_alike, object_alike}
use Rattle.laws_validate.proofs.CleanAgainstPlan.{all_waits_same, change_same, clean_violation, has_room, has_change_and_step, is_unknown, name_same, room_same, steps_same, too_many, unknown_same}
use Rattle.laws_validate.proofs.Clean.{Cleared, all_items, appended, clean, clean-append, clean-fault_of, clean-then_unread, clean-under, clean-where_suits, is_absent_or, clean-joined}
use Rattle.laws_validate.proofs.Diagnostics.{two}
use Rattle.laws_validate.proofs.Members.{IsCleanBy, all_from, all_items_from, array_there, inside_clean, numbered_clean, text_or_there, text_there}
use Rattle.input_validate.proofs.Options.{and_assoc, and_false, and_true, crossed, not_not, still}
use Rattle.laws_validate.proofs.CleanSteps.{clean_step, fits_step, fits_plan}
use Rattle.laws_validate.proofs.Steps.{is_step}
use Rattle.laws_validate.proofs.Wanted.{each_fits_there, needs_object}
use Rattle.laws_validate.proofs.Joined.{joined}

abbrev within : List EntryStep → Bool
within steps = list_all is_within_limits steps

abbrev decoded : Entry → Bool
decoded entry = within entry.steps

abbrev made : List ℕ → List ℕ → List EntryStep → Entry
made address deposed steps = record { address = address; deposed = unless_empty deposed; steps = steps }

of_steps : (x y : List ℕ) (steps : Option (List EntryStep)) → option_map_or within steps false ≡ option_map_or decoded (steps >>= λ s. Some (made x y s)) false
of_steps x y None = refl
of_steps x y (Some steps) = refl

of_items : (x y : List ℕ) (items : Option Items)
    → option_map_or within (items >>= λ ds. all_some (map step_from (list_of ds))) false
    ≡ option_map_or decoded (items >>= λ ds. all_some (map step_from (list_of ds)) >>= λ s. Some (made x y s)) false
of_items x y None = refl
of_items x y (Some ds) = of_steps x y (all_some (map step_from (list_of ds)))

reads : (address deposed : Option (List ℕ)) (list : Option Data)
    → ((is_some address && is_some deposed) && option_map_or within (list >>= as_array >>= λ ds. all_some (map step_from (list_of ds))) false)
    ≡ option_map_or decoded
    (address >>= λ x. deposed >>= λ y. list >>= λ l. as_array l >>= λ ds. all_some (map step_from (list_of ds)) >>= λ s. Some (made x y s)) false
reads None deposed list = refl
reads (Some x) None list = refl
reads (Some x) (Some y) None = refl
reads (Some x) (Some y) (Some l) = of_items x y (as_array l)

-- ---- an entry

-- an entry is about a change that another is about
abbrev pub is_again : Option ResourceChange → Option ℕ → Bool
is_again change first = is_some change && is_some first

-- the steps of an entry fit the changes of a plan
abbrev pub steps_fit_plan : Option (List ResourceChange) → Option ResourceChange → Option Data → Bool
steps_fit_plan changes change o = is_absent_or (all_items_from (fits_plan changes change)) o

-- an entry fits the changes of a plan and the entries before it
abbrev pub fits_entry : Option (List ResourceChange) → (first left : Option ℕ) → Data → Bool
fits_entry changes first left k =
    not (is_unknown changes (object_named k))
    && (not (is_again (change_at changes k) first)
    && (not (too_many (change_at changes k) (length (items_at name.Steps k)))
    && (steps_fit_plan changes (change_at changes k) (member_of (codes "steps") k)
    && has_room (is_some changes) left (waits_in_all k))))

both_from : (p : Data → Bool) (q : ℕ → Data → Bool) (n : ℕ) (ks : List Data) → all_from (λ m e. p e && q m e) n ks ≡ (list_all p ks && all_from q n ks)
both_from p q n [] = refl
both_from p q n (k ∷ ks) =
    ap (λ (b : Bool). (p k && q n k) && b) (both_from p q (suc n) ks) ∙ crossed (p k) (q n k) (list_all p ks) (all_from q (suc n) ks)

steps_apart : (p : Data → Bool) (q : ℕ → Data → Bool) (o : Option Data)
    → is_absent_or (all_items_from (λ m e. p e && q m e)) o ≡ (is_absent_or (all_items p) o && is_absent_or (all_items_from q) o)
steps_apart p q None = refl
steps_apart p q (Some d) = both_from p q 0 (list_of (items_in d))

shuffle : (e u g met m own fit_plan room : Bool) → (((((((e && u) && g) && met) && m) && (own && fit_plan)) && room)) ≡ ((e && (met && own)) && (u && (g && (m && (fit_plan && room)))))
shuffle false u g met m own fit_plan room = refl
shuffle true false g met m own fit_plan room = sym (and_false (met && own))
shuffle true true false met m own fit_plan room = sym (and_false (met && own))
shuffle true true true false m own fit_plan room = refl
shuffle true true true true false own fit_plan room = sym (and_false own)
shuffle true true true true true own fit_plan room = sym (and_assoc own fit_plan room)

pub clean_entry : (changes : Option (List ResourceChange)) (first left : Option ℕ) → IsCleanBy (in_entry changes first left) (λ k. is_entry k && fits_entry changes first left k)
unfolding in_entry entry_of
clean_entry changes first left d k alike =
    let change : Option ResourceChange = change_at changes d in
    let wrong : List Finding = faults_of entry_table d in
    let unknown : List Finding = violation_findings (unknown_violations changes d) in
    let again : List Finding = violation_findings (repeat_violation change first ∷ []) in
    let list : List Finding = fault_of d (rule name.Steps expected.Array) in
    let many : List Finding = violation_findings (step_count_violation change d ∷ []) in
    let steps : List Finding = inside (in_items (in_step changes change)) name.Steps d in
    let beyond : List Finding = beyond_in (is_some changes) left d in
    let a : Option (List ℕ) = text_of (codes "address") k in
    let t : Option (List ℕ) = text_or [] (member_of (codes "deposed") k) in
    let o : Option Data = member_of (codes "steps") k in
    let there : Bool = is_met expected.Array o in
    let own : Bool = is_absent_or (all_items is_step) o in
    let fit : Bool = option_map_or within (o >>= as_array >>= λ ds. all_some (map step_from (list_of ds))) false in
    let named : Bool = not (is_unknown changes (object_named k)) in
    let new : Bool = not (is_again (change_at changes k) first) in
    let few : Bool = not (too_many (change_at changes k) (length (items_at name.Steps k))) in
    let fit_plan : Bool = steps_fit_plan changes (change_at changes k) o in
    let room : Bool = has_room (is_some changes) left (waits_in_all k) in
    let rest : Bool = named && (new && (few && (fit_plan && room))) in
    let read : Bool = (is_some a && is_some t) && fit in
    let same : change ≡ change_at changes k = change_same changes d k alike in
    let e1 : clean wrong ≡ (is_some a && is_some t) =
    two (rule name.Address expected.Text) (rule name.Deposed expected.TextOrAbsent) d
    ∙ ap (λ (b : Bool). b && is_met expected.TextOrAbsent (member_of (codes "deposed") d)) (text_there (codes "address") refl d k alike)
    ∙ ap (λ (b : Bool). is_some a && b) (text_or_there (codes "deposed") refl d k alike) in
    let e2 : clean unknown ≡ named = unknown_same changes d k alike in
    let e3 : clean again ≡ new = clean_violation (repeat_violation change first) refl ∙ ap (λ (c : Option ResourceChange). not (is_again c first)) same in
    let e4 : clean list ≡ there =
    clean-fault_of d (rule name.Steps expected.Array) ∙ array_there (member_of (codes "steps") d) o (member_alike (codes "steps") refl d k alike) in
    let e5 : clean many ≡ few =
    steps_same change d k alike ∙ ap (λ (c : Option ResourceChange). not (too_many c (length (items_at name.Steps k)))) same in
    let e6 : clean steps ≡ (own && fit_plan) =
    inside_clean (in_items (in_step changes change)) (all_items_from (fits_step changes change))
    (numbered_clean (in_step changes change) (fits_step changes change) (clean_step changes change)) name.Steps refl d k alike
    ∙ steps_apart is_step (fits_plan changes change) o
    ∙ ap (λ (c : Option ResourceChange). own && steps_fit_plan changes c o) same in
    let e7 : clean beyond ≡ room = room_same (is_some changes) left d k alike in
    let parts : List Cleared =
    (unknown, named, e2) ∷ (again, new, e3) ∷ (list, there, e4) ∷ (many, few, e5) ∷ (steps, own && fit_plan, e6) ∷ (beyond, room, e7) ∷ [] in
    let findings : List Finding = joined wrong (map (λ (part : Cleared). part.0) parts) in
    clean-where_suits expected.Entry d (findings ++ ignored entry_names d)
    ∙ ap (λ (x : Bool). is_some (as_object d) && x)
    (clean-then_unread findings entry_names d
    ∙ clean-joined wrong (is_some a && is_some t) parts e1
    ∙ shuffle (is_some a && is_some t) named new there few own fit_plan room
    ∙ ap (λ (x : Bool). ((is_some a && is_some t) && x) && rest) (each_fits_there step_from is_within_limits o))
    ∙ ap (λ (x : Bool). x && (read && rest)) (object_alike d k alike)
    ∙ still (is_some (as_object k)) read rest
    (needs_object (codes "address") k read (λ none. ap (λ (x : Option Data). (is_some (x >>= as_str) && is_some t) && fit) none))
    ∙ ap (λ (x : Bool). x && rest) (reads a t o)

-- ---- entries

-- each fits the changes of a plan and the entries before it
abbrev pub entries_fit : Option (List ResourceChange) → List Data → List Data → Bool
entries_fit changes before [] = true
entries_fit changes before (k ∷ ks) =
    fits_entry changes (named_first before k) (waits_left (sum_by waits_in_all before)) k && entries_fit changes (before ++ k ∷ []) ks

entries_clean : (changes : Option (List ResourceChange)) (ds es : Items) → AlikeItems ds es → (before others : List Data)
    → map name_read before ≡ map name_read others → sum_by waits_in_all before ≡ sum_by waits_in_all others
    → clean (items_after (in_entry_after changes) before (list_of ds)) ≡ (list_all is_entry (list_of es) && entries_fit changes others (list_of es))
entries_clean changes no_items es a before others names waits = rw a refl
entries_clean changes (item d ds) es a before others names waits =
    let k : Data = a.0 in
    let ks : List Data = list_of a.1 in
    let first : Option ℕ = named_first before d in
    let left : Option ℕ = waits_left (sum_by waits_in_all before) in
    let same_first : first ≡ named_first others k =
    ap (λ named. first_named named (name_read d)) names ∙ ap (first_named (map name_read others)) (name_same d k a.3) in
    let same_left : left ≡ waits_left (sum_by waits_in_all others) = ap waits_left waits in
    let more_names : map name_read (before ++ d ∷ []) ≡ map name_read (others ++ k ∷ []) =
    map-append name_read before (d ∷ [])
    ∙ ap (λ xs. xs ++ name_read d ∷ []) names
    ∙ ap (λ x. map name_read others ++ x ∷ []) (name_same d k a.3)
    ∙ sym (map-append name_read others (k ∷ [])) in
    let more_waits : sum_by waits_in_all (before ++ d ∷ []) ≡ sum_by waits_in_all (others ++ k ∷ []) =
    sum_by-append waits_in_all before (d ∷ [])
    ∙ ap (λ (n : ℕ). n + sum_by waits_in_all (d ∷ [])) waits
    ∙ ap (λ (n : ℕ). sum_by waits_in_all others + n) (sum_by-cons waits_in_all d [] ∙ ap (λ (n : ℕ). n + sum_by waits_in_all []) (all_waits_same d k a.3) ∙ sym (sum_by-cons waits_in_all k []))
    ∙ sym (sum_by-append waits_in_all others (k ∷ [])) in
    rw (a.2)
    (clean-append (map (under (Item (length before))) (in_entry_after changes before d)) (items_after (in_entry_after changes) (before ++ d ∷ []) (list_of ds))
    ∙ ap (λ (b : Bool). b && clean (items_after (in_entry_after changes) (before ++ d ∷ []) (list_of ds)))
    (clean-under (Item (length before)) (in_entry_after changes before d)
    ∙ clean_entry changes first left d k a.3
    ∙ ap (λ (x : Option ℕ). is_entry k && fits_entry changes x left k) same_first
    ∙ ap (λ (x : Option ℕ). is_entry k && fits_entry changes (named_first others k) x k) same_left)
    ∙ ap (λ (b : Bool). (is_entry k && fits_entry changes (named_first others k) (waits_left (sum_by waits_in_all others)) k) && b)
    (entries_clean changes ds a.1 a.4 (before ++ d ∷ []) (others ++ k ∷ []) more_names more_waits)
    ∙ crossed (is_entry k) (fits_entry changes (named_first others k) (waits_left (sum_by waits_in_all others)) k) (list_all is_entry ks) (entries_fit changes (others ++ k ∷ []) ks))

entries_in : (changes : Option (List ResourceChange)) (d k : Data) → Alike d k
    → clean (items_after (in_entry_after changes) [] (list_of (items_in d))) ≡ (list_all is_entry (list_of (items_in k)) && entries_fit changes [] (list_of (items_in k)))
entries_in changes null k a = rw a refl
entries_in changes (boolean b) k a = rw a refl
entries_in changes (number n) k a = rw a refl
entries_in changes (string s) k a = rw a refl
entries_in changes (array ds) k a = rw (a.1) (entries_clean changes ds a.0 a.2 [] [] refl refl)
entries_in changes (object ms) k a = rw (a.1) refl

-- the items of a member
abbrev pub listed_in : Option Data → List Data
listed_in o = option_map_or (λ value. list_of (items_in value)) o []

entries_of : (changes : Option (List ResourceChange)) (o p : Option Data) → AreAlike o p
    → clean (items_after (in_entry_after changes) [] (listed_in o)) ≡ (list_all is_entry (listed_in p) && entries_fit changes [] (listed_in p))
entries_of changes None p a = rw a refl
entries_of changes (Some d) p a = rw (a.1) (entries_in changes d a.0 a.2)

of_array : (d : Data) → (is_some (as_array d) && list_all is_entry (list_of (items_in d))) ≡ option_map_or (λ elements. list_all is_entry (list_of elements)) (as_array d) false
of_array null = refl
of_array (boolean b) = refl
of_array (number n) = refl
of_array (string s) = refl
of_array (array ds) = refl
of_array (object ms) = refl

entries : (o : Option Data) → (is_met expected.Array o && list_all is_entry (listed_in o)) ≡ option_map_or (λ elements. list_all is_entry (list_of elements)) (o >>= as_array) false
entries None = refl
entries (Some d) = of_array d

-- ---- the script

-- the entries of a script fit the changes of a plan
abbrev pub fits_script : Option (List ResourceChange) → Data → Bool
fits_script changes k = entries_fit changes [] (items_at name.Changes k)

pub clean_script : (changes : Option (List ResourceChange)) → IsCleanBy (in_script changes) (λ k. is_script k && fits_script changes k)
unfolding in_script
clean_script changes d k alike =
    let list : List Finding = fault_of d (rule name.Changes expected.Array) in
    let findings : List Finding = map (under (Member name.Changes)) (items_after (in_entry_after changes) [] (items_at name.Changes d)) in
    let o : Option Data = member_of (codes "changes") k in
    let alike_there : AreAlike (member_of (codes "changes") d) o = member_alike (codes "changes") refl d k alike in
    let e1 : clean list ≡ is_met expected.Array o = clean-fault_of d (rule name.Changes expected.Array) ∙ array_there (member_of (codes "changes") d) o alike_there in
    let e2 : clean findings ≡ (list_all is_entry (listed_in o) && fits_script changes k) =
    clean-under (Member name.Changes) (items_after (in_entry_after changes) [] (items_at name.Changes d)) ∙ entries_of changes (member_of (codes "changes") d) o alike_there in
    clean-where_suits expected.Object d (list ++ findings ++ ignored script_names d)
    ∙ ap (λ (x : Bool). is_some (as_object d) && x)
    (clean-then_unread (list ++ findings) script_names d
    ∙ appended list findings _ _ e1 e2
    ∙ and_assoc (is_met expected.Array o) (list_all is_entry (listed_in o)) (fits_script changes k)
    ∙ ap (λ (x : Bool). x && fits_script changes k) (entries o))
    ∙ ap (λ (x : Bool). x && (is_script k && fits_script changes k)) (object_alike d k alike)
    ∙ still (is_some (as_object k)) (is_script k) (fits_script changes k)
    (needs_object (codes "changes") k (is_script k)
    (λ none. ap (λ (x : Option Data). option_map_or (λ elements. list_all is_entry (list_of elements)) (x >>= as_array) false) none))

-- ---- the bytes

-- a tree is a script, and fits the changes of a plan
abbrev pub is_script_for_plan : Option (List ResourceChange) → Data → Bool
is_script_for_plan changes k = is_script k && fits_script changes k

of_trees : (changes : Option (List ResourceChange)) (o p : Option Data) → is_some o ≡ is_some p → ((d k : Data) → o ≡ Some d → p ≡ Some k → Alike d k)
    → clean (option_map_or (in_script changes) o (finding_here problem.NotJson ∷ [])) ≡ option_map_or (is_script_for_plan changes) p false
of_trees changes None None same alike = refl
of_trees changes None (Some k) same alike = absurd cc
of_trees changes (Some d) None same alike = absurd cc
of_trees changes (Some d) (Some k) same alike = clean_script changes d k (alike d k refl refl)

by_size : (large : Bool) (xs : List Finding) (b : Bool) → clean xs ≡ b
    → clean (if large then finding_here problem.TooManyBytes ∷ [] else xs) ≡ (if large then false else b)
by_size true xs b is = refl
by_size false xs b is = is

-- bytes are a script that fits the changes of a plan
abbrev pub are_script_for_plan : Option (List ResourceChange) → List ℕ → Bool
are_script_for_plan changes bytes =
    if nat_lt max_bytes (length bytes) then false else option_map_or (is_script_for_plan changes) (mixed_tree_of is_verbatim_name bytes) false

pub clean_bytes : (changes : Option (List ResourceChange)) (bytes : List ℕ) → clean (script_findings changes bytes) ≡ are_script_for_plan changes bytes
clean_bytes changes bytes =
    by_size (nat_lt max_bytes (length bytes)) (option_map_or (in_script changes) (tree_of bytes) (finding_here problem.NotJson ∷ []))
    (option_map_or (is_script_for_plan changes) (mixed_tree_of is_verbatim_name bytes) false)
    (of_trees changes (tree_of bytes) (mixed_tree_of is_verbatim_name bytes) (both_trees bytes) (bytes_alike bytes))

-- ---- without a plan

all_findings : (ks : List Data) → list_all (has_change_and_step None) ks ≡ true
all_findings [] = refl
all_findings (k ∷ ks) = all_findings ks

pub waits_free : (o : Option Data) → is_absent_or (all_items (has_change_and_step None)) o ≡ true
waits_free None = refl
waits_free (Some d) = all_findings (list_of (items_in d))

steps_free : (n : ℕ) (ks : List Data) → all_from (fits_plan None None) n ks ≡ true
steps_free n [] = refl
steps_free n (k ∷ ks) = ap (λ (b : Bool). b && all_from (fits_plan None None) (suc n) ks) (waits_free (member_of (codes "after") k)) ∙ steps_free (suc n) ks

steps_fit : (o : Option Data) → steps_fit_plan None None o ≡ true
steps_fit None = refl
steps_fit (Some d) = steps_free 0 (list_of (items_in d))

room_without : (left : Option ℕ) (count : ℕ) → has_room false left count ≡ true
room_without None count = refl
room_without (Some most) count = refl

entries_free : (before ks : List Data) → entries_fit None before ks ≡ true
entries_free before [] = refl
entries_free before (k ∷ ks) =
    ap (λ (b : Bool). (b && has_room false (waits_left (sum_by waits_in_all before)) (waits_in_all k)) && entries_fit None (before ++ k ∷ []) ks) (steps_fit (member_of (codes "steps") k))
    ∙ ap (λ (b : Bool). b && entries_fit None (before ++ k ∷ []) ks) (room_without (waits_left (sum_by waits_in_all before)) (waits_in_all k))
    ∙ entries_free (before ++ k ∷ []) ks

same_tree : (o : Option Data) → option_map_or (is_script_for_plan None) o false ≡ option_map_or is_script o false
same_tree None = refl
same_tree (Some k) = ap (λ (b : Bool). is_script k && b) (entries_free [] (items_at name.Changes k)) ∙ and_true (is_script k)

without_plan : (bytes : List ℕ) → are_script_for_plan None bytes ≡ are_script bytes
without_plan bytes = ap (λ (b : Bool). if nat_lt max_bytes (length bytes) then false else b) (same_tree (mixed_tree_of is_verbatim_name bytes))

pub refusals_of_script : (bytes : List ℕ) → has_refusal (script_findings None bytes) ≡ not (are_script bytes)
refusals_of_script bytes =
    sym (not_not (has_refusal (script_findings None bytes))) ∙ ap not (clean_bytes None bytes ∙ without_plan bytes)
