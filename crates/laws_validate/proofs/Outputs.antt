-- Items of `output` have no error if and only if a run reads them and they come in time.
use Rattle.std.proofs.Common.{◌≡◌, ℕ, suc, List, [], ◌∷◌, ◌++◌, map, Bool, true, false, not, ◌&&◌, ◌||◌, if◌then◌else◌, is_some, Option, Some, None, unwrap_or, refl, sym, ap, ◌∙◌, ⊎_elim, arith}
use Rattle.std.specs.Prelude.{codes, nat_le, nat_lt}
use Rattle.std.specs.List.{list_all}
use Rattle.std.specs.Option.{option_and_then, option_map, option_map_or}
use Rattle.std.proofs.lemmas.Bool.{cases_Bool, le-leb, lt-leb, ltb-false, ltb-true}
use Rattle.serde_json.specs.Data.{Data, Items, no_items, item, null, boolean, number, string, array, object}
use Rattle.serde_json.specs.Find.{as_number, as_object, as_str, as_u64}
use Rattle.apply_json.specs.ShallowView.{items_in}
use Rattle.apply_json.specs.Tree.{◌>>=◌, list_of, member_of, text_of}
use Rattle.apply_model.specs.declared.script.timed_text.TimedText.{TimedText}
use Rattle.apply_model.specs.Script.Outcome.{are_in_time}
use Rattle.apply_plan.specs.Script.Entry.{OutputItem, all_some, each_of, number_or_none, output_from, output_of_members, timed, timed_outputs}
use Rattle.input_validate.specs.declared.findings.finding.Finding.{Finding}
use Rattle.input_validate.specs.declared.findings.name.Name.TheVariants as name
use Rattle.input_validate.specs.declared.findings.path.Segment.TheVariants.{Item, Member}
use Rattle.input_validate.specs.declared.findings.expected.Expected.TheVariants as expected
use Rattle.input_validate.specs.Findings.{under}
use Rattle.input_validate.specs.ScriptFindings.{comes_after, in_output, in_outputs, is_over, output_violations, output_names, output_table, outputs_after, whole_at}
use Rattle.input_validate.specs.Rules.{faults_of, items_at, violation_findings, member_at, ignored}
use Rattle.input_validate.specs.Expectations.{is_met, suits}
use Rattle.laws_validate.proofs.Alike.{Alike, AlikeItems, AreAlike, as_str_alike, member_alike, object_alike}
use Rattle.laws_validate.proofs.Clean.{all_items, clean, clean-append, clean-faults_of, clean-violation_findings, clean-then_unread, clean-under, clean-where, is_absent_or}
use Rattle.laws_validate.proofs.Members.{is_there_same, text_there, whole_or_there, whole_same}
use Rattle.input_validate.proofs.Options.{and_comm, and_false, and_right, and_then_is, and_true}

-- ---- one item, of the tree that a run reads

-- an item is a text or an object
abbrev pub is_shaped : Data → Bool
is_shaped k = is_some (as_str k) || is_some (as_object k)

pub shape_alike : (d k : Data) → Alike d k → suits expected.Output d ≡ is_shaped k
shape_alike d k a =
    ap (λ (t : Option (List ℕ)). is_some t || is_some (as_object d)) (as_str_alike d k a) ∙ ap (λ (b : Bool). is_some (as_str k) || b) (object_alike d k a)

-- a run reads the members of an item, and the item comes in time
abbrev members_fine : (seconds before : Option ℕ) (reported : Option (Option ℕ)) (after : Option ℕ) (text : Option (List ℕ)) → Bool
members_fine seconds before reported after text =
    (is_some reported && (is_some text && true)) && (not (is_over seconds after) && (not (is_over after before) && true))

abbrev is_fine : (seconds before : Option ℕ) → Data → Bool
is_fine seconds before k =
    if is_some (as_object k)
    then members_fine seconds before (number_or_none (member_of (codes "after") k)) (whole_at name.After k) (text_of (codes "text") k)
    else true

-- the items do, in order
abbrev pub come_in_time : (seconds before : Option ℕ) → List Data → Bool
come_in_time seconds before [] = true
come_in_time seconds before (k ∷ ks) = is_fine seconds before k && come_in_time seconds (comes_after seconds k) ks

-- ---- of the other tree

pair : {a b a1 b1 : Bool} → a ≡ a1 → b ≡ b1 → (a && (b && true)) ≡ (a1 && (b1 && true))
pair ea eb = cc

clean_output : (s b : Option ℕ) (d k : Data) → Alike d k → clean (in_output s b d) ≡ is_fine s b k
unfolding in_output
clean_output s b d k a =
    let wrong : List Finding = faults_of output_table d in
    let violations : List Finding = violation_findings (output_violations s b d) in
    let reported : Option (Option ℕ) = number_or_none (member_of (codes "after") k) in
    let text : Option (List ℕ) = text_of (codes "text") k in
    let fine : Bool = members_fine s b reported (whole_at name.After k) text in
    let e1 : clean wrong ≡ (is_some reported && (is_some text && true)) =
    clean-faults_of output_table d ∙ pair (whole_or_there (codes "after") refl d k a) (text_there (codes "text") refl d k a) in
    let e2 : clean violations ≡ (not (is_over s (whole_at name.After k)) && (not (is_over (whole_at name.After k) b) && true)) =
    clean-violation_findings (output_violations s b d) refl
    ∙ ap (λ (x : Option ℕ). not (is_over s x) && (not (is_over x b) && true)) (whole_same (codes "after") refl d k a) in
    clean-where (is_some (as_object d)) (wrong ++ violations ++ ignored output_names d) fine
    (clean-then_unread (wrong ++ violations) output_names d
    ∙ clean-append wrong violations
    ∙ ap (λ (x : Bool). x && clean violations) e1
    ∙ ap (λ (x : Bool). (is_some reported && (is_some text && true)) && x) e2)
    ∙ ap (λ (x : Bool). if x then fine else true) (object_alike d k a)

comes_same : (s : Option ℕ) (d k : Data) → Alike d k → comes_after s d ≡ comes_after s k
comes_same s d k a =
    ap (λ (b : Bool). if b then whole_at name.After d else s) (is_there_same (codes "after") refl d k a)
    ∙ ap (λ (w : Option ℕ). if is_some (member_at name.After k) then w else s) (whole_same (codes "after") refl d k a)

clean_items : (s b : Option ℕ) (n : ℕ) (ds es : Items) → AlikeItems ds es → clean (outputs_after s b n (list_of ds)) ≡ come_in_time s b (list_of es)
clean_items s b n no_items es a = rw a refl
clean_items s b n (item d ds) es a =
    rw (a.2)
    (clean-append (map (under (Item n)) (in_output s b d)) (outputs_after s (comes_after s d) (suc n) (list_of ds))
    ∙ ap (λ (x : Bool). x && clean (outputs_after s (comes_after s d) (suc n) (list_of ds))) (clean-under (Item n) (in_output s b d) ∙ clean_output s b d a.0 a.3)
    ∙ ap (λ (c : Option ℕ). is_fine s b a.0 && clean (outputs_after s c (suc n) (list_of ds))) (comes_same s d a.0 a.3)
    ∙ ap (λ (x : Bool). is_fine s b a.0 && x) (clean_items s (comes_after s a.0) (suc n) ds a.1 a.4))

clean_in : (s : Option ℕ) (d k : Data) → Alike d k → clean (outputs_after s None 0 (list_of (items_in d))) ≡ come_in_time s None (list_of (items_in k))
clean_in s null k a = rw a refl
clean_in s (boolean b) k a = rw a refl
clean_in s (number n) k a = rw a refl
clean_in s (string t) k a = rw a refl
clean_in s (array ds) k a = rw (a.1) (clean_items s None 0 ds a.0 a.2)
clean_in s (object ms) k a = rw (a.1) refl

clean_at : (s : Option ℕ) (o p : Option Data) → AreAlike o p
    → clean (outputs_after s None 0 (option_map_or (λ value. list_of (items_in value)) o [])) ≡ come_in_time s None (option_map_or (λ value. list_of (items_in value)) p [])
clean_at s None p a = rw a refl
clean_at s (Some d) p a = rw (a.1) (clean_in s d a.0 a.2)

pub clean_outputs : (d k : Data) → Alike d k → clean (in_outputs d) ≡ come_in_time (whole_at name.Seconds k) None (items_at name.Output k)
clean_outputs d k a =
    clean-under (Member name.Output) (outputs_after (whole_at name.Seconds d) None 0 (items_at name.Output d))
    ∙ ap (λ (s : Option ℕ). clean (outputs_after s None 0 (items_at name.Output d))) (whole_same (codes "seconds") refl d k a)
    ∙ clean_at (whole_at name.Seconds k) (member_at name.Output d) (member_at name.Output k) (member_alike (codes "output") refl d k a)

-- ---- what a run reads of them

not_over : (n m : ℕ) → not (nat_lt n m) ≡ nat_le m n
not_over n m =
    ⊎_elim (λ (yes : nat_lt n m ≡ true). rw yes (sym (lt-leb m n (ltb-true n m yes))))
    (λ (no : nat_lt n m ≡ false). rw no (sym (le-leb m n (ltb-false n m no)))) (cases_Bool (nat_lt n m))

-- two ways to test that an item comes in time
bounds : (s : ℕ) (b : Option ℕ) (n : ℕ) → (not (nat_lt s n) && (not (is_over (Some n) b) && true)) ≡ (nat_le (unwrap_or b 0) n && nat_le n s)
bounds s None n =
    ap (λ (x : Bool). x && true) (not_over s n)
    ∙ and_comm (nat_le n s) true
    ∙ ap (λ (x : Bool). x && nat_le n s) (sym (le-leb 0 n (omega arith)))
bounds s (Some m) n =
    ap (λ (x : Bool). x && (not (nat_lt n m) && true)) (not_over s n)
    ∙ ap (λ (x : Bool). nat_le n s && x) (and_true (not (nat_lt n m)) ∙ not_over n m)
    ∙ and_comm (nat_le n s) (nat_le m n)

abbrev in_time : (s low : ℕ) → List OutputItem → Bool
in_time s low items = are_in_time low s (map (timed s) items)

abbrev behind : OutputItem → Option (List OutputItem) → Option (List OutputItem)
behind x all = all >>= λ xs. Some (x ∷ xs)

-- an item that comes in time, or does not
abbrev bounded : (s low : ℕ) → OutputItem → Bool
bounded s low x = nat_le low (unwrap_or x.after s) && nat_le (unwrap_or x.after s) s

one_more : (s low : ℕ) (x : OutputItem) (all : Option (List OutputItem)) → bounded s low x ≡ true
    → option_map_or (in_time s (unwrap_or x.after s)) all false ≡ option_map_or (in_time s low) (behind x all) false
one_more s low x None e = refl
one_more s low x (Some xs) e = sym (ap (λ (c : Bool). c && in_time s (unwrap_or x.after s) xs) e)

one_too_many : (s low : ℕ) (x : OutputItem) (all : Option (List OutputItem)) → bounded s low x ≡ false
    → false ≡ option_map_or (in_time s low) (behind x all) false
one_too_many s low x None e = refl
one_too_many s low x (Some xs) e = sym (ap (λ (c : Bool). c && in_time s (unwrap_or x.after s) xs) e)

abbrev item_of : Option ℕ → List ℕ → OutputItem
item_of after text = record { after = after; text = text }

-- the findings of the items after this one, by when it comes
abbrev Others : (s : ℕ) → List Data → Type 0
Others s ks = (b : Option ℕ) → nat_le (unwrap_or b 0) s ≡ true
    → (list_all is_shaped ks && come_in_time (Some s) b ks) ≡ option_map_or (in_time s (unwrap_or b 0)) (all_some (map output_from ks)) false

with_the_end : (s : ℕ) (b : Option ℕ) (text : List ℕ) (ks : List Data) → nat_le (unwrap_or b 0) s ≡ true → Others s ks
    → (list_all is_shaped ks && come_in_time (Some s) (Some s) ks) ≡ option_map_or (in_time s (unwrap_or b 0)) (behind (item_of None text) (all_some (map output_from ks))) false
with_the_end s b text ks few others =
    let last : nat_le s s ≡ true = le-leb s s (omega arith) in
    others (Some s) last
    ∙ one_more s (unwrap_or b 0) (item_of None text) (all_some (map output_from ks)) (ap (λ (c : Bool). c && nat_le s s) few ∙ last)

by_bounds : (s : ℕ) (b : Option ℕ) (n : ℕ) (text : List ℕ) (ks : List Data) → Others s ks → (c : Bool) → c ≡ (nat_le (unwrap_or b 0) n && nat_le n s)
    → (list_all is_shaped ks && (c && come_in_time (Some s) (Some n) ks)) ≡ option_map_or (in_time s (unwrap_or b 0)) (behind (item_of (Some n) text) (all_some (map output_from ks))) false
by_bounds s b n text ks others true e =
    others (Some n) (and_right (nat_le (unwrap_or b 0) n) (nat_le n s) (sym e))
    ∙ one_more s (unwrap_or b 0) (item_of (Some n) text) (all_some (map output_from ks)) (sym e)
by_bounds s b n text ks others false e =
    and_false (list_all is_shaped ks) ∙ one_too_many s (unwrap_or b 0) (item_of (Some n) text) (all_some (map output_from ks)) (sym e)

-- the item states when it comes
by_number : (s : ℕ) (b after : Option ℕ) (text : List ℕ) (ks : List Data) → Others s ks
    → (list_all is_shaped ks && (members_fine (Some s) b (option_map (λ (n : ℕ). Some n) after) after (Some text) && come_in_time (Some s) after ks))
    ≡ option_map_or (in_time s (unwrap_or b 0)) ((option_map (λ (n : ℕ). Some n) after >>= λ a. Some (item_of a text)) >>= λ x. behind x (all_some (map output_from ks))) false
by_number s b None text ks others = and_false (list_all is_shaped ks)
by_number s b (Some n) text ks others = by_bounds s b n text ks others (not (nat_lt s n) && (not (is_over (Some n) b) && true)) (bounds s b n)

-- an item that is an object with these members
by_members : (s : ℕ) (b : Option ℕ) (o : Option Data) (text : Option (List ℕ)) (ks : List Data) → nat_le (unwrap_or b 0) s ≡ true → Others s ks
    → (list_all is_shaped ks
    && (members_fine (Some s) b (number_or_none o) (option_and_then as_u64 (option_and_then as_number o)) text
    && come_in_time (Some s) (if is_some o then option_and_then as_u64 (option_and_then as_number o) else Some s) ks))
    ≡ option_map_or (in_time s (unwrap_or b 0)) ((text >>= λ t. number_or_none o >>= λ a. Some (item_of a t)) >>= λ x. behind x (all_some (map output_from ks))) false
by_members s b o None ks few others =
    let after : Option ℕ = option_and_then as_u64 (option_and_then as_number o) in
    let rest : Bool = come_in_time (Some s) (if is_some o then after else Some s) ks in
    ap (λ (c : Bool). list_all is_shaped ks && ((c && (not (is_over (Some s) after) && (not (is_over after b) && true))) && rest)) (and_false (is_some (number_or_none o)))
    ∙ and_false (list_all is_shaped ks)
by_members s b None (Some t) ks few others = with_the_end s b t ks few others
by_members s b (Some v) (Some t) ks few others =
    ap (λ (after : Option ℕ). list_all is_shaped ks && (members_fine (Some s) b (number_or_none (Some v)) after (Some t) && come_in_time (Some s) after ks)) (and_then_is as_u64 (as_number v))
    ∙ by_number s b (as_number v >>= as_u64) t ks others

by_item : (s : ℕ) (b : Option ℕ) (k : Data) (ks : List Data) → nat_le (unwrap_or b 0) s ≡ true → Others s ks
    → ((is_shaped k && list_all is_shaped ks) && (is_fine (Some s) b k && come_in_time (Some s) (comes_after (Some s) k) ks))
    ≡ option_map_or (in_time s (unwrap_or b 0)) (output_from k >>= λ x. behind x (all_some (map output_from ks))) false
unfolding output_of_members
by_item s b null ks few others = refl
by_item s b (boolean c) ks few others = refl
by_item s b (number n) ks few others = refl
by_item s b (string t) ks few others = with_the_end s b t ks few others
by_item s b (array ds) ks few others = refl
by_item s b (object ms) ks few others = by_members s b (member_of (codes "after") (object ms)) (text_of (codes "text") (object ms)) ks few others

all_read : (s : ℕ) (ks : List Data) → Others s ks
all_read s [] b few = refl
all_read s (k ∷ ks) b few = by_item s b k ks few (all_read s ks)

by_time : (b : Bool) (texts : List TimedText) → b ≡ is_some (let o : Option (List TimedText) = if b then Some texts else None in o)
by_time true texts = refl
by_time false texts = refl

timely : (s : ℕ) (items : Option (List OutputItem)) → option_map_or (in_time s 0) items false ≡ is_some (items >>= timed_outputs s)
timely s None = refl
timely s (Some items) = by_time (in_time s 0 items) (map (timed s) items)

-- the value is an array of such items, where it is there
abbrev pub are_shaped : Option Data → Bool
are_shaped o = is_met expected.ArrayOrAbsent o && is_absent_or (all_items is_shaped) o

in_array : (s : ℕ) (d : Data)
    → ((is_met expected.ArrayOrAbsent (Some d) && all_items is_shaped d) && come_in_time (Some s) None (list_of (items_in d))) ≡ is_some (each_of output_from (Some d) >>= timed_outputs s)
in_array s null = refl
in_array s (boolean b) = refl
in_array s (number n) = refl
in_array s (string t) = refl
in_array s (array ds) = all_read s (list_of ds) None (le-leb 0 s (omega arith)) ∙ timely s (all_some (map output_from (list_of ds)))
in_array s (object ms) = refl

pub outputs_read : (s : ℕ) (o : Option Data)
    → (are_shaped o && come_in_time (Some s) None (option_map_or (λ value. list_of (items_in value)) o [])) ≡ is_some (each_of output_from o >>= timed_outputs s)
outputs_read s None = refl
outputs_read s (Some d) = in_array s d
