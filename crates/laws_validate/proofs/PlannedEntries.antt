-- An entry of `planning` has no error if and only if a run reads it, and it fits its object.
use Rattle.std.proofs.Common.{◌≡◌, ℕ, List, [], ◌∷◌, ◌++◌, Bool, true, false, not, ◌&&◌, ◌||◌, is_some, Option, Some, None, unwrap_or, if◌then◌else◌, refl, sym, ap, ◌∙◌, arith}
use Rattle.std.specs.Prelude.{codes, is_none, nat_le, nat_lt}
use Rattle.std.specs.Option.{option_and_then, option_map, option_map_or}
use Rattle.std.proofs.lemmas.Bool.Decides.{nat_tests}
use Rattle.serde_json.specs.Data.{Data}
use Rattle.serde_json.specs.Find.{as_number, as_object, as_str, as_u64}
use Rattle.apply_json.specs.Tree.{◌>>=◌, member_of, non_empty_text_of, text_or, unless_empty}
use Rattle.apply_model.specs.declared.plan.mode.Mode.{Mode}
use Rattle.apply_model.specs.declared.plan.mode.Mode.TheVariants.{DataSource, Managed}
use Rattle.apply_model.specs.Plan.ResourceChange.{ResourceChange}
use Rattle.apply_model.specs.Script.Limits.{max_seconds}
use Rattle.apply_plan.specs.Script.Entry.{Failure, failure_from, failure_or_none, flag_or_false, number_or_none}
use Rattle.apply_planning_script.specs.Items.{Item, item_of}
use Rattle.apply_planning_script.specs.Planning as run
use Rattle.input_validate.specs.declared.findings.finding.Finding.{Finding}
use Rattle.input_validate.specs.declared.findings.name.Name.TheVariants as name
use Rattle.input_validate.specs.declared.findings.expected.Expected.TheVariants as expected
use Rattle.input_validate.specs.AgainstPlan.{only_warns}
use Rattle.input_validate.specs.Expectations.{is_met}
use Rattle.input_validate.specs.ObjectNames.{Named}
use Rattle.input_validate.specs.Planning.{again_violation, failed_violations, in_planned, in_planned_members, is_read, is_refreshed, mode_of_entry, mode_of_name, object_violations, planned_name, planned_names, planned_table, skipped_gone, skipped_id, skipped_seconds, violations_in}
use Rattle.input_validate.specs.Rules.{fault_of, faults_of, ignored, inside, is_set, rule, violation_findings}
use Rattle.input_validate.specs.ScriptFindings.{in_failure, is_skipped}
use Rattle.input_validate.proofs.Options.{and_then_is, and_true}
use Rattle.laws_validate.proofs.AcceptedSteps.{failed_read, warns_of}
use Rattle.laws_validate.proofs.Alike.{Alike, object_alike}
use Rattle.laws_validate.proofs.Clean.{Cleared, appended, clean, clean-fault_of, clean-faults_of, clean-joined, clean-then_unread, clean-violation_findings, clean-where_suits}
use Rattle.laws_validate.proofs.CleanAgainstPlan.{clean_violation, warns_same}
use Rattle.laws_validate.proofs.CleanSteps.{failure_clean}
use Rattle.laws_validate.proofs.Elements.{named}
use Rattle.laws_validate.proofs.Members.{IsCleanBy, flag_same, flag_there, is_there_same, non_empty_same, non_empty_there, text_or_same, text_or_there, whole_same}
use Rattle.laws_validate.proofs.PlannedReads.{parts_whole, reads}
use Rattle.laws_validate.proofs.Steps.{flag_read}
use Rattle.laws_validate.proofs.Wanted.{only_object}

some_is : {A : Type 0} (x y : A) → Some x ≡ Some y → x ≡ y
some_is x y e = cc

mapped : {A B : Type 0} (f : A → B) (o : Option A) (y : B) → option_map f o ≡ Some y → (x : A) × (o ≡ Some x) × (y ≡ f x)
mapped f None y e = absurd cc
mapped f (Some x) y e = (x, refl, sym (some_is (f x) y e))

-- ---- the members that are read

-- the seconds of an entry; 0 if they are missing or wrong
abbrev seconds_at : Option Data → ℕ
seconds_at o = unwrap_or (option_and_then as_u64 (option_and_then as_number o)) 0

not_over : (n most : ℕ) → nat_le n most ≡ not (nat_lt most n)
not_over n most = grind (arith, nat_tests)

by_day : (n m : Option ℕ) → n ≡ m → option_map_or (λ seconds. nat_le seconds max_seconds) n false
    ≡ (is_some (option_map (λ (x : ℕ). Some x) m) && not (nat_lt max_seconds (unwrap_or n 0)))
by_day None m e = rw (sym e) refl
by_day (Some n) m e = rw (sym e) (not_over n max_seconds)

met_seconds : (o : Option Data) → is_met expected.SecondsOrAbsent o ≡ (is_some (number_or_none o) && not (nat_lt max_seconds (seconds_at o)))
met_seconds None = not_over 0 max_seconds
met_seconds (Some d) = by_day (option_and_then as_u64 (as_number d)) (as_number d >>= as_u64) (and_then_is as_u64 (as_number d))

number_is : (o : Option Data) (n : Option ℕ) → number_or_none o ≡ Some n → (nat_lt max_seconds (unwrap_or n 0) ≡ nat_lt max_seconds (seconds_at o)) × (is_some n ≡ is_some o)
number_is None n e = (ap (λ (m : Option ℕ). nat_lt max_seconds (unwrap_or m 0)) (sym (some_is None n e)), ap (λ (m : Option ℕ). is_some m) (sym (some_is None n e)))
number_is (Some d) n e =
    let it = mapped (λ (x : ℕ). Some x) (as_number d >>= as_u64) n e in (
      ap (λ (m : Option ℕ). nat_lt max_seconds (unwrap_or m 0)) (it.2 ∙ sym (and_then_is as_u64 (as_number d) ∙ it.1)),
      ap (λ (m : Option ℕ). is_some m) it.2,
    )

text_is : (o : Option Data) (z : List ℕ) → text_or [] o ≡ Some z → is_some (unless_empty z) ≡ is_some ((o >>= as_str) >>= unless_empty)
text_is None z e = ap (λ (x : List ℕ). is_some (unless_empty x)) (sym (some_is [] z e))
text_is (Some d) z e = ap (λ (x : Option (List ℕ)). is_some (x >>= unless_empty)) (sym e)

failure_is : (o : Option Data) (x : Option Failure) → failure_or_none o ≡ Some x → is_some x ≡ is_some o
failure_is None x e = ap (λ (f : Option Failure). is_some f) (sym (some_is None x e))
failure_is (Some d) x e =
    let it = mapped (λ (f : Failure). Some f) (failure_from d) x e in
    ap (λ (f : Option Failure). is_some f) it.2

abbrev at : List ℕ → Data → Option Data
at text k = member_of text k

three : {a b c a1 b1 c1 : Bool} → a ≡ a1 → b ≡ b1 → c ≡ c1 → (a && (b && (c && true))) ≡ (a1 && (b1 && (c1 && true)))
three ea eb ec = cc

both : {g s f g1 s1 f1 : Bool} → g ≡ g1 → s ≡ s1 → f ≡ f1 → (not (g && f) && (not (s && f) && true)) ≡ (not (g1 && f1) && (not (s1 && f1) && true))
both eg es ef = cc

day_alike : (o p : Option Data) → option_and_then as_u64 (option_and_then as_number o) ≡ option_and_then as_u64 (option_and_then as_number p) → is_some o ≡ is_some p
    → is_met expected.SecondsOrAbsent o ≡ (is_some (number_or_none p) && not (nat_lt max_seconds (seconds_at p)))
day_alike None None same there = met_seconds None
day_alike None (Some e) same there = absurd cc
day_alike (Some e) None same there = absurd cc
day_alike (Some e) (Some f) same there = ap (λ (n : Option ℕ). option_map_or (λ seconds. nat_le seconds max_seconds) n false) same ∙ met_seconds (Some f)

module _ (d k : Data) (alike : Alike d k) where
  table_clean : clean (faults_of planned_table d)
      ≡ (is_some (non_empty_text_of (codes "address") k) && (is_some (text_or [] (at (codes "deposed") k)) && ((is_some (number_or_none (at (codes "seconds") k)) && not (nat_lt max_seconds (seconds_at (at (codes "seconds") k)))) && true)))
  table_clean =
      clean-faults_of planned_table d
      ∙ three (non_empty_there (codes "address") refl d k alike) (text_or_there (codes "deposed") refl d k alike)
      (day_alike (at (codes "seconds") d) (at (codes "seconds") k) (whole_same (codes "seconds") refl d k alike) (is_there_same (codes "seconds") refl d k alike))

  skipped_same : is_skipped d ≡ is_skipped k
  skipped_same = flag_same (codes "skipped") refl d k alike

  gone_same : is_set name.Gone d ≡ is_set name.Gone k
  gone_same = flag_same (codes "gone") refl d k alike

  failed_same : is_some (at (codes "failed") d) ≡ is_some (at (codes "failed") k)
  failed_same = is_there_same (codes "failed") refl d k alike

  seconds_clean : clean (violation_findings (skipped_seconds d ∷ [])) ≡ not (is_skipped k && is_some (at (codes "seconds") k))
  seconds_clean =
      clean_violation (skipped_seconds d) refl ∙ ap (λ (b : Bool). not (b && is_some (at (codes "seconds") d))) skipped_same
      ∙ ap (λ (b : Bool). not (is_skipped k && b)) (is_there_same (codes "seconds") refl d k alike)

  id_clean : clean (violation_findings (skipped_id d ∷ [])) ≡ not (is_skipped k && is_some (non_empty_text_of (codes "id") k))
  id_clean =
      clean_violation (skipped_id d) refl ∙ ap (λ (b : Bool). not (b && is_some (non_empty_text_of (codes "id") d))) skipped_same
      ∙ ap (λ (t : Option (List ℕ)). not (is_skipped k && is_some t)) (non_empty_same (codes "id") refl d k alike)

  gone_clean : clean (violation_findings (skipped_gone d ∷ [])) ≡ not (is_skipped k && is_set name.Gone k)
  gone_clean =
      clean_violation (skipped_gone d) refl ∙ ap (λ (b : Bool). not (b && is_set name.Gone d)) skipped_same
      ∙ ap (λ (b : Bool). not (is_skipped k && b)) gone_same

  failed_clean : clean (violation_findings (failed_violations d))
      ≡ (not (is_set name.Gone k && is_some (at (codes "failed") k)) && (not (is_skipped k && is_some (at (codes "failed") k)) && true))
  failed_clean =
      clean-violation_findings (failed_violations d) refl ∙ both gone_same skipped_same failed_same

  members_clean : clean (in_planned_members d) ≡ is_some (item_of k)
  unfolding in_planned_members item_of
  members_clean =
      let address : Option (List ℕ) = non_empty_text_of (codes "address") k in
      let deposed : Option (List ℕ) = text_or [] (at (codes "deposed") k) in
      let seconds : Option (Option ℕ) = number_or_none (at (codes "seconds") k) in
      let over : Bool = nat_lt max_seconds (seconds_at (at (codes "seconds") k)) in
      let id : Option (List ℕ) = text_or [] (at (codes "id") k) in
      let failure : Option (Option Failure) = failure_or_none (at (codes "failed") k) in
      let gone : Option Bool = flag_or_false (at (codes "gone") k) in
      let skipped : Option Bool = flag_or_false (at (codes "skipped") k) in
      let sk : Bool = is_skipped k in
      let go : Bool = is_set name.Gone k in
      let fa : Bool = is_some (at (codes "failed") k) in
      let hs : Bool = is_some (at (codes "seconds") k) in
      let hi : Bool = is_some (non_empty_text_of (codes "id") k) in
      let first : Bool = is_some address && (is_some deposed && ((is_some seconds && not over) && true)) in
      let others : List Cleared =
      (violation_findings (skipped_seconds d ∷ []), not (sk && hs), seconds_clean)
      ∷ (fault_of d (rule name.Id expected.TextOrAbsent), is_some id, clean-fault_of d (rule name.Id expected.TextOrAbsent) ∙ text_or_there (codes "id") refl d k alike)
      ∷ (violation_findings (skipped_id d ∷ []), not (sk && hi), id_clean)
      ∷ (inside in_failure name.Failed d, is_some failure, failure_clean d k alike)
      ∷ (violation_findings (failed_violations d), not (go && fa) && (not (sk && fa) && true), failed_clean)
      ∷ (fault_of d (rule name.Gone expected.FlagOrAbsent), is_some gone, clean-fault_of d (rule name.Gone expected.FlagOrAbsent) ∙ flag_there (codes "gone") refl d k alike)
      ∷ (violation_findings (skipped_gone d ∷ []), not (sk && go), gone_clean)
      ∷ (fault_of d (rule name.Skipped expected.FlagOrAbsent), is_some skipped, clean-fault_of d (rule name.Skipped expected.FlagOrAbsent) ∙ flag_there (codes "skipped") refl d k alike)
      ∷ [] in
      clean-joined (faults_of planned_table d) first others table_clean
      ∙ parts_whole (is_some address) (is_some deposed) (is_some seconds) over (is_some id) (is_some failure) (is_some gone) (is_some skipped) sk go fa hs hi
      ∙ sym (reads address deposed seconds id failure gone skipped over sk go fa hs hi (number_is (at (codes "seconds") k)) (text_is (at (codes "id") k)) (failure_is (at (codes "failed") k))
      (λ x e. sym (flag_read (at (codes "gone") k) x e)) (λ x e. sym (flag_read (at (codes "skipped") k) x e)))

-- ---- the object

abbrev read_name : Option (List ℕ) → Option (List ℕ) → Option Named
read_name address deposed = address >>= λ x. deposed >>= λ y. Some (named x (unless_empty y))

-- what is read of the members of an item
pub record IsItemOf (k : Data) (item : Item) : Type 0 where
  pub named_so : planned_name k ≡ Some (named item.address item.deposed)
  pub deposed : is_some (non_empty_text_of (codes "deposed") k) ≡ is_some item.deposed
  pub gone : is_set name.Gone k ≡ item.is_gone
  pub warns : only_warns k ≡ run.only_warns item.failure

behind : {A B : Type 0} (o : Option A) (f : A → Option B) (y : B) → (o >>= f) ≡ Some y → (x : A) × (o ≡ Some x) × (f x ≡ Some y)
behind None f y e = absurd cc
behind (Some x) f y e = (x, refl, e)

abbrev made : List ℕ → List ℕ → List ℕ → Option ℕ → Bool → Bool → Option Failure → Item
made address deposed id seconds gone skipped failure = record {
  address = address;
  deposed = unless_empty deposed;
  seconds = unwrap_or seconds 0;
  id = unless_empty id;
  failure = failure;
  is_gone = gone;
  is_skipped = skipped;
}

by_test : {A : Type 0} (b : Bool) (x y : A) → (let o : Option A = if b then None else Some x in o) ≡ Some y → y ≡ x
by_test true x y e = absurd cc
by_test false x y e = sym (some_is x y e)

pub item_is : (k : Data) (item : Item) → item_of k ≡ Some item → IsItemOf k item
unfolding item_of warns_of
item_is k item e =
    let a = behind (non_empty_text_of (codes "address") k) _ item e in
    let b = behind (text_or [] (at (codes "deposed") k)) _ item a.2 in
    let c = behind (text_or [] (at (codes "id") k)) _ item b.2 in
    let s = behind (number_or_none (at (codes "seconds") k)) _ item c.2 in
    let g = behind (flag_or_false (at (codes "gone") k)) _ item s.2 in
    let t = behind (flag_or_false (at (codes "skipped") k)) _ item g.2 in
    let f = behind (failure_or_none (at (codes "failed") k)) _ item t.2 in
    let same : item ≡ made a.0 b.0 c.0 s.0 g.0 t.0 f.0 = by_test _ (made a.0 b.0 c.0 s.0 g.0 t.0 f.0) item f.2 in
    record {
      named_so = ap (λ (o : Option (List ℕ)). read_name o (text_or [] (at (codes "deposed") k))) a.1 ∙ ap (read_name (Some a.0)) b.1
          ∙ ap (λ (x : Item). Some (named x.address x.deposed)) (sym same);
      deposed = sym (text_is (at (codes "deposed") k) b.0 b.1) ∙ ap (λ (x : Item). is_some x.deposed) (sym same);
      gone = flag_read (at (codes "gone") k) g.0 g.1 ∙ ap (λ (x : Item). x.is_gone) (sym same);
      warns = sym (failed_read (at (codes "failed") k) f.0 f.1) ∙ ap (λ (x : Item). run.only_warns x.failure) (sym same);
    }

-- the entry fits its object: it has one, and says nothing that the object cannot do
abbrev pub fits : List ResourceChange → Item → Bool
fits objects item = option_map_or (λ mode. not (run.misfits item mode)) (mode_of_name objects (named item.address item.deposed)) false

-- what an object of this mode cannot do
abbrev cannot : Mode → (deposed gone warns : Bool) → Bool
cannot DataSource deposed gone warns = gone || deposed
cannot Managed deposed gone warns = warns

four_pass : (mode : Option Mode) (deposed gone warns : Bool)
    → (not (true && is_none mode) && (not (option_map_or is_read mode false && deposed) && (not (option_map_or is_read mode false && gone) && (not (option_map_or is_refreshed mode false && warns) && true))))
    ≡ option_map_or (λ m. not (cannot m deposed gone warns)) mode false
four_pass None deposed gone warns = refl
four_pass (Some DataSource) false false warns = refl
four_pass (Some DataSource) false true warns = refl
four_pass (Some DataSource) true false warns = refl
four_pass (Some DataSource) true true warns = refl
four_pass (Some Managed) deposed gone warns = and_true (not warns)

same_misfits : (item : Item) (mode : Option Mode)
    → option_map_or (λ m. not (cannot m (is_some item.deposed) item.is_gone (run.only_warns item.failure))) mode false ≡ option_map_or (λ m. not (run.misfits item m)) mode false
same_misfits item None = refl
same_misfits item (Some DataSource) = refl
same_misfits item (Some Managed) = refl

pub planned_name_same : (d k : Data) → Alike d k → planned_name d ≡ planned_name k
planned_name_same d k alike =
    ap (λ (o : Option (List ℕ)). read_name o (text_or [] (at (codes "deposed") d))) (non_empty_same (codes "address") refl d k alike)
    ∙ ap (read_name (non_empty_text_of (codes "address") k)) (text_or_same (codes "deposed") refl d k alike)

-- what is tested of an object
abbrev tests : List ResourceChange → Option Named → (deposed gone warns : Bool) → Bool
tests objects name deposed gone warns =
    let mode : Option Mode = option_and_then (mode_of_name objects) name in
    not (is_some name && is_none mode) && (not (option_map_or is_read mode false && deposed) && (not (option_map_or is_read mode false && gone) && (not (option_map_or is_refreshed mode false && warns) && true)))

objects_clean : (objects : List ResourceChange) (d k : Data) (item : Item) → Alike d k → item_of k ≡ Some item → clean (violation_findings (violations_in (Some objects) d)) ≡ fits objects item
objects_clean objects d k item alike e =
    let is = item_is k item e in
    let mode : Option Mode = mode_of_name objects (named item.address item.deposed) in
    let dep : Bool = is_some (non_empty_text_of (codes "deposed") d) in
    let deposed : dep ≡ is_some item.deposed = ap (λ (t : Option (List ℕ)). is_some t) (non_empty_same (codes "deposed") refl d k alike) ∙ is.deposed in
    let gone : is_set name.Gone d ≡ item.is_gone = gone_same d k alike ∙ is.gone in
    let warns : only_warns d ≡ run.only_warns item.failure = warns_same d k alike ∙ is.warns in
    clean-violation_findings (object_violations (mode_of_entry objects d) d) refl
    ∙ ap (λ (o : Option Named). tests objects o dep (is_set name.Gone d) (only_warns d)) (planned_name_same d k alike ∙ is.named_so)
    ∙ ap (λ (b : Bool). tests objects (Some (named item.address item.deposed)) b (is_set name.Gone d) (only_warns d)) deposed
    ∙ ap (λ (b : Bool). tests objects (Some (named item.address item.deposed)) (is_some item.deposed) b (only_warns d)) gone
    ∙ ap (λ (b : Bool). tests objects (Some (named item.address item.deposed)) (is_some item.deposed) item.is_gone b) warns
    ∙ four_pass mode (is_some item.deposed) item.is_gone (run.only_warns item.failure)
    ∙ same_misfits item mode

-- ---- the whole entry

-- a run reads the entry, it fits its object, and no earlier entry is about that object
abbrev pub passes : List ResourceChange → (first : Option ℕ) → Data → Bool
passes objects first k = option_map_or (λ item. fits objects item && not (is_some first)) (item_of k) false

only_planned : (objects : List ResourceChange) (first : Option ℕ) (k : Data) → (is_some (as_object k) && passes objects first k) ≡ passes objects first k
unfolding item_of
only_planned objects first k = only_object (passes objects first) refl (λ b. refl) (λ n. refl) (λ s. refl) (λ ds. refl) k

by_item : (objects : List ResourceChange) (first : Option ℕ) (d k : Data) → Alike d k → (o : Option Item) → item_of k ≡ o
    → ((is_some o && clean (violation_findings (violations_in (Some objects) d))) && not (is_some first))
    ≡ option_map_or (λ it. fits objects it && not (is_some first)) o false
by_item objects first d k alike None e = refl
by_item objects first d k alike (Some it) e = ap (λ (b : Bool). b && not (is_some first)) (objects_clean objects d k it alike e)

pub clean_planned : (objects : List ResourceChange) (first : Option ℕ) → IsCleanBy (in_planned (Some objects) first) (passes objects first)
unfolding in_planned
clean_planned objects first d k alike =
    let members : List Finding = in_planned_members d in
    let of_object : List Finding = violation_findings (violations_in (Some objects) d) in
    let again : List Finding = violation_findings (again_violation first ∷ []) in
    let whole : clean (members ++ of_object ++ again ++ ignored planned_names d) ≡ passes objects first k =
    clean-then_unread (members ++ of_object ++ again) planned_names d
    ∙ appended (members ++ of_object) again (is_some (item_of k) && clean of_object) (not (is_some first))
    (appended members of_object (is_some (item_of k)) (clean of_object) (members_clean d k alike) refl) (clean_violation (again_violation first) refl)
    ∙ by_item objects first d k alike (item_of k) refl in
    clean-where_suits expected.Planned d (members ++ of_object ++ again ++ ignored planned_names d)
    ∙ ap (λ (b : Bool). is_some (as_object d) && b) whole
    ∙ ap (λ (b : Bool). b && passes objects first k) (object_alike d k alike)
    ∙ only_planned objects first k
