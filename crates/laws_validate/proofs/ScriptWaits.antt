-- If a step that a run reads does not fit its change, or waits for an unknown step, it has that
-- error.
use Rattle.std.proofs.Common.{◌≡◌, ℕ, suc, ◌+◌, ◌-◌, List, [], ◌∷◌, ◌++◌, length, map, drop, Bool, true, false, not, ◌&&◌, ◌||◌}
use Rattle.std.proofs.Common.{is_some, Option, Some, None, unwrap_or, if◌then◌else◌, refl, sym, ap, ◌∙◌, arith}
use Rattle.std.specs.Prelude.{codes, is_none, nat_le, nat_lt, slice_get}
use Rattle.std.specs.List.{enumerate_from, list_any, sum_by, zip}
use Rattle.std.specs.Option.{option_map_or}
use Rattle.std.proofs.lemmas.List.Sums.{sum_by-cons}
use Rattle.serde_json.specs.Data.{Data, null, boolean, number, string, array, object}
use Rattle.serde_json.specs.Find.{as_object, as_str}
use Rattle.apply_json.specs.Tree.{member_of}
use Rattle.apply_model.specs.declared.plan.step_kind.StepKind.{StepKind}
use Rattle.apply_model.specs.declared.plan.step_kind.StepKind.TheVariants.{Create, Read}
use Rattle.apply_model.specs.declared.script.outcome.Outcome.{Outcome}
use Rattle.apply_model.specs.Plan.ResourceChange.{ResourceChange}
use Rattle.apply_model.specs.Plan.StepKind.{is_kind}
use Rattle.apply_plan.specs.declared.script.script_error.ScriptError.{ScriptError}
use Rattle.apply_plan.specs.declared.script.script_error.ScriptError.TheVariants.{NoSuchStep, NotACreate, UnknownWait, WarnsNotARead}
use Rattle.apply_plan.specs.Script.Entry.{EntryStep, WaitName, all_some, step_from, wait_from, wait_of_members}
use Rattle.apply_plan.specs.Script.Refusals as run
use Rattle.apply_plan.specs.Script.Refusals.{has_provisioners, misplaces_provisioners, passes, takes_provisioners, warns_not_a_read}
use Rattle.apply_plan.specs.Script.WaitedStep.{change_waited}
use Rattle.input_validate.specs.declared.findings.finding.Finding.{Finding}
use Rattle.input_validate.specs.declared.findings.name.Name.TheVariants as name
use Rattle.input_validate.specs.declared.findings.path.Segment.TheVariants.{Item, Member}
use Rattle.input_validate.specs.declared.findings.expected.Expected.TheVariants as expected
use Rattle.input_validate.specs.declared.findings.problem.Problem.{Problem}
use Rattle.input_validate.specs.declared.findings.problem.Problem.TheVariants as problem
use Rattle.input_validate.specs.declared.rules.violation.Violation.{Violation}
use Rattle.input_validate.specs.AgainstPlan.{beyond_at, change_at, change_named, has_address, kind_of, object_named, only_warns}
use Rattle.input_validate.specs.AgainstPlan.{place_unknown, missing_step_violation, unknown_violation, unknown_violations, waits_beyond, waits_in}
use Rattle.input_validate.specs.Findings.{finding_here, under}
use Rattle.input_validate.specs.ObjectNames.{Named}
use Rattle.input_validate.specs.ScriptFindings.{in_step, in_wait, wait_names, wait_table, whole_at}
use Rattle.input_validate.specs.Rules.{fault_of, faults_of, in_items, inside, items_at, items_from, rule, violation_findings, member_at, place_of, ignored}
use Rattle.laws_validate.proofs.Alike.{Alike}
use Rattle.laws_validate.proofs.CleanAgainstPlan.{change_by, change_same, few_of, is_unknown, lacks_step, less, no_step, none_over, object_same, warns_same}
use Rattle.laws_validate.proofs.Elements.{named}
use Rattle.laws_validate.proofs.AnyFinding.{any_left, any_right, any_under, below}
use Rattle.laws_validate.proofs.Members.{count_same, whole_same}
use Rattle.laws_validate.proofs.Outputs.{is_shaped, shape_alike}
use Rattle.laws_validate.proofs.ScriptSteps.{Pairs, each_any, inside_any, kinds_reported, next_violation, pairs_at, step_reported, this_violation, waits_findings}
use Rattle.laws_validate.proofs.AcceptedSteps.{at_drop, findings_with, held, lacks_with, more_steps, none_with, outcomes, step_read, wait_read}
use Rattle.laws_validate.proofs.Provisioners.{each_list}

some_is : {A : Type 0} (x y : A) → Some x ≡ Some y → x ≡ y
some_is x y e = cc

-- ---- steps by their kinds

-- a step of this kind passes a test, and that error is reported
module _ (change : ResourceChange) (test : (ℕ × StepKind) × Option Outcome → Bool) (p : Finding → Bool) (findings : ℕ → Data → List Finding)
    (reported : (n : ℕ) (kind : StepKind) (d k : Data) (step : EntryStep) → Alike d k → step_from k ≡ Some step → slice_get change.steps n ≡ Some kind
    → test ((n, kind), step.outcome) ≡ true
    → list_any (below (Item n) p) (findings n d) ≡ true) where
  by_test : (n : ℕ) (kind : StepKind) (d k : Data) (step : EntryStep) (r : Bool) (rest : List Finding) (b : Bool) → Alike d k
      → step_from k ≡ Some step → slice_get change.steps n ≡ Some kind
      → test ((n, kind), step.outcome) ≡ b → (b || r) ≡ true → (r ≡ true → list_any p rest ≡ true)
      → list_any p (map (under (Item n)) (findings n d) ++ rest) ≡ true
  by_test n kind d k step r rest true alike read at holds any later =
      any_left p (map (under (Item n)) (findings n d)) rest (any_under p (Item n) (findings n d) (reported n kind d k step alike read at holds))
  by_test n kind d k step r rest false alike read at holds any later = any_right p (map (under (Item n)) (findings n d)) rest (later any)

  pub each_kind : (n : ℕ) (kinds : List StepKind) (ds ks : List Data) → drop n change.steps ≡ kinds → Pairs ds ks → (steps : List EntryStep)
      → all_some (map step_from ks) ≡ Some steps
      → list_any test (zip (enumerate_from n kinds) (outcomes steps)) ≡ true → list_any p (items_from findings n ds) ≡ true
  each_kind n [] ds ks are pairs steps e any = absurd cc
  each_kind n (kind ∷ kinds) [] ks are pairs steps e any =
      let none : steps ≡ [] = some_is steps [] (sym e ∙ ap (λ (ys : List Data). all_some (map step_from ys)) pairs) in
      absurd (let never : false ≡ true = sym (ap (λ (xs : List EntryStep). list_any test (zip (enumerate_from n (kind ∷ kinds)) (outcomes xs))) none)
      ∙ any in cc)
  each_kind n (kind ∷ kinds) (d ∷ ds) ks are pairs steps e any =
      let k : Data = pairs.0 in
      let it = more_steps k pairs.1 steps (ap (λ (ys : List Data). all_some (map step_from ys)) (sym pairs.2) ∙ e) in
      let at = at_drop n change.steps kind kinds are in
      let next : suc n ≡ n + 1 = omega arith in
      by_test n kind d k it.0 (list_any test (zip (enumerate_from (n + 1) kinds) (outcomes it.1))) (items_from findings (suc n) ds)
      (test ((n, kind), it.0.outcome)) pairs.3 it.2 at.0 refl
      (ap (λ (xs : List EntryStep). list_any test (zip (enumerate_from n (kind ∷ kinds)) (outcomes xs))) it.4 ∙ any)
      (λ later. each_kind (suc n) kinds ds pairs.1 at.1 pairs.4 it.1 it.3
      (ap (λ (m : ℕ). list_any test (zip (enumerate_from m kinds) (outcomes it.1))) next ∙ later))

-- the two tests of a step by its kind
abbrev takes_none : ResourceChange → ℕ → Data → Violation
takes_none change n d = record {
  holds = option_map_or (λ kind. nat_lt 0 (length (items_at name.Provisioners d)) && not (takes_provisioners (is_some change.deposed) (n, kind)))
      (slice_get change.steps n) false;
  at = Some name.Provisioners;
  problem = problem.TakesNone (unwrap_or (slice_get change.steps n) Create);
}

abbrev warns_only : ResourceChange → ℕ → Data → Violation
warns_only change n d = record {
  holds = option_map_or (λ kind. only_warns d && not (is_kind Read kind)) (slice_get change.steps n) false;
  at = Some name.Failed;
  problem = problem.OnlyWarns (unwrap_or (slice_get change.steps n) Create);
}

module _ (m : ℕ) (changes : Option (List ResourceChange)) (change : ResourceChange) (n : ℕ) (kind : StepKind) (d k : Data) (step : EntryStep)
    (alike : Alike d k) (read : step_from k ≡ Some step)
    (at : slice_get change.steps n ≡ Some kind) where
  pub placed_reported : misplaces_provisioners (is_some change.deposed) ((n, kind), step.outcome) ≡ true
      → list_any (step_reported (NotACreate m) n) (in_step changes (Some change) n d) ≡ true
  placed_reported wrong =
      let p : Finding → Bool = step_reported (NotACreate m) n in
      let some : nat_lt 0 (length (items_at name.Provisioners d)) ≡ passes has_provisioners step.outcome =
      ap (nat_lt 0) (count_same name.Provisioners refl d k alike) ∙ sym (step_read k step read).some in
      let holds : (takes_none change n d).holds ≡ true =
      ap (λ (o : Option StepKind). option_map_or (λ it. nat_lt 0
      (length (items_at name.Provisioners d)) && not (takes_provisioners (is_some change.deposed) (n, it))) o false) at
      ∙ ap (λ (b : Bool). b && not (takes_provisioners (is_some change.deposed) (n, kind))) some ∙ wrong in
      kinds_reported changes (Some change) n p d k alike step read (this_violation p (takes_none change n d) (warns_only change n d ∷ []) holds refl)

  pub warns_reported : warns_not_a_read ((n, kind), step.outcome) ≡ true → list_any (step_reported (WarnsNotARead m) n) (in_step changes (Some change) n d) ≡ true
  warns_reported wrong =
      let p : Finding → Bool = step_reported (WarnsNotARead m) n in
      let warns : only_warns d ≡ passes run.only_warns step.outcome = warns_same d k alike ∙ sym (step_read k step read).warns in
      let holds : (warns_only change n d).holds ≡ true =
      ap (λ (o : Option StepKind). option_map_or (λ it. only_warns d && not (is_kind Read it)) o false) at
      ∙ ap (λ (b : Bool). b && not (is_kind Read kind)) warns ∙ wrong in
      kinds_reported changes (Some change) n p d k alike step read
      (next_violation p (takes_none change n d) (warns_only change n d ∷ []) (this_violation p (warns_only change n d) [] holds refl))

-- ---- objects of no change

abbrev of_object : Bool → Problem
of_object there = if there then problem.UnknownObject else problem.UnknownAddress

by_object : (p : Finding → Bool) (all : List ResourceChange) (d : Data) (o : Option Named)
    → ((there : Bool) → p (place_of (place_unknown there d) (of_object there)) ≡ true)
    → option_map_or (λ nm. is_none (change_named all nm)) o false ≡ true → list_any p (violation_findings (option_map_or (λ nm. unknown_violation all d nm ∷ []) o [])) ≡ true
by_object p all d None reported holds = absurd cc
by_object p all d (Some nm) reported holds = this_violation p (unknown_violation all d nm) [] holds (reported (has_address all nm.0))

pub unknown_reported : (p : Finding → Bool) (all : List ResourceChange) (d k : Data) → Alike d k
    → ((there : Bool) → p (place_of (place_unknown there d) (of_object there)) ≡ true)
    → is_unknown (Some all) (object_named k) ≡ true → list_any p (violation_findings (unknown_violations (Some all) d)) ≡ true
unknown_reported p all d k alike reported holds =
    by_object p all d (object_named d) reported (ap (λ (o : Option Named). is_unknown (Some all) o) (object_same d k alike) ∙ holds)

-- ---- items of `after`

unknown_read : (changes : List ResourceChange) (k : Data) (w : WaitName) → wait_from k ≡ Some w → run.is_unknown changes w ≡ true
    → is_unknown (Some changes) (object_named k) ≡ true
unknown_read changes k w read none =
    ap (λ (o : Option Named). is_unknown (Some changes) o) (wait_read k w read).object
    ∙ ap is_none (findings_with (held w) 0 changes) ∙ none_with (change_waited changes w) ∙ none

mismatch_read : (changes : List ResourceChange) (k : Data) (w : WaitName) → wait_from k ≡ Some w → run.lacks_step changes w ≡ true
    → lacks_step (Some changes) k ≡ true
mismatch_read changes k w read none =
    let names = wait_read k w read in
    ap (λ (o : Option Named). option_map_or (λ change. option_map_or (nat_le (length change.steps)) (whole_at name.Step k) false)
    (change_by (Some changes) o) false) names.object
    ∙ ap (λ (n : Option ℕ). option_map_or (λ change. option_map_or (nat_le (length change.steps)) n false)
    (change_named changes (named w.address w.deposed)) false) names.step
    ∙ ap (λ (o : Option ResourceChange). option_map_or (λ change. option_map_or (nat_le (length change.steps)) w.step false) o false)
    (findings_with (held w) 0 changes)
    ∙ lacks_with w.step (change_waited changes w) ∙ none

wait_shape : (k : Data) (w : WaitName) → wait_from k ≡ Some w → is_shaped k ≡ true
unfolding wait_of_members
wait_shape null w e = absurd cc
wait_shape (boolean b) w e = absurd cc
wait_shape (number n) w e = absurd cc
wait_shape (string s) w e = refl
wait_shape (array ds) w e = absurd cc
wait_shape (object ms) w e = refl

-- an item is a text, or an object
by_shape : (p : Finding → Bool) (text members : Bool) (xs ys zs : List Finding) → (text || members) ≡ true → (text ≡ true → list_any p xs ≡ true)
    → list_any p ys ≡ true
    → list_any p (if text then xs else (if text || members then ys else zs)) ≡ true
by_shape p true members xs ys zs e one other = one refl
by_shape p false true xs ys zs e one other = other
by_shape p false false xs ys zs e one other = absurd cc

in_second : (p : Finding → Bool) (a b c e : List Finding) → list_any p b ≡ true → list_any p (a ++ b ++ c ++ e) ≡ true
in_second p a b c e is = any_left p _ e (any_left p _ c (any_right p a b is))

in_third : (p : Finding → Bool) (a b c e : List Finding) → list_any p c ≡ true → list_any p (a ++ b ++ c ++ e) ≡ true
in_third p a b c e is = any_left p _ e (any_right p (a ++ b) c is)

-- only an object states the number of a step
no_text : (change : Option ResourceChange) (d : Data) → option_map_or (λ findings. option_map_or (nat_le (length findings.steps))
    (whole_at name.Step d) false) change false ≡ true → is_some (as_str d) ≡ false
no_text change null e = refl
no_text change (boolean b) e = refl
no_text change (number n) e = refl
no_text change (string s) e = absurd (let never : false ≡ true = sym (no_step change) ∙ e in cc)
no_text change (array ds) e = refl
no_text change (object ms) e = refl

module _ (p : Finding → Bool) (changes : List ResourceChange) (d k : Data) (w : WaitName) (alike : Alike d k) (read : wait_from k ≡ Some w) where
  wait_unknown : ((there : Bool) → p (place_of (place_unknown there d) (of_object there)) ≡ true) → run.is_unknown changes w ≡ true
      → list_any p (in_wait (Some changes) d) ≡ true
  unfolding in_wait
  wait_unknown reported none =
      let unknown : List Finding = violation_findings (unknown_violations (Some changes) d) in
      let is : list_any p unknown ≡ true = unknown_reported p changes d k alike reported (unknown_read changes k w read none) in
      by_shape p (is_some (as_str d)) (is_some (as_object d)) unknown _ (finding_here (problem.IsNot expected.Wait) ∷ [])
      (shape_alike d k alike ∙ wait_shape k w read) (λ text. is)
      (in_second p (faults_of wait_table d) unknown (violation_findings (missing_step_violation (change_at (Some changes) d) (whole_at name.Step d) ∷ [])) (ignored wait_names d) is)

  wait_lacks : p (place_of (Some name.Step) (problem.NoSuchStep (kind_of (change_at (Some changes) d) 0) (kind_of (change_at (Some changes) d) 1)))
      ≡ true → run.lacks_step changes w ≡ true
      → list_any p (in_wait (Some changes) d) ≡ true
  unfolding in_wait
  wait_lacks reported none =
      let violation : Violation = missing_step_violation (change_at (Some changes) d) (whole_at name.Step d) in
      let holds : violation.holds ≡ true =
      ap (λ (o : Option ResourceChange). option_map_or (λ findings. option_map_or (nat_le (length findings.steps)) (whole_at name.Step d) false) o false)
      (change_same (Some changes) d k alike)
      ∙ ap (λ (n : Option ℕ). option_map_or (λ findings. option_map_or (nat_le (length findings.steps)) n false) (change_at (Some changes) k) false)
      (whole_same (codes "step") refl d k alike)
      ∙ mismatch_read changes k w read none in
      by_shape p (is_some (as_str d)) (is_some (as_object d)) (violation_findings (unknown_violations (Some changes) d)) _ (finding_here (problem.IsNot expected.Wait) ∷ [])
      (shape_alike d k alike ∙ wait_shape k w read)
      (λ text. absurd (let never : true ≡ false = sym text ∙ no_text (change_at (Some changes) d) d holds in cc))
      (in_third p (faults_of wait_table d) (violation_findings (unknown_violations (Some changes) d)) (violation_findings (violation ∷ [])) (ignored wait_names d)
      (this_violation p violation [] holds reported))

-- where an item that a step waits for passes a test
any_wait : (p : Finding → Bool) (test : WaitName → Bool) (changes : List ResourceChange) (change : Option ResourceChange) (n : ℕ) (d k : Data)
    (step : EntryStep) → Alike d k → step_from k ≡ Some step
    → ((i : ℕ) (e l : Data) (w : WaitName) → Alike e l → wait_from l ≡ Some w → test w ≡ true
    → list_any (below (Item i) (below (Member name.After) p)) (in_wait (Some changes) e) ≡ true)
    → list_any test step.after ≡ true → list_any p (in_step (Some changes) change n d) ≡ true
any_wait p test changes change n d k step alike read reported any =
    waits_findings (Some changes) change n p d k alike step read
    (any_right p (fault_of d (rule name.After expected.ArrayOrAbsent)) (inside (in_items (λ item. in_wait (Some changes))) name.After d)
    (inside_any p (λ item. in_wait (Some changes)) name.After d
    (each_any WaitName wait_from test (below (Member name.After) p) (λ item. in_wait (Some changes)) reported 0 (items_at name.After d) (items_at name.After k)
    (pairs_at name.After refl d k alike) step.after (each_list wait_from (member_of (codes "after") k) step.after (step_read k step read).waits) any)))

abbrev wait_reported : ScriptError → (n i : ℕ) → Finding → Bool
wait_reported refusal n i finding = step_reported refusal n (under (Member name.After) (under (Item i) finding))

-- wherever in the item the error is reported
object_reported : (m n i : ℕ) (text deposed there : Bool)
    → wait_reported (UnknownWait m) n i (place_of (if text then None else if there && deposed then Some name.Deposed else Some name.Address)
    (of_object there)) ≡ true
object_reported m n i true deposed true = refl
object_reported m n i true deposed false = refl
object_reported m n i false true true = refl
object_reported m n i false false true = refl
object_reported m n i false deposed false = refl

module _ (m : ℕ) (changes : List ResourceChange) (change : Option ResourceChange) (n : ℕ) (d k : Data) (step : EntryStep) (alike : Alike d k)
    (read : step_from k ≡ Some step) where
  pub of_no_change_reported : list_any (run.is_unknown changes) step.after ≡ true
      → list_any (step_reported (UnknownWait m) n) (in_step (Some changes) change n d) ≡ true
  of_no_change_reported any =
      any_wait (step_reported (UnknownWait m) n) (run.is_unknown changes) changes change n d k step alike read
      (λ i e l w same is none. wait_unknown (wait_reported (UnknownWait m) n i) changes e l w same is
      (λ there. object_reported m n i (is_some (as_str e)) (is_some (member_at name.Deposed e)) there) none) any

  pub no_step_reported : list_any (run.lacks_step changes) step.after ≡ true → list_any (step_reported (NoSuchStep m) n) (in_step (Some changes) change n d) ≡ true
  no_step_reported any =
      any_wait (step_reported (NoSuchStep m) n) (run.lacks_step changes) changes change n d k step alike read
      (λ i e l w same is none. wait_lacks (wait_reported (NoSuchStep m) n i) changes e l w same is refl none) any

-- ---- items beyond those that a script may have

by_room : (p : Finding → Bool) (b : Bool) (n most w r : ℕ) (xs : List Finding) → list_any p (beyond_at n most) ≡ true → nat_lt most w ≡ b
    → nat_lt most (w + r) ≡ true
    → (nat_lt (most - w) r ≡ true → list_any p xs ≡ true) → list_any p (if b then beyond_at n most else xs) ≡ true
by_room p true n most w r xs reported is e later = reported
by_room p false n most w r xs reported is e later = later (less most w r (few_of most w is) ∙ e)

pub beyond_reported : (p : Finding → Bool) → ((n most : ℕ) → list_any p (beyond_at n most) ≡ true) → (most n : ℕ) (ds : List Data)
    → nat_lt most (sum_by waits_in ds) ≡ true
    → list_any p (waits_beyond most n ds) ≡ true
beyond_reported p reported most n [] e = absurd (let never : false ≡ true = sym (none_over most) ∙ e in cc)
beyond_reported p reported most n (d ∷ ds) e =
    by_room p (nat_lt most (waits_in d)) n most (waits_in d) (sum_by waits_in ds) (waits_beyond (most - waits_in d) (suc n) ds) (reported n most) refl
    (ap (nat_lt most) (sym (sum_by-cons waits_in d ds)) ∙ e) (beyond_reported p reported (most - waits_in d) (suc n) ds)
