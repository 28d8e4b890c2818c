-- Steps that a run reads, from the values of their members.
use Rattle.std.proofs.Common.{◌≡◌, ℕ, zero, suc, ◌+◌, ◌≤◌, List, [], ◌∷◌, length, map, drop, Bool, true, false, cond, not, ◌&&◌, ◌||◌}
use Rattle.std.proofs.Common.{if◌then◌else◌, is_some, Option, Some, None, refl, subst, sym, ap, ◌∙◌, add-one, arith}
use Rattle.std.specs.Prelude.{codes, find, is_none, nat_lt, nat_le, slice_get}
use Rattle.std.specs.List.{enumerate_from, list_all, list_any, sum_by, zip}
use Rattle.std.specs.Option.{option_and_then, option_map, option_map_or}
use Rattle.std.specs.Str.{bytes_eq}
use Rattle.std.proofs.lemmas.List.Sums.{sum_by-cons}
use Rattle.serde_json.specs.Data.{Data, null, boolean, number, string, array, object}
use Rattle.serde_json.specs.Find.{as_number, as_str, as_u64}
use Rattle.apply_json.specs.Tree.{◌>>=◌, is_word, list_of, member_of, text_of, text_or, unless_empty}
use Rattle.apply_model.specs.declared.plan.step_kind.StepKind.{StepKind}
use Rattle.apply_model.specs.declared.script.diag.Diag.{Diag}
use Rattle.apply_model.specs.declared.script.ending.Ending.{Ending}
use Rattle.apply_model.specs.declared.script.ending.Ending.TheVariants.{Done, Failed, Warned}
use Rattle.apply_model.specs.declared.script.outcome.Outcome.{Outcome}
use Rattle.apply_model.specs.declared.script.provisioner.Provisioner.{Provisioner}
use Rattle.apply_model.specs.Plan.ResourceChange.{ResourceChange}
use Rattle.apply_model.specs.Script.Outcome.{is_failed, is_warned}
use Rattle.apply_resolve.specs.ObjectName.{name_one_object}
use Rattle.apply_plan.specs.Script.Entry.{EntryStep, Failure, WaitName, all_some, answered_with, diag_from, diag_or_none, each_of, ending_by, ending_from, ending_of, failure_from, failure_or_none}
use Rattle.apply_plan.specs.Script.Entry.{flag_or_false, number_or_none, only_warns_by, only_warns_or_not, provisioner_from}
use Rattle.apply_plan.specs.Script.Entry.{is_bare, seconds_of, skipped_with, step_from, wait_from, wait_of_members}
use Rattle.apply_plan.specs.Script.Refusals as run
use Rattle.apply_plan.specs.Script.Refusals.{count_of_waits, has_provisioners, is_any_wait, misplaces_provisioners, passes, warns_not_a_read}
use Rattle.apply_plan.specs.Script.WaitedStep.{change_waited}
use Rattle.input_validate.specs.declared.findings.name.Name.TheVariants as name
use Rattle.input_validate.specs.AgainstPlan.{change_named, object_named, only_warns, waits_in}
use Rattle.input_validate.specs.ObjectNames.{Named}
use Rattle.input_validate.specs.ScriptFindings.{whole_at}
use Rattle.input_validate.specs.Rules.{items_at, member_at}
use Rattle.laws_validate.proofs.CleanAgainstPlan.{change_by, fits_kind, has_change_and_step, is_unknown, kind_fits, lacks_step}
use Rattle.laws_validate.proofs.Clean.{all_items, is_absent_or}
use Rattle.laws_validate.proofs.Elements.{named}
use Rattle.laws_validate.proofs.Members.{all_from}
use Rattle.input_validate.proofs.Options.{and_false, and_then_is, bind_some}
use Rattle.laws_validate.proofs.Provisioners.{length_read}
use Rattle.laws_validate.proofs.CleanSteps.{waits_fit}

some_is : {A : Type 0} (x y : A) → Some x ≡ Some y → x ≡ y
some_is x y e = cc

-- ---- failures that only warn

by_words : (b c warns : Bool) → (let o : Option Bool = if b then Some true else if c then Some false else None in o) ≡ Some warns → b ≡ warns
by_words true c warns e = some_is true warns e
by_words false true warns e = some_is false warns e
by_words false false warns e = absurd cc

word_read : (text : Option (List ℕ)) (warns : Bool) → (text >>= only_warns_by) ≡ Some warns → option_map_or (λ t. bytes_eq t (codes "warning")) text false ≡ warns
word_read None warns e = absurd cc
word_read (Some t) warns e = by_words (bytes_eq t (codes "warning")) (bytes_eq t (codes "error")) warns e

severity_read : (o : Option Data) (warns : Bool) → only_warns_or_not o ≡ Some warns → option_map_or (is_word (codes "warning")) o false ≡ warns
severity_read None warns e = some_is false warns e
severity_read (Some d) warns e = word_read (as_str d) warns e

abbrev with_diag : Diag → Bool → Failure
with_diag diag warns = record { diag = diag; only_warns = warns }

failure_read : (d : Data) (f : Failure) → failure_from d ≡ Some f → option_map_or (is_word (codes "warning")) (member_at name.Severity d) false ≡ f.only_warns
failure_read d f e =
    let severity : Option Bool = only_warns_or_not (member_of (codes "severity") d) in
    let diag = bind_some (diag_from d) (λ x. severity >>= λ w. Some (with_diag x w)) f e in
    let warns = bind_some severity (λ w. Some (with_diag diag.0 w)) f diag.2 in
    severity_read (member_of (codes "severity") d) warns.0 warns.1 ∙ ap (λ (x : Failure). x.only_warns) (some_is (with_diag diag.0 warns.0) f warns.2)

opened : {A : Type 0} (o : Option A) (p : Option A) → option_map (λ (x : A). Some x) o ≡ Some p → (x : A) × (o ≡ Some x) × (p ≡ Some x)
opened None p e = absurd cc
opened (Some x) p e = (x, refl, sym (some_is (Some x) p e))

unfoldable pub warns_of : Option Failure → Bool
warns_of failed = option_map_or (λ f. f.only_warns) failed false

pub failed_read : (o : Option Data) (failed : Option Failure) → failure_or_none o ≡ Some failed
    → warns_of failed ≡ option_map_or (λ d. option_map_or (is_word (codes "warning")) (member_at name.Severity d) false) o false
unfolding warns_of
failed_read None failed e = ap (λ (f : Option Failure). option_map_or (λ x. x.only_warns) f false) (sym (some_is None failed e))
failed_read (Some d) failed e =
    let it = opened (failure_from d) failed e in
    ap (λ (f : Option Failure). option_map_or (λ x. x.only_warns) f false) it.2 ∙ sym (failure_read d it.0 it.1)

by_flag : (w : Bool) (diag : Diag) → is_warned (let r : Ending = if w then Warned diag else Failed diag in r) ≡ w
by_flag true diag = refl
by_flag false diag = refl

ended_by : (id : Option (List ℕ)) (w : Option Diag) (failed : Option Failure) (r : Ending) → ending_from id w failed ≡ Some r → is_warned r ≡ warns_of failed
unfolding warns_of
ended_by id w None r e = ap is_warned (sym (some_is (Done id w) r e))
ended_by None None (Some f) r e = ap is_warned (sym (some_is (ending_by f) r e)) ∙ by_flag f.only_warns f.diag
ended_by None (Some w) (Some f) r e = absurd cc
ended_by (Some id) w (Some f) r e = absurd cc

ending_read : (d : Data) (r : Ending) → ending_of d ≡ Some r → is_warned r ≡ only_warns d
unfolding ending_of
ending_read d r e =
    let warnings : Option (Option Diag) = diag_or_none (member_of (codes "warning") d) in
    let failures : Option (Option Failure) = failure_or_none (member_of (codes "failed") d) in
    let id = bind_some (text_or [] (member_of (codes "id") d)) (λ x. warnings >>= λ y. failures >>= λ z. ending_from (unless_empty x) y z) r e in
    let warning = bind_some warnings (λ y. failures >>= λ z. ending_from (unless_empty id.0) y z) r id.2 in
    let failed = bind_some failures (λ z. ending_from (unless_empty id.0) warning.0 z) r warning.2 in
    ended_by (unless_empty id.0) warning.0 failed.0 r failed.2 ∙ failed_read (member_of (codes "failed") d) failed.0 failed.1

-- ---- what comes of a step

pub by_skip : (t n m : Bool) (o : Option Outcome) → (let x : Option (Option Outcome) = if t || (n || m) then None else Some None in x) ≡ Some o → (o ≡ None) × (n ≡ false) × (m ≡ false)
by_skip true n m o e = absurd cc
by_skip false true m o e = absurd cc
by_skip false false true o e = absurd cc
by_skip false false false o e = (sym (some_is None o e), refl, refl)

silent : (r : Ending) → not (is_bare r) ≡ false → is_warned r ≡ false
silent (Done None None) e = refl
silent (Done None (Some w)) e = absurd cc
silent (Done (Some id) w) e = absurd cc
silent (Failed diag) e = absurd cc
silent (Warned diag) e = absurd cc

pub by_answer : (b : Bool) (x : Outcome) (o : Option Outcome) → option_map (λ (y : Outcome). Some y) (let z : Option Outcome = if b then None else Some x in z) ≡ Some o → o ≡ Some x
by_answer true x o e = absurd cc
by_answer false x o e = sym (some_is (Some x) o e)

outcome_read : (skipped reported : Bool) (s : Option ℕ) (r : Ending) (l : List Provisioner) (o : Option Outcome)
    → (let x : Option (Option Outcome) = if skipped then skipped_with reported r l else answered_with s r l in x) ≡ Some o
    → (passes has_provisioners o ≡ nat_lt 0 (length l)) × (passes run.only_warns o ≡ is_warned r)
outcome_read true reported s r l o e =
    let it = by_skip reported (not (is_bare r)) (nat_lt 0 (length l)) o e in
    (ap (passes has_provisioners) it.0 ∙ sym it.2, ap (passes run.only_warns) it.0 ∙ sym (silent r it.1))
outcome_read false reported None r l o e = absurd cc
outcome_read false reported (Some s) r l o e =
    let it = by_answer ((is_failed r || is_warned r) && nat_lt 0 (length l)) (record { seconds = s; provisioners = l; result = r; after = [] }) o e in
    (ap (passes has_provisioners) it, ap (passes run.only_warns) it)

-- a step that is read of a value
pub record IsReadOf (d : Data) (step : EntryStep) : Type 0 where
  pub some : passes has_provisioners step.outcome ≡ nat_lt 0 (length (items_at name.Provisioners d))
  pub warns : passes run.only_warns step.outcome ≡ only_warns d
  pub waits : each_of wait_from (member_of (codes "after") d) ≡ Some step.after
  pub count : waits_in d ≡ length step.after

abbrev step_of : List WaitName → Option Outcome → EntryStep
step_of after outcome = record { outcome = outcome; after = after }

-- the values that a run reads a step from
pub record IsMadeOf (d : Data) (step : EntryStep) : Type 0 where
  pub skipped : Bool
  pub result : Ending
  pub list : List Provisioner
  pub ending : ending_of d ≡ Some result
  pub provisioners : each_of provisioner_from (member_of (codes "provisioners") d) ≡ Some list
  pub waits : each_of wait_from (member_of (codes "after") d) ≡ Some step.after
  pub outcome : (let o : Option (Option Outcome) =
      if skipped then skipped_with (is_some (member_of (codes "seconds") d)) result list else answered_with (seconds_of d) result list in o) ≡ Some step.outcome

pub made_of : (d : Data) (step : EntryStep) → step_from d ≡ Some step → IsMadeOf d step
unfolding step_from
made_of d step e =
    let reported : Bool = is_some (member_of (codes "seconds") d) in
    let s : Option ℕ = seconds_of d in
    let ending : Option Ending = ending_of d in
    let provisioners : Option (List Provisioner) = each_of provisioner_from (member_of (codes "provisioners") d) in
    let after : Option (List WaitName) = each_of wait_from (member_of (codes "after") d) in
    let skipped = bind_some (flag_or_false (member_of (codes "skipped") d))
    (λ b. ending >>= λ r. provisioners >>= λ l. after >>= λ a. (if b then skipped_with reported r l else answered_with s r l) >>= λ o. Some (step_of a o)) step e in
    let result = bind_some ending (λ r. provisioners >>= λ l. after >>= λ a. (if skipped.0 then skipped_with reported r l else answered_with s r l) >>= λ o. Some (step_of a o)) step skipped.2 in
    let list = bind_some provisioners (λ l. after >>= λ a. (if skipped.0 then skipped_with reported result.0 l else answered_with s result.0 l) >>= λ o. Some (step_of a o)) step result.2 in
    let waits = bind_some after (λ a. (if skipped.0 then skipped_with reported result.0 list.0 else answered_with s result.0 list.0) >>= λ o. Some (step_of a o)) step list.2 in
    let outcome = bind_some (if skipped.0 then skipped_with reported result.0 list.0 else answered_with s result.0 list.0) (λ o. Some (step_of waits.0 o)) step waits.2 in
    let is : step_of waits.0 outcome.0 ≡ step = some_is (step_of waits.0 outcome.0) step outcome.2 in
    record {
      skipped = skipped.0;
      result = result.0;
      list = list.0;
      ending = result.1;
      provisioners = list.1;
      waits = waits.1 ∙ ap (λ (x : EntryStep). Some x.after) is;
      outcome = outcome.1 ∙ ap (λ (x : EntryStep). Some x.outcome) is;
    }

pub step_read : (d : Data) (step : EntryStep) → step_from d ≡ Some step → IsReadOf d step
step_read d step e =
    let it : IsMadeOf d step = made_of d step e in
    let both = outcome_read it.skipped (is_some (member_of (codes "seconds") d)) (seconds_of d) it.result it.list step.outcome it.outcome in
    record {
      some = both.0 ∙ ap (nat_lt 0) (sym (length_read provisioner_from (member_of (codes "provisioners") d) it.list it.provisioners));
      warns = both.1 ∙ ending_read d it.result it.ending;
      waits = it.waits;
      count = length_read wait_from (member_of (codes "after") d) step.after it.waits;
    }

-- ---- the steps of an entry

abbrev pub outcomes : List EntryStep → List (Option Outcome)
outcomes steps = map (λ step. step.outcome) steps

-- the steps of a list, in order
pub more_steps : (d : Data) (ds : List Data) (steps : List EntryStep) → all_some (map step_from (d ∷ ds)) ≡ Some steps
    → (step : EntryStep) × (others : List EntryStep) × (step_from d ≡ Some step) × (all_some (map step_from ds) ≡ Some others) × (step ∷ others ≡ steps)
more_steps d ds steps e =
    let one = bind_some (step_from d) (λ x. all_some (map step_from ds) >>= λ xs. Some (x ∷ xs)) steps e in
    let others = bind_some (all_some (map step_from ds)) (λ xs. Some (one.0 ∷ xs)) steps one.2 in
    (one.0, others.0, one.1, others.1, some_is (one.0 ∷ others.0) steps others.2)

pub waits_read : (ds : List Data) (steps : List EntryStep) → all_some (map step_from ds) ≡ Some steps → sum_by waits_in ds ≡ count_of_waits steps
waits_read [] steps e = ap count_of_waits (some_is [] steps e)
waits_read (d ∷ ds) steps e =
    let it = more_steps d ds steps e in
    let read = step_read d it.0 it.2 in
    sum_by-cons waits_in d ds
    ∙ ap (λ (n : ℕ). n + sum_by waits_in ds) read.count
    ∙ ap (λ (n : ℕ). length it.0.after + n) (waits_read ds it.1 it.3)
    ∙ sym (sum_by-cons (λ (step : EntryStep). length step.after) it.0 it.1)
    ∙ ap count_of_waits it.4

pub at_drop : (n : ℕ) (all : List StepKind) (kind : StepKind) (kinds : List StepKind) → drop n all ≡ kind ∷ kinds → (slice_get all n ≡ Some kind) × (drop (suc n) all ≡ kinds)
at_drop zero all kind kinds e = (ap (λ (ks : List StepKind). slice_get ks 0) e, ap (λ (ks : List StepKind). drop (suc zero) ks) e)
at_drop (suc n) [] kind kinds e = absurd cc
at_drop (suc n) (k ∷ all) kind kinds e = at_drop n all kind kinds e

tests_of : (m w more_m more_w : Bool) → ((not m && (not w && true)) && (not more_m && not more_w)) ≡ (not (m || more_m) && not (w || more_w))
tests_of true w more_m more_w = refl
tests_of false true more_m more_w = sym (and_false (not more_m))
tests_of false false more_m more_w = refl

one_kind : (kind : StepKind) (deposed : Bool) (n : ℕ) (outcome : Option Outcome) (some warns : Bool) → passes has_provisioners outcome ≡ some → passes run.only_warns outcome ≡ warns
    → kind_fits (Some kind) deposed n some warns ≡ (not (misplaces_provisioners deposed ((n, kind), outcome)) && (not (warns_not_a_read ((n, kind), outcome)) && true))
one_kind kind deposed n outcome some warns e f = rw (sym e, sym f) refl

no_steps : (deposed : Bool) (n : ℕ) (kinds : List StepKind)
    → true ≡ (not (list_any (misplaces_provisioners deposed) (zip (enumerate_from n kinds) [])) && not (list_any warns_not_a_read (zip (enumerate_from n kinds) [])))
no_steps deposed n [] = refl
no_steps deposed n (kind ∷ kinds) = refl

pub kinds_read : (change : ResourceChange) (n : ℕ) (kinds : List StepKind) (ds : List Data) (steps : List EntryStep) → drop n change.steps ≡ kinds
    → all_some (map step_from ds) ≡ Some steps → length steps ≤ length kinds
    → all_from (fits_kind (Some change)) n ds
    ≡ (not (list_any (misplaces_provisioners (is_some change.deposed)) (zip (enumerate_from n kinds) (outcomes steps)))
    && not (list_any warns_not_a_read (zip (enumerate_from n kinds) (outcomes steps))))
kinds_read change n kinds [] steps are e few =
    no_steps (is_some change.deposed) n kinds
    ∙ ap (λ (os : List EntryStep). not (list_any (misplaces_provisioners (is_some change.deposed)) (zip (enumerate_from n kinds) (outcomes os)))
    && not (list_any warns_not_a_read (zip (enumerate_from n kinds) (outcomes os)))) (some_is [] steps e)
kinds_read change n [] (d ∷ ds) steps are e few =
    let it = more_steps d ds steps e in
    absurd (let long : length (it.0 ∷ it.1) ≤ 0 = subst (λ (xs : List EntryStep). length xs ≤ 0) (sym it.4) few in omega arith)
kinds_read change n (kind ∷ kinds) (d ∷ ds) steps are e few =
    let it = more_steps d ds steps e in
    let read = step_read d it.0 it.2 in
    let at = at_drop n change.steps kind kinds are in
    let deposed : Bool = is_some change.deposed in
    let shorter : length it.1 ≤ length kinds =
    (let long : length (it.0 ∷ it.1) ≤ length (kind ∷ kinds) = subst (λ (xs : List EntryStep). length xs ≤ length (kind ∷ kinds)) (sym it.4) few in omega arith) in
    ap (λ (o : Option StepKind). kind_fits o deposed n (nat_lt 0 (length (items_at name.Provisioners d))) (only_warns d) && all_from (fits_kind (Some change)) (suc n) ds) at.0
    ∙ ap (λ (b : Bool). b && all_from (fits_kind (Some change)) (suc n) ds) (one_kind kind deposed n it.0.outcome _ _ read.some read.warns)
    ∙ ap (λ (b : Bool). (not (misplaces_provisioners deposed ((n, kind), it.0.outcome)) && (not (warns_not_a_read ((n, kind), it.0.outcome)) && true)) && b)
    (ap (λ (m : ℕ). all_from (fits_kind (Some change)) m ds) (let q : suc n ≡ n + 1 = omega arith in q) ∙ kinds_read change (n + 1) kinds ds it.1 (rw (add-one n) at.1) it.3 shorter)
    ∙ tests_of (misplaces_provisioners deposed ((n, kind), it.0.outcome)) (warns_not_a_read ((n, kind), it.0.outcome)) _ _
    ∙ ap (λ (os : List EntryStep). not (list_any (misplaces_provisioners deposed) (zip (enumerate_from n (kind ∷ kinds)) (outcomes os)))
    && not (list_any warns_not_a_read (zip (enumerate_from n (kind ∷ kinds)) (outcomes os)))) it.4

-- ---- what they wait for

number_read : (o : Option Data) (n : Option ℕ) → number_or_none o ≡ Some n → option_and_then as_u64 (option_and_then as_number o) ≡ n
number_read None n e = some_is None n e
number_read (Some d) n e =
    let it = opened (as_number d >>= as_u64) n e in
    and_then_is as_u64 (as_number d) ∙ it.1 ∙ sym it.2

abbrev wait_of : List ℕ → List ℕ → Option ℕ → WaitName
wait_of address deposed step = record { address = address; deposed = unless_empty deposed; step = step }

-- a name that a run reads
pub named_by : (address deposed : Option (List ℕ)) (x y : List ℕ) → address ≡ Some x → deposed ≡ Some y
    → (address >>= λ u. deposed >>= λ v. Some (named u (unless_empty v))) ≡ Some (named x (unless_empty y))
named_by address deposed x y e f = rw (e, f) refl

-- what an item that is read names
pub record Names (d : Data) (w : WaitName) : Type 0 where
  pub object : object_named d ≡ Some (named w.address w.deposed)
  pub step : whole_at name.Step d ≡ w.step

pub wait_read : (d : Data) (w : WaitName) → wait_from d ≡ Some w → Names d w
unfolding wait_of_members
wait_read null w e = absurd cc
wait_read (boolean b) w e = absurd cc
wait_read (number n) w e = absurd cc
wait_read (array ds) w e = absurd cc
wait_read (string s) w e =
    let is : (let x : WaitName = record { address = s; deposed = None; step = None } in x) ≡ w = some_is _ w e in
    record {
      object = ap (λ (x : WaitName). Some (named x.address x.deposed)) is;
      step = ap (λ (x : WaitName). x.step) is;
    }
wait_read (object ms) w e =
    let d : Data = object ms in
    let deposed : Option (List ℕ) = text_or [] (member_of (codes "deposed") d) in
    let steps : Option (Option ℕ) = number_or_none (member_of (codes "step") d) in
    let a = bind_some (text_of (codes "address") d) (λ x. deposed >>= λ y. steps >>= λ z. Some (wait_of x y z)) w e in
    let k = bind_some deposed (λ y. steps >>= λ z. Some (wait_of a.0 y z)) w a.2 in
    let n = bind_some steps (λ z. Some (wait_of a.0 k.0 z)) w k.2 in
    let is : wait_of a.0 k.0 n.0 ≡ w = some_is (wait_of a.0 k.0 n.0) w n.2 in
    record {
      object = named_by (text_of (codes "address") d) deposed a.0 k.0 a.1 k.1 ∙ ap (λ (x : WaitName). Some (named x.address x.deposed)) is;
      step = number_read (member_of (codes "step") d) n.0 n.1 ∙ ap (λ (x : WaitName). x.step) is;
    }

by_planned : (b : Bool) (n : ℕ) (change : ResourceChange) (o : Option ResourceChange) (p : Option (ℕ × ResourceChange)) → o ≡ option_map (λ q. q.1) p
    → cond b (Some change) o ≡ option_map (λ q. q.1) (cond b (Some (n, change)) p)
by_planned true n change o p e = refl
by_planned false n change o p e = e

-- a lookup gives the change with its number or without it
pub findings_with : (test : ResourceChange → Bool) (n : ℕ) (changes : List ResourceChange) → find test changes ≡ option_map (λ p. p.1) (find (λ p. test p.1) (enumerate_from n changes))
findings_with test n [] = refl
findings_with test n (change ∷ changes) = by_planned (test change) n change _ _ (findings_with test (n + 1) changes)

abbrev pub held : WaitName → ResourceChange → Bool
held w change = name_one_object change.address change.deposed w.address w.deposed

pub none_with : (o : Option (ℕ × ResourceChange)) → is_none (option_map (λ p. p.1) o) ≡ is_none o
none_with None = refl
none_with (Some p) = refl

pub lacks_with : (step : Option ℕ) (o : Option (ℕ × ResourceChange))
    → option_map_or (λ change. option_map_or (nat_le (length change.steps)) step false) (option_map (λ p. p.1) o) false
    ≡ option_map_or (λ p. option_map_or (λ number. nat_le (length p.1.steps) number) step false) o false
lacks_with step None = refl
lacks_with step (Some p) = refl

one_wait : (changes : List ResourceChange) (d : Data) (w : WaitName) → Names d w
    → has_change_and_step (Some changes) d ≡ (not (run.is_unknown changes w) && not (run.lacks_step changes w))
one_wait changes d w names =
    let findings : change_named changes (named w.address w.deposed) ≡ option_map (λ p. p.1) (change_waited changes w) = findings_with (held w) 0 changes in
    let unknown : is_unknown (Some changes) (object_named d) ≡ run.is_unknown changes w =
    ap (λ (o : Option Named). is_unknown (Some changes) o) names.object ∙ ap is_none findings ∙ none_with (change_waited changes w) in
    let lacking : lacks_step (Some changes) d ≡ run.lacks_step changes w =
    ap (λ (o : Option Named). option_map_or (λ change. option_map_or (nat_le (length change.steps)) (whole_at name.Step d) false) (change_by (Some changes) o) false) names.object
    ∙ ap (λ (n : Option ℕ). option_map_or (λ change. option_map_or (nat_le (length change.steps)) n false) (change_named changes (named w.address w.deposed)) false) names.step
    ∙ ap (λ (o : Option ResourceChange). option_map_or (λ change. option_map_or (nat_le (length change.steps)) w.step false) o false) findings
    ∙ lacks_with w.step (change_waited changes w) in
    rw (unknown, lacking) refl

pairs : (u l us ls : Bool) → ((not u && not l) && (not us && not ls)) ≡ (not (u || us) && not (l || ls))
pairs true l us ls = refl
pairs false true us ls = sym (and_false (not us))
pairs false false us ls = refl

waits_list : (changes : List ResourceChange) (ds : List Data) (ws : List WaitName) → all_some (map wait_from ds) ≡ Some ws
    → list_all (has_change_and_step (Some changes)) ds ≡ (not (list_any (run.is_unknown changes) ws) && not (list_any (run.lacks_step changes) ws))
waits_list changes [] ws e = ap (λ (xs : List WaitName). not (list_any (run.is_unknown changes) xs) && not (list_any (run.lacks_step changes) xs)) (some_is [] ws e)
waits_list changes (d ∷ ds) ws e =
    let one = bind_some (wait_from d) (λ x. all_some (map wait_from ds) >>= λ xs. Some (x ∷ xs)) ws e in
    let others = bind_some (all_some (map wait_from ds)) (λ xs. Some (one.0 ∷ xs)) ws one.2 in
    ap (λ (b : Bool). b && list_all (has_change_and_step (Some changes)) ds) (one_wait changes d one.0 (wait_read d one.0 one.1))
    ∙ ap (λ (b : Bool). (not (run.is_unknown changes one.0) && not (run.lacks_step changes one.0)) && b) (waits_list changes ds others.0 others.1)
    ∙ pairs (run.is_unknown changes one.0) (run.lacks_step changes one.0) (list_any (run.is_unknown changes) others.0) (list_any (run.lacks_step changes) others.0)
    ∙ ap (λ (xs : List WaitName). not (list_any (run.is_unknown changes) xs) && not (list_any (run.lacks_step changes) xs)) (some_is (one.0 ∷ others.0) ws others.2)

waits_of_step : (changes : List ResourceChange) (o : Option Data) (ws : List WaitName) → each_of wait_from o ≡ Some ws
    → is_absent_or (all_items (has_change_and_step (Some changes))) o ≡ (not (list_any (run.is_unknown changes) ws) && not (list_any (run.lacks_step changes) ws))
waits_of_step changes None ws e = waits_list changes [] ws e
waits_of_step changes (Some null) ws e = absurd cc
waits_of_step changes (Some (boolean b)) ws e = absurd cc
waits_of_step changes (Some (number n)) ws e = absurd cc
waits_of_step changes (Some (string s)) ws e = absurd cc
waits_of_step changes (Some (array ds)) ws e = waits_list changes (list_of ds) ws e
waits_of_step changes (Some (object ms)) ws e = absurd cc

pub waits_known : (changes : List ResourceChange) (ds : List Data) (steps : List EntryStep) → all_some (map step_from ds) ≡ Some steps
    → list_all (waits_fit (Some changes)) ds ≡ (not (is_any_wait (run.is_unknown changes) steps) && not (is_any_wait (run.lacks_step changes) steps))
waits_known changes [] steps e = ap (λ (xs : List EntryStep). not (is_any_wait (run.is_unknown changes) xs) && not (is_any_wait (run.lacks_step changes) xs)) (some_is [] steps e)
waits_known changes (d ∷ ds) steps e =
    let it = more_steps d ds steps e in
    ap (λ (b : Bool). b && list_all (waits_fit (Some changes)) ds) (waits_of_step changes (member_of (codes "after") d) it.0.after (step_read d it.0 it.2).waits)
    ∙ ap (λ (b : Bool). (not (list_any (run.is_unknown changes) it.0.after) && not (list_any (run.lacks_step changes) it.0.after)) && b) (waits_known changes ds it.1 it.3)
    ∙ pairs (list_any (run.is_unknown changes) it.0.after) (list_any (run.lacks_step changes) it.0.after) (is_any_wait (run.is_unknown changes) it.1) (is_any_wait (run.lacks_step changes) it.1)
    ∙ ap (λ (xs : List EntryStep). not (is_any_wait (run.is_unknown changes) xs) && not (is_any_wait (run.lacks_step changes) xs)) it.4
