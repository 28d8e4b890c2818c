-- If a step that a run reads is beyond a limit, the step has that error.
use Rattle.std.proofs.Common.{◌≡◌, ℕ, ◌+◌, List, [], ◌∷◌, length, Bool, true, false, not, ◌&&◌, ◌||◌, is_some, Option, Some, None, if◌then◌else◌, refl, sym, ap, ◌∙◌}
use Rattle.std.specs.Prelude.{codes, nat_lt}
use Rattle.std.specs.List.{list_any, sum_by}
use Rattle.serde_json.specs.Data.{Data}
use Rattle.serde_json.specs.Find.{as_object}
use Rattle.apply_json.specs.Tree.{member_of, non_empty_text_of}
use Rattle.apply_model.specs.declared.script.ending.Ending.{Ending}
use Rattle.apply_model.specs.declared.script.outcome.Outcome.{Outcome}
use Rattle.apply_model.specs.declared.script.provisioner.Provisioner.{Provisioner}
use Rattle.apply_model.specs.Plan.ResourceChange.{ResourceChange}
use Rattle.apply_model.specs.Script.Limits.{max_outputs, max_provisioners, max_seconds}
use Rattle.apply_model.specs.Script.Outcome.{has_too_many_provisioners, has_too_much_output, is_failed, is_too_long, is_warned, puts_out_too_much}
use Rattle.apply_plan.specs.declared.script.script_error.ScriptError.TheVariants.{SecondsRange, TooManyProvisioners, TooMuchOutput}
use Rattle.apply_plan.specs.Script.Entry.{EntryStep, answered_with, each_of, provisioner_from, is_bare, seconds_of, skipped_with, step_from}
use Rattle.apply_plan.specs.Script.Refusals.{passes}
use Rattle.input_validate.specs.declared.findings.finding.Finding.{Finding}
use Rattle.input_validate.specs.declared.findings.name.Name.TheVariants as name
use Rattle.input_validate.specs.declared.findings.path.Segment.TheVariants.{Item, Member}
use Rattle.input_validate.specs.declared.findings.expected.Expected.TheVariants as expected
use Rattle.input_validate.specs.declared.findings.problem.Problem.TheVariants as problem
use Rattle.input_validate.specs.declared.rules.violation.Violation.{Violation}
use Rattle.input_validate.specs.Names.{name_text}
use Rattle.input_validate.specs.ScriptFindings.{with_failed, in_diagnostic, in_provisioner, in_step, provisioner_violation, provisioner_names, provisioner_table, seconds_in, seconds_in_all, step_violations}
use Rattle.input_validate.specs.Rules.{fault_of, faults_of, in_items, in_list, inside, items_at, rule, violation_findings, member_at, place_of, unless_suits, ignored}
use Rattle.laws_validate.proofs.Alike.{Alike, object_alike}
use Rattle.laws_validate.proofs.AnyFinding.{any_part, any_right, below, suited}
use Rattle.laws_validate.proofs.Joined.{joined}
use Rattle.laws_validate.proofs.ViolationPlaces.{holding}
use Rattle.laws_validate.proofs.Members.{count_same, seconds_same, sum_same}
use Rattle.laws_validate.proofs.Provisioners.{all_seconds_read, length_read, seconds_read, texts_read, each_list, provisioner_read}
use Rattle.laws_validate.proofs.AcceptedSteps.{IsMadeOf, by_answer, by_skip, made_of}
use Rattle.laws_validate.proofs.Wanted.{object_there}
use Rattle.laws_validate.proofs.ScriptSteps.{each_any, inside_any, violations_reported, next_violation, pairs_at, provisioners_reported, step_reported, this_violation}

some_is : {A : Type 0} (x y : A) → Some x ≡ Some y → x ≡ y
some_is x y e = cc

-- ---- a step that is read

answered : (skipped reported : Bool) (s : Option ℕ) (r : Ending) (l : List Provisioner) (x : Outcome)
    → (let o : Option (Option Outcome) = if skipped then skipped_with reported r l else answered_with s r l in o) ≡ Some (Some x)
    → (s ≡ Some x.seconds) × (l ≡ x.provisioners)
answered true reported s r l x e = absurd (let it = by_skip reported (not (is_bare r)) (nat_lt 0 (length l)) (Some x) e in let never : Some x ≡ None = it.0 in cc)
answered false reported None r l x e = absurd cc
answered false reported (Some s) r l x e =
    let made : Outcome = record { seconds = s; provisioners = l; result = r; after = [] } in
    let same : x ≡ made = some_is x made (by_answer ((is_failed r || is_warned r) && nat_lt 0 (length l)) made (Some x) e) in
    (ap (λ (y : Outcome). Some y.seconds) (sym same), ap (λ (y : Outcome). y.provisioners) (sym same))

-- what a run reads of a step that has an outcome
outcome_of : (d : Data) (step : EntryStep) (x : Outcome) → step_from d ≡ Some step → step.outcome ≡ Some x
    → (seconds_of d ≡ Some x.seconds) × (each_of provisioner_from (member_of (codes "provisioners") d) ≡ Some x.provisioners)
outcome_of d step x e there =
    let it : IsMadeOf d step = made_of d step e in
    let both = answered it.skipped (is_some (member_of (codes "seconds") d)) (seconds_of d) it.result it.list x
    (it.outcome ∙ ap (λ (o : Option Outcome). Some o) there) in
    (both.0, it.provisioners ∙ ap (λ (l : List Provisioner). Some l) both.1)

long_read : (k : Data) (step : EntryStep) → step_from k ≡ Some step → passes is_too_long step.outcome ≡ true → nat_lt max_seconds (seconds_in_all k) ≡ true
long_read k step e long =
    let it = holding is_too_long step.outcome long in
    let read = outcome_of k step it.0 e it.1 in
    ap (λ (n : ℕ). nat_lt max_seconds (n + sum_by seconds_in (items_at name.Provisioners k))) (seconds_read k it.0.seconds read.0)
    ∙ ap (λ (n : ℕ). nat_lt max_seconds (it.0.seconds + n)) (all_seconds_read (member_of (codes "provisioners") k) it.0.provisioners read.1)
    ∙ it.2

many_read : (k : Data) (step : EntryStep) → step_from k ≡ Some step → passes has_too_many_provisioners step.outcome ≡ true
    → nat_lt max_provisioners (length (items_at name.Provisioners k)) ≡ true
many_read k step e many =
    let it = holding has_too_many_provisioners step.outcome many in
    let read = outcome_of k step it.0 e it.1 in
    ap (nat_lt max_provisioners) (length_read provisioner_from (member_of (codes "provisioners") k) it.0.provisioners read.1) ∙ it.2

-- ---- limits

abbrev too_long : Data → Violation
too_long d = record { holds = nat_lt max_seconds (seconds_in_all d); at = None; problem = problem.TooLong }

abbrev too_many : Data → Violation
too_many d = record { holds = nat_lt max_provisioners (length (items_at name.Provisioners d)); at = Some name.Provisioners; problem = problem.TooManyProvisioners }

abbrev failed_with_id : Data → Violation
failed_with_id d = with_failed name.Id (is_some (non_empty_text_of (name_text name.Id) d)) d

abbrev failed_with_warning : Data → Violation
failed_with_warning d = with_failed name.Warning (is_some (member_at name.Warning d)) d

abbrev failed_with_provisioners : Data → Violation
failed_with_provisioners d = with_failed name.Provisioners (nat_lt 0 (length (items_at name.Provisioners d))) d

limit_reported : (p : Finding → Bool) (d : Data) → list_any p (violation_findings (too_long d ∷ too_many d ∷ [])) ≡ true → list_any p (violation_findings (step_violations d)) ≡ true
limit_reported p d is =
    next_violation p (failed_with_id d) (failed_with_warning d ∷ failed_with_provisioners d ∷ too_long d ∷ too_many d ∷ [])
    (next_violation p (failed_with_warning d) (failed_with_provisioners d ∷ too_long d ∷ too_many d ∷ [])
    (next_violation p (failed_with_provisioners d) (too_long d ∷ too_many d ∷ []) is))

module _ (m : ℕ) (changes : Option (List ResourceChange)) (change : Option ResourceChange) where
  pub long_reported : (n : ℕ) (d k : Data) (step : EntryStep) → Alike d k → step_from k ≡ Some step → passes is_too_long step.outcome ≡ true
      → list_any (step_reported (SecondsRange m) n) (in_step changes change n d) ≡ true
  long_reported n d k step alike read long =
      let p : Finding → Bool = step_reported (SecondsRange m) n in
      let accepted : seconds_in_all d ≡ seconds_in_all k =
      ap (λ (s : ℕ). s + sum_by seconds_in (items_at name.Provisioners d)) (seconds_same d k alike)
      ∙ ap (λ (s : ℕ). seconds_in k + s) (sum_same seconds_in seconds_same name.Provisioners refl d k alike) in
      violations_reported changes change n p d k alike step read
      (limit_reported p d (this_violation p (too_long d) (too_many d ∷ []) (ap (nat_lt max_seconds) accepted ∙ long_read k step read long) refl))

  pub many_reported : (n : ℕ) (d k : Data) (step : EntryStep) → Alike d k → step_from k ≡ Some step → passes has_too_many_provisioners step.outcome ≡ true
      → list_any (step_reported (TooManyProvisioners m) n) (in_step changes change n d) ≡ true
  many_reported n d k step alike read many =
      let p : Finding → Bool = step_reported (TooManyProvisioners m) n in
      let holds : nat_lt max_provisioners (length (items_at name.Provisioners d)) ≡ true =
      ap (nat_lt max_provisioners) (count_same name.Provisioners refl d k alike) ∙ many_read k step read many in
      violations_reported changes change n p d k alike step read
      (limit_reported p d (next_violation p (too_long d) (too_many d ∷ []) (this_violation p (too_many d) [] holds refl)))

-- ---- what provisioners put out

provisioner_object : (k : Data) (x : Provisioner) → provisioner_from k ≡ Some x → is_some (as_object k) ≡ true
unfolding provisioner_from
provisioner_object k x e =
    object_there (λ it. is_some (provisioner_from it)) refl (λ b. refl) (λ n. refl) (λ s. refl) (λ ds. refl) k (ap (λ (o : Option Provisioner). is_some o) e)

output_of : (d : Data) (x : Provisioner) → provisioner_from d ≡ Some x → length (items_at name.Output d) ≡ length x.output
output_of d x e = texts_read x.seconds (member_of (codes "output") d) x.output (provisioner_read d x e).1

texts_reported : (p : Finding → Bool) (d k : Data) (x : Provisioner) → p (place_of (Some name.Output) problem.TooManyTexts) ≡ true → Alike d k
    → provisioner_from k ≡ Some x → puts_out_too_much x ≡ true
    → list_any p (in_provisioner d) ≡ true
unfolding in_provisioner
texts_reported p d k x reported alike read much =
    let first : List Finding = faults_of provisioner_table d in
    let parts : List (List Finding) =
    in_list (λ number. unless_suits expected.Output) (rule name.Output expected.ArrayOrAbsent) d ∷ violation_findings (provisioner_violation d ∷ []) ∷ inside in_diagnostic name.Failed d
    ∷ ignored provisioner_names d ∷ [] in
    suited p expected.Provisioner d (joined first parts) (object_alike d k alike ∙ provisioner_object k x read)
    (any_part p first parts 1 (violation_findings (provisioner_violation d ∷ [])) refl
    (this_violation p (provisioner_violation d) [] (ap (nat_lt max_outputs) (count_same name.Output refl d k alike ∙ output_of k x read) ∙ much) reported))

pub much_reported : (m : ℕ) (changes : Option (List ResourceChange)) (change : Option ResourceChange) (n : ℕ) (d k : Data) (step : EntryStep) → Alike d k
    → step_from k ≡ Some step
    → passes has_too_much_output step.outcome ≡ true → list_any (step_reported (TooMuchOutput m) n) (in_step changes change n d) ≡ true
much_reported m changes change n d k step alike read much =
    let p : Finding → Bool = step_reported (TooMuchOutput m) n in
    let it = holding has_too_much_output step.outcome much in
    let items = outcome_of k step it.0 read it.1 in
    provisioners_reported changes change n p d k alike step read
    (any_right p (fault_of d (rule name.Provisioners expected.ArrayOrAbsent)) (inside (in_items (λ number. in_provisioner)) name.Provisioners d)
    (inside_any p (λ number. in_provisioner) name.Provisioners d
    (each_any Provisioner provisioner_from puts_out_too_much (below (Member name.Provisioners) p) (λ number. in_provisioner)
    (λ i e l x same is too_much. texts_reported (below (Item i) (below (Member name.Provisioners) p)) e l x refl same is too_much) 0
    (items_at name.Provisioners d) (items_at name.Provisioners k) (pairs_at name.Provisioners refl d k alike) it.0.provisioners
    (each_list provisioner_from (member_of (codes "provisioners") k) it.0.provisioners items.1) it.2)))
