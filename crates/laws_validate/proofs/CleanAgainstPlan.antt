-- Comparing a script with a plan gives no error if and only if some tests of the tree that a run
-- reads hold.
use Rattle.std.proofs.Common.{◌≡◌, ℕ, suc, ◌+◌, ◌-◌, ◌≤◌, List, [], ◌∷◌, length, map, Bool, true, false, not, ◌&&◌, Option, Some, None, if◌then◌else◌, refl, sym, ap, ◌∙◌, arith}
use Rattle.std.specs.Prelude.{codes, is_none, nat_lt, nat_le}
use Rattle.std.specs.List.{sum_by}
use Rattle.std.specs.Option.{option_and_then, option_map_or}
use Rattle.std.specs.Str.{bytes_eq}
use Rattle.std.proofs.lemmas.Bool.Decides.{nat_tests}
use Rattle.std.proofs.lemmas.List.Sums.{sum_by-cons}
use Rattle.serde_json.specs.Data.{Data}
use Rattle.serde_json.specs.Find.{as_str}
use Rattle.apply_json.specs.Tree.{◌>>=◌, is_word, member_of, text_of, text_or, unless_empty}
use Rattle.apply_model.specs.declared.plan.step_kind.StepKind.{StepKind}
use Rattle.apply_model.specs.declared.plan.step_kind.StepKind.TheVariants.{Read}
use Rattle.apply_model.specs.Plan.ResourceChange.{ResourceChange}
use Rattle.apply_model.specs.Plan.StepKind.{is_kind}
use Rattle.apply_plan.specs.Script.Refusals.{takes_provisioners}
use Rattle.input_validate.specs.declared.findings.finding.Finding.{Finding}
use Rattle.input_validate.specs.declared.findings.name.Name.TheVariants as name
use Rattle.input_validate.specs.declared.findings.path.Segment.TheVariants.{Item, Member}
use Rattle.input_validate.specs.declared.findings.problem.Problem.TheVariants as problem
use Rattle.input_validate.specs.declared.rules.violation.Violation.{Violation}
use Rattle.input_validate.specs.AgainstPlan.{beyond_at, beyond_in, change_at, change_named, has_address, is_deposed, kind_violations, kind_of, object_named, only_warns, missing_step_violation, step_count_violation, unknown_violation, unknown_violations, waits_beyond, waits_in, waits_in_all}
use Rattle.input_validate.specs.Findings.{finding_here, is_refusal_of, under}
use Rattle.input_validate.specs.ObjectNames.{Named}
use Rattle.input_validate.specs.PlanFindings.{name_read}
use Rattle.input_validate.specs.ScriptFindings.{whole_at}
use Rattle.input_validate.specs.Rules.{items_at, violation_findings, member_at}
use Rattle.laws_validate.proofs.Alike.{Alike, AreAlike, as_str_alike, member_alike}
use Rattle.laws_validate.proofs.Clean.{clean, clean-violation_findings, clean-under}
use Rattle.laws_validate.proofs.Elements.{named}
use Rattle.laws_validate.proofs.Members.{count_same, sum_same, text_or_same, text_same, whole_same}
use Rattle.input_validate.proofs.Options.{and_true}

-- one test
pub clean_violation : (violation : Violation) → is_refusal_of violation.problem ≡ true → clean (violation_findings (violation ∷ [])) ≡ not violation.holds
clean_violation violation is = clean-violation_findings (violation ∷ []) (ap (λ (b : Bool). b && true) is) ∙ and_true (not violation.holds)

-- ---- objects

-- no change is of the object
abbrev pub is_unknown : Option (List ResourceChange) → Option Named → Bool
is_unknown changes object = option_map_or (λ all. option_map_or (λ nm. is_none (change_named all nm)) object false) changes false

picked_refuses : (b : Bool) → is_refusal_of (if b then problem.UnknownObject else problem.UnknownAddress) ≡ true
picked_refuses true = refl
picked_refuses false = refl

one_unknown : (all : List ResourceChange) (d : Data) (o : Option Named)
    → clean (violation_findings (option_map_or (λ nm. unknown_violation all d nm ∷ []) o [])) ≡ not (option_map_or (λ nm. is_none (change_named all nm)) o false)
one_unknown all d None = refl
one_unknown all d (Some nm) = clean_violation (unknown_violation all d nm) (picked_refuses (has_address all nm.0))

pub clean_unknown : (changes : Option (List ResourceChange)) (d : Data) → clean (violation_findings (unknown_violations changes d)) ≡ not (is_unknown changes (object_named d))
clean_unknown None d = refl
clean_unknown (Some all) d = one_unknown all d (object_named d)

-- the change of an object
abbrev pub change_by : Option (List ResourceChange) → Option Named → Option ResourceChange
change_by changes object = option_and_then (λ all. option_and_then (change_named all) object) changes

abbrev read_name : Option (List ℕ) → Option (List ℕ) → Option Named
read_name address deposed = address >>= λ x. deposed >>= λ y. Some (named x (unless_empty y))

pub name_same : (d k : Data) → Alike d k → name_read d ≡ name_read k
name_same d k a =
    ap (λ (o : Option (List ℕ)). read_name o (text_or [] (member_of (codes "deposed") d))) (text_same (codes "address") refl d k a)
    ∙ ap (read_name (text_of (codes "address") k)) (text_or_same (codes "deposed") refl d k a)

abbrev object_by : Option (List ℕ) → Option Named → Option Named
object_by text read = option_map_or (λ address. Some (named address None)) text read

pub object_same : (d k : Data) → Alike d k → object_named d ≡ object_named k
object_same d k a =
    ap (λ (o : Option (List ℕ)). object_by o (name_read d)) (as_str_alike d k a) ∙ ap (object_by (as_str k)) (name_same d k a)

pub change_same : (changes : Option (List ResourceChange)) (d k : Data) → Alike d k → change_at changes d ≡ change_at changes k
change_same changes d k a = ap (change_by changes) (object_same d k a)

pub unknown_same : (changes : Option (List ResourceChange)) (d k : Data) → Alike d k → clean (violation_findings (unknown_violations changes d)) ≡ not (is_unknown changes (object_named k))
unknown_same changes d k a = clean_unknown changes d ∙ ap (λ (o : Option Named). not (is_unknown changes o)) (object_same d k a)

-- ---- items of `after`

-- an item names a step that its change does not have
abbrev pub lacks_step : Option (List ResourceChange) → Data → Bool
lacks_step changes d = (missing_step_violation (change_at changes d) (whole_at name.Step d)).holds

-- its change and its step are there
abbrev pub has_change_and_step : Option (List ResourceChange) → Data → Bool
has_change_and_step changes d = not (is_unknown changes (object_named d)) && not (lacks_step changes d)

abbrev lacks : Option ResourceChange → Option ℕ → Bool
lacks change step = option_map_or (λ findings. option_map_or (nat_le (length findings.steps)) step false) change false

pub lacks_same : (changes : Option (List ResourceChange)) (d k : Data) → Alike d k → clean (violation_findings (missing_step_violation (change_at changes d) (whole_at name.Step d) ∷ [])) ≡ not (lacks_step changes k)
lacks_same changes d k a =
    clean_violation (missing_step_violation (change_at changes d) (whole_at name.Step d)) refl
    ∙ ap (λ (o : Option ResourceChange). not (lacks o (whole_at name.Step d))) (change_same changes d k a)
    ∙ ap (λ (n : Option ℕ). not (lacks (change_at changes k) n)) (whole_same (codes "step") refl d k a)

pub no_step : (change : Option ResourceChange) → lacks change None ≡ false
no_step None = refl
no_step (Some findings) = refl

-- ---- steps

-- a step of this kind may have the members that it has
abbrev pub kind_fits : Option StepKind → (deposed : Bool) → ℕ → (some warns : Bool) → Bool
kind_fits kind deposed number some warns =
    not (option_map_or (λ it. some && not (takes_provisioners deposed (number, it))) kind false)
    && (not (option_map_or (λ it. warns && not (is_kind Read it)) kind false) && true)

abbrev pub fits_kind : Option ResourceChange → ℕ → Data → Bool
fits_kind change number d =
    kind_fits (kind_of change number) (is_deposed change) number (nat_lt 0 (length (items_at name.Provisioners d))) (only_warns d)

word_same : (word : List ℕ) (o p : Option Data) → AreAlike o p → option_map_or (is_word word) o false ≡ option_map_or (is_word word) p false
word_same word None p a = rw a refl
word_same word (Some d) p a = rw (a.1) (ap (λ (text : Option (List ℕ)). option_map_or (λ t. bytes_eq t word) text false) (as_str_alike d a.0 a.2))

warns_by : (o p : Option Data) → AreAlike o p
    → option_map_or (λ failed. option_map_or (is_word (codes "warning")) (member_at name.Severity failed) false) o false
    ≡ option_map_or (λ failed. option_map_or (is_word (codes "warning")) (member_at name.Severity failed) false) p false
warns_by None p a = rw a refl
warns_by (Some d) p a =
    rw (a.1) (word_same (codes "warning") (member_at name.Severity d) (member_at name.Severity a.0) (member_alike (codes "severity") refl d a.0 a.2))

pub warns_same : (d k : Data) → Alike d k → only_warns d ≡ only_warns k
warns_same d k a = warns_by (member_at name.Failed d) (member_at name.Failed k) (member_alike (codes "failed") refl d k a)

pub kind_same : (change : Option ResourceChange) (number : ℕ) (d k : Data) → Alike d k → clean (violation_findings (kind_violations change number d)) ≡ fits_kind change number k
kind_same change number d k a =
    clean-violation_findings (kind_violations change number d) refl
    ∙ ap (λ (n : ℕ). kind_fits (kind_of change number) (is_deposed change) number (nat_lt 0 n) (only_warns d)) (count_same name.Provisioners refl d k a)
    ∙ ap (kind_fits (kind_of change number) (is_deposed change) number (nat_lt 0 (length (items_at name.Provisioners k)))) (warns_same d k a)

-- ---- entries

abbrev pub too_many : Option ResourceChange → ℕ → Bool
too_many change count = option_map_or (λ findings. nat_lt (length findings.steps) count) change false

pub steps_same : (change : Option ResourceChange) (d k : Data) → Alike d k → clean (violation_findings (step_count_violation change d ∷ [])) ≡ not (too_many change (length (items_at name.Steps k)))
steps_same change d k a =
    clean_violation (step_count_violation change d) refl ∙ ap (λ (n : ℕ). not (too_many change n)) (count_same name.Steps refl d k a)

pub waits_same : (d k : Data) → Alike d k → waits_in d ≡ waits_in k
waits_same d k a = count_same name.After refl d k a

pub all_waits_same : (d k : Data) → Alike d k → waits_in_all d ≡ waits_in_all k
all_waits_same d k a = sum_same waits_in waits_same name.Steps refl d k a

pub less : (most w r : ℕ) → w ≤ most → nat_lt (most - w) r ≡ nat_lt most (w + r)
less most w r few = grind (arith, nat_tests)

more : (most w r : ℕ) → nat_lt most w ≡ true → nat_lt most (w + r) ≡ true
more most w r e = grind (arith, nat_tests)

pub few_of : (most w : ℕ) → nat_lt most w ≡ false → w ≤ most
few_of most w e = grind (arith, nat_tests)

by_room : (b : Bool) (n most w r : ℕ) (xs : List Finding) → nat_lt most w ≡ b → clean xs ≡ not (nat_lt (most - w) r)
    → clean (if b then beyond_at n most else xs) ≡ not (nat_lt most (w + r))
by_room true n most w r xs e is =
    let one : clean (beyond_at n most) ≡ false =
    clean-under (Item n) (map (under (Member name.After)) (map (under (Item most)) (finding_here problem.TooManyWaits ∷ [])))
    ∙ clean-under (Member name.After) (map (under (Item most)) (finding_here problem.TooManyWaits ∷ []))
    ∙ clean-under (Item most) (finding_here problem.TooManyWaits ∷ []) in
    one ∙ ap not (sym (more most w r e))
by_room false n most w r xs e is = is ∙ ap not (less most w r (few_of most w e))

pub none_over : (most : ℕ) → nat_lt most 0 ≡ false
none_over most = grind (arith, nat_tests)

clean_beyond : (most n : ℕ) (ds : List Data) → clean (waits_beyond most n ds) ≡ not (nat_lt most (sum_by waits_in ds))
clean_beyond most n [] = ap not (sym (none_over most))
clean_beyond most n (d ∷ ds) =
    by_room (nat_lt most (waits_in d)) n most (waits_in d) (sum_by waits_in ds) (waits_beyond (most - waits_in d) (suc n) ds) refl (clean_beyond (most - waits_in d) (suc n) ds)
    ∙ ap (λ (m : ℕ). not (nat_lt most m)) (sym (sum_by-cons waits_in d ds))

-- the items of an entry are no more than a script may still have
abbrev pub has_room : (has_plan : Bool) → (left : Option ℕ) → ℕ → Bool
has_room has_plan left count = option_map_or (λ most. if has_plan then not (nat_lt most count) else true) left true

by_plan : (has_plan : Bool) (xs : List Finding) (b : Bool) → clean xs ≡ b → clean (if has_plan then xs else []) ≡ (if has_plan then b else true)
by_plan true xs b is = is
by_plan false xs b is = refl

pub room_same : (has_plan : Bool) (left : Option ℕ) (d k : Data) → Alike d k → clean (beyond_in has_plan left d) ≡ has_room has_plan left (waits_in_all k)
room_same has_plan None d k a = refl
room_same has_plan (Some most) d k a =
    by_plan has_plan (map (under (Member name.Steps)) (waits_beyond most 0 (items_at name.Steps d))) (not (nat_lt most (waits_in_all k)))
    (clean-under (Member name.Steps) (waits_beyond most 0 (items_at name.Steps d))
    ∙ clean_beyond most 0 (items_at name.Steps d)
    ∙ ap (λ (n : ℕ). not (nat_lt most n)) (all_waits_same d k a))
