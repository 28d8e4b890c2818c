-- The tests of a step, and what a run reads of a step that is within the limits.
use Rattle.std.proofs.Common.{◌≡◌, ℕ, suc, ◌+◌, ◌<◌, List, [], ◌∷◌, length, Bool, true, false, not, ◌&&◌, ◌||◌, is_some, Option, Some, None, unwrap_or, if◌then◌else◌, refl, sym, ap, ◌∙◌, arith}
use Rattle.std.specs.Prelude.{codes, nat_lt}
use Rattle.std.specs.List.{list_all, sum_by}
use Rattle.std.specs.Option.{option_and_then, option_map, option_map_or}
use Rattle.std.proofs.lemmas.Bool.{lt-ltb}
use Rattle.serde_json.specs.Data.{Data}
use Rattle.serde_json.specs.Find.{as_bool, as_number, as_str, as_u64}
use Rattle.apply_json.specs.Tree.{◌>>=◌, member_of, text_or, unless_empty}
use Rattle.apply_model.specs.declared.script.diag.Diag.{Diag}
use Rattle.apply_model.specs.declared.script.ending.Ending.{Ending}
use Rattle.apply_model.specs.declared.script.ending.Ending.TheVariants.{Done, Failed, Warned}
use Rattle.apply_model.specs.declared.script.provisioner.Provisioner.{Provisioner}
use Rattle.apply_model.specs.Script.Limits.{max_provisioners, max_seconds}
use Rattle.apply_model.specs.Script.Outcome.{is_failed, is_warned, puts_out_too_much, seconds_of_all}
use Rattle.apply_plan.specs.Script.Entry.{EntryStep, Failure, WaitName, answered_with, diag_from, diag_or_none, each_of, ending_by, ending_from, failure_from}
use Rattle.apply_plan.specs.Script.Entry.{failure_or_none, flag_or_false, provisioner_from, is_bare, seconds_of, skipped_with, step_from}
use Rattle.input_validate.specs.declared.findings.name.Name.TheVariants as name
use Rattle.input_validate.specs.declared.findings.expected.Expected.TheVariants as expected
use Rattle.laws_validate.specs.Laws.{is_within_limits}
use Rattle.input_validate.specs.ScriptFindings.{is_skipped, seconds_in, seconds_in_all, skipped_violations, step_violations, step_table}
use Rattle.input_validate.specs.Rules.{faults_of, items_at, rule}
use Rattle.input_validate.specs.Expectations.{is_met}
use Rattle.laws_validate.proofs.Alike.{Alike}
use Rattle.laws_validate.proofs.Clean.{clean, clean-faults_of}
use Rattle.laws_validate.proofs.Diagnostics.{two}
use Rattle.laws_validate.proofs.Members.{count_same, flag_same, is_there_same, non_empty_same, seconds_same, sum_same, text_or_there, whole_there}
use Rattle.input_validate.proofs.Options.{and_false, and_true, none_any, nothing_then}
use Rattle.laws_validate.proofs.Provisioners.{all_seconds_read, fits, length_read, seconds_are}

-- none of the tests of a step by itself holds
unfoldable pub untouched : (failed id warning : Bool) (count seconds : ℕ) → Bool
untouched failed id warning count seconds =
    not (failed && id) && (not (failed && warning) && (not (failed && nat_lt 0 count)
    && (not (nat_lt max_seconds seconds) && (not (nat_lt max_provisioners count) && true))))

same_tests : (f g i j w v : Bool) (c d s t : ℕ) → f ≡ g → i ≡ j → w ≡ v → c ≡ d → s ≡ t → untouched f i w c s ≡ untouched g j v d t
same_tests f g i j w v c d s t e1 e2 e3 e4 e5 = cc

-- no test of a skipped step reports an error
unfoldable pub alone : (skipped reported id warning failed : Bool) (count : ℕ) → Bool
alone skipped reported id warning failed count =
    not (skipped && reported) && (not (skipped && id) && (not (skipped && warning) && (not (skipped && failed) && (not (skipped && nat_lt 0 count) && true))))

pub same_alone : (x y t u i j w v f g : Bool) (c d : ℕ) → x ≡ y → t ≡ u → i ≡ j → w ≡ v → f ≡ g → c ≡ d → alone x t i w f c ≡ alone y u j v g d
same_alone x y t u i j w v f g c d e1 e2 e3 e4 e5 e6 = cc

some_is : {A : Type 0} (x y : A) → Some x ≡ Some y → x ≡ y
some_is x y e = cc

-- ---- what stands there, and what was read

some_read : {A : Type 0} (r fo : Option A) → option_map (λ (x : A). Some x) r ≡ Some fo → true ≡ is_some fo
some_read None fo e = absurd cc
some_read {A} (Some x) fo e = ap (λ (o : Option A). is_some o) (some_is (Some x) fo e)

pub diagnostic_there : (o : Option Data) (fo : Option Diag) → diag_or_none o ≡ Some fo → is_some o ≡ is_some fo
diagnostic_there None fo e = ap (λ (r : Option Diag). is_some r) (some_is None fo e)
diagnostic_there (Some d) fo e = some_read (diag_from d) fo e

pub failure_there : (o : Option Data) (fo : Option Failure) → failure_or_none o ≡ Some fo → is_some o ≡ is_some fo
failure_there None fo e = ap (λ (r : Option Failure). is_some r) (some_is None fo e)
failure_there (Some d) fo e = some_read (failure_from d) fo e

pub id_there : (o : Option Data) (t : List ℕ) → text_or [] o ≡ Some t → is_some (o >>= as_str >>= unless_empty) ≡ is_some (unless_empty t)
id_there None t e = ap (λ (x : List ℕ). is_some (unless_empty x)) (some_is [] t e)
id_there (Some d) t e = ap (λ (x : Option (List ℕ)). is_some (x >>= unless_empty)) e

-- ---- how the step ends

abbrev little : List Provisioner → Bool
little ps = list_all fits ps

-- the step made of these members is within the limits
abbrev ended : (skipped reported : Bool) (s : Option ℕ) (after : List WaitName) → List Provisioner → Option Ending → Bool
ended skipped reported s after ps result =
    option_map_or is_within_limits
    (result >>= λ r. (if skipped then skipped_with reported r ps else answered_with s r ps) >>= λ o. Some (let step : EntryStep = record { outcome = o; after = after } in step)) false

order : (n x y : Bool) → (n && (x && (y && true))) ≡ (x && (y && n))
order true x y = refl
order false true true = refl
order false true false = refl
order false false y = refl

-- the provider has failed, also where that only warns
provider_fails : (warns : Bool) (diag : Diag)
    → (is_failed (let r : Ending = if warns then Warned diag else Failed diag in r) || is_warned (let r : Ending = if warns then Warned diag else Failed diag in r)) ≡ true
provider_fails true diag = refl
provider_fails false diag = refl

states_something : (warns : Bool) (diag : Diag) → is_bare (let r : Ending = if warns then Warned diag else Failed diag in r) ≡ false
states_something true diag = refl
states_something false diag = refl

-- a failure, without provisioners or with some
failed_with_provisioners : (reported : Bool) (s : ℕ) (r : Ending) (ps : List Provisioner) (after : List WaitName) → (is_failed r || is_warned r) ≡ true
    → (little ps && untouched true false false (length ps) (s + seconds_of_all ps)) ≡ ended false reported (Some s) after ps (Some r)
unfolding untouched
failed_with_provisioners reported s r [] after e = rw e refl
failed_with_provisioners reported s r (p ∷ ps) after e =
    let some : nat_lt 0 (length (p ∷ ps)) ≡ true = lt-ltb 0 (length (p ∷ ps)) (let l : 0 < suc (length ps) = omega arith in l) in
    rw (some, e) (and_false (little (p ∷ ps)))

answers : (reported : Bool) (s : ℕ) (id : Option (List ℕ)) (warning : Option Diag) (failed : Option Failure) (ps : List Provisioner) (after : List WaitName)
    → (little ps && untouched (is_some failed) (is_some id) (is_some warning) (length ps) (s + seconds_of_all ps)) ≡ ended false reported (Some s) after ps (ending_from id warning failed)
unfolding untouched
answers reported s id warning None ps after =
    order (little ps) (not (nat_lt max_seconds (s + seconds_of_all ps))) (not (nat_lt max_provisioners (length ps)))
    ∙ ap (λ (b : Bool). not (nat_lt max_seconds (s + seconds_of_all ps)) && (not (nat_lt max_provisioners (length ps)) && b)) (none_any puts_out_too_much ps)
answers reported s None None (Some f) ps after = failed_with_provisioners reported s (ending_by f) ps after (provider_fails f.only_warns f.diag)
answers reported s None (Some warning) (Some f) ps after = and_false (little ps)
answers reported s (Some id) warning (Some f) ps after = and_false (little ps)

-- no seconds
silent : (reported : Bool) (after : List WaitName) (ps : List Provisioner) (result : Option Ending) → false ≡ ended false reported None after ps result
silent reported after ps None = refl
silent reported after ps (Some r) = refl

abbrev pub given : Option ℕ → ℕ
given s = unwrap_or s 0

skips_none : (reported : Bool) (s : Option ℕ) (ps : List Provisioner) (after : List WaitName) → (reported ≡ false → s ≡ None)
    → (little ps && (untouched false false false (length ps) (given s + seconds_of_all ps) && alone true reported false false false (length ps))) ≡ ended true reported s after ps (ending_from None None None)
unfolding untouched alone
skips_none true s ps after none = ap (λ (b : Bool). little ps && b) (and_false (untouched false false false (length ps) (given s + seconds_of_all ps))) ∙ and_false (little ps)
skips_none false s [] after none = rw (none refl) refl
skips_none false s (p ∷ ps) after none =
    let some : nat_lt 0 (length (p ∷ ps)) ≡ true = lt-ltb 0 (length (p ∷ ps)) (let l : 0 < suc (length ps) = omega arith in l) in
    rw some (ap (λ (b : Bool). little (p ∷ ps) && b) (and_false (untouched false false false (length (p ∷ ps)) (given s + seconds_of_all (p ∷ ps)))) ∙ and_false (little (p ∷ ps)))

-- a member stands next to it
touched : (reported id warning failed : Bool) (count : ℕ) → (id || (warning || failed)) ≡ true → alone true reported id warning failed count ≡ false
unfolding alone
touched reported true warning failed count e = and_false (not reported)
touched reported false true failed count e = and_false (not reported)
touched reported false false true count e = and_false (not reported)
touched reported false false false count e = absurd cc

none_of : (x y z : Bool) → z ≡ false → (x && (y && z)) ≡ false
none_of x y z e = rw e (ap (λ (b : Bool). x && b) (and_false y) ∙ and_false x)

-- a run reads no step from these members
unread_of : (reported : Bool) (s : Option ℕ) (r : Ending) (ps : List Provisioner) (after : List WaitName) → is_bare r ≡ false → ended true reported s after ps (Some r) ≡ false
unread_of true s r ps after e = refl
unread_of false s r ps after e = rw e refl

skips : (reported : Bool) (s : Option ℕ) (id : Option (List ℕ)) (warning : Option Diag) (failed : Option Failure) (ps : List Provisioner) (after : List WaitName) → (reported ≡ false → s ≡ None)
    → (little ps && (untouched (is_some failed) (is_some id) (is_some warning) (length ps) (given s + seconds_of_all ps)
    && alone true reported (is_some id) (is_some warning) (is_some failed) (length ps)))
    ≡ ended true reported s after ps (ending_from id warning failed)
skips reported s None None None ps after none = skips_none reported s ps after none
skips reported s (Some id) w None ps after none =
    none_of (little ps) (untouched false true (is_some w) (length ps) (given s + seconds_of_all ps)) (alone true reported true (is_some w) false (length ps))
    (touched reported true (is_some w) false (length ps) refl)
    ∙ sym (unread_of reported s (Done (Some id) w) ps after refl)
skips reported s None (Some w) None ps after none =
    none_of (little ps) (untouched false false true (length ps) (given s + seconds_of_all ps)) (alone true reported false true false (length ps)) (touched reported false true false (length ps) refl)
    ∙ sym (unread_of reported s (Done None (Some w)) ps after refl)
skips reported s None None (Some f) ps after none =
    none_of (little ps) (untouched true false false (length ps) (given s + seconds_of_all ps)) (alone true reported false false true (length ps)) (touched reported false false true (length ps) refl)
    ∙ sym (unread_of reported s (ending_by f) ps after (states_something f.only_warns f.diag))
skips reported s None (Some w) (Some f) ps after none =
    none_of (little ps) (untouched true false true (length ps) (given s + seconds_of_all ps)) (alone true reported false true true (length ps)) (touched reported false true true (length ps) refl)
skips reported s (Some id) w (Some f) ps after none =
    none_of (little ps) (untouched true true (is_some w) (length ps) (given s + seconds_of_all ps)) (alone true reported true (is_some w) true (length ps))
    (touched reported true (is_some w) true (length ps) refl)

-- seconds are asked for where the step is not skipped
abbrev pub timed : (skipped : Bool) → Option ℕ → Bool
timed skipped s = skipped || is_some s

-- a step that is not skipped passes these tests
free : (reported id warning failed : Bool) (count : ℕ) → alone false reported id warning failed count ≡ true
unfolding alone
free reported id warning failed count = refl

-- the end of a step, skipped or not
ends : (skipped reported : Bool) (s : Option ℕ) (id : Option (List ℕ)) (warning : Option Diag) (failed : Option Failure) (ps : List Provisioner) (after : List WaitName) → (reported ≡ false → s ≡ None)
    → (timed skipped s && (little ps && (untouched (is_some failed) (is_some id) (is_some warning) (length ps) (given s + seconds_of_all ps)
    && alone skipped reported (is_some id) (is_some warning) (is_some failed) (length ps))))
    ≡ ended skipped reported s after ps (ending_from id warning failed)
ends true reported s id warning failed ps after none = skips reported s id warning failed ps after none
ends false reported None id warning failed ps after none = silent reported after ps (ending_from id warning failed)
ends false reported (Some s) id warning failed ps after none =
    ap (λ (b : Bool). little ps && (untouched (is_some failed) (is_some id) (is_some warning) (length ps) (s + seconds_of_all ps) && b))
    (free reported (is_some id) (is_some warning) (is_some failed) (length ps))
    ∙ ap (λ (b : Bool). little ps && b) (and_true (untouched (is_some failed) (is_some id) (is_some warning) (length ps) (s + seconds_of_all ps)))
    ∙ answers reported s id warning failed ps after

-- ---- the step

-- its findings, by parts
abbrev pub parts : (timed id warning failed provisioners tests flag tests_skipped after : Bool) → Bool
parts timed id warning failed provisioners tests flag tests_skipped after =
    timed && (id && (warning && (failed && (provisioners && (tests && (flag && (tests_skipped && after)))))))

abbrev pub step_read : (q : Option Bool) (reported : Bool) (s : Option ℕ) (id : Option (List ℕ)) (warning : Option (Option Diag))
    (failed : Option (Option Failure)) (ps : Option (List Provisioner)) (after : Option (List WaitName)) → Option EntryStep
step_read q reported s id warning failed ps after =
    q >>= λ skipped. (id >>= λ t. warning >>= λ w. failed >>= λ f. ending_from (unless_empty t) w f) >>= λ r. ps >>= λ l. after >>= λ a.
    (if skipped then skipped_with reported r l else answered_with s r l) >>= λ o. Some (let step : EntryStep = record { outcome = o; after = a } in step)

abbrev pub fit : Option EntryStep → Bool
fit step = option_map_or is_within_limits step false

no_flag : (timed id warning failed provisioners tests tests_skipped after : Bool) → parts timed id warning failed provisioners tests false tests_skipped after ≡ false
no_flag true true true true true true s a = refl
no_flag true true true true true false s a = refl
no_flag true true true true false t s a = refl
no_flag true true true false p t s a = refl
no_flag true true false f p t s a = refl
no_flag true false w f p t s a = refl
no_flag false i w f p t s a = refl

last_out : (timed ps tests tests_skipped : Bool) → (timed && (ps && (tests && (tests_skipped && false)))) ≡ false
last_out false ps tests tests_skipped = refl
last_out true false tests tests_skipped = refl
last_out true true false tests_skipped = refl
last_out true true true tests_skipped = and_false tests_skipped

pub reads : (q : Option Bool) (skipped reported : Bool) (s : Option ℕ) (id : Option (List ℕ)) (warning : Option (Option Diag)) (failed : Option (Option Failure))
    (ps : Option (List Provisioner)) (after : Option (List WaitName)) (tests tests_skipped : Bool)
    → (reported ≡ false → s ≡ None)
    → ((b : Bool) → q ≡ Some b → skipped ≡ b)
    → ((t : List ℕ) (w : Option Diag) (f : Option Failure) (l : List Provisioner) → id ≡ Some t → warning ≡ Some w → failed ≡ Some f → ps ≡ Some l
    → (tests ≡ untouched (is_some f) (is_some (unless_empty t)) (is_some w) (length l) (given s + seconds_of_all l))
    × (tests_skipped ≡ alone skipped reported (is_some (unless_empty t)) (is_some w) (is_some f) (length l)))
    → parts (timed skipped s) (is_some id) (is_some warning) (is_some failed) (option_map_or (list_all fits) ps false) tests (is_some q) tests_skipped (is_some after)
    ≡ fit (step_read q reported s id warning failed ps after)
reads None skipped reported s id warning failed ps after tests tests_skipped none flag are =
    no_flag (timed skipped s) (is_some id) (is_some warning) (is_some failed) (option_map_or (list_all fits) ps false) tests tests_skipped (is_some after)
reads (Some b) skipped reported s None warning failed ps after tests tests_skipped none flag are = and_false (timed skipped s)
reads (Some b) skipped reported s (Some t) None failed ps after tests tests_skipped none flag are = and_false (timed skipped s)
reads (Some b) skipped reported s (Some t) (Some w) None ps after tests tests_skipped none flag are = and_false (timed skipped s)
reads (Some b) skipped reported s (Some t) (Some w) (Some f) None after tests tests_skipped none flag are =
    and_false (timed skipped s) ∙ ap fit (sym (nothing_then (ending_from (unless_empty t) w f)))
reads (Some b) skipped reported s (Some t) (Some w) (Some f) (Some l) None tests tests_skipped none flag are =
    last_out (timed skipped s) (little l) tests tests_skipped ∙ ap fit (sym (nothing_then (ending_from (unless_empty t) w f)))
reads (Some b) skipped reported s (Some t) (Some w) (Some f) (Some l) (Some a) tests tests_skipped none flag are =
    let both = are t w f l refl refl refl refl in
    let same : skipped ≡ b = flag b refl in
    ap (λ (x : Bool). timed skipped s && (little l && (tests && x))) (and_true tests_skipped)
    ∙ ap (λ (x : Bool). timed skipped s && (little l && (x && tests_skipped))) both.0
    ∙ ap (λ (x : Bool). timed skipped s && (little l && (untouched (is_some f) (is_some (unless_empty t)) (is_some w) (length l) (given s + seconds_of_all l) && x))) both.1
    ∙ ends skipped reported s (unless_empty t) w f l a none
    ∙ ap (λ (x : Bool). ended x reported s a l (ending_from (unless_empty t) w f)) same

-- what a run reads of a step that is within the limits
abbrev pub is_step : Data → Bool
is_step k = fit (step_from k)

-- ---- its parts, of the tree that a run reads

pub silent_read : (o : Option Data) → is_some o ≡ false → (o >>= as_number >>= as_u64) ≡ None
silent_read None e = refl
silent_read (Some d) e = absurd cc

pub flag_read : (o : Option Data) (b : Bool) → flag_or_false o ≡ Some b → option_map_or (λ flag. flag) (option_and_then as_bool o) false ≡ b
flag_read None b e = some_is false b e
flag_read (Some d) b e = ap (λ (x : Option Bool). option_map_or (λ flag. flag) x false) e

pub tests_read : (k : Data) (t : List ℕ) (w : Option Diag) (f : Option Failure) (l : List Provisioner) → text_or [] (member_of (codes "id") k) ≡ Some t
    → diag_or_none (member_of (codes "warning") k) ≡ Some w → failure_or_none (member_of (codes "failed") k) ≡ Some f
    → each_of provisioner_from (member_of (codes "provisioners") k) ≡ Some l
    → (list_all (λ violation. not violation.holds) (step_violations k) ≡ untouched (is_some f) (is_some (unless_empty t)) (is_some w) (length l) (given (seconds_of k) + seconds_of_all l))
    × (list_all (λ violation. not violation.holds) (skipped_violations k) ≡ alone (is_skipped k) (is_some (member_of (codes "seconds") k)) (is_some (unless_empty t)) (is_some w) (is_some f) (length l))
unfolding untouched alone
tests_read k t w f l et ew ef el =
    let count : length (items_at name.Provisioners k) ≡ length l = length_read provisioner_from (member_of (codes "provisioners") k) l el in
    let accepted : seconds_in_all k ≡ given (seconds_of k) + seconds_of_all l =
    ap (λ (n : ℕ). n + sum_by seconds_in (items_at name.Provisioners k)) (ap (λ (o : Option ℕ). unwrap_or o 0) (seconds_are (member_of (codes "seconds") k)))
    ∙ ap (λ (n : ℕ). given (seconds_of k) + n) (all_seconds_read (member_of (codes "provisioners") k) l el) in
    let failed = failure_there (member_of (codes "failed") k) f ef in
    let id = id_there (member_of (codes "id") k) t et in
    let warning = diagnostic_there (member_of (codes "warning") k) w ew in (
      same_tests _ _ _ _ _ _ _ _ _ _ failed id warning count accepted,
      same_alone (is_skipped k) (is_skipped k) (is_some (member_of (codes "seconds") k))
          (is_some (member_of (codes "seconds") k)) _ _ _ _ _ _ _ _ refl refl id warning failed count,
    )

-- the same for the other tree
pub tests_same : (d k : Data) → Alike d k
    → (list_all (λ violation. not violation.holds) (step_violations d) ≡ list_all (λ violation. not violation.holds) (step_violations k))
    × (list_all (λ violation. not violation.holds) (skipped_violations d) ≡ list_all (λ violation. not violation.holds) (skipped_violations k))
unfolding untouched alone
tests_same d k a =
    let count = count_same name.Provisioners refl d k a in
    let accepted : seconds_in_all d ≡ seconds_in_all k =
    ap (λ (n : ℕ). n + sum_by seconds_in (items_at name.Provisioners d)) (seconds_same d k a) ∙ ap (λ (n : ℕ). seconds_in k + n) (sum_same seconds_in seconds_same name.Provisioners refl d k a) in
    let failed = is_there_same (codes "failed") refl d k a in
    let warning = is_there_same (codes "warning") refl d k a in
    let id = ap (λ (o : Option (List ℕ)). is_some o) (non_empty_same (codes "id") refl d k a) in (
      same_tests _ _ _ _ _ _ _ _ _ _ failed id warning count accepted,
      same_alone _ _ _ _ _ _ _ _ _ _ _ _ (flag_same (codes "skipped") refl d k a) (is_there_same (codes "seconds") refl d k a) id warning failed count,
    )

pub table_clean : (skipped : Bool) (d k : Data) → Alike d k → clean (faults_of (step_table skipped) d) ≡ (timed skipped (seconds_of k) && is_some (text_or [] (member_of (codes "id") k)))
table_clean true d k a = clean-faults_of (rule name.Id expected.TextOrAbsent ∷ []) d ∙ and_true (is_met expected.TextOrAbsent (member_of (codes "id") d)) ∙ text_or_there (codes "id") refl d k a
table_clean false d k a =
    two (rule name.Seconds expected.Seconds) (rule name.Id expected.TextOrAbsent) d
    ∙ ap (λ (b : Bool). b && is_met expected.TextOrAbsent (member_of (codes "id") d)) (whole_there (codes "seconds") refl d k a)
    ∙ ap (λ (b : Bool). is_some (seconds_of k) && b) (text_or_there (codes "id") refl d k a)

-- the two walks through the provisioners, apart
pub apart : (t i w f listed first tests flag skipped growth after all : Bool) → (first && growth) ≡ all
    → (((((((((t && i) && w) && f) && (listed && first)) && tests) && flag) && skipped) && growth) && after) ≡ parts t i w f (listed && all) tests flag skipped after
apart false i w f listed first tests flag skipped growth after all e = refl
apart true false w f listed first tests flag skipped growth after all e = refl
apart true true false f listed first tests flag skipped growth after all e = refl
apart true true true false listed first tests flag skipped growth after all e = refl
apart true true true true false first tests flag skipped growth after all e = refl
apart true true true true true false tests flag skipped growth after all e = rw (sym e) refl
apart true true true true true true false flag skipped growth after all e = sym (and_false all)
apart true true true true true true true false skipped growth after all e = sym (and_false all)
apart true true true true true true true true false growth after all e = sym (and_false all)
apart true true true true true true true true true growth after all e = ap (λ (b : Bool). b && after) e
