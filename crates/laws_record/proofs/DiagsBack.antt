-- Diagnostics and provisioners are read back.
use Rattle.std.proofs.Common.{◌≡◌, ℕ, ◌≤◌, List, [], ◌∷◌, Bool, true, false, cond, map, Option, Some, None, option_map, refl, sym, ap, ap₂, ◌∙◌, arith}
use Rattle.std.specs.Prelude.{codes, ◌&&◌, IfSome, nat_le}
use Rattle.std.specs.List.{AllByRecursion}
use Rattle.std.specs.Str.{bytes_eq}
use Rattle.std.proofs.lemmas.Bool.{and_parts, leb-true}
use Rattle.std.proofs.lemmas.Slice.Eq.{bytes_eq-Decides}
use Rattle.serde_json.specs.Data.{Data, string}
use Rattle.serde_json.specs.Find.{as_number, as_str, as_u64}
use Rattle.apply_json.specs.Tree.{◌>>=◌, member_of, non_empty_text_of, text_of, text_or, unless_empty, unless_null}
use Rattle.apply_model.specs.declared.script.diag.Diag.{Diag}
use Rattle.apply_model.specs.declared.script.provisioner.Provisioner.{Provisioner}
use Rattle.apply_model.specs.declared.script.timed_text.TimedText.{TimedText}
use Rattle.apply_model.specs.Script.Outcome.{are_in_time}
use Rattle.apply_plan.specs.Script.Entry.{OutputItem, all_some, diag_from, diag_or_none, each_of, failure_from, is_object_text, may_fail_or_not, object_or_none, only_warns_or_not, output_from, output_of_members, provisioner_from, seconds_of, timed, timed_outputs, number_or_none}
use Rattle.laws_record.specs.Writable.{IsObjectText, IsWritableDiag, IsWritableProvisioner}
use Rattle.laws_record.proofs.Lookups.{each_read, filled_text, is_member}
use Rattle.laws_record.proofs.Trees.{diag_fields, diag_tree, may_fail_tree, provisioner_fields, provisioner_tree, severe_fields, timed_fields, timed_tree, warned_tree}
use Rattle.laws_record.proofs.Values.{object_with}

-- ---- diagnostics

optional_detail : (detail : List ℕ) → text_or [] (option_map string (unless_empty detail) >>= unless_null) ≡ Some detail
optional_detail [] = refl
optional_detail (byte ∷ bytes) = refl

pub no_null : (text : List ℕ) → is_object_text text ≡ true → bytes_eq text (codes "null") ≡ false
no_null text is = of_test (bytes_eq text (codes "null")) refl
  where
    of_test : (b : Bool) → bytes_eq text (codes "null") ≡ b → b ≡ false
    of_test false other = refl
    of_test true same = let no : false ≡ true = ap is_object_text (sym ((bytes_eq-Decides text (codes "null")).0 same)) ∙ is in cc

optional_object : (n : ℕ) (text : Option (List ℕ)) → IfSome text (IsObjectText n) → object_or_none (option_map string text >>= unless_null) ≡ Some text
optional_object n None is = refl
optional_object n (Some text) is = λ i. cond (no_null text is.object i) (Some None) (cond (is.object i) (Some (Some text)) None)

-- a tree has the members of a diagnostic
record HasDiag (d : Data) (diag : Diag) : Type 0 where
  summary : member_of (codes "summary") d ≡ Some (string diag.summary)
  detail : member_of (codes "detail") d ≡ (option_map string (unless_empty diag.detail) >>= unless_null)
  range : member_of (codes "range") d ≡ (option_map string diag.range >>= unless_null)
  snippet : member_of (codes "snippet") d ≡ (option_map string diag.snippet >>= unless_null)

diag_in : (n : ℕ) (d : Data) (diag : Diag) → IsWritableDiag n diag → HasDiag d diag → diag_from d ≡ Some diag
diag_in n d diag is has =
    let summary_is : text_of (codes "summary") d ≡ Some diag.summary = ap (λ o. o >>= as_str) has.summary in
    let detail_is : text_or [] (member_of (codes "detail") d) ≡ Some diag.detail = ap (text_or []) has.detail ∙ optional_detail diag.detail in
    let range_is : object_or_none (member_of (codes "range") d) ≡ Some diag.range = ap object_or_none has.range ∙ optional_object n diag.range is.range in
    let snippet_is : object_or_none (member_of (codes "snippet") d) ≡ Some diag.snippet = ap object_or_none has.snippet ∙ optional_object n diag.snippet is.snippet in
    λ i. summary_is i >>= (λ summary. detail_is i >>= (λ detail. range_is i >>= (λ range. snippet_is i >>= (λ snippet. Some (record { summary = summary; detail = detail; range = range; snippet = snippet })))))

pub diag_back : (n : ℕ) (diag : Diag) → IsWritableDiag n diag → diag_from (diag_tree diag) ≡ Some diag
diag_back n diag is =
    let fields = diag_fields None diag in
    diag_in n (diag_tree diag) diag is
    (record { summary = is_member (codes "summary") fields; detail = is_member (codes "detail") fields; range = is_member (codes "range") fields; snippet = is_member (codes "snippet") fields })

pub optional_diag : (n : ℕ) (diag : Option Diag) → IfSome diag (IsWritableDiag n) → diag_or_none (option_map diag_tree diag >>= unless_null) ≡ Some diag
optional_diag n None is = refl
optional_diag n (Some diag) is = ap (option_map Some) (diag_back n diag is)

-- ---- failures

failure_in : (d : Data) (diag : Diag) (only_warns : Bool) → diag_from d ≡ Some diag → only_warns_or_not (member_of (codes "severity") d) ≡ Some only_warns
    → failure_from d ≡ Some (record { diag = diag; only_warns = only_warns })
failure_in d diag only_warns diag_is warns_is = λ i. diag_is i >>= (λ diag. warns_is i >>= (λ only_warns. Some (record { diag = diag; only_warns = only_warns })))

pub error_back : (n : ℕ) (diag : Diag) → IsWritableDiag n diag → failure_from (diag_tree diag) ≡ Some (record { diag = diag; only_warns = false })
error_back n diag is = failure_in (diag_tree diag) diag false (diag_back n diag is) (ap only_warns_or_not (is_member (codes "severity") (diag_fields None diag)))

pub warning_back : (n : ℕ) (diag : Diag) → IsWritableDiag n diag → failure_from (warned_tree diag) ≡ Some (record { diag = diag; only_warns = true })
warning_back n diag is =
    let fields = severe_fields (codes "warning") None diag in
    failure_in (warned_tree diag) diag true
    (diag_in n (warned_tree diag) diag is
    (record { summary = is_member (codes "summary") fields; detail = is_member (codes "detail") fields; range = is_member (codes "range") fields; snippet = is_member (codes "snippet") fields }))
    (ap only_warns_or_not (is_member (codes "severity") fields))

-- ---- what a provisioner prints

-- an item of `output` as it is written
abbrev item_of : (seconds : ℕ) → TimedText → OutputItem
item_of seconds text = record { after = cond (nat_le seconds text.after) None (Some text.after); text = text.text }

item_back : (seconds : ℕ) (text : TimedText) → output_from (timed_tree seconds text) ≡ Some (item_of seconds text)
unfolding output_of_members
item_back seconds text = of_test (nat_le seconds text.after)
  where
    of_test : (b : Bool) → output_from (cond b (string text.text) (object_with (timed_fields text))) ≡ Some (record { after = cond b None (Some text.after); text = text.text })
    of_test true = refl
    of_test false =
        let text_is : text_of (codes "text") (object_with (timed_fields text)) ≡ Some text.text = ap (λ o. o >>= as_str) (is_member (codes "text") (timed_fields text)) in
        let after_is : number_or_none (member_of (codes "after") (object_with (timed_fields text))) ≡ Some (Some text.after) = ap number_or_none (is_member (codes "after") (timed_fields text)) in
        λ i. text_is i >>= (λ told. after_is i >>= (λ after. Some (record { after = after; text = told })))

pub all_back : {X A : Type 0} (part : Data → Option A) (tree : X → Data) (value : X → A) (Q : X → Type 0) → ((x : X) → Q x → part (tree x) ≡ Some (value x)) → (xs : List X) → AllByRecursion Q xs
    → all_some (map part (map tree xs)) ≡ Some (map value xs)
all_back part tree value Q each [] all = refl
all_back part tree value Q each (x ∷ xs) all =
    let first = each x all.0 in
    let rest = all_back part tree value Q each xs all.1 in
    λ i. first i >>= (λ a. rest i >>= (λ as_list. Some (a ∷ as_list)))

any_text : (texts : List TimedText) → AllByRecursion (λ (text : TimedText). Unit {0}) texts
any_text [] = tt
any_text (text ∷ texts) = (tt, any_text texts)

timed_back : (low seconds : ℕ) (texts : List TimedText) → are_in_time low seconds texts ≡ true → map (timed seconds) (map (item_of seconds) texts) ≡ texts
timed_back low seconds [] within = refl
timed_back low seconds (text ∷ texts) within =
    let both = and_parts (nat_le low text.after && nat_le text.after seconds) (are_in_time text.after seconds texts) within in
    let in_time = leb-true text.after seconds (and_parts (nat_le low text.after) (nat_le text.after seconds) both.0).1 in
    ap₂ (λ (t : TimedText) (ts : List TimedText). t ∷ ts) (of_test (nat_le seconds text.after) refl in_time) (timed_back text.after seconds texts both.1)
  where
    of_test : (b : Bool) → nat_le seconds text.after ≡ b → text.after ≤ seconds → timed seconds (record { after = cond b None (Some text.after); text = text.text }) ≡ text
    of_test false early in_time = refl
    of_test true late in_time =
        let least = leb-true seconds text.after late in
        let same : seconds ≡ text.after = omega arith in
        ap (λ (n : ℕ). record { after = n; text = text.text }) same

-- ---- provisioners

may_fail_back : (b : Bool) → may_fail_or_not (may_fail_tree b >>= unless_null) ≡ Some b
may_fail_back true = refl
may_fail_back false = refl

output_back : (seconds : ℕ) (texts : List TimedText) → are_in_time 0 seconds texts ≡ true → timed_outputs seconds (map (item_of seconds) texts) ≡ Some texts
output_back seconds texts within =
    let same = timed_back 0 seconds texts within in
    (λ i. cond (are_in_time 0 seconds (same i)) (Some (same i)) None) ∙ ap (λ (b : Bool). cond b (Some texts) None) within

pub provisioner_back : (provisioner : Provisioner) → IsWritableProvisioner provisioner → provisioner_from (provisioner_tree provisioner) ≡ Some provisioner
unfolding provisioner_from
provisioner_back provisioner is =
    let fields = provisioner_fields provisioner in
    let d = provisioner_tree provisioner in
    let seconds = provisioner.seconds in
    let trees = map (timed_tree seconds) provisioner.output in
    let items = map (item_of seconds) provisioner.output in
    let name_is : non_empty_text_of (codes "provisioner") d ≡ Some provisioner.name =
    ap (λ o. (o >>= as_str) >>= unless_empty) (is_member (codes "provisioner") fields) ∙ filled_text provisioner.name is.name.filled in
    let seconds_is : seconds_of d ≡ Some seconds = ap (λ o. (o >>= as_number) >>= as_u64) (is_member (codes "seconds") fields) in
    let failed_is : diag_or_none (member_of (codes "failed") d) ≡ Some provisioner.failed =
    ap diag_or_none (is_member (codes "failed") fields) ∙ optional_diag 119 provisioner.failed is.failed in
    let items_are : each_of output_from (member_of (codes "output") d) ≡ Some items =
    ap (each_of output_from) (is_member (codes "output") fields)
    ∙ each_read output_from trees items (all_back output_from (timed_tree seconds) (item_of seconds) (λ (text : TimedText). Unit {0}) (λ text _. item_back seconds text) provisioner.output (any_text provisioner.output)) in
    let output_is : timed_outputs seconds items ≡ Some provisioner.output = output_back seconds provisioner.output is.in_time in
    let may_fail_is : may_fail_or_not (member_of (codes "on_failure") d) ≡ Some provisioner.may_fail =
    ap may_fail_or_not (is_member (codes "on_failure") fields) ∙ may_fail_back provisioner.may_fail in
    (λ i. name_is i >>= (λ name. seconds_is i >>= (λ seconds. failed_is i >>= (λ failed. items_are i >>= (λ items. timed_outputs seconds items >>= (λ output. may_fail_is i >>= (λ may_fail.
    Some (record { name = name; seconds = seconds; output = output; failed = failed; may_fail = may_fail }))))))))
    ∙ ap (λ o. o >>= (λ output. Some (record { name = provisioner.name; seconds = seconds; output = output; failed = provisioner.failed; may_fail = provisioner.may_fail }))) output_is
