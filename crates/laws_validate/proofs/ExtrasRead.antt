-- The members that only Terraform's form reads have no error if and only if a run reads them.
use Rattle.std.proofs.Common.{◌≡◌, ◌≤◌, ℕ, suc, List, [], ◌∷◌, ◌++◌, map, Bool, true, false, not, ◌&&◌, is_ok, is_some, Option, Some, None, Result, Ok, Err, refl, sym, ap, subst, ◌∙◌, if◌then◌else◌, arith}
use Rattle.std.specs.Prelude.{codes, is_none, option_map}
use Rattle.std.specs.List.{list_all}
use Rattle.std.specs.Str.{bytes_eq}
use Rattle.json.specs.Json as json
use Rattle.json.specs.Json.{Json}
use Rattle.json.specs.Print.{print_from}
use Rattle.json.specs.Tree.{ItemsHaveNumbers, items_depth}
use Rattle.serde_json.specs.Data.{Data, null, boolean, number, string, array, object, Items, no_items, item, Members, no_members, member}
use Rattle.serde_json.specs.Find.{as_object, get}
use Rattle.serde_json.specs.Read.{max_depth, number_of, of_items, of_json, of_members}
use Rattle.apply_json.specs.Tree.{◌>>=◌, list_of, member_of, unless_empty, unless_null}
use Rattle.apply_model.specs.declared.details.note.Note.{Note}
use Rattle.apply_model.specs.declared.details.note.Severity.{Severity}
use Rattle.apply_model.specs.declared.script.diag.Diag.{Diag}
use Rattle.apply_plan.specs.declared.script.script_error.ScriptError.{ScriptError}
use Rattle.apply_plan.specs.declared.script.script_error.ScriptError.TheVariants.{BadDiagnostic, BadOutput, BadShape, UnknownOutput}
use Rattle.apply_plan.specs.Results as results
use Rattle.apply_plan_terraform.specs.declared.texts.part.Part.TheVariants as part
use Rattle.apply_plan_terraform.specs.Extras.{extras_of_script, with_notes}
use Rattle.apply_plan_terraform.specs.Notes as noted
use Rattle.apply_plan_terraform.specs.Notes.{items_of, raw_member, note_in, notes_from, notes_in_script, object_or_none, decoded_member, decoded_or_empty, severity_in}
use Rattle.apply_plan_terraform.specs.Outputs.{OutputsOfPlan, fault_of, has_output, is_flag_or_absent, is_output, is_typed, outputs_in_script, text_at, unless_faulty}
use Rattle.apply_plan_terraform.specs.Texts.{json_of_text, members_with_texts, text_of, with_texts}
use Rattle.input_validate.specs.declared.findings.finding.Finding.{Finding}
use Rattle.input_validate.specs.declared.findings.name.Name.TheVariants as name
use Rattle.input_validate.specs.declared.findings.path.Segment.TheVariants.{Other}
use Rattle.input_validate.specs.declared.findings.expected.Expected.TheVariants as expected
use Rattle.input_validate.specs.declared.rules.rule.MemberRule.{MemberRule}
use Rattle.input_validate.specs.Extras.{in_extras, in_note, in_plan_output, in_plan_outputs, members_from, note_names, note_table, plan_output_names, plan_output_table, unless_planned}
use Rattle.input_validate.specs.Findings.{under}
use Rattle.input_validate.specs.Rules as walks
use Rattle.input_validate.specs.Rules.{faults_of, in_list, inside, rule, ignored, where_suits}
use Rattle.input_validate.specs.Expectations.{is_met}
use Rattle.laws_validate.proofs.Clean.{all_items, appended, clean, clean-append, clean-fault_of, clean-faults_of, clean-in_list, clean-inside, clean-then_unread, clean-under, clean-where_suits, is_absent_or}
use Rattle.laws_validate.proofs.Diagnostics.{two}
use Rattle.laws_validate.proofs.VerbatimTrees.{AreOf, AreOutputs, all_outputs, at_part, behind, verbatim_whole, member_spelt, text_spelt}
use Rattle.laws_validate.proofs.Spelt.{IsOf, flag_met, mapped, null_text, object_met, read_back, severity_met, text_met, text_or_met, typed_met}
use Rattle.laws_validate.proofs.Wanted.{needs_object}

some_is : {A : Type 0} (x y : A) → Some x ≡ Some y → x ≡ y
some_is x y e = cc

-- ---- outputs

clean_planned : (b : Bool) (x : Finding) → (let xs : List Finding = if b then [] else x ∷ [] in clean xs) ≡ (if b then true else clean (x ∷ []))
clean_planned true x = refl
clean_planned false x = refl

by_has : (b : Bool) → (if b then true else false) ≡ b
by_has true = refl
by_has false = refl

pub clean_output : (plan : OutputsOfPlan) (text : List ℕ) (j : Json) (d : Data) → IsOf j d → clean (in_plan_output (Some plan) text d) ≡ (is_output (with_texts part.Output j) && has_output plan text)
unfolding in_plan_output
clean_output plan text j d of =
    let kind : is_met expected.NotNull (member_of (codes "type") d) ≡ is_typed (with_texts part.Output j) =
    typed_met (get (codes "type") d) (text_at (codes "type") (with_texts part.Output j)) (text_spelt part.Output (codes "type") refl refl j d of) in
    let flag : is_met expected.FlagOrAbsent (member_of (codes "sensitive") d) ≡ is_flag_or_absent (text_at (codes "sensitive") (with_texts part.Output j)) =
    flag_met (get (codes "sensitive") d) (text_at (codes "sensitive") (with_texts part.Output j)) (text_spelt part.Output (codes "sensitive") refl refl j d of) in
    let both : Bool = is_met expected.NotNull (member_of (codes "type") d) && is_met expected.FlagOrAbsent (member_of (codes "sensitive") d) in
    let wrong : List Finding = where_suits expected.PlanOutput d (faults_of plan_output_table d) in
    let own : clean wrong ≡ is_output (with_texts part.Output j) =
    clean-where_suits expected.PlanOutput d (faults_of plan_output_table d)
    ∙ ap (λ (b : Bool). is_some (as_object d) && b) (two (rule name.Kind expected.NotNull) (rule name.Sensitive expected.FlagOrAbsent) d)
    ∙ needs_object (codes "type") d both (λ none. ap (λ (o : Option Data). is_met expected.NotNull o && is_met expected.FlagOrAbsent (member_of (codes "sensitive") d)) none)
    ∙ ap (λ (b : Bool). b && is_met expected.FlagOrAbsent (member_of (codes "sensitive") d)) kind
    ∙ ap (λ (b : Bool). is_typed (with_texts part.Output j) && b) flag in
    let planned : clean (unless_planned (Some plan) text) ≡ has_output plan text = clean_planned (has_output plan text) _ ∙ by_has (has_output plan text) in
    clean-then_unread (wrong ++ unless_planned (Some plan) text) plan_output_names d
    ∙ appended wrong (unless_planned (Some plan) text) (is_output (with_texts part.Output j)) (has_output plan text) own planned

by_fault : (a b c : Bool) (x y : ScriptError) (r : Option ScriptError) → c ≡ is_none r
    → ((a && b) && c) ≡ is_none (let o : Option ScriptError = if not a then Some x else if not b then Some y else r in o)
by_fault true true c x y r is = is
by_fault true false c x y r is = refl
by_fault false b c x y r is = refl

clean_members : (plan : OutputsOfPlan) (n : ℕ) (ms ts : Members) → AreOutputs ms ts → clean (members_from (in_plan_output (Some plan)) n ms) ≡ is_none (fault_of plan n ts)
clean_members plan n no_members ts a = rw a refl
clean_members plan n (member l d ms) ts a =
    rw (a.2)
    (clean-append (map (under (Other n)) (in_plan_output (Some plan) l d)) (members_from (in_plan_output (Some plan)) (suc n) ms)
    ∙ ap (λ (b : Bool). b && clean (members_from (in_plan_output (Some plan)) (suc n) ms))
    (clean-under (Other n) (in_plan_output (Some plan) l d) ∙ clean_output plan l a.0 d a.3)
    ∙ by_fault (is_output (with_texts part.Output a.0)) (has_output plan l) _ (BadOutput n) (UnknownOutput n) (fault_of plan (suc n) a.1) (clean_members plan (suc n) ms a.1 a.4))

accepted : (o : Option ScriptError) (ts : Members) → is_ok (results.unless_refused o ts) ≡ is_none o
accepted None ts = refl
accepted (Some refusal) ts = refl

abbrev outputs_read : OutputsOfPlan → Option Data → Bool
outputs_read plan p = is_ok (unless_faulty plan (outputs_in_script p))

abbrev outputs_clean : OutputsOfPlan → Option Data → Bool
outputs_clean plan o = is_met expected.ObjectOrAbsent o && is_absent_or (λ v. clean (in_plan_outputs (Some plan) v)) o

not_read : (plan : OutputsOfPlan) (text : List ℕ) → bytes_eq text (codes "null") ≡ false → false ≡ outputs_read plan (Some (string text))
not_read plan text is = rw is refl

one_outputs : (plan : OutputsOfPlan) (j : Json) (d : Data) → IsOf j d → outputs_clean plan (unless_null d) ≡ outputs_read plan (Some (with_texts part.Outputs j))
unfolding print_from
one_outputs plan json.null d of = rw (sym (some_is null d of.is)) refl
one_outputs plan (json.boolean true) d of = rw (sym (some_is (boolean true) d of.is)) refl
one_outputs plan (json.boolean false) d of = rw (sym (some_is (boolean false) d of.is)) refl
one_outputs plan (json.number s) d of =
    let it = mapped number (number_of s) d of.is in
    rw it.2
    (not_read plan (text_of (json.number s))
    (null_text (json.number s) (number it.0) (record { numbers = of.numbers; shallow = of.shallow; is = ap (option_map number) it.1 })))
one_outputs plan (json.string s) d of = rw (sym (some_is (string s) d of.is)) refl
one_outputs plan (json.array js) d of = let it = mapped array (of_items js) d of.is in rw it.2 refl
one_outputs plan (json.object ms) d of =
    let it = mapped object (of_members ms no_members) d of.is in
    rw it.2
    (clean_members plan 0 it.0 (members_with_texts part.Outputs ms no_members) (all_outputs ms no_members no_members it.0 of.numbers (omega (arith, of.shallow)) it.1 refl)
    ∙ sym (accepted (fault_of plan 0 (members_with_texts part.Outputs ms no_members)) (members_with_texts part.Outputs ms no_members)))

outputs_both : (plan : OutputsOfPlan) (o p : Option Data) → AreOf part.Outputs o p → outputs_clean plan (o >>= unless_null) ≡ outputs_read plan p
outputs_both plan None p a = rw a refl
outputs_both plan (Some d) p a = rw (a.2) (one_outputs plan a.0 d a.1)

-- ---- diagnostics of no step

abbrev made_note : Severity → Diag → List ℕ → Note
made_note severity diag address = record { severity = severity; diag = diag; address = unless_empty address }

no_address : (y z : List ℕ) (r n : Option (Option (List ℕ)))
    → is_some ((r >>= λ v. n >>= λ w. Some (let q : Diag = record { summary = y; detail = z; range = v; snippet = w } in q)) >>= λ diag. (let o : Option Note = None in o)) ≡ false
no_address y z None n = refl
no_address y z (Some v) None = refl
no_address y z (Some v) (Some w) = refl

note_reads : (e : Option Severity) (s t : Option (List ℕ)) (r n : Option (Option (List ℕ))) (a : Option (List ℕ))
    → is_some (e >>= λ x. (s >>= λ y. t >>= λ z. r >>= λ v. n >>= λ w. Some (let q : Diag = record { summary = y; detail = z; range = v; snippet = w } in q)) >>= λ diag. a >>= λ address. Some (made_note x diag address))
    ≡ (is_some e && (is_some s && (is_some t && (is_some a && (is_some r && (is_some n && true))))))
note_reads None s t r n a = refl
note_reads (Some x) None t r n a = refl
note_reads (Some x) (Some y) None r n a = refl
note_reads (Some x) (Some y) (Some z) r n None = no_address y z r n
note_reads (Some x) (Some y) (Some z) None n (Some b) = refl
note_reads (Some x) (Some y) (Some z) (Some v) None (Some b) = refl
note_reads (Some x) (Some y) (Some z) (Some v) (Some w) (Some b) = refl

six : {a b c e f g a1 b1 c1 e1 f1 g1 : Bool} → a ≡ a1 → b ≡ b1 → c ≡ c1 → e ≡ e1 → f ≡ f1 → g ≡ g1
    → (a && (b && (c && (e && (f && (g && true)))))) ≡ (a1 && (b1 && (c1 && (e1 && (f1 && (g1 && true))))))
six ea eb ec ee ef eg = cc

pub clean_note : (j : Json) (d : Data) → IsOf j d → clean (in_note d) ≡ is_some (note_in (with_texts part.Diagnostic j))
unfolding in_note
clean_note j d of =
    let t : Data = with_texts part.Diagnostic j in
    let read : Bool =
    is_some (severity_in t) && (is_some (decoded_member (codes "summary") t) && (is_some (decoded_or_empty (raw_member (codes "detail") t)) && (is_some (decoded_or_empty (raw_member (codes "address") t))
    && (is_some (object_or_none (raw_member (codes "range") t)) && (is_some (object_or_none (raw_member (codes "snippet") t)) && true))))) in
    let rest : List MemberRule =
    rule name.Summary expected.Text ∷ rule name.Detail expected.TextOrAbsent ∷ rule name.Address expected.TextOrAbsent ∷ rule name.Range expected.ObjectOrAbsent
    ∷ rule name.Snippet expected.ObjectOrAbsent ∷ [] in
    let same : list_all (λ it. is_met it.expected (walks.member_at it.name d)) note_table ≡ read =
    six (severity_met (member_of (codes "severity") d) (raw_member (codes "severity") t) (member_spelt part.Diagnostic (codes "severity") refl refl j d of))
    (text_met (member_of (codes "summary") d) (raw_member (codes "summary") t) (member_spelt part.Diagnostic (codes "summary") refl refl j d of))
    (text_or_met (member_of (codes "detail") d) (raw_member (codes "detail") t) (member_spelt part.Diagnostic (codes "detail") refl refl j d of))
    (text_or_met (member_of (codes "address") d) (raw_member (codes "address") t) (member_spelt part.Diagnostic (codes "address") refl refl j d of))
    (object_met (member_of (codes "range") d) (raw_member (codes "range") t) (member_spelt part.Diagnostic (codes "range") refl refl j d of))
    (object_met (member_of (codes "snippet") d) (raw_member (codes "snippet") t) (member_spelt part.Diagnostic (codes "snippet") refl refl j d of)) in
    clean-where_suits expected.Note d (faults_of note_table d ++ ignored note_names d)
    ∙ ap (λ (b : Bool). is_some (as_object d) && b) (clean-then_unread (faults_of note_table d) note_names d ∙ clean-faults_of note_table d)
    ∙ needs_object (codes "severity") d (list_all (λ it. is_met it.expected (walks.member_at it.name d)) note_table)
    (λ none. ap (λ (o : Option Data). is_met expected.NoteSeverity o && list_all (λ it. is_met it.expected (walks.member_at it.name d)) rest) none)
    ∙ same
    ∙ sym (note_reads (severity_in t) (decoded_member (codes "summary") t) (decoded_or_empty (raw_member (codes "detail") t)) (object_or_none (raw_member (codes "range") t))
    (object_or_none (raw_member (codes "snippet") t)) (decoded_or_empty (raw_member (codes "address") t)))

with_note : (o : Option Note) (n : ℕ) (r : Result (List Note) ScriptError) (b : Bool) → b ≡ is_ok r
    → (is_some o && b) ≡ is_ok (results.◌>>=◌ (results.or_refuse (BadDiagnostic n) o) (λ note. results.◌>>=◌ r (λ notes. Ok (note ∷ notes))))
with_note None n r b is = refl
with_note (Some note) n (Ok notes) b is = is
with_note (Some note) n (Err refusal) b is = is

clean_items : (n : ℕ) (js : json.Items) (ds : Items) → ItemsHaveNumbers js → items_depth js ≤ max_depth → of_items js ≡ Some ds
    → list_all (λ d. clean (in_note d)) (list_of ds) ≡ is_ok (notes_from n (items_of js))
clean_items n json.no_items ds has shallow e = rw (sym (some_is no_items ds e)) refl
clean_items n (json.item j js) ds has shallow e =
    let one = behind (of_json j) (λ d. option_map (item d) (of_items js)) ds e in
    let more = mapped (item one.0) (of_items js) ds one.2 in
    let of : IsOf j one.0 = record { numbers = has.0; shallow = omega (arith, shallow); is = one.1 } in
    rw more.2
    (ap (λ (b : Bool). b && list_all (λ d. clean (in_note d)) (list_of more.0)) (clean_note j one.0 of)
    ∙ with_note (note_in (with_texts part.Diagnostic j)) n (notes_from (suc n) (items_of js)) (list_all (λ d. clean (in_note d)) (list_of more.0))
    (clean_items (suc n) js more.0 has.1 (omega (arith, shallow)) more.1))

abbrev notes_clean : Option Data → Bool
notes_clean o = is_met expected.ArrayOrAbsent o && is_absent_or (all_items (λ d. clean (in_note d))) o

abbrev notes_read : Option Data → Bool
notes_read p = is_ok (notes_in_script p)

-- what is read of a text that is not `null`
of_text : (text : List ℕ) (j : Json) → bytes_eq text (codes "null") ≡ false → json_of_text text ≡ Some j
    → is_ok (results.◌>>=◌ (results.or_refuse (BadShape None) (noted.items_in j)) (notes_from 0)) ≡ notes_read (Some (string text))
of_text text j not is = rw (not, is) refl

one_by : (j : Json) (d : Data) → IsOf j d → is_some (unless_null d) ≡ true
    → is_ok (results.◌>>=◌ (results.or_refuse (BadShape None) (noted.items_in j)) (notes_from 0)) ≡ notes_read (Some (string (text_of j)))
one_by j d of there = of_text (text_of j) j (null_text j d of ∙ ap not there) (read_back j of.numbers of.shallow)

one_notes : (j : Json) (d : Data) → IsOf j d → notes_clean (unless_null d) ≡ notes_read (Some (string (text_of j)))
unfolding print_from
one_notes json.null d of = rw (sym (some_is null d of.is)) refl
one_notes (json.boolean b) d of =
    let e : d ≡ boolean b = sym (some_is (boolean b) d of.is) in
    rw e (one_by (json.boolean b) (boolean b) (subst (IsOf (json.boolean b)) e of) refl)
one_notes (json.number s) d of =
    let it = mapped number (number_of s) d of.is in
    rw it.2 (one_by (json.number s) (number it.0) (subst (IsOf (json.number s)) it.2 of) refl)
one_notes (json.string s) d of =
    let e : d ≡ string s = sym (some_is (string s) d of.is) in
    rw e (one_by (json.string s) (string s) (subst (IsOf (json.string s)) e of) refl)
one_notes (json.array js) d of =
    let it = mapped array (of_items js) d of.is in
    rw it.2
    (clean_items 0 js it.0 of.numbers (omega (arith, of.shallow)) it.1
    ∙ one_by (json.array js) (array it.0) (subst (IsOf (json.array js)) it.2 of) refl)
one_notes (json.object ms) d of =
    let it = mapped object (of_members ms no_members) d of.is in
    rw it.2 (one_by (json.object ms) (object it.0) (subst (IsOf (json.object ms)) it.2 of) refl)

notes_both : (o p : Option Data) → AreOf part.Diagnostics o p → notes_clean (o >>= unless_null) ≡ notes_read p
notes_both None p a = rw a refl
notes_both (Some d) p a =
    rw (a.2) (one_notes a.0 d a.1 ∙ ap (λ (t : Data). notes_read (Some t)) (sym (verbatim_whole part.Diagnostics a.0 refl)))

-- ---- the whole

both_read : (r : Result Members ScriptError) (q : Result (List Note) ScriptError)
    → (is_ok r && is_ok q) ≡ is_ok (results.◌>>=◌ r (λ outputs. results.◌>>=◌ q (λ findings. Ok (with_notes outputs findings))))
both_read (Ok outputs) (Ok findings) = refl
both_read (Ok outputs) (Err refusal) = refl
both_read (Err refusal) q = refl

pub clean_extras : (plan : OutputsOfPlan) (j : Json) (d : Data) → IsOf j d → clean (in_extras (Some plan) d) ≡ is_ok (extras_of_script plan (with_texts part.Script j))
unfolding in_extras
clean_extras plan j d of =
    let t : Data = with_texts part.Script j in
    let fault : List Finding = walks.fault_of d (rule name.Outputs expected.ObjectOrAbsent) in
    let inner : List Finding = inside (in_plan_outputs (Some plan)) name.Outputs d in
    let list : List Finding = in_list (λ number. in_note) (rule name.Diagnostics expected.ArrayOrAbsent) d in
    let outputs : clean (fault ++ inner) ≡ outputs_read plan (get (codes "outputs") t) =
    appended fault inner _ _ (clean-fault_of d (rule name.Outputs expected.ObjectOrAbsent))
    (clean-inside (in_plan_outputs (Some plan)) (λ v. clean (in_plan_outputs (Some plan) v)) (λ v. refl) name.Outputs d)
    ∙ outputs_both plan (get (codes "outputs") d) (get (codes "outputs") t) (at_part part.Script part.Outputs (codes "outputs") refl refl j d of) in
    let diagnostics : clean list ≡ notes_read (get (codes "diagnostics") t) =
    clean-in_list (λ number. in_note) (λ v. clean (in_note v)) (λ n v. refl) (rule name.Diagnostics expected.ArrayOrAbsent) d
    ∙ notes_both (get (codes "diagnostics") d) (get (codes "diagnostics") t) (at_part part.Script part.Diagnostics (codes "diagnostics") refl refl j d of) in
    appended (fault ++ inner) list _ _ outputs diagnostics
    ∙ both_read (unless_faulty plan (outputs_in_script (get (codes "outputs") t))) (notes_in_script (get (codes "diagnostics") t))
