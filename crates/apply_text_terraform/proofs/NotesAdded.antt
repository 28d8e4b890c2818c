-- The line of a diagnostic, with its verbatim members, appended to others.
use Rattle.std.proofs.Common.{◌≡◌, ℕ, ◌+◌, ◌-◌, List, [], ◌∷◌, ◌++◌, codes, length, take, OnOk, IsOk, Bool, true, false, Option, refl, sym, ap, ◌∙◌, append_assoc, length-append, arith}
use Rattle.std.specs.Prelude.{Result}
use Rattle.std.proofs.Math.Seq.{take-append_seam}
use Rattle.std.proofs.lemmas.Result.{on_ok_weaker}
use Rattle.json.specs.Token.{Token}
use Rattle.json.specs.Print.{escape, escape_byte, print, quoted}
use Rattle.serde_json.specs.Data.{object, Members, no_members, member, string}
use Rattle.serde_json.specs.Written.{comma_if, compact_text, members_text}
use Rattle.serde_json.proofs.Texts.{print-outline}
use Rattle.apply_model.specs.declared.script.diag.Diag.{Diag}
use Rattle.apply_model.specs.declared.script.outcome.Outcome.{Outcome}
use Rattle.apply_events.specs.declared.what.What.{What}
use Rattle.apply_events.specs.declared.what.What.TheVariants.{Start, Progress, Complete, Errored, ErrorNote, WarnNote, Halted, ProvisionStart, ProvisionOutput, ProvisionComplete, ProvisionErrored}
use Rattle.apply_text.specs.Lines.{message_object, typed}
use Rattle.apply_text.specs.Message.{Message}
use Rattle.apply_text.specs.Sending.{data_tokens}
use Rattle.apply_text_terraform.specs.Verbatim.{verbatim_member, verbatim_members, diagnostic_end, diagnostic_front, diagnostic_with, unclosed_members, unclosed_object}
use Rattle.apply_text_terraform.specs.Lines.{line_of_text, line_with_verbatim}
use Rattle.apply_text_terraform.specs.Message.{verbatim_of}
use Rattle.apply_text_terraform.specs.UtcTimestamp.{precise_timestamp_text}
use Rattle.apply_text_terraform.specs.Objects.{diagnostic_object, text_if}
use Rattle.apply_text_terraform.proofs.LinesAdded.{known, object_of}

-- ---- an object is its text without the closing bracket, and that bracket

member_apart : (a b c d e : List ℕ) → a ++ (b ++ (c ++ (d ++ e))) ≡ (a ++ (b ++ (c ++ d))) ++ e
member_apart a b c d e = simp append_assoc

all_members : (ms : Members) (later : Bool) → members_text later ms ≡ unclosed_members later ms ++ 125 ∷ []
all_members no_members later = refl
all_members (member name d ms) later =
    ap (λ t. comma_if later ++ (quoted name ++ 58 ∷ (compact_text d ++ t))) (all_members ms true)
    ∙ member_apart (comma_if later) (quoted name) (58 ∷ compact_text d) (unclosed_members true ms) (125 ∷ [])

-- the text after the diagnostic of a message
abbrev its_type : List ℕ
its_type = codes ",\"type\":\"diagnostic\"}"

ends : (ms : Members) → compact_text (object ms) ++ its_type ≡ unclosed_object (object ms) ++ diagnostic_end
ends ms = ap (λ t. (123 ∷ t) ++ its_type) (all_members ms false) ∙ append_assoc (123 ∷ unclosed_members false ms) (125 ∷ []) its_type

nested : (a p b q m r o e : List ℕ) → a ++ (p ++ (b ++ (q ++ (m ++ (r ++ (o ++ e)))))) ≡ ((a ++ (p ++ (b ++ (q ++ (m ++ []))))) ++ (r ++ o)) ++ e
nested a p b q m r o e = simp append_assoc

of_parts : (level text timestamp : List ℕ) (ms : Members) → compact_text (message_object level text timestamp (typed (codes "diagnostic") (object ms) (codes "diagnostic")))
    ≡ (unclosed_object (message_object level text timestamp no_members) ++ (codes ",\"diagnostic\":" ++ unclosed_object (object ms))) ++ diagnostic_end
unfolding message_object escape_byte
of_parts level text timestamp ms =
    let a = escape level ++ 34 ∷ [] in
    let b = escape text ++ 34 ∷ [] in
    let m = escape timestamp ++ 34 ∷ [] in
    let begin = codes "{\"@level\":\"" in
    let p = codes ",\"@message\":\"" in
    let q = codes ",\"@module\":\"terraform.ui\",\"@timestamp\":\"" in
    let r = codes ",\"diagnostic\":" in
    ap (λ t. begin ++ (a ++ (p ++ (b ++ (q ++ (m ++ (r ++ t))))))) (ends ms) ∙ ap (λ t. begin ++ t) (nested a p b q m r (unclosed_object (object ms)) diagnostic_end)

-- ---- a message about a diagnostic

pub record IsOfDiagnostic (message : Message) : Type 0 where
  pub name : message.name ≡ codes "diagnostic"
  pub type_name : message.type_name ≡ codes "diagnostic"
  pub members : Members
  pub body : message.body ≡ object members

whole : (timestamp : List ℕ) (message : Message) → IsOfDiagnostic message → compact_text (object_of timestamp message) ≡ diagnostic_front timestamp message ++ diagnostic_end
whole timestamp message is =
    let head = unclosed_object (message_object message.level message.text timestamp no_members) in
    ap (λ name. compact_text (message_object message.level message.text timestamp (typed name message.body message.type_name))) is.name
    ∙ ap (λ type_name. compact_text (message_object message.level message.text timestamp (typed (codes "diagnostic") message.body type_name))) is.type_name
    ∙ ap (λ body. compact_text (message_object message.level message.text timestamp (typed (codes "diagnostic") body (codes "diagnostic")))) is.body
    ∙ of_parts message.level message.text timestamp is.members
    ∙ sym (ap (λ body. (head ++ (codes ",\"diagnostic\":" ++ unclosed_object body)) ++ diagnostic_end) is.body)

line_written : (seconds : ℕ) (message : Message) (verbatim : List ℕ) → IsOfDiagnostic message → line_of_text (diagnostic_with (precise_timestamp_text seconds) message verbatim) ≡ line_with_verbatim seconds message verbatim
line_written seconds message [] is = ap line_of_text (sym (whole (precise_timestamp_text seconds) message is))
line_written seconds message (byte ∷ bytes) is = refl

-- the written message, with its verbatim members
pub note_added : {E F : Type 0} (r : Result (Unit {0}) E) (w : Result (Unit {0}) F) (old before new timestamp verbatim verbatim₂ : List ℕ) (start tokens : List Token) (seconds : ℕ) (message : Message)
    → IsOfDiagnostic message
    → before ≡ old
    → start ≡ []
    → OnOk w (tokens ≡ start ++ data_tokens (object_of timestamp message))
    → OnOk r (IsOk w × ((front : List ℕ) → print tokens ≡ front ++ diagnostic_end → new ≡ before ++ line_of_text (front ++ (verbatim ++ diagnostic_end))))
    → timestamp ≡ precise_timestamp_text seconds
    → verbatim ≡ verbatim₂
    → OnOk r (new ≡ old ++ line_with_verbatim seconds message verbatim₂)
note_added r w old before new timestamp verbatim verbatim₂ start tokens seconds message is same none sent ended moments keeps =
    on_ok_weaker r (λ h.
    let all : tokens ≡ data_tokens (object_of timestamp message) = known w h.0 sent ∙ ap (λ s. s ++ data_tokens (object_of timestamp message)) none in
    let text : print tokens ≡ diagnostic_front timestamp message ++ diagnostic_end = ap print all ∙ print-outline (object_of timestamp message) ∙ whole timestamp message is in
    h.1 (diagnostic_front timestamp message) text
    ∙ ap (λ b. b ++ line_of_text (diagnostic_with timestamp message verbatim)) same
    ∙ ap (λ m. old ++ line_of_text (diagnostic_with m message verbatim)) moments
    ∙ ap (λ k. old ++ line_of_text (diagnostic_with (precise_timestamp_text seconds) message k)) keeps
    ∙ ap (λ line. old ++ line) (line_written seconds message verbatim₂ is)) ended

-- the body of a diagnostic's message is an object
pub stated_members : (address : Option (List ℕ)) (severity : List ℕ) (diag : Diag) → (ms : Members) × (diagnostic_object address severity diag ≡ object ms)
unfolding diagnostic_object
stated_members address severity diag = (
  member (codes "severity") (string severity) (member (codes "summary") (string diag.summary) (member (codes "detail") (string diag.detail) (text_if (codes "address") address no_members))),
  refl,
)

-- ---- an event that is no diagnostic has no verbatim members

pub keeps_nothing : (outcome : Outcome) (what : What) → (what ≡ ErrorNote → ⊥) → (what ≡ WarnNote → ⊥) → verbatim_of outcome what ≡ []
keeps_nothing outcome Start error warning = refl
keeps_nothing outcome (Progress seconds) error warning = refl
keeps_nothing outcome (Complete seconds) error warning = refl
keeps_nothing outcome (Errored seconds) error warning = refl
keeps_nothing outcome ErrorNote error warning = absurd (error refl)
keeps_nothing outcome WarnNote error warning = absurd (warning refl)
keeps_nothing outcome (Halted phase hook) error warning = refl
keeps_nothing outcome (ProvisionStart i) error warning = refl
keeps_nothing outcome (ProvisionOutput i line) error warning = refl
keeps_nothing outcome (ProvisionComplete i) error warning = refl
keeps_nothing outcome (ProvisionErrored i) error warning = refl

-- ---- verbatim members go in before the end

cut_front : (front old : List ℕ) (n : ℕ) → old ≡ front ++ diagnostic_end → n ≡ length old - 22 → take n old ≡ front
cut_front front old n is size =
    let whole : length old ≡ length front + 22 = ap length is ∙ length-append front diagnostic_end in
    let same : n ≡ length front = omega (arith, whole, size) in
    ap (λ (m : ℕ). take m old) same ∙ ap (take (length front)) is ∙ take-append_seam front diagnostic_end

kept_apart : (front range snippet end : List ℕ) → ((front ++ range) ++ snippet) ++ end ≡ front ++ ((range ++ snippet) ++ end)
kept_apart front range snippet end = simp append_assoc

pub kept_put : {E : Type 0} (r : Result (Unit {0}) E) (old cut one two new : List ℕ) (n : ℕ) (diag : Diag)
    → n ≡ length old - 22
    → cut ≡ take n old
    → one ≡ cut ++ verbatim_member (codes ",\"range\":") diag.range
    → two ≡ one ++ verbatim_member (codes ",\"snippet\":") diag.snippet
    → OnOk r (new ≡ two ++ diagnostic_end)
    → OnOk r ((front : List ℕ) → old ≡ front ++ diagnostic_end → new ≡ front ++ (verbatim_members diag ++ diagnostic_end))
kept_put r old cut one two new n diag size is_cut is_one is_two grown =
    let range = verbatim_member (codes ",\"range\":") diag.range in
    let snippet = verbatim_member (codes ",\"snippet\":") diag.snippet in
    on_ok_weaker r (λ e front is.
    e ∙ ap (λ (t : List ℕ). t ++ diagnostic_end) (is_two ∙ ap (λ (t : List ℕ). t ++ snippet) (is_one ∙ ap (λ (t : List ℕ). t ++ range) (is_cut ∙ cut_front front old n is size)))
    ∙ kept_apart front range snippet diagnostic_end) grown
