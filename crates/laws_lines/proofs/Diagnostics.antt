-- What the lines of diagnostics state.
use Rattle.std.proofs.Common.{◌≡◌, ℕ, ◌≤◌, List, codes, IsUtf8, Option, Some, None, refl, sym, ap, ap₂, ◌∙◌, subst, arith}
use Rattle.json.specs.Json as json
use Rattle.json.specs.Json.{Json}
use Rattle.json.specs.Tree as tree
use Rattle.json.proofs.Printed.Utf8.{IsUtf8-are_ascii}
use Rattle.serde_json.specs.Data.{Data, Members, member, no_members, string}
use Rattle.serde_json.specs.Read.{max_depth, of_json}
use Rattle.serde_json.specs.Written.{compact_text, outline}
use Rattle.serde_json.proofs.Texts.{print-outline}
use Rattle.apply_json.specs.Tree.{◌>>=◌, unless_empty}
use Rattle.apply_json.specs.Verbatim.{verbatim}
use Rattle.apply_model.specs.declared.details.note.Note.{Note}
use Rattle.apply_model.specs.declared.details.note.Severity.{Severity}
use Rattle.apply_model.specs.declared.details.note.Severity.TheVariants.{Error, Warning}
use Rattle.apply_model.specs.declared.script.diag.Diag.{Diag}
use Rattle.apply_text.specs.Lines.{message_object}
use Rattle.apply_text.specs.Message.{Message}
use Rattle.apply_text.specs.Objects as plain
use Rattle.stream_record_lines.specs.declared.event.Event.TheVariants as event
use Rattle.stream_record_lines.specs.JsonMembers.{if_object, member_json}
use Rattle.stream_record_lines.specs.Messages.{message_of, object_json}
use Rattle.laws_check.specs.Forms.{diagnostic_tree}
use Rattle.laws_check.specs.Sound.{IsSound}
use Rattle.laws_check.specs.Texts.{HasDiagTexts}
use Rattle.laws_check.proofs.FormObjects.{diagnostic_plain}
use Rattle.laws_check.proofs.JsonTexts.{onto}
use Rattle.laws_lines.proofs.HookMessages.{at, object_at}
use Rattle.laws_lines.proofs.RawTexts.{IsPlainValue, IsTextOf, member_is, own_text, plain_outline}

-- ---- the tree of a message

abbrev pub severity_word : Severity → List ℕ
severity_word Error = codes "error"
severity_word Warning = codes "warning"

abbrev pub diagnostic_with_body : (level says : List ℕ) → Data → Message
diagnostic_with_body level says body = record { level = level; text = says; name = codes "diagnostic"; body = body; type_name = codes "diagnostic" }

pub severity_utf8 : (severity : Severity) → IsUtf8 (severity_word severity)
severity_utf8 Error = IsUtf8-are_ascii (codes "error") refl
severity_utf8 Warning = IsUtf8-are_ascii (codes "warning") refl

-- a diagnostic whose range and snippet are read of the text of the message
abbrev pub read_of : (raw : List ℕ) → Severity → (summary detail : List ℕ) → (address : Option (List ℕ)) → Note
read_of raw severity summary detail address = record {
  severity = severity;
  diag = record { summary = summary; detail = detail; range = object_json (codes "range") raw; snippet = object_json (codes "snippet") raw };
  address = address >>= unless_empty;
}

module _ (raw moment level says : List ℕ) where
  pub tree_says : (address : Option (List ℕ)) (severity : Severity) (diag : Diag) (range snippet : Option Data)
      → message_of raw (object_at moment (diagnostic_with_body level says (diagnostic_tree address (severity_word severity) diag range snippet)))
      ≡ Some (at moment (event.Diagnostic (read_of raw severity diag.summary diag.detail address)))
  unfolding message_object diagnostic_tree
  tree_says None Error diag None None = refl
  tree_says None Error diag None (Some w) = refl
  tree_says None Error diag (Some v) None = refl
  tree_says None Error diag (Some v) (Some w) = refl
  tree_says (Some a) Error diag None None = refl
  tree_says (Some a) Error diag None (Some w) = refl
  tree_says (Some a) Error diag (Some v) None = refl
  tree_says (Some a) Error diag (Some v) (Some w) = refl
  tree_says None Warning diag None None = refl
  tree_says None Warning diag None (Some w) = refl
  tree_says None Warning diag (Some v) None = refl
  tree_says None Warning diag (Some v) (Some w) = refl
  tree_says (Some a) Warning diag None None = refl
  tree_says (Some a) Warning diag None (Some w) = refl
  tree_says (Some a) Warning diag (Some v) None = refl
  tree_says (Some a) Warning diag (Some v) (Some w) = refl

-- ---- the text of a message

-- what every message has
abbrev pub front_members : (level says moment : List ℕ) → Members
front_members level says moment =
    member (codes "@level") (string level)
    (member (codes "@message") (string says)
    (member (codes "@module") (string (codes "terraform.ui"))
    (member (codes "@timestamp") (string moment) no_members)))

-- a message with this diagnostic
abbrev pub line_json : (level says moment : List ℕ) → (diagnostic : Json) → Json
line_json level says moment diagnostic =
    json.object (onto (front_members level says moment)
    (json.member (codes "diagnostic") diagnostic
    (json.member (codes "type") (json.string (codes "diagnostic")) json.no_members)))

-- the diagnostic as JSON text
pub diagnostic_is : (raw level says moment : List ℕ) (j : Json) (d : Data) → of_json j ≡ Some d → IsTextOf raw (line_json level says moment j) → member_json (codes "diagnostic") raw ≡ Some (verbatim j)
diagnostic_is raw level says moment j d is text =
    member_is (codes "diagnostic") raw
    (onto (front_members level says moment) (json.member (codes "diagnostic") j (json.member (codes "type") (json.string (codes "diagnostic")) json.no_members))) text
    ∙ rw is refl

-- a member of the diagnostic, if it is an object
pub object_is : (name raw inner : List ℕ) (o : Option (List ℕ)) → member_json (codes "diagnostic") raw ≡ Some inner → member_json name inner ≡ o → object_json name raw ≡ o >>= if_object
object_is name raw inner o outer there = ap (λ (x : Option (List ℕ)). (x >>= member_json name) >>= if_object) outer ∙ ap (λ (x : Option (List ℕ)). x >>= if_object) there

-- ---- the default form

module _ (address severity : List ℕ) (diag : Diag) where
  abbrev pub plain_json : Json
  plain_json =
      json.object (json.member (codes "address") (json.string address)
      (json.member (codes "detail") (json.string diag.detail)
      (json.member (codes "severity") (json.string severity)
      (json.member (codes "summary") (json.string diag.summary) json.no_members))))

  pub plain_json_is : outline (plain.diagnostic_object address severity diag) ≡ plain_json
  unfolding plain.diagnostic_object
  plain_json_is = refl

  plain_value : IsUtf8 address → IsUtf8 severity → HasDiagTexts diag → IsPlainValue plain_json
  plain_value is so has = record {
    clear = (
      IsUtf8-are_ascii (codes "address") refl,
      is,
      (
        IsUtf8-are_ascii (codes "detail") refl,
        has.detail,
        (IsUtf8-are_ascii (codes "severity") refl, so, (IsUtf8-are_ascii (codes "summary") refl, has.summary, tt)),
      ),
    );
    numbers = (tt, (tt, (tt, (tt, tt))));
    shallow = omega arith;
  }

  plain_tree : (d : Data) × (of_json plain_json ≡ Some d)
  unfolding plain.diagnostic_object
  plain_tree = (plain.diagnostic_object address severity diag, refl)

  -- no member but these four
  pub plain_range : IsUtf8 address → IsUtf8 severity → HasDiagTexts diag → member_json (codes "range") (verbatim plain_json) ≡ None
  plain_range is so has = member_is (codes "range") (verbatim plain_json) _ (own_text plain_json (plain_value is so has)) ∙ refl

  pub plain_snippet : IsUtf8 address → IsUtf8 severity → HasDiagTexts diag → member_json (codes "snippet") (verbatim plain_json) ≡ None
  plain_snippet is so has = member_is (codes "snippet") (verbatim plain_json) _ (own_text plain_json (plain_value is so has)) ∙ refl

-- the line of a diagnostic in the default form
module _ (level says moment address : List ℕ) (severity : Severity) (diag : Diag) where
  abbrev pub plain_object : Data
  plain_object = object_at moment (diagnostic_with_body level says (plain.diagnostic_object address (severity_word severity) diag))

  plain_outline_is : outline plain_object ≡ line_json level says moment (plain_json address (severity_word severity) diag)
  unfolding message_object plain.diagnostic_object
  plain_outline_is = refl

  plain_depth : tree.depth (outline plain_object) ≤ max_depth
  unfolding message_object plain.diagnostic_object
  plain_depth = omega arith

  plain_text : IsSound plain_object → IsTextOf (compact_text plain_object) (line_json level says moment (plain_json address (severity_word severity) diag))
  plain_text sound =
      subst (λ (t : List ℕ). IsTextOf t (line_json level says moment (plain_json address (severity_word severity) diag))) (print-outline plain_object)
      (subst (λ (j : Json). IsTextOf (verbatim (outline plain_object)) j) plain_outline_is (own_text (outline plain_object) (plain_outline plain_object sound plain_depth)))

  plain_tree_says : (raw : List ℕ) → message_of raw plain_object ≡ Some (at moment (event.Diagnostic (read_of raw severity diag.summary diag.detail (Some address))))
  plain_tree_says raw =
      ap (λ (body : Data). message_of raw (object_at moment (diagnostic_with_body level says body))) (sym (diagnostic_plain address (severity_word severity) diag))
      ∙ tree_says raw moment level says (Some address) severity diag None None

  pub plain_says : IsSound plain_object → IsUtf8 address → HasDiagTexts diag
      → message_of (compact_text plain_object) plain_object
      ≡ Some (at moment (event.Diagnostic (record { severity = severity; diag = record { summary = diag.summary; detail = diag.detail; range = None; snippet = None }; address = unless_empty address })))
  plain_says sound utf8 has =
      let raw = compact_text plain_object in
      let text = plain_text sound in
      let so = severity_utf8 severity in
      let word = severity_word severity in
      let j = plain_json address word diag in
      let outer = diagnostic_is raw level says moment j (plain_tree address word diag).0 (plain_tree address word diag).1 text in
      let range = object_is (codes "range") raw (verbatim j) None outer (plain_range address word diag utf8 so has) in
      let snippet = object_is (codes "snippet") raw (verbatim j) None outer (plain_snippet address word diag utf8 so has) in
      plain_tree_says raw
      ∙ ap₂ (λ (range snippet : Option (List ℕ)). Some (at moment (event.Diagnostic (record { severity = severity; diag = record { summary = diag.summary; detail = diag.detail; range = range; snippet = snippet }; address = unless_empty address })))) range snippet
