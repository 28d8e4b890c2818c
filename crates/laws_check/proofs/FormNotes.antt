-- What is read of a diagnostic with verbatim members.
use Rattle.std.proofs.Common.{◌≡◌, ℕ, ◌≤◌, List, [], ◌∷◌, ◌++◌, codes, IsUtf8, Bool, true, false, Option, Some, None, refl, sym, ap, ◌∙◌, subst, append_assoc, append-nil, arith}
use Rattle.std.specs.Prelude.{IfSome}
use Rattle.std.proofs.lemmas.Str.{IsUtf8-append, IsUtf8-nil}
use Rattle.json.specs.Json as json
use Rattle.json.specs.Json.{Json}
use Rattle.json.specs.Print.{escape_byte, quoted}
use Rattle.json.specs.Tree as tree
use Rattle.json.proofs.Printed.Utf8.{IsUtf8-are_ascii, IsUtf8-quoted}
use Rattle.serde_json.specs.Data.{Data, Members, no_members, member, string}
use Rattle.serde_json.specs.Read.{max_depth, of_json}
use Rattle.serde_json.specs.Written.{comma_if, compact_text}
use Rattle.apply_json.specs.Verbatim.{verbatim}
use Rattle.apply_json.specs.Tree.{tree_of}
use Rattle.apply_model.specs.declared.script.diag.Diag.{Diag}
use Rattle.apply_text.specs.Laws.{line_feeds}
use Rattle.apply_text.specs.Lines.{message_object}
use Rattle.apply_text.specs.Message.{Message}
use Rattle.apply_text_terraform.specs.Escapes.{escaped}
use Rattle.apply_text_terraform.specs.Verbatim.{verbatim_member, verbatim_members, diagnostic_with, unclosed_members}
use Rattle.apply_text_terraform.specs.Lines.{line_of_text, line_with_verbatim}
use Rattle.apply_text_terraform.specs.UtcTimestamp.{precise_timestamp_text}
use Rattle.apply_text_terraform.specs.Objects.{diagnostic_object, text_if}
use Rattle.laws_check.specs.Forms.{AreVerbatim, IsVerbatim, IsParsedAs, IsOptionalVerbatim, diagnostic_tree, max_verbatim_depth}
use Rattle.laws_check.specs.Objects.{object_at}
use Rattle.laws_check.specs.Sound.{AreSoundMembers, IsSound}
use Rattle.laws_check.specs.Texts.{HasDiagTexts}
use Rattle.laws_check.proofs.EscapedTrees.{escaped_tree, line_read}
use Rattle.laws_check.proofs.FormFeeds.{escaped_feeds, own_feeds}
use Rattle.laws_check.proofs.FormObjects.{diagnostic_message_read, diagnostic_read, diagnostic_sound}
use Rattle.laws_check.proofs.JsonTexts.{json_text, members_text, onto, onto_text, own_is}
use Rattle.laws_check.proofs.ReadBack.{comma_utf8, text_utf8}
use Rattle.laws_check.proofs.Sounds.{fine_utf8}

-- ---- UTF-8

open_utf8 : (later : Bool) (ms : Members) → AreSoundMembers ms → IsUtf8 (unclosed_members later ms)
open_utf8 later no_members h = IsUtf8-nil
open_utf8 later (member k d ms) h =
    IsUtf8-append (comma_if later) (quoted k ++ 58 ∷ (compact_text d ++ unclosed_members true ms)) (comma_utf8 later)
    (IsUtf8-append (quoted k) (58 ∷ (compact_text d ++ unclosed_members true ms)) (IsUtf8-quoted k h.0)
    (IsUtf8-append (58 ∷ []) (compact_text d ++ unclosed_members true ms) (IsUtf8-are_ascii (58 ∷ []) refl)
    (IsUtf8-append (compact_text d) (unclosed_members true ms) (text_utf8 d h.1) (open_utf8 true ms h.2))))

-- ---- the value of a message

-- what every message has
abbrev front_members : (level text moment : List ℕ) → Members
front_members level text moment =
    member (codes "@level") (string level)
    (member (codes "@message") (string text)
    (member (codes "@module") (string (codes "terraform.ui"))
    (member (codes "@timestamp") (string moment) no_members)))

abbrev note_members : (address : Option (List ℕ)) → (severity : List ℕ) → Diag → Members
note_members address severity diag =
    member (codes "severity") (string severity)
    (member (codes "summary") (string diag.summary)
    (member (codes "detail") (string diag.detail)
    (text_if (codes "address") address no_members)))

abbrev note_json : (level text moment : List ℕ) → Members → json.Members → Json
note_json level text moment ms others =
    json.object (onto (front_members level text moment)
    (json.member (codes "diagnostic") (json.object (onto ms others))
    (json.member (codes "type") (json.string (codes "diagnostic")) json.no_members)))

regroup : (a b d k e c : List ℕ) → a ++ (b ++ ((d ++ (k ++ e)) ++ c)) ≡ (a ++ (b ++ d)) ++ (k ++ (e ++ c))
regroup a b d k e c = simp append_assoc

-- the text of the diagnostic, with this verbatim text
note_text : (level text moment : List ℕ) (address : Option (List ℕ)) (severity : List ℕ) (diag : Diag) (others : json.Members) (raw_texts : List ℕ) → members_text true others ≡ raw_texts ++ codes "}"
    → verbatim (note_json level text moment (note_members address severity diag) others)
    ≡ diagnostic_with moment (record { level = level; text = text; name = codes "diagnostic"; body = diagnostic_object address severity diag; type_name = codes "diagnostic" }) raw_texts
unfolding message_object diagnostic_object escape_byte
note_text level text moment address severity diag others raw_texts is =
    let ms = note_members address severity diag in
    let front = front_members level text moment in
    let last : json.Members = json.member (codes "type") (json.string (codes "diagnostic")) json.no_members in
    own_is (note_json level text moment ms others)
    ∙ ap (λ s. 123 ∷ s) (onto_text false front (json.member (codes "diagnostic") (json.object (onto ms others)) last))
    ∙ ap (λ s. 123 ∷ (unclosed_members false front ++ (codes ",\"diagnostic\":" ++ (s ++ codes ",\"type\":\"diagnostic\"}"))))
    (ap (λ s. 123 ∷ s) (onto_text false ms others ∙ ap (λ s. unclosed_members false ms ++ s) is))
    ∙ regroup (123 ∷ unclosed_members false front) (codes ",\"diagnostic\":") (123 ∷ unclosed_members false ms) raw_texts (codes "}") (codes ",\"type\":\"diagnostic\"}")

-- ---- verbatim members

-- members after the others of a diagnostic: their text, and what is read of such a diagnostic
record AreRead (others : json.Members) (raw_texts : List ℕ) (range snippet : Option Data) : Type 0 where
  text : members_text true others ≡ raw_texts ++ codes "}"
  utf8 : IsUtf8 raw_texts
  numbers : tree.MembersHaveNumbers others
  shallow : tree.members_depth others ≤ max_verbatim_depth
  read : (address : Option (List ℕ)) (severity : List ℕ) (diag : Diag) → of_json (json.object (onto (note_members address severity diag) others)) ≡ Some (diagnostic_tree address severity diag range snippet)

regroup_one : (a t e : List ℕ) → a ++ (t ++ e) ≡ ((a ++ t) ++ []) ++ e
regroup_one a t e = sym (append_assoc a t e) ∙ ap (λ s. s ++ e) (sym (append-nil (a ++ t)))

regroup_two : (a t b u e : List ℕ) → a ++ (t ++ (b ++ (u ++ e))) ≡ ((a ++ t) ++ (b ++ u)) ++ e
regroup_two a t b u e = simp append_assoc

pub own_verbatim : (text : List ℕ) (value : Data) → (k : IsVerbatim text value) → json_text k.json ≡ text
own_verbatim text value k = sym (own_is k.json) ∙ sym k.text_is

named_utf8 : (name text : List ℕ) → IsUtf8 name → IsUtf8 text → IsUtf8 (name ++ text)
named_utf8 name text first second = IsUtf8-append name text first second

range_read : (text : List ℕ) (value : Data) → (k : IsVerbatim text value)
    → AreRead (json.member (codes "range") k.json json.no_members) (verbatim_member (codes ",\"range\":") (Some text) ++ verbatim_member (codes ",\"snippet\":") None) (Some value) None
unfolding escape_byte diagnostic_tree
range_read text value k = record {
  text = ap (λ s. codes ",\"range\":" ++ (s ++ codes "}")) (own_verbatim text value k) ∙ regroup_one (codes ",\"range\":") text (codes "}");
  utf8 = IsUtf8-append (codes ",\"range\":" ++ text) [] (named_utf8 (codes ",\"range\":") text (IsUtf8-are_ascii (codes ",\"range\":") refl) k.utf8) IsUtf8-nil;
  numbers = (k.numbers, tt);
  shallow = omega (arith, k.shallow);
  read = at;
}
  where
    at : (address : Option (List ℕ)) (severity : List ℕ) (diag : Diag)
        → of_json (json.object (onto (note_members address severity diag) (json.member (codes "range") k.json json.no_members))) ≡ Some (diagnostic_tree address severity diag (Some value) None)
    at None severity diag = rw k.value_is refl
    at (Some address) severity diag = rw k.value_is refl

snippet_read : (text : List ℕ) (value : Data) → (k : IsVerbatim text value)
    → AreRead (json.member (codes "snippet") k.json json.no_members) (verbatim_member (codes ",\"range\":") None ++ verbatim_member (codes ",\"snippet\":") (Some text)) None (Some value)
unfolding escape_byte diagnostic_tree
snippet_read text value k = record {
  text = ap (λ s. codes ",\"snippet\":" ++ (s ++ codes "}")) (own_verbatim text value k) ∙ sym (append_assoc (codes ",\"snippet\":") text (codes "}"));
  utf8 = named_utf8 (codes ",\"snippet\":") text (IsUtf8-are_ascii (codes ",\"snippet\":") refl) k.utf8;
  numbers = (k.numbers, tt);
  shallow = omega (arith, k.shallow);
  read = at;
}
  where
    at : (address : Option (List ℕ)) (severity : List ℕ) (diag : Diag)
        → of_json (json.object (onto (note_members address severity diag) (json.member (codes "snippet") k.json json.no_members))) ≡ Some (diagnostic_tree address severity diag None (Some value))
    at None severity diag = rw k.value_is refl
    at (Some address) severity diag = rw k.value_is refl

both_read : (text more : List ℕ) (value other : Data) → (k : IsVerbatim text value) (l : IsVerbatim more other)
    → AreRead (json.member (codes "range") k.json (json.member (codes "snippet") l.json json.no_members)) (verbatim_member (codes ",\"range\":") (Some text) ++ verbatim_member (codes ",\"snippet\":") (Some more)) (Some value) (Some other)
unfolding escape_byte diagnostic_tree
both_read text more value other k l = record {
  text = ap (λ s. codes ",\"range\":" ++ (s ++ (codes ",\"snippet\":" ++ (json_text l.json ++ codes "}")))) (own_verbatim text value k)
      ∙ ap (λ s. codes ",\"range\":" ++ (text ++ (codes ",\"snippet\":" ++ (s ++ codes "}")))) (own_verbatim more other l)
      ∙ regroup_two (codes ",\"range\":") text (codes ",\"snippet\":") more (codes "}");
  utf8 = IsUtf8-append (codes ",\"range\":" ++ text) (codes ",\"snippet\":" ++ more) (named_utf8 (codes ",\"range\":") text (IsUtf8-are_ascii (codes ",\"range\":") refl) k.utf8)
      (named_utf8 (codes ",\"snippet\":") more (IsUtf8-are_ascii (codes ",\"snippet\":") refl) l.utf8);
  numbers = (k.numbers, (l.numbers, tt));
  shallow = omega (arith, k.shallow, l.shallow);
  read = at;
}
  where
    at : (address : Option (List ℕ)) (severity : List ℕ) (diag : Diag)
        → of_json (json.object (onto (note_members address severity diag) (json.member (codes "range") k.json (json.member (codes "snippet") l.json json.no_members))))
        ≡ Some (diagnostic_tree address severity diag (Some value) (Some other))
    at None severity diag = rw (k.value_is, l.value_is) refl
    at (Some address) severity diag = rw (k.value_is, l.value_is) refl

-- ---- a line

module _ (seconds : ℕ) (level text : List ℕ) (address : Option (List ℕ)) (severity : List ℕ) (diag : Diag)
    (how : IsUtf8 level) (says : IsUtf8 text) (where_is : IfSome address IsUtf8) (so : IsUtf8 severity) (has : HasDiagTexts diag) where
  -- the message, with that body
  abbrev message : Data → Message
  message body = record { level = level; text = text; name = codes "diagnostic"; body = body; type_name = codes "diagnostic" }

  front_sound : AreSoundMembers (front_members level text (precise_timestamp_text seconds))
  front_sound = (
    IsUtf8-are_ascii (codes "@level") refl,
    how,
    (
      IsUtf8-are_ascii (codes "@message") refl,
      says,
      (
        IsUtf8-are_ascii (codes "@module") refl,
        IsUtf8-are_ascii (codes "terraform.ui") refl,
        (IsUtf8-are_ascii (codes "@timestamp") refl, fine_utf8 seconds, tt),
      ),
    ),
  )

  message_sound : IsSound (object_at (precise_timestamp_text seconds) (message (diagnostic_object address severity diag)))
  unfolding message_object
  message_sound =
      let f = front_sound in (
        f.0,
        f.1,
        (
          f.2.0,
          f.2.1,
          (
            f.2.2.0,
            f.2.2.1,
            (
              f.2.2.2.0,
              f.2.2.2.1,
              (
                IsUtf8-are_ascii (codes "diagnostic") refl,
                diagnostic_sound address severity diag where_is so has,
                (IsUtf8-are_ascii (codes "type") refl, IsUtf8-are_ascii (codes "diagnostic") refl, tt),
              ),
            ),
          ),
        ),
      )

  note_utf8 : (raw_texts : List ℕ) → IsUtf8 raw_texts → IsUtf8 (diagnostic_with (precise_timestamp_text seconds) (message (diagnostic_object address severity diag)) raw_texts)
  unfolding message_object diagnostic_object
  note_utf8 raw_texts is =
      let one = unclosed_members false (front_members level text (precise_timestamp_text seconds)) in
      let two = unclosed_members false (note_members address severity diag) in
      IsUtf8-append ((123 ∷ one) ++ (codes ",\"diagnostic\":" ++ (123 ∷ two))) (raw_texts ++ codes "},\"type\":\"diagnostic\"}")
      (IsUtf8-append (123 ∷ one) (codes ",\"diagnostic\":" ++ (123 ∷ two)) (IsUtf8-append (123 ∷ []) one (IsUtf8-are_ascii (123 ∷ []) refl) (open_utf8 false (front_members level text (precise_timestamp_text seconds)) front_sound))
      (IsUtf8-append (codes ",\"diagnostic\":") (123 ∷ two) (IsUtf8-are_ascii (codes ",\"diagnostic\":") refl)
      (IsUtf8-append (123 ∷ []) two (IsUtf8-are_ascii (123 ∷ []) refl) (open_utf8 false (note_members address severity diag) (diagnostic_sound address severity diag where_is so has)))))
      (IsUtf8-append raw_texts (codes "},\"type\":\"diagnostic\"}") is (IsUtf8-are_ascii (codes "},\"type\":\"diagnostic\"}") refl))

  numbers_of : (address : Option (List ℕ)) (others : json.Members) → tree.MembersHaveNumbers others → tree.HasNumbers (note_json level text (precise_timestamp_text seconds) (note_members address severity diag) others)
  numbers_of None others h = (tt, (tt, (tt, (tt, ((tt, (tt, (tt, h))), (tt, tt))))))
  numbers_of (Some address) others h = (tt, (tt, (tt, (tt, ((tt, (tt, (tt, (tt, h)))), (tt, tt))))))

  depth_of : (address : Option (List ℕ)) (others : json.Members) → tree.members_depth others ≤ max_verbatim_depth → tree.depth (note_json level text (precise_timestamp_text seconds) (note_members address severity diag) others) ≤ max_depth
  depth_of None others h = omega (arith, h)
  depth_of (Some address) others h = omega (arith, h)

  kept_read : (others : json.Members) (raw_texts : List ℕ) (range snippet : Option Data) → AreRead others raw_texts range snippet
      → IsParsedAs (line_of_text (diagnostic_with (precise_timestamp_text seconds) (message (diagnostic_object address severity diag)) raw_texts)) (object_at (precise_timestamp_text seconds) (message (diagnostic_tree address severity diag range snippet)))
  unfolding message_object
  kept_read others raw_texts range snippet are =
      let written = diagnostic_with (precise_timestamp_text seconds) (message (diagnostic_object address severity diag)) raw_texts in
      let same = note_text level text (precise_timestamp_text seconds) address severity diag others raw_texts are.text in
      record {
        text = escaped written;
        line_is = refl;
        no_feed = escaped_feeds written
            (ap line_feeds (sym same) ∙ own_feeds (note_json level text (precise_timestamp_text seconds) (note_members address severity diag) others) (numbers_of address others are.numbers));
        tree_is = ap (λ t. tree_of (escaped t)) (sym same)
            ∙ escaped_tree (note_json level text (precise_timestamp_text seconds) (note_members address severity diag) others) (numbers_of address others are.numbers) (subst IsUtf8 (sym same) (note_utf8 raw_texts are.utf8)) (depth_of address others are.shallow)
            ∙ rw (are.read address severity diag) refl;
      }

  either_read : (r s : Option (List ℕ)) (range snippet : Option Data) → IsOptionalVerbatim r range → IsOptionalVerbatim s snippet
      → IsParsedAs (line_with_verbatim seconds (message (diagnostic_object address severity diag)) (verbatim_member (codes ",\"range\":") r ++ verbatim_member (codes ",\"snippet\":") s))
      (object_at (precise_timestamp_text seconds) (message (diagnostic_tree address severity diag range snippet)))
  either_read None None None None k l =
      line_read (object_at (precise_timestamp_text seconds) (message (diagnostic_object address severity diag))) (object_at (precise_timestamp_text seconds) (message (diagnostic_tree address severity diag None None))) message_sound
      (diagnostic_message_read level text (precise_timestamp_text seconds) (codes "diagnostic") (diagnostic_object address severity diag) (diagnostic_tree address severity diag None None) (diagnostic_read address severity diag))
  either_read (Some t) None (Some v) None k l = kept_read (json.member (codes "range") k.json json.no_members) _ (Some v) None (range_read t v k)
  either_read None (Some u) None (Some w) k l = kept_read (json.member (codes "snippet") l.json json.no_members) _ None (Some w) (snippet_read u w l)
  either_read (Some t) (Some u) (Some v) (Some w) k l =
      kept_read (json.member (codes "range") k.json (json.member (codes "snippet") l.json json.no_members)) _ (Some v) (Some w) (both_read t u v w k l)
  either_read None s (Some v) snippet k l = absurd k
  either_read (Some t) s None snippet k l = absurd k
  either_read None None None (Some w) k l = absurd l
  either_read None (Some u) None None k l = absurd l
  either_read (Some t) None (Some v) (Some w) k l = absurd l
  either_read (Some t) (Some u) (Some v) None k l = absurd l

  -- with verbatim members, or without
  pub note_read : (range snippet : Option Data) → AreVerbatim diag range snippet
      → IsParsedAs (line_with_verbatim seconds (message (diagnostic_object address severity diag)) (verbatim_members diag)) (object_at (precise_timestamp_text seconds) (message (diagnostic_tree address severity diag range snippet)))
  note_read range snippet are = either_read diag.range diag.snippet range snippet are.range_is are.snippet_is
