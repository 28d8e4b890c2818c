-- What the lines of diagnostics state in Terraform's form.
use Rattle.std.proofs.Common.{◌≡◌, ℕ, ◌≤◌, List, [], ◌∷◌, ◌++◌, codes, false, true, IsUtf8, Option, Some, None, option_map, refl, sym, ap, ap₂, ◌∙◌, subst, append_assoc, append-nil, arith}
use Rattle.std.specs.Prelude.{IfSome}
use Rattle.json.specs.Json as json
use Rattle.json.specs.Json.{Json}
use Rattle.json.specs.Print.{escape_byte}
use Rattle.json.specs.Tree as tree
use Rattle.json.proofs.Printed.Utf8.{IsUtf8-are_ascii}
use Rattle.serde_json.specs.Data.{Data, Members, member, no_members, object, string}
use Rattle.serde_json.specs.Find.{as_str, get}
use Rattle.serde_json.specs.Read.{of_json}
use Rattle.serde_json.specs.Written.{compact_text, outline}
use Rattle.serde_json.proofs.Texts.{print-outline}
use Rattle.apply_json.specs.Tree.{◌>>=◌, unless_empty}
use Rattle.apply_json.specs.Verbatim.{mixed_members, verbatim}
use Rattle.apply_model.specs.declared.details.note.Note.{Note}
use Rattle.apply_model.specs.declared.details.note.Severity.{Severity}
use Rattle.apply_model.specs.declared.script.diag.Diag.{Diag}
use Rattle.apply_text.specs.Lines.{message_object}
use Rattle.apply_text_terraform.specs.Escapes.{escaped}
use Rattle.apply_text_terraform.specs.Lines.{line_with_verbatim}
use Rattle.apply_text_terraform.specs.Objects.{diagnostic_object, text_if}
use Rattle.apply_text_terraform.specs.UtcTimestamp.{precise_timestamp_text}
use Rattle.apply_text_terraform.specs.Verbatim.{diagnostic_with, unclosed_members, verbatim_member, verbatim_members}
use Rattle.stream_record_lines.specs.declared.event.Event.TheVariants as event
use Rattle.stream_record_lines.specs.JsonMembers.{each_member, if_object, member_json}
use Rattle.stream_record_lines.specs.Messages.{message_of}
use Rattle.laws_check.specs.Forms.{AreVerbatim, IsOptionalVerbatim, IsVerbatim, diagnostic_tree, max_verbatim_depth}
use Rattle.laws_check.specs.Sound.{AreSoundMembers}
use Rattle.laws_check.specs.Texts.{HasDiagTexts}
use Rattle.laws_check.proofs.FormObjects.{diagnostic_sound}
use Rattle.laws_check.proofs.JsonTexts.{members_text, onto, onto_text, own_is}
use Rattle.laws_check.proofs.Legible.{HaveClear, IsClear}
use Rattle.laws_check.proofs.Sounds.{fine_utf8}
use Rattle.laws_lines.specs.Notes.{note_in_form}
use Rattle.laws_lines.proofs.Diagnostics.{diagnostic_is, diagnostic_with_body, front_members, line_json, object_is, severity_utf8, severity_word, tree_says}
use Rattle.laws_lines.proofs.HookMessages.{at, object_at}
use Rattle.laws_lines.proofs.Says.{Says}
use Rattle.laws_lines.proofs.RawTexts.{IsPlainValue, clear_value, escaped_text, member_is, onto_clear, onto_numbers, own_text, tree_is}

-- ---- values that are copied verbatim

pub record IsCopied (j : Json) : Type 0 where
  pub clear : IsClear j
  pub numbers : tree.HasNumbers j
  pub shallow : tree.depth j ≤ max_verbatim_depth
  pub tree : Data
  pub tree_is : of_json j ≡ Some tree

pub copied : (text : List ℕ) (value : Data) → (k : IsVerbatim text value) → IsCopied k.json
copied text value k = record {
  clear = clear_value k.json k.numbers (subst IsUtf8 k.text_is k.utf8) (omega (arith, k.shallow));
  numbers = k.numbers;
  shallow = k.shallow;
  tree = value;
  tree_is = k.value_is;
}

-- the text, if there is one, is that of the value
record IsCopiedFrom (text : Option (List ℕ)) : Type 0 where
  value : Option Json
  text_is : text ≡ option_map verbatim value
  is_copied : IfSome value IsCopied

copied_from : (text : Option (List ℕ)) (value : Option Data) → IsOptionalVerbatim text value → IsCopiedFrom text
copied_from None None k = record { value = None; text_is = refl; is_copied = tt }
copied_from None (Some value) k = absurd k
copied_from (Some text) None k = absurd k
copied_from (Some text) (Some value) k = record { value = Some k.json; text_is = ap Some k.text_is; is_copied = copied text value k }

tree_if : (o : Option Json) → IfSome o IsCopied → Option Data
tree_if None is = None
tree_if (Some j) is = Some is.tree

-- ---- the members of a diagnostic

abbrev others_of : (range snippet : Option Json) → json.Members
others_of None None = json.no_members
others_of None (Some w) = json.member (codes "snippet") w json.no_members
others_of (Some v) None = json.member (codes "range") v json.no_members
others_of (Some v) (Some w) = json.member (codes "range") v (json.member (codes "snippet") w json.no_members)

abbrev verbatim_texts : (range snippet : Option (List ℕ)) → List ℕ
verbatim_texts range snippet = verbatim_member (codes ",\"range\":") range ++ verbatim_member (codes ",\"snippet\":") snippet

regroup_one : (a t e : List ℕ) → a ++ (t ++ e) ≡ ((a ++ t) ++ []) ++ e
regroup_one a t e = sym (append_assoc a t e) ∙ ap (λ s. s ++ e) (sym (append-nil (a ++ t)))

regroup_two : (a t b u e : List ℕ) → a ++ (t ++ (b ++ (u ++ e))) ≡ ((a ++ t) ++ (b ++ u)) ++ e
regroup_two a t b u e = simp append_assoc

others_text : (range snippet : Option Json) → members_text true (others_of range snippet) ≡ verbatim_texts (option_map verbatim range) (option_map verbatim snippet) ++ codes "}"
unfolding escape_byte
others_text None None = refl
others_text None (Some w) = ap (λ s. codes ",\"snippet\":" ++ (s ++ codes "}")) (sym (own_is w)) ∙ sym (append_assoc (codes ",\"snippet\":") (verbatim w) (codes "}"))
others_text (Some v) None = ap (λ s. codes ",\"range\":" ++ (s ++ codes "}")) (sym (own_is v)) ∙ regroup_one (codes ",\"range\":") (verbatim v) (codes "}")
others_text (Some v) (Some w) =
    ap₂ (λ (s t : List ℕ). codes ",\"range\":" ++ (s ++ (codes ",\"snippet\":" ++ (t ++ codes "}")))) (sym (own_is v)) (sym (own_is w))
    ∙ regroup_two (codes ",\"range\":") (verbatim v) (codes ",\"snippet\":") (verbatim w) (codes "}")

others_clear : (range snippet : Option Json) → IfSome range IsCopied → IfSome snippet IsCopied → HaveClear (others_of range snippet)
others_clear None None v w = tt
others_clear None (Some s) v w = (IsUtf8-are_ascii (codes "snippet") refl, w.clear, tt)
others_clear (Some r) None v w = (IsUtf8-are_ascii (codes "range") refl, v.clear, tt)
others_clear (Some r) (Some s) v w = (IsUtf8-are_ascii (codes "range") refl, v.clear, (IsUtf8-are_ascii (codes "snippet") refl, w.clear, tt))

others_numbers : (range snippet : Option Json) → IfSome range IsCopied → IfSome snippet IsCopied → tree.MembersHaveNumbers (others_of range snippet)
others_numbers None None v w = tt
others_numbers None (Some s) v w = (w.numbers, tt)
others_numbers (Some r) None v w = (v.numbers, tt)
others_numbers (Some r) (Some s) v w = (v.numbers, (w.numbers, tt))

others_depth : (range snippet : Option Json) → IfSome range IsCopied → IfSome snippet IsCopied → tree.members_depth (others_of range snippet) ≤ max_verbatim_depth
others_depth None None v w = omega arith
others_depth None (Some s) v w = omega (arith, w.shallow)
others_depth (Some r) None v w = omega (arith, v.shallow)
others_depth (Some r) (Some s) v w = omega (arith, v.shallow, w.shallow)

abbrev note_members : (address : Option (List ℕ)) → (severity : List ℕ) → Diag → Members
note_members address severity diag =
    member (codes "severity") (string severity)
    (member (codes "summary") (string diag.summary)
    (member (codes "detail") (string diag.detail)
    (text_if (codes "address") address no_members)))

abbrev form_json : (address : Option (List ℕ)) → (severity : List ℕ) → Diag → json.Members → Json
form_json address severity diag others = json.object (onto (note_members address severity diag) others)

-- ---- a diagnostic with its range and its snippet

module _ (severity : List ℕ) (diag : Diag) (so : IsUtf8 severity) (has : HasDiagTexts diag) (range snippet : Option Json) (v : IfSome range IsCopied) (w : IfSome snippet IsCopied) where
  abbrev whole : (address : Option (List ℕ)) → Json
  whole address = form_json address severity diag (others_of range snippet)

  members_sound : (address : Option (List ℕ)) → IfSome address IsUtf8 → AreSoundMembers (note_members address severity diag)
  unfolding diagnostic_object
  members_sound address is = diagnostic_sound address severity diag is so has

  inner_depth : (address : Option (List ℕ)) → tree.depth (whole address) ≤ 125
  inner_depth None = omega (arith, others_depth range snippet v w)
  inner_depth (Some a) = omega (arith, others_depth range snippet v w)

  inner_value : (address : Option (List ℕ)) → IfSome address IsUtf8 → IsPlainValue (whole address)
  inner_value address is = record {
    clear = onto_clear (note_members address severity diag) (others_of range snippet) (members_sound address is) (others_clear range snippet v w);
    numbers = onto_numbers (note_members address severity diag) (others_of range snippet) (members_sound address is) (others_numbers range snippet v w);
    shallow = omega (arith, inner_depth address);
  }

of_form : (severity : List ℕ) (diag : Diag) (address : Option (List ℕ)) (range snippet : Option Json) (v : IfSome range IsCopied) (w : IfSome snippet IsCopied)
    → of_json (form_json address severity diag (others_of range snippet)) ≡ Some (diagnostic_tree address severity diag (tree_if range v) (tree_if snippet w))
unfolding diagnostic_tree tree_if
of_form severity diag None None None v w = refl
of_form severity diag None None (Some s) v w = rw w.tree_is refl
of_form severity diag None (Some r) None v w = rw v.tree_is refl
of_form severity diag None (Some r) (Some s) v w = rw (v.tree_is, w.tree_is) refl
of_form severity diag (Some a) None None v w = refl
of_form severity diag (Some a) None (Some s) v w = rw w.tree_is refl
of_form severity diag (Some a) (Some r) None v w = rw v.tree_is refl
of_form severity diag (Some a) (Some r) (Some s) v w = rw (v.tree_is, w.tree_is) refl

module _ (severity : List ℕ) (diag : Diag) (so : IsUtf8 severity) (has : HasDiagTexts diag) where
  told : (address : Option (List ℕ)) → IfSome address IsUtf8 → (range snippet : Option Json) (v : IfSome range IsCopied) (w : IfSome snippet IsCopied) (name : List ℕ)
      → member_json name (verbatim (form_json address severity diag (others_of range snippet)))
      ≡ ((option_map object (mixed_members each_member (onto (note_members address severity diag) (others_of range snippet)) no_members) >>= get name) >>= as_str)
  told address is range snippet v w name =
      let j = form_json address severity diag (others_of range snippet) in
      member_is name (verbatim j) (onto (note_members address severity diag) (others_of range snippet)) (own_text j (inner_value severity diag so has range snippet v w address is))

  both : (address : Option (List ℕ)) (range snippet : Option Json) (v : IfSome range IsCopied) (w : IfSome snippet IsCopied)
      → let members = option_map object (mixed_members each_member (onto (note_members address severity diag) (others_of range snippet)) no_members) in
      (((members >>= get (codes "range")) >>= as_str) ≡ option_map verbatim range)
      × (((members >>= get (codes "snippet")) >>= as_str) ≡ option_map verbatim snippet)
  both None None None v w = (refl, refl)
  both None None (Some s) v w = rw w.tree_is (refl, refl)
  both None (Some r) None v w = rw v.tree_is (refl, refl)
  both None (Some r) (Some s) v w = rw (v.tree_is, w.tree_is) (refl, refl)
  both (Some a) None None v w = (refl, refl)
  both (Some a) None (Some s) v w = rw w.tree_is (refl, refl)
  both (Some a) (Some r) None v w = rw v.tree_is (refl, refl)
  both (Some a) (Some r) (Some s) v w = rw (v.tree_is, w.tree_is) (refl, refl)

  range_is : (address : Option (List ℕ)) → IfSome address IsUtf8 → (range snippet : Option Json) (v : IfSome range IsCopied) (w : IfSome snippet IsCopied)
      → member_json (codes "range") (verbatim (form_json address severity diag (others_of range snippet))) ≡ option_map verbatim range
  range_is address is range snippet v w = told address is range snippet v w (codes "range") ∙ (both address range snippet v w).0

  snippet_is : (address : Option (List ℕ)) → IfSome address IsUtf8 → (range snippet : Option Json) (v : IfSome range IsCopied) (w : IfSome snippet IsCopied)
      → member_json (codes "snippet") (verbatim (form_json address severity diag (others_of range snippet))) ≡ option_map verbatim snippet
  snippet_is address is range snippet v w = told address is range snippet v w (codes "snippet") ∙ (both address range snippet v w).1

-- ---- the line

regroup : (a b d k e c : List ℕ) → a ++ (b ++ ((d ++ (k ++ e)) ++ c)) ≡ (a ++ (b ++ d)) ++ (k ++ (e ++ c))
regroup a b d k e c = simp append_assoc

module _ (level says moment severity : List ℕ) (diag : Diag) where
  -- the text of a message with these members
  printed : (address : Option (List ℕ)) (others : json.Members) (raw : List ℕ) → members_text true others ≡ raw ++ codes "}"
      → verbatim (line_json level says moment (form_json address severity diag others)) ≡ diagnostic_with moment (diagnostic_with_body level says (diagnostic_object address severity diag)) raw
  unfolding message_object diagnostic_object escape_byte
  printed address others raw is =
      let ms = note_members address severity diag in
      let front = front_members level says moment in
      let last : json.Members = json.member (codes "type") (json.string (codes "diagnostic")) json.no_members in
      own_is (line_json level says moment (form_json address severity diag others))
      ∙ ap (λ s. 123 ∷ s) (onto_text false front (json.member (codes "diagnostic") (json.object (onto ms others)) last))
      ∙ ap (λ s. 123 ∷ (unclosed_members false front ++ (codes ",\"diagnostic\":" ++ (s ++ codes ",\"type\":\"diagnostic\"}"))))
      (ap (λ s. 123 ∷ s) (onto_text false ms others ∙ ap (λ s. unclosed_members false ms ++ s) is))
      ∙ regroup (123 ∷ unclosed_members false front) (codes ",\"diagnostic\":") (123 ∷ unclosed_members false ms) raw (codes "}") (codes ",\"type\":\"diagnostic\"}")

  same_outline : (address : Option (List ℕ)) → outline (object_at moment (diagnostic_with_body level says (diagnostic_object address severity diag))) ≡ line_json level says moment (form_json address severity diag json.no_members)
  unfolding message_object diagnostic_object
  same_outline None = refl
  same_outline (Some a) = refl

  alone : (address : Option (List ℕ)) → compact_text (object_at moment (diagnostic_with_body level says (diagnostic_object address severity diag))) ≡ verbatim (line_json level says moment (form_json address severity diag json.no_members))
  alone address = sym (print-outline (object_at moment (diagnostic_with_body level says (diagnostic_object address severity diag)))) ∙ ap verbatim (same_outline address)

line_is : (seconds : ℕ) (level says severity : List ℕ) (address : Option (List ℕ)) (diag : Diag) (range snippet : Option Json)
    → line_with_verbatim seconds (diagnostic_with_body level says (diagnostic_object address severity diag)) (verbatim_texts (option_map verbatim range) (option_map verbatim snippet))
    ≡ escaped (verbatim (line_json level says (precise_timestamp_text seconds) (form_json address severity diag (others_of range snippet)))) ++ 10 ∷ []
line_is seconds level says severity address diag None None = ap (λ t. escaped t ++ 10 ∷ []) (alone level says (precise_timestamp_text seconds) severity diag address)
line_is seconds level says severity address diag None (Some w) =
    ap (λ t. escaped t ++ 10 ∷ []) (sym (printed level says (precise_timestamp_text seconds) severity diag address (others_of None (Some w)) (verbatim_texts None (Some (verbatim w))) (others_text None (Some w))))
line_is seconds level says severity address diag (Some v) None =
    ap (λ t. escaped t ++ 10 ∷ []) (sym (printed level says (precise_timestamp_text seconds) severity diag address (others_of (Some v) None) (verbatim_texts (Some (verbatim v)) None) (others_text (Some v) None)))
line_is seconds level says severity address diag (Some v) (Some w) =
    ap (λ t. escaped t ++ 10 ∷ []) (sym (printed level says (precise_timestamp_text seconds) severity diag address (others_of (Some v) (Some w)) (verbatim_texts (Some (verbatim v)) (Some (verbatim w))) (others_text (Some v) (Some w))))

-- ---- what the line states

of_line : (level says moment : List ℕ) (j : Json) (d : Data) → of_json j ≡ Some d → of_json (line_json level says moment j) ≡ Some (object_at moment (diagnostic_with_body level says d))
unfolding message_object
of_line level says moment j d is = rw is refl

front_sound : (level says moment : List ℕ) → IsUtf8 level → IsUtf8 says → IsUtf8 moment → AreSoundMembers (front_members level says moment)
front_sound level says moment how what when = (
  IsUtf8-are_ascii (codes "@level") refl,
  how,
  (
    IsUtf8-are_ascii (codes "@message") refl,
    what,
    (IsUtf8-are_ascii (codes "@module") refl, IsUtf8-are_ascii (codes "terraform.ui") refl, (IsUtf8-are_ascii (codes "@timestamp") refl, when, tt)),
  ),
)

module _ (seconds : ℕ) (level says : List ℕ) (severity : Severity) (address : Option (List ℕ)) (diag : Diag)
    (how : IsUtf8 level) (what : IsUtf8 says) (where_is : IfSome address IsUtf8) (has : HasDiagTexts diag) where
  abbrev moment : List ℕ
  moment = precise_timestamp_text seconds

  abbrev word : List ℕ
  word = severity_word severity

  abbrev noted : (range snippet : Option (List ℕ)) → Note
  noted range snippet = record {
    severity = severity;
    diag = record { summary = diag.summary; detail = diag.detail; range = range; snippet = snippet };
    address = address >>= unless_empty;
  }

  abbrev written : (range snippet : Option (List ℕ)) → List ℕ
  written range snippet = line_with_verbatim seconds (diagnostic_with_body level says (diagnostic_object address word diag)) (verbatim_texts range snippet)

  line_value : (range snippet : Option Json) → IfSome range IsCopied → IfSome snippet IsCopied → IsPlainValue (line_json level says moment (form_json address word diag (others_of range snippet)))
  line_value range snippet v w =
      let inner = inner_value word diag (severity_utf8 severity) has range snippet v w address where_is in
      let front = front_members level says moment in
      let sound = front_sound level says moment how what (fine_utf8 seconds) in
      let last : json.Members = json.member (codes "diagnostic") (form_json address word diag (others_of range snippet)) (json.member (codes "type") (json.string (codes "diagnostic")) json.no_members) in
      record {
        clear = onto_clear front last sound (IsUtf8-are_ascii (codes "diagnostic") refl, inner.clear, (IsUtf8-are_ascii (codes "type") refl, IsUtf8-are_ascii (codes "diagnostic") refl, tt));
        numbers = onto_numbers front last sound (inner.numbers, (tt, tt));
        shallow = omega (arith, inner_depth word diag (severity_utf8 severity) has range snippet v w address);
      }

  copied_says : (range snippet : Option Json) → IfSome range IsCopied → IfSome snippet IsCopied
      → Says (written (option_map verbatim range) (option_map verbatim snippet)) moment (event.Diagnostic (noted (option_map verbatim range >>= if_object) (option_map verbatim snippet >>= if_object)))
  copied_says range snippet v w =
      let j = form_json address word diag (others_of range snippet) in
      let whole = line_json level says moment j in
      let raw = escaped (verbatim whole) in
      let is = escaped_text whole (line_value range snippet v w) in
      let tree = diagnostic_tree address word diag (tree_if range v) (tree_if snippet w) in
      let read = of_form word diag address range snippet v w in
      let outer = diagnostic_is raw level says moment j tree read is in
      let so = severity_utf8 severity in
      let first = object_is (codes "range") raw (verbatim j) (option_map verbatim range) outer (range_is word diag so has address where_is range snippet v w) in
      let second = object_is (codes "snippet") raw (verbatim j) (option_map verbatim snippet) outer (snippet_is word diag so has address where_is range snippet v w) in
      record {
        text = raw;
        line_is = line_is seconds level says word address diag range snippet;
        no_feed = is.no_feed;
        says = ap (λ (o : Option Data). o >>= message_of raw) (tree_is raw whole is ∙ of_line level says moment j tree read)
            ∙ tree_says raw moment level says address severity diag (tree_if range v) (tree_if snippet w)
            ∙ ap₂ (λ (range snippet : Option (List ℕ)). Some (at moment (event.Diagnostic (noted range snippet)))) first second;
      }

  pub note_says : (range snippet : Option Data) → AreVerbatim diag range snippet
      → Says (line_with_verbatim seconds (diagnostic_with_body level says (diagnostic_object address word diag)) (verbatim_members diag)) moment
      (event.Diagnostic (note_in_form (record { severity = severity; diag = diag; address = address })))
  note_says range snippet are =
      let v = copied_from diag.range range are.range_is in
      let w = copied_from diag.snippet snippet are.snippet_is in
      subst (λ (t : Option (List ℕ)). Says (written t diag.snippet) moment (event.Diagnostic (noted (t >>= if_object) (diag.snippet >>= if_object)))) (sym v.text_is)
      (subst (λ (u : Option (List ℕ)). Says (written (option_map verbatim v.value) u) moment (event.Diagnostic (noted (option_map verbatim v.value >>= if_object) (u >>= if_object)))) (sym w.text_is)
      (copied_says v.value w.value v.is_copied w.is_copied))
