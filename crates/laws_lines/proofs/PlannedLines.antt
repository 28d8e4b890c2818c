-- What the lines of planned changes state.
use Rattle.std.proofs.Common.{◌≡◌, ℕ, ◌≤◌, negsuc, pos, List, [], ◌∷◌, ◌++◌, codes, IsUtf8, Bool, true, false, Option, Some, None, refl, sym, ap, ◌∙◌, option_map, arith}
use Rattle.std.specs.Prelude.{IfSome}
use Rattle.json.specs.Tree as tree
use Rattle.json.proofs.Printed.Utf8.{IsUtf8-are_ascii}
use Rattle.serde_json.specs.Data.{Data, null, boolean, number, string, array, object, Items, no_items, item, Members, no_members, member, Num, unsigned, negative, float, put}
use Rattle.serde_json.specs.Read.{max_depth, of_items, of_json, of_members}
use Rattle.serde_json.specs.Written.{items_outline, members_outline, outline}
use Rattle.serde_json.proofs.Numbers.{number_of-decimal, number_of-negative}
use Rattle.serde_json.proofs.Texts.{print-outline}
use Rattle.apply_json.specs.Tree.{◌>>=◌}
use Rattle.apply_json.specs.Verbatim.{verbatim}
use Rattle.apply_model.specs.declared.details.change_details.ChangeDetails.{ChangeDetails}
use Rattle.apply_model.specs.declared.details.importing.Importing.{Importing}
use Rattle.apply_model.specs.declared.details.previous_resource.PreviousResource.{PreviousResource}
use Rattle.apply_model.specs.declared.details.reason.Reason.{Reason}
use Rattle.apply_model.specs.declared.details.reason.Reason.TheVariants.{CannotUpdate, Tainted, Requested, ReplaceTriggeredBy, DeleteBecauseNoResourceConfig, DeleteBecauseWrongRepetition, DeleteBecauseCountIndex, DeleteBecauseEachKey, DeleteBecauseNoModule, DeleteBecauseNoMoveTarget, ReadBecauseConfigUnknown, ReadBecauseDependencyPending, ReadBecauseCheckNested, Unknown}
use Rattle.apply_model.specs.declared.plan.key.Key.{Key}
use Rattle.apply_model.specs.declared.plan.key.Key.TheVariants as key
use Rattle.apply_model.specs.declared.plan.step_kind.StepKind.{StepKind}
use Rattle.apply_model.specs.Details.{reason_word}
use Rattle.apply_model.specs.Plan.ResourceChange.{ResourceChange}
use Rattle.apply_text.specs.Lines.{message_object, typed}
use Rattle.apply_text.specs.Objects.{key_data}
use Rattle.apply_text_terraform.specs.Details.{planned_word}
use Rattle.apply_text_terraform.specs.Escapes.{escaped}
use Rattle.apply_text_terraform.specs.Lines.{message_line}
use Rattle.apply_text_terraform.specs.Message.{planned_message}
use Rattle.apply_text_terraform.specs.Objects.{change_object, importing_member, previous_member, previous_object, resource_object, text_if}
use Rattle.apply_text_terraform.specs.UtcTimestamp.{precise_timestamp_text}
use Rattle.stream_record_lines.specs.declared.event.Event.TheVariants as event
use Rattle.stream_record_lines.specs.Messages.{message_of}
use Rattle.laws_check.specs.ReadBackInForm.{HasDetailTexts, HasPreviousTexts}
use Rattle.laws_check.specs.Sound.{AreSoundItems, AreSoundMembers, FitsBits, IsSound}
use Rattle.laws_check.specs.Texts.{HasChangeTexts}
use Rattle.laws_check.proofs.FormObjects.{resource_moved}
use Rattle.laws_check.proofs.FormPlanned.{message_sound}
use Rattle.laws_check.proofs.SoundParts.{action_utf8, resource_sound, three}
use Rattle.laws_check.proofs.Sounds.{fine_utf8}
use Rattle.laws_lines.proofs.HookMessages.{at}
use Rattle.laws_lines.proofs.RawTexts.{escaped_text, plain_outline, tree_is}
use Rattle.laws_lines.proofs.Says.{Says}

-- ---- sound values are trees

number_tree : (n : Num) → FitsBits n → (d : Data) × (of_json (outline (number n)) ≡ Some d)
number_tree (unsigned n) less = (number (unsigned n), ap (option_map number) (number_of-decimal n less))
number_tree (negative (pos n)) h = absurd h
number_tree (negative (negsuc n)) less = (number (negative (negsuc n)), ap (option_map number) (number_of-negative n less))
number_tree (float x) h = absurd h

mutual
  pub tree_exists : (d : Data) → IsSound d → (e : Data) × (of_json (outline d) ≡ Some e)
  tree_exists null h = (null, refl)
  tree_exists (boolean b) h = (boolean b, refl)
  tree_exists (number n) h = number_tree n h
  tree_exists (string s) h = (string s, refl)
  tree_exists (array ds) h = let items = items_exist ds h in (array items.0, ap (option_map array) items.1)
  tree_exists (object ms) h = let members = members_exist ms no_members h in (object members.0, ap (option_map object) members.1)

  items_exist : (ds : Items) → AreSoundItems ds → (es : Items) × (of_items (items_outline ds) ≡ Some es)
  items_exist no_items h = (no_items, refl)
  items_exist (item d ds) h =
      let one = tree_exists d h.0 in
      let rest = items_exist ds h.1 in
      (item one.0 rest.0, rw (one.1, rest.1) refl)

  members_exist : (ms found : Members) → AreSoundMembers ms → (located : Members) × (of_members (members_outline ms) found ≡ Some located)
  members_exist no_members found h = (found, refl)
  members_exist (member k d ms) found h =
      let one = tree_exists d h.1 in
      let rest = members_exist ms (put k one.0 found) h.2 in
      (rest.0, rw one.1 rest.1)

-- ---- a planned change is sound

text_sound : (name : List ℕ) → IsUtf8 name → (o : Option (List ℕ)) → IfSome o IsUtf8 → (ms : Members) → AreSoundMembers ms → AreSoundMembers (text_if name o ms)
text_sound name named None h ms all = all
text_sound name named (Some text) h ms all = (named, h, all)

previous_sound : (o : Option PreviousResource) → IfSome o HasPreviousTexts → (ms : Members) → AreSoundMembers ms → AreSoundMembers (previous_member o ms)
unfolding previous_object
previous_sound None h ms all = all
previous_sound (Some previous) h ms all = (
  IsUtf8-are_ascii (codes "previous_resource") refl,
  (
    IsUtf8-are_ascii (codes "addr") refl,
    h.address,
    (
      IsUtf8-are_ascii (codes "module") refl,
      h.module_address,
      (
        IsUtf8-are_ascii (codes "resource") refl,
        h.resource,
        (
          IsUtf8-are_ascii (codes "implied_provider") refl,
          h.provider,
          (
            IsUtf8-are_ascii (codes "resource_type") refl,
            h.kind_name,
            (IsUtf8-are_ascii (codes "resource_name") refl, h.name, (IsUtf8-are_ascii (codes "resource_key") refl, h.key, tt)),
          ),
        ),
      ),
    ),
  ),
  all,
)

importing_sound : (o : Option Importing) → IfSome o (λ importing. IfSome importing.id IsUtf8) → (ms : Members) → AreSoundMembers ms → AreSoundMembers (importing_member o ms)
importing_sound None h ms all = all
importing_sound (Some importing) h ms all = (IsUtf8-are_ascii (codes "importing") refl, text_sound (codes "id") (IsUtf8-are_ascii (codes "id") refl) importing.id h no_members tt, all)

word_of_reason : (reason : Reason) → IsUtf8 (reason_word reason)
word_of_reason CannotUpdate = IsUtf8-are_ascii (reason_word CannotUpdate) refl
word_of_reason Tainted = IsUtf8-are_ascii (reason_word Tainted) refl
word_of_reason Requested = IsUtf8-are_ascii (reason_word Requested) refl
word_of_reason ReplaceTriggeredBy = IsUtf8-are_ascii (reason_word ReplaceTriggeredBy) refl
word_of_reason DeleteBecauseNoResourceConfig = IsUtf8-are_ascii (reason_word DeleteBecauseNoResourceConfig) refl
word_of_reason DeleteBecauseWrongRepetition = IsUtf8-are_ascii (reason_word DeleteBecauseWrongRepetition) refl
word_of_reason DeleteBecauseCountIndex = IsUtf8-are_ascii (reason_word DeleteBecauseCountIndex) refl
word_of_reason DeleteBecauseEachKey = IsUtf8-are_ascii (reason_word DeleteBecauseEachKey) refl
word_of_reason DeleteBecauseNoModule = IsUtf8-are_ascii (reason_word DeleteBecauseNoModule) refl
word_of_reason DeleteBecauseNoMoveTarget = IsUtf8-are_ascii (reason_word DeleteBecauseNoMoveTarget) refl
word_of_reason ReadBecauseConfigUnknown = IsUtf8-are_ascii (reason_word ReadBecauseConfigUnknown) refl
word_of_reason ReadBecauseDependencyPending = IsUtf8-are_ascii (reason_word ReadBecauseDependencyPending) refl
word_of_reason ReadBecauseCheckNested = IsUtf8-are_ascii (reason_word ReadBecauseCheckNested) refl
word_of_reason Unknown = IsUtf8-are_ascii (reason_word Unknown) refl

reason_utf8 : (o : Option Reason) → IfSome (option_map reason_word o) IsUtf8
reason_utf8 None = tt
reason_utf8 (Some reason) = word_of_reason reason

change_sound : (change : ResourceChange) (word : List ℕ) (details : ChangeDetails) → HasChangeTexts change → HasDetailTexts details → IsUtf8 word → IsSound (change_object change word details)
unfolding change_object
change_sound change word details has texts is = (
  IsUtf8-are_ascii (codes "resource") refl,
  resource_moved change (resource_sound change has),
  previous_sound details.previous texts.previous _ (
    IsUtf8-are_ascii (codes "action") refl,
    is,
    text_sound (codes "reason") (IsUtf8-are_ascii (codes "reason") refl) (option_map reason_word details.reason) (reason_utf8 details.reason) _
        (importing_sound details.importing texts.importing _ (text_sound (codes "generated_config") (IsUtf8-are_ascii (codes "generated_config") refl) details.generated_config texts.generated_config no_members tt)),
  ),
)

-- ---- and not deep

key_depth : (k : Key) → tree.depth (outline (key_data k)) ≤ 0
key_depth key.None = omega arith
key_depth (key.Number z) = omega arith
key_depth (key.Name s) = omega arith

resource_depth : (change : ResourceChange) → tree.depth (outline (resource_object change)) ≤ 1
unfolding resource_object
resource_depth change = omega (arith, key_depth change.key)

previous_depth : (previous : PreviousResource) → tree.depth (outline (previous_object previous)) ≤ 1
unfolding previous_object
previous_depth previous = omega (arith, key_depth previous.key)

text_depth : (name : List ℕ) (o : Option (List ℕ)) (ms : Members) (n : ℕ) → tree.members_depth (members_outline ms) ≤ n → tree.members_depth (members_outline (text_if name o ms)) ≤ n
text_depth name None ms n h = h
text_depth name (Some text) ms n h = omega (arith, h)

importing_depth : (o : Option Importing) (ms : Members) → tree.members_depth (members_outline ms) ≤ 1 → tree.members_depth (members_outline (importing_member o ms)) ≤ 1
importing_depth None ms h = h
importing_depth (Some importing) ms h = let none : tree.members_depth (members_outline no_members) ≤ 0 = omega arith in omega (arith, h, text_depth (codes "id") importing.id no_members 0 none)

previous_member_depth : (o : Option PreviousResource) (ms : Members) → tree.members_depth (members_outline ms) ≤ 1 → tree.members_depth (members_outline (previous_member o ms)) ≤ 1
previous_member_depth None ms h = h
previous_member_depth (Some previous) ms h = omega (arith, h, previous_depth previous)

change_depth : (change : ResourceChange) (word : List ℕ) (details : ChangeDetails) → tree.depth (outline (change_object change word details)) ≤ 2
unfolding change_object
change_depth change word details =
    let none : tree.members_depth (members_outline no_members) ≤ 1 = omega arith in
    let generated = text_if (codes "generated_config") details.generated_config no_members in
    let importing = importing_member details.importing generated in
    let reason = text_if (codes "reason") (option_map reason_word details.reason) importing in
    let of_importing = importing_depth details.importing generated (text_depth (codes "generated_config") details.generated_config no_members 1 none) in
    let of_reason = text_depth (codes "reason") (option_map reason_word details.reason) importing 1 of_importing in
    let of_action : tree.members_depth (members_outline (member (codes "action") (string word) reason)) ≤ 1 = omega (arith, of_reason) in
    omega (arith, resource_depth change, previous_member_depth details.previous (member (codes "action") (string word) reason) of_action)

-- ---- the line

module _ (level says moment : List ℕ) (body : Data) where
  abbrev whole : Data
  whole = message_object level says moment (typed (codes "change") body (codes "planned_change"))

  whole_depth : tree.depth (outline body) ≤ 2 → tree.depth (outline whole) ≤ max_depth
  unfolding message_object
  whole_depth h = omega (arith, h)

  whole_read : (b : Data) → of_json (outline body) ≡ Some b → of_json (outline whole) ≡ Some (message_object level says moment (typed (codes "change") b (codes "planned_change")))
  unfolding message_object
  whole_read b is = rw is refl

tree_says : (raw level says moment : List ℕ) (b : Data) → message_of raw (message_object level says moment (typed (codes "change") b (codes "planned_change"))) ≡ Some (at moment event.Other)
unfolding message_object
tree_says raw level says moment b = refl

pub planned_says : (change : ResourceChange) (word : List ℕ) (details : ChangeDetails) (seconds : ℕ) → HasChangeTexts change → HasDetailTexts details → IsUtf8 word
    → Says (message_line seconds (planned_message change word details)) (precise_timestamp_text seconds) event.Other
planned_says change word details seconds has texts is =
    let level = codes "info" in
    let says = change.address ++ codes ": Plan to " ++ word in
    let moment = precise_timestamp_text seconds in
    let body = change_object change word details in
    let d = whole level says moment body in
    let sound = change_sound change word details has texts is in
    let all_sound =
    message_sound level says moment (codes "change") (codes "planned_change") body (IsUtf8-are_ascii (codes "info") refl)
    (three change.address (codes ": Plan to ") word has.address (IsUtf8-are_ascii (codes ": Plan to ") refl) is) (fine_utf8 seconds) (IsUtf8-are_ascii (codes "change") refl) sound (IsUtf8-are_ascii (codes "planned_change") refl) in
    let raw = escaped (verbatim (outline d)) in
    let text = escaped_text (outline d) (plain_outline d all_sound (whole_depth level says moment body (change_depth change word details))) in
    let b = tree_exists body sound in
    record {
      text = raw;
      line_is = ap (λ t. escaped t ++ 10 ∷ []) (sym (print-outline d));
      no_feed = text.no_feed;
      says = ap (λ (o : Option Data). o >>= message_of raw) (tree_is raw (outline d) text ∙ whole_read level says moment body b.0 b.1) ∙ tree_says raw level says moment b.0;
    }

pub word_utf8 : (steps : List StepKind) (forgets : Bool) → IfSome (planned_word steps forgets) IsUtf8
word_utf8 [] true = IsUtf8-are_ascii (codes "remove") refl
word_utf8 [] false = tt
word_utf8 (step ∷ []) forgets = action_utf8 step
word_utf8 (first ∷ second ∷ others) forgets = IsUtf8-are_ascii (codes "replace") refl
