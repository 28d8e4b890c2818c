-- What a checker reads back from the lines of planned changes.
use Rattle.std.proofs.Common.{◌≡◌, ℕ, ◌≤◌, inl, inr, List, [], ◌∷◌, ◌++◌, codes, IsUtf8, Bool, true, false, Option, Some, None, Ok, refl, sym, ap, subst, option_map, arith}
use Rattle.std.specs.Prelude.{IfSome}
use Rattle.std.specs.Option.{option_map_or}
use Rattle.json.specs.Tree as tree
use Rattle.json.proofs.Printed.Utf8.{IsUtf8-are_ascii}
use Rattle.serde_json.specs.Data.{Data, Members, member, no_members, object, string}
use Rattle.serde_json.specs.Read.{of_json}
use Rattle.serde_json.specs.Written.{outline}
use Rattle.apply_model.specs.declared.details.change_details.ChangeDetails.{ChangeDetails}
use Rattle.apply_model.specs.declared.details.importing.Importing.{Importing}
use Rattle.apply_model.specs.declared.details.previous_resource.PreviousResource.{PreviousResource}
use Rattle.apply_model.specs.declared.details.reason.Reason.{Reason}
use Rattle.apply_model.specs.declared.details.reason.Reason.TheVariants.{CannotUpdate, Tainted, Requested, ReplaceTriggeredBy, DeleteBecauseNoResourceConfig, DeleteBecauseWrongRepetition, DeleteBecauseCountIndex, DeleteBecauseEachKey, DeleteBecauseNoModule, DeleteBecauseNoMoveTarget, ReadBecauseConfigUnknown, ReadBecauseDependencyPending, ReadBecauseCheckNested, Unknown}
use Rattle.apply_model.specs.declared.plan.step_kind.StepKind.{StepKind}
use Rattle.apply_model.specs.Details.{reason_word}
use Rattle.apply_model.specs.Plan.Address.{provider_of}
use Rattle.apply_model.specs.Plan.ResourceChange.{ResourceChange}
use Rattle.stream_check.specs.declared.rules.fault.Fault.TheVariants.{NotJson}
use Rattle.stream_check.specs.Lines.{tree_message}
use Rattle.stream_check.specs.Message.{intent_named, planned, planned_of, typed_message}
use Rattle.stream_check.specs.Results.{◌>>=◌, or_refuse}
use Rattle.apply_text.specs.Lines.{message_object, typed}
use Rattle.apply_text.specs.Objects.{key_data, resource_object as plain_resource}
use Rattle.apply_text_terraform.specs.Details.{planned_word}
use Rattle.apply_text_terraform.specs.Lines.{message_line, planned_text}
use Rattle.apply_text_terraform.specs.Message.{planned_message}
use Rattle.apply_text_terraform.specs.UtcTimestamp.{precise_timestamp_text}
use Rattle.apply_text_terraform.specs.Objects.{change_object, importing_member, previous_member, previous_object, resource_object, text_if}
use Rattle.laws_check.specs.Objects.{object_at}
use Rattle.laws_check.specs.Sound.{AreSoundMembers, IsSound}
use Rattle.laws_check.specs.Texts.{HasChangeTexts}
use Rattle.laws_check.specs.ReadBackInForm.{AreReadBackAs, HasDetailTexts, HasPreviousTexts, IsReadBackAs, planned_read_back}
use Rattle.laws_check.proofs.FormReadBack.{line_reads}
use Rattle.laws_check.proofs.FormObjects.{IsReadOf, key_of, resource_moved}
use Rattle.laws_check.proofs.ObjectsBack.{key_back}
use Rattle.laws_check.proofs.SoundParts.{action_utf8, resource_sound, three}
use Rattle.laws_check.proofs.Sounds.{fine_utf8}

-- ---- sound

text_sound : (name : List ℕ) → IsUtf8 name → (o : Option (List ℕ)) → IfSome o IsUtf8 → (ms : Members) → AreSoundMembers ms → AreSoundMembers (text_if name o ms)
text_sound name named None h ms all = all
text_sound name named (Some text) h ms all = (named, h, all)

pub previous_sound : (o : Option PreviousResource) → IfSome o HasPreviousTexts → (ms : Members) → AreSoundMembers ms → AreSoundMembers (previous_member o ms)
unfolding previous_object
previous_sound None h ms all = all
previous_sound (Some previous) h ms all = (
  IsUtf8-are_ascii (codes "previous_resource") refl,
  (
    IsUtf8-are_ascii (codes "addr") refl,
    h.address,
    (
      IsUtf8-are_ascii (codes "module") refl,
      h.module_address,
      (
        IsUtf8-are_ascii (codes "resource") refl,
        h.resource,
        (
          IsUtf8-are_ascii (codes "implied_provider") refl,
          h.provider,
          (
            IsUtf8-are_ascii (codes "resource_type") refl,
            h.kind_name,
            (IsUtf8-are_ascii (codes "resource_name") refl, h.name, (IsUtf8-are_ascii (codes "resource_key") refl, h.key, tt)),
          ),
        ),
      ),
    ),
  ),
  all,
)

importing_sound : (o : Option Importing) → IfSome o (λ importing. IfSome importing.id IsUtf8) → (ms : Members) → AreSoundMembers ms → AreSoundMembers (importing_member o ms)
importing_sound None h ms all = all
importing_sound (Some importing) h ms all = (IsUtf8-are_ascii (codes "importing") refl, text_sound (codes "id") (IsUtf8-are_ascii (codes "id") refl) importing.id h no_members tt, all)

reason_utf8 : (o : Option Reason) → IfSome (option_map reason_word o) IsUtf8
reason_utf8 None = tt
reason_utf8 (Some CannotUpdate) = IsUtf8-are_ascii (reason_word CannotUpdate) refl
reason_utf8 (Some Tainted) = IsUtf8-are_ascii (reason_word Tainted) refl
reason_utf8 (Some Requested) = IsUtf8-are_ascii (reason_word Requested) refl
reason_utf8 (Some ReplaceTriggeredBy) = IsUtf8-are_ascii (reason_word ReplaceTriggeredBy) refl
reason_utf8 (Some DeleteBecauseNoResourceConfig) = IsUtf8-are_ascii (reason_word DeleteBecauseNoResourceConfig) refl
reason_utf8 (Some DeleteBecauseWrongRepetition) = IsUtf8-are_ascii (reason_word DeleteBecauseWrongRepetition) refl
reason_utf8 (Some DeleteBecauseCountIndex) = IsUtf8-are_ascii (reason_word DeleteBecauseCountIndex) refl
reason_utf8 (Some DeleteBecauseEachKey) = IsUtf8-are_ascii (reason_word DeleteBecauseEachKey) refl
reason_utf8 (Some DeleteBecauseNoModule) = IsUtf8-are_ascii (reason_word DeleteBecauseNoModule) refl
reason_utf8 (Some DeleteBecauseNoMoveTarget) = IsUtf8-are_ascii (reason_word DeleteBecauseNoMoveTarget) refl
reason_utf8 (Some ReadBecauseConfigUnknown) = IsUtf8-are_ascii (reason_word ReadBecauseConfigUnknown) refl
reason_utf8 (Some ReadBecauseDependencyPending) = IsUtf8-are_ascii (reason_word ReadBecauseDependencyPending) refl
reason_utf8 (Some ReadBecauseCheckNested) = IsUtf8-are_ascii (reason_word ReadBecauseCheckNested) refl
reason_utf8 (Some Unknown) = IsUtf8-are_ascii (reason_word Unknown) refl

change_sound : (change : ResourceChange) (word : List ℕ) (details : ChangeDetails) → HasChangeTexts change → HasDetailTexts details → IsUtf8 word → IsSound (change_object change word details)
unfolding change_object
change_sound change word details has texts is = (
  IsUtf8-are_ascii (codes "resource") refl,
  resource_moved change (resource_sound change has),
  previous_sound details.previous texts.previous _ (
    IsUtf8-are_ascii (codes "action") refl,
    is,
    text_sound (codes "reason") (IsUtf8-are_ascii (codes "reason") refl) (option_map reason_word details.reason) (reason_utf8 details.reason) _
        (importing_sound details.importing texts.importing _ (text_sound (codes "generated_config") (IsUtf8-are_ascii (codes "generated_config") refl) details.generated_config texts.generated_config no_members tt)),
  ),
)

-- ---- what is read

pub previous_tree : PreviousResource → Data
previous_tree previous =
    object
    (member (codes "addr") (string previous.address)
    (member (codes "implied_provider") (string (provider_of previous.kind_name))
    (member (codes "module") (string previous.module_address)
    (member (codes "resource") (string previous.resource)
    (member (codes "resource_key") (key_data previous.key)
    (member (codes "resource_name") (string previous.name)
    (member (codes "resource_type") (string previous.kind_name) no_members)))))))

pub previous_read : (previous : PreviousResource) → IsSound (key_data previous.key) → IsReadOf 1 (previous_object previous) (previous_tree previous)
unfolding previous_object previous_tree
previous_read previous h = let k = key_back previous.key h in (rw k.0 refl, omega (arith, k.1))

-- what is imported, by its id
abbrev imports : Option (Option (List ℕ)) → Members → Members
imports None others = others
imports (Some id) others = member (codes "importing") (object (text_if (codes "id") id no_members)) others

imports_are : (o : Option Importing) (ms : Members) → importing_member o ms ≡ imports (option_map (λ (importing : Importing). importing.id) o) ms
imports_are None ms = refl
imports_are (Some importing) ms = refl

abbrev change_members : ResourceChange → (word : List ℕ) → Option PreviousResource → (reason : Option (List ℕ)) → (importing : Option (Option (List ℕ))) → (generated : Option (List ℕ)) → Members
change_members change word previous reason importing generated =
    member (codes "resource") (resource_object change)
    (previous_member previous
    (member (codes "action") (string word)
    (text_if (codes "reason") reason
    (imports importing
    (text_if (codes "generated_config") generated no_members)))))

change_is : (change : ResourceChange) (word : List ℕ) (details : ChangeDetails)
    → change_object change word details ≡ object (change_members change word details.previous (option_map reason_word details.reason) (option_map (λ (importing : Importing). importing.id) details.importing) details.generated_config)
unfolding change_object
change_is change word details =
    ap (λ (ms : Members). object (member (codes "resource") (resource_object change) (previous_member details.previous (member (codes "action") (string word) (text_if (codes "reason") (option_map reason_word details.reason) ms)))))
    (imports_are details.importing (text_if (codes "generated_config") details.generated_config no_members))

-- the message is read back as a planned change, and is not deep
abbrev IsReadBackPlanned : (word address : List ℕ) → Data → Type 0
IsReadBackPlanned word address d = ((or_refuse NotJson (of_json (outline d)) >>= tree_message false) ≡ Ok (planned (intent_named word) (Some address))) × (tree.depth (outline d) ≤ 3)

change_read : (change : ResourceChange) (word : List ℕ) (previous : Option PreviousResource) (reason : Option (List ℕ)) (importing : Option (Option (List ℕ))) (generated : Option (List ℕ)) (level says moment : List ℕ)
    → IsSound (plain_resource change) → IfSome previous (λ p. IsSound (key_data p.key))
    → IsReadBackPlanned word change.address (message_object level says moment (typed (codes "change") (object (change_members change word previous reason importing generated)) (codes "planned_change")))
unfolding message_object tree_message typed_message planned_of plain_resource
change_read change word None None None None level says moment sound key = let r = key_of change sound in (rw r.0 refl, omega (arith, r.1))
change_read change word None None None (Some generated) level says moment sound key = let r = key_of change sound in (rw r.0 refl, omega (arith, r.1))
change_read change word None None (Some None) None level says moment sound key = let r = key_of change sound in (rw r.0 refl, omega (arith, r.1))
change_read change word None None (Some None) (Some generated) level says moment sound key = let r = key_of change sound in (rw r.0 refl, omega (arith, r.1))
change_read change word None None (Some (Some id)) None level says moment sound key = let r = key_of change sound in (rw r.0 refl, omega (arith, r.1))
change_read change word None None (Some (Some id)) (Some generated) level says moment sound key = let r = key_of change sound in (rw r.0 refl, omega (arith, r.1))
change_read change word None (Some reason) None None level says moment sound key = let r = key_of change sound in (rw r.0 refl, omega (arith, r.1))
change_read change word None (Some reason) None (Some generated) level says moment sound key = let r = key_of change sound in (rw r.0 refl, omega (arith, r.1))
change_read change word None (Some reason) (Some None) None level says moment sound key = let r = key_of change sound in (rw r.0 refl, omega (arith, r.1))
change_read change word None (Some reason) (Some None) (Some generated) level says moment sound key = let r = key_of change sound in (rw r.0 refl, omega (arith, r.1))
change_read change word None (Some reason) (Some (Some id)) None level says moment sound key = let r = key_of change sound in (rw r.0 refl, omega (arith, r.1))
change_read change word None (Some reason) (Some (Some id)) (Some generated) level says moment sound key = let r = key_of change sound in (rw r.0 refl, omega (arith, r.1))
change_read change word (Some previous) None None None level says moment sound key = let r = key_of change sound in let p = previous_read previous key in (rw (r.0, p.0) refl, omega (arith, r.1, p.1))
change_read change word (Some previous) None None (Some generated) level says moment sound key = let r = key_of change sound in let p = previous_read previous key in (rw (r.0, p.0) refl, omega (arith, r.1, p.1))
change_read change word (Some previous) None (Some None) None level says moment sound key = let r = key_of change sound in let p = previous_read previous key in (rw (r.0, p.0) refl, omega (arith, r.1, p.1))
change_read change word (Some previous) None (Some None) (Some generated) level says moment sound key = let r = key_of change sound in let p = previous_read previous key in (rw (r.0, p.0) refl, omega (arith, r.1, p.1))
change_read change word (Some previous) None (Some (Some id)) None level says moment sound key = let r = key_of change sound in let p = previous_read previous key in (rw (r.0, p.0) refl, omega (arith, r.1, p.1))
change_read change word (Some previous) None (Some (Some id)) (Some generated) level says moment sound key = let r = key_of change sound in let p = previous_read previous key in (rw (r.0, p.0) refl, omega (arith, r.1, p.1))
change_read change word (Some previous) (Some reason) None None level says moment sound key = let r = key_of change sound in let p = previous_read previous key in (rw (r.0, p.0) refl, omega (arith, r.1, p.1))
change_read change word (Some previous) (Some reason) None (Some generated) level says moment sound key = let r = key_of change sound in let p = previous_read previous key in (rw (r.0, p.0) refl, omega (arith, r.1, p.1))
change_read change word (Some previous) (Some reason) (Some None) None level says moment sound key = let r = key_of change sound in let p = previous_read previous key in (rw (r.0, p.0) refl, omega (arith, r.1, p.1))
change_read change word (Some previous) (Some reason) (Some None) (Some generated) level says moment sound key = let r = key_of change sound in let p = previous_read previous key in (rw (r.0, p.0) refl, omega (arith, r.1, p.1))
change_read change word (Some previous) (Some reason) (Some (Some id)) None level says moment sound key = let r = key_of change sound in let p = previous_read previous key in (rw (r.0, p.0) refl, omega (arith, r.1, p.1))
change_read change word (Some previous) (Some reason) (Some (Some id)) (Some generated) level says moment sound key = let r = key_of change sound in let p = previous_read previous key in (rw (r.0, p.0) refl, omega (arith, r.1, p.1))

pub key_of_previous : (o : Option PreviousResource) → IfSome o HasPreviousTexts → IfSome o (λ p. IsSound (key_data p.key))
key_of_previous None h = tt
key_of_previous (Some previous) h = h.key

-- ---- the line

pub message_sound : (level says moment name type_name : List ℕ) (body : Data) → IsUtf8 level → IsUtf8 says → IsUtf8 moment → IsUtf8 name → IsSound body → IsUtf8 type_name → IsSound (message_object level says moment (typed name body type_name))
unfolding message_object
message_sound level says moment name type_name body how text at named sound type_is = (
  IsUtf8-are_ascii (codes "@level") refl,
  how,
  (
    IsUtf8-are_ascii (codes "@message") refl,
    text,
    (
      IsUtf8-are_ascii (codes "@module") refl,
      IsUtf8-are_ascii (codes "terraform.ui") refl,
      (IsUtf8-are_ascii (codes "@timestamp") refl, at, (named, sound, (IsUtf8-are_ascii (codes "type") refl, type_is, tt))),
    ),
  ),
)

pub line_is_read_back : (change : ResourceChange) (word : List ℕ) (details : ChangeDetails) (seconds : ℕ) → HasChangeTexts change → HasDetailTexts details → IsUtf8 word
    → IsReadBackAs (message_line seconds (planned_message change word details)) (planned (intent_named word) (Some change.address))
line_is_read_back change word details seconds has texts is =
    let says = change.address ++ codes ": Plan to " ++ word in
    let is_read_back = subst (λ (body : Data). IsReadBackPlanned word change.address (message_object (codes "info") says (precise_timestamp_text seconds) (typed (codes "change") body (codes "planned_change")))) (sym (change_is change word details))
    (change_read change word details.previous (option_map reason_word details.reason) (option_map (λ (importing : Importing). importing.id) details.importing) details.generated_config (codes "info") says (precise_timestamp_text seconds)
    (resource_sound change has) (key_of_previous details.previous texts.previous)) in
    line_reads (object_at (precise_timestamp_text seconds) (planned_message change word details)) (planned (intent_named word) (Some change.address))
    (message_sound (codes "info") says (precise_timestamp_text seconds) (codes "change") (codes "planned_change") (change_object change word details) (IsUtf8-are_ascii (codes "info") refl)
    (three change.address (codes ": Plan to ") word has.address (IsUtf8-are_ascii (codes ": Plan to ") refl) is) (fine_utf8 seconds) (IsUtf8-are_ascii (codes "change") refl) (change_sound change word details has texts is)
    (IsUtf8-are_ascii (codes "planned_change") refl))
    is_read_back.1 is_read_back.0

word_utf8 : (steps : List StepKind) (forgets : Bool) → IfSome (planned_word steps forgets) IsUtf8
word_utf8 [] true = IsUtf8-are_ascii (codes "remove") refl
word_utf8 [] false = tt
word_utf8 (step ∷ []) forgets = action_utf8 step
word_utf8 (first ∷ second ∷ others) forgets = IsUtf8-are_ascii (codes "replace") refl

-- a change with its details: a line and its message, or neither
pub planned_line_read_back : (change : ResourceChange) (details : ChangeDetails) (start : ℕ) → HasChangeTexts change → HasDetailTexts details → AreReadBackAs (planned_text start change details ∷ []) (planned_read_back change details)
planned_line_read_back change details start has texts = of_word (planned_word change.steps details.forgets) (word_utf8 change.steps details.forgets)
  where
    of_word : (o : Option (List ℕ)) → IfSome o IsUtf8
        → AreReadBackAs (option_map_or (λ word. message_line start (planned_message change word details)) o [] ∷ []) (option_map_or (λ word. planned (intent_named word) (Some change.address) ∷ []) o [])
    of_word None h = inl (refl, refl)
    of_word (Some word) h = inr (planned (intent_named word) (Some change.address), [], refl, line_is_read_back change word details start has texts h, refl)
