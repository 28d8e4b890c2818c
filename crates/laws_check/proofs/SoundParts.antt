-- The words of messages, and the objects in them, are sound.
use Rattle.std.proofs.Common.{ℕ, ◌<◌, ◌^◌, List, ◌++◌, codes, IsUtf8, Option, Some, None, refl}
use Rattle.std.specs.Prelude.{IfSome}
use Rattle.std.proofs.lemmas.Str.{IsUtf8-append, IsUtf8-nil}
use Rattle.json.proofs.Printed.Utf8.{IsUtf8-are_ascii}
use Rattle.apply_model.specs.declared.plan.step_kind.StepKind.{StepKind}
use Rattle.apply_model.specs.declared.plan.step_kind.StepKind.TheVariants.{Create, Update, Delete, Read}
use Rattle.apply_model.specs.declared.script.diag.Diag.{Diag}
use Rattle.apply_plan.specs.Plan.ResourceChange.{ResourceChange}
use Rattle.apply_hooks.specs.declared.phase.Phase.{Phase}
use Rattle.apply_hooks.specs.declared.phase.Phase.TheVariants.{Pre, PostDone, PostFailed}
use Rattle.apply_events.specs.declared.counts.Counts.{Counts}
use Rattle.apply_text.specs.declared.operation.Operation.{Operation}
use Rattle.apply_text.specs.declared.operation.Operation.TheVariants.{Apply, Destroy}
use Rattle.apply_text.specs.Message.{id_suffix}
use Rattle.apply_text.specs.Objects.{changes_object, diagnostic_object, hook_object, operation_word, provisioner_object, resource_object}
use Rattle.apply_text.specs.Words.{action_word, noun_word, phase_words, start_word, still_word}
use Rattle.laws_check.specs.Sound.{IsSound}
use Rattle.laws_check.specs.Texts.{AreSmall, HasChangeTexts, HasDiagTexts}

-- two texts, and three
pub two : (a b : List ℕ) → IsUtf8 a → IsUtf8 b → IsUtf8 (a ++ b)
two a b first second = IsUtf8-append a b first second

pub three : (a b c : List ℕ) → IsUtf8 a → IsUtf8 b → IsUtf8 c → IsUtf8 (a ++ b ++ c)
three a b c first second third = IsUtf8-append (a ++ b) c (IsUtf8-append a b first second) third

-- ---- words

pub action_utf8 : (kind : StepKind) → IsUtf8 (action_word kind)
action_utf8 Create = IsUtf8-are_ascii (action_word Create) refl
action_utf8 Update = IsUtf8-are_ascii (action_word Update) refl
action_utf8 Delete = IsUtf8-are_ascii (action_word Delete) refl
action_utf8 Read = IsUtf8-are_ascii (action_word Read) refl

pub start_utf8 : (kind : StepKind) → IsUtf8 (start_word kind)
start_utf8 Create = IsUtf8-are_ascii (start_word Create) refl
start_utf8 Update = IsUtf8-are_ascii (start_word Update) refl
start_utf8 Delete = IsUtf8-are_ascii (start_word Delete) refl
start_utf8 Read = IsUtf8-are_ascii (start_word Read) refl

pub still_utf8 : (kind : StepKind) → IsUtf8 (still_word kind)
still_utf8 Create = IsUtf8-are_ascii (still_word Create) refl
still_utf8 Update = IsUtf8-are_ascii (still_word Update) refl
still_utf8 Delete = IsUtf8-are_ascii (still_word Delete) refl
still_utf8 Read = IsUtf8-are_ascii (still_word Read) refl

pub noun_utf8 : (kind : StepKind) → IsUtf8 (noun_word kind)
noun_utf8 Create = IsUtf8-are_ascii (noun_word Create) refl
noun_utf8 Update = IsUtf8-are_ascii (noun_word Update) refl
noun_utf8 Delete = IsUtf8-are_ascii (noun_word Delete) refl
noun_utf8 Read = IsUtf8-are_ascii (noun_word Read) refl

pub phase_utf8 : (phase : Phase) → IsUtf8 (phase_words phase)
phase_utf8 Pre = IsUtf8-are_ascii (phase_words Pre) refl
phase_utf8 PostDone = IsUtf8-are_ascii (phase_words PostDone) refl
phase_utf8 PostFailed = IsUtf8-are_ascii (phase_words PostFailed) refl

pub note_utf8 : (id : Option (List ℕ)) → IfSome id IsUtf8 → IsUtf8 (id_suffix id)
note_utf8 None h = IsUtf8-nil
note_utf8 (Some id) h = three (codes " [id=") id (codes "]") (IsUtf8-are_ascii (codes " [id=") refl) h (IsUtf8-are_ascii (codes "]") refl)

-- ---- the objects in messages

pub resource_sound : (change : ResourceChange) → HasChangeTexts change → IsSound (resource_object change)
unfolding resource_object
resource_sound change has = (
  IsUtf8-are_ascii (codes "addr") refl,
  has.address,
  (
    IsUtf8-are_ascii (codes "implied_provider") refl,
    has.provider,
    (
      IsUtf8-are_ascii (codes "module") refl,
      has.module_address,
      (
        IsUtf8-are_ascii (codes "resource") refl,
        has.resource,
        (
          IsUtf8-are_ascii (codes "resource_key") refl,
          has.key,
          (
            IsUtf8-are_ascii (codes "resource_name") refl,
            has.name,
            (IsUtf8-are_ascii (codes "resource_type") refl, has.kind_name, tt),
          ),
        ),
      ),
    ),
  ),
)

pub hook_sound : (change : ResourceChange) (kind : StepKind) (elapsed : Option ℕ) (id : Option (List ℕ)) → HasChangeTexts change → IfSome elapsed (λ n. n < 2 ^ 64) → IfSome id IsUtf8 → IsSound (hook_object change kind elapsed id)
unfolding hook_object
hook_sound change kind None None has small text =
    (IsUtf8-are_ascii (codes "action") refl, action_utf8 kind, (IsUtf8-are_ascii (codes "resource") refl, resource_sound change has, tt))
hook_sound change kind None (Some id) has small text = (
  IsUtf8-are_ascii (codes "action") refl,
  action_utf8 kind,
  (
    IsUtf8-are_ascii (codes "id_key") refl,
    IsUtf8-are_ascii (codes "id") refl,
    (IsUtf8-are_ascii (codes "id_value") refl, text, (IsUtf8-are_ascii (codes "resource") refl, resource_sound change has, tt)),
  ),
)
hook_sound change kind (Some seconds) None has small text = (
  IsUtf8-are_ascii (codes "action") refl,
  action_utf8 kind,
  (IsUtf8-are_ascii (codes "elapsed_seconds") refl, small, (IsUtf8-are_ascii (codes "resource") refl, resource_sound change has, tt)),
)
hook_sound change kind (Some seconds) (Some id) has small text = (
  IsUtf8-are_ascii (codes "action") refl,
  action_utf8 kind,
  (
    IsUtf8-are_ascii (codes "elapsed_seconds") refl,
    small,
    (
      IsUtf8-are_ascii (codes "id_key") refl,
      IsUtf8-are_ascii (codes "id") refl,
      (IsUtf8-are_ascii (codes "id_value") refl, text, (IsUtf8-are_ascii (codes "resource") refl, resource_sound change has, tt)),
    ),
  ),
)

pub provisioner_sound : (change : ResourceChange) (name : List ℕ) (output : Option (List ℕ)) → HasChangeTexts change → IsUtf8 name → IfSome output IsUtf8 → IsSound (provisioner_object change name output)
unfolding provisioner_object
provisioner_sound change name None has named text =
    (IsUtf8-are_ascii (codes "provisioner") refl, named, (IsUtf8-are_ascii (codes "resource") refl, resource_sound change has, tt))
provisioner_sound change name (Some output) has named text = (
  IsUtf8-are_ascii (codes "output") refl,
  text,
  (IsUtf8-are_ascii (codes "provisioner") refl, named, (IsUtf8-are_ascii (codes "resource") refl, resource_sound change has, tt)),
)

pub diagnostic_sound : (address severity : List ℕ) (diag : Diag) → IsUtf8 address → IsUtf8 severity → HasDiagTexts diag → IsSound (diagnostic_object address severity diag)
unfolding diagnostic_object
diagnostic_sound address severity diag where_is how has = (
  IsUtf8-are_ascii (codes "address") refl,
  where_is,
  (
    IsUtf8-are_ascii (codes "detail") refl,
    has.detail,
    (IsUtf8-are_ascii (codes "severity") refl, how, (IsUtf8-are_ascii (codes "summary") refl, has.summary, tt)),
  ),
)

pub operation_utf8 : (operation : Operation) → IsUtf8 (operation_word operation)
operation_utf8 Apply = IsUtf8-are_ascii (operation_word Apply) refl
operation_utf8 Destroy = IsUtf8-are_ascii (operation_word Destroy) refl

pub changes_sound : (operation : Operation) (counts : Counts) → AreSmall counts → IsSound (changes_object operation counts)
unfolding changes_object
changes_sound operation counts small = (
  IsUtf8-are_ascii (codes "add") refl,
  small.added,
  (
    IsUtf8-are_ascii (codes "change") refl,
    small.changed,
    (IsUtf8-are_ascii (codes "operation") refl, operation_utf8 operation, (IsUtf8-are_ascii (codes "remove") refl, small.removed, tt)),
  ),
)
