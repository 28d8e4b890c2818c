-- The objects of lines in Terraform's form are sound if the objects of the default form are, and
-- are read back as these.
use Rattle.std.proofs.Common.{◌≡◌, ℕ, ◌≤◌, List, codes, IsUtf8, Option, Some, None, refl, arith}
use Rattle.std.specs.Prelude.{IfSome}
use Rattle.json.specs.Tree as tree
use Rattle.json.proofs.Printed.Utf8.{IsUtf8-are_ascii}
use Rattle.serde_json.specs.Data.{Data}
use Rattle.serde_json.specs.Read.{of_json}
use Rattle.serde_json.specs.Written.{outline}
use Rattle.serde_json.proofs.Numbers.{number_of-decimal}
use Rattle.apply_model.specs.declared.plan.step_kind.StepKind.{StepKind}
use Rattle.apply_model.specs.declared.script.diag.Diag.{Diag}
use Rattle.apply_model.specs.Plan.ResourceChange.{ResourceChange}
use Rattle.apply_text.specs.Lines.{message_object, typed}
use Rattle.apply_text.specs.Objects.{diagnostic_object as plain_diagnostic, hook_object as plain_hook, provisioner_object as plain_provisioner, resource_object as plain_resource}
use Rattle.apply_text_terraform.specs.Objects.{diagnostic_object, hook_object, provisioner_object, resource_object}
use Rattle.laws_check.specs.Forms.{diagnostic_tree}
use Rattle.laws_check.specs.Sound.{IsSound}
use Rattle.laws_check.specs.Texts.{HasDiagTexts}
use Rattle.laws_check.proofs.ObjectsBack.{key_back}

-- ---- sound, in another order

pub resource_moved : (change : ResourceChange) → IsSound (plain_resource change) → IsSound (resource_object change)
unfolding plain_resource resource_object
resource_moved change h = (
  h.0,
  h.1,
  (
    h.2.2.0,
    h.2.2.1,
    (
      h.2.2.2.0,
      h.2.2.2.1,
      (h.2.0, h.2.1, (h.2.2.2.2.2.2.0, h.2.2.2.2.2.2.1, (h.2.2.2.2.2.0, h.2.2.2.2.2.1, (h.2.2.2.2.0, h.2.2.2.2.1, tt)))),
    ),
  ),
)

pub hook_moved : (change : ResourceChange) (step : StepKind) (elapsed : Option ℕ) (id : Option (List ℕ)) → IsSound (plain_hook change step elapsed id) → IsSound (hook_object change step elapsed id)
unfolding plain_hook hook_object
hook_moved change step None None h = (h.2.0, resource_moved change h.2.1, (h.0, h.1, tt))
hook_moved change step None (Some id) h = (h.2.2.2.0, resource_moved change h.2.2.2.1, (h.0, h.1, (h.2.0, h.2.1, (h.2.2.0, h.2.2.1, tt))))
hook_moved change step (Some seconds) None h = (h.2.2.0, resource_moved change h.2.2.1, (h.0, h.1, (h.2.0, h.2.1, tt)))
hook_moved change step (Some seconds) (Some id) h =
    (h.2.2.2.2.0, resource_moved change h.2.2.2.2.1, (h.0, h.1, (h.2.2.0, h.2.2.1, (h.2.2.2.0, h.2.2.2.1, (h.2.0, h.2.1, tt)))))

pub provisioner_moved : (change : ResourceChange) (name : List ℕ) (output : Option (List ℕ)) → IsSound (plain_provisioner change name output) → IsSound (provisioner_object change name output)
unfolding plain_provisioner provisioner_object
provisioner_moved change name None h = (h.2.0, resource_moved change h.2.1, (h.0, h.1, tt))
provisioner_moved change name (Some output) h = (h.2.2.0, resource_moved change h.2.2.1, (h.2.0, h.2.1, (h.0, h.1, tt)))

pub diagnostic_sound : (address : Option (List ℕ)) (severity : List ℕ) (diag : Diag) → IfSome address IsUtf8 → IsUtf8 severity → HasDiagTexts diag → IsSound (diagnostic_object address severity diag)
unfolding diagnostic_object
diagnostic_sound None severity diag h how has =
    (IsUtf8-are_ascii (codes "severity") refl, how, (IsUtf8-are_ascii (codes "summary") refl, has.summary, (IsUtf8-are_ascii (codes "detail") refl, has.detail, tt)))
diagnostic_sound (Some address) severity diag h how has = (
  IsUtf8-are_ascii (codes "severity") refl,
  how,
  (
    IsUtf8-are_ascii (codes "summary") refl,
    has.summary,
    (IsUtf8-are_ascii (codes "detail") refl, has.detail, (IsUtf8-are_ascii (codes "address") refl, h, tt)),
  ),
)

-- a message at another time, with another body
pub message_moved : (level text moment other name type_name : List ℕ) (body new : Data) → IsSound (message_object level text moment (typed name body type_name)) → IsUtf8 other → IsSound new
    → IsSound (message_object level text other (typed name new type_name))
unfolding message_object
message_moved level text moment other name type_name body new h at sound =
    (h.0, h.1, (h.2.0, h.2.1, (h.2.2.0, h.2.2.1, (h.2.2.2.0, at, (h.2.2.2.2.0, sound, h.2.2.2.2.2)))))

pub body_of : (level text moment name type_name : List ℕ) (body : Data) → IsSound (message_object level text moment (typed name body type_name)) → IsSound body
unfolding message_object
body_of level text moment name type_name body h = h.2.2.2.2.1

-- ---- what is read of them

-- the value is read as the other value, and is at most so deep
abbrev pub IsReadOf : (deep : ℕ) → Data → Data → Type 0
IsReadOf deep d located = (of_json (outline d) ≡ Some located) × (tree.depth (outline d) ≤ deep)

pub key_of : (change : ResourceChange) → IsSound (plain_resource change) → IsReadOf 1 (resource_object change) (plain_resource change)
unfolding plain_resource resource_object
key_of change h =
    let k = key_back change.key h.2.2.2.2.1 in
    (rw k.0 refl, omega (arith, k.1))

pub hook_read : (change : ResourceChange) (step : StepKind) (elapsed : Option ℕ) (id : Option (List ℕ)) → IsSound (plain_hook change step elapsed id) → IsReadOf 2 (hook_object change step elapsed id) (plain_hook change step elapsed id)
unfolding plain_hook hook_object
hook_read change step None None h = let r = key_of change h.2.1 in (rw r.0 refl, omega (arith, r.1))
hook_read change step None (Some id) h = let r = key_of change h.2.2.2.1 in (rw r.0 refl, omega (arith, r.1))
hook_read change step (Some seconds) None h = let r = key_of change h.2.2.1 in (rw (number_of-decimal seconds h.2.1, r.0) refl, omega (arith, r.1))
hook_read change step (Some seconds) (Some id) h = let r = key_of change h.2.2.2.2.1 in (rw (number_of-decimal seconds h.2.1, r.0) refl, omega (arith, r.1))

pub provisioner_read : (change : ResourceChange) (name : List ℕ) (output : Option (List ℕ)) → IsSound (plain_provisioner change name output)
    → IsReadOf 2 (provisioner_object change name output) (plain_provisioner change name output)
unfolding plain_provisioner provisioner_object
provisioner_read change name None h = let r = key_of change h.2.1 in (rw r.0 refl, omega (arith, r.1))
provisioner_read change name (Some output) h = let r = key_of change h.2.2.1 in (rw r.0 refl, omega (arith, r.1))

pub diagnostic_read : (address : Option (List ℕ)) (severity : List ℕ) (diag : Diag) → IsReadOf 1 (diagnostic_object address severity diag) (diagnostic_tree address severity diag None None)
unfolding diagnostic_object diagnostic_tree
diagnostic_read None severity diag = (refl, omega arith)
diagnostic_read (Some address) severity diag = (refl, omega arith)

-- with an address and without verbatim texts it is the message of the default form
pub diagnostic_plain : (address severity : List ℕ) (diag : Diag) → diagnostic_tree (Some address) severity diag None None ≡ plain_diagnostic address severity diag
unfolding diagnostic_tree plain_diagnostic
diagnostic_plain address severity diag = refl

-- ---- whole messages

pub hook_message_read : (level text moment type_name : List ℕ) (body located : Data) → IsReadOf 2 body located
    → IsReadOf 3 (message_object level text moment (typed (codes "hook") body type_name)) (message_object level text moment (typed (codes "hook") located type_name))
unfolding message_object
hook_message_read level text moment type_name body located is = (rw is.0 refl, omega (arith, is.1))

pub diagnostic_message_read : (level text moment type_name : List ℕ) (body located : Data) → IsReadOf 1 body located
    → IsReadOf 3 (message_object level text moment (typed (codes "diagnostic") body type_name)) (message_object level text moment (typed (codes "diagnostic") located type_name))
unfolding message_object
diagnostic_message_read level text moment type_name body located is = (rw is.0 refl, omega (arith, is.1))
