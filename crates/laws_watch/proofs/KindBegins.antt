-- A message changes the open steps in `watch` as its content changes them in `view`.
use Rattle.std.proofs.Common.{◌≡◌, ◌∙◌, ℕ, ◌∷◌, [], Bool, List, Option, None, Some, true, false, cond, ap, codes, refl, sym}
use Rattle.std.specs.Prelude.{option_map, unwrap_or}
use Rattle.std.specs.Option.{option_map_or}
use Rattle.std.specs.Str.{bytes_eq}
use Rattle.serde_json.specs.Data.{Data}
use Rattle.apply_json.specs.Tree.{◌>>=◌, member_of, non_empty_text_of, text_of, unless_empty}
use Rattle.apply_json.proofs.Held.{is_name}
use Rattle.apply_json_tree.specs.Trimmed.{trimmed}
use Rattle.apply_json_tree.proofs.Trimmed.Lookups.{member_trimmed, non_empty_text_trimmed, text_trimmed}
use Rattle.stream_message.specs.Kinds.{kind_named}
use Rattle.stream_message.specs.Members.{address_of, hook_text}
use Rattle.stream_message.specs.declared.kind.Kind.{Kind}
use Rattle.stream_message.specs.declared.kind.Kind.TheVariants as kind
use Rattle.stream_message.specs.declared.stage.Stage.{Stage}
use Rattle.stream_message.specs.declared.stage.Stage.TheVariants as stage
use Rattle.stream_timeline.specs.Messages.{Content, begin_of, begins, content_of, diagnostic_content, end_of, ends, other, provisioner_begin_of, provisioner_end_of, refresh_begin_of, refresh_end_of, summary_of, version}
use Rattle.stream_watch.specs.Hooks.{Hook}
use Rattle.stream_watch.specs.Shape.{message_selection}
use Rattle.stream_watch.specs.StepRows.{NamedStep, named_step, step_of}
use Rattle.stream_watch.specs.declared.message.shape.MessageShape.TheVariants as shape

-- ---- the content of a kind of message

abbrev pub stage_content : Stage → (address action : List ℕ) → Content
stage_content stage.Start address action = begins address action
stage_content stage.Progress address action = other
stage_content stage.Complete address action = ends address action false
stage_content stage.Errored address action = ends address action true

abbrev step_content : Stage → Data → Content
step_content stage.Start d = begin_of d
step_content stage.Progress d = other
step_content stage.Complete d = end_of false d
step_content stage.Errored d = end_of true d

abbrev refresh_content : Stage → Data → Content
refresh_content stage.Start d = refresh_begin_of d
refresh_content stage.Progress d = other
refresh_content stage.Complete d = refresh_end_of d
refresh_content stage.Errored d = other

abbrev provisioner_content : Stage → Data → Content
provisioner_content stage.Start d = provisioner_begin_of d
provisioner_content stage.Progress d = other
provisioner_content stage.Complete d = provisioner_end_of false d
provisioner_content stage.Errored d = provisioner_end_of true d

abbrev pub kind_content : Kind → Data → Content
kind_content kind.Version d = version (unwrap_or (text_of (codes "terraform") d) [])
kind_content kind.Planned d = other
kind_content (kind.Apply stage) d = step_content stage d
kind_content (kind.Ephemeral stage) d = step_content stage d
kind_content (kind.Refresh stage) d = refresh_content stage d
kind_content (kind.Provision stage) d = provisioner_content stage d
kind_content kind.Diagnostic d = diagnostic_content d
kind_content kind.Summary d = summary_of d
kind_content kind.Outputs d = other
kind_content kind.Other d = other

module _ (name : List ℕ) (d : Data) where
  -- this name, or another
  either : (word : List ℕ) (x y : Kind) → kind_content x d ≡ content_of word d → (bytes_eq name word ≡ false → kind_content y d ≡ content_of name d)
      → kind_content (cond (bytes_eq name word) x y) d ≡ content_of name d
  either word x y here there = by (bytes_eq name word) refl where
    by : (b : Bool) → bytes_eq name word ≡ b → kind_content (cond b x y) d ≡ content_of name d
    by true same = here ∙ ap (λ (n : List ℕ). content_of n d) (sym (is_name name word same))
    by false apart = there apart

  pub content_is : kind_content (kind_named name) d ≡ content_of name d
  content_is =
      either (codes "version") _ _ refl (λ is_version.
      either (codes "apply_start") _ _ refl (λ is_start.
      either (codes "apply_progress") _ _ refl (λ is_progress.
      either (codes "apply_complete") _ _ refl (λ is_complete.
      either (codes "apply_errored") _ _ refl (λ is_errored.
      either (codes "refresh_start") _ _ refl (λ is_refresh_start.
      either (codes "refresh_complete") _ _ refl (λ is_refresh_complete.
      either (codes "provision_start") _ _ refl (λ is_provision_start.
      either (codes "provision_progress") _ _ refl (λ is_provision_progress.
      either (codes "provision_complete") _ _ refl (λ is_provision_complete.
      either (codes "provision_errored") _ _ refl (λ is_provision_errored.
      either (codes "planned_change") _ _ refl (λ is_planned.
      either (codes "change_summary") _ _ refl (λ is_summary.
      either (codes "diagnostic") _ _ refl (λ is_diagnostic.
      either (codes "outputs") _ _ refl (λ is_outputs.
      either (codes "ephemeral_op_start") _ _ refl (λ is_ephemeral_start.
      either (codes "ephemeral_op_progress") _ _ refl (λ is_ephemeral_progress.
      either (codes "ephemeral_op_complete") _ _ refl (λ is_ephemeral_complete.
      either (codes "ephemeral_op_errored") _ _ refl (λ is_ephemeral_errored.
      rw (is_start, is_ephemeral_start, is_complete, is_ephemeral_complete, is_errored, is_ephemeral_errored, is_refresh_start, is_refresh_complete, is_provision_start, is_provision_complete, is_provision_errored, is_diagnostic, is_version, is_summary) refl)))))))))))))))))))

-- ---- the step that a message names

module _ {B : Type 0} (e : List ℕ → List ℕ → B) (base : B) (nameless : (action : List ℕ) → e [] action ≡ base) where
  abbrev effect : Option NamedStep → B
  effect step = option_map_or (λ (s : NamedStep). e s.address s.action) step base

  abbrev stated : (address action : Option (List ℕ)) → B
  stated address action = option_map_or (λ address. option_map_or (λ action. e address action) action base) address base

  no_name : (action : Option (List ℕ)) → base ≡ option_map_or (λ action. e [] action) action base
  no_name None = refl
  no_name (Some action) = sym (nameless action)

  by_action : (named : Hook) (action : Option (List ℕ)) → effect (option_map (named_step named) action) ≡ option_map_or (λ action. e named.address action) action base
  by_action named None = refl
  by_action named (Some action) = refl

  by_address : (hook : Data) (address : Option (List ℕ))
      → effect ((option_map (λ address. record { hook = trimmed message_selection shape.Hook hook; address = address }) (address >>= unless_empty))
      >>= λ (named : Hook). option_map (named_step named) (text_of (codes "action") named.hook))
      ≡ stated address (text_of (codes "action") hook)
  by_address hook None = refl
  by_address hook (Some []) = no_name (text_of (codes "action") hook)
  by_address hook (Some (byte ∷ bytes)) =
      let named : Hook = record { hook = trimmed message_selection shape.Hook hook; address = byte ∷ bytes } in
      by_action named (text_of (codes "action") named.hook)
      ∙ ap (λ action. option_map_or (λ action. e (byte ∷ bytes) action) action base) (text_trimmed message_selection shape.Hook shape.Scalar (codes "action") hook refl)

  by_resource : (hook : Data) (resource : Option Data)
      → effect ((option_map (trimmed message_selection shape.HookResource) resource
      >>= λ resource. option_map (λ address. record { hook = trimmed message_selection shape.Hook hook; address = address }) (non_empty_text_of (codes "addr") resource))
      >>= λ (named : Hook). option_map (named_step named) (text_of (codes "action") named.hook))
      ≡ stated (resource >>= text_of (codes "addr")) (text_of (codes "action") hook)
  by_resource hook None = refl
  by_resource hook (Some resource) =
      ap (λ address. effect ((option_map (λ address. record { hook = trimmed message_selection shape.Hook hook; address = address }) address)
      >>= λ (named : Hook). option_map (named_step named) (text_of (codes "action") named.hook)))
      (non_empty_text_trimmed message_selection shape.HookResource shape.Scalar (codes "addr") resource refl)
      ∙ by_address hook (text_of (codes "addr") resource)

  by_hook : (hook : Option Data)
      → effect ((option_map (trimmed message_selection shape.Hook) hook
      >>= λ hook. (member_of (codes "resource") hook
      >>= λ resource. option_map (λ address. record { hook = hook; address = address }) (non_empty_text_of (codes "addr") resource)))
      >>= λ (named : Hook). option_map (named_step named) (text_of (codes "action") named.hook))
      ≡ stated ((hook >>= member_of (codes "resource")) >>= text_of (codes "addr")) (hook >>= text_of (codes "action"))
  by_hook None = refl
  by_hook (Some hook) =
      ap (λ resource. effect ((resource
      >>= λ resource. option_map (λ address. record { hook = trimmed message_selection shape.Hook hook; address = address }) (non_empty_text_of (codes "addr") resource))
      >>= λ (named : Hook). option_map (named_step named) (text_of (codes "action") named.hook)))
      (member_trimmed message_selection shape.Hook shape.HookResource (codes "resource") hook refl)
      ∙ by_resource hook (member_of (codes "resource") hook)

  pub step_effect : (d : Data) → effect (step_of (trimmed message_selection shape.Message d)) ≡ stated (address_of d) (hook_text (codes "action") d)
  step_effect d =
      ap (λ hook. effect ((hook
      >>= λ hook. (member_of (codes "resource") hook
      >>= λ resource. option_map (λ address. record { hook = hook; address = address }) (non_empty_text_of (codes "addr") resource)))
      >>= λ (named : Hook). option_map (named_step named) (text_of (codes "action") named.hook)))
      (member_trimmed message_selection shape.Message shape.Hook (codes "hook") d refl)
      ∙ by_hook (member_of (codes "hook") d)
