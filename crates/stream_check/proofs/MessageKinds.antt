-- The message of a type, by its kind.
use Rattle.std.proofs.Common.{◌≡◌, ℕ, List, codes, Bool, true, false, cond, Result, Ok, refl}
use Rattle.std.specs.Str.{bytes_eq}
use Rattle.serde_json.specs.Data.{Data}
use Rattle.stream_message.specs.declared.kind.Kind.{Kind}
use Rattle.stream_message.specs.declared.kind.Kind.TheVariants as kind
use Rattle.stream_message.specs.declared.stage.Stage.{Stage}
use Rattle.stream_message.specs.declared.stage.Stage.TheVariants as stage
use Rattle.stream_message.specs.Kinds.{ephemeral_kind, general_kind, kind_named, refresh_kind}
use Rattle.stream_check.specs.declared.rules.fault.Fault.{Fault}
use Rattle.stream_check.specs.Message.{Message, version, outputs, other, diagnostic_of, general_message, planned_of, provision_of, refresh_of, start_of, stepless_message, summary_of, timed_of, timed_stage_of, typed_message}

-- the message of a stage of a step
abbrev pub step_message : Stage → Data → Result Message Fault
step_message stage.Start d = start_of d
step_message stage.Progress d = timed_of (timed_stage_of stage.Progress) d
step_message stage.Complete d = timed_of (timed_stage_of stage.Complete) d
step_message stage.Errored d = timed_of (timed_stage_of stage.Errored) d

-- the message of that kind
abbrev pub kind_message : Kind → Data → Result Message Fault
kind_message kind.Version d = Ok version
kind_message (kind.Apply given) d = step_message given d
kind_message (kind.Refresh given) d = refresh_of (timed_stage_of given 0) d
kind_message (kind.Provision given) d = provision_of given d
kind_message (kind.Ephemeral given) d = Ok other
kind_message kind.Planned d = planned_of d
kind_message kind.Summary d = summary_of d
kind_message kind.Diagnostic d = diagnostic_of d
kind_message kind.Outputs d = Ok outputs
kind_message kind.Other d = Ok other

module _ (d : Data) where
  either : (b : Bool) (x y : Kind) (r q : Result Message Fault) → kind_message x d ≡ r → kind_message y d ≡ q → kind_message (cond b x y) d ≡ cond b r q
  either true x y r q this that = this
  either false x y r q this that = that

  -- one of two kinds without rules
  neither : (b : Bool) (x y : Kind) → kind_message x d ≡ Ok other → kind_message y d ≡ Ok other → kind_message (cond b x y) d ≡ Ok other
  neither true x y this that = this
  neither false x y this that = that

  ephemeral : (name : List ℕ) → kind_message (ephemeral_kind name) d ≡ Ok other
  ephemeral name =
      neither (bytes_eq name (codes "ephemeral_op_start")) _ _ refl
      (neither (bytes_eq name (codes "ephemeral_op_progress")) _ _ refl
      (neither (bytes_eq name (codes "ephemeral_op_complete")) _ _ refl (neither (bytes_eq name (codes "ephemeral_op_errored")) _ _ refl refl)))

  general : (name : List ℕ) → kind_message (general_kind name) d ≡ general_message name d
  general name =
      either (bytes_eq name (codes "planned_change")) _ _ _ _ refl
      (either (bytes_eq name (codes "change_summary")) _ _ _ _ refl
      (either (bytes_eq name (codes "diagnostic")) _ _ _ _ refl (either (bytes_eq name (codes "outputs")) _ _ _ _ refl (ephemeral name))))

  stepless : (name : List ℕ) → kind_message (refresh_kind name) d ≡ stepless_message name d
  stepless name =
      either (bytes_eq name (codes "refresh_start")) _ _ _ _ refl
      (either (bytes_eq name (codes "refresh_complete")) _ _ _ _ refl
      (either (bytes_eq name (codes "provision_start")) _ _ _ _ refl
      (either (bytes_eq name (codes "provision_progress")) _ _ _ _ refl
      (either (bytes_eq name (codes "provision_complete")) _ _ _ _ refl (either (bytes_eq name (codes "provision_errored")) _ _ _ _ refl (general name))))))

  pub kind_is : (name : List ℕ) → kind_message (kind_named name) d ≡ typed_message name d
  unfolding typed_message
  kind_is name =
      either (bytes_eq name (codes "version")) _ _ _ _ refl
      (either (bytes_eq name (codes "apply_start")) _ _ _ _ refl
      (either (bytes_eq name (codes "apply_progress")) _ _ _ _ refl
      (either (bytes_eq name (codes "apply_complete")) _ _ _ _ refl (either (bytes_eq name (codes "apply_errored")) _ _ _ _ refl (stepless name)))))
