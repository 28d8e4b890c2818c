-- Lines that only contribute their timestamp.
use Rattle.std.proofs.Common.{◌≡◌, ℕ, ℤ, List, codes, Bool, true, false, cond, Option, Some, None, refl, sym, ap, ap₂, subst, ◌∙◌}
use Rattle.std.specs.Prelude.{IfSome, option_map}
use Rattle.std.specs.Str.{bytes_eq}
use Rattle.serde_json.specs.Data.{Data}
use Rattle.apply_json.specs.ShallowView.{members_in}
use Rattle.apply_json.specs.Tree.{◌>>=◌}
use Rattle.apply_json.proofs.Held.{is_name}
use Rattle.stream_message.specs.declared.kind.Kind.{Kind}
use Rattle.stream_message.specs.declared.kind.Kind.TheVariants as kind
use Rattle.stream_message.specs.declared.line_head.LineHead.{LineHead}
use Rattle.stream_message.specs.Kinds.{kind_named}
use Rattle.stream_message.specs.Members.{kind_of, time_of, type_of}
use Rattle.stream_message.specs.Runs.{is_version}
use Rattle.stream_message.specs.Slots.{HoldsHead}
use Rattle.stream_message.specs.SlotValues.{kind_in, time_in}
use Rattle.stream_message.proofs.TreeMembers as members
use Rattle.stream_timeline.specs.Messages.{Content, Message, content_of, message_at, other, tree_message}
use Rattle.stream_timeline.specs.SlotContents.{is_time_only, time_only, time_only_in}

module _ (name : List ℕ) (d : Data) where
  -- this name, or another
  either : (word : List ℕ) (x y : Kind) → (is_time_only x ≡ true → content_of word d ≡ other) → (bytes_eq name word ≡ false → is_time_only y ≡ true → content_of name d ≡ other)
      → is_time_only (cond (bytes_eq name word) x y) ≡ true → content_of name d ≡ other
  either word x y here there = by (bytes_eq name word) refl where
    by : (b : Bool) → bytes_eq name word ≡ b → is_time_only (cond b x y) ≡ true → content_of name d ≡ other
    by true same only = ap (λ (n : List ℕ). content_of n d) (is_name name word same) ∙ here only
    by false apart only = there apart only

  -- the content of such a kind, whatever the tree has
  only_time : is_time_only (kind_named name) ≡ true → content_of name d ≡ other
  only_time =
      either (codes "version") _ _ (λ bad. cc) (λ is_version.
      either (codes "apply_start") _ _ (λ bad. cc) (λ is_start.
      either (codes "apply_progress") _ _ (λ only. refl) (λ is_progress.
      either (codes "apply_complete") _ _ (λ bad. cc) (λ is_complete.
      either (codes "apply_errored") _ _ (λ bad. cc) (λ is_errored.
      either (codes "refresh_start") _ _ (λ bad. cc) (λ is_refresh_start.
      either (codes "refresh_complete") _ _ (λ bad. cc) (λ is_refresh_complete.
      either (codes "provision_start") _ _ (λ bad. cc) (λ is_provision_start.
      either (codes "provision_progress") _ _ (λ only. refl) (λ is_provision_progress.
      either (codes "provision_complete") _ _ (λ bad. cc) (λ is_provision_complete.
      either (codes "provision_errored") _ _ (λ bad. cc) (λ is_provision_errored.
      either (codes "planned_change") _ _ (λ only. refl) (λ is_planned.
      either (codes "change_summary") _ _ (λ bad. cc) (λ is_summary.
      either (codes "diagnostic") _ _ (λ bad. cc) (λ is_diagnostic.
      either (codes "outputs") _ _ (λ only. refl) (λ is_outputs.
      either (codes "ephemeral_op_start") _ _ (λ bad. cc) (λ is_ephemeral_start.
      either (codes "ephemeral_op_progress") _ _ (λ only. refl) (λ is_ephemeral_progress.
      either (codes "ephemeral_op_complete") _ _ (λ bad. cc) (λ is_ephemeral_complete.
      either (codes "ephemeral_op_errored") _ _ (λ bad. cc) (λ is_ephemeral_errored only.
      rw (is_start, is_ephemeral_start, is_complete, is_ephemeral_complete, is_errored, is_ephemeral_errored, is_refresh_start, is_refresh_complete, is_provision_start, is_provision_complete, is_provision_errored, is_diagnostic, is_version, is_summary) refl)))))))))))))))))))

-- the message of a line that only contributes its timestamp
pub time_alone : (head : LineHead) (d : Data) → HoldsHead head (members_in d) → IfSome (time_only_in head) (λ time. tree_message d ≡ Some (time_only time))
time_alone head d holds =
    subst (λ (value : Option ℤ). IfSome value (λ time. tree_message d ≡ Some (time_only time)))
    (sym (ap₂ (λ (k : Option Kind) (t : Option ℤ). k >>= λ kind. cond (is_time_only kind) t None) (members.kind_is head d holds) (members.time_is head d holds)))
    (each (type_of d) (time_of d))
  where
    of : (name : List ℕ) (time : ℤ) (b : Bool) → is_time_only (kind_named name) ≡ b
        → IfSome (cond b (Some time) None) (λ alone. (let m : Option Message = Some (message_at name d time) in m) ≡ Some (time_only alone))
    of name time true only = ap (λ (content : Content). let m : Message = record { time = time; content = content } in Some m) (only_time name d only)
    of name time false more = tt

    none : (b : Bool) (P : ℤ → Type 0) → IfSome (cond b None None) P
    none true P = tt
    none false P = tt

    each : (n : Option (List ℕ)) (t : Option ℤ) → IfSome (option_map kind_named n >>= λ kind. cond (is_time_only kind) (n >>= λ name. t) None)
        (λ time. (n >>= λ name. (t >>= λ time. Some (message_at name d time))) ≡ Some (time_only time))
    each None t = tt
    each (Some name) None = none (is_time_only (kind_named name)) _
    each (Some name) (Some time) = of name time (is_time_only (kind_named name)) refl

-- no run begins with such a line
pub no_run_alone : (head : LineHead) (d : Data) → HoldsHead head (members_in d) → IfSome (time_only_in head) (λ time. is_version (kind_of d) ≡ false)
no_run_alone head d holds = subst (λ (k : Option Kind). IfSome (time_only_in head) (λ time. is_version k ≡ false)) (members.kind_is head d holds) (each (kind_in head) (time_in head)) where
  always : (o : Option ℤ) → IfSome o (λ time. false ≡ false)
  always None = tt
  always (Some time) = refl

  each : (k : Option Kind) (t : Option ℤ) → IfSome (k >>= λ kind. cond (is_time_only kind) t None) (λ time. is_version k ≡ false)
  each None t = tt
  each (Some kind.Version) t = tt
  each (Some (kind.Apply stage)) t = always (cond (is_time_only (kind.Apply stage)) t None)
  each (Some (kind.Refresh stage)) t = always (cond (is_time_only (kind.Refresh stage)) t None)
  each (Some (kind.Provision stage)) t = always (cond (is_time_only (kind.Provision stage)) t None)
  each (Some (kind.Ephemeral stage)) t = always (cond (is_time_only (kind.Ephemeral stage)) t None)
  each (Some kind.Planned) t = always (cond (is_time_only kind.Planned) t None)
  each (Some kind.Summary) t = always (cond (is_time_only kind.Summary) t None)
  each (Some kind.Diagnostic) t = always (cond (is_time_only kind.Diagnostic) t None)
  each (Some kind.Outputs) t = always (cond (is_time_only kind.Outputs) t None)
  each (Some kind.Other) t = always (cond (is_time_only kind.Other) t None)
