-- The slots of a line state what its tree states.
use Rattle.std.proofs.Common.{◌≡◌, ℕ, ℤ, List, [], codes, Bool, true, false, cond, Option, Some, None, refl, sym, ap, ap₂, ◌∙◌}
use Rattle.std.specs.Prelude.{option_map, unwrap_or}
use Rattle.std.specs.Option.{option_map_or}
use Rattle.std.specs.Str.{bytes_eq}
use Rattle.serde_json.specs.Data.{Data}
use Rattle.apply_json.specs.ShallowView.{members_in}
use Rattle.apply_json.specs.Tree.{◌>>=◌, member_of, text_of, tree_of}
use Rattle.apply_json.proofs.Held.{is_name}
use Rattle.stream_message.specs.declared.changes_slots.ChangesSlots.{ChangesSlots}
use Rattle.stream_message.specs.declared.diagnostic_slots.DiagnosticSlots.{DiagnosticSlots}
use Rattle.stream_message.specs.declared.kind.Kind.{Kind}
use Rattle.stream_message.specs.declared.line_slots.LineSlots.{LineSlots}
use Rattle.stream_message.specs.declared.selection.Selection.{Selection}
use Rattle.stream_message.specs.Kinds.{kind_named}
use Rattle.stream_message.specs.Members.{address_of, count_of, file_of, hook_text, kind_of, line_of, text_or_empty, time_of, type_of}
use Rattle.stream_message.specs.Runs.{is_version, is_version_text}
use Rattle.stream_message.specs.Slots.{HoldsLine}
use Rattle.stream_message.specs.SlotValues.{action_in, added_in, address_in, changed_in, detail_in, diagnostic_address_in, file_in, imported_in, kind_in, line_in, operation_in, removed_in, severity_in, summary_in, version_in}
use Rattle.stream_message.proofs.TreeMembers as members
use Rattle.stream_timeline.specs.Messages.{Content, Message, begin_of, begins, begins_provisioner, content_of, diagnostic_content, diagnostic_with, end_of, ends, ends_provisioner, message_at, message_of, no_totals, other, provisioner_begin_of, provisioner_end_of, refresh_begin_of, refresh_end_of, summary, summary_in as summary_of_changes, summary_of, tree_message, unusable, version}
use Rattle.stream_timeline.specs.SlotContents.{begin_in, content_in, diagnostic_content_in, end_in, message_in, provisioner_begin_in, provisioner_end_in, refresh_begin_in, refresh_end_in, summary_content_in}

-- the members that a time line needs
abbrev pub timeline_selection : Selection
timeline_selection = record {
  version = true;
  hook = true;
  change = false;
  changes = true;
  diagnostic = true;
  diagnostic_texts = true;
}

-- ---- objects that may be missing

diagnostic_by : (o : Option Data) (slots : DiagnosticSlots) → severity_in slots ≡ (o >>= text_of (codes "severity")) → diagnostic_address_in slots ≡ (o >>= text_of (codes "address"))
    → summary_in slots ≡ (o >>= text_of (codes "summary")) → detail_in slots ≡ (o >>= text_of (codes "detail")) → file_in slots ≡ (o >>= file_of) → line_in slots ≡ (o >>= line_of)
    → diagnostic_content_in slots ≡ option_map_or (λ m. diagnostic_with (text_or_empty (codes "severity") m) m) o unusable
diagnostic_by None slots severity_is address_is summary_is detail_is file_is line_is = rw severity_is refl
diagnostic_by (Some m) slots severity_is address_is summary_is detail_is file_is line_is = rw (severity_is, address_is, summary_is, detail_is, file_is, line_is) (each (text_of (codes "severity") m)) where
  each : (o : Option (List ℕ)) → option_map_or (λ word. diagnostic_with word m) o unusable ≡ diagnostic_with (unwrap_or o []) m
  each None = refl
  each (Some word) = refl

summary_by : (o : Option Data) (changes : ChangesSlots) → operation_in changes ≡ (o >>= text_of (codes "operation")) → added_in changes ≡ (o >>= count_of (codes "add")) → changed_in changes ≡ (o >>= count_of (codes "change"))
    → removed_in changes ≡ (o >>= count_of (codes "remove")) → imported_in changes ≡ (o >>= count_of (codes "import")) → summary_content_in changes ≡ option_map_or summary_of_changes o (summary no_totals)
summary_by None changes operation_is added_is changed_is removed_is imported_is = rw (operation_is, added_is, changed_is, removed_is, imported_is) refl
summary_by (Some m) changes operation_is added_is changed_is removed_is imported_is = rw (operation_is, added_is, changed_is, removed_is, imported_is) refl

-- ---- the line

module _ (line : LineSlots) (d : Data) (holds : HoldsLine timeline_selection line (members_in d)) where
  address : address_in line.hook ≡ address_of d
  address = members.address_is timeline_selection line d holds refl

  action : action_in line.hook ≡ hook_text (codes "action") d
  action = members.action_is timeline_selection line d holds refl

  begin_is : begin_in line.hook ≡ begin_of d
  begin_is = ap₂ (λ (a w : Option (List ℕ)). option_map_or (λ address. option_map_or (λ action. begins address action) w unusable) a unusable) address action

  end_is : (failed : Bool) → end_in failed line.hook ≡ end_of failed d
  end_is failed = ap₂ (λ (a w : Option (List ℕ)). option_map_or (λ address. option_map_or (λ action. ends address action failed) w unusable) a unusable) address action

  refresh_begin_is : refresh_begin_in line.hook ≡ refresh_begin_of d
  refresh_begin_is = ap (λ (a : Option (List ℕ)). option_map_or (λ address. begins address (codes "refresh")) a unusable) address

  refresh_end_is : refresh_end_in line.hook ≡ refresh_end_of d
  refresh_end_is = ap (λ (a : Option (List ℕ)). option_map_or (λ address. ends address (codes "refresh") false) a unusable) address

  provisioner_begin_is : provisioner_begin_in line.hook ≡ provisioner_begin_of d
  provisioner_begin_is =
      ap₂ (λ (a name : Option (List ℕ)). option_map_or (λ address. begins_provisioner address (unwrap_or name [])) a unusable) address
      (members.provisioner_is timeline_selection line d holds refl)

  provisioner_end_is : (failed : Bool) → provisioner_end_in failed line.hook ≡ provisioner_end_of failed d
  provisioner_end_is failed = ap (λ (a : Option (List ℕ)). option_map_or (λ address. ends_provisioner address failed) a unusable) address

  diagnostic_is : diagnostic_content_in line.diagnostic ≡ diagnostic_content d
  diagnostic_is =
      diagnostic_by (member_of (codes "diagnostic") d) line.diagnostic
      (members.severity_is timeline_selection line d holds refl) (members.diagnostic_address_is timeline_selection line d holds refl)
      (members.summary_is timeline_selection line d holds refl refl) (members.detail_is timeline_selection line d holds refl refl)
      (members.file_is timeline_selection line d holds refl refl) (members.line_is timeline_selection line d holds refl refl)

  summary_is : summary_content_in line.changes ≡ summary_of d
  summary_is =
      summary_by (member_of (codes "changes") d) line.changes
      (members.operation_is timeline_selection line d holds refl) (members.added_is timeline_selection line d holds refl)
      (members.changed_is timeline_selection line d holds refl) (members.removed_is timeline_selection line d holds refl)
      (members.imported_is timeline_selection line d holds refl)

  version_is : version (unwrap_or (version_in line) []) ≡ version (text_or_empty (codes "terraform") d)
  version_is = ap (λ (o : Option (List ℕ)). version (unwrap_or o [])) (members.version_is timeline_selection line d holds refl)

  -- ---- by the type

  module _ (name : List ℕ) where
    -- this name, or another
    either : (word : List ℕ) (x y : Kind) → content_in x line ≡ content_of word d → (bytes_eq name word ≡ false → content_in y line ≡ content_of name d) → content_in (cond (bytes_eq name word) x y) line ≡ content_of name d
    either word x y here there = by (bytes_eq name word) refl where
      by : (b : Bool) → bytes_eq name word ≡ b → content_in (cond b x y) line ≡ content_of name d
      by true same = here ∙ ap (λ (n : List ℕ). content_of n d) (sym (is_name name word same))
      by false apart = there apart

    content_is : content_in (kind_named name) line ≡ content_of name d
    content_is =
        either (codes "version") _ _ version_is (λ is_version.
        either (codes "apply_start") _ _ begin_is (λ is_start.
        either (codes "apply_progress") _ _ refl (λ is_progress.
        either (codes "apply_complete") _ _ (end_is false) (λ is_complete.
        either (codes "apply_errored") _ _ (end_is true) (λ is_errored.
        either (codes "refresh_start") _ _ refresh_begin_is (λ is_refresh_start.
        either (codes "refresh_complete") _ _ refresh_end_is (λ is_refresh_complete.
        either (codes "provision_start") _ _ provisioner_begin_is (λ is_provision_start.
        either (codes "provision_progress") _ _ refl (λ is_provision_progress.
        either (codes "provision_complete") _ _ (provisioner_end_is false) (λ is_provision_complete.
        either (codes "provision_errored") _ _ (provisioner_end_is true) (λ is_provision_errored.
        either (codes "planned_change") _ _ refl (λ is_planned.
        either (codes "change_summary") _ _ summary_is (λ is_summary.
        either (codes "diagnostic") _ _ diagnostic_is (λ is_diagnostic.
        either (codes "outputs") _ _ refl (λ is_outputs.
        either (codes "ephemeral_op_start") _ _ begin_is (λ is_ephemeral_start.
        either (codes "ephemeral_op_progress") _ _ refl (λ is_ephemeral_progress.
        either (codes "ephemeral_op_complete") _ _ (end_is false) (λ is_ephemeral_complete.
        either (codes "ephemeral_op_errored") _ _ (end_is true) (λ is_ephemeral_errored.
        let none : content_of name d ≡ other =
        rw (is_start, is_ephemeral_start, is_complete, is_ephemeral_complete, is_errored, is_ephemeral_errored, is_refresh_start, is_refresh_complete, is_provision_start, is_provision_complete, is_provision_errored, is_diagnostic, is_version, is_summary) refl in
        sym none)))))))))))))))))))

  message_is : message_in line ≡ tree_message d
  message_is =
      ap₂ (λ (k : Option Kind) (time : Option ℤ). k >>= λ kind. (time >>= λ time. Some (let m : Message = record { time = time; content = content_in kind line } in m)))
      (members.kind_is line.head d holds.head) (members.time_is line.head d holds.head)
      ∙ each (type_of d) (time_of d) where
        each : (n : Option (List ℕ)) (t : Option ℤ) → (option_map kind_named n >>= λ kind. ((n >>= λ name. t) >>= λ time. Some (let m : Message = record { time = time; content = content_in kind line } in m)))
            ≡ (n >>= λ name. (t >>= λ time. Some (message_at name d time)))
        each None t = refl
        each (Some name) None = refl
        each (Some name) (Some time) = ap (λ (content : Content). let m : Message = record { time = time; content = content } in Some m) (content_is name)

-- the message of a line with this tree
pub message_read : (text : List ℕ) (line : LineSlots) (d : Data) → tree_of text ≡ Some d → HoldsLine timeline_selection line (members_in d) → message_in line ≡ message_of text
message_read text line d tree holds = message_is line d holds ∙ sym (ap (λ (o : Option Data). o >>= tree_message) tree)

-- a run begins with a line whose message is a `version`
pub run_read : (text : List ℕ) (line : LineSlots) (d : Data) → tree_of text ≡ Some d → HoldsLine timeline_selection line (members_in d) → is_version (kind_in line.head) ≡ is_version_text text
run_read text line d tree holds =
    ap is_version (members.kind_is line.head d holds.head)
    ∙ sym (ap (λ (o : Option Data). option_map_or (λ d. is_version (kind_of d)) o false) tree)
