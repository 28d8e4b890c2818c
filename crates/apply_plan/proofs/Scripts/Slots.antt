-- What the slots of the values of a script hold after one member more, whose name is known.
use Rattle.std.proofs.Common.{◌≡◌, ℕ, List, true, codes, map, option_map}
use Rattle.std.specs.Str.{bytes_eq}
use Rattle.serde_json.specs.Data.{Data, Members, put}
use Rattle.apply_json.specs.ShallowView.{shallow_view, shallow_of}
use Rattle.apply_json.proofs.OneMember.{after_member, located_after}
use Rattle.apply_plan.specs.declared.script.diag_slots.DiagSlots.{DiagSlots}
use Rattle.apply_plan.specs.declared.script.wait_slots.WaitSlots.{WaitSlots}
use Rattle.apply_plan.specs.declared.script.output_slots.OutputSlots.{OutputSlots}
use Rattle.apply_plan.specs.declared.script.provisioner_slots.ProvisionerSlots.{ProvisionerSlots}
use Rattle.apply_plan.specs.declared.script.step_slots.StepSlots.{StepSlots}
use Rattle.apply_plan.specs.declared.script.entry_slots.EntrySlots.{EntrySlots}
use Rattle.apply_plan.specs.Script.Entry.{output_from, provisioner_from, wait_from}
use Rattle.apply_plan.specs.Script.Members.{HoldsDiag, HoldsEntry, HoldsOutput, HoldsProvisioner, HoldsStep, HoldsWait, diag_member, each_member, failure_option_view, failure_member, object_member, steps_member, text_view}
use Rattle.apply_plan.specs.Script.OutputView.{outputs_view}
use Rattle.apply_plan.specs.Script.RawView.{entry_step_view, provisioner_view, waits_view}

module _ (k q : List ℕ) (d : Data) (ms : Members) (here : bytes_eq k q ≡ true) where
  pub diag_behind : (slots : DiagSlots) → shallow_view slots.summary ≡ shallow_of (located_after q d ms (codes "summary"))
      → shallow_view slots.detail ≡ shallow_of (located_after q d ms (codes "detail"))
      → text_view slots.range ≡ object_member (located_after q d ms (codes "range"))
      → text_view slots.snippet ≡ object_member (located_after q d ms (codes "snippet"))
      → shallow_view slots.severity ≡ shallow_of (located_after q d ms (codes "severity")) → HoldsDiag slots (put k d ms)
  diag_behind slots summary detail range snippet severity = record {
    summary = after_member shallow_of (codes "summary") k q d ms _ here summary;
    detail = after_member shallow_of (codes "detail") k q d ms _ here detail;
    range = after_member object_member (codes "range") k q d ms _ here range;
    snippet = after_member object_member (codes "snippet") k q d ms _ here snippet;
    severity = after_member shallow_of (codes "severity") k q d ms _ here severity;
  }

  pub wait_behind : (slots : WaitSlots) → shallow_view slots.address ≡ shallow_of (located_after q d ms (codes "address"))
      → shallow_view slots.deposed ≡ shallow_of (located_after q d ms (codes "deposed")) → shallow_view slots.step ≡ shallow_of (located_after q d ms (codes "step"))
      → HoldsWait slots (put k d ms)
  wait_behind slots address deposed step = record {
    address = after_member shallow_of (codes "address") k q d ms _ here address;
    deposed = after_member shallow_of (codes "deposed") k q d ms _ here deposed;
    step = after_member shallow_of (codes "step") k q d ms _ here step;
  }

  pub output_behind : (slots : OutputSlots) → shallow_view slots.after ≡ shallow_of (located_after q d ms (codes "after"))
      → shallow_view slots.text ≡ shallow_of (located_after q d ms (codes "text")) → HoldsOutput slots (put k d ms)
  output_behind slots after text = record {
    after = after_member shallow_of (codes "after") k q d ms _ here after;
    text = after_member shallow_of (codes "text") k q d ms _ here text;
  }

  pub provisioner_behind : (slots : ProvisionerSlots) → shallow_view slots.name ≡ shallow_of (located_after q d ms (codes "provisioner"))
      → shallow_view slots.seconds ≡ shallow_of (located_after q d ms (codes "seconds")) → slots.failed ≡ diag_member (located_after q d ms (codes "failed"))
      → option_map (λ outputs. outputs_view outputs.items) slots.output ≡ (each_member output_from) (located_after q d ms (codes "output"))
      → shallow_view slots.on_failure ≡ shallow_of (located_after q d ms (codes "on_failure")) → HoldsProvisioner slots (put k d ms)
  provisioner_behind slots name seconds failed output on_failure = record {
    name = after_member shallow_of (codes "provisioner") k q d ms _ here name;
    seconds = after_member shallow_of (codes "seconds") k q d ms _ here seconds;
    failed = after_member diag_member (codes "failed") k q d ms _ here failed;
    output = after_member (each_member output_from) (codes "output") k q d ms _ here output;
    on_failure = after_member shallow_of (codes "on_failure") k q d ms _ here on_failure;
  }

  pub step_behind : (slots : StepSlots) → shallow_view slots.seconds ≡ shallow_of (located_after q d ms (codes "seconds"))
      → option_map (λ waits. waits_view waits.items) slots.after ≡ (each_member wait_from) (located_after q d ms (codes "after"))
      → shallow_view slots.id ≡ shallow_of (located_after q d ms (codes "id")) → slots.warning ≡ diag_member (located_after q d ms (codes "warning"))
      → failure_option_view slots.failed ≡ failure_member (located_after q d ms (codes "failed"))
      → option_map (λ input. map provisioner_view input.items) slots.provisioners ≡ (each_member provisioner_from) (located_after q d ms (codes "provisioners"))
      → shallow_view slots.skipped ≡ shallow_of (located_after q d ms (codes "skipped")) → HoldsStep slots (put k d ms)
  step_behind slots seconds after id warning failed provisioners skipped = record {
    seconds = after_member shallow_of (codes "seconds") k q d ms _ here seconds;
    after = after_member (each_member wait_from) (codes "after") k q d ms _ here after;
    id = after_member shallow_of (codes "id") k q d ms _ here id;
    warning = after_member diag_member (codes "warning") k q d ms _ here warning;
    failed = after_member failure_member (codes "failed") k q d ms _ here failed;
    provisioners = after_member (each_member provisioner_from) (codes "provisioners") k q d ms _ here provisioners;
    skipped = after_member shallow_of (codes "skipped") k q d ms _ here skipped;
  }

  pub entry_behind : (slots : EntrySlots) → shallow_view slots.address ≡ shallow_of (located_after q d ms (codes "address"))
      → shallow_view slots.deposed ≡ shallow_of (located_after q d ms (codes "deposed"))
      → option_map (λ steps. map entry_step_view steps.items) slots.steps ≡ steps_member (located_after q d ms (codes "steps"))
      → HoldsEntry slots (put k d ms)
  entry_behind slots address deposed steps = record {
    address = after_member shallow_of (codes "address") k q d ms _ here address;
    deposed = after_member shallow_of (codes "deposed") k q d ms _ here deposed;
    steps = after_member steps_member (codes "steps") k q d ms _ here steps;
  }
