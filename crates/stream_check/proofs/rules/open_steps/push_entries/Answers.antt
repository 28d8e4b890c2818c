use Rattle.std.proofs.Common.{◌≡◌, ◌∙◌, ◌++◌, List, Option, map, ap, append_assoc}
use Rattle.stream_check.specs.declared.rules.address_state.Failures.{Failures}
use Rattle.stream_check.specs.declared.rules.open_entry.OpenKind.TheVariants.{Create, Update, Delete, Refresh}
use Rattle.stream_check.specs.declared.rules.pending.Pending.{Pending}
use Rattle.stream_check.specs.Unended.{open_failures, open_step, opened, if_required}
use Rattle.stream_check.proofs.rules.open_steps.push_entries.Goals as goal

-- the entries after five additions
all_five : {A : Type 0} (o n1 n2 n3 n4 n5 a b c d e : List A) → n1 ≡ o ++ a → n2 ≡ n1 ++ b → n3 ≡ n2 ++ c → n4 ≡ n3 ++ d → n5 ≡ n4 ++ e
    → n5 ≡ o ++ (a ++ b ++ c ++ d ++ e)
all_five o n1 n2 n3 n4 n5 a b c d e p q r s t = rw (t, s, r, q, p) (simp append_assoc)

pub returns : goal.returns
returns c =
    let address = c.args.address.now in
    let s = c.args.state.now in
    all_five
    (map opened c.args.entries.now.items)
    (map opened c.push_step.new.entries.items)
    (map opened c.push_step-2.new.entries.items)
    (map opened c.push_step-3.new.entries.items)
    (map opened c.push_step-4.new.entries.items)
    (map opened c.push_failures.new.entries.items)
    (open_step address Create s.create)
    (open_step address Update s.update)
    (open_step address Delete s.delete)
    (open_step address Refresh (if_required c.args.criteria.refreshes s.refresh))
    (open_failures address (if_required c.args.criteria.failures s.failures))
    c.in_ok-push_step.ensures
    c.in_ok-push_step-2.ensures
    c.in_ok-push_step-3.ensures
    (c.in_ok-push_step-4.ensures ∙ ap (λ (p : Option Pending). map opened c.push_step-3.new.entries.items ++ open_step address Refresh p) c.step_if-refresh.ensures)
    (c.in_ok-push_failures.ensures ∙ ap (λ (p : Option Failures). map opened c.push_step-4.new.entries.items ++ open_failures address p) c.failures_if-failures.ensures)
