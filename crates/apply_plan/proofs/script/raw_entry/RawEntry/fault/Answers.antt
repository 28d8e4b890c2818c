-- Each test is made only if the tests before it found no fault.
use Rattle.std.proofs.Common.{◌≤◌, length, true, false, refl, sym, arith}
use Rattle.apply_plan.proofs.Scripts.Refusals.{fault_is}
use Rattle.apply_plan.proofs.script.raw_entry.RawEntry.fault.Goals as goal

pub returns-then-exceeds_any : goal.returns-then-exceeds_any
returns-then-exceeds_any c =
    let few : length c.args.self.now.steps.items ≤ length c.args.kinds.now = omega (arith, c.args.self.now.steps.ok.0, c.len.ensures, c.if-len-kinds.false) in
    sym (fault_is c.args.number c.args.is_deposed c.args.kinds.now c.args.self.now.steps.items true _ _ _ _ few
    (rw c.deref.ensures.value at c.if-exceeds_any.ensures)
    refl
    refl
    refl
    refl)

pub returns-then-exceeds_any-2 : goal.returns-then-exceeds_any-2
returns-then-exceeds_any-2 c =
    let few : length c.args.self.now.steps.items ≤ length c.args.kinds.now = omega (arith, c.args.self.now.steps.ok.0, c.len.ensures, c.if-len-kinds.false) in
    sym (fault_is c.args.number c.args.is_deposed c.args.kinds.now c.args.self.now.steps.items false true _ _ _ few
    (rw c.deref.ensures.value at c.if-exceeds_any.ensures)
    (rw c.deref-else-exceeds_any.ensures.value at c.if-exceeds_any-2.ensures)
    refl
    refl
    refl)

pub returns-then-exceeds_any-3 : goal.returns-then-exceeds_any-3
returns-then-exceeds_any-3 c =
    let few : length c.args.self.now.steps.items ≤ length c.args.kinds.now = omega (arith, c.args.self.now.steps.ok.0, c.len.ensures, c.if-len-kinds.false) in
    sym (fault_is c.args.number c.args.is_deposed c.args.kinds.now c.args.self.now.steps.items false false true _ _ few
    (rw c.deref.ensures.value at c.if-exceeds_any.ensures)
    (rw c.deref-else-exceeds_any.ensures.value at c.if-exceeds_any-2.ensures)
    (rw c.deref-else-exceeds_any-2.ensures.value at c.if-exceeds_any-3.ensures)
    refl
    refl)

pub returns-then-misplaces_any_provisioners : goal.returns-then-misplaces_any_provisioners
returns-then-misplaces_any_provisioners c =
    let few : length c.args.self.now.steps.items ≤ length c.args.kinds.now = omega (arith, c.args.self.now.steps.ok.0, c.len.ensures, c.if-len-kinds.false) in
    sym (fault_is c.args.number c.args.is_deposed c.args.kinds.now c.args.self.now.steps.items false false false true _ few
    (rw c.deref.ensures.value at c.if-exceeds_any.ensures)
    (rw c.deref-else-exceeds_any.ensures.value at c.if-exceeds_any-2.ensures)
    (rw c.deref-else-exceeds_any-2.ensures.value at c.if-exceeds_any-3.ensures)
    (rw c.deref-else-exceeds_any-3.ensures.value at c.if-misplaces_any_provisioners.ensures)
    refl)

pub returns-then-warns_any_not_a_read : goal.returns-then-warns_any_not_a_read
returns-then-warns_any_not_a_read c =
    let few : length c.args.self.now.steps.items ≤ length c.args.kinds.now = omega (arith, c.args.self.now.steps.ok.0, c.len.ensures, c.if-len-kinds.false) in
    sym (fault_is c.args.number c.args.is_deposed c.args.kinds.now c.args.self.now.steps.items false false false false true few
    (rw c.deref.ensures.value at c.if-exceeds_any.ensures)
    (rw c.deref-else-exceeds_any.ensures.value at c.if-exceeds_any-2.ensures)
    (rw c.deref-else-exceeds_any-2.ensures.value at c.if-exceeds_any-3.ensures)
    (rw c.deref-else-exceeds_any-3.ensures.value at c.if-misplaces_any_provisioners.ensures)
    (rw c.deref-else-misplaces_any_provisioners.ensures.value at c.if-warns_any_not_a_read.ensures))

pub returns-else-warns_any_not_a_read : goal.returns-else-warns_any_not_a_read
returns-else-warns_any_not_a_read c =
    let few : length c.args.self.now.steps.items ≤ length c.args.kinds.now = omega (arith, c.args.self.now.steps.ok.0, c.len.ensures, c.if-len-kinds.false) in
    sym (fault_is c.args.number c.args.is_deposed c.args.kinds.now c.args.self.now.steps.items false false false false false few
    (rw c.deref.ensures.value at c.if-exceeds_any.ensures)
    (rw c.deref-else-exceeds_any.ensures.value at c.if-exceeds_any-2.ensures)
    (rw c.deref-else-exceeds_any-2.ensures.value at c.if-exceeds_any-3.ensures)
    (rw c.deref-else-exceeds_any-3.ensures.value at c.if-misplaces_any_provisioners.ensures)
    (rw c.deref-else-misplaces_any_provisioners.ensures.value at c.if-warns_any_not_a_read.ensures))
