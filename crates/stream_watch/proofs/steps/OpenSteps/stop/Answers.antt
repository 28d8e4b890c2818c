use Rattle.std.proofs.Common.{◌<◌, ℤ, None, Some, SFits, ap, arith, length, refl, rules, sym, w64, ◌∙◌}
use Rattle.std.proofs.lemmas.Int.{to_z-of_z}
use Rattle.stream_watch.specs.Steps.{runs_at, step_view, steps_of}
use Rattle.stream_watch.proofs.StepPlaces.{begin_at, begin_nowhere, has_no_last, last_within, last_written}
use Rattle.stream_watch.proofs.steps.OpenSteps.stop.Goals as goal

pub returns-in_err-index-clause-begin : goal.returns-in_err-index-clause-begin
returns-in_err-index-clause-begin c =
    c.from_residual.ensures ∙ sym (begin_nowhere c.args.address.now (steps_of c.args.self.now) (sym c.in_err-index.was ∙ c.last_at.ensures))

pub returns-in_err-index-clause-steps : goal.returns-in_err-index-clause-steps
returns-in_err-index-clause-steps c =
    let none = has_no_last (runs_at c.args.address.now) None (steps_of c.args.self.now) (sym c.in_err-index.was ∙ c.last_at.ensures) in
    sym none.written

pub index_mut-requires : goal.index_mut-requires
index_mut-requires c =
    let list = c.args.self.now.list in
    let within : c.in_ok-index.index < length list.items = last_within step_view (runs_at c.args.address.now) list.items c.in_ok-index.index (sym c.in_ok-index.was ∙ c.last_at.ensures) in
    omega (arith, list.ok.0)

pub returns-in_err-provisioner-clause-begin : goal.returns-in_err-provisioner-clause-begin
returns-in_err-provisioner-clause-begin c =
    c.from_residual-in_err-provisioner.ensures
    ∙ sym (begin_at c.args.address.now c.args.self.now.list.items c.in_ok-index.index c.index_mut.result.now None c.index_mut.ensures.value (sym c.in_ok-index.was ∙ c.last_at.ensures)
    (sym c.in_err-provisioner.was ∙ c.take.ensures.value))

pub returns-in_err-provisioner-clause-steps : goal.returns-in_err-provisioner-clause-steps
returns-in_err-provisioner-clause-steps c =
    last_written step_view (runs_at c.args.address.now) None c.args.self.now.list.items c.in_ok-index.index c.index_mut.result.now _
    c.index_mut.ensures.value
    (sym c.in_ok-index.was ∙ c.last_at.ensures)
    (rw c.take.ensures.after refl)

pub returns-clause-begin : goal.returns-clause-begin
returns-clause-begin c =
    let fits : SFits w64 c.in_ok-provisioner.provisioner.begin = search rules in
    ap (λ (begin : ℤ). Some begin) (to_z-of_z w64 c.in_ok-provisioner.provisioner.begin fits)
    ∙ sym (begin_at c.args.address.now c.args.self.now.list.items c.in_ok-index.index c.index_mut.result.now (Some c.in_ok-provisioner.provisioner) c.index_mut.ensures.value (sym c.in_ok-index.was ∙ c.last_at.ensures)
    (sym c.in_ok-provisioner.was ∙ c.take.ensures.value))

pub returns-clause-steps : goal.returns-clause-steps
returns-clause-steps c =
    last_written step_view (runs_at c.args.address.now) None c.args.self.now.list.items c.in_ok-index.index c.index_mut.result.now _
    c.index_mut.ensures.value
    (sym c.in_ok-index.was ∙ c.last_at.ensures)
    (rw c.take.ensures.after refl)
