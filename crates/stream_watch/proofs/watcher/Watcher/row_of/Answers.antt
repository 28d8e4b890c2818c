use Rattle.std.proofs.Common.{ℤ, Option, ap, sym, w64, ◌∙◌}
use Rattle.std.specs.Prelude.{is_some, unwrap_or}
use Rattle.std.proofs.lemmas.Int.{to_z-of_z}
use Rattle.serde_json.specs.View.{view}
use Rattle.stream_watch.specs.ProvisionerRows.{provision_told}
use Rattle.stream_watch.specs.RefreshRow.{refresh_told}
use Rattle.stream_watch.specs.State.{Told, looks_of, nothing, state_of}
use Rattle.stream_watch.specs.StepRows.{step_told}
use Rattle.stream_watch.specs.Telling.{kind_told}
use Rattle.stream_watch.proofs.RowTellings.{row_is, row_told_as}
use Rattle.stream_watch.proofs.Tellings.{tells_as}
use Rattle.stream_watch.proofs.watcher.Watcher.row_of.Goals as goal

pub returns-in-Version : goal.returns-in-Version
returns-in-Version c =
    let before = c.args.self.now in
    let same = sym (ap (kind_told (looks_of before) (state_of before) before.find c.args.line.now c.args.name.now (view c.args.tree.now) c.args.moment) c.in-Version.is) in
    record {
      is = c.version.ensures.is ∙ ap is_some same;
      told = tells_as before c.version.new.self _ _ (ap (λ (told : Option Told). unwrap_or told (nothing (state_of before))) same) c.version.ensures.told;
    }

pub returns-in-Planned : goal.returns-in-Planned
returns-in-Planned c =
    let before = c.args.self.now in
    let same = sym (ap (kind_told (looks_of before) (state_of before) before.find c.args.line.now c.args.name.now (view c.args.tree.now) c.args.moment) c.in-Planned.is) in
    record {
      is = c.planned.ensures.is ∙ ap is_some same;
      told = tells_as before c.planned.new.self _ _ (ap (λ (told : Option Told). unwrap_or told (nothing (state_of before))) same) c.planned.ensures.told;
    }

pub returns-in-Summary : goal.returns-in-Summary
returns-in-Summary c =
    let before = c.args.self.now in
    let same = sym (ap (kind_told (looks_of before) (state_of before) before.find c.args.line.now c.args.name.now (view c.args.tree.now) c.args.moment) c.in-Summary.is) in
    record {
      is = c.summary.ensures.is ∙ ap is_some same;
      told = tells_as before c.summary.new.self _ _ (ap (λ (told : Option Told). unwrap_or told (nothing (state_of before))) same) c.summary.ensures.told;
    }

pub returns-in-Other : goal.returns-in-Other
returns-in-Other c =
    let before = c.args.self.now in
    let same = sym (ap (kind_told (looks_of before) (state_of before) before.find c.args.line.now c.args.name.now (view c.args.tree.now) c.args.moment) c.in-Other.is) in
    record {
      is = c.unknown.ensures.is ∙ ap is_some same;
      told = tells_as before c.unknown.new.self _ _ (ap (λ (told : Option Told). unwrap_or told (nothing (state_of before))) same) c.unknown.ensures.told;
    }

pub returns-in-Apply : goal.returns-in-Apply
returns-in-Apply c =
    let before = c.args.self.now in
    let looks = looks_of before in
    let state = state_of before in
    let tree = view c.args.tree.now in
    let same = ap (λ (moment : ℤ). step_told looks state c.in-Apply.stage tree moment) (to_z-of_z w64 c.args.moment c.ranges.moment) ∙ sym (ap (kind_told (looks_of before) (state_of before) before.find c.args.line.now c.args.name.now (view c.args.tree.now) c.args.moment) c.in-Apply.is) in
    record {
      is = row_is c.step.result _ _ same c.step.ensures.is;
      told = row_told_as c.step.result before c.step.new.self _ _ same c.step.ensures.told;
    }

pub returns-in-Ephemeral : goal.returns-in-Ephemeral
returns-in-Ephemeral c =
    let before = c.args.self.now in
    let looks = looks_of before in
    let state = state_of before in
    let tree = view c.args.tree.now in
    let same = ap (λ (moment : ℤ). step_told looks state c.in-Ephemeral.stage tree moment) (to_z-of_z w64 c.args.moment c.ranges.moment) ∙ sym (ap (kind_told (looks_of before) (state_of before) before.find c.args.line.now c.args.name.now (view c.args.tree.now) c.args.moment) c.in-Ephemeral.is) in
    record {
      is = row_is c.step-in-Ephemeral.result _ _ same c.step-in-Ephemeral.ensures.is;
      told = row_told_as c.step-in-Ephemeral.result before c.step-in-Ephemeral.new.self _ _ same c.step-in-Ephemeral.ensures.told;
    }

pub returns-in-Refresh : goal.returns-in-Refresh
returns-in-Refresh c =
    let before = c.args.self.now in
    let looks = looks_of before in
    let state = state_of before in
    let tree = view c.args.tree.now in
    let same = ap (λ (moment : ℤ). refresh_told state c.in-Refresh.stage tree moment) (to_z-of_z w64 c.args.moment c.ranges.moment) ∙ sym (ap (kind_told (looks_of before) (state_of before) before.find c.args.line.now c.args.name.now (view c.args.tree.now) c.args.moment) c.in-Refresh.is) in
    record {
      is = row_is c.refresh.result _ _ same c.refresh.ensures.is;
      told = row_told_as c.refresh.result before c.refresh.new.self _ _ same c.refresh.ensures.told;
    }

pub returns-in-Provision : goal.returns-in-Provision
returns-in-Provision c =
    let before = c.args.self.now in
    let looks = looks_of before in
    let state = state_of before in
    let tree = view c.args.tree.now in
    let same = ap (λ (moment : ℤ). provision_told looks state c.in-Provision.stage tree moment) (to_z-of_z w64 c.args.moment c.ranges.moment) ∙ sym (ap (kind_told (looks_of before) (state_of before) before.find c.args.line.now c.args.name.now (view c.args.tree.now) c.args.moment) c.in-Provision.is) in
    record {
      is = row_is c.provision.result _ _ same c.provision.ensures.is;
      told = row_told_as c.provision.result before c.provision.new.self _ _ same c.provision.ensures.told;
    }

pub returns-in-Diagnostic : goal.returns-in-Diagnostic
returns-in-Diagnostic c =
    let before = c.args.self.now in
    let same = sym (ap (kind_told (looks_of before) (state_of before) before.find c.args.line.now c.args.name.now (view c.args.tree.now) c.args.moment) c.in-Diagnostic.is) in
    record {
      is = row_is c.diagnostic.result _ _ same c.diagnostic.ensures.is;
      told = row_told_as c.diagnostic.result before c.diagnostic.new.self _ _ same c.diagnostic.ensures.told;
    }

pub returns-in-Outputs : goal.returns-in-Outputs
returns-in-Outputs c =
    let before = c.args.self.now in
    let same = sym (ap (kind_told (looks_of before) (state_of before) before.find c.args.line.now c.args.name.now (view c.args.tree.now) c.args.moment) c.in-Outputs.is) in
    record {
      is = row_is c.outputs.result _ _ same c.outputs.ensures.is;
      told = row_told_as c.outputs.result before c.outputs.new.self _ _ same c.outputs.ensures.told;
    }
