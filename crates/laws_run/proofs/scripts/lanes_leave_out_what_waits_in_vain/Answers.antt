use Rattle.std.proofs.Common.{ℕ, zero, suc, ◌<◌, Bool, true, false, List, [], cond, arith}
use Rattle.apply_events.specs.declared.event.Event.{Event}
use Rattle.apply_events.specs.Step.{Work}
use Rattle.apply_events.specs.Waits.TimeLine.{IsTimeLine}
use Rattle.apply_text_terraform.specs.declared.form.Form.{Form}
use Rattle.apply_text_terraform.specs.declared.form.Form.TheVariants.{Applystream, Terraform}
use Rattle.apply_run.specs.Bytes.{Inputs, IsRead}
use Rattle.apply_run.specs.FromBytes.{IsReadFor, ReadFor, work_for}
use Rattle.apply_run.specs.Read.{IsStated, StatedInputs, is_unfinished}
use Rattle.laws_run.specs.Scripts.{LeaveOutJustWhatWaitsInVain}
use Rattle.laws_run.proofs.scripts.lanes_leave_out_what_waits_in_vain.Goals as goal

-- what is applied of the inputs: no change of a plan that is unfinished
abbrev applied : Inputs → StatedInputs → (unfinished : Bool) → Work
applied given stated unfinished = record {
  plan = cond unfinished (record { version = stated.plan.version; changes = [] }) stated.plan;
  script = cond unfinished [] stated.script;
  hooks = given.hooks;
}

module _ (given : Inputs) (n : ℕ) (events : List Event)
    (law : (work : Work) → IsRead given work.plan work.script → IsTimeLine work n events → LeaveOutJustWhatWaitsInVain work events) where
  of_stated : (stated : StatedInputs) (unfinished : Bool) → IsStated given.plan given.script stated
      → IsTimeLine (applied given stated unfinished) n events → LeaveOutJustWhatWaitsInVain (applied given stated unfinished) events
  of_stated stated true is line zero k has = absurd (omega arith)
  of_stated stated true is line (suc c) k has = absurd (omega arith)
  of_stated stated false is line c k has = law (applied given stated false) (record { plan_is = is.plan_is; script_is = is.script_is }) line c k has

  of_form : (form : Form) (read : ReadFor form) → IsReadFor form given read → IsTimeLine (work_for form given read) n events
      → LeaveOutJustWhatWaitsInVain (work_for form given read) events
  of_form Applystream read is line = law (work_for Applystream given read) is line
  of_form Terraform read is line = of_stated read (is_unfinished read.details.note) is line

pub returns : goal.returns
returns c form given lanes start operation report before after applied =
    let some : 0 < lanes = (let low = applied.sizes.some in omega arith) in
    let events = applied.streamed.events in
    of_form given lanes events (λ work read line. c.a_read_script_leaves_out_what_waits_in_vain.ensures.in_vain given work lanes events some read line)
    form applied.read applied.is_read applied.streamed.run
