use Rattle.std.proofs.Common.{codes, refl, sym, ◌∙◌, ⊎_elim}
use Rattle.serde_json.specs.Find.{get_member}
use Rattle.apply_json.specs.ShallowView.{members_in}
use Rattle.apply_plan.specs.Script.EntriesView.{entries_in}
use Rattle.apply_plan.proofs.Scripts.Read.{elements_of_absent, elements_of_list, elements_of_other}
use Rattle.apply_plan.proofs.script.script_slots.ScriptSlots.entries.Goals as goal

pub returns-in-List-clause-ok : goal.returns-in-List-clause-ok
returns-in-List-clause-ok c = (refl, λ d holds. (entries_in (get_member (codes "changes") (members_in d)), elements_of_list d (sym c.in-List.is ∙ holds.kind), holds.entries))

pub returns : goal.returns
returns c = record {
  ok = tt;
  err = λ d holds.
      ⊎_elim (λ absent. elements_of_absent d (sym absent ∙ holds.kind)) (λ other. elements_of_other d (sym other ∙ holds.kind)) c.in-Absent.is;
}
