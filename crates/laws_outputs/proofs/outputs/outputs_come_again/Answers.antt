use Rattle.apply_plan_terraform.specs.Outputs.{written_outputs}
use Rattle.laws_outputs.specs.Again.{told_again}
use Rattle.laws_outputs.proofs.Again.{come_again}
use Rattle.laws_outputs.proofs.Exact.{all_same}
use Rattle.laws_outputs.proofs.outputs.outputs_come_again.Goals as goal

pub returns : goal.returns
returns c = record {
  shown = λ plan script known in_order faultless. come_again plan known script in_order 0 faultless;
  exact = λ plan script known in_order faultless all.
      all_same (told_again plan (written_outputs plan script)) (written_outputs plan script) (come_again plan known script in_order 0 faultless) all;
}
