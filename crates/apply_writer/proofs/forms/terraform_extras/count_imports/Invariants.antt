use Rattle.std.proofs.Common.{◌≡◌, take}
use Rattle.apply_writer.specs.Stream.Terraform.{imported_in}
use Rattle.apply_writer.proofs.forms.terraform_extras.count_imports.Given as goal

abbrev pub invariant-loop-change : goal.invariant-loop-change
invariant-loop-change l = l.count ≡ imported_in (take l.change-index l.details)
