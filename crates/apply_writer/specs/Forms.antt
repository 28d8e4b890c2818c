-- The lines of a stream in Terraform's form, for private clauses.
use Rattle.std.specs.Prelude.{◌≡◌}
use Rattle.apply_writer.specs.declared.forms.terraform_lines.TerraformLines.{TerraformLines}

-- both are equal, apart from the line that was built
pub record IsSame (old new : TerraformLines) : Type 0 where
  pub plan : new.plan ≡ old.plan
  pub script : new.script ≡ old.script
  pub extras : new.extras ≡ old.extras
  pub start : new.start ≡ old.start
  pub operation : new.operation ≡ old.operation
