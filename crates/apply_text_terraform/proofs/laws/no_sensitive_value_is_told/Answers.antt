use Rattle.apply_text_terraform.proofs.Absent.{secrets}
use Rattle.apply_text_terraform.proofs.laws.no_sensitive_value_is_told.Goals as goal

pub returns : goal.returns
returns c = secrets
