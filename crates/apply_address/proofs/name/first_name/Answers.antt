use Rattle.std.proofs.Common.{rules}
use Rattle.apply_address.proofs.Delimiters.{delimiter_boundary}
use Rattle.apply_address.proofs.name.first_name.Goals as goal

pub split_at-requires : goal.split_at-requires
split_at-requires c = delimiter_boundary _ _ (search rules)
