use Rattle.std.proofs.Common.{◌∙◌, ap}
use Rattle.std.specs.Map.{lookup}
use Rattle.apply_resolve.specs.declared.hashed_id.HashedId.{HashedId}
use Rattle.apply_resolve.specs.HashedId.{is_same}
use Rattle.apply_resolve.proofs.Numbers.{get_is}
use Rattle.apply_resolve.proofs.change_numbers.ChangeNumbers.get.Goals as goal

pub returns : goal.returns
returns c = c.copied.ensures ∙ c.get.ensures.value ∙ get_is c.args.self.now.numbers c.of.result ∙ ap (λ (key : HashedId). lookup (is_same key) c.args.self.now.numbers.entries) c.of.ensures
