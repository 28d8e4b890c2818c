use Rattle.laws_own_streams.proofs.ReadScripts.{all_addressed}
use Rattle.laws_own_streams.proofs.no_address_is_empty.Goals as goal

pub returns : goal.returns
returns c bytes plan read = all_addressed plan.changes (c.relative_addresses_join_their_module.ensures bytes plan read)
