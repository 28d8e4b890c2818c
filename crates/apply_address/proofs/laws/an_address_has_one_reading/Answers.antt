use Rattle.std.proofs.Common.{ap, sym, ◌∙◌}
use Rattle.apply_address.specs.Reading.{parts_in}
use Rattle.apply_address.proofs.Steps.{same_Some}
use Rattle.apply_address.proofs.WrittenAddresses.{address_read}
use Rattle.apply_address.proofs.laws.an_address_has_one_reading.Goals as goal

pub returns : goal.returns
returns c = λ one other one_is other_is same. same_Some _ _ (sym (address_read one one_is) ∙ ap parts_in same ∙ address_read other other_is)
