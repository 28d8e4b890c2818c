use Rattle.stream_check.proofs.Accepted.{is_whole}
use Rattle.stream_check.proofs.Doubling.{not_both}
use Rattle.std.proofs.Common.{◌++◌, ◌∷◌}
use Rattle.stream_check.proofs.verdict.laws.no_start_or_end_is_one_too_many.Goals as goal

pub returns : goal.returns
returns c = λ mode front back line address action stage is no_read no_refresh criteria few many accepted accepted_too.
    let whole = is_whole mode (front ++ back) few accepted in
    let whole_too = is_whole mode (front ++ line ∷ back) many accepted_too in
    not_both mode front back line address action stage few many whole.0 whole_too.0 is no_read no_refresh criteria whole.1 whole_too.1
