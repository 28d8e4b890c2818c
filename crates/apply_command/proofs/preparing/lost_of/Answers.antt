use Rattle.std.proofs.Common.{◌∙◌, ◌&&◌, ap, sym}
use Rattle.std.specs.Option.{option_copied}
use Rattle.apply_planning_failures.specs.Planning.{is_lost}
use Rattle.apply_command.proofs.preparing.lost_of.Goals as goal

pub returns-in_ok-of : goal.returns-in_ok-of
returns-in_ok-of c = λ events begun id.
    c.in_ok-of.ensures events begun id
    ∙ ap (λ b. b && is_lost (record { told = c.args.told.now; events = events }) id.address.now (option_copied id.deposed)) (sym c.if-failed.true)
