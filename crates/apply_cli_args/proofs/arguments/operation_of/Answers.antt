use Rattle.std.proofs.Common.{◌≡◌, ◌∙◌, sym, codes, true, false}
use Rattle.clap.specs.Matches.{found_of}
use Rattle.clap.proofs.WalkLemmas.{one_text-rows}
use Rattle.apply_cli_args.proofs.arguments.operation_of.Goals as goal

pub returns-then-get_flag-clause-otherwise : goal.returns-then-get_flag-clause-otherwise
returns-then-get_flag-clause-otherwise c states =
    let bad : true ≡ false = sym c.if-get_flag.true ∙ c.get_flag.ensures.other (one_text-rows (found_of c.args.matches.now) (codes "destroy") ∙ states) in
    cc

pub returns-else-eq-clause-destroy : goal.returns-else-eq-clause-destroy
returns-else-eq-clause-destroy c states =
    let bad : true ≡ false = sym (c.get_flag.ensures.value (one_text-rows (found_of c.args.matches.now) (codes "destroy") ∙ states)) ∙ c.if-get_flag.false in
    cc
