use Rattle.std.proofs.Common.{◌++◌, ◌∙◌, ap, ap₂, codes, map, refl}
use Rattle.std.proofs.lemmas.List.{take_all}
use Rattle.clap.specs.Matches.{found_of}
use Rattle.clap.specs.Walk.{texts}
use Rattle.apply_cli_args.specs.CommandLine.{kind_of_word}
use Rattle.apply_cli_args.specs.declared.halt.Halt.TheVariants.{Before, Inside}
use Rattle.apply_cli_args.proofs.Options.{values_are}
use Rattle.apply_cli_args.proofs.arguments.halts_of.Goals as goal

pub returns : goal.returns
returns c =
    let matched = found_of c.args.matches.now in
    let kinds = values_are matched (codes "halt-before") c.get_strs.result _ c.unwrap_or-kind-items.result c.get_strs.ensures refl c.unwrap_or-kind-items.ensures in
    let prefixes = values_are matched (codes "halt-in") c.get_strs-2.result _ c.unwrap_or-prefix-items.result c.get_strs-2.ensures refl c.unwrap_or-prefix-items.ensures in
    let before =
    c.loop-kind.invariant
    ∙ ap (λ words. map (λ word. Before (kind_of_word word)) (texts words)) (take_all c.loop-kind.kind-index c.unwrap_or-kind-items.result.now c.loop-kind-test.false)
    ∙ ap (map (λ word. Before (kind_of_word word))) kinds in
    let inside =
    ap (λ words. map Inside (texts words)) (take_all c.loop-prefix.prefix-index c.unwrap_or-prefix-items.result.now c.loop-prefix-test.false)
    ∙ ap (map Inside) prefixes in
    c.loop-prefix.invariant ∙ ap₂ (λ first second. first ++ second) before inside
