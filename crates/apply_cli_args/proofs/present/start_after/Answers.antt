use Rattle.std.proofs.Common.{◌≡◌, ◌∙◌, ◌*ℤ◌, ap, pos, arith, FitsSigned}
use mir.Syntax.{w128}
use Rattle.std.proofs.lemmas.Int.{to_z-of_z}
use Rattle.jiff_core.proofs.SignedLemmas.{signed_arith}
use Rattle.apply_text.specs.Start.{start_at}
use Rattle.apply_cli_args.proofs.present.start_after.Goals as goal

pub returns-in-Ok : goal.returns-in-Ok
returns-in-Ok c =
    let wide : c.from.result ≡ pos c.args.seconds = c.from.ensures in
    let first : FitsSigned w128 c.from.result = omega (arith, signed_arith, wide, c.ranges.seconds.fits) in
    let product : FitsSigned w128 (c.from.result *ℤ pos 1000000000) = omega (arith, signed_arith, wide, c.ranges.seconds.fits) in
    let value : c.in-Ok.instant.nanosecond ≡ c.from.result *ℤ pos 1000000000 = simp to_z-of_z at c.in-Ok.ensures.value in
    c.start_of_instant.ensures ∙ ap start_at (value ∙ ap (λ z. z *ℤ pos 1000000000) wide)
