use Rattle.std.proofs.Common.{◌≡◌, ◌+◌, ◌*◌, ◌≤◌, pos, ◌*ℤ◌, IfOk, ap, ◌∙◌, subst, arith, to_z, w64}
use Rattle.std.proofs.lemmas.Int.{to_z_pos}
use Rattle.jiff.specs.Words.{civil_nanos}
use Rattle.jiff_core.proofs.SignedLemmas.{signed_arith}
use Rattle.apply_text.specs.UtcTimestamp.{timestamp_text}
use Rattle.apply_text.specs.Start.{last_second}
use Rattle.apply_text.proofs.Moments.{text_is}
use Rattle.apply_text.proofs.display.timestamp.UtcTimestamp.new.Goals as goal

pub returns : goal.returns
returns c =
    let seconds = c.seconds.result + c.args.clock in
    let instant : c.unwrap-instant.result.nanosecond ≡ to_z w64 seconds *ℤ pos 1000000000 = subst (λ r. IfOk r (λ t. t.nanosecond ≡ to_z w64 seconds *ℤ pos 1000000000)) c.unwrap-instant.ensures c.from_second.ensures.value in
    let few : seconds ≤ last_second = omega (arith, c.seconds.ensures.in_range, c.requires) in
    let small : to_z w64 seconds ≡ pos seconds = to_z_pos w64 seconds (omega (arith, few)) in
    let is : civil_nanos c.to_datetime.result ≡ pos (seconds * 1000000000) = omega (arith, signed_arith, c.to_datetime.ensures, instant, ap (λ z. z *ℤ pos 1000000000) small) in
    text_is c.to_datetime.result seconds is ∙ ap (λ s. timestamp_text (s + c.args.clock)) c.seconds.ensures.value
