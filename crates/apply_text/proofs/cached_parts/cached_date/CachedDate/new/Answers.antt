use Rattle.std.proofs.Common.{◌≡◌, ◌*◌, pos, ◌*ℤ◌, IfOk, ap, ◌∙◌, subst, arith, to_z, w64}
use Rattle.std.proofs.lemmas.Int.{to_z_pos}
use Rattle.jiff.specs.Words.{civil_nanos, date_text as iso_date_text}
use Rattle.jiff_core.proofs.SignedLemmas.{signed_arith}
use Rattle.apply_text.specs.CachedParts.{unterminated_date, unterminated}
use Rattle.apply_text.proofs.Moments.{date_text_is}
use Rattle.apply_text.proofs.cached_parts.cached_date.CachedDate.new.Goals as goal

pub invariant_of-result : goal.invariant_of-result
unfolding unterminated_date
invariant_of-result c =
    let seconds = c.args.seconds in
    let instant : c.unwrap-instant.result.nanosecond ≡ to_z w64 seconds *ℤ pos 1000000000 = subst (λ r. IfOk r (λ t. t.nanosecond ≡ to_z w64 seconds *ℤ pos 1000000000)) c.unwrap-instant.ensures c.from_second.ensures.value in
    let small : to_z w64 seconds ≡ pos seconds = to_z_pos w64 seconds (omega (arith, c.requires)) in
    let is : civil_nanos c.to_datetime.result ≡ pos (seconds * 1000000000) = omega (arith, signed_arith, c.to_datetime.ensures, instant, ap (λ z. z *ℤ pos 1000000000) small) in
    c.in_ok-unterminated.ensures ∙ ap unterminated (c.as_str.ensures.value ∙ c.in_ok-text.ensures.ok ∙ ap iso_date_text c.date-date.ensures ∙ date_text_is c.to_datetime.result seconds is)
