use Rattle.std.proofs.Common.{arith}
use Rattle.std.proofs.lemmas.List.{length-drop}
use Rattle.apply_text_terraform.proofs.Escapes.{front_written, plain_written}
use Rattle.apply_text_terraform.proofs.escaping.push_front.Goals as goal

pub returns-then-plain-text-clause-ok : goal.returns-then-plain-text-clause-ok
returns-then-plain-text-clause-ok c =
    let plain = c.plain_len-plain in (
      omega (arith, c.requires, c.if-plain-text.true),
      plain.ensures.within,
      plain_written c.args.lines.now.items _ c.args.text.now plain.result c.if-plain-text.true plain.ensures.plain c.in_ok-extend_from_slice.ensures.items,
    )

pub returns-clause-ok : goal.returns-clause-ok
returns-clause-ok c =
    let plain = c.plain_len-plain in (
      omega (arith, c.front_of-size.ensures.some),
      omega (arith, c.front_of-size.ensures.within, plain.ensures.within, length-drop plain.result c.args.text.now),
      front_written c.args.lines.now.items _ _ _ c.args.text.now plain.result c.front_of-size.result.1 plain.ensures.plain c.in_ok-extend_from_slice.ensures.items c.in_ok-extend_from_slice-2.ensures.items c.front_of-size.ensures.escaped_front,
    )
