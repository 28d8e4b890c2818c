use Rattle.input_graph.proofs.Quotes.{passes_escaped, passes_plain}
use Rattle.input_graph.proofs.quoted.closing_quote.Goals as goal
use Rattle.input_graph.proofs.quoted.closing_quote.Goals.{then-is_escaped, else-is_escaped+else-byte-eq34}

pub loop-place-preserved : goal.loop-place-preserved
loop-place-preserved c = elim c.if-is_escaped.branch [
  | then-is_escaped w ↦
      passes_escaped c.args.bytes.now c.loop-place.place c.loop-place-test.true _ _ _ c.loop-place.invariant w.if-is_escaped.true w.is_escaped-is
  | else-is_escaped+else-byte-eq34 w ↦
      passes_plain c.args.bytes.now c.loop-place.place c.loop-place-test.true _ _ _ c.loop-place.invariant w.if-is_escaped.false w.if-byte-eq34.false w.is_escaped-is
]
