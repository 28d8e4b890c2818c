use Rattle.std.proofs.Common.{◌∙◌, ◌+◌, ◌++◌, ◌-◌, ap, arith, drop, sym}
use Rattle.std.proofs.lemmas.List.{take_rest}
use Rattle.term_text.specs.LineTexts.{colour_size, uncoloured, uncoloured_after}
use Rattle.term_text.proofs.LineTexts.{uncoloured-begun, uncoloured-end, uncoloured-kept, uncoloured-passed}
use Rattle.term_text.proofs.line.uncoloured.Goals as goal
use Rattle.term_text.proofs.line.uncoloured.Goals.{then-passed-eq0, else-passed-eq0, then-passed-eq0-2+in_ok-push, else-passed-eq0-2}

pub loop-place-preserved : goal.loop-place-preserved
loop-place-preserved c =
    let place = c.loop-place.place in
    let passed = c.loop-place.passed in
    let left = c.if-passed-eq0.passed in
    let bytes = c.args.bytes.now in
    let before = c.loop-place.plain.items in
    let whole = uncoloured bytes in
    let below = c.loop-place-test.true in
    let so_far = c.loop-place.invariant in
    elim c.if-passed-eq0-2.branch [
      | then-passed-eq0-2+in_ok-push w ↦ rw (w.plain-is, w.passed-is) (elim c.if-passed-eq0.branch [
        | then-passed-eq0 v ↦ uncoloured-kept passed left place bytes before w.push.new.self.items whole below v.if-passed-eq0.true
            (v.passed-is ∙ v.colour_size-passed.ensures.value ∙ ap colour_size (take_rest bytes place)) w.if-passed-eq0-2.true w.in_ok-push.ensures.items so_far
        | else-passed-eq0 v ↦ absurd (v.if-passed-eq0.false (sym v.passed-is ∙ w.if-passed-eq0-2.true))
      ])
      | else-passed-eq0-2 w ↦ rw (w.plain-is, w.passed-is) (elim c.if-passed-eq0.branch [
        | then-passed-eq0 v ↦ uncoloured-begun passed left place bytes before whole below v.if-passed-eq0.true
            (v.passed-is ∙ v.colour_size-passed.ensures.value ∙ ap colour_size (take_rest bytes place)) w.if-passed-eq0-2.false so_far
        | else-passed-eq0 v ↦ rw v.passed-is (uncoloured-passed passed place bytes before whole below v.if-passed-eq0.false so_far)
      ])
    ]

pub returns : goal.returns
returns c = sym (uncoloured-end c.loop-place.passed c.loop-place.place c.args.bytes.now c.loop-place.plain.items (omega arith)) ∙ c.loop-place.invariant
