use Rattle.std.proofs.Common.{◌≡◌, ◌<◌, ◌≤◌, None, arith, ⊎_elim}
use Rattle.std.proofs.lemmas.Bool.{cases_lt}
use Rattle.stream_timeline.proofs.Adding.{alone_fits, past_fits}
use Rattle.stream_timeline.proofs.numbers.measures.alone_in.Goals as goal

pub add_alone-requires : goal.add_alone-requires
add_alone-requires c = λ place.
    let ss = c.args.stretches.now in
    let i = c.loop-stretch.stretch-index in
    let at : c.deref_mut.result.now ≡ c.loop-stretch.alone.items = c.deref_mut.ensures.value in
    rw at
    (⊎_elim
    (λ (within : place < c.args.count).
    let sum = alone_fits ss i (record { begin = 0; end = 0; number = 0; alone = None }) place c.loop-stretch-test.true in
    omega (arith, sum, c.loop-stretch.invariant.value place within, c.requires))
    (λ (past : c.args.count ≤ place).
    let one = past_fits c.loop-stretch.alone.items ss i (record { begin = 0; end = 0; number = 0; alone = None }) place (omega (arith, past, c.loop-stretch.invariant.len)) c.loop-stretch-test.true in
    omega (arith, one, c.requires))
    (cases_lt place c.args.count))
