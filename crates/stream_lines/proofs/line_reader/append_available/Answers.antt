-- What was appended, and that the reader has lost it.
use Rattle.std.proofs.Common.{◌+◌, [], take, subst, sym, append-nil, arith}
use Rattle.std.proofs.BufReadLemmas.{Consumes_shown}
use Rattle.std.proofs.KnownBytes.{Consumes-kept, Consumes-nil}
use Rattle.std.proofs.lemmas.List.Elements.{All-nil}
use Rattle.std.specs.Io.BufRead.{FillKeeps}
use Rattle.std.specs.Io.KnownBytes.{Consumes}
use Rattle.stream_lines.proofs.Feeds.{through_feed}
use Rattle.stream_lines.proofs.line_reader.append_available.Goals as goal

pub returns-then-eq : goal.returns-then-eq
returns-then-eq g c = (
  [],
  sym (append-nil c.args.line.now.items),
  All-nil _,
  Consumes-kept _ _ _ [] (Consumes-nil _) c.fill_buf.follows.holds-at-none.0,
)

pub returns-then-len-count : goal.returns-then-len-count
returns-then-len-count g c =
    let bytes = c.in-Ok.available.now in
    let len = c.len_before_feed-len in
    let rested = c.fill_buf.follows.lender-at-none in
    let filled = subst (FillKeeps _ (g.R.Read.remaining rested) (g.R.BufRead.consumable_len rested)) c.in-Ok.is c.fill_buf.follows.holds-at-none in
    let moved = Consumes_shown _ _ _ _ bytes (len.result + 1) (omega (arith, c.if-len-count.true)) c.in-Ok.ensures.front c.in-Ok.ensures.end filled.0 filled.1 c.consume.ensures.bytes in (
      take len.result bytes,
      c.in_ok-extend_from_slice.ensures.items,
      len.ensures.before,
      subst (Consumes _ _) (through_feed bytes len.result c.if-len-count.true (len.ensures.feed c.if-len-count.true)) moved.0,
    )

pub returns-then-len-eq0 : goal.returns-then-len-eq0
returns-then-len-eq0 g c =
    let bytes = c.in-Ok.available.now in
    let len = c.len_before_feed-len in
    let rested = c.fill_buf.follows.lender-at-none in
    let filled = subst (FillKeeps _ (g.R.Read.remaining rested) (g.R.BufRead.consumable_len rested)) c.in-Ok.is c.fill_buf.follows.holds-at-none in
    let moved = Consumes_shown _ _ _ _ bytes len.result len.ensures.bound c.in-Ok.ensures.front c.in-Ok.ensures.end filled.0 filled.1 c.consume-2.ensures.bytes in (
      take len.result bytes,
      c.in_ok-extend_from_slice.ensures.items,
      len.ensures.before,
      (moved.0, moved.1 (omega (arith, c.if-len-count.false, c.if-len-eq0.true))),
    )

pub returns-else-len-eq0 : goal.returns-else-len-eq0
returns-else-len-eq0 g c =
    let bytes = c.in-Ok.available.now in
    let len = c.len_before_feed-len in
    let rested = c.fill_buf.follows.lender-at-none in
    let filled = subst (FillKeeps _ (g.R.Read.remaining rested) (g.R.BufRead.consumable_len rested)) c.in-Ok.is c.fill_buf.follows.holds-at-none in (
      take len.result bytes,
      c.in_ok-extend_from_slice.ensures.items,
      len.ensures.before,
      (Consumes_shown _ _ _ _ bytes len.result len.ensures.bound c.in-Ok.ensures.front c.in-Ok.ensures.end filled.0 filled.1 c.consume-2.ensures.bytes).0,
    )
