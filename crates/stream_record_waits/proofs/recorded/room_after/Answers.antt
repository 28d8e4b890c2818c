use Rattle.std.proofs.Common.{◌≡◌, arith, length}
use Rattle.stream_record_waits.proofs.Pinned.{too_long}
use Rattle.stream_record_waits.proofs.recorded.room_after.Goals as goal

pub returns-then-len-room : goal.returns-then-len-room
returns-then-len-room c =
    let list = c.list-item.result in
    let size : c.len-len.result ≡ length list.items = cc (c.len-len.ensures, list.ok.0) in
    let more = c.if-len-room.true in
    too_long c.args.lists.now c.loop-list.list-index c.loop-list.room c.args.limit list c.loop-list-test.true c.list-item.is c.loop-list.invariant (omega (arith, size, more))
