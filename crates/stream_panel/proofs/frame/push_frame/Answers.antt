use Rattle.std.proofs.Common.{◌++◌, ◌∷◌, [], ap}
use Rattle.std.specs.Prelude.{codes}
use Rattle.term_words.proofs.Appended.{text_as, text_then}
use Rattle.stream_panel.specs.Frames.{control, frame_bytes, rows_up, unbroken_bytes, up_bytes}
use Rattle.stream_panel.proofs.frame.push_frame.Goals as goal

pub returns : goal.returns
unfolding frame_bytes
returns c lines had =
    let t0 = c.args.out.now in
    let up = up_bytes (rows_up c.args.columns c.args.standing.now) in
    let erase = control (codes "J") in
    let told = c.args.told.now in
    let w2 = text_then t0 c.text.new.self c.push_up.new.out (13 ∷ []) up c.text.ensures
    (text_as c.text.new.self c.push_up.new.out _ up (ap up_bytes c.rows_taken.ensures) c.push_up.ensures) in
    let w3 = text_then t0 c.push_up.new.out c.text-2.new.self (13 ∷ [] ++ up) erase w2 c.text-2.ensures in
    let w4 = text_then t0 c.text-2.new.self c.bytes.new.self (13 ∷ [] ++ up ++ erase) told w3 c.bytes.ensures in
    text_then t0 c.bytes.new.self c.push_unbroken.new.out (13 ∷ [] ++ up ++ erase ++ told) (unbroken_bytes lines) w4 (c.push_unbroken.ensures lines had)
