use Rattle.std.proofs.Common.{◌<◌, ◌≤◌, ◌∙◌, Bor, ap, length, map, sym}
use Rattle.std.proofs.lemmas.List.{get_or-map, length-map}
use Rattle.stream_record_lines.specs.declared.outputs.output.Output.{Output}
use Rattle.stream_record_script.specs.Outputs.{output_warning}
use Rattle.stream_record_script.proofs.Pieces.{piece_more, pieces_all}
use Rattle.stream_record_script.proofs.outputs.push_output_warnings.Goals as goal

pub loop-output-preserved : goal.loop-output-preserved
loop-output-preserved c =
    let now = λ (output : Bor Output). output.now in
    let unknown = c.args.unknown.now in
    let i = c.loop-output.output-index in
    let output = c.output-item.result in
    let within : i < length unknown = c.loop-output-test.true in
    let below : i < length (map now unknown) = rw length-map within in
    piece_more output_warning (map now unknown) i c.args.text.now c.loop-output.text c.loop-output.invariant output.now c.push_output_warning.new.text below
    (ap now c.output-item.is ∙ sym (get_or-map now unknown i output output.now within)) c.push_output_warning.ensures

pub returns : goal.returns
returns c =
    let now = λ (output : Bor Output). output.now in
    let unknown = c.args.unknown.now in
    let i = c.loop-output.output-index in
    let ended : length unknown ≤ i = c.loop-output-test.false in
    let above : length (map now unknown) ≤ i = rw length-map ended in
    pieces_all output_warning (map now unknown) i c.args.text.now c.loop-output.text c.loop-output.invariant above
