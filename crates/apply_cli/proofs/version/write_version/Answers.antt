use Rattle.std.proofs.Common.{◌++◌, ℕ, List, codes, subst}
use Rattle.apply_run.specs.Run.{SinkState}
use Rattle.apply_cli.specs.Command.{sink_state}
use Rattle.apply_cli.specs.Version.{IsWritten, IsWrittenInPart}
use Rattle.apply_cli.proofs.Versions.{cut_before, cut_behind, flushed, not_flushed, on_err, written_behind}
use Rattle.apply_cli_args.specs.declared.version.TheConstants.{VERSION}
use Rattle.apply_cli.proofs.version.write_version.Goals as goal

-- the three parts of the line
abbrev name : List ℕ
name = codes "applystream "

abbrev end : List ℕ
end = codes "\n"

pub returns-in_err-write_part-clause-err : goal.returns-in_err-write_part-clause-err
returns-in_err-write_part-clause-err g c =
    let before : SinkState = sink_state g.W.Write.contents c.args.out.now in
    let first : SinkState = sink_state g.W.Write.contents c.write_part.new.out in
    let cut : IsWrittenInPart before first name = c.in_err-write_part.ensures.err in
    on_err c.from_residual.result (cut_before before first (name ++ VERSION.now) end (cut_before before first name VERSION.now cut))

pub returns-in_err-write_part-2-clause-err : goal.returns-in_err-write_part-2-clause-err
returns-in_err-write_part-2-clause-err g c =
    let before : SinkState = sink_state g.W.Write.contents c.args.out.now in
    let first : SinkState = sink_state g.W.Write.contents c.write_part.new.out in
    let second : SinkState = sink_state g.W.Write.contents c.write_part-2.new.out in
    let done : IsWritten before first name = c.in_ok-write_part.ensures.ok in
    let cut : IsWrittenInPart first second VERSION.now = subst (IsWrittenInPart first second) c.as_bytes.ensures.value c.in_err-write_part-2.ensures.err in
    on_err c.from_residual-in_err-write_part-2.result
    (cut_before before second (name ++ VERSION.now) end (cut_behind before first second name VERSION.now done cut))

pub returns-in_err-write_part-3-clause-err : goal.returns-in_err-write_part-3-clause-err
returns-in_err-write_part-3-clause-err g c =
    let before : SinkState = sink_state g.W.Write.contents c.args.out.now in
    let first : SinkState = sink_state g.W.Write.contents c.write_part.new.out in
    let second : SinkState = sink_state g.W.Write.contents c.write_part-2.new.out in
    let third : SinkState = sink_state g.W.Write.contents c.write_part-3.new.out in
    let done : IsWritten before first name = c.in_ok-write_part.ensures.ok in
    let then : IsWritten first second VERSION.now = subst (IsWritten first second) c.as_bytes.ensures.value c.in_ok-write_part-2.ensures.ok in
    let cut : IsWrittenInPart second third end = c.in_err-write_part-3.ensures.err in
    on_err c.from_residual-in_err-write_part-3.result
    (cut_behind before second third (name ++ VERSION.now) end (written_behind before first second name VERSION.now done then) cut)

pub returns-clause-ok : goal.returns-clause-ok
returns-clause-ok g c =
    let before : SinkState = sink_state g.W.Write.contents c.args.out.now in
    let first : SinkState = sink_state g.W.Write.contents c.write_part.new.out in
    let second : SinkState = sink_state g.W.Write.contents c.write_part-2.new.out in
    let third : SinkState = sink_state g.W.Write.contents c.write_part-3.new.out in
    let done : IsWritten before first name = c.in_ok-write_part.ensures.ok in
    let then : IsWritten first second VERSION.now = subst (IsWritten first second) c.as_bytes.ensures.value c.in_ok-write_part-2.ensures.ok in
    let last : IsWritten second third end = c.in_ok-write_part-3.ensures.ok in
    flushed c.flush.result before third (sink_state g.W.Write.contents c.flush.new.self) (name ++ VERSION.now ++ end)
    (written_behind before second third (name ++ VERSION.now) end (written_behind before first second name VERSION.now done then) last)
    c.flush.ensures.bytes c.flush.ensures.ok

pub returns-clause-err : goal.returns-clause-err
returns-clause-err g c =
    let before : SinkState = sink_state g.W.Write.contents c.args.out.now in
    let first : SinkState = sink_state g.W.Write.contents c.write_part.new.out in
    let second : SinkState = sink_state g.W.Write.contents c.write_part-2.new.out in
    let third : SinkState = sink_state g.W.Write.contents c.write_part-3.new.out in
    let done : IsWritten before first name = c.in_ok-write_part.ensures.ok in
    let then : IsWritten first second VERSION.now = subst (IsWritten first second) c.as_bytes.ensures.value c.in_ok-write_part-2.ensures.ok in
    let last : IsWritten second third end = c.in_ok-write_part-3.ensures.ok in
    not_flushed c.flush.result before third (sink_state g.W.Write.contents c.flush.new.self) (name ++ VERSION.now ++ end)
    (written_behind before second third (name ++ VERSION.now) end (written_behind before first second name VERSION.now done then) last)
    c.flush.ensures.bytes c.flush.ensures.err
