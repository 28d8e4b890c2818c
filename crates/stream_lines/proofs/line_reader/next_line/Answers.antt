-- A part more of the line, by what it was.
use Rattle.std.proofs.Common.{subst, rules}
use Rattle.stream_lines.specs.declared.line_reader.Piece.{Piece}
use Rattle.stream_lines.specs.Reading.{Supplies}
use Rattle.stream_lines.proofs.Cut.{ends_last_line, ends_line, ends_stream, gets_too_long, goes_further, starts}
use Rattle.stream_lines.proofs.line_reader.next_line.Goals as goal

pub returns-then-len-gt-MAX_BYTES : goal.returns-then-len-gt-MAX_BYTES
returns-then-len-gt-MAX_BYTES g c =
    let s = c.in_ok-piece.ensures in
    gets_too_long c.in_ok-piece.piece (g.R.Read.remaining c.args.reader.now) (g.R.Read.remaining c.parts.reader) (g.R.Read.remaining c.append_available.new.reader) c.parts.line.items s.0 c.append_available.new.line.items
    (record { no_feed = c.parts.invariant.0; taken = c.parts.invariant.1; grown = s.1; more = s.2 }) s.3 (search rules)

pub returns-in-Line : goal.returns-in-Line
returns-in-Line g c =
    let s = c.in_ok-piece.ensures in
    let told = subst (λ (w : Piece). Supplies w s.0 (g.R.Read.remaining c.parts.reader) (g.R.Read.remaining c.append_available.new.reader)) c.in-Line.is s.3 in
    ends_line (g.R.Read.remaining c.args.reader.now) (g.R.Read.remaining c.parts.reader) (g.R.Read.remaining c.append_available.new.reader) c.parts.line.items s.0 c.append_available.new.line.items
    (record { no_feed = c.parts.invariant.0; taken = c.parts.invariant.1; grown = s.1; more = s.2 }) (search rules) told

pub returns-else-is_empty : goal.returns-else-is_empty
returns-else-is_empty g c =
    let s = c.in_ok-piece.ensures in
    let told = subst (λ (w : Piece). Supplies w s.0 (g.R.Read.remaining c.parts.reader) (g.R.Read.remaining c.append_available.new.reader)) c.in-End.is s.3 in
    ends_last_line (g.R.Read.remaining c.args.reader.now) (g.R.Read.remaining c.parts.reader) (g.R.Read.remaining c.append_available.new.reader) c.parts.line.items s.0 c.append_available.new.line.items
    (record { no_feed = c.parts.invariant.0; taken = c.parts.invariant.1; grown = s.1; more = s.2 }) (search rules) told.0 told.1 (search rules)

pub returns-then-is_empty : goal.returns-then-is_empty
returns-then-is_empty g c =
    let s = c.in_ok-piece.ensures in
    let told = subst (λ (w : Piece). Supplies w s.0 (g.R.Read.remaining c.parts.reader) (g.R.Read.remaining c.append_available.new.reader)) c.in-End.is s.3 in
    ends_stream (g.R.Read.remaining c.args.reader.now) (g.R.Read.remaining c.parts.reader) (g.R.Read.remaining c.append_available.new.reader) c.parts.line.items s.0 c.append_available.new.line.items
    (record { no_feed = c.parts.invariant.0; taken = c.parts.invariant.1; grown = s.1; more = s.2 }) told.0 told.1 (search rules)

pub parts-init : goal.parts-init
parts-init g c = starts (g.R.Read.remaining c.args.reader.now) c.clear.new.self.items c.clear.ensures.items

pub parts-preserved : goal.parts-preserved
parts-preserved g c =
    let s = c.in_ok-piece.ensures in
    let told = subst (λ (w : Piece). Supplies w s.0 (g.R.Read.remaining c.parts.reader) (g.R.Read.remaining c.append_available.new.reader)) c.in-Part.is s.3 in
    goes_further (g.R.Read.remaining c.args.reader.now) (g.R.Read.remaining c.parts.reader) (g.R.Read.remaining c.append_available.new.reader) c.parts.line.items s.0 c.append_available.new.line.items
    (record { no_feed = c.parts.invariant.0; taken = c.parts.invariant.1; grown = s.1; more = s.2 }) told
