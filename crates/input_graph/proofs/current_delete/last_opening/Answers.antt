use Rattle.std.proofs.Common.{List, ℕ, ◌∙◌, sym, subst}
use Rattle.std.specs.Str.{IsCharBoundary}
use Rattle.memchr.specs.Find.{IsLastByte, is_byte}
use Rattle.input_graph.proofs.Opening.{opening_boundary, opening_is}
use Rattle.input_graph.proofs.current_delete.last_opening.Goals as goal

pub returns-clause-value : goal.returns-clause-value
returns-clause-value c =
    c.unwrap_or.ensures
    ∙ opening_is c.args.name.now c.memrchr.result (subst (λ (bytes : List ℕ). IsLastByte (is_byte 40) bytes c.memrchr.result) c.as_bytes.ensures.value c.memrchr.ensures)

pub returns-clause-boundary : goal.returns-clause-boundary
returns-clause-boundary c =
    subst (λ (place : ℕ). IsCharBoundary c.args.name.now place) (sym c.unwrap_or.ensures)
    (opening_boundary c.args.name.now c.memrchr.result c.utf8.name (subst (λ (bytes : List ℕ). IsLastByte (is_byte 40) bytes c.memrchr.result) c.as_bytes.ensures.value c.memrchr.ensures))
