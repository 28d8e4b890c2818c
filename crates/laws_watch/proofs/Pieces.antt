-- The pieces of a text that is broken.
use Rattle.std.proofs.Common.{ℕ, zero, suc, ◌+◌, ◌==◌, [], List, Bool, true, false, drop, length}
use Rattle.std.specs.Prelude.{All, if◌then◌else◌}
use Rattle.std.specs.List.{prefix_len}
use Rattle.std.proofs.lemmas.List.Elements.{All-cons, All-nil}
use Rattle.term_text.specs.Breaking.{behind_piece, broken, piece_len, pieces_within}
use Rattle.term_text.specs.Fitting.{is_blank, without_blanks}
use Rattle.term_text.proofs.Blanks.{take-without_blanks}
use Rattle.laws_watch.proofs.Fine.{IsFine, IsFine-drop, IsFine-take}

pub IsFine-without_blanks : (cs : List ℕ) → IsFine cs → IsFine (without_blanks cs)
IsFine-without_blanks cs fine = rw (take-without_blanks cs) at (IsFine-take (length (without_blanks cs)) cs fine)

fine_behind : (columns : ℕ) (cs : List ℕ) → IsFine cs → IsFine (behind_piece columns cs)
fine_behind columns cs fine =
    let rest = drop (piece_len columns cs) cs in
    IsFine-drop (prefix_len is_blank rest) rest (IsFine-drop (piece_len columns cs) cs fine)

either : (P : List (List ℕ) → Type 0) (test : Bool) (x y : List (List ℕ)) → P x → P y → P (if test then x else y)
either P true x y then_is else_is = then_is
either P false x y then_is else_is = else_is

pieces_within-fine : (turns columns : ℕ) (cs : List ℕ) → IsFine cs → All IsFine (pieces_within turns columns cs)
pieces_within-fine zero columns cs fine = All-nil IsFine
pieces_within-fine (suc turns) columns cs fine =
    let rest = behind_piece columns cs in
    All-cons IsFine _ _ (IsFine-without_blanks _ (IsFine-take (piece_len columns cs) cs fine))
    (either (All IsFine) (length rest == 0) [] (pieces_within turns columns rest) (All-nil IsFine)
    (pieces_within-fine turns columns rest (fine_behind columns cs fine)))

pub broken-fine : (columns : ℕ) (cs : List ℕ) → IsFine cs → All IsFine (broken columns cs)
unfolding broken
broken-fine columns cs fine = pieces_within-fine (length cs + 1) columns cs fine
