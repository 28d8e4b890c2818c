-- What is made of the tree of some bytes.
use Rattle.std.proofs.Common.{ℕ, List, cond, length, nat_lt, Bool, true, false, Result, Err}
use Rattle.std.specs.Prelude.{IfOk, IfSome}
use Rattle.serde_json.specs.Data.{Data}
use Rattle.apply_json.specs.Verbatim.{mixed_tree_of}
use Rattle.apply_json.specs.Tree.{tree_of}
use Rattle.apply_plan.specs.Bytes.{max_bytes, of_bytes}
use Rattle.apply_plan.specs.Results.{◌>>=◌, or_refuse}
use Rattle.laws_check.proofs.Given.{refused_or, then_of}
use Rattle.laws_check.proofs.Legible.{IsLegible, tree_legible}

pub made_of_bytes : {A E : Type 0} (P : A → Type 0) (too_large not_json : E) (of_tree : Data → Result A E) (bytes : List ℕ) → ((d : Data) → IsLegible d → IfOk (of_tree d) P) → IfOk (of_bytes too_large not_json of_tree bytes) P
made_of_bytes P too_large not_json of_tree bytes step = of_test (nat_lt max_bytes (length bytes))
  where
    of_test : (b : Bool) → IfOk (cond b (Err too_large) (or_refuse not_json (tree_of bytes) >>= of_tree)) P
    of_test true = tt
    of_test false = then_of IsLegible P (or_refuse not_json (tree_of bytes)) of_tree (refused_or IsLegible not_json (tree_of bytes) (tree_legible bytes)) step

-- for a tree with verbatim texts for the members of some names
pub made_of_verbatim : {A E : Type 0} (Q : Data → Type 0) (P : A → Type 0) (raw_texts : List ℕ → Bool) (too_large not_json : E) (of_tree : Data → Result A E) (bytes : List ℕ) → IfSome (mixed_tree_of raw_texts bytes) Q
    → ((d : Data) → Q d → IfOk (of_tree d) P) → IfOk (cond (nat_lt max_bytes (length bytes)) (Err too_large) (or_refuse not_json (mixed_tree_of raw_texts bytes) >>= of_tree)) P
made_of_verbatim Q P raw_texts too_large not_json of_tree bytes holds step = of_test (nat_lt max_bytes (length bytes))
  where
    of_test : (b : Bool) → IfOk (cond b (Err too_large) (or_refuse not_json (mixed_tree_of raw_texts bytes) >>= of_tree)) P
    of_test true = tt
    of_test false = then_of Q P (or_refuse not_json (mixed_tree_of raw_texts bytes)) of_tree (refused_or Q not_json (mixed_tree_of raw_texts bytes) holds) step
