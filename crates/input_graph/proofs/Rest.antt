-- The lines that are left, from one line to the next.
use Rattle.std.proofs.Common.{◌≡◌, ◌≢◌, ◌<◌, ◌≤◌, ◌+◌, ℕ, zero, suc, List, [], ◌∷◌, All, length, take, drop, get_or, eqb, false, Some, None, refl, sym, ap, ◌∙◌, arith, add-one, eq-eqb, ne_eqb, length-drop}
use Rattle.std.proofs.lemmas.List.Elements.{All-head, All-tail}
use Rattle.std.proofs.lemmas.Bool.{true≢false}
use Rattle.stream_lines.specs.Cut.{cut_lines, onto_first}
use Rattle.input_graph.specs.declared.graph_fault.GraphFault.{GraphFault}
use Rattle.input_graph.specs.declared.graph_line.GraphLine.{GraphLine}
use Rattle.input_graph.specs.Lines.{graph_line}
use Rattle.input_graph.specs.NamedGraph.{NamedGraph}
use Rattle.input_graph.specs.Reading.{edge_in, fault_in, first_fault, graph_of, graph_of_line, joined, node_in}
use Rattle.input_graph.proofs.Joined.{consed, joined_assoc, same_graph}

-- The bytes of the first line, and the line feed after it.
pub record IsFirstLine (rest : List ℕ) (len : ℕ) : Type 0 where
  pub some : eqb (length rest) 0 ≡ false
  pub within : len ≤ length rest
  pub before : All (λ byte. byte ≢ 10) (take len rest)
  pub feed : len < length rest → get_or rest len 0 ≡ 10

cut_at : (x : ℕ) (xs : List ℕ) (len : ℕ) → len ≤ length (x ∷ xs) → All (λ byte. byte ≢ 10) (take len (x ∷ xs)) → (len < length (x ∷ xs) → get_or (x ∷ xs) len 0 ≡ 10)
    → cut_lines (x ∷ xs) ≡ take len (x ∷ xs) ∷ cut_lines (drop (suc len) (x ∷ xs))
cut_at x xs zero within before feed = rw (eq-eqb x 10 (feed (omega arith))) refl
cut_at x [] (suc zero) within before feed = rw (ne_eqb x 10 (All-head (λ y. y ≢ 10) x [] before)) refl
cut_at x [] (suc (suc len)) within before feed = absurd (omega arith)
cut_at x (y ∷ ys) (suc len) within before feed =
    let tail = cut_at y ys len (omega arith) (All-tail (λ z. z ≢ 10) x (take len (y ∷ ys)) before) (λ h. feed (omega (arith, h))) in
    rw (ne_eqb x 10 (All-head (λ z. z ≢ 10) x (take len (y ∷ ys)) before)) (ap (onto_first x) tail)

cut_first : (rest : List ℕ) (len : ℕ) → IsFirstLine rest len → cut_lines rest ≡ take len rest ∷ cut_lines (drop (len + 1) rest)
cut_first [] len first = absurd (true≢false first.some)
cut_first (x ∷ xs) len first =
    cut_at x xs len first.within first.before first.feed ∙ ap (λ (n : ℕ). take len (x ∷ xs) ∷ cut_lines (drop n (x ∷ xs))) (sym (add-one len))

-- what is left is shorter
pub shorter : (rest : List ℕ) (len : ℕ) → IsFirstLine rest len → length (drop (len + 1) rest) + 1 ≤ length rest
shorter [] len first = absurd (true≢false first.some)
shorter (x ∷ xs) len first = omega (arith, length-drop (len + 1) (x ∷ xs))

fault_after : (number : ℕ) (line : List ℕ) (lines : List (List ℕ)) → fault_in number (graph_line line) ≡ None → first_fault number (line ∷ lines) ≡ first_fault (number + 1) lines
fault_after number line lines none = rw (none, first_fault) refl

fault_here : (number : ℕ) (line : List ℕ) (lines : List (List ℕ)) (fault : GraphFault) → fault_in number (graph_line line) ≡ Some fault → first_fault number (line ∷ lines) ≡ Some fault
fault_here number line lines fault is = rw (is, first_fault) refl

graph_after : (line : List ℕ) (lines : List (List ℕ)) → graph_of (line ∷ lines) ≡ joined (graph_of_line (graph_line line)) (graph_of lines)
graph_after line lines = same_graph _ _ _ _ (consed (node_in (graph_line line)) _) (consed (edge_in (graph_line line)) _)

module _ (rest : List ℕ) (len number : ℕ) (line : GraphLine) (first : IsFirstLine rest len) (is : line ≡ graph_line (take len rest)) where
  pub next_faults : fault_in number line ≡ None → first_fault number (cut_lines rest) ≡ first_fault (number + 1) (cut_lines (drop (len + 1) rest))
  next_faults none =
      ap (first_fault number) (cut_first rest len first)
      ∙ fault_after number (take len rest) (cut_lines (drop (len + 1) rest)) (ap (fault_in number) (sym is) ∙ none)

  pub fault_found : (fault : GraphFault) → fault_in number line ≡ Some fault → first_fault number (cut_lines rest) ≡ Some fault
  fault_found fault found =
      ap (first_fault number) (cut_first rest len first)
      ∙ fault_here number (take len rest) (cut_lines (drop (len + 1) rest)) fault (ap (fault_in number) (sym is) ∙ found)

  pub next_graph : (before after : NamedGraph) → after ≡ joined before (graph_of_line line)
      → joined before (graph_of (cut_lines rest)) ≡ joined after (graph_of (cut_lines (drop (len + 1) rest)))
  next_graph before after grown =
      ap (λ (lines : List (List ℕ)). joined before (graph_of lines)) (cut_first rest len first)
      ∙ ap (joined before) (graph_after (take len rest) (cut_lines (drop (len + 1) rest)))
      ∙ ap (λ (g : GraphLine). joined before (joined (graph_of_line g) (graph_of (cut_lines (drop (len + 1) rest))))) (sym is)
      ∙ sym (joined_assoc before (graph_of_line line) (graph_of (cut_lines (drop (len + 1) rest))))
      ∙ ap (λ (g : NamedGraph). joined g (graph_of (cut_lines (drop (len + 1) rest)))) (sym grown)
