-- What the lines of a whole stream state.
use Rattle.std.proofs.Common.{◌≡◌, ℕ, zero, suc, ◌+◌, ◌≤◌, inl, inr, List, [], ◌∷◌, ◌++◌, append_assoc, map, false, not, refl, sym, ap, ap₂, ◌∙◌, subst, ⊎_elim, max, fold, take, arith}
use Rattle.std.specs.List.{AllByRecursion, concat}
use Rattle.stream_lines.specs.Cut.{cut_lines}
use Rattle.apply_events.specs.declared.event.Event.{Event}
use Rattle.apply_text.specs.Latest.{latest_of}
use Rattle.apply_text.specs.Order.{as_written}
use Rattle.apply_events.specs.Diagnostics.{is_note}
use Rattle.apply_text.specs.Start.{last_second}
use Rattle.stream_record_lines.specs.declared.stated_line.StatedLine.{StatedLine}
use Rattle.stream_record_lines.specs.declared.stated_line.StatedLine.TheVariants.{Message}
use Rattle.stream_record_lines.specs.declared.stated_message.StatedMessage.{StatedMessage}
use Rattle.stream_record_lines.specs.Lines.{stated_line}
use Rattle.laws_check.proofs.Bytes.{cut_off}
use Rattle.laws_check.proofs.SoundObjects.{all_both, all_filtered}
use Rattle.laws_lines.specs.Stated.{IsStatedAs}
use Rattle.laws_lines.specs.Streams.{AreStatedAs}

-- ---- lines

pub one_stated : (line : List ℕ) (message : StatedMessage) → IsStatedAs line message → AreStatedAs (line ∷ []) (message ∷ [])
one_stated line message is = inr (message, [], refl, is, refl)

pub none_stated : AreStatedAs ([] ∷ []) []
none_stated = inl (refl, refl)

pub both_stated : (xs ys : List (List ℕ)) (ms ns : List StatedMessage) → AreStatedAs xs ms → AreStatedAs ys ns → AreStatedAs (xs ++ ys) (ms ++ ns)
both_stated [] ys ms ns none others = subst (λ (l : List StatedMessage). AreStatedAs ys (l ++ ns)) (sym none) others
both_stated (x ∷ xs) ys ms ns are others =
    ⊎_elim
    (λ (empty : (x ≡ []) × AreStatedAs xs ms). inl (empty.0, both_stated xs ys ms ns empty.1 others))
    (λ (one : (message : StatedMessage) × (later : List StatedMessage) × (ms ≡ message ∷ later) × IsStatedAs x message × AreStatedAs xs later).
    inr (one.0, one.1 ++ ns, ap (λ (l : List StatedMessage). l ++ ns) one.2, one.3, both_stated xs ys one.1 ns one.4 others))
    are

-- the lines of the bytes state the messages
pub lines_state : (lines : List (List ℕ)) (ms : List StatedMessage) → AreStatedAs lines ms → map (stated_line false) (cut_lines (concat lines)) ≡ map Message ms
lines_state [] ms none = ap (map Message) (sym none)
lines_state (line ∷ lines) ms are =
    ⊎_elim
    (λ (empty : (line ≡ []) × AreStatedAs lines ms). ap (λ (l : List ℕ). map (stated_line false) (cut_lines (l ++ concat lines))) empty.0 ∙ lines_state lines ms empty.1)
    (λ (one : (message : StatedMessage) × (later : List StatedMessage) × (ms ≡ message ∷ later) × IsStatedAs line message × AreStatedAs lines later).
    let is = one.3 in
    let cut : cut_lines (line ++ concat lines) ≡ is.text ∷ cut_lines (concat lines) =
    ap (λ (l : List ℕ). cut_lines (l ++ concat lines)) is.line_is ∙ ap cut_lines (append_assoc is.text (10 ∷ []) (concat lines)) ∙ cut_off is.text (concat lines) is.no_feed in
    ap (map (stated_line false)) cut
    ∙ ap₂ (λ (l : StatedLine) (ls : List StatedLine). l ∷ ls) is.stated (lines_state lines one.1 one.4)
    ∙ ap (map Message) (sym one.2))
    are

-- ---- the clock

abbrev pub IsWithin : (start : ℕ) → List Event → Type 0
IsWithin start es = AllByRecursion (λ (one : Event). start + one.at ≤ last_second) es

max_within : (start : ℕ) (es : List Event) (acc i : ℕ) → start + acc ≤ last_second → IsWithin start es → start + fold max acc (map (λ (event : Event). event.at) (take i es)) ≤ last_second
max_within start es acc zero low within = low
max_within start [] acc (suc i) low within = low
max_within start (e ∷ es) acc (suc i) low within = max_within start es (max acc e.at) i (omega (arith, low, within.0)) within.1

-- no line is later than the last second
pub latest_within : (start : ℕ) (es : List Event) (i : ℕ) → start ≤ last_second → IsWithin start es → start + latest_of es i ≤ last_second
latest_within start es i low within = max_within start es 0 i (omega (arith, low)) within

pub all_written : (P : Event → Type 0) (taken : List Event) → AllByRecursion P taken → AllByRecursion P (as_written taken)
all_written P taken all = all_both P _ _ (all_filtered P (λ e. not (is_note e.what)) taken all) (all_filtered P (λ e. is_note e.what) taken all)
