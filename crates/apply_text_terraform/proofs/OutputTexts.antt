-- Outputs are written text by text, each with its escapes.
use Rattle.std.proofs.Common.{◌≡◌, ℕ, ◌+◌, ◌-◌, ◌<◌, ◌≤◌, inl, List, [], ◌∷◌, ◌++◌, codes, decimal, drop, length, take, OnOk, true, false, refl, sym, ap, ◌∙◌, append_assoc, arith}
use Rattle.std.specs.Prelude.{Result, get_or}
use Rattle.std.proofs.Math.Seq.{take-length}
use Rattle.std.proofs.lemmas.List.{drop_more, length-take, take-take}
use Rattle.std.proofs.lemmas.Result.{on_ok_weaker}
use Rattle.json.specs.Print.{quoted}
use Rattle.apply_model.specs.declared.details.output.Output.{Output}
use Rattle.apply_text_terraform.specs.Escapes.{escaped}
use Rattle.apply_text_terraform.specs.Lines.{line_of_text}
use Rattle.apply_text_terraform.specs.Outputs.{before_type, output_text, outputs_from, outputs_message}
use Rattle.apply_text_terraform.proofs.Cuts.{Begins, both_begin, cut, plain_then}

-- ---- one output

hidden_text : (output : Output) → output.sensitive ≡ true → output_text output ≡ before_type output.sensitive ++ (output.kind ++ codes "}")
hidden_text output is = rw is refl

shown_text : (output : Output) → output.sensitive ≡ false → output_text output ≡ before_type output.sensitive ++ (output.kind ++ (codes ",\"value\":" ++ (output.value ++ codes "}")))
shown_text output is = rw is refl

regroup : (a b c d e : List ℕ) → a ++ (b ++ (c ++ (d ++ e))) ≡ (a ++ (b ++ c)) ++ (d ++ e)
regroup a b c d e = simp append_assoc

-- the text before the type, the type, and the text after it
in_parts : (comma name before kind rest : List ℕ) → Begins kind → Begins rest → escaped (comma ++ (name ++ (before ++ (kind ++ rest)))) ≡ escaped (comma ++ (name ++ before)) ++ (escaped kind ++ escaped rest)
in_parts comma name before kind rest kinds rests =
    ap escaped (regroup comma name before kind rest) ∙ cut (comma ++ (name ++ before)) (kind ++ rest) (both_begin kind rest kinds rests)
    ∙ ap (λ t. escaped (comma ++ (name ++ before)) ++ t) (cut kind rest rests)

in_three : (old a b c : List ℕ) → ((old ++ a) ++ b) ++ c ≡ old ++ (a ++ (b ++ c))
in_three old a b c = simp append_assoc

pub hidden_written : (old first second new comma kind : List ℕ) (output : Output) → output.sensitive ≡ true → Begins kind → kind ≡ output.kind
    → first ≡ old ++ escaped (comma ++ (quoted output.name ++ before_type output.sensitive)) → second ≡ first ++ escaped kind → new ≡ second ++ codes "}"
    → new ≡ old ++ escaped (comma ++ (quoted output.name ++ output_text output))
hidden_written old first second new comma kind output is begins kinds at_first at_second grown =
    let before = before_type output.sensitive in
    grown ∙ ap (λ t. t ++ codes "}") (at_second ∙ ap (λ t. t ++ escaped kind) at_first)
    ∙ in_three old (escaped (comma ++ (quoted output.name ++ before))) (escaped kind) (codes "}")
    ∙ ap (λ t. old ++ t) (sym (in_parts comma (quoted output.name) before kind (codes "}") begins (inl (omega arith)))
    ∙ ap (λ t. escaped (comma ++ (quoted output.name ++ t))) (ap (λ k. before ++ (k ++ codes "}")) kinds ∙ sym (hidden_text output is)))

pub shown_written : {E : Type 0} (r : Result (Unit {0}) E) (old first second new comma kind value : List ℕ) (output : Output) → output.sensitive ≡ false → Begins kind → kind ≡ output.kind → value ≡ output.value
    → first ≡ old ++ escaped (comma ++ (quoted output.name ++ before_type output.sensitive)) → second ≡ first ++ escaped kind
    → OnOk r (new ≡ second ++ escaped (codes ",\"value\":" ++ (value ++ codes "}")))
    → OnOk r (new ≡ old ++ escaped (comma ++ (quoted output.name ++ output_text output)))
shown_written r old first second new comma kind value output is begins kinds values at_first at_second grown =
    let before = before_type output.sensitive in
    let rest = codes ",\"value\":" ++ (value ++ codes "}") in
    on_ok_weaker r (λ e. e ∙ ap (λ t. t ++ escaped rest) (at_second ∙ ap (λ t. t ++ escaped kind) at_first)
    ∙ in_three old (escaped (comma ++ (quoted output.name ++ before))) (escaped kind) (escaped rest)
    ∙ ap (λ t. old ++ t) (sym (in_parts comma (quoted output.name) before kind rest begins (inl (omega arith)))
    ∙ ap (λ t. escaped (comma ++ (quoted output.name ++ t))) (ap (λ k. before ++ (k ++ rest)) kinds ∙ ap (λ v. before ++ (output.kind ++ (codes ",\"value\":" ++ (v ++ codes "}")))) values ∙ sym (shown_text output is)))) grown

pub value_written : (old first second new value : List ℕ) → first ≡ old ++ codes ",\"value\":" → second ≡ first ++ escaped value → new ≡ second ++ codes "}"
    → new ≡ old ++ escaped (codes ",\"value\":" ++ (value ++ codes "}"))
value_written old first second new value at_first at_second grown =
    grown ∙ ap (λ t. t ++ codes "}") (at_second ∙ ap (λ t. t ++ escaped value) at_first) ∙ in_three old (codes ",\"value\":") (escaped value) (codes "}")
    ∙ ap (λ t. old ++ t) (sym (plain_then (codes ",\"value\":") (value ++ codes "}") refl ∙ ap (λ t. codes ",\"value\":" ++ t) (cut value (codes "}") (inl (omega arith)))))

-- ---- several outputs

others_begin : (outputs : List Output) → Begins (outputs_from (codes ",") outputs)
others_begin [] = tt
others_begin (output ∷ outputs) = inl (omega arith)

with_others : (a b c d : List ℕ) → a ++ (b ++ (c ++ d)) ≡ (a ++ (b ++ c)) ++ d
with_others a b c d = simp append_assoc

-- an output, and the outputs after it
one_written : (before : List ℕ) (output : Output) (outputs : List Output)
    → escaped (outputs_from before (output ∷ outputs)) ≡ escaped (before ++ (quoted output.name ++ output_text output)) ++ escaped (outputs_from (codes ",") outputs)
one_written before output outputs =
    let rest = outputs_from (codes ",") outputs in
    ap escaped (with_others before (quoted output.name) (output_text output) rest) ∙ cut (before ++ (quoted output.name ++ output_text output)) rest (others_begin outputs)

-- one output more
pub more_written : (old new start : List ℕ) (outputs : List Output) (i : ℕ) (x : Output) → i < length outputs → x ≡ get_or outputs i x
    → new ≡ old ++ escaped (codes "," ++ (quoted x.name ++ output_text x))
    → old ++ escaped (outputs_from (codes ",") (drop i outputs)) ≡ start
    → new ++ escaped (outputs_from (codes ",") (drop (i + 1) outputs)) ≡ start
more_written old new start outputs i x few is grown before =
    let rest = drop (i + 1) outputs in
    let one = escaped (codes "," ++ (quoted x.name ++ output_text x)) in
    let next : drop i outputs ≡ x ∷ rest = drop_more outputs i x few ∙ ap (λ y. y ∷ rest) (sym is) in
    ap (λ t. t ++ escaped (outputs_from (codes ",") rest)) grown ∙ append_assoc old one (escaped (outputs_from (codes ",") rest))
    ∙ ap (λ t. old ++ t) (sym (one_written (codes ",") x rest) ∙ sym (ap (λ xs. escaped (outputs_from (codes ",") xs)) next)) ∙ before

-- the first output, and then the others
pub first_written : {E : Type 0} (r : Result (Unit {0}) E) (old mid new : List ℕ) (outputs others : List Output) (x : Output) → outputs ≡ x ∷ others
    → mid ≡ old ++ escaped ([] ++ (quoted x.name ++ output_text x)) → OnOk r (new ≡ mid ++ escaped (outputs_from (codes ",") others)) → OnOk r (new ≡ old ++ escaped (outputs_from [] outputs))
first_written r old mid new outputs others x is grown fields =
    let one = escaped ([] ++ (quoted x.name ++ output_text x)) in
    on_ok_weaker r (λ e. e ∙ ap (λ t. t ++ escaped (outputs_from (codes ",") others)) grown ∙ append_assoc old one (escaped (outputs_from (codes ",") others))
    ∙ ap (λ t. old ++ t) (sym (one_written [] x others) ∙ sym (ap (λ xs. escaped (outputs_from [] xs)) is))) fields

-- the first output of some, and the others as they are cut off
pub first_of : (outputs : List Output) (x : Output) → 1 ≤ length outputs → x ≡ get_or outputs 0 x → outputs ≡ x ∷ take (length outputs - 1) (drop 1 outputs)
first_of [] x some is = absurd (omega (arith, some))
first_of (output ∷ outputs) x some is =
    let few : length (output ∷ outputs) - 1 ≡ length outputs = omega arith in
    ap (λ y. y ∷ outputs) (sym is) ∙ ap (λ ys. x ∷ ys) (sym (ap (λ n. take n outputs) few ∙ take-length outputs))

-- ---- the line

outputs_begin : (outputs : List Output) (rest : List ℕ) → Begins rest → Begins (outputs_from [] outputs ++ rest)
outputs_begin [] rest begins = begins
outputs_begin (output ∷ outputs) rest begins = inl (omega arith)

apart : (a n b m c o d : List ℕ) → a ++ (n ++ (b ++ (m ++ (c ++ (o ++ d))))) ≡ (a ++ (n ++ (b ++ (m ++ c)))) ++ (o ++ d)
apart a n b m c o d = simp append_assoc

feed_behind : (f o d feed : List ℕ) → f ++ (o ++ (d ++ feed)) ≡ (f ++ (o ++ d)) ++ feed
feed_behind f o d feed = simp append_assoc

-- the front of the message, the outputs and its end
pub whole_written : {E : Type 0} (r : Result (Unit {0}) E) (old first second new front timestamp : List ℕ) (outputs : List Output)
    → front ≡ codes "{\"@level\":\"info\",\"@message\":\"Outputs: " ++ (decimal (length outputs) ++ (codes "\",\"@module\":\"terraform.ui\",\"@timestamp\":\"" ++ (timestamp ++ codes "\",\"outputs\":{")))
    → first ≡ old ++ escaped front → second ≡ first ++ escaped (outputs_from [] outputs) → OnOk r (new ≡ second ++ codes "},\"type\":\"outputs\"}\n")
    → OnOk r (new ≡ old ++ line_of_text (outputs_message timestamp outputs))
whole_written r old first second new front timestamp outputs fronts at_first at_second grown =
    let o = outputs_from [] outputs in
    let d = codes "},\"type\":\"outputs\"}" in
    on_ok_weaker r (λ e. e ∙ ap (λ t. t ++ codes "},\"type\":\"outputs\"}\n") (at_second ∙ ap (λ t. t ++ escaped o) at_first)
    ∙ in_three old (escaped front) (escaped o) (codes "},\"type\":\"outputs\"}\n")
    ∙ ap (λ t. old ++ t) (feed_behind (escaped front) (escaped o) d (10 ∷ [])
    ∙ ap (λ t. t ++ 10 ∷ []) (sym (cut front (o ++ d) (outputs_begin outputs d (inl (omega arith))) ∙ ap (λ t. escaped front ++ t) (cut o d (inl (omega arith))))
    ∙ ap escaped (ap (λ f. f ++ (o ++ d)) fronts
    ∙ sym (apart (codes "{\"@level\":\"info\",\"@message\":\"Outputs: ") (decimal (length outputs)) (codes "\",\"@module\":\"terraform.ui\",\"@timestamp\":\"") timestamp (codes "\",\"outputs\":{") o d))))) grown

-- ---- what stood there before

-- what is appended to what was appended leaves it
pub still_behind : (old mid new : List ℕ) → take (length old) mid ≡ old → take (length mid) new ≡ mid → take (length old) new ≡ old
still_behind old mid new first second =
    let size = length-take (length old) mid in
    let few : length old ≤ length mid = omega (arith, ap length first, size) in
    sym (take-take (length old) (length mid) new few) ∙ ap (take (length old)) second ∙ first
