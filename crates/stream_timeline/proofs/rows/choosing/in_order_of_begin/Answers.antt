use Rattle.std.proofs.Common.{◌≡◌, AllPairs, FitsSigned, List, [], ℕ, ℤ, ap, count_by, eqb, false, map, pos, rules, subst, sym, w64, ◌∙◌}
use Rattle.std.proofs.lemmas.Int.{to_z-of_z}
use Rattle.std.proofs.lemmas.List.{take_all}
use Rattle.stream_timeline.specs.declared.rows.choosing.Candidate.{Candidate}
use Rattle.stream_timeline.specs.Rows.{IsPrintedBefore}
use Rattle.stream_timeline.specs.Steps.{StepRead, begun_step}
use Rattle.stream_timeline.proofs.Printed.{begin_at, begins_pushed, printed, shown_are}
use Rattle.stream_timeline.proofs.rows.choosing.in_order_of_begin.Goals as goal

-- what an index out of range would give
abbrev nothing : Candidate
nothing = record { marked = false; length = 0; place = 0 }

pub loop-candidate-preserved : goal.loop-candidate-preserved
loop-candidate-preserved c = λ d.
    let l = c.loop-candidate-test.true in
    let fits : FitsSigned w64 c.begin.result = search rules in
    begins_pushed c.args.steps.now d c.args.chosen.now c.loop-candidate.candidate-index nothing c.loop-candidate.begins.items c.push.new.self.items c.index-steps-candidate.result c.begin.result
    l (c.requires c.loop-candidate.candidate-index nothing l) c.index-steps-candidate.is c.begin.ensures (c.loop-candidate.invariant d) (simp to_z-of_z at c.in_ok-push.ensures.items)

pub returns-clause-shown : goal.returns-clause-shown
returns-clause-shown c = λ p.
    let steps = c.args.steps.now in
    let d : StepRead = begun_step 0 [] [] (pos 0) in
    let made : c.loop-candidate.begins.items ≡ map (λ (x : Candidate). begin_at steps d x.place) c.args.chosen.now =
    c.loop-candidate.invariant d ∙ ap (λ (cs : List Candidate). map (λ (x : Candidate). begin_at steps d x.place) cs) (take_all c.loop-candidate.candidate-index c.args.chosen.now c.loop-candidate-test.false) in
    let places : c.loop-place.places.items ≡ map (λ (b : ℤ × ℕ). b.1) c.sort.new.self.items =
    c.loop-place.invariant ∙ ap (λ (bs : List (ℤ × ℕ)). map (λ (b : ℤ × ℕ). b.1) bs) (take_all c.loop-place.place-index c.deref-place-items.result.now c.loop-place-test.false ∙ c.deref-place-items.ensures.value) in
    ap (λ (ps : List ℕ). count_by (λ place. eqb place p) ps) places ∙ shown_are steps d c.args.chosen.now c.loop-candidate.begins.items c.sort.new.self.items p made c.sort.ensures.permutation

pub returns-clause-ordered : goal.returns-clause-ordered
returns-clause-ordered c =
    let steps = c.args.steps.now in
    let made : (d : StepRead) → c.loop-candidate.begins.items ≡ map (λ (x : Candidate). begin_at steps d x.place) c.args.chosen.now =
    λ d. c.loop-candidate.invariant d ∙ ap (λ (cs : List Candidate). map (λ (x : Candidate). begin_at steps d x.place) cs) (take_all c.loop-candidate.candidate-index c.args.chosen.now c.loop-candidate-test.false) in
    let places : c.loop-place.places.items ≡ map (λ (b : ℤ × ℕ). b.1) c.sort.new.self.items =
    c.loop-place.invariant ∙ ap (λ (bs : List (ℤ × ℕ)). map (λ (b : ℤ × ℕ). b.1) bs) (take_all c.loop-place.place-index c.deref-place-items.result.now c.loop-place-test.false ∙ c.deref-place-items.ensures.value) in
    subst (λ (ps : List ℕ). AllPairs (IsPrintedBefore steps) ps) (sym places) (printed steps c.args.chosen.now c.loop-candidate.begins.items c.sort.new.self.items made c.sort.ensures.permutation c.in_ok-sort.ensures.sorted)
