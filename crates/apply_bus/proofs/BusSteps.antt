-- Each kind of step keeps the rule of a bus.
use Rattle.std.proofs.Common.{◌≡◌, ◌≢◌, ℕ, ◌+◌, ◌<◌, true, true≢false, List, [], ◌∷◌, ◌++◌, length, set, eqb, sym, refl, ap, ◌∙◌, subst, ⊎_elim, append_assoc, arith, lt_of_not-le}
use Rattle.std.specs.List.{AllByRecursion}
use mathlib.Core.Option.{some, some-ne-none}
use lib.ListN.{get_elem?}
use Rattle.crossbeam_channel.specs.Fifo.{Pushes, Pops, Forks, Merges, Learns}
use Rattle.atomic_table.proofs.Lists.{at_set}
use Rattle.apply_bus.specs.declared.bus_rule.Known.{Known}
use Rattle.apply_bus.specs.declared.bus_rule.Knowledge.{Knowledge}
use Rattle.apply_bus.specs.declared.item.Item.{Item}
use Rattle.apply_bus.specs.BusRule.{knowledge, receiving, sending, spent, with_one_more, with_senders_of, after_send, IsLawful, IsTaken, IsBorneOut}
use Rattle.apply_bus.specs.Items.{worker_of, closes, items_of}
use Rattle.apply_bus.proofs.BusStates.{Orderly, orderly_grows, IsPart, Suits, Plain, from_plain, Learned, pushes_from, pops_from, forks_from, merges_from, learns_from}
use Rattle.apply_bus.proofs.Each.{each_map, each_append}
use Rattle.apply_bus.proofs.Items.{nil_not, of_append, of_here, grows_here, grows_else}
use Rattle.apply_bus.proofs.Views.{AtEach, each_set, at_end, pick, picked, left_out}

begins_plain : Plain [] (receiving [] 0 [] ∷ [])
begins_plain = let first : Knowledge = receiving [] 0 [] in let owner : ℕ → ℕ = λ _. 0 in (
  0,
  owner,
  [],
  0,
  (λ w. ((λ front x rest e. absurd (nil_not front rest x e)), λ _. refl)),
  λ j u e. ⊎_elim (λ (x : get_elem? [] j ≡ some u). absurd (some-ne-none u (sym x)))
      (λ (x : (j ≡ 0) × (first ≡ u)). subst (λ (y : ℕ × Knowledge). Suits 0 owner [] [] 0 y.0 y.1) (λ i. (sym x.0 i, x.1 i)) (tt, λ _. (refl, refl, refl))) (at_end [] first u j e),
)

sends_from : (n pass w : ℕ) (l : List Item) (x : Item) → worker_of x ≡ w → closes l ≡ 0 → Pushes Plain n pass (sending w l) x (λ u. u ≡ after_send (sending w l) x)
sends_from n pass w l x names none queue views _ h at =
    let mine = (h.5 pass (sending w l) at).0.0 in
    let new : Knowledge = sending w (l ++ x ∷ []) in
    let all = h.2 ++ queue in
    let below : worker_of x < h.3 = omega arith in
    let quiet : closes (items_of (worker_of x) all) ≡ 0 = ap (λ u. closes (items_of u all)) names ∙ ap closes mine.2 ∙ none in
    let State : List Item → Type 0 = λ all. Orderly h.3 all × AtEach (Suits h.0 h.1 h.2 all h.3) (set views pass new) in
    let state : State (all ++ x ∷ []) = (
      orderly_grows h.3 all x h.4 below quiet,
      each_set (Suits h.0 h.1 h.2 (all ++ x ∷ []) h.3) views pass new
          (((mine.0, mine.1, grows_here w x all names ∙ ap (λ l. l ++ x ∷ []) mine.2), tt), λ p. absurd (true≢false (sym p)))
          (λ j u other e. (
            each_map (IsPart h.1 all h.3 j) (IsPart h.1 (all ++ x ∷ []) h.3 j) u.senders
                (λ k fits. (fits.0, fits.1, grows_else k.worker x all (λ same. other (sym fits.0 ∙ ap h.1 (sym same ∙ names) ∙ mine.0)) ∙ fits.2))
                (h.5 j u e).0,
            (h.5 j u e).1,
          )),
    ) in
    let moved = subst State (append_assoc h.2 queue (x ∷ [])) state in
    (new, (h.0, h.1, h.2, h.3, moved.0, moved.1), refl)

sends_plain : (n pass : ℕ) (v : Knowledge) (x : Item) (w : ℕ) (l : List Item) → v ≡ sending w l → worker_of x ≡ w → closes l ≡ 0 → Pushes Plain n pass v x (λ u. u ≡ after_send v x)
sends_plain n pass v x w l is names none = subst (λ v. Pushes Plain n pass v x (λ u. u ≡ after_send v x)) (sym is) (sends_from n pass w l x names none)

takes_plain : (pass : ℕ) (v : Knowledge) → v.receives ≡ true → Pops Plain pass v (IsTaken v)
takes_plain pass v receives x queue views h at =
    let mine = h.5 pass v at in let now = mine.1 receives in
    let new : Knowledge = knowledge v.receives (v.taken ++ x ∷ []) v.workers v.senders in
    let got = h.2 ++ x ∷ [] in
    let State : List Item → Type 0 = λ all. Orderly h.3 all × AtEach (Suits h.0 h.1 got all h.3) (set views pass new) in
    let state : State (h.2 ++ x ∷ queue) = (
      h.4,
      each_set (Suits h.0 h.1 got (h.2 ++ x ∷ queue) h.3) views pass new
          (mine.0, λ _. (now.0, ap (λ l. l ++ x ∷ []) now.1, now.2))
          (λ j u other e. ((h.5 j u e).0, λ p. absurd (other (((h.5 j u e).1 p).0 ∙ sym now.0)))),
    ) in
    let moved = subst State (sym (append_assoc h.2 (x ∷ []) queue)) state in
    let w = worker_of x in
    let split : items_of w (h.2 ++ x ∷ queue) ≡ items_of w h.2 ++ x ∷ items_of w queue = of_append w h.2 (x ∷ queue) ∙ ap (λ l. items_of w h.2 ++ l) (of_here w x queue refl) in
    let under : w < h.3 = lt_of_not-le (λ above. nil_not (items_of w h.2) (items_of w queue) x (sym ((h.4 w).1 above) ∙ split)) in let below : w < v.workers = let e = now.2 in omega arith in
    (new, (h.0, h.1, got, h.3, moved.0, moved.1), (refl, below, ap (λ l. closes (items_of w l)) now.1 ∙ (h.4 w).0 (items_of w h.2) x (items_of w queue) split))

adds_plain : (pass : ℕ) (v : Knowledge) → v.receives ≡ true → Forks Plain pass v (with_one_more v) (sending v.workers [])
adds_plain pass v receives queue views h at =
    let mine = h.5 pass v at in let now = mine.1 receives in
    let all = h.2 ++ queue in let vs : List Knowledge = set views pass (with_one_more v) in let n = length vs in let right : Knowledge = sending v.workers [] in
    let owner : ℕ → ℕ = λ p. pick (eqb p h.3) n (h.1 p) in
    let keeps : (j : ℕ) (ks : List Known) → AllByRecursion (IsPart h.1 all h.3 j) ks → AllByRecursion (IsPart owner all (h.3 + 1) j) ks = λ j ks. each_map (IsPart h.1 all h.3 j) (IsPart owner all (h.3 + 1) j) ks
    (λ k fits. let low = fits.1 in (left_out k.worker h.3 n (h.1 k.worker) (λ e. omega arith) ∙ fits.0, (let goal : k.worker < h.3 + 1 = omega arith in goal), fits.2)) in
    let F : ℕ → Knowledge → Type 0 = Suits h.0 owner h.2 all (h.3 + 1) in
    let old : AtEach F vs = each_set F views pass (with_one_more v) (keeps pass v.senders mine.0, λ _. (now.0, now.1, ap (λ m. m + 1) now.2))
    (λ j u other e. (keeps j u.senders (h.5 j u e).0, λ p. absurd (other (((h.5 j u e).1 p).0 ∙ sym now.0)))) in (
      h.0,
      owner,
      h.2,
      h.3 + 1,
      (λ w. ((h.4 w).0, λ above. (h.4 w).1 (omega arith))),
      λ j u e. ⊎_elim (λ x. old j u x)
          (λ (x : (j ≡ n) × (right ≡ u)). subst (λ (y : ℕ × Knowledge). F y.0 y.1) (λ i. (sym x.0 i, x.1 i))
          (((picked v.workers h.3 n (h.1 v.workers) now.2, (let s = now.2 in let goal : v.workers < h.3 + 1 = omega arith in goal), (h.4 v.workers).1 (let s = now.2 in omega arith)), tt), λ p. absurd (true≢false (sym p))))
          (at_end vs right u j e),
    )

joins_plain : (pass : ℕ) (v : Knowledge) (other : ℕ) (w : Knowledge) → Merges Plain pass v other w (with_senders_of v w) spent
joins_plain pass v other w queue views h at apart at' =
    let both : Knowledge = with_senders_of v w in let mine = h.5 pass v at in let vs : List Knowledge = set views pass both in let all = h.2 ++ queue in
    let was : get_elem? views other ≡ some w = ⊎_elim (λ x. absurd (apart x.0)) (λ x. x.1) (at_set views pass other both w at') in let theirs = h.5 other w was in
    let owner : ℕ → ℕ = λ p. pick (eqb (h.1 p) other) pass (h.1 p) in
    let keeps : (j : ℕ) (ks : List Known) → j ≢ other → AllByRecursion (IsPart h.1 all h.3 j) ks → AllByRecursion (IsPart owner all h.3 j) ks = λ j ks n. each_map (IsPart h.1 all h.3 j) (IsPart owner all h.3 j) ks
    (λ k fits. (left_out (h.1 k.worker) other pass (h.1 k.worker) (λ e. n (sym fits.0 ∙ e)) ∙ fits.0, fits.1, fits.2)) in
    let comes : AllByRecursion (IsPart owner all h.3 pass) w.senders = each_map (IsPart h.1 all h.3 other) (IsPart owner all h.3 pass) w.senders
    (λ k fits. (picked (h.1 k.worker) other pass (h.1 k.worker) fits.0, fits.1, fits.2)) theirs.0 in
    let F : ℕ → Knowledge → Type 0 = Suits h.0 owner h.2 all h.3 in let Now : ℕ → Knowledge → Type 0 = λ j y. j ≢ other → F j y in
    let now : AtEach Now vs = each_set Now views pass both (λ n. (each_append (IsPart owner all h.3 pass) v.senders w.senders (keeps pass v.senders n mine.0) comes, mine.1))
    (λ j y _ e n. (keeps j y.senders n (h.5 j y e).0, (h.5 j y e).1)) in
    (h.0, owner, h.2, h.3, h.4, each_set F vs other spent (tt, λ p. absurd (true≢false (sym p))) (λ j y n e. now j y e n))

looks_plain : (pass : ℕ) (v : Knowledge) → v.receives ≡ true → Learns Plain pass v (Learned v)
looks_plain pass v receives queue views h at =
    let mine = h.5 pass v at in let now = mine.1 receives in let all = h.2 ++ queue in
    subst (λ (y : List Item × ℕ). Orderly y.1 (y.0 ++ queue) × AllByRecursion (λ k. (k.worker < y.1) × (items_of k.worker (y.0 ++ queue) ≡ k.sent)) v.senders) (λ i. (sym now.1 i, sym now.2 i))
    (h.4, each_map (IsPart h.1 all h.3 pass) (λ k. (k.worker < h.3) × (items_of k.worker all ≡ k.sent)) v.senders (λ k fits. (fits.1, fits.2)) mine.0)

-- ---- the same of the rule

pub begins : IsLawful [] (receiving [] 0 [] ∷ [])
begins = from_plain [] (receiving [] 0 [] ∷ []) begins_plain

pub sends : (n pass : ℕ) (v : Knowledge) (x : Item) (w : ℕ) (l : List Item) → v ≡ sending w l → worker_of x ≡ w → closes l ≡ 0 → Pushes IsLawful n pass v x (λ u. u ≡ after_send v x)
sends n pass v x w l is names none = pushes_from n pass v x (λ u. u ≡ after_send v x) (sends_plain n pass v x w l is names none)

pub takes : (pass : ℕ) (v : Knowledge) → v.receives ≡ true → Pops IsLawful pass v (IsTaken v)
takes pass v receives = pops_from pass v (IsTaken v) (takes_plain pass v receives)

pub adds : (pass : ℕ) (v : Knowledge) → v.receives ≡ true → Forks IsLawful pass v (with_one_more v) (sending v.workers [])
adds pass v receives = forks_from pass v (with_one_more v) (sending v.workers []) (adds_plain pass v receives)

pub joins : (pass : ℕ) (v : Knowledge) (other : ℕ) (w : Knowledge) → Merges IsLawful pass v other w (with_senders_of v w) spent
joins pass v other w = merges_from pass v other w (with_senders_of v w) spent (joins_plain pass v other w)

pub looks : (pass : ℕ) (v : Knowledge) → v.receives ≡ true → Learns IsLawful pass v (IsBorneOut v)
looks pass v receives = learns_from pass v (looks_plain pass v receives)
