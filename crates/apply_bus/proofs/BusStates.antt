-- The rule of a bus in a layout that proofs take apart: for each worker, what was taken and queued
-- from it, and that it sent nothing else.
use Rattle.std.proofs.Common.{◌≡◌, ◌≢◌, ℕ, ◌<◌, ◌≤◌, true, List, [], ◌∷◌, ◌++◌, sym, refl, ◌∙◌, subst, ⊎_elim, arith}
use Rattle.std.proofs.lemmas.Bool.Decides.{eqb_tells}
use Rattle.std.specs.List.{AllByRecursion}
use Rattle.crossbeam_channel.specs.Fifo.{Pushes, Pops, Forks, Merges, Learns}
use Rattle.apply_bus.specs.declared.bus_rule.Known.{Known}
use Rattle.apply_bus.specs.declared.bus_rule.Knowledge.{Knowledge}
use Rattle.apply_bus.specs.declared.item.Item.{Item}
use Rattle.apply_bus.specs.BusRule.{Knows, IsLawful, IsBorneOut}
use Rattle.apply_bus.specs.BusState.{ClosesLast, IsConsistent}
use Rattle.apply_bus.specs.Items.{worker_of, closes, items_of}
use Rattle.apply_bus.proofs.Each.{each_map}
use Rattle.apply_bus.proofs.Items.{closes_last, grows_here, grows_else, named_below, none_above}
use Rattle.apply_bus.proofs.Views.{AtEach}

-- of each worker: a close is its last item, and a worker that is none of the first has sent nothing
abbrev pub Orderly : ℕ → List Item → Type 0
Orderly workers all = (w : ℕ) → ClosesLast (items_of w all) × (workers ≤ w → items_of w all ≡ [])

pub orderly_grows : (workers : ℕ) (all : List Item) (x : Item) → Orderly workers all → worker_of x < workers → closes (items_of (worker_of x) all) ≡ 0 → Orderly workers (all ++ x ∷ [])
orderly_grows workers all x h below none w = ⊎_elim
    (λ (c : _ × (worker_of x ≡ w)). (
      subst ClosesLast (sym (grows_here w x all c.1)) (closes_last (items_of w all) x (subst (λ u. closes (items_of u all) ≡ 0) c.1 none)),
      λ above. absurd (let e = c.1 in omega arith),
    ))
    (λ (c : _ × (worker_of x ≢ w)). (
      subst ClosesLast (sym (grows_else w x all c.1)) (h w).0,
      λ above. grows_else w x all c.1 ∙ (h w).1 above,
    ))
    (eqb_tells (worker_of x) w)

abbrev pub parts : List Item → ℕ → List Item
parts all w = items_of w all

pub consistent : (workers : ℕ) (taken queue : List Item) → Orderly workers (taken ++ queue) → IsConsistent workers taken queue (parts (taken ++ queue))
consistent workers taken queue h = record {
  named = named_below workers (taken ++ queue) (λ w above. (h w).1 above);
  agree = λ w. refl;
  closed_last = λ w. (h w).0;
}

pub orderly : (workers : ℕ) (taken queue : List Item) (sent : ℕ → List Item) → IsConsistent workers taken queue sent → Orderly workers (taken ++ queue)
orderly workers taken queue sent c w = (subst ClosesLast (sym (c.agree w)) (c.closed_last w), none_above workers (taken ++ queue) c.named w)

-- the view is the part of its worker
abbrev pub IsPart : (owner : ℕ → ℕ) → (all : List Item) → (workers pass : ℕ) → Known → Type 0
IsPart owner all workers pass k = (owner k.worker ≡ pass) × (k.worker < workers) × (items_of k.worker all ≡ k.sent)

abbrev pub Suits : (reader : ℕ) → (owner : ℕ → ℕ) → (taken all : List Item) → (workers pass : ℕ) → Knowledge → Type 0
Suits reader owner taken all workers pass v = AllByRecursion (IsPart owner all workers pass) v.senders × (v.receives ≡ true → (pass ≡ reader) × (v.taken ≡ taken) × (v.workers ≡ workers))

abbrev pub Plain : List Item → List Knowledge → Type 0
Plain queue views =
    (reader : ℕ) × (owner : ℕ → ℕ) × (taken : List Item) × (workers : ℕ)
    × Orderly workers (taken ++ queue)
    × AtEach (Suits reader owner taken (taken ++ queue) workers) views

pub to_plain : (queue : List Item) (views : List Knowledge) → IsLawful queue views → Plain queue views
to_plain queue views h =
    let all = h.2 ++ queue in (
      h.0,
      h.1,
      h.2,
      h.3,
      orderly h.3 h.2 queue h.4 h.5,
      λ pass v at. (
        each_map (Knows h.1 h.4 h.3 pass) (IsPart h.1 all h.3 pass) v.senders (λ k fits. (fits.0, fits.1, h.5.agree k.worker ∙ sym fits.2)) (h.6 pass v at).0,
        (h.6 pass v at).1,
      ),
    )

pub from_plain : (queue : List Item) (views : List Knowledge) → Plain queue views → IsLawful queue views
from_plain queue views h =
    let all = h.2 ++ queue in (
      h.0,
      h.1,
      h.2,
      h.3,
      parts all,
      consistent h.3 h.2 queue h.4,
      λ pass v at. (
        each_map (IsPart h.1 all h.3 pass) (Knows h.1 (parts all) h.3 pass) v.senders (λ k fits. (fits.0, fits.1, sym fits.2)) (h.5 pass v at).0,
        (h.5 pass v at).1,
      ),
    )

-- what a look at the plain rule ensures
abbrev pub Learned : Knowledge → List Item → Type 0
Learned v queue = Orderly v.workers (v.taken ++ queue) × AllByRecursion (λ k. (k.worker < v.workers) × (items_of k.worker (v.taken ++ queue) ≡ k.sent)) v.senders

pub learned : (v : Knowledge) (queue : List Item) → IsBorneOut v queue → Learned v queue
learned v queue h = (
  orderly v.workers v.taken queue h.0 h.1,
  each_map (λ (k : Known). (k.worker < v.workers) × (k.sent ≡ h.0 k.worker)) (λ (k : Known). (k.worker < v.workers) × (items_of k.worker (v.taken ++ queue) ≡ k.sent)) v.senders
      (λ k fits. (fits.0, h.1.agree k.worker ∙ sym fits.1)) h.2,
)

pub borne_out_from : (v : Knowledge) (queue : List Item) → Learned v queue → IsBorneOut v queue
borne_out_from v queue h = (
  parts (v.taken ++ queue),
  consistent v.workers v.taken queue h.0,
  each_map (λ (k : Known). (k.worker < v.workers) × (items_of k.worker (v.taken ++ queue) ≡ k.sent)) (λ (k : Known). (k.worker < v.workers) × (k.sent ≡ parts (v.taken ++ queue) k.worker)) v.senders
      (λ k fits. (fits.0, sym fits.1)) h.1,
)

-- ---- a step of the plain rule is one of the rule

pub pushes_from : (n pass : ℕ) (v : Knowledge) (x : Item) (then : Knowledge → Type 0) → Pushes Plain n pass v x then → Pushes IsLawful n pass v x then
pushes_from n pass v x then f queue views short h at =
    let r = f queue views short (to_plain queue views h) at in (r.0, from_plain _ _ r.1, r.2)

pub pops_from : (pass : ℕ) (v : Knowledge) (then : Item → Knowledge → Type 0) → Pops Plain pass v then → Pops IsLawful pass v then
pops_from pass v then f x queue views h at =
    let r = f x queue views (to_plain (x ∷ queue) views h) at in (r.0, from_plain _ _ r.1, r.2)

pub forks_from : (pass : ℕ) (v left right : Knowledge) → Forks Plain pass v left right → Forks IsLawful pass v left right
forks_from pass v left right f queue views h at = from_plain _ _ (f queue views (to_plain queue views h) at)

pub merges_from : (pass : ℕ) (v : Knowledge) (other : ℕ) (w both spent : Knowledge) → Merges Plain pass v other w both spent → Merges IsLawful pass v other w both spent
merges_from pass v other w both spent f queue views h at apart at' = from_plain _ _ (f queue views (to_plain queue views h) at apart at')

pub learns_from : (pass : ℕ) (v : Knowledge) → Learns Plain pass v (Learned v) → Learns IsLawful pass v (IsBorneOut v)
learns_from pass v f queue views h at = borne_out_from v queue (f queue views (to_plain queue views h) at)
