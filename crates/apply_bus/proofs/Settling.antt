-- What the rule of a bus ensures for a sender that is joined to what was taken.
use Rattle.std.proofs.Common.{◌≡◌, ◌≢◌, ℕ, zero, suc, ◌+◌, ◌<◌, ◌≤◌, List, [], ◌∷◌, ◌++◌, sym, refl, ap, ◌∙◌, subst, ⊎_elim, append_assoc, append-nil, map, All, lt_of_not-le, arith}
use Rattle.std.proofs.lemmas.Bool.Decides.{eqb_tells}
use Rattle.std.proofs.lemmas.List.Elements.{All-head, All-push, All-tail}
use Rattle.std.specs.List.{AllByRecursion}
use Rattle.apply_events.specs.declared.event.Event.{Event}
use Rattle.apply_bus.specs.declared.bus_rule.Known.{Known}
use Rattle.apply_bus.specs.declared.bus_rule.Knowledge.{Knowledge}
use Rattle.apply_bus.specs.declared.item.Item.{Item}
use Rattle.apply_bus.specs.declared.item.Item.TheVariants.{Close}
use Rattle.apply_bus.specs.Bus.{Account, BusName, Sender, SentList, AreOf, sent_list_of, IsTakenInPart, IsTakenWhole}
use Rattle.apply_bus.specs.BusEnds.{as_items, sent_by, sent_list_from, sent_lists_in, IsOpen, IsClosed}
use Rattle.apply_bus.specs.BusRule.{known, sending, with_senders_of, IsBorneOut}
use Rattle.apply_bus.specs.BusState.{ClosesLast}
use Rattle.apply_bus.specs.Items.{worker_of, close_count, closes, items_of, events}
use Rattle.apply_bus.proofs.BusStates.{Learned, Orderly, learned}
use Rattle.apply_bus.proofs.Each.{each_last}
use Rattle.apply_bus.proofs.Items.{nil_not, close_le, of_append, of_here, of_else, named_below, events_append, events_of_worker}
use Rattle.apply_bus.proofs.Sent.{events_as_items, events_closed}

-- the closes of the workers below n
tally : ℕ → List Item → ℕ
tally zero xs = 0
tally (suc n) xs = closes (items_of n xs) + tally n xs

tally_nil : (n : ℕ) → tally n [] ≡ 0
unfolding tally
tally_nil zero = refl
tally_nil (suc n) = let r = tally_nil n in omega arith

tally_past : (n : ℕ) (x : Item) (xs : List Item) → n ≤ worker_of x → tally n (x ∷ xs) ≡ tally n xs
unfolding tally
tally_past zero x xs h = refl
tally_past (suc n) x xs h =
    let rest : tally n (x ∷ xs) ≡ tally n xs = tally_past n x xs (omega arith) in
    let here : closes (items_of n (x ∷ xs)) ≡ closes (items_of n xs) = ap closes (of_else n x xs (λ e. omega arith)) in omega arith

tally_cons : (n : ℕ) (x : Item) (xs : List Item) → worker_of x < n → tally n (x ∷ xs) ≡ close_count x + tally n xs
unfolding tally
tally_cons zero x xs h = absurd (omega arith)
tally_cons (suc n) x xs h = ⊎_elim
    (λ (c : _ × (worker_of x ≡ n)).
    let e = c.1 in
    let rest : tally n (x ∷ xs) ≡ tally n xs = tally_past n x xs (omega arith) in
    let here : closes (items_of n (x ∷ xs)) ≡ close_count x + closes (items_of n xs) = ap closes (of_here n x xs e) in omega arith)
    (λ (c : _ × (worker_of x ≢ n)).
    let ne = c.1 in
    let low : worker_of x < n = lt_of_not-le (λ le. ne (omega arith)) in
    let rest : tally n (x ∷ xs) ≡ close_count x + tally n xs = tally_cons n x xs low in
    let here : closes (items_of n (x ∷ xs)) ≡ closes (items_of n xs) = ap closes (of_else n x xs ne) in omega arith)
    (eqb_tells (worker_of x) n)

tally_all : (n : ℕ) (xs : List Item) → All (λ x. worker_of x < n) xs → tally n xs ≡ closes xs
tally_all n [] h = tally_nil n
tally_all n (x ∷ xs) h =
    let e = tally_cons n x xs (All-head (λ (y : Item). worker_of y < n) x xs h) in
    let r = tally_all n xs (All-tail (λ (y : Item). worker_of y < n) x xs h) in omega arith

tally_le : (n : ℕ) (xs : List Item) → ((p : ℕ) → closes (items_of p xs) ≤ 1) → tally n xs ≤ n
unfolding tally
tally_le zero xs h = omega arith
tally_le (suc n) xs h = let r = tally_le n xs h in let k = h n in omega arith

tally_full : (n : ℕ) (xs : List Item) → ((p : ℕ) → closes (items_of p xs) ≤ 1) → n ≤ tally n xs → (w : ℕ) → w < n → closes (items_of w xs) ≡ 1
unfolding tally
tally_full zero xs h full w low = absurd (omega arith)
tally_full (suc n) xs h full w low =
    let top = h n in let most = tally_le n xs h in let rest : n ≤ tally n xs = omega arith in
    ⊎_elim
    (λ (c : _ × (w ≡ n)). subst (λ p. closes (items_of p xs) ≡ 1) (sym c.1) (omega arith))
    (λ (c : _ × (w ≢ n)). let ne = c.1 in tally_full n xs h rest w (lt_of_not-le (λ le. ne (omega arith))))
    (eqb_tells w n)

closes_tail : (x : Item) (xs : List Item) → ClosesLast (x ∷ xs) → ClosesLast xs
closes_tail x xs h front y rest e = let k : close_count x + closes front ≡ 0 = h (x ∷ front) y rest (ap (λ l. x ∷ l) e) in omega arith

-- at most one close, where a close is the last
one_close : (xs ys : List Item) → ClosesLast (xs ++ ys) → closes xs ≤ 1
one_close [] ys h = omega arith
one_close (x ∷ []) ys h = let k = close_le x in omega arith
one_close (x ∷ y ∷ zs) ys h =
    let k : close_count x + 0 ≡ 0 = h (x ∷ []) y (zs ++ ys) refl in
    let r : closes (y ∷ zs) ≤ 1 = one_close (y ∷ zs) ys (closes_tail x (y ∷ zs ++ ys) h) in omega arith

front_nil : (a b : List Item) → a ++ b ≡ [] → a ≡ []
front_nil [] b e = refl
front_nil (x ∷ xs) b e = absurd (nil_not [] (xs ++ b) x (sym e))

no_more : (a b : List Item) → ClosesLast (a ++ b) → closes a ≡ 1 → b ≡ []
no_more a [] h one = refl
no_more a (y ∷ ys) h one = let k = h a y ys refl in absurd (omega arith)

-- of a worker whose every close was taken, nothing is left in the queue
pub settled : (taken queue : List Item) (workers w : ℕ) (sent : List Item) → Orderly workers (taken ++ queue) → closes taken ≡ workers → w < workers → items_of w (taken ++ queue) ≡ sent → items_of w taken ≡ sent
settled taken queue workers w sent h full low is =
    let each : (p : ℕ) → closes (items_of p taken) ≤ 1 = λ p. one_close (items_of p taken) (items_of p queue) (subst ClosesLast (of_append p taken queue) (h p).0) in
    let under : All (λ x. worker_of x < workers) taken = named_below workers taken (λ p le. front_nil (items_of p taken) (items_of p queue) (sym (of_append p taken queue) ∙ (h p).1 le)) in
    let all : tally workers taken ≡ closes taken = tally_all workers taken under in
    let one : closes (items_of w taken) ≡ 1 = tally_full workers taken each (omega arith) w low in
    let none : items_of w queue ≡ [] = no_more (items_of w taken) (items_of w queue) (subst ClosesLast (of_append w taken queue) (h w).0) one in
    sym (append-nil (items_of w taken)) ∙ ap (λ l. items_of w taken ++ l) (sym none) ∙ sym (of_append w taken queue) ∙ is

-- what is known of a sender whose view was taken in last
joined : (v : Knowledge) (queue : List Item) (ks : List Known) (k : Known) → Learned v queue → v.senders ≡ ks ++ k ∷ [] → (k.worker < v.workers) × (items_of k.worker (v.taken ++ queue) ≡ k.sent)
joined v queue ks k h ends =
    let P : Known → Type 0 = λ k. (k.worker < v.workers) × (items_of k.worker (v.taken ++ queue) ≡ k.sent) in
    each_last P ks k (subst (AllByRecursion P) ends h.1)

-- the receiver's view u, once v has taken in the view t of a sender, which has sent these items
joined_in : (v u t : Knowledge) (queue : List Item) (w : ℕ) (sent : List Item) → u ≡ with_senders_of v t → t ≡ sending w sent → Learned u queue → (w < v.workers) × (items_of w (v.taken ++ queue) ≡ sent)
joined_in v u t queue w sent is shut h =
    joined (with_senders_of v t) queue v.senders (known w sent) (subst (λ (x : Knowledge). Learned x queue) is h) (ap (λ (x : Knowledge). v.senders ++ x.senders) shut)

orderly_in : (v u t : Knowledge) (queue : List Item) → u ≡ with_senders_of v t → Learned u queue → Orderly v.workers (v.taken ++ queue)
orderly_in v u t queue is h = (subst (λ (x : Knowledge). Learned x queue) is h).0

abbrev pub sent_list : ℕ → List Event → SentList
sent_list w es = record { worker = w; sent = es }

part_of : (v u t : Knowledge) (queue : List Item) (w : ℕ) (sent : List Item) → u ≡ with_senders_of v t → t ≡ sending w sent → events sent ≡ sent_by t → Learned u queue → IsTakenInPart v.taken (sent_list w (sent_by t))
part_of v u t queue w sent is shut all h =
    let mine = joined_in v u t queue w sent is shut h in (
      events (items_of w queue),
      ap (λ l. l ++ events (items_of w queue)) (sym (events_of_worker w v.taken)) ∙ sym (events_append (items_of w v.taken) (items_of w queue)) ∙ ap events (sym (of_append w v.taken queue) ∙ mine.1) ∙ all,
    )

-- of a sender that was closed
pub closed_part : (v u t : Knowledge) (queue : List Item) (w : ℕ) → u ≡ with_senders_of v t → IsClosed w t → IsBorneOut u queue → IsTakenInPart v.taken (sent_list w (sent_by t))
closed_part v u t queue w is shut h = part_of v u t queue w (as_items (sent_by t) ++ Close w ∷ []) is shut (events_closed (sent_by t) w) (learned u queue h)

pub closed_whole : (v u t : Knowledge) (queue : List Item) (w : ℕ) → u ≡ with_senders_of v t → IsClosed w t → IsBorneOut u queue → closes v.taken ≡ v.workers → IsTakenWhole v.taken (sent_list w (sent_by t))
closed_whole v u t queue w is shut h full =
    let sent = as_items (sent_by t) ++ Close w ∷ [] in
    let mine = joined_in v u t queue w sent is shut (learned u queue h) in
    sym (events_of_worker w v.taken) ∙ ap events (settled v.taken queue v.workers w sent (orderly_in v u t queue is (learned u queue h)) full mine.0 mine.1) ∙ events_closed (sent_by t) w

-- of a sender that was not
pub open_part : (v u t : Knowledge) (queue : List Item) (w : ℕ) → u ≡ with_senders_of v t → IsOpen w t → IsBorneOut u queue → IsTakenInPart v.taken (sent_list w (sent_by t))
open_part v u t queue w is shut h = part_of v u t queue w (as_items (sent_by t)) is shut (events_as_items (sent_by t)) (learned u queue h)

-- ---- the sent lists of u, once v has taken in t

sent_lists_more : (ks : List Known) (k : Known) → map sent_list_from (ks ++ k ∷ []) ≡ map sent_list_from ks ++ sent_list_from k ∷ []
sent_lists_more [] k = refl
sent_lists_more (l ∷ ls) k = ap (λ m. sent_list_from l ∷ m) (sent_lists_more ls k)

sent_lists : (v u t : Knowledge) (w : ℕ) (sent : List Item) → u ≡ with_senders_of v t → t ≡ sending w sent → events sent ≡ sent_by t → sent_lists_in u ≡ sent_lists_in v ++ sent_list w (sent_by t) ∷ []
sent_lists v u t w sent is shut all =
    ap sent_lists_in is ∙ ap (λ (x : Knowledge). map sent_list_from (v.senders ++ x.senders)) shut ∙ sent_lists_more v.senders (known w sent)
    ∙ ap (λ l. sent_lists_in v ++ sent_list w l ∷ []) all

pub closed_sent_lists : (v u t : Knowledge) (w : ℕ) → u ≡ with_senders_of v t → IsClosed w t → sent_lists_in u ≡ sent_lists_in v ++ sent_list w (sent_by t) ∷ []
closed_sent_lists v u t w is shut = sent_lists v u t w (as_items (sent_by t) ++ Close w ∷ []) is shut (events_closed (sent_by t) w)

pub open_sent_lists : (v u t : Knowledge) (w : ℕ) → u ≡ with_senders_of v t → IsOpen w t → sent_lists_in u ≡ sent_lists_in v ++ sent_list w (sent_by t) ∷ []
open_sent_lists v u t w is shut = sent_lists v u t w (as_items (sent_by t)) is shut (events_as_items (sent_by t))

-- ---- lists of senders

pub sent_lists_of_more : (ss : List Sender) (s : Sender) → map sent_list_of (ss ++ s ∷ []) ≡ map sent_list_of ss ++ sent_list_of s ∷ []
sent_lists_of_more [] s = refl
sent_lists_of_more (x ∷ xs) s = ap (λ m. sent_list_of x ∷ m) (sent_lists_of_more xs s)

-- the fact holds of one sender more
pub all_sent_lists_more : (P : SentList → Type 0) (ss : List Sender) (s : Sender) → All P (map sent_list_of ss) → P (sent_list_of s) → All P (map sent_list_of (ss ++ s ∷ []))
all_sent_lists_more P ss s h one = subst (All P) (sym (sent_lists_of_more ss s)) (All-push P (map sent_list_of ss) (sent_list_of s) h one)

-- a sender in the middle of a list is of this bus
pub bus_at : (bus : BusName) (front rest all : List Sender) (s : Sender) → front ++ s ∷ rest ≡ all → AreOf bus all → s.bus ≡ bus
bus_at bus [] rest all s e h = All-head (λ (t : Sender). t.bus ≡ bus) s rest (subst (AreOf bus) (sym e) h)
bus_at bus (x ∷ xs) rest all s e h = bus_at bus xs rest (xs ++ s ∷ rest) s refl (All-tail (λ (t : Sender). t.bus ≡ bus) x (xs ++ s ∷ rest) (subst (AreOf bus) (sym e) h))

-- one sender more was joined
pub account_more : (a b c : Account) (ss : List Sender) (s : Sender) → b ≡ record a { sent_lists = a.sent_lists ++ map sent_list_of ss } → c ≡ record b { sent_lists = b.sent_lists ++ sent_list_of s ∷ [] }
    → c ≡ record a { sent_lists = a.sent_lists ++ map sent_list_of (ss ++ s ∷ []) }
account_more a b c ss s before now =
    now ∙ ap (λ (x : Account). record x { sent_lists = x.sent_lists ++ sent_list_of s ∷ [] }) before
    ∙ ap (λ l. record a { sent_lists = l }) (append_assoc a.sent_lists (map sent_list_of ss) (sent_list_of s ∷ []) ∙ ap (λ l. a.sent_lists ++ l) (sym (sent_lists_of_more ss s)))
