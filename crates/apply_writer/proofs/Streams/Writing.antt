-- What was written, and what is written after it.
use Rattle.std.proofs.Common.{◌≡◌, ◌≢◌, ℕ, ◌+◌, ◌-◌, ◌≤◌, ◌<◌, List, [], ◌∷◌, ◌++◌, get_or, Option, length, take, drop, take-append-drop, append-nil, append_assoc, length-append, length-drop, take_all, take-add, sym, refl, ap, ◌∙◌, subst, arith}
use Rattle.std.specs.Io.KnownBytes.{Appends}
use Rattle.std.proofs.KnownBytes.{Appends-trans}
use Rattle.std.specs.List.{concat}
use Rattle.std.proofs.lemmas.List.{take_more}
use Rattle.std.proofs.lemmas.List.Folds.{concat-append}
use mathlib.Core.List.{IsPrefix}
use Rattle.apply_writer.specs.declared.stream.output.WriteState.{WriteState}
use Rattle.apply_writer.specs.declared.stream.output.WriteState.TheVariants.{Open, Failed, OutOfMemory}
use Rattle.apply_writer.specs.Stream.Outlet.{IsRefused, Outlet, Writes, failed_writes, stop_for_memory}
use Rattle.apply_writer.proofs.Prefixes.{prefix_behind}

-- a write took the next of the bytes
pub accepted_more : (from mid now : Option (List ℕ)) (bytes : List ℕ) (done k : ℕ) → Appends from mid (take done bytes) → Appends mid now (take k (take (length bytes - done) (drop done bytes))) → Appends from now (take (done + k) bytes)
accepted_more from mid now bytes done k p q =
    let whole : take (length bytes - done) (drop done bytes) ≡ drop done bytes = grind (arith, take_all, length-drop) in
    subst (Appends from now) (sym (take-add done k bytes)) (Appends-trans from mid now (take done bytes) (take k (drop done bytes)) p (subst (λ l. Appends mid now (take k l)) whole q))

prefix_more : (xs all more : List ℕ) → IsPrefix xs all → IsPrefix xs (all ++ more)
prefix_more xs all more p = (p.0 ++ more, sym (append_assoc xs p.0 more) ∙ ap (λ l. l ++ more) p.1)

-- nothing is written after the writing has stopped
pub writes_none : (outlet : Outlet) (bytes : List ℕ) → outlet.state ≢ Open → Writes outlet outlet bytes
writes_none outlet bytes ends before failures all was = record {
  part = was.part;
  is_prefix = prefix_more was.part all bytes was.is_prefix;
  whole = λ goes. absurd (ends goes);
  appended = was.appended;
  counted = was.counted;
  failed = was.failed;
}

-- what has stopped does not go on
pub stopped_for_memory : (state : WriteState) → stop_for_memory state ≢ Open
stopped_for_memory Open e = cc
stopped_for_memory Failed e = cc
stopped_for_memory OutOfMemory e = cc

-- no write had failed where memory was refused
pub refused_for_memory : (old new : Outlet) → new.state ≡ stop_for_memory old.state → new.bytes ≡ old.bytes → new.failures ≡ old.failures → new.written ≡ old.written → new.state ≡ OutOfMemory → IsRefused old new
refused_for_memory old new is same fails count ends = record { none_failed = none old.state (sym is ∙ ends); bytes = same; failures = fails; written = count }
  where
    none : (state : WriteState) → stop_for_memory state ≡ OutOfMemory → failed_writes state ≡ 0
    none Open e = refl
    none Failed e = absurd cc
    none OutOfMemory e = refl

-- memory was refused for what comes next
pub writes_stop_for_memory : (old new : Outlet) (bytes : List ℕ) → new.state ≡ stop_for_memory old.state → new.bytes ≡ old.bytes → new.failures ≡ old.failures → new.written ≡ old.written → Writes old new bytes
writes_stop_for_memory old new bytes ends same fails count before failures all was = record {
  part = was.part;
  is_prefix = prefix_more was.part all bytes was.is_prefix;
  whole = λ goes. absurd (stopped_for_memory old.state (sym ends ∙ goes));
  appended = subst (λ now. Appends before now was.part) (sym same) was.appended;
  counted = count ∙ was.counted;
  failed = fails ∙ was.failed ∙ ap (λ n. failures + n) (sym (ap failed_writes ends ∙ as_many old.state));
}
  where
    as_many : (state : WriteState) → failed_writes (stop_for_memory state) ≡ failed_writes state
    as_many Open = refl
    as_many Failed = refl
    as_many OutOfMemory = refl

-- all of the bytes were written after what went on
pub writes_all : (old new : Outlet) (bytes : List ℕ) → old.state ≡ Open → new.state ≡ Open → Appends old.bytes new.bytes bytes → new.failures ≡ old.failures → new.written ≡ old.written + length bytes → Writes old new bytes
writes_all old new bytes went goes appends fails count before failures all was = record {
  part = all ++ bytes;
  is_prefix = ([], append-nil (all ++ bytes));
  whole = λ _. refl;
  appended = Appends-trans before old.bytes new.bytes all bytes (subst (Appends before old.bytes) (was.whole went) was.appended) appends;
  counted = count ∙ ap (λ n. n + length bytes) (was.counted ∙ ap length (was.whole went)) ∙ sym (length-append all bytes);
  failed = fails ∙ was.failed ∙ ap (λ s. failures + failed_writes s) (went ∙ sym goes);
}

-- a write failed, after some of the bytes
pub writes_part : (old new : Outlet) (bytes : List ℕ) (n : ℕ) → old.state ≡ Open → new.state ≡ Failed → n ≤ length bytes → Appends old.bytes new.bytes (take n bytes) → new.failures ≡ old.failures + 1 → new.written ≡ old.written + n → Writes old new bytes
writes_part old new bytes n went ends few appends fails count before failures all was = record {
  part = all ++ take n bytes;
  is_prefix = prefix_behind all (take n bytes) bytes (drop n bytes, take-append-drop n bytes);
  whole = λ goes. let e : Failed ≡ Open = sym ends ∙ goes in absurd cc;
  appended = Appends-trans before old.bytes new.bytes all (take n bytes) (subst (Appends before old.bytes) (was.whole went) was.appended) appends;
  counted = count ∙ ap (λ m. m + n) (was.counted ∙ ap length (was.whole went)) ∙ sym (length-append all (take n bytes) ∙ ap (λ m. length all + m) (length_accepted n bytes few));
  failed =
      let one : failed_writes new.state ≡ 1 = ap failed_writes ends in
      let none : failed_writes old.state ≡ 0 = ap failed_writes went in
      let so_far : old.failures ≡ failures + failed_writes old.state = was.failed in
      omega (arith, fails, so_far, one, none);
}
  where
    length_accepted : (n : ℕ) (xs : List ℕ) → n ≤ length xs → length (take n xs) ≡ n
    length_accepted n xs few = grind (arith, Rattle.std.proofs.lemmas.List.length-take)

-- ---- pieces

-- the pieces up to one more
pub pieces_more : (head_chunks : List (List ℕ)) (i : ℕ) → i < length head_chunks → concat (take i head_chunks) ++ get_or head_chunks i [] ≡ concat (take (i + 1) head_chunks)
pieces_more head_chunks i low =
    sym (ap concat (take_more head_chunks i [] low) ∙ concat-append (take i head_chunks) (get_or head_chunks i [] ∷ [])
    ∙ ap (λ text. concat (take i head_chunks) ++ text) (append-nil (get_or head_chunks i [])))
