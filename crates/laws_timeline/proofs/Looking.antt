-- What a check reads of a message, a picture reads too.
use Rattle.std.proofs.Common.{◌≡◌, ℕ, List, codes, Option, Some, None, Result, Ok, Err, refl, ap}
use Rattle.serde_json.specs.Data.{Data, null, boolean, number, string, array, object}
use Rattle.serde_json.specs.Find.{as_str, get}
use Rattle.apply_json.specs.Tree as tree
use Rattle.stream_check.specs.declared.messages.path.Path.{Path}
use Rattle.stream_check.specs.declared.messages.path.Path.TheVariants as path
use Rattle.stream_check.specs.declared.rules.fault.Fault.{Fault}
use Rattle.stream_check.specs.declared.rules.fault.Fault.TheVariants.{Malformed}
use Rattle.stream_check.specs.declared.messages.member_fault.MemberFault.TheVariants.{NoText}
use Rattle.stream_check.specs.Members.{as_container, object_at, text_at, there}
use Rattle.stream_check.specs.Message.{hook_address_of, subject_of}
use Rattle.stream_check.specs.Results.{◌>>=◌, or_refuse}
use Rattle.stream_message.specs.Members.{address_of, hook_text}

pub bind_ok : {A B : Type 0} (r : Result A Fault) (f : A → Result B Fault) (y : B) → (r >>= f) ≡ Ok y → (x : A) × (r ≡ Ok x) × (f x ≡ Ok y)
bind_ok (Ok x) f y e = (x, refl, e)
bind_ok (Err d) f y e = absurd cc

pub same_ok : {A : Type 0} (x y : A) → (let r : Result A Fault = Ok x in let s : Result A Fault = Ok y in r ≡ s) → x ≡ y
same_ok x y e = cc

-- ---- members

object_is : (container : Path) (d h : Data) → as_container container d ≡ Ok h → tree.unless_null d ≡ Some h
object_is container null h e = absurd cc
object_is container (boolean b) h e = absurd cc
object_is container (number n) h e = absurd cc
object_is container (string s) h e = absurd cc
object_is container (array ds) h e = absurd cc
object_is container (object ms) h e = ap Some (same_ok (object ms) h e)

pub object_located : (member : Path) (name : List ℕ) (container : Path) (d h : Data) → object_at member name container d ≡ Ok h → tree.member_of name d ≡ Some h
object_located member name container d h e = each (get name d) e where
  each : (o : Option Data) → (there member o >>= as_container container) ≡ Ok h → tree.◌>>=◌ o tree.unless_null ≡ Some h
  each None f = absurd cc
  each (Some x) f = object_is container x h f

text_is : (member : Path) (d : Data) (s : List ℕ) → or_refuse (Malformed member NoText) (as_str d) ≡ Ok s → tree.◌>>=◌ (tree.unless_null d) as_str ≡ Some s
text_is member null s e = absurd cc
text_is member (boolean b) s e = absurd cc
text_is member (number n) s e = absurd cc
text_is member (string t) s e = ap Some (same_ok t s e)
text_is member (array ds) s e = absurd cc
text_is member (object ms) s e = absurd cc

pub text_located : (member : Path) (name : List ℕ) (d : Data) (s : List ℕ) → text_at member name d ≡ Ok s → tree.text_of name d ≡ Some s
text_located member name d s e = each (get name d) e where
  each : (o : Option Data) → (there member o >>= λ value. or_refuse (Malformed member NoText) (as_str value)) ≡ Ok s → tree.◌>>=◌ (tree.◌>>=◌ o tree.unless_null) as_str ≡ Some s
  each None f = absurd cc
  each (Some x) f = text_is member x s f

-- ---- hooks

-- the address and the action of a hook
pub record Subject (d : Data) (s : List ℕ × List ℕ) : Type 0 where
  pub address : address_of d ≡ Some s.0
  pub action : hook_text (codes "action") d ≡ Some s.1

same_subject : (x y : List ℕ × List ℕ) (a w : List ℕ) → (let r : Result (List ℕ × List ℕ) Fault = Ok (a, w) in let t : Result (List ℕ × List ℕ) Fault = Ok y in r ≡ t) → (a ≡ y.0) × (w ≡ y.1)
same_subject x y a w e = let same : (a, w) ≡ y = same_ok (a, w) y e in (ap (λ (p : List ℕ × List ℕ). p.0) same, ap (λ (p : List ℕ × List ℕ). p.1) same)

pub subject_located : (d hook : Data) (s : List ℕ × List ℕ) → object_at path.Address (codes "hook") path.Hook d ≡ Ok hook → subject_of hook ≡ Ok s → Subject d s
subject_located d hook s h e =
    let there = object_located path.Address (codes "hook") path.Hook d hook h in
    let b1 = bind_ok (object_at path.Address (codes "resource") path.Resource hook) _ s e in
    let b2 = bind_ok (text_at path.Address (codes "addr") b1.0) _ s b1.2 in
    let b3 = bind_ok (text_at path.Action (codes "action") hook) _ s b2.2 in
    let resource = object_located path.Address (codes "resource") path.Resource hook b1.0 b1.1 in
    let address = text_located path.Address (codes "addr") b1.0 b2.0 b2.1 in
    let action = text_located path.Action (codes "action") hook b3.0 b3.1 in
    let parts = same_subject s s b2.0 b3.0 b3.2 in
    record {
      address = rw (there, resource, address) (ap Some parts.0);
      action = rw (there, action) (ap Some parts.1);
    }

pub hook_address_located : (d : Data) (a : List ℕ) → hook_address_of d ≡ Ok a → address_of d ≡ Some a
hook_address_located d a e =
    let b1 = bind_ok (object_at path.Address (codes "hook") path.Hook d) _ a e in
    let b2 = bind_ok (object_at path.Address (codes "resource") path.Resource b1.0) _ a b1.2 in
    let hook = object_located path.Address (codes "hook") path.Hook d b1.0 b1.1 in
    let resource = object_located path.Address (codes "resource") path.Resource b1.0 b2.0 b2.1 in
    let address = text_located path.Address (codes "addr") b2.0 a b2.2 in
    rw (hook, resource) address
