-- In the logs of each collector no key of another stripe is known.
use Rattle.std.proofs.Common.{◌≡◌, ◌⊎◌, inl, inr, ℕ, Bool, true, false, if◌then◌else◌, nat_eq, List, [], ◌∷◌, refl, eq-eqb}
use Rattle.std.specs.List.{AllByRecursion}
use Rattle.std.proofs.lemmas.Bool.{eqb-true}
use Rattle.std.proofs.lemmas.List.Elements.{recursion_from_All}
use Rattle.qd_scheme.specs.declared.key.Key.{Key}
use Rattle.qd_scheme.specs.Stripes.{stripe_of}
use Rattle.qd_gate.specs.declared.machine.Entry.{Entry}
use Rattle.qd_sub.specs.declared.op.Op.{Op}
use Rattle.qd_sub.specs.declared.op.Reply.{Reply}
use Rattle.qd_sub.specs.declared.op.Reply.TheVariants.{Done, Items, Wants, TooManyKeys, TooManySubs, NoMemory}
use Rattle.qd_sub.specs.Acts.{Moment}
use Rattle.qd_sub.specs.Logs.{acts_of}
use Rattle.qd_hub.specs.Hubs.{op_keys, IsOfStripe}
use Rattle.qd_hub.specs.OfStripe.{AreOfStripe}
use Rattle.qd_hub.proofs.Staying.{AreSuch, done_such, given_such, told_such}

-- what a reply gives and tells is of such keys
abbrev pub GivesSuch : {T : Type 0} → (T → Key) → (Key → Type 0) → Reply T → Type 0
GivesSuch key Such Done = Unit {0}
GivesSuch key Such (Items given) = AllByRecursion (λ i. Such (key i)) given.items
GivesSuch key Such (Wants told) = AllByRecursion (λ x. Such x.key) told.items
GivesSuch key Such TooManyKeys = Unit {0}
GivesSuch key Such TooManySubs = Unit {0}
GivesSuch key Such NoMemory = Unit {0}

pub acts_such : {P T : Type 0} (key : P → Key) (gift_key : T → Key) (Such : Key → Type 0) (now : Moment P T) (op : Op P T) (reply : Reply T) → AllByRecursion Such (op_keys key op) → AreSuch key Such now → GivesSuch gift_key Such reply → AreSuch key Such (acts_of key gift_key now op reply)
acts_such key gift_key Such now op Done keys all gives = done_such key Such (λ s. 0) now op keys all
acts_such key gift_key Such now op (Items given) keys all gives = given_such key Such gift_key op given.items gives
acts_such key gift_key Such now op (Wants told) keys all gives = told_such key Such op told.items gives
acts_such key gift_key Such now op TooManyKeys keys all gives = tt
acts_such key gift_key Such now op TooManySubs keys all gives = tt
acts_such key gift_key Such now op NoMemory keys all gives = tt

pub if_gives : {T : Type 0} (key : T → Key) (Such : Key → Type 0) (b : Bool) (x y : Reply T) → GivesSuch key Such x → GivesSuch key Such y → GivesSuch key Such (if b then x else y)
if_gives key Such true x y gives too = gives
if_gives key Such false x y gives too = too

-- whether a key is of the stripe can be told
pub of_stripe : (stripes stripe : ℕ) (k : Key) → (stripe_of k stripes ≡ stripe) ⊎ ((stripe_of k stripes ≡ stripe) → ⊥)
of_stripe stripes stripe k = go (nat_eq (stripe_of k stripes) stripe) refl
  where
    go : (b : Bool) → nat_eq (stripe_of k stripes) stripe ≡ b → (stripe_of k stripes ≡ stripe) ⊎ ((stripe_of k stripes ≡ stripe) → ⊥)
    go true e = inl (eqb-true (stripe_of k stripes) stripe e)
    go false e = inr (λ same. let t = eq-eqb (stripe_of k stripes) stripe same in cc)

-- the keys of each op, by recursion
pub keys_by : {P T R : Type 0} (key : P → Key) (stripes stripe : ℕ) (log : List (Entry (Op P T) R)) → AreOfStripe key stripes stripe log → AllByRecursion (λ (e : Entry (Op P T) R). AllByRecursion (λ k. stripe_of k stripes ≡ stripe) (op_keys key e.op)) log
keys_by {P} {T} {R} key stripes stripe log all = go log (recursion_from_All (λ (e : Entry (Op P T) R). IsOfStripe key stripes stripe e.op) log all)
  where
    go : (es : List (Entry (Op P T) R)) → AllByRecursion (λ (e : Entry (Op P T) R). IsOfStripe key stripes stripe e.op) es → AllByRecursion (λ (e : Entry (Op P T) R). AllByRecursion (λ k. stripe_of k stripes ≡ stripe) (op_keys key e.op)) es
    go [] none = tt
    go (e ∷ es) each = (recursion_from_All (λ k. stripe_of k stripes ≡ stripe) (op_keys key e.op) each.0, go es each.1)
