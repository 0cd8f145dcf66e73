-- What is owed by slots and by keys, where slots have the keys of a table.
use Rattle.std.proofs.Common.{◌≡◌, ℕ, ◌+◌, Bool, true, false, ◌||◌, if◌then◌else◌, nat_eq, nat_lt, List, [], ◌∷◌, ◌++◌, length, map, drop, refl, ap, sym, ◌∙◌, inl, inr}
use Rattle.std.specs.Prelude.{min, All, Option, Some, is_some}
use Rattle.std.specs.List.{list_any}
use Rattle.std.proofs.lemmas.Bool.{eqb-true}
use Rattle.std.proofs.lemmas.List.Elements.{All-nil, All-head, All-tail, All-cons, All-push, All-drop}
use Rattle.std.proofs.lemmas.List.Folds.{list_any-append}
use Rattle.qd_scheme.specs.declared.key.Key.{Key}
use Rattle.qd_scheme.specs.Keys.{key_eq}
use Rattle.qd_scheme.proofs.KeyLaws.{key_eq-same, key_eq-true}
use Rattle.qd_sub.proofs.SinceLaws.{same_number}
use Rattle.qd_table.specs.Tables.{Table, key_at, slot_for}
use Rattle.qd_table.specs.Sound.{IsSound}
use Rattle.qd_table.proofs.TableLaws.{or-left, or-right, or-cases, same-truth, true-false, some-same, some-from}
use Rattle.qd_stream.specs.declared.outbox.Waiting.{Waiting}
use Rattle.qd_stream.specs.declared.outbox.SlotLoss.{SlotLoss}
use Rattle.qd_stream.specs.Items.{key_of_item, weight}
use Rattle.qd_stream.specs.Owed.{Loss, Owed, owes, is_lost}
use Rattle.qd_stream.specs.Outboxes as boxes
use Rattle.qd_stream.specs.Outboxes.{Outstanding, has_lost, has_waiting, with_lost, with_first_lost, with_waiting, owes_slot, raised}
use Rattle.qd_stream.specs.Keyed.{named, keyed, IsLabelled, IsNamed}
use Rattle.qd_stream.specs.Stripes.{key_or, name_in, is_named}

-- an item more waits: its slot is owed, and all that were
has-raised : (lost : List SlotLoss) (slot more i : ℕ) → has_lost (map (raised slot more) lost) i ≡ has_lost lost i
has-raised [] slot more i = refl
has-raised (l ∷ ls) slot more i = ap (λ b. b || has_lost (map (raised slot more) ls) i) (one l) ∙ ap (λ b. nat_eq i l.slot || b) (has-raised ls slot more i)
  where
    one : (l : SlotLoss) → nat_eq i (raised slot more l).slot ≡ nat_eq i l.slot
    one l = elim (nat_eq slot l.slot) as (λ c. nat_eq i (let r : SlotLoss = if c then record { slot = l.slot; count = min (l.count + more) 18446744073709551615 } else l in r.slot) ≡ nat_eq i l.slot) [ true ↦ refl | false ↦ refl ]

has-more : (lost : List SlotLoss) (slot i : ℕ) → has_lost lost slot ≡ true → nat_eq i slot ≡ true → has_lost lost i ≡ true
has-more lost slot i h e = ap (has_lost lost) (eqb-true i slot e) ∙ h

shuffle : (a b c : Bool) → (a || (b || false)) ≡ (b || a)
shuffle true true c = refl
shuffle true false c = refl
shuffle false true c = refl
shuffle false false c = refl

pub lost-more : (lost : List SlotLoss) (slot more i : ℕ) → has_lost (with_lost lost slot more) i ≡ (nat_eq i slot || has_lost lost i)
unfolding with_lost
lost-more lost slot more i =
    let new : SlotLoss = record { slot = slot; count = min more 18446744073709551615 } in
    let go : (c d : Bool) → has_lost lost slot ≡ c → nat_eq i slot ≡ d → has_lost (if c then map (raised slot more) lost else lost ++ new ∷ []) i ≡ (d || has_lost lost i) =
    elim [
      | true ↦ elim [
        | true ↦ λ e f. has-raised lost slot more i ∙ has-more lost slot i e f
        | false ↦ λ e f. has-raised lost slot more i
      ]
      | false ↦ λ d e f. list_any-append (λ (l : SlotLoss). nat_eq i l.slot) lost (new ∷ []) ∙ shuffle (has_lost lost i) (nat_eq i slot) true ∙ ap (λ b. b || has_lost lost i) f
    ] in
    go (has_lost lost slot) (nat_eq i slot) refl refl

waiting-more : (ws : List Waiting) (w : Waiting) (i : ℕ) → has_waiting (ws ++ w ∷ []) i ≡ (nat_eq i w.slot || has_waiting ws i)
waiting-more ws w i = list_any-append (λ (v : Waiting). nat_eq i v.slot) ws (w ∷ []) ∙ shuffle (has_waiting ws i) (nat_eq i w.slot) true

swap-first : (l a b c : Bool) → ((b || l) || (a || c)) ≡ (a || (l || (b || c)))
swap-first true true true c = refl
swap-first true true false c = refl
swap-first true false true c = refl
swap-first true false false c = refl
swap-first false true true c = refl
swap-first false true false c = refl
swap-first false false true c = refl
swap-first false false false c = refl

swap-none : (l a : Bool) → ((a || l) || false) ≡ (a || (l || false))
swap-none true true = refl
swap-none true false = refl
swap-none false true = refl
swap-none false false = refl

swap-more : (l a c : Bool) → (l || (a || c)) ≡ (a || (l || c))
swap-more true true c = refl
swap-more true false c = refl
swap-more false true c = refl
swap-more false false c = refl

over-owes : (lost : List SlotLoss) (ws : List Waiting) (w : Waiting) (i : ℕ) → (has_lost (with_first_lost lost (ws ++ w ∷ [])) i || has_waiting (drop 1 (ws ++ w ∷ [])) i) ≡ (nat_eq i w.slot || (has_lost lost i || has_waiting ws i))
over-owes lost [] w i = ap (λ b. b || false) (lost-more lost w.slot (weight w.item) i) ∙ swap-none (has_lost lost i) (nat_eq i w.slot)
over-owes lost (v ∷ vs) w i =
    ap (λ b. b || has_waiting (vs ++ w ∷ []) i) (lost-more lost v.slot (weight v.item) i)
    ∙ ap (λ b. (nat_eq i v.slot || has_lost lost i) || b) (waiting-more vs w i)
    ∙ swap-first (has_lost lost i) (nat_eq i w.slot) (nat_eq i v.slot) (has_waiting vs i)

pub waiting-owes : (o : Outstanding) (w : Waiting) (i : ℕ) → owes_slot (with_waiting o w) i ≡ (nat_eq i w.slot || owes_slot o i)
unfolding with_waiting
waiting-owes o w i =
    let fits : Outstanding = record { cap = o.cap; items = o.items ++ w ∷ []; lost = o.lost; slots = o.slots } in
    let over : Outstanding = record { cap = o.cap; items = drop 1 (o.items ++ w ∷ []); lost = with_first_lost o.lost (o.items ++ w ∷ []); slots = o.slots } in
    elim (nat_lt (length o.items) o.cap) as (λ (c : Bool). owes_slot (if c then fits else over) i ≡ (nat_eq i w.slot || owes_slot o i)) [
      | true ↦ ap (λ b. has_lost o.lost i || b) (waiting-more o.items w i) ∙ swap-more (has_lost o.lost i) (nat_eq i w.slot) (has_waiting o.items i)
      | false ↦ over-owes o.lost o.items w i
    ]

module _ (name : ℕ → Key) (used : ℕ → Bool) where
  abbrev Labelled : List Waiting → Type 0
  Labelled ws = All (IsLabelled name used) ws

  abbrev AllUsed : List SlotLoss → Type 0
  AllUsed lost = All (λ (l : SlotLoss). used l.slot ≡ true) lost

  waiting-used : (ws : List Waiting) (i : ℕ) → Labelled ws → has_waiting ws i ≡ true → used i ≡ true
  waiting-used [] i all h = cc
  waiting-used (w ∷ ws) i all h =
      elim (or-cases (nat_eq i w.slot) (has_waiting ws i) h) [
        | inl e ↦ ap used (eqb-true i w.slot e) ∙ (All-head (IsLabelled name used) w ws all).1
        | inr t ↦ waiting-used ws i (All-tail (IsLabelled name used) w ws all) t
      ]

  lost-used : (lost : List SlotLoss) (i : ℕ) → AllUsed lost → has_lost lost i ≡ true → used i ≡ true
  lost-used [] i all h = cc
  lost-used (l ∷ ls) i all h =
      elim (or-cases (nat_eq i l.slot) (has_lost ls i) h) [
        | inl e ↦ ap used (eqb-true i l.slot e) ∙ All-head (λ (x : SlotLoss). used x.slot ≡ true) l ls all
        | inr t ↦ lost-used ls i (All-tail (λ (x : SlotLoss). used x.slot ≡ true) l ls all) t
      ]

  -- what is owed is of slots in use
  pub owes-used : (o : Outstanding) (i : ℕ) → IsNamed name used o → owes_slot o i ≡ true → used i ≡ true
  owes-used o i n h =
      elim (or-cases (has_lost o.lost i) (has_waiting o.items i) h) [
        | inl t ↦ lost-used o.lost i n.lost t
        | inr t ↦ waiting-used o.items i n.items t
      ]

  items-named : (apart : (s t : ℕ) → used s ≡ true → used t ≡ true → key_eq (name s) (name t) ≡ nat_eq s t) (ws : List Waiting) (i : ℕ) → used i ≡ true → Labelled ws →
      list_any (λ j. key_eq (name i) (key_of_item j)) (map (λ (w : Waiting). w.item) ws) ≡ has_waiting ws i
  items-named apart [] i u all = refl
  items-named apart (w ∷ ws) i u all =
      let label = All-head (IsLabelled name used) w ws all in
      λ p. (ap (key_eq (name i)) label.0 ∙ apart i w.slot u label.1) p || items-named apart ws i u (All-tail (IsLabelled name used) w ws all) p

  lost-named : (apart : (s t : ℕ) → used s ≡ true → used t ≡ true → key_eq (name s) (name t) ≡ nat_eq s t) (lost : List SlotLoss) (i : ℕ) → used i ≡ true → AllUsed lost →
      is_lost (map (named name) lost) (name i) ≡ has_lost lost i
  lost-named apart [] i u all = refl
  lost-named apart (l ∷ ls) i u all = λ p. apart i l.slot u (All-head (λ (x : SlotLoss). used x.slot ≡ true) l ls all) p || lost-named apart ls i u (All-tail (λ (x : SlotLoss). used x.slot ≡ true) l ls all) p

  -- what is owed of a slot in use is owed of its key
  pub owes-named : (o : Outstanding) (i : ℕ) → IsNamed name used o → used i ≡ true → owes (keyed name o) (name i) ≡ owes_slot o i
  unfolding keyed
  owes-named o i n u = λ p. lost-named n.apart o.lost i u n.lost p || items-named n.apart o.items i u n.items p

  waiting-found : (ws : List Waiting) (k : Key) → Labelled ws → list_any (λ j. key_eq k (key_of_item j)) (map (λ (w : Waiting). w.item) ws) ≡ true → (i : ℕ) × (has_waiting ws i ≡ true) × (k ≡ name i)
  waiting-found [] k all h = absurd (true-false (sym h))
  waiting-found (w ∷ ws) k all h =
      elim (or-cases (key_eq k (key_of_item w.item)) (list_any (λ j. key_eq k (key_of_item j)) (map (λ (v : Waiting). v.item) ws)) h) [
        | inl e ↦ (w.slot, or-left (nat_eq w.slot w.slot) (has_waiting ws w.slot) (same_number w.slot), key_eq-true k (key_of_item w.item) e ∙ (All-head (IsLabelled name used) w ws all).0)
        | inr t ↦ (let f = waiting-found ws k (All-tail (IsLabelled name used) w ws all) t in (f.0, or-right (nat_eq f.0 w.slot) (has_waiting ws f.0) f.1, f.2))
      ]

  lost-found : (lost : List SlotLoss) (k : Key) → is_lost (map (named name) lost) k ≡ true → (i : ℕ) × (has_lost lost i ≡ true) × (k ≡ name i)
  lost-found [] k h = absurd (true-false (sym h))
  lost-found (l ∷ ls) k h =
      elim (or-cases (key_eq k (name l.slot)) (is_lost (map (named name) ls) k) h) [
        | inl e ↦ (l.slot, or-left (nat_eq l.slot l.slot) (has_lost ls l.slot) (same_number l.slot), key_eq-true k (name l.slot) e)
        | inr t ↦ (let f = lost-found ls k t in (f.0, or-right (nat_eq f.0 l.slot) (has_lost ls f.0) f.1, f.2))
      ]

  -- what is owed of a key is owed of its slot
  pub owes-found : (o : Outstanding) (k : Key) → IsNamed name used o → owes (keyed name o) k ≡ true → (i : ℕ) × (owes_slot o i ≡ true) × (k ≡ name i)
  unfolding keyed
  owes-found o k n h =
      elim (or-cases (is_lost (map (named name) o.lost) k) (list_any (λ j. key_eq k (key_of_item j)) (map (λ (w : Waiting). w.item) o.items)) h) [
        | inl t ↦ (let f = lost-found o.lost k t in (f.0, or-left (has_lost o.lost f.0) (has_waiting o.items f.0) f.1, f.2))
        | inr t ↦ (let f = waiting-found o.items k n.items t in (f.0, or-right (has_lost o.lost f.0) (has_waiting o.items f.0) f.1, f.2))
      ]

  -- where two owe the same of a slot, they owe the same of its key
  pub owes-agree : (o p : Outstanding) (k : Key) → IsNamed name used o → IsNamed name used p → ((i : ℕ) → k ≡ name i → owes_slot o i ≡ owes_slot p i) → owes (keyed name o) k ≡ owes (keyed name p) k
  owes-agree o p k n m same =
      same-truth (owes (keyed name o) k) (owes (keyed name p) k)
      (λ t. let f = owes-found o k n t in ap (owes (keyed name p)) f.2 ∙ owes-named p f.0 m (owes-used o f.0 n f.1) ∙ sym (same f.0 f.2) ∙ f.1)
      (λ t. let f = owes-found p k m t in ap (owes (keyed name o)) f.2 ∙ owes-named o f.0 n (owes-used p f.0 m f.1) ∙ same f.0 f.2 ∙ f.1)

  used-lost : (lost : List SlotLoss) (slot more : ℕ) → used slot ≡ true → AllUsed lost → AllUsed (with_lost lost slot more)
  unfolding with_lost
  used-lost lost slot more u all =
      let new : SlotLoss = record { slot = slot; count = min more 18446744073709551615 } in
      elim (has_lost lost slot) as (λ (c : Bool). AllUsed (if c then map (raised slot more) lost else lost ++ new ∷ [])) [
        | true ↦ used-raised lost all
        | false ↦ All-push (λ (x : SlotLoss). used x.slot ≡ true) lost new all u
      ]
    where
      one : (l : SlotLoss) → used l.slot ≡ true → used (raised slot more l).slot ≡ true
      one l h = elim (nat_eq slot l.slot) as (λ (c : Bool). used (let r : SlotLoss = if c then record { slot = l.slot; count = min (l.count + more) 18446744073709551615 } else l in r.slot) ≡ true) [ true ↦ h | false ↦ h ]

      used-raised : (ls : List SlotLoss) → AllUsed ls → AllUsed (map (raised slot more) ls)
      used-raised [] all = all
      used-raised (l ∷ ls) all = All-cons (λ (x : SlotLoss). used x.slot ≡ true) (raised slot more l) (map (raised slot more) ls) (one l (All-head (λ (x : SlotLoss). used x.slot ≡ true) l ls all)) (used-raised ls (All-tail (λ (x : SlotLoss). used x.slot ≡ true) l ls all))

  used-first : (lost : List SlotLoss) (ws : List Waiting) → Labelled ws → AllUsed lost → AllUsed (with_first_lost lost ws)
  used-first lost [] labels all = all
  used-first lost (w ∷ ws) labels all = used-lost lost w.slot (weight w.item) (All-head (IsLabelled name used) w ws labels).1 all

  -- one item more, and one loss or item less, are of slots in use
  pub named-waiting : (o : Outstanding) (w : Waiting) → IsNamed name used o → IsLabelled name used w → IsNamed name used (with_waiting o w)
  unfolding with_waiting
  named-waiting o w n label =
      let more = All-push (IsLabelled name used) o.items w n.items label in
      let fits : Outstanding = record { cap = o.cap; items = o.items ++ w ∷ []; lost = o.lost; slots = o.slots } in
      let over : Outstanding = record { cap = o.cap; items = drop 1 (o.items ++ w ∷ []); lost = with_first_lost o.lost (o.items ++ w ∷ []); slots = o.slots } in
      elim (nat_lt (length o.items) o.cap) as (λ (c : Bool). IsNamed name used (if c then fits else over)) [
        | true ↦ record { items = more; lost = n.lost; apart = n.apart }
        | false ↦ record { items = All-drop (IsLabelled name used) 1 (o.items ++ w ∷ []) more; lost = used-first o.lost (o.items ++ w ∷ []) more n.lost; apart = n.apart }
      ]

  pub named-reported : (o : Outstanding) → IsNamed name used o → IsNamed name used (boxes.without_first_loss o)
  named-reported o n = record { items = n.items; lost = All-drop (λ (x : SlotLoss). used x.slot ≡ true) 1 o.lost n.lost; apart = n.apart }

  pub named-given : (o : Outstanding) → IsNamed name used o → IsNamed name used (boxes.with_items o (drop 1 o.items))
  named-given o n = record { items = All-drop (IsLabelled name used) 1 o.items n.items; lost = n.lost; apart = n.apart }

  -- room changes nothing
  pub named-room : (o : Outstanding) (slots : ℕ) → IsNamed name used o → IsNamed name used (record { cap = o.cap; items = o.items; lost = o.lost; slots = slots })
  named-room o slots n = record { items = n.items; lost = n.lost; apart = n.apart }

  pub named-empty : (cap : ℕ) → ((s t : ℕ) → used s ≡ true → used t ≡ true → key_eq (name s) (name t) ≡ nat_eq s t) → IsNamed name used (boxes.empty_for cap)
  named-empty cap apart = record { items = All-nil (IsLabelled name used); lost = All-nil (λ (x : SlotLoss). used x.slot ≡ true); apart = apart }

-- different slots of a table have different keys
pub apart-table : (t : Table) → IsSound t → (s u : ℕ) → is_named t s ≡ true → is_named t u ≡ true → key_eq (name_in t s) (name_in t u) ≡ nat_eq s u
apart-table t sound s u h g =
    let k = some-from (key_at t s) h in
    let j = some-from (key_at t u) g in
    same-truth (key_eq (name_in t s) (name_in t u)) (nat_eq s u)
    (λ e. let same : k.0 ≡ j.0 = sym (ap key_or k.1) ∙ key_eq-true (name_in t s) (name_in t u) e ∙ ap key_or j.1 in
    let at : (let a : Option ℕ = Some s in let b : Option ℕ = Some u in a ≡ b) = sym (sound.found s k.0 k.1) ∙ ap (slot_for t) same ∙ sound.found u j.0 j.1 in
    ap (nat_eq s) (sym (some-same s u at)) ∙ same_number s)
    (λ e. ap (λ n. key_eq (name_in t s) (name_in t n)) (sym (eqb-true s u e)) ∙ key_eq-same (name_in t s))

-- the name of a slot that has this key
pub name-is : (t : Table) (slot : ℕ) (k : Key) → key_at t slot ≡ Some k → (name_in t slot ≡ k) × (is_named t slot ≡ true)
name-is t slot k h = (ap key_or h, ap is_some h)

-- where the slots that are owed keep their keys, the same is owed by keys
module _ (t u : Table) where
  renamed-items : (ws : List Waiting) → All (IsLabelled (name_in t) (is_named t)) ws → ((i : ℕ) → has_waiting ws i ≡ true → key_at u i ≡ key_at t i) → All (IsLabelled (name_in u) (is_named u)) ws
  renamed-items [] all same = All-nil (IsLabelled (name_in u) (is_named u))
  renamed-items (w ∷ ws) all same =
      let label = All-head (IsLabelled (name_in t) (is_named t)) w ws all in
      let e = same w.slot (or-left (nat_eq w.slot w.slot) (has_waiting ws w.slot) (same_number w.slot)) in
      All-cons (IsLabelled (name_in u) (is_named u)) w ws (label.0 ∙ sym (ap key_or e), ap is_some e ∙ label.1)
      (renamed-items ws (All-tail (IsLabelled (name_in t) (is_named t)) w ws all) (λ i h. same i (or-right (nat_eq i w.slot) (has_waiting ws i) h)))

  renamed-lost : (lost : List SlotLoss) → All (λ (l : SlotLoss). is_named t l.slot ≡ true) lost → ((i : ℕ) → has_lost lost i ≡ true → key_at u i ≡ key_at t i) → All (λ (l : SlotLoss). is_named u l.slot ≡ true) lost × (map (named (name_in u)) lost ≡ map (named (name_in t)) lost)
  renamed-lost [] all same = (All-nil (λ (l : SlotLoss). is_named u l.slot ≡ true), refl)
  renamed-lost (l ∷ ls) all same =
      let e = same l.slot (or-left (nat_eq l.slot l.slot) (has_lost ls l.slot) (same_number l.slot)) in
      let rest = renamed-lost ls (All-tail (λ (x : SlotLoss). is_named t x.slot ≡ true) l ls all) (λ i h. same i (or-right (nat_eq i l.slot) (has_lost ls i) h)) in (
        All-cons (λ (x : SlotLoss). is_named u x.slot ≡ true) l ls (ap is_some e ∙ All-head (λ (x : SlotLoss). is_named t x.slot ≡ true) l ls all) rest.0,
        λ p. let one : Loss = record { key = ap key_or e p; count = l.count } in one ∷ rest.1 p,
      )

  pub renamed : (o : Outstanding) → IsNamed (name_in t) (is_named t) o → IsSound u → ((i : ℕ) → owes_slot o i ≡ true → key_at u i ≡ key_at t i) → IsNamed (name_in u) (is_named u) o × (keyed (name_in u) o ≡ keyed (name_in t) o)
  unfolding keyed
  renamed o n sound same =
      let lost = renamed-lost o.lost n.lost (λ i h. same i (or-left (has_lost o.lost i) (has_waiting o.items i) h)) in (
        record { items = renamed-items o.items n.items (λ i h. same i (or-right (has_lost o.lost i) (has_waiting o.items i) h)); lost = lost.0; apart = apart-table u sound },
        λ p. let r : Owed = record { items = map (λ (w : Waiting). w.item) o.items; lost = lost.1 p } in r,
      )
