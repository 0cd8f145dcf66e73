-- What the calls of an outbox do to what is owed by keys.
use Rattle.std.proofs.Common.{◌≡◌, ℕ, ◌+◌, Bool, true, false, ◌||◌, if◌then◌else◌, nat_eq, nat_lt, List, [], ◌∷◌, ◌++◌, length, map, drop, refl, ap, sym, ◌∙◌, arith}
use Rattle.std.specs.Prelude.{min, All}
use Rattle.std.proofs.lemmas.List.Elements.{All-head, All-tail, All-push}
use Rattle.qd_scheme.specs.declared.key.Key.{Key}
use Rattle.qd_scheme.specs.Keys.{key_eq}
use Rattle.qd_stream.specs.declared.outbox.Waiting.{Waiting}
use Rattle.qd_stream.specs.declared.outbox.SlotLoss.{SlotLoss}
use Rattle.qd_stream.specs.Items.{weight}
use Rattle.qd_stream.specs.Owed.{Loss, Owed, is_lost, raised, with_loss, with_first_lost, with_item}
use Rattle.qd_stream.specs.Outboxes as boxes
use Rattle.qd_stream.specs.Outboxes.{Outstanding, has_lost, with_lost, with_waiting}
use Rattle.qd_stream.specs.Keyed.{named, keyed, IsLabelled, IsNamed}

items-end : (ws : List Waiting) (w : Waiting) → map (λ (v : Waiting). v.item) (ws ++ w ∷ []) ≡ map (λ (v : Waiting). v.item) ws ++ w.item ∷ []
items-end [] w = refl
items-end (v ∷ ws) w = ap (λ is. v.item ∷ is) (items-end ws w)

items-length : (ws : List Waiting) → length (map (λ (v : Waiting). v.item) ws) ≡ length ws
items-length [] = refl
items-length (w ∷ ws) = let rest = items-length ws in omega arith

items-rest : (ws : List Waiting) → map (λ (v : Waiting). v.item) (drop 1 ws) ≡ drop 1 (map (λ (v : Waiting). v.item) ws)
items-rest [] = refl
items-rest (w ∷ ws) = refl

module _ (name : ℕ → Key) (used : ℕ → Bool) (apart : (s t : ℕ) → used s ≡ true → used t ≡ true → key_eq (name s) (name t) ≡ nat_eq s t) where
  lost-named : (lost : List SlotLoss) (slot : ℕ) → used slot ≡ true → All (λ l. used l.slot ≡ true) lost → is_lost (map (named name) lost) (name slot) ≡ has_lost lost slot
  lost-named [] slot u all = refl
  lost-named (l ∷ ls) slot u all = λ i. apart slot l.slot u (All-head (λ (x : SlotLoss). used x.slot ≡ true) l ls all) i || lost-named ls slot u (All-tail (λ (x : SlotLoss). used x.slot ≡ true) l ls all) i

  raised-named : (lost : List SlotLoss) (slot more : ℕ) → used slot ≡ true → All (λ l. used l.slot ≡ true) lost → map (named name) (map (boxes.raised slot more) lost) ≡ map (raised (name slot) more) (map (named name) lost)
  raised-named [] slot more u all = refl
  raised-named (l ∷ ls) slot more u all =
      let up : Loss = record { key = name l.slot; count = min (l.count + more) 18446744073709551615 } in
      let still : Loss = record { key = name l.slot; count = l.count } in
      let one : named name (boxes.raised slot more l) ≡ raised (name slot) more (named name l) = pick (nat_eq slot l.slot) up still ∙ ap (λ b. if b then up else still) (sym (apart slot l.slot u (All-head (λ (x : SlotLoss). used x.slot ≡ true) l ls all))) in
      λ i. one i ∷ raised-named ls slot more u (All-tail (λ (x : SlotLoss). used x.slot ≡ true) l ls all) i
    where
      pick : (b : Bool) (up still : Loss) → named name (if b then record { slot = l.slot; count = min (l.count + more) 18446744073709551615 } else l) ≡ (if b then record { key = name l.slot; count = min (l.count + more) 18446744073709551615 } else record { key = name l.slot; count = l.count })
      pick true up still = refl
      pick false up still = refl

  lost-end : (lost : List SlotLoss) (l : SlotLoss) → map (named name) (lost ++ l ∷ []) ≡ map (named name) lost ++ named name l ∷ []
  lost-end [] l = refl
  lost-end (x ∷ xs) l = ap (λ ls. named name x ∷ ls) (lost-end xs l)

  -- so many more of a key are lost
  abbrev with_key : List Loss → Key → ℕ → List Loss
  with_key lost k more = if is_lost lost k then map (raised k more) lost else lost ++ record { key = k; count = min more 18446744073709551615 } ∷ []

  key-named : (lost : List SlotLoss) (slot more : ℕ) → used slot ≡ true → All (λ l. used l.slot ≡ true) lost → map (named name) (with_lost lost slot more) ≡ with_key (map (named name) lost) (name slot) more
  unfolding with_lost
  key-named lost slot more u all =
      let there = lost-named lost slot u all in
      let go : (c : Bool) → has_lost lost slot ≡ c → map (named name) (if c then map (boxes.raised slot more) lost else lost ++ record { slot = slot; count = min more 18446744073709551615 } ∷ []) ≡ (if c then map (raised (name slot) more) (map (named name) lost) else map (named name) lost ++ record { key = name slot; count = min more 18446744073709551615 } ∷ []) =
      elim [
        | true ↦ λ e. raised-named lost slot more u all
        | false ↦ λ e. lost-end lost (record { slot = slot; count = min more 18446744073709551615 })
      ] in
      go (has_lost lost slot) refl ∙ ap (λ b. if b then map (raised (name slot) more) (map (named name) lost) else map (named name) lost ++ record { key = name slot; count = min more 18446744073709551615 } ∷ []) (sym there)

  -- an item more is lost
  loss-named : (lost : List SlotLoss) (w : Waiting) → IsLabelled name used w → All (λ l. used l.slot ≡ true) lost → map (named name) (with_lost lost w.slot (weight w.item)) ≡ with_loss (map (named name) lost) w.item
  unfolding with_loss
  loss-named lost w label all = key-named lost w.slot (weight w.item) label.1 all ∙ ap (λ k. with_key (map (named name) lost) k (weight w.item)) (sym label.0)

  first-named : (lost : List SlotLoss) (ws : List Waiting) → All (IsLabelled name used) ws → All (λ l. used l.slot ≡ true) lost → map (named name) (boxes.with_first_lost lost ws) ≡ with_first_lost (map (named name) lost) (map (λ (v : Waiting). v.item) ws)
  first-named lost [] labels all = refl
  first-named lost (w ∷ ws) labels all = loss-named lost w (All-head (IsLabelled name used) w ws labels) all

  -- an item more waits
  pub keyed-waiting : (o : Outstanding) (w : Waiting) → IsNamed name used o → IsLabelled name used w → keyed name (with_waiting o w) ≡ with_item o.cap (keyed name o) w.item
  unfolding keyed with_waiting with_item
  keyed-waiting o w n label =
      let size = items-length o.items in
      let more = items-end o.items w in
      let fits : Owed = record { items = map (λ (v : Waiting). v.item) o.items ++ w.item ∷ []; lost = map (named name) o.lost } in
      let over : Owed = record { items = drop 1 (map (λ (v : Waiting). v.item) o.items ++ w.item ∷ []); lost = with_first_lost (map (named name) o.lost) (map (λ (v : Waiting). v.item) o.items ++ w.item ∷ []) } in
      let go : (c : Bool) → nat_lt (length o.items) o.cap ≡ c → keyed name (if c then record { cap = o.cap; items = o.items ++ w ∷ []; lost = o.lost; slots = o.slots } else record { cap = o.cap; items = drop 1 (o.items ++ w ∷ []); lost = boxes.with_first_lost o.lost (o.items ++ w ∷ []); slots = o.slots }) ≡ (if c then fits else over) =
      elim [
        | true ↦ λ e. λ i. let v : Owed = record { items = more i; lost = map (named name) o.lost } in v
        | false ↦ λ e. λ i. let v : Owed = record {
          items = (items-rest (o.items ++ w ∷ []) ∙ ap (drop 1) more) i;
          lost = (first-named o.lost (o.items ++ w ∷ []) (All-push (IsLabelled name used) o.items w n.items label) n.lost ∙ ap (with_first_lost (map (named name) o.lost)) more) i;
        } in v
      ] in
      go (nat_lt (length o.items) o.cap) refl ∙ ap (λ n. if nat_lt n o.cap then fits else over) (sym size)

  -- the first loss is taken out, and the first item
  pub keyed-reported : (o : Outstanding) → keyed name (boxes.without_first_loss o) ≡ record { items = (keyed name o).items; lost = drop 1 (keyed name o).lost }
  unfolding keyed
  keyed-reported o = λ i. let v : Owed = record { items = map (λ (w : Waiting). w.item) o.items; lost = rest o.lost i } in v
    where
      rest : (lost : List SlotLoss) → map (named name) (drop 1 lost) ≡ drop 1 (map (named name) lost)
      rest [] = refl
      rest (l ∷ ls) = refl

  pub keyed-given : (o : Outstanding) → keyed name (boxes.with_items o (drop 1 o.items)) ≡ record { items = drop 1 (keyed name o).items; lost = (keyed name o).lost }
  unfolding keyed
  keyed-given o = λ i. let v : Owed = record { items = items-rest o.items i; lost = map (named name) o.lost } in v
