-- What each act of a log does to the past that a stripe stands for.
use Rattle.std.proofs.Common.{◌≡◌, ℕ, suc, zero, ◌<◌, Bool, true, false, ◌||◌, if◌then◌else◌, nat_eq, List, [], ◌∷◌, ◌++◌, length, map, drop, take, refl, ap, sym, ◌∙◌, subst, arith, length-set, ◌⊎◌, inl, inr}
use Rattle.std.specs.Prelude.{Option, Some, None, slice_get}
use Rattle.std.specs.Option.{option_map}
use Rattle.std.proofs.lemmas.Bool.{eqb-true}
use Rattle.std.proofs.Math.ListN.{get_or}
use Rattle.qd_scheme.specs.declared.key.Key.{Key}
use Rattle.qd_sub.specs.Acts.{Subscribed, Unsubscribed, Came, Gave}
use Rattle.qd_sub.specs.Subscriptions.{subscribed}
use Rattle.qd_sub.proofs.SinceLaws.{same_number}
use Rattle.qd_slots.specs.Holds.{is_subscribed}
use Rattle.qd_table.specs.Tables.{Table, key_at, slot_for, hold_for}
use Rattle.qd_table.specs.Steps.{IsSubscribed}
use Rattle.qd_table.proofs.TableLaws.{or-left, or-right, true-false, some-none, some-from, key_at-found}
use Rattle.qd_table.proofs.StandLaws.{subscribed-table, subscribed-absent}
use Rattle.qd_stream.specs.declared.item.StreamItem.{StreamItem}
use Rattle.qd_stream.specs.declared.item.StreamItem.TheVariants.{Lost}
use Rattle.qd_stream.specs.declared.outbox.Waiting.{Waiting}
use Rattle.qd_stream.specs.declared.outbox.SlotLoss.{SlotLoss}
use Rattle.qd_stream.specs.Items.{key_of_item}
use Rattle.qd_stream.specs.Waiting.{StreamMoment}
use Rattle.qd_stream.specs.Owed.{Loss, Owed, nothing, report, first_owed, IsOwed, with_item}
use Rattle.qd_stream.specs.Outboxes as outboxes
use Rattle.qd_stream.specs.Outboxes.{Outstanding, with_waiting, without_first_loss, first_of, owes_slot, has_lost, has_waiting, empty_for}
use Rattle.qd_stream.specs.Keyed.{named, keyed, IsNamed, IsLabelled}
use Rattle.qd_stream.specs.Boxes.{Boxes, box_at, with_box}
use Rattle.qd_stream.specs.Stripes.{Shown, key_or, name_in, is_named, owed_in, Agrees, StandsAt}
use Rattle.qd_stream.specs.Steps.{IsEndedAt, PutsAt, IsSettled, GivesItem, GivesFirst, Gives}
use Rattle.qd_stream.proofs.OwedLaws.{owed-sub, owed-unsub, owed-came, owed-unmatched, owed-gave_other, owed-reported, owed-given}
use Rattle.qd_stream.proofs.KeyedLaws.{keyed-waiting}
use Rattle.qd_stream.proofs.NamedLaws.{owes-used, named-reported, named-given, name-is}
use Rattle.qd_stream.proofs.BoxLaws.{waiting-cap}
use Rattle.qd_stream.proofs.ReadyLaws.{box-same, box-other}
use Rattle.qd_stream.proofs.AgreeLaws.{of, Less, Settles, agrees-sub, agrees-end, agrees-came, agrees-gave, agrees-push, agrees-settle}

-- the same table and outboxes
pub by-boxes : (new : Shown) (boxes : Boxes) → new.boxes ≡ boxes → of new.table boxes ≡ new
by-boxes new boxes e = λ i. let x : Shown = record { table = new.table; boxes = sym e i } in x

-- an agent was subscribed to a key
pub stands-sub : (s : Shown) (t : Table) (now : StreamMoment) (a : ℕ) (k : Key) (slot : ℕ) → a < 128 → StandsAt s now → IsSubscribed s.table a k 0 slot t → StandsAt (of t s.boxes) (Subscribed a k 0 ∷ now)
stands-sub s t now a k slot below st e =
    let same = agrees-sub s t now a k slot below st.agrees e in
    record {
      agrees = same.agrees;
      owed = λ b. subst (λ (o : Owed). IsOwed s.boxes.cap b o (Subscribed a k 0 ∷ now)) (sym (same.owed b)) (owed-sub s.boxes.cap b (owed_in s b) a k 0 now (st.owed b));
      agents = st.agents;
      caps = st.caps;
    }

-- a subscription ended
pub stands-end : (s new : Shown) (now : StreamMoment) (a slot : ℕ) (k : Key) → StandsAt s now → key_at s.table slot ≡ Some k → IsEndedAt s a slot new → StandsAt new (Unsubscribed a k ∷ now)
stands-end s new now a slot k st own e =
    let same = agrees-end s new.table now a slot k st.agrees own e.subscribed e.table in
    subst (λ (x : Shown). StandsAt x (Unsubscribed a k ∷ now)) (by-boxes new s.boxes e.boxes)
    (record {
      agrees = same.agrees;
      owed = λ b. subst (λ (o : Owed). IsOwed s.boxes.cap b o (Unsubscribed a k ∷ now)) (sym (same.owed b)) (owed-unsub s.boxes.cap b (owed_in s b) a k now (st.owed b));
      agents = st.agents;
      caps = st.caps;
    })

-- an item was put
stands-push : (s : Shown) (new : Boxes) (now : StreamMoment) (item : StreamItem) (slot : ℕ) → StandsAt s now → key_at s.table slot ≡ Some (key_of_item item) → (cap : new.cap ≡ s.boxes.cap) → length new.list ≡ length s.boxes.list →
    (boxes : (a : ℕ) → box_at new a ≡ (let w : Waiting = record { slot = slot; item = item } in if is_subscribed (hold_for s.table a slot) then with_waiting (box_at s.boxes a) w else box_at s.boxes a)) → StandsAt (of s.table new) (Came (key_of_item item) item ∷ now)
unfolding owed_in
stands-push s new now item slot st own cap size boxes =
    let k = key_of_item item in
    let w : Waiting = record { slot = slot; item = item } in
    let next = Came k item ∷ now in
    let name = name-is s.table slot k own in
    let label : IsLabelled (name_in s.table) (is_named s.table) w = (sym name.0, name.1) in
    let pick : (b : ℕ) (c : Bool) → subscribed b k now ≡ c → IsOwed s.boxes.cap b (keyed (name_in s.table) (let o : Outstanding = if c then with_waiting (box_at s.boxes b) w else box_at s.boxes b in o)) next =
    λ b. elim [
      | true ↦ λ e.
          let named = st.agrees.named b in
          let more = keyed-waiting (name_in s.table) (is_named s.table) named.apart (box_at s.boxes b) w named label ∙ ap (λ n. with_item n (keyed (name_in s.table) (box_at s.boxes b)) item) (st.caps b) in
          subst (λ (o : Owed). IsOwed s.boxes.cap b o next) (sym more) (owed-came s.boxes.cap b (keyed (name_in s.table) (box_at s.boxes b)) k item now e (st.owed b))
      | false ↦ λ e. owed-unmatched s.boxes.cap b (keyed (name_in s.table) (box_at s.boxes b)) k item now e (st.owed b)
    ] in
    let told : (b : ℕ) → subscribed b k now ≡ is_subscribed (hold_for s.table b slot) = λ b. subscribed-table s.table _ now st.agrees.table b k slot own in
    record {
      agrees = agrees-came (of s.table new) now k item (agrees-push s new now w st.agrees own (record { cap = cap; agents = size; boxes = boxes }));
      owed = λ b. subst (λ n. IsOwed n b (keyed (name_in s.table) (box_at new b)) next) (sym cap)
          (subst (λ (o : Outstanding). IsOwed s.boxes.cap b (keyed (name_in s.table) o) next) (sym (boxes b)) (pick b (is_subscribed (hold_for s.table b slot)) (told b)));
      agents = size ∙ st.agents;
      caps = λ b. ap (λ (o : Outstanding). o.cap) (boxes b)
          ∙ (let go : (c : Bool) → (let o : Outstanding = if c then with_waiting (box_at s.boxes b) w else box_at s.boxes b in o.cap) ≡ s.boxes.cap = elim [ true ↦ waiting-cap (box_at s.boxes b) w ∙ st.caps b | false ↦ st.caps b ] in go (is_subscribed (hold_for s.table b slot)))
          ∙ sym cap;
    }

pub stands-put : (s new : Shown) (now : StreamMoment) (item : StreamItem) → StandsAt s now → PutsAt (slot_for s.table (key_of_item item)) s item new → StandsAt new (Came (key_of_item item) item ∷ now)
stands-put s new now item st e =
    let k = key_of_item item in
    let go : (o : Option ℕ) → slot_for s.table k ≡ o → PutsAt o s item new → StandsAt new (Came k item ∷ now) =
    elim [
      | None ↦ λ f p. subst (λ (x : Shown). StandsAt x (Came k item ∷ now)) p (record {
        agrees = agrees-came s now k item st.agrees;
        owed = λ b. owed-unmatched s.boxes.cap b (owed_in s b) k item now (subscribed-absent s.table _ now st.agrees.table b k f) (st.owed b);
        agents = st.agents;
        caps = st.caps;
      })
      | Some slot ↦ λ f p. subst (λ (x : Shown). StandsAt x (Came k item ∷ now)) (λ i. let x : Shown = record { table = sym p.0 i; boxes = new.boxes } in x)
          (stands-push s new.boxes now item slot st (key_at-found s.table k slot f) p.1.cap p.1.agents p.1.boxes)
    ] in
    go (slot_for s.table k) refl e

-- the first that is owed, and what is owed then
pub record FirstLoss (o : Owed) (i : StreamItem) (left : Owed) : Type 0 where
  pub loss : Loss
  pub losses : List Loss
  pub was : o.lost ≡ loss ∷ losses
  pub is : i ≡ report loss
  pub items : left.items ≡ o.items
  pub lost : left.lost ≡ losses

pub record FirstItem (o : Owed) (i : StreamItem) (left : Owed) : Type 0 where
  pub items : List StreamItem
  pub was : o.items ≡ i ∷ items
  pub none : o.lost ≡ []
  pub left_items : left.items ≡ items
  pub left_lost : left.lost ≡ []

abbrev pub IsFirst : Owed → StreamItem → Owed → Type 0
IsFirst o i left = FirstLoss o i left ⊎ FirstItem o i left

-- an outbox that owes something is there
box-there : (b : Boxes) (a slot : ℕ) → owes_slot (box_at b a) slot ≡ true → a < length b.list
box-there b a slot h = inside b.list a (empty_for b.cap) refl h
  where
    inside : (list : List Outstanding) (n : ℕ) (none : Outstanding) → owes_slot none slot ≡ false → owes_slot (get_or list n none) slot ≡ true → n < length list
    inside [] n none e t = absurd (true-false (sym t ∙ e))
    inside (o ∷ os) zero none e t = omega arith
    inside (o ∷ os) (suc n) none e t = (let lt = inside os n none e t in omega arith)

less-loss : (o : Outstanding) (l : SlotLoss) (ls : List SlotLoss) → o.lost ≡ l ∷ ls → Less o (without_first_loss o) l.slot
less-loss o l ls e = record {
  was = ap (λ lost. has_lost lost l.slot || has_waiting o.items l.slot) e ∙ ap (λ b. (b || has_lost ls l.slot) || has_waiting o.items l.slot) (same_number l.slot);
  others = λ i f. ap (λ lost. has_lost (drop 1 lost) i || has_waiting o.items i) e ∙ sym (ap (λ lost. has_lost lost i || has_waiting o.items i) e ∙ ap (λ b. (b || has_lost ls i) || has_waiting o.items i) f);
}

less-item : (o : Outstanding) (w : Waiting) (ws : List Waiting) → o.items ≡ w ∷ ws → Less o (outboxes.with_items o (drop 1 o.items)) w.slot
less-item o w ws e = record {
  was = ap (λ items. has_lost o.lost w.slot || has_waiting items w.slot) e ∙ or-right (has_lost o.lost w.slot) (nat_eq w.slot w.slot || has_waiting ws w.slot) (or-left (nat_eq w.slot w.slot) (has_waiting ws w.slot) (same_number w.slot));
  others = λ i f. ap (λ items. has_lost o.lost i || has_waiting (drop 1 items) i) e ∙ sym (ap (λ items. has_lost o.lost i || has_waiting items i) e ∙ ap (λ b. has_lost o.lost i || (b || has_waiting ws i)) f);
}

-- what a gift leaves
pub record Given (s : Shown) (a : ℕ) (i : StreamItem) (now : StreamMoment) (new : Shown) : Type 0 where
  pub agrees : Agrees new now
  pub others : (b : ℕ) → nat_eq b a ≡ false → owed_in new b ≡ owed_in s b
  pub first : IsFirst (owed_in s a) i (owed_in new a)
  pub cap : new.boxes.cap ≡ s.boxes.cap
  pub agents : length new.boxes.list ≡ length s.boxes.list
  pub caps : (b : ℕ) → (box_at new.boxes b).cap ≡ (box_at s.boxes b).cap

some-same : (i j : StreamItem) → (let x : Option StreamItem = Some i in let y : Option StreamItem = Some j in x ≡ y) → i ≡ j
some-same i j h = cc

module _ (s new : Shown) (now : StreamMoment) (a : ℕ) (st : Agrees s now) where
  abbrev box : Outstanding
  box = box_at s.boxes a

  abbrev name : ℕ → Key
  name = name_in s.table

  settled : (slot : ℕ) (left : Outstanding) → IsNamed name (is_named s.table) left → Less box left slot → IsSettled s a slot left new → Settles s a left now new
  settled slot left named less e = agrees-settle s now a slot left st (box-there s.boxes a slot less.was) named less new e

  box-caps : (slot : ℕ) (left : Outstanding) → left.cap ≡ box.cap → Less box left slot → new.boxes ≡ with_box s.boxes a left → (b : ℕ) → (box_at new.boxes b).cap ≡ (box_at s.boxes b).cap
  box-caps slot left same less e b =
      ap (λ (x : Boxes). (box_at x b).cap) e
      ∙ (let go : (c : Bool) → nat_eq b a ≡ c → (box_at (with_box s.boxes a left) b).cap ≡ (box_at s.boxes b).cap =
      elim [
        | true ↦ λ f. ap (λ n. (box_at (with_box s.boxes a left) n).cap) (eqb-true b a f) ∙ ap (λ (o : Outstanding). o.cap) (box-same s.boxes a left (box-there s.boxes a slot less.was)) ∙ same ∙ ap (λ n. (box_at s.boxes n).cap) (sym (eqb-true b a f))
        | false ↦ λ f. ap (λ (o : Outstanding). o.cap) (box-other s.boxes a b left f)
      ] in go (nat_eq b a) refl)

  given-of : (slot : ℕ) (left : Outstanding) (i : StreamItem) → left.cap ≡ box.cap → Less box left slot → Settles s a left now new → IsFirst (owed_in s a) i (keyed name left) → Given s a i now new
  given-of slot left i same less all first = record {
    agrees = all.agrees;
    others = all.others;
    first = subst (λ (o : Owed). IsFirst (owed_in s a) i o) (sym all.own) first;
    cap = ap (λ (x : Boxes). x.cap) all.boxes;
    agents = ap (λ (x : Boxes). length x.list) all.boxes ∙ length-set s.boxes.list a left;
    caps = box-caps slot left same less all.boxes;
  }

  -- the key of a loss
  loss-key : (l : SlotLoss) (ls : List SlotLoss) → box.lost ≡ l ∷ ls → (k : Key) × (key_at s.table l.slot ≡ Some k)
  loss-key l ls e = some-from (key_at s.table l.slot) (owes-used name (is_named s.table) box l.slot (st.named a) ((less-loss box l ls e).was))

  given-loss : (l : SlotLoss) (ls : List SlotLoss) (i : StreamItem) → box.lost ≡ l ∷ ls → GivesFirst (Some l) s a (Some i) new → Given s a i now new
  unfolding owed_in keyed
  given-loss l ls i e g =
      let left = without_first_loss box in
      let less = less-loss box l ls e in
      let all = settled l.slot left (named-reported name (is_named s.table) box (st.named a)) less g.1 in
      let own = loss-key l ls e in
      let is : i ≡ Lost (name l.slot) l.count = some-same i (Lost (name l.slot) l.count) (g.0 ∙ ap (option_map (λ k. Lost k l.count)) own.1 ∙ ap (λ k. let x : Option StreamItem = Some (Lost k l.count) in x) (sym (ap key_or own.1))) in
      given-of l.slot left i refl less all (inl (record {
        loss = named name l;
        losses = map (named name) ls;
        was = ap (map (named name)) e;
        is = is;
        items = refl;
        lost = ap (λ lost. map (named name) (drop 1 lost)) e;
      }))

  given-item : (w : Waiting) (ws : List Waiting) (i : StreamItem) → box.lost ≡ [] → box.items ≡ w ∷ ws → GivesItem (Some w) s a (Some i) new → Given s a i now new
  unfolding owed_in keyed
  given-item w ws i none e g =
      let left = outboxes.with_items box (drop 1 box.items) in
      let less = less-item box w ws e in
      let all = settled w.slot left (named-given name (is_named s.table) box (st.named a)) less g.1 in
      given-of w.slot left i refl less all (inr (record {
        items = map (λ (v : Waiting). v.item) ws;
        was = ap (map (λ (v : Waiting). v.item)) e ∙ ap (λ j. j ∷ map (λ (v : Waiting). v.item) ws) (sym (some-same i w.item g.0));
        none = ap (map (named name)) none;
        left_items = ap (λ items. map (λ (v : Waiting). v.item) (drop 1 items)) e;
        left_lost = ap (map (named name)) none;
      }))

  pub gives-some : (i : StreamItem) → Gives s a (Some i) new → Given s a i now new
  gives-some i g =
      let items : box.lost ≡ [] → (ws : List Waiting) → box.items ≡ ws → GivesItem (slice_get ws 0) s a (Some i) new → Given s a i now new =
      λ none. elim [
        | [] ↦ λ e m. absurd (some-none i m.0)
        | w ∷ ws ↦ λ e m. given-item w ws i none e m
      ] in
      let lost : (ls : List SlotLoss) → box.lost ≡ ls → GivesFirst (first_of ls) s a (Some i) new → Given s a i now new =
      elim [
        | [] ↦ λ e m. items e box.items refl m
        | l ∷ ls ↦ λ e m. given-loss l ls i e m
      ] in
      lost box.lost refl g

  pub gives-none : Gives s a None new → (s ≡ new) × (owed_in s a ≡ nothing)
  unfolding owed_in keyed
  gives-none g =
      let items : box.lost ≡ [] → (ws : List Waiting) → box.items ≡ ws → GivesItem (slice_get ws 0) s a None new → (s ≡ new) × (keyed name box ≡ nothing) =
      λ none. elim [
        | [] ↦ λ e m. (m.1, λ p. let o : Owed = record { items = map (λ (v : Waiting). v.item) (e p); lost = map (named name) (none p) } in o)
        | w ∷ ws ↦ λ e m. absurd (some-none w.item (sym m.0))
      ] in
      let lost : (ls : List SlotLoss) → box.lost ≡ ls → GivesFirst (first_of ls) s a None new → (s ≡ new) × (keyed name box ≡ nothing) =
      elim [
        | [] ↦ λ e m. items e box.items refl m
        | l ∷ ls ↦ λ e m. (let own = loss-key l ls e in absurd (some-none (Lost own.0 l.count) (sym (m.0 ∙ ap (option_map (λ k. Lost k l.count)) own.1))))
      ] in
      lost box.lost refl g

-- what is owed after a gift
owed-gift : (cap a : ℕ) (o left : Owed) (i : StreamItem) (now : StreamMoment) → IsFirst o i left → IsOwed cap a o now → IsOwed cap a left (Gave a (key_of_item i) i ∷ now)
owed-gift cap a o left i now (inl f) h =
    let before : o ≡ record { items = o.items; lost = f.loss ∷ f.losses } = λ p. record { items = o.items; lost = f.was p } in
    let next = owed-reported cap a o.items f.loss f.losses i now (subst (λ (x : Owed). IsOwed cap a x now) before h) in
    let after : (let x : Owed = record { items = o.items; lost = f.losses } in x) ≡ left = λ p. record { items = sym f.items p; lost = sym f.lost p } in
    subst (λ (x : Owed). IsOwed cap a x (Gave a (key_of_item i) i ∷ now)) after (subst (λ k. IsOwed cap a (record { items = o.items; lost = f.losses }) (Gave a k i ∷ now)) (sym (ap key_of_item f.is)) next)
owed-gift cap a o left i now (inr f) h =
    let before : o ≡ record { items = i ∷ f.items; lost = [] } = λ p. record { items = f.was p; lost = f.none p } in
    let next = owed-given cap a (key_of_item i) i f.items i now (subst (λ (x : Owed). IsOwed cap a x now) before h) in
    let after : (let x : Owed = record { items = f.items; lost = [] } in x) ≡ left = λ p. record { items = sym f.left_items p; lost = sym f.left_lost p } in
    subst (λ (x : Owed). IsOwed cap a x (Gave a (key_of_item i) i ∷ now)) after next

-- a gift
pub stands-gift : (s new : Shown) (now : StreamMoment) (a : ℕ) (i : StreamItem) → StandsAt s now → Gives s a (Some i) new → StandsAt new (Gave a (key_of_item i) i ∷ now)
stands-gift s new now a i st g =
    let all = gives-some s new now a st.agrees i g in
    let next = Gave a (key_of_item i) i ∷ now in
    record {
      agrees = agrees-gave new now a (key_of_item i) i all.agrees;
      owed = λ b. subst (λ n. IsOwed n b (owed_in new b) next) (sym all.cap)
          (let go : (c : Bool) → nat_eq b a ≡ c → IsOwed s.boxes.cap b (owed_in new b) next =
          elim [
            | true ↦ λ e. subst (λ n. IsOwed s.boxes.cap n (owed_in new n) next) (sym (eqb-true b a e)) (owed-gift s.boxes.cap a (owed_in s a) (owed_in new a) i now all.first (st.owed a))
            | false ↦ λ e. subst (λ (o : Owed). IsOwed s.boxes.cap b o next) (sym (all.others b e)) (owed-gave_other s.boxes.cap b (owed_in s b) a (key_of_item i) i now e (st.owed b))
          ] in go (nat_eq b a) refl);
      agents = all.agents ∙ st.agents;
      caps = λ b. all.caps b ∙ st.caps b ∙ sym all.cap;
    }

-- the first that is owed, then the rest
pub first-more : (n : ℕ) (o left : Owed) (i : StreamItem) → IsFirst o i left → first_owed (suc n) o ≡ i ∷ first_owed n left
unfolding first_owed
first-more n o left i (inl f) =
    ap (λ ls. take (suc n) (map report ls ++ o.items)) f.was
    ∙ (λ p. sym f.is p ∷ take n (map report (sym f.lost p) ++ sym f.items p))
first-more n o left i (inr f) =
    (λ p. take (suc n) (map report (f.none p) ++ f.was p))
    ∙ (λ p. i ∷ take n (map report (sym f.left_lost p) ++ sym f.left_items p))

pub first-none : (n : ℕ) (o : Owed) → o ≡ nothing → first_owed n o ≡ []
unfolding first_owed
first-none n o e = ap (λ (x : Owed). take n (map report x.lost ++ x.items)) e ∙ none n
  where
    none : (n : ℕ) → take n (let is : List StreamItem = [] in is) ≡ []
    none zero = refl
    none (suc n) = refl
