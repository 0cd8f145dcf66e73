-- What each step leaves of the agreement between a stripe's table and what its agents are owed.
use Rattle.std.proofs.Common.{◌≡◌, ℕ, ◌<◌, Bool, true, false, ◌||◌, ◌&&◌, if◌then◌else◌, nat_eq, List, [], ◌∷◌, length, refl, ap, sym, ◌∙◌, subst, ◌⊎◌, inl, inr}
use Rattle.std.specs.Prelude.{Option, Some, None, MatchBool}
use Rattle.std.proofs.lemmas.Bool.{eqb-true}
use Rattle.qd_scheme.specs.declared.key.Key.{Key}
use Rattle.qd_scheme.specs.Keys.{key_eq}
use Rattle.qd_scheme.proofs.KeyLaws.{key_eq-true, key_eq-same}
use Rattle.qd_sub.specs.Acts.{Subscribed, Unsubscribed, Closed, Came, Gave, is_pair}
use Rattle.qd_sub.specs.Subscriptions.{subscribed}
use Rattle.qd_slots.specs.Holds.{is_subscribed}
use Rattle.qd_table.specs.Tables.{Table, key_at, slot_for, hold_for, holds_by}
use Rattle.qd_table.specs.Sound.{IsSound}
use Rattle.qd_table.specs.Standing.{StandsFor}
use Rattle.qd_table.specs.Steps.{IsSame, IsSubscribed, IsEnded, IsLetGo, KeepsUsed, TellsAll}
use Rattle.qd_table.proofs.TableLaws.{or-right, true-false, some-none, some-same, some-from, key_at-found}
use Rattle.qd_table.proofs.StandLaws.{holds_by-none, subscribed-table}
use Rattle.qd_table.proofs.StandSteps.{stands-subscribed, stands-ended}
use Rattle.qd_table.proofs.StandOthers.{stands-let_go, stands-same, stands-keeps, stands-came, stands-gave, stands-closed}
use Rattle.qd_stream.specs.declared.item.StreamItem.{StreamItem}
use Rattle.qd_stream.specs.declared.outbox.Waiting.{Waiting}
use Rattle.qd_stream.specs.Items.{key_of_item}
use Rattle.qd_stream.specs.Waiting.{StreamMoment}
use Rattle.qd_stream.specs.Owed.{owes}
use Rattle.qd_stream.specs.Outboxes.{Outstanding, with_waiting, owes_slot}
use Rattle.qd_stream.specs.Keyed.{keyed, IsNamed, IsLabelled}
use Rattle.qd_stream.specs.Boxes.{Boxes, box_at, with_box}
use Rattle.qd_stream.specs.Stripes.{Shown, name_in, is_named, owed_in, is_owed_in, Agrees}
use Rattle.qd_stream.specs.Steps.{IsPushed, IsSettled}
use Rattle.qd_stream.proofs.NamedLaws.{owes-used, owes-named, owes-agree, waiting-owes, named-waiting, name-is, renamed}
use Rattle.qd_stream.proofs.ReadyLaws.{box-same, box-other}

-- a stripe with this table and these outboxes
abbrev pub of : Table → Boxes → Shown
of t b = record { table = t; boxes = b }

-- each slot keeps its key, or has none any more
abbrev pub OnlyLoses : Table → Table → Type 0
OnlyLoses old new = (i : ℕ) → (key_at new i ≡ key_at old i) ⊎ (key_at new i ≡ None)

pub loses-used : (old new : Table) (slot : ℕ) → KeepsUsed old slot new → OnlyLoses old new
loses-used old new slot h i =
    let go : (c : Bool) → key_at new i ≡ (if c then None else key_at old i) → (key_at new i ≡ key_at old i) ⊎ (key_at new i ≡ None) =
    elim [ true ↦ λ e. inr e | false ↦ λ e. inl e ] in
    go _ (h i)

pub loses-told : (old new : Table) (w : ℕ) (slots : List ℕ) → TellsAll old w slots new → OnlyLoses old new
unfolding TellsAll
loses-told old new w [] e i = inl (ap (λ t. key_at t i) (sym e))
loses-told old new w (slot ∷ slots) (mid, one, rest) i =
    elim (loses-told mid new w slots rest i) [
      | inr none ↦ inr none
      | inl same ↦ elim (loses-used old mid slot one.names i) [
        | inl e ↦ inl (same ∙ e)
        | inr none ↦ inr (same ∙ none)
      ]
    ]

-- a slot keeps its key while a pair of it is held
still : (old new : Table) (keeps : ℕ → Key → Bool) (now : StreamMoment) → StandsFor new keeps now → IsSound old → OnlyLoses old new → (b i : ℕ) (j : Key) → key_at old i ≡ Some j → keeps b j ≡ true → key_at new i ≡ key_at old i
still old new keeps now st sound loses b i j own kept =
    let held : holds_by new b j ≡ true = sym (st.held b j) ∙ or-right (subscribed b j now) (keeps b j) kept in
    let go : (o : Option ℕ) → slot_for new j ≡ o → key_at new i ≡ key_at old i =
    elim [
      | None ↦ λ e. absurd (true-false (sym held ∙ holds_by-none new b j e))
      | Some s ↦ λ e.
          let at : key_at new s ≡ Some j = key_at-found new j s e in
          elim (loses s) [
            | inr none ↦ absurd (some-none j (sym at ∙ none))
            | inl same ↦ (let here : s ≡ i = some-same s i (sym (sound.found s j (sym same ∙ at)) ∙ sound.found i j own) in
                sym (ap (key_at new) here) ∙ at ∙ sym own)
          ]
    ] in
    go (slot_for new j) refl

-- something of a slot's key is owed where something of the slot is
pub owed-slot : (s : Shown) (b i : ℕ) (k : Key) → IsNamed (name_in s.table) (is_named s.table) (box_at s.boxes b) → key_at s.table i ≡ Some k → is_owed_in s b k ≡ owes_slot (box_at s.boxes b) i
unfolding is_owed_in owed_in
owed-slot s b i k n own =
    let name = name-is s.table i k own in
    ap (owes (keyed (name_in s.table) (box_at s.boxes b))) (sym name.0) ∙ owes-named (name_in s.table) (is_named s.table) (box_at s.boxes b) i n name.1

-- where the table only lost keys of which nothing is owed, the same is owed by keys
module _ (old new : Table) (boxes : Boxes) where
  pub renamed-all : (now : StreamMoment) → StandsFor new (is_owed_in (of old boxes)) now → IsSound old → OnlyLoses old new → (b : ℕ) → IsNamed (name_in old) (is_named old) (box_at boxes b) →
      IsNamed (name_in new) (is_named new) (box_at boxes b) × (owed_in (of new boxes) b ≡ owed_in (of old boxes) b)
  unfolding owed_in
  renamed-all now st sound loses b n =
      renamed old new (box_at boxes b) n st.sound (λ i h.
      let own = some-from (key_at old i) (owes-used (name_in old) (is_named old) (box_at boxes b) i n h) in
      still old new (is_owed_in (of old boxes)) now st sound loses b i own.0 own.1 (owed-slot (of old boxes) b i own.0 n own.1 ∙ h))

  -- the stripe agrees, and the same is owed
  pub record Same (now : StreamMoment) : Type 0 where
    pub agrees : Agrees (of new boxes) now
    pub owed : (b : ℕ) → owed_in (of new boxes) b ≡ owed_in (of old boxes) b

  pub same-by : (now : StreamMoment) → StandsFor new (is_owed_in (of old boxes)) now → ((b : ℕ) → IsNamed (name_in new) (is_named new) (box_at boxes b) × (owed_in (of new boxes) b ≡ owed_in (of old boxes) b)) → Same now
  unfolding is_owed_in
  same-by now st all = record {
    agrees = record {
      table = stands-keeps new (is_owed_in (of old boxes)) (is_owed_in (of new boxes)) now st (λ b j. ap (λ o. subscribed b j now || owes o j) ((all b).1));
      named = λ b. (all b).0;
    };
    owed = λ b. (all b).1;
  }

-- an agent was subscribed to a key
pub agrees-sub : (s : Shown) (t : Table) (now : StreamMoment) (a : ℕ) (k : Key) (slot : ℕ) → a < 128 → Agrees s now → IsSubscribed s.table a k 0 slot t → Same s.table t s.boxes (Subscribed a k 0 ∷ now)
unfolding owed_in
agrees-sub s t now a k slot below st e =
    let next = stands-subscribed s.table t (is_owed_in s) now a k 0 slot st.table below e in
    same-by s.table t s.boxes (Subscribed a k 0 ∷ now) next (λ b. renamed s.table t (box_at s.boxes b) (st.named b) next.sound (λ i h.
    let own = some-from (key_at s.table i) (owes-used (name_in s.table) (is_named s.table) (box_at s.boxes b) i (st.named b) h) in
    e.names i ∙ (let go : (c : Bool) → nat_eq i slot ≡ c → (let o : Option Key = if c then Some k else key_at s.table i in o) ≡ key_at s.table i =
    elim [
      | true ↦ λ f. elim e.found [
        | inl there ↦ sym (ap (key_at s.table) (eqb-true i slot f) ∙ key_at-found s.table k slot there)
        | inr vacant ↦ absurd (some-none own.0 (sym own.1 ∙ ap (key_at s.table) (eqb-true i slot f) ∙ vacant.1))
      ]
      | false ↦ λ f. refl
    ] in go (nat_eq i slot) refl)))

pair-parts : (b a : ℕ) (j k : Key) → is_pair b j a k ≡ true → (b ≡ a) × (j ≡ k)
pair-parts b a j k h =
    let go : (c d : Bool) → nat_eq b a ≡ c → key_eq j k ≡ d → (c && d) ≡ true → (b ≡ a) × (j ≡ k) =
    elim [
      | true ↦ elim [
        | true ↦ λ e f t. (eqb-true b a e, key_eq-true j k f)
        | false ↦ λ e f t. cc
      ]
      | false ↦ λ d e f t. cc
    ] in
    go (nat_eq b a) (key_eq j k) refl refl h

-- a subscription ended
pub agrees-end : (s : Shown) (t : Table) (now : StreamMoment) (a slot : ℕ) (k : Key) → Agrees s now → key_at s.table slot ≡ Some k → is_subscribed (hold_for s.table a slot) ≡ true → IsEnded s.table a slot (owes_slot (box_at s.boxes a) slot) t →
    Same s.table t s.boxes (Unsubscribed a k ∷ now)
agrees-end s t now a slot k st own sub e =
    let next = stands-ended s.table t (is_owed_in s) (is_owed_in s) now a k slot (owes_slot (box_at s.boxes a) slot) st.table sub own e
    (λ b j. let go : (c : Bool) → is_pair b j a k ≡ c → is_owed_in s b j ≡ (if c then owes_slot (box_at s.boxes a) slot else is_owed_in s b j) =
    elim [
      | true ↦ λ f. (let both = pair-parts b a j k f in ap (λ n. is_owed_in s n j) both.0 ∙ ap (is_owed_in s a) both.1 ∙ owed-slot s a slot k (st.named a) own)
      | false ↦ λ f. refl
    ] in go (is_pair b j a k) refl) in
    same-by s.table t s.boxes (Unsubscribed a k ∷ now) next (λ b. renamed-all s.table t s.boxes (Unsubscribed a k ∷ now) next st.table.sound (loses-used s.table t slot e.names) b (st.named b))

-- acts that the table takes no notice of
pub agrees-came : (s : Shown) (now : StreamMoment) (k : Key) (item : StreamItem) → Agrees s now → Agrees s (Came k item ∷ now)
agrees-came s now k item st = record { table = stands-came s.table (is_owed_in s) k item now st.table; named = st.named }

pub agrees-gave : (s : Shown) (now : StreamMoment) (a : ℕ) (k : Key) (item : StreamItem) → Agrees s now → Agrees s (Gave a k item ∷ now)
agrees-gave s now a k item st = record { table = stands-gave s.table (is_owed_in s) a k item now st.table; named = st.named }

pub agrees-closed : (s : Shown) (now : StreamMoment) (a : ℕ) → Agrees s now → Agrees s (Closed a ∷ now)
agrees-closed s now a st = record { table = stands-closed s.table (is_owed_in s) a now st.table; named = st.named }

-- nothing changed but room
pub agrees-same : (s : Shown) (t : Table) (now : StreamMoment) → Agrees s now → IsSame s.table t → Same s.table t s.boxes now
unfolding owed_in
agrees-same s t now st same =
    let next = stands-same s.table t (is_owed_in s) now st.table same in
    same-by s.table t s.boxes now next (λ b. renamed s.table t (box_at s.boxes b) (st.named b) next.sound (λ i h. same.names i))

-- an item waits for each agent of its slot
pub agrees-push : (s : Shown) (new : Boxes) (now : StreamMoment) (w : Waiting) → Agrees s now → key_at s.table w.slot ≡ Some (key_of_item w.item) → IsPushed s.table s.boxes w new → Agrees (of s.table new) now
unfolding is_owed_in owed_in
agrees-push s new now w st own p = record {
  table = stands-keeps s.table (is_owed_in s) (is_owed_in (of s.table new)) now st.table (λ b j. same b j);
  named = λ b. subst (λ (o : Outstanding). IsNamed name used o) (sym (p.boxes b)) (named b (is_subscribed (hold_for s.table b w.slot)));
}
  where
    name : ℕ → Key
    name = name_in s.table

    used : ℕ → Bool
    used = is_named s.table

    label : IsLabelled name used w
    label = (let n = name-is s.table w.slot (key_of_item w.item) own in (sym n.0, n.1))

    named : (b : ℕ) (c : Bool) → IsNamed name used (let o : Outstanding = if c then with_waiting (box_at s.boxes b) w else box_at s.boxes b in o)
    named b true = named-waiting name used (box_at s.boxes b) w (st.named b) label
    named b false = st.named b

    grown : (b : ℕ) (j : Key) → subscribed b j now ≡ false → is_subscribed (hold_for s.table b w.slot) ≡ true → owes (keyed name (with_waiting (box_at s.boxes b) w)) j ≡ owes (keyed name (box_at s.boxes b)) j
    grown b j out sub =
        owes-agree name used (with_waiting (box_at s.boxes b) w) (box_at s.boxes b) j (named-waiting name used (box_at s.boxes b) w (st.named b) label) (st.named b)
        (λ i e. waiting-owes (box_at s.boxes b) w i ∙ (let go : (c : Bool) → nat_eq i w.slot ≡ c → (c || owes_slot (box_at s.boxes b) i) ≡ owes_slot (box_at s.boxes b) i =
        elim [
          | true ↦ λ f.
              let here : j ≡ key_of_item w.item = e ∙ ap name (eqb-true i w.slot f) ∙ sym label.0 in
              absurd (true-false (sym (ap (λ x. subscribed b x now) here ∙ subscribed-table s.table (is_owed_in s) now st.table b (key_of_item w.item) w.slot own ∙ sub) ∙ out))
          | false ↦ λ f. refl
        ] in go (nat_eq i w.slot) refl))

    same : (b : ℕ) (j : Key) → (subscribed b j now || owes (keyed name (box_at new b)) j) ≡ (subscribed b j now || owes (keyed name (box_at s.boxes b)) j)
    same b j =
        ap (λ (o : Outstanding). subscribed b j now || owes (keyed name o) j) (p.boxes b)
        ∙ (let go : (c d : Bool) → subscribed b j now ≡ c → is_subscribed (hold_for s.table b w.slot) ≡ d → (c || owes (keyed name (let o : Outstanding = if d then with_waiting (box_at s.boxes b) w else box_at s.boxes b in o)) j) ≡ (c || owes (keyed name (box_at s.boxes b)) j) =
        elim [
          | true ↦ λ d e f. refl
          | false ↦ elim [ true ↦ λ e f. grown b j e f | false ↦ λ e f. refl ]
        ] in go (subscribed b j now) (is_subscribed (hold_for s.table b w.slot)) refl refl)

-- an agent is owed one less of a slot
pub record Less (box left : Outstanding) (slot : ℕ) : Type 0 where
  pub was : owes_slot box slot ≡ true
  pub others : (i : ℕ) → nat_eq i slot ≡ false → owes_slot left i ≡ owes_slot box i

-- what the other agents are owed stays, and a is owed what is left
pub record Settles (s : Shown) (a : ℕ) (left : Outstanding) (now : StreamMoment) (new : Shown) : Type 0 where
  pub agrees : Agrees new now
  pub own : owed_in new a ≡ keyed (name_in s.table) left
  pub others : (b : ℕ) → nat_eq b a ≡ false → owed_in new b ≡ owed_in s b
  pub boxes : new.boxes ≡ with_box s.boxes a left

module _ (s : Shown) (now : StreamMoment) (a slot : ℕ) (left : Outstanding) (st : Agrees s now) (below : a < length s.boxes.list) (named : IsNamed (name_in s.table) (is_named s.table) left) (less : Less (box_at s.boxes a) left slot) where
  abbrev boxes : Boxes
  boxes = with_box s.boxes a left

  abbrev mid : Shown
  mid = of s.table boxes

  here : box_at boxes a ≡ left
  here = box-same s.boxes a left below

  all-named : (b : ℕ) → IsNamed (name_in s.table) (is_named s.table) (box_at boxes b)
  all-named b =
      let go : (c : Bool) → nat_eq b a ≡ c → IsNamed (name_in s.table) (is_named s.table) (box_at boxes b) =
      elim [
        | true ↦ λ e. subst (λ n. IsNamed (name_in s.table) (is_named s.table) (box_at boxes n)) (sym (eqb-true b a e)) (subst (λ (o : Outstanding). IsNamed (name_in s.table) (is_named s.table) o) (sym here) named)
        | false ↦ λ e. subst (λ (o : Outstanding). IsNamed (name_in s.table) (is_named s.table) o) (sym (box-other s.boxes a b left e)) (st.named b)
      ] in
      go (nat_eq b a) refl

  other-owed : (b : ℕ) → nat_eq b a ≡ false → owed_in mid b ≡ owed_in s b
  unfolding owed_in
  other-owed b e = ap (keyed (name_in s.table)) (box-other s.boxes a b left e)

  own-owed : owed_in mid a ≡ keyed (name_in s.table) left
  unfolding owed_in
  own-owed = ap (keyed (name_in s.table)) here

  used : (k : Key) × (key_at s.table slot ≡ Some k)
  used = some-from (key_at s.table slot) (owes-used (name_in s.table) (is_named s.table) (box_at s.boxes a) slot (st.named a) less.was)

  -- of other keys as much is owed as before
  other-key : (j : Key) → key_eq j used.0 ≡ false → owes (keyed (name_in s.table) left) j ≡ owes (keyed (name_in s.table) (box_at s.boxes a)) j
  other-key j e =
      owes-agree (name_in s.table) (is_named s.table) left (box_at s.boxes a) j named (st.named a)
      (λ i f. less.others i (let go : (c : Bool) → nat_eq i slot ≡ c → nat_eq i slot ≡ false =
      elim [
        | true ↦ λ g. absurd (true-false (sym (ap (λ x. key_eq x used.0) (f ∙ ap (name_in s.table) (eqb-true i slot g) ∙ (name-is s.table slot used.0 used.1).0) ∙ key_eq-same used.0) ∙ e))
        | false ↦ λ g. g
      ] in go (nat_eq i slot) refl))

  own-key : owes (keyed (name_in s.table) left) used.0 ≡ owes_slot left slot
  own-key = let n = name-is s.table slot used.0 used.1 in ap (owes (keyed (name_in s.table) left)) (sym n.0) ∙ owes-named (name_in s.table) (is_named s.table) left slot named n.1

  mid-owed : (b : ℕ) (j : Key) → is_owed_in mid b j ≡ (if is_pair b j a used.0 then owes_slot left slot else is_owed_in s b j)
  unfolding is_owed_in owed_in
  mid-owed b j =
      let go : (c d : Bool) → nat_eq b a ≡ c → key_eq j used.0 ≡ d → owes (keyed (name_in s.table) (box_at boxes b)) j ≡ (if c && d then owes_slot left slot else owes (keyed (name_in s.table) (box_at s.boxes b)) j) =
      elim [
        | true ↦ elim [
          | true ↦ λ e f. ap (λ n. owes (keyed (name_in s.table) (box_at boxes n)) j) (eqb-true b a e) ∙ ap (λ (o : Outstanding). owes (keyed (name_in s.table) o) j) here ∙ ap (owes (keyed (name_in s.table) left)) (key_eq-true j used.0 f) ∙ own-key
          | false ↦ λ e f. ap (λ n. owes (keyed (name_in s.table) (box_at boxes n)) j) (eqb-true b a e) ∙ ap (λ (o : Outstanding). owes (keyed (name_in s.table) o) j) here ∙ other-key j f ∙ ap (λ n. owes (keyed (name_in s.table) (box_at s.boxes n)) j) (sym (eqb-true b a e))
        ]
        | false ↦ λ d e f. ap (λ (o : Outstanding). owes (keyed (name_in s.table) o) j) (box-other s.boxes a b left e)
      ] in
      go (nat_eq b a) (key_eq j used.0) refl refl

  was-owed : is_owed_in s a used.0 ≡ true
  was-owed = owed-slot s a slot used.0 (st.named a) used.1 ∙ less.was

  -- more of the slot is owed
  mid-still : owes_slot left slot ≡ true → Agrees mid now
  mid-still more = record {
    table = stands-keeps s.table (is_owed_in s) (is_owed_in mid) now st.table (λ b j. ap (λ c. subscribed b j now || c) (mid-owed b j ∙
        (let go : (c : Bool) → is_pair b j a used.0 ≡ c → (if c then owes_slot left slot else is_owed_in s b j) ≡ is_owed_in s b j =
        elim [
          | true ↦ λ e. (let both = pair-parts b a j used.0 e in more ∙ sym (ap (λ n. is_owed_in s n j) both.0 ∙ ap (is_owed_in s a) both.1 ∙ was-owed))
          | false ↦ λ e. refl
        ] in go (is_pair b j a used.0) refl)));
    named = all-named;
  }

  -- no more of the slot is owed, and the pair is let go
  let_go : (t : Table) → owes_slot left slot ≡ false → IsLetGo s.table a slot t → Same s.table t boxes now
  let_go t none e =
      let next = stands-let_go s.table t (is_owed_in s) (is_owed_in mid) now a used.0 slot st.table used.1 e
      (λ b j. mid-owed b j ∙ ap (λ c. if is_pair b j a used.0 then c else is_owed_in s b j) none) in
      same-by s.table t boxes now next (λ b. renamed-all s.table t boxes now next st.table.sound (loses-used s.table t slot e.names) b (all-named b))

  by-boxes : (new : Shown) → new.boxes ≡ boxes → of new.table boxes ≡ new
  by-boxes new e = λ i. let x : Shown = record { table = new.table; boxes = sym e i } in x

  pub agrees-settle : (new : Shown) → IsSettled s a slot left new → Settles s a left now new
  agrees-settle new h =
      let go : (c : Bool) → owes_slot left slot ≡ c → MatchBool c (s.table ≡ new.table) (IsLetGo s.table a slot new.table) → Settles s a left now new =
      elim [
        | true ↦ λ e m.
            let same : mid ≡ new = ap (λ t. of t boxes) m ∙ by-boxes new h.boxes in
            record {
              agrees = subst (λ (x : Shown). Agrees x now) same (mid-still e);
              own = ap (λ (x : Shown). owed_in x a) (sym same) ∙ own-owed;
              others = λ b f. ap (λ (x : Shown). owed_in x b) (sym same) ∙ other-owed b f;
              boxes = h.boxes;
            }
        | false ↦ λ e m.
            let all = let_go new.table e m in
            let same : of new.table boxes ≡ new = by-boxes new h.boxes in
            record {
              agrees = subst (λ (x : Shown). Agrees x now) same all.agrees;
              own = ap (λ (x : Shown). owed_in x a) (sym same) ∙ all.owed a ∙ own-owed;
              others = λ b f. ap (λ (x : Shown). owed_in x b) (sym same) ∙ all.owed b ∙ other-owed b f;
              boxes = h.boxes;
            }
      ] in
      go (owes_slot left slot) refl h.table
