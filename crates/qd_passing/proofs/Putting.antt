-- What the calls of groups put, for one sort of items.
use Rattle.std.proofs.Common.{◌≡◌, ◌⊎◌, inl, inr, ℕ, suc, zero, ◌<◌, ◌≤◌, Bool, true, false, if◌then◌else◌, nat_eq, Option, List, [], ◌∷◌, ◌++◌, refl, sym, ap, ◌∙◌, arith, append_assoc}
use Rattle.std.proofs.lemmas.Bool.{cases_Bool}
use Rattle.std.proofs.lemmas.Bool.Decides.{nat_tests}
use Rattle.std.proofs.lemmas.List.{append-nil}
use Rattle.std.proofs.lemmas.List.Elements.{filter-append}
use Rattle.qd_buffer.specs.Filled.{Filled}
use Rattle.qd_buffer.specs.Splitting.{of_stripe}
use Rattle.qd_scheme.specs.declared.key.Key.{Key}
use Rattle.qd_scheme.specs.Keys.{key_eq}
use Rattle.qd_scheme.specs.Stripes.{stripe_of}
use Rattle.qd_scheme.proofs.KeyLaws.{key_eq-true}
use Rattle.qd_grammar.specs.declared.item.Item.{Item}
use Rattle.qd_grammar.specs.declared.item.Message.{Message}
use Rattle.qd_items.specs.Judging.{Numbered}
use Rattle.qd_path.specs.declared.call.Asked.{Asked}
use Rattle.qd_path.specs.declared.call.Call.{Call}
use Rattle.qd_path.specs.declared.kind.Kind.{Kind}
use Rattle.qd_path.specs.declared.kind.Kind.TheVariants.{Body, Description, Control}
use Rattle.qd_path.specs.Groups.{Group, no_group, group_with, is_full, is_foreign, kind_of}
use Rattle.qd_path.specs.Calls.{asks, asks_up_to, full_of, calls_of, Place, after, after_kind, joined_by, calls_by, calls_with, full_calls, place_of, calls_of_items}
use Rattle.qd_passing.specs.Passing.{only, put_in, said_in}

module _ {X : Type 0} (key : X → Key) (part : Call → List X) where
  pub put-append : (k : Key) (a b : List Asked) → put_in key part k (a ++ b) ≡ put_in key part k a ++ put_in key part k b
  put-append k [] b = refl
  put-append k (x ∷ a) b = ap (λ xs. only key k (part x.call) ++ xs) (put-append k a b) ∙ sym (append_assoc (only key k (part x.call)) (put_in key part k a) (put_in key part k b))

  pub only-append : (k : Key) (a b : List X) → only key k (a ++ b) ≡ only key k a ++ only key k b
  only-append k a b = filter-append (λ x. key_eq k (key x)) a b

  -- calls that put nothing of this sort
  module _ {Y : Type 0} (other : Y → Key) (call : Filled Y → Call) (none : (ys : Filled Y) → part (call ys) ≡ []) where
    none-asked : (k : Key) (i : ℕ) (ys : List Y) → put_in key part k (asks call i ys) ≡ []
    none-asked k i [] = refl
    none-asked k i (y ∷ ys) = ap (λ xs. only key k xs ++ []) (none (full_of (y ∷ ys)))

    none-up-to : (k : Key) (n : ℕ) (ys : List Y) (m : ℕ) → put_in key part k (asks_up_to other call n ys m) ≡ []
    none-up-to k n ys zero = refl
    none-up-to k n ys (suc m) =
        put-append k (asks_up_to other call n ys m) (asks call m (of_stripe other n m ys)) ∙ ap (λ xs. xs ++ put_in key part k (asks call m (of_stripe other n m ys))) (none-up-to k n ys m) ∙ none-asked k m (of_stripe other n m ys)

    pub none-put : (k : Key) (n : ℕ) (ys : List Y) → put_in key part k (asks_up_to other call n ys n) ≡ []
    none-put k n ys = none-up-to k n ys n

  -- calls that put items of this sort
  module _ (call : Filled X → Call) (all : (xs : Filled X) → part (call xs) ≡ xs.items) where
    all-asked : (k : Key) (i : ℕ) (xs : List X) → put_in key part k (asks call i xs) ≡ only key k xs
    all-asked k i [] = refl
    all-asked k i (x ∷ xs) = append-nil (only key k (part (call (full_of (x ∷ xs))))) ∙ ap (only key k) (all (full_of (x ∷ xs)))

    neither : (b : Bool) → (if b then (let none : List X = [] in none) else []) ≡ []
    neither true = refl
    neither false = refl

    -- the items of k stand in its stripe
    here : (k : Key) (n i : ℕ) (xs : List X) → only key k (of_stripe key n i xs) ≡ (if nat_eq (stripe_of k n) i then only key k xs else [])
    here k n i [] = sym (neither (nat_eq (stripe_of k n) i))
    here k n i (x ∷ xs) = go (cases_Bool (key_eq k (key x))) (here k n i xs)
      where
        mine : key_eq k (key x) ≡ true → only key k (of_stripe key n i xs) ≡ (if nat_eq (stripe_of k n) i then only key k xs else []) → (b : Bool) → nat_eq (stripe_of k n) i ≡ b
            → only key k (if b then x ∷ of_stripe key n i xs else of_stripe key n i xs) ≡ (if b then x ∷ only key k xs else [])
        mine e ih true q = rw e (ap (λ ys. x ∷ ys) (ih ∙ rw q refl))
        mine e ih false q = ih ∙ rw q refl

        others : key_eq k (key x) ≡ false → only key k (of_stripe key n i xs) ≡ (if nat_eq (stripe_of k n) i then only key k xs else []) → (b : Bool)
            → only key k (if b then x ∷ of_stripe key n i xs else of_stripe key n i xs) ≡ (if nat_eq (stripe_of k n) i then only key k xs else [])
        others e ih true = rw e ih
        others e ih false = ih

        go : (key_eq k (key x) ≡ true) ⊎ (key_eq k (key x) ≡ false) → only key k (of_stripe key n i xs) ≡ (if nat_eq (stripe_of k n) i then only key k xs else [])
            → only key k (of_stripe key n i (x ∷ xs)) ≡ (if nat_eq (stripe_of k n) i then only key k (x ∷ xs) else [])
        go (inl e) ih =
            let same : nat_eq (stripe_of (key x) n) i ≡ nat_eq (stripe_of k n) i = ap (λ j. nat_eq (stripe_of j n) i) (sym (key_eq-true k (key x) e)) in
            ap (λ b. only key k (if b then x ∷ of_stripe key n i xs else of_stripe key n i xs)) same ∙ mine e ih (nat_eq (stripe_of k n) i) refl
            ∙ sym (ap (λ c. if nat_eq (stripe_of k n) i then (if c then x ∷ only key k xs else only key k xs) else []) e)
        go (inr e) ih =
            others e ih (nat_eq (stripe_of (key x) n) i)
            ∙ sym (ap (λ c. if nat_eq (stripe_of k n) i then (if c then x ∷ only key k xs else only key k xs) else []) e)

    before : (k : Key) (n : ℕ) (xs : List X) (m : ℕ) → m ≤ stripe_of k n → put_in key part k (asks_up_to key call n xs m) ≡ []
    before k n xs zero h = refl
    before k n xs (suc m) h =
        let apart : nat_eq (stripe_of k n) m ≡ false = grind (arith, nat_tests) in
        put-append k (asks_up_to key call n xs m) (asks call m (of_stripe key n m xs)) ∙ ap (λ ys. ys ++ put_in key part k (asks call m (of_stripe key n m xs))) (before k n xs m (omega (arith, h)))
        ∙ all-asked k m (of_stripe key n m xs) ∙ here k n m xs ∙ rw apart refl

    behind : (k : Key) (n : ℕ) (xs : List X) (m : ℕ) → stripe_of k n < m → put_in key part k (asks_up_to key call n xs m) ≡ only key k xs
    behind k n xs zero h = absurd (omega (arith, h))
    behind k n xs (suc m) h = go (nat_eq (stripe_of k n) m) refl (λ below. behind k n xs m below)
      where
        go : (b : Bool) → nat_eq (stripe_of k n) m ≡ b → (stripe_of k n < m → put_in key part k (asks_up_to key call n xs m) ≡ only key k xs) → put_in key part k (asks_up_to key call n xs m ++ asks call m (of_stripe key n m xs)) ≡ only key k xs
        go true e ih =
            let low : m ≤ stripe_of k n = grind (arith, nat_tests) in
            put-append k (asks_up_to key call n xs m) (asks call m (of_stripe key n m xs)) ∙ ap (λ ys. ys ++ put_in key part k (asks call m (of_stripe key n m xs))) (before k n xs m low)
            ∙ all-asked k m (of_stripe key n m xs) ∙ here k n m xs ∙ rw e refl
        go false e ih =
            let below : stripe_of k n < m = grind (arith, nat_tests) in
            put-append k (asks_up_to key call n xs m) (asks call m (of_stripe key n m xs)) ∙ ap (λ ys. ys ++ put_in key part k (asks call m (of_stripe key n m xs))) (ih below)
            ∙ ap (λ ys. only key k xs ++ ys) (all-asked k m (of_stripe key n m xs) ∙ here k n m xs ∙ rw e refl) ∙ append-nil (only key k xs)

    pub all-put : (k : Key) (n : ℕ) (xs : List X) → stripe_of k n < n → put_in key part k (asks_up_to key call n xs n) ≡ only key k xs
    all-put k n xs h = behind k n xs n h

-- what is to be known of a sort of items: which messages take them, where a group has them, and what a line says of them
pub record IsSort {X : Type 0} (key : X → Key) (part : Call → List X) (takes : Option Message → Bool) (held : Group → List X) (says : Option Message → Item → List X) (n agent : ℕ) (k : Key) : Type 0 where
  pub none_held : held no_group ≡ []
  pub flushed : (message : Option Message) (g : Group) → (takes message ≡ false → held g ≡ []) → put_in key part k (calls_of n agent message g) ≡ only key k (held g)
  pub joins : (message : Option Message) (item : Item) (g : Group) → kind_of item ≡ Body → is_foreign message item ≡ false → held (group_with message item g) ≡ held g ++ says message item
  pub foreign : (message : Option Message) (item : Item) → is_foreign message item ≡ true → says message item ≡ []
  pub silent : (message : Option Message) (item : Item) → (kind_of item ≡ Body → ⊥) → says message item ≡ []
  pub untaken : (message : Option Message) (item : Item) → takes message ≡ false → says message item ≡ []

module _ {X : Type 0} (key : X → Key) (part : Call → List X) (takes : Option Message → Bool) (held : Group → List X) (says : Option Message → Item → List X) (n agent : ℕ) (k : Key) (sort : IsSort key part takes held says n agent k) where
  record Stands (items : List Numbered) : Type 0 where
    is : put_in key part k (calls_of_items n agent items) ++ only key k (held (place_of items).group) ≡ said_in key says k items
    right : takes (place_of items).message ≡ false → held (place_of items).group ≡ []

  -- where a line leads from a place, and what it asks for there
  record Steps (p q : Place) (asked : List Asked) (item : Item) : Type 0 where
    more : put_in key part k asked ++ only key k (held q.group) ≡ only key k (held p.group) ++ only key k (says p.message item)
    right : takes q.message ≡ false → held q.group ≡ []

  unsaid : (p : Place) (item : Item) → says p.message item ≡ [] → only key k (held p.group) ≡ only key k (held p.group) ++ only key k (says p.message item)
  unsaid p item e = sym (append-nil (only key k (held p.group))) ∙ ap (λ xs. only key k (held p.group) ++ only key k xs) (sym e)

  body : (p : Place) (item : Item) → kind_of item ≡ Body → (takes p.message ≡ false → held p.group ≡ []) → Steps p (after_kind Body item p) (calls_by Body n agent item p) item
  body p item b w = go (is_foreign p.message item) refl
    where
      joined : is_foreign p.message item ≡ false → held (group_with p.message item p.group) ≡ held p.group ++ says p.message item
      joined e = sort.joins p.message item p.group b e

      stays_right : is_foreign p.message item ≡ false → takes p.message ≡ false → held (group_with p.message item p.group) ≡ []
      stays_right e t = joined e ∙ ap (λ xs. xs ++ says p.message item) (w t) ∙ sort.untaken p.message item t

      all : is_foreign p.message item ≡ false → only key k (held (group_with p.message item p.group)) ≡ only key k (held p.group) ++ only key k (says p.message item)
      all e = ap (only key k) (joined e) ∙ only-append key part k (held p.group) (says p.message item)

      joins_at : is_foreign p.message item ≡ false → (c : Bool) → is_full (group_with p.message item p.group) ≡ c
          → Steps p (record { message = p.message; group = if c then no_group else group_with p.message item p.group }) (if c then calls_of n agent p.message (group_with p.message item p.group) else []) item
      joins_at e true q = record {
        more = ap (λ xs. xs ++ only key k (held no_group)) (sort.flushed p.message (group_with p.message item p.group) (stays_right e)) ∙ ap (λ xs. only key k (held (group_with p.message item p.group)) ++ only key k xs) sort.none_held ∙ append-nil (only key k (held (group_with p.message item p.group))) ∙ all e;
        right = λ t. sort.none_held;
      }
      joins_at e false q = record { more = all e; right = stays_right e }

      go : (c : Bool) → is_foreign p.message item ≡ c → Steps p (if c then p else joined_by item p) (if c then [] else full_calls n agent p.message (group_with p.message item p.group)) item
      go true e = record { more = unsaid p item (sort.foreign p.message item e); right = w }
      go false e = joins_at e (is_full (group_with p.message item p.group)) refl

  description : (p : Place) (item : Item) → kind_of item ≡ Description → (takes p.message ≡ false → held p.group ≡ []) → Steps p (after_kind Description item p) (calls_by Description n agent item p) item
  description p item d w = record { more = unsaid p item (sort.silent p.message item (λ b. let z = sym d ∙ b in cc z)); right = w }

  control : (p : Place) (item : Item) → kind_of item ≡ Control → (takes p.message ≡ false → held p.group ≡ []) → Steps p (after_kind Control item p) (calls_by Control n agent item p) item
  control p item c w = record {
    more = ap (λ xs. xs ++ only key k (held no_group)) (sort.flushed p.message p.group w) ∙ ap (λ xs. only key k (held p.group) ++ only key k xs) sort.none_held ∙ append-nil (only key k (held p.group))
        ∙ unsaid p item (sort.silent p.message item (λ b. let z = sym c ∙ b in cc z));
    right = λ t. sort.none_held;
  }

  steps : (p : Place) (item : Item) → (takes p.message ≡ false → held p.group ≡ []) → Steps p (after item p) (calls_with n agent item p) item
  steps p item w = go (kind_of item) refl
    where
      go : (c : Kind) → kind_of item ≡ c → Steps p (after_kind c item p) (calls_by c n agent item p) item
      go Body e = body p item e w
      go Description e = description p item e w
      go Control e = control p item e w

  stands : (items : List Numbered) → Stands items
  stands [] = record { is = ap (only key k) sort.none_held; right = λ t. sort.none_held }
  stands (x ∷ before) =
      let s = stands before in
      let t = steps (place_of before) x.item s.right in
      record {
        is = ap (λ xs. xs ++ only key k (held (after x.item (place_of before)).group)) (put-append key part k (calls_of_items n agent before) (calls_with n agent x.item (place_of before)))
            ∙ append_assoc (put_in key part k (calls_of_items n agent before)) (put_in key part k (calls_with n agent x.item (place_of before))) (only key k (held (after x.item (place_of before)).group))
            ∙ ap (λ xs. put_in key part k (calls_of_items n agent before) ++ xs) t.more
            ∙ sym (append_assoc (put_in key part k (calls_of_items n agent before)) (only key k (held (place_of before).group)) (only key k (says (place_of before).message x.item)))
            ∙ ap (λ xs. xs ++ only key k (says (place_of before).message x.item)) s.is;
        right = t.right;
      }

  pub each-put : (items : List Numbered) → (in_group : List X) × (put_in key part k (calls_of_items n agent items) ++ in_group ≡ said_in key says k items)
  each-put items = (only key k (held (place_of items).group), (stands items).is)
