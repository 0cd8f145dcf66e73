-- Where each op is about such keys alone, so is each act, and no other key is known.
use Rattle.std.proofs.Common.{◌≡◌, ℕ, zero, suc, Bool, true, false, if◌then◌else◌, nat_eq, Option, Some, None, is_some, List, [], ◌∷◌, ◌++◌, length, map, take, drop, refl, ap, sym, subst}
use Rattle.std.specs.Prelude.{slice_get}
use Rattle.std.specs.List.{AllByRecursion, filter}
use Rattle.std.specs.Option.{option_to_list}
use Rattle.std.proofs.Math.Bool.{and-false}
use Rattle.qd_scheme.specs.declared.key.Key.{Key}
use Rattle.qd_scheme.specs.Keys.{key_eq}
use Rattle.qd_scheme.proofs.KeyLaws.{key_eq-true}
use Rattle.qd_gate.specs.declared.machine.Entry.{Entry}
use Rattle.qd_gate.specs.Logs.{EachFollows}
use Rattle.qd_sub.specs.declared.sub.Sub.{Sub}
use Rattle.qd_sub.specs.declared.sub.Want.{Want}
use Rattle.qd_sub.specs.declared.op.Op.{Op}
use Rattle.qd_sub.specs.declared.op.Op.TheVariants.{Add, Remove, Close, Put, Take, Watch}
use Rattle.qd_sub.specs.Acts.{Act, Subscribed, Unsubscribed, Closed, Came, Gave, Told, Full, Moment, is_gift, is_told, newest_key}
use Rattle.qd_sub.specs.Since.{since, last_place, unbroken, begun_at, begun_within, by_since}
use Rattle.qd_sub.specs.Subscriptions.{limit_of, subscribed, keys_of}
use Rattle.qd_sub.specs.Watching.{differs, want_of, watched}
use Rattle.qd_sub.specs.Holding.{has_key, fresh}
use Rattle.qd_sub.specs.Logs.{after, ends_of, acts_done, acts_given, acts_told, after_entry, after_log}
use Rattle.qd_sub.proofs.LogLaws.{after_log-push}
use Rattle.qd_sub.proofs.SubscriptionLaws.{wanted-none}
use Rattle.qd_hub.specs.Hubs.{op_keys}
use Rattle.qd_hub.specs.OfStripe.{IsUnknown}

module _ {X : Type 0} where
  pub map_all : {Y : Type 0} (F : Y → Type 0) (f : X → Y) (xs : List X) → AllByRecursion (λ x. F (f x)) xs → AllByRecursion F (map f xs)
  map_all F f [] all = tt
  map_all F f (x ∷ xs) all = (all.0, map_all F f xs all.1)

  pub unmap_all : {Y : Type 0} (F : Y → Type 0) (f : X → Y) (xs : List X) → AllByRecursion F (map f xs) → AllByRecursion (λ x. F (f x)) xs
  unmap_all F f [] all = tt
  unmap_all F f (x ∷ xs) all = (all.0, unmap_all F f xs all.1)

  pub more_all : (F G : X → Type 0) → ((x : X) → F x → G x) → (xs : List X) → AllByRecursion F xs → AllByRecursion G xs
  more_all F G more [] all = tt
  more_all F G more (x ∷ xs) all = (more x all.0, more_all F G more xs all.1)

  pub append_all : (F : X → Type 0) (xs ys : List X) → AllByRecursion F xs → AllByRecursion F ys → AllByRecursion F (xs ++ ys)
  append_all F [] ys all too = too
  append_all F (x ∷ xs) ys all too = (all.0, append_all F xs ys all.1 too)

  pub take_all : (F : X → Type 0) (n : ℕ) (xs : List X) → AllByRecursion F xs → AllByRecursion F (take n xs)
  take_all F zero xs all = tt
  take_all F (suc n) [] all = tt
  take_all F (suc n) (x ∷ xs) all = (all.0, take_all F n xs all.1)

  pub drop_all : (F : X → Type 0) (n : ℕ) (xs : List X) → AllByRecursion F xs → AllByRecursion F (drop n xs)
  drop_all F zero xs all = all
  drop_all F (suc n) [] all = tt
  drop_all F (suc n) (x ∷ xs) all = drop_all F n xs all.1

  pub if_all : (F : X → Type 0) (b : Bool) (xs ys : List X) → AllByRecursion F xs → AllByRecursion F ys → AllByRecursion F (if b then xs else ys)
  if_all F true xs ys all too = all
  if_all F false xs ys all too = too

  pub filter_all : (F : X → Type 0) (test : X → Bool) (xs : List X) → AllByRecursion F xs → AllByRecursion F (filter test xs)
  filter_all F test [] all = tt
  filter_all F test (x ∷ xs) all = if_all F (test x) (x ∷ filter test xs) (filter test xs) (all.0, filter_all F test xs all.1) (filter_all F test xs all.1)

  pub place_all : (F : X → Type 0) (xs : List X) (n : ℕ) → AllByRecursion F xs → AllByRecursion F (option_to_list (slice_get xs n))
  place_all F [] n all = tt
  place_all F (x ∷ xs) zero all = (all.0, tt)
  place_all F (x ∷ xs) (suc n) all = place_all F xs n all.1

  -- what no act passes has no last place
  never : (test : X → Bool) (xs : List X) → AllByRecursion (λ x. test x ≡ false) xs → last_place test xs ≡ 0
  unfolding last_place
  never test [] all = refl
  never test (x ∷ xs) all = rw all.0 (never test xs all.1)

pub fresh_all : (F : Key → Type 0) (held ks : List Key) → AllByRecursion F ks → AllByRecursion F (fresh held ks)
unfolding fresh
fresh_all F held [] all = tt
fresh_all F held (k ∷ ks) all = if_all F (has_key held k) (fresh held ks) (k ∷ fresh (k ∷ held) ks) (fresh_all F held ks all.1) (all.0, fresh_all F (k ∷ held) ks all.1)

-- the act is about such a key, and so is the item that it puts
abbrev pub IsSuch : {P T : Type 0} → (P → Key) → (Key → Type 0) → Act P T → Type 0
IsSuch key Such (Subscribed a k limit) = Such k
IsSuch key Such (Unsubscribed a k) = Such k
IsSuch key Such (Closed a) = Unit {0}
IsSuch key Such (Came k item) = Such k × Such (key item)
IsSuch key Such (Gave a k item) = Such k
IsSuch key Such (Told w k total) = Such k
IsSuch key Such (Full a k) = Such k

abbrev pub AreSuch : {P T : Type 0} → (P → Key) → (Key → Type 0) → List (Act P T) → Type 0
AreSuch key Such acts = AllByRecursion (IsSuch key Such) acts

abbrev pub IfKey : (Key → Type 0) → Option Key → Type 0
IfKey Such None = Unit {0}
IfKey Such (Some k) = Such k

apart : (Such : Key → Type 0) (k j : Key) → (Such k → ⊥) → Such j → key_eq k j ≡ false
apart Such k j out in_it =
    let go : (b : Bool) → key_eq k j ≡ b → b ≡ false =
    elim [
      | true ↦ λ e. absurd (out (subst Such (sym (key_eq-true k j e)) in_it))
      | false ↦ λ e. refl
    ] in
    go (key_eq k j) refl

module _ {P T : Type 0} (key : P → Key) (Such : Key → Type 0) where
  no_gift : (a : ℕ) (k : Key) → (Such k → ⊥) → (act : Act P T) → IsSuch key Such act → is_gift a k act ≡ false
  no_gift a k out (Subscribed b j limit) such = refl
  no_gift a k out (Unsubscribed b j) such = refl
  no_gift a k out (Closed b) such = refl
  no_gift a k out (Came j item) such = refl
  no_gift a k out (Gave b j item) such = rw (apart Such k j out such, and-false (nat_eq a b)) refl
  no_gift a k out (Told w j total) such = refl
  no_gift a k out (Full b j) such = refl

  not_told : (w : ℕ) (k : Key) → (Such k → ⊥) → (act : Act P T) → IsSuch key Such act → is_told w k act ≡ false
  not_told w k out (Subscribed b j limit) such = refl
  not_told w k out (Unsubscribed b j) such = refl
  not_told w k out (Closed b) such = refl
  not_told w k out (Came j item) such = refl
  not_told w k out (Gave b j item) such = refl
  not_told w k out (Told v j total) such = rw (apart Such k j out such, and-false (nat_eq w v)) refl
  not_told w k out (Full b j) such = refl

  pub no_limit : (a : ℕ) (k : Key) → (Such k → ⊥) → (now : Moment P T) → AreSuch key Such now → limit_of a k now ≡ None
  unfolding limit_of
  no_limit a k out [] all = refl
  no_limit a k out (Subscribed b j limit ∷ past) all = rw (apart Such k j out all.0, and-false (nat_eq a b)) (no_limit a k out past all.1)
  no_limit a k out (Unsubscribed b j ∷ past) all = rw (apart Such k j out all.0, and-false (nat_eq a b)) (no_limit a k out past all.1)
  no_limit a k out (Closed b ∷ past) all = no_limit a k out past all.1
  no_limit a k out (Came j item ∷ past) all = no_limit a k out past all.1
  no_limit a k out (Gave b j item ∷ past) all = no_limit a k out past all.1
  no_limit a k out (Told w j total ∷ past) all = no_limit a k out past all.1
  no_limit a k out (Full b j ∷ past) all = no_limit a k out past all.1

  unsubscribed : (a : ℕ) (k : Key) → (Such k → ⊥) → (now : Moment P T) → AreSuch key Such now → subscribed a k now ≡ false
  unfolding subscribed
  unsubscribed a k out now all = ap is_some (no_limit a k out now all)

  -- of no other key is anything known
  pub unknown : (k : Key) → (Such k → ⊥) → (now : Moment P T) → AreSuch key Such now → IsUnknown k now
  unknown k out now all = record {
    unwanted = wanted-none k now (λ a. unsubscribed a k out now all);
    never_given = λ a. never (is_gift a k) now (more_all (IsSuch key Such) (λ (act : Act P T). is_gift a k act ≡ false) (no_gift a k out) now all);
    never_told = λ w. never (is_told w k) now (more_all (IsSuch key Such) (λ (act : Act P T). is_told w k act ≡ false) (not_told w k out) now all);
  }

  newest_such : (act : Act P T) (past : Moment P T) → IsSuch key Such act → IfKey Such (newest_key (act ∷ past))
  newest_such (Subscribed b j limit) past such = such
  newest_such (Unsubscribed b j) past such = such
  newest_such (Closed b) past such = tt
  newest_such (Came j item) past such = such.0
  newest_such (Gave b j item) past such = such
  newest_such (Told w j total) past such = such
  newest_such (Full b j) past such = such

  begun_such : (breaks : Key → Act P T → Bool) (holds : Key → Moment P T → Bool) (now : Moment P T) (place : ℕ) (k : Option Key) → IfKey Such k → AllByRecursion Such (begun_at breaks holds now place k)
  begun_such breaks holds now place None such = tt
  begun_such breaks holds now place (Some k) such = if_all Such (nat_eq (since (breaks k) (holds k) now) place) (k ∷ []) [] (such, tt) tt

  within_such : (breaks : Key → Act P T → Bool) (holds : Key → Moment P T → Bool) (now past : Moment P T) → AreSuch key Such past → AllByRecursion Such (begun_within newest_key breaks holds now past)
  unfolding begun_within
  within_such breaks holds now [] all = tt
  within_such breaks holds now (act ∷ past) all =
      append_all Such (begun_within newest_key breaks holds now past) (begun_at breaks holds now (suc (length past)) (newest_key (act ∷ past))) (within_such breaks holds now past all.1)
      (begun_such breaks holds now (suc (length past)) (newest_key (act ∷ past)) (newest_such act past all.0))

  -- of which keys anything holds
  since_such : (breaks : Key → Act P T → Bool) (holds : Key → Moment P T → Bool) (now : Moment P T) → AreSuch key Such now → AllByRecursion Such (by_since newest_key breaks holds now)
  unfolding by_since
  since_such breaks holds now all = within_such breaks holds now now all

  pub watched_such : (w most : ℕ) (now : Moment P T) → AreSuch key Such now → AllByRecursion (λ (x : Want). Such x.key) (watched w most now)
  unfolding watched
  watched_such w most now all =
      map_all (λ (x : Want). Such x.key) (want_of w now) (take most (by_since newest_key (λ k. is_told w k) (differs w) now))
      (take_all Such most (by_since newest_key (λ k. is_told w k) (differs w) now) (since_such (λ k. is_told w k) (differs w) now all))

  ends_such : (a : ℕ) (now : Moment P T) (ks : List Key) → AllByRecursion Such ks → AreSuch key Such (ends_of {P = P} {T = T} a now ks)
  unfolding ends_of
  ends_such a now [] all = tt
  ends_such a now (k ∷ ks) all =
      if_all (IsSuch key Such) (subscribed a k now) (Unsubscribed a k ∷ ends_of a (Unsubscribed a k ∷ now) ks) (ends_of a now ks) (all.0, ends_such a (Unsubscribed a k ∷ now) ks all.1) (ends_such a now ks all.1)

  -- the acts of an op with the reply Done
  pub done_such : (limit : Sub → ℕ) (now : Moment P T) (op : Op P T) → AllByRecursion Such (op_keys key op) → AreSuch key Such now → AreSuch key Such (acts_done {P = P} {T = T} limit key now op)
  done_such limit now (Add agent subs) keys all = map_all (IsSuch key Such) (λ (s : Sub). Subscribed agent s.key (limit s)) subs.items (unmap_all Such (λ (s : Sub). s.key) subs.items keys)
  done_such limit now (Remove agent ks) keys all = ends_such agent now ks.items keys
  done_such limit now (Close agent) keys all =
      append_all (IsSuch key Such) (map (Unsubscribed agent) (keys_of agent now)) (Closed agent ∷ [])
      (map_all (IsSuch key Such) (Unsubscribed agent) (keys_of agent now) (since_such unbroken (subscribed agent) now all)) (tt, tt)
  done_such limit now (Put items) keys all =
      map_all (IsSuch key Such) (λ (i : P). Came (key i) i) items.items (more_all (λ (i : P). Such (key i)) (λ (i : P). Such (key i) × Such (key i)) (λ i such. (such, such)) items.items (unmap_all Such key items.items keys))
  done_such limit now (Take agent most out) keys all = tt
  done_such limit now (Watch watcher most out) keys all = tt

  pub given_such : (gift_key : T → Key) (op : Op P T) (items : List T) → AllByRecursion (λ (i : T). Such (gift_key i)) items → AreSuch key Such (acts_given gift_key op items)
  given_such gift_key (Add agent subs) items all = tt
  given_such gift_key (Remove agent keys) items all = tt
  given_such gift_key (Close agent) items all = tt
  given_such gift_key (Put puts) items all = tt
  given_such gift_key (Take agent most out) items all = map_all (IsSuch key Such) (λ (i : T). Gave agent (gift_key i) i) items all
  given_such gift_key (Watch watcher most out) items all = tt

  pub told_such : (op : Op P T) (wants : List Want) → AllByRecursion (λ (x : Want). Such x.key) wants → AreSuch key Such (acts_told {P = P} {T = T} op wants)
  told_such (Add agent subs) wants all = tt
  told_such (Remove agent keys) wants all = tt
  told_such (Close agent) wants all = tt
  told_such (Put puts) wants all = tt
  told_such (Take agent most out) wants all = tt
  told_such (Watch watcher most out) wants all = map_all (IsSuch key Such) (λ (x : Want). Told watcher x.key x.total) wants all

  pub after_such : (now : Moment P T) (acts : List (Act P T)) → AreSuch key Such now → AreSuch key Such acts → AreSuch key Such (after now acts)
  unfolding after
  after_such now [] all too = all
  after_such now (act ∷ acts) all too = after_such (act ∷ now) acts (too.0, all) too.1

  -- where a lawful entry keeps to such keys, so does a legal log
  pub log_such : {R : Type 0} (acts : Moment P T → Op P T → R → List (Act P T)) (Lawful : Moment P T → Op P T → R → Type 0)
      → ((now : Moment P T) (op : Op P T) (reply : R) → AllByRecursion Such (op_keys key op) → AreSuch key Such now → Lawful now op reply → AreSuch key Such (acts now op reply))
      → (before log : List (Entry (Op P T) R)) → AllByRecursion (λ (e : Entry (Op P T) R). AllByRecursion Such (op_keys key e.op)) log
      → EachFollows (λ l (e : Entry (Op P T) R). Lawful (after_log acts [] l) e.op e.reply) before log → AreSuch key Such (after_log acts [] before) → AreSuch key Such (after_log acts (after_log acts [] before) log)
  unfolding after_log after_entry
  log_such acts Lawful step before [] keys legal all = all
  log_such {R} acts Lawful step before (e ∷ es) keys legal all =
      let now = after_log acts [] before in
      let next : AreSuch key Such (after_entry acts now e) = after_such now (acts now e.op e.reply) all (step now e.op e.reply keys.0 all legal.0) in
      let same = after_log-push acts [] before e in
      subst (λ (m : Moment P T). AreSuch key Such (after_log acts m es)) same
      (log_such acts Lawful step (before ++ e ∷ []) es keys.1 legal.1 (subst (λ (m : Moment P T). AreSuch key Such m) (sym same) next))
