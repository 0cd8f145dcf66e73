-- What each act does to what an agent is owed.
use Rattle.std.proofs.Common.{◌≡◌, ℕ, suc, zero, ◌+◌, ◌-◌, ◌≤◌, Bool, true, false, ◌||◌, if◌then◌else◌, nat_eq, nat_lt, List, [], ◌∷◌, ◌++◌, length, drop, take, refl, ap, sym, ◌∙◌, subst, arith, length-append, length-drop}
use Rattle.std.specs.Prelude.{slice_get, map}
use Rattle.std.specs.Option.{option_to_list}
use Rattle.std.specs.List.{list_any}
use Rattle.std.proofs.lemmas.List.{append-nil, drop-append-le}
use Rattle.qd_scheme.specs.declared.key.Key.{Key}
use Rattle.qd_sub.specs.Acts.{Act, Subscribed, Unsubscribed, Closed, Came, Gave}
use Rattle.qd_sub.specs.Subscriptions.{subscribed}
use Rattle.qd_sub.specs.Logs.{after}
use Rattle.qd_sub.specs.Holding.{fresh}
use Rattle.qd_sub.proofs.SinceLaws.{same_number}
use Rattle.qd_stream.specs.declared.item.StreamItem.{StreamItem}
use Rattle.qd_stream.specs.declared.item.StreamItem.TheVariants.{Lost}
use Rattle.qd_stream.specs.Items.{key_of_item}
use Rattle.qd_stream.specs.Waiting.{StreamMoment, matched, Gone, after_match, after_gift, gone, waiting}
use Rattle.qd_stream.specs.Losses.{weight_of, loss_of, lossy_keys}
use Rattle.qd_stream.specs.Taking.{reports, taken}
use Rattle.qd_stream.specs.Holding.{is_owed}
use Rattle.qd_stream.specs.Owed.{Loss, Owed, nothing, losses, owed_at, with_first_lost, with_item, report, first_owed, after_first, owes, IsOwed}
use Rattle.qd_stream.proofs.LossLaws.{is_of, lost_but, losses-end, losses-others, losses-first, is_lost-losses}
use Rattle.qd_stream.proofs.WaitingLaws.{few-gone, drop-none, drop-twice, within-match, came-fits, came-over}

module _ (cap a : ℕ) where
  pub owed-empty : IsOwed cap a nothing []
  unfolding owed_at waiting gone matched losses fresh
  owed-empty = record { is = refl; within = omega arith }

  -- an act that is not about what a is owed
  pub owed-sub : (o : Owed) (b : ℕ) (k : Key) (limit : ℕ) (now : StreamMoment) → IsOwed cap a o now → IsOwed cap a o (Subscribed b k limit ∷ now)
  unfolding owed_at waiting gone matched
  owed-sub o b k limit now h = record { is = h.is; within = h.within }

  pub owed-unsub : (o : Owed) (b : ℕ) (k : Key) (now : StreamMoment) → IsOwed cap a o now → IsOwed cap a o (Unsubscribed b k ∷ now)
  unfolding owed_at waiting gone matched
  owed-unsub o b k now h = record { is = h.is; within = h.within }

  -- nothing is owed after a Close
  pub owed-closed : (o : Owed) (now : StreamMoment) → IsOwed cap a o now → IsOwed cap a nothing (Closed a ∷ now)
  unfolding owed_at waiting gone matched losses fresh
  owed-closed o now h = record { is = rw (same_number a) refl; within = rw (same_number a) (omega arith) }

  pub owed-closed_other : (o : Owed) (b : ℕ) (now : StreamMoment) → nat_eq a b ≡ false → IsOwed cap a o now → IsOwed cap a o (Closed b ∷ now)
  unfolding owed_at waiting gone matched
  owed-closed_other o b now e h = record { is = rw e h.is; within = rw e h.within }

  pub owed-gave_other : (o : Owed) (b : ℕ) (k : Key) (item : StreamItem) (now : StreamMoment) → nat_eq a b ≡ false → IsOwed cap a o now → IsOwed cap a o (Gave b k item ∷ now)
  unfolding owed_at waiting gone matched
  owed-gave_other o b k item now e h = record { is = rw e h.is; within = rw e h.within }

  -- an item to whose key a is not subscribed
  pub owed-unmatched : (o : Owed) (k : Key) (item : StreamItem) (now : StreamMoment) → subscribed a k now ≡ false → IsOwed cap a o now → IsOwed cap a o (Came k item ∷ now)
  unfolding owed_at waiting gone matched
  owed-unmatched o k item now e h = record { is = rw e h.is; within = rw e h.within }

  losses-more : (xs ws : List StreamItem) → losses (xs ++ option_to_list (slice_get ws 0)) ≡ with_first_lost (losses xs) ws
  losses-more xs [] = ap losses (append-nil xs)
  losses-more xs (w ∷ ws) = losses-end xs w

  -- what is owed, of these matched items
  abbrev owed_of : List StreamItem → Gone → Owed
  owed_of items g = record { items = drop g.count items; lost = losses g.unreported }

  came-owed : (items : List StreamItem) (item : StreamItem) (g : Gone) → g.count ≤ length items → length items ≤ g.count + cap →
      owed_of (items ++ item ∷ []) (after_match cap (items ++ item ∷ []) g) ≡ with_item cap (owed_of items g) item
  unfolding with_item
  came-owed items item g within few =
      let ahead : drop g.count (items ++ item ∷ []) ≡ drop g.count items ++ item ∷ [] = drop-append-le g.count items (item ∷ []) within in
      let one : g.count + 1 ≡ 1 + g.count = omega arith in
      let fits : Owed = record { items = drop g.count items ++ item ∷ []; lost = losses g.unreported } in
      let over : Owed = record { items = drop 1 (drop g.count items ++ item ∷ []); lost = with_first_lost (losses g.unreported) (drop g.count items ++ item ∷ []) } in
      let go : (c : Bool) → nat_lt (length (drop g.count items)) cap ≡ c → owed_of (items ++ item ∷ []) (after_match cap (items ++ item ∷ []) g) ≡ (if c then fits else over) =
      elim [
        | true ↦ λ e. (let same = came-fits cap items item g within few e in ap (owed_of (items ++ item ∷ [])) same ∙ ap (λ (is : List StreamItem). let o : Owed = record { items = is; lost = losses g.unreported } in o) ahead)
        | false ↦ λ e. (let past = came-over cap items item g within few e in
            ap (owed_of (items ++ item ∷ [])) past
            ∙ (λ i. let o : Owed = record {
              items = (drop-twice (g.count + 1) 1 g.count (items ++ item ∷ []) one ∙ ap (drop 1) ahead) i;
              lost = losses-more g.unreported (drop g.count items ++ item ∷ []) i;
            } in o))
      ] in
      go (nat_lt (length (drop g.count items)) cap) refl

  -- an item to whose key a is subscribed
  pub owed-came : (o : Owed) (k : Key) (item : StreamItem) (now : StreamMoment) → subscribed a k now ≡ true → IsOwed cap a o now → IsOwed cap a (with_item cap o item) (Came k item ∷ now)
  unfolding owed_at waiting gone matched
  owed-came o k item now e h =
      let more : length (matched a now ++ item ∷ []) ≡ length (matched a now) + 1 = length-append (matched a now) (item ∷ []) in
      let le : (gone cap a now).count ≤ length (matched a now ++ item ∷ []) = omega (arith, h.within) in
      record {
        is = rw e (came-owed (matched a now) item (gone cap a now) h.within (few-gone cap a now) ∙ ap (λ p. with_item cap p item) h.is);
        within = rw e (within-match cap (matched a now ++ item ∷ []) (gone cap a now) le);
      }

  no-losses : (items : List StreamItem) → losses items ≡ [] → items ≡ []
  no-losses [] e = refl
  no-losses (i ∷ is) e = let f = sym (losses-first i is) ∙ e in absurd (cc f)

  -- what a report leaves of the dropped items
  reported : (k : Key) (count : ℕ) (items : List StreamItem) (l : Loss) (ls : List Loss) → losses items ≡ l ∷ ls → k ≡ l.key → ((after_gift k count items).count ≡ count) × (losses (after_gift k count items).unreported ≡ ls)
  unfolding losses fresh
  reported k count [] l ls e f = absurd (cc e)
  reported k count (i ∷ is) l ls e f =
      let first = losses-first i is in
      let both = sym first ∙ e in
      let head : key_of_item i ≡ l.key = ap (λ (x : Loss). x.key) (heads _ _ _ _ both) in
      let rest : lost_but (key_of_item i) (losses (i ∷ is)) ≡ ls = tails _ _ _ _ both in
      let same : k ≡ key_of_item i = f ∙ sym head in
      (refl, losses-others k (i ∷ is) ∙ ap (λ j. lost_but j (losses (i ∷ is))) same ∙ rest)
    where
      heads : (x y : Loss) (xs ys : List Loss) → x ∷ xs ≡ y ∷ ys → x ≡ y
      heads x y xs ys h = cc

      tails : (x y : Loss) (xs ys : List Loss) → x ∷ xs ≡ y ∷ ys → xs ≡ ys
      tails x y xs ys h = cc

  -- the first loss is reported
  pub owed-reported : (items : List StreamItem) (l : Loss) (ls : List Loss) (item : StreamItem) (now : StreamMoment) → IsOwed cap a (record { items = items; lost = l ∷ ls }) now → IsOwed cap a (record { items = items; lost = ls }) (Gave a l.key item ∷ now)
  unfolding owed_at waiting gone matched
  owed-reported items l ls item now h =
      let g = gone cap a now in
      let t = reported l.key g.count g.unreported l ls (ap (λ o. o.lost) h.is) refl in
      let left : drop g.count (matched a now) ≡ items = ap (λ (o : Owed). o.items) h.is in
      record {
        is = rw (same_number a) (λ i. let o : Owed = record { items = (ap (λ n. drop n (matched a now)) t.0 ∙ left) i; lost = t.1 i } in o);
        within = rw (same_number a) (subst (λ n. n ≤ length (matched a now)) (sym t.0) h.within);
      }

  gift-none : (k : Key) (count : ℕ) (items : List StreamItem) → items ≡ [] → after_gift k count items ≡ record { count = count + 1; unreported = [] }
  gift-none k count items e = ap (after_gift k count) e

  -- the first item is given, where no loss is unreported
  pub owed-given : (k : Key) (one : StreamItem) (items : List StreamItem) (item : StreamItem) (now : StreamMoment) → IsOwed cap a (record { items = one ∷ items; lost = [] }) now → IsOwed cap a (record { items = items; lost = [] }) (Gave a k item ∷ now)
  unfolding owed_at waiting gone matched losses fresh
  owed-given k one items item now h =
      let g = gone cap a now in
      let none = no-losses g.unreported (ap (λ o. o.lost) h.is) in
      let left : drop g.count (matched a now) ≡ one ∷ items = ap (λ o. o.items) h.is in
      let is = gift-none k g.count g.unreported none in
      let next : g.count + 1 ≡ 1 + g.count = omega arith in
      let size : length (drop g.count (matched a now)) ≡ suc (length items) = ap length left in
      let le : g.count + 1 ≤ length (matched a now) = omega (arith, length-drop g.count (matched a now), size) in
      record {
        is = rw (same_number a) (ap (owed_of (matched a now)) is ∙ (λ i. let o : Owed = record { items = (drop-twice (g.count + 1) 1 g.count (matched a now) next ∙ ap (drop 1) left) i; lost = [] } in o));
        within = rw (same_number a) (subst (λ (n : Gone). n.count ≤ length (matched a now)) (sym is) le);
      }

  reports-owed : (items : List StreamItem) (ks : List Key) → map (λ k. Lost k (weight_of k items)) ks ≡ map report (map (λ k. let l : Loss = record { key = k; count = weight_of k items } in l) ks)
  reports-owed items [] = refl
  reports-owed items (k ∷ ks) = ap (λ rs. Lost k (weight_of k items) ∷ rs) (reports-owed items ks)

  -- the answer to a Take is the first of what is owed
  pub taken-owed : (most : ℕ) (now : StreamMoment) → taken cap a most now ≡ first_owed most (owed_at cap a now)
  unfolding taken reports loss_of lossy_keys owed_at losses first_owed
  taken-owed most now = ap (λ rs. take most (rs ++ waiting cap a now)) (reports-owed (gone cap a now).unreported (fresh [] (map key_of_item (gone cap a now).unreported)))

  -- what is owed tells whether anything of a key is
  pub is_owed-owes : (k : Key) (now : StreamMoment) → is_owed cap a k now ≡ owes (owed_at cap a now) k
  unfolding is_owed owed_at
  is_owed-owes k now = ap (λ b. b || list_any (is_of k) (waiting cap a now)) (sym (is_lost-losses (gone cap a now).unreported k))

  -- an item is given
  abbrev pub give : StreamItem → Act StreamItem StreamItem
  give i = Gave a (key_of_item i) i

  left-lost : (n : ℕ) (items : List StreamItem) (l : Loss) (ls : List Loss) → after_first (suc n) (record { items = items; lost = l ∷ ls }) ≡ after_first n (record { items = items; lost = ls })
  unfolding after_first
  left-lost n items l ls = let same : suc n - suc (length ls) ≡ n - length ls = omega arith in λ i. record { items = drop (same i) items; lost = drop n ls }

  left-item : (n : ℕ) (one : StreamItem) (items : List StreamItem) → after_first (suc n) (record { items = one ∷ items; lost = [] }) ≡ after_first n (record { items = items; lost = [] })
  unfolding after_first
  left-item n one items =
      let more : suc n - 0 ≡ suc n = omega arith in
      let same : n - 0 ≡ n = omega arith in
      λ i. record { items = (ap (λ k. drop k (one ∷ items)) more ∙ sym (ap (λ k. drop k items) same)) i; lost = nowhere n i }
    where
      nowhere : (k : ℕ) → drop (suc k) (let ls : List Loss = [] in ls) ≡ drop k (let ls : List Loss = [] in ls)
      nowhere zero = refl
      nowhere (suc k) = refl

  left-none : (n : ℕ) → after_first n nothing ≡ nothing
  unfolding after_first
  left-none n = λ i. record { items = drop-none (n - 0) i; lost = drop-none n i }

  left-all : (items : List StreamItem) (lost : List Loss) → after_first 0 (record { items = items; lost = lost }) ≡ record { items = items; lost = lost }
  unfolding after_first
  left-all items lost = let zeros : 0 - length lost ≡ 0 = omega arith in λ i. record { items = drop (zeros i) items; lost = lost }

  -- a Take leaves the rest of what is owed
  pub owed-gifts : (most : ℕ) (items : List StreamItem) (lost : List Loss) (now : StreamMoment) → IsOwed cap a (record { items = items; lost = lost }) now →
      IsOwed cap a (after_first most (record { items = items; lost = lost })) (after now (map give (first_owed most (record { items = items; lost = lost }))))
  unfolding first_owed after
  owed-gifts zero items lost now h = subst (λ o. IsOwed cap a o now) (sym (left-all items lost)) h
  owed-gifts (suc n) items (l ∷ ls) now h =
      subst (λ o. IsOwed cap a o (after now (map give (first_owed (suc n) (record { items = items; lost = l ∷ ls }))))) (sym (left-lost n items l ls))
      (owed-gifts n items ls (Gave a l.key (report l) ∷ now) (owed-reported items l ls (report l) now h))
  owed-gifts (suc n) [] [] now h = subst (λ o. IsOwed cap a o now) (sym (left-none (suc n))) h
  owed-gifts (suc n) (i ∷ is) [] now h =
      subst (λ o. IsOwed cap a o (after now (map give (first_owed (suc n) (record { items = i ∷ is; lost = [] }))))) (sym (left-item n i is))
      (owed-gifts n is [] (give i ∷ now) (owed-given (key_of_item i) i is i now h))
