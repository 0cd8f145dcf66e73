-- In the logs of the stream no key of another stripe is known.
use Rattle.std.proofs.Common.{◌≡◌, inl, inr, ℕ, ◌-◌, Bool, true, false, not, nat_eq, if◌then◌else◌, List, [], ◌∷◌, ◌++◌, length, map, drop, sym, subst}
use Rattle.std.specs.Prelude.{nat_lt, slice_get}
use Rattle.std.specs.List.{AllByRecursion}
use Rattle.std.specs.Option.{option_to_list}
use Rattle.qd_scheme.specs.declared.key.Key.{Key}
use Rattle.qd_scheme.specs.Keys.{key_eq}
use Rattle.qd_scheme.specs.Stripes.{stripe_of}
use Rattle.qd_sub.specs.declared.op.Op.TheVariants.{Add, Remove, Close, Put, Take, Watch}
use Rattle.qd_sub.specs.declared.op.Reply.TheVariants.{Done, TooManyKeys, TooManySubs}
use Rattle.qd_sub.specs.Acts.{Subscribed, Unsubscribed, Closed, Came, Gave, Told, Full}
use Rattle.qd_sub.specs.Subscriptions.{subscribed}
use Rattle.qd_sub.specs.Holding.{fresh}
use Rattle.qd_stream.specs.declared.item.StreamItem.{StreamItem}
use Rattle.qd_stream.specs.declared.item.StreamItem.TheVariants.{Lost}
use Rattle.qd_stream.specs.Items.{key_of_item}
use Rattle.qd_stream.specs.Waiting.{StreamMoment, matched, Gone, none_gone, after_match, after_gift, gone, waiting}
use Rattle.qd_stream.specs.Losses.{loss_of, lossy_keys}
use Rattle.qd_stream.specs.Taking.{reports, taken}
use Rattle.qd_stream.specs.Legal.{StreamOp, StreamReply, stream_acts, moment_of, too_many_keys, too_many_subs, reply_to, IsLawful, Follows, IsLegal}
use Rattle.qd_sub.specs.Logs.{after_log}
use Rattle.qd_hub.specs.Hubs.{op_keys}
use Rattle.qd_hub.specs.OfStripe.{KeepsStripes}
use Rattle.qd_hub.proofs.Staying.{AreSuch, map_all, append_all, take_all, drop_all, if_all, filter_all, place_all, fresh_all, watched_such, log_such, unknown}
use Rattle.qd_hub.proofs.StayingLogs.{GivesSuch, acts_such, if_gives, keys_by}

module _ (Such : Key → Type 0) where
  -- the item is of such a key
  abbrev Fits : StreamItem → Type 0
  Fits item = Such (key_of_item item)

  matched_such : (a : ℕ) (now : StreamMoment) → AreSuch key_of_item Such now → AllByRecursion Fits (matched a now)
  unfolding matched
  matched_such a [] all = tt
  matched_such a (Came k item ∷ past) all =
      if_all Fits (subscribed a k past) (matched a past ++ item ∷ []) (matched a past) (append_all Fits (matched a past) (item ∷ []) (matched_such a past all.1) (all.0.1, tt)) (matched_such a past all.1)
  matched_such a (Closed b ∷ past) all = if_all Fits (nat_eq a b) [] (matched a past) tt (matched_such a past all.1)
  matched_such a (Subscribed b j limit ∷ past) all = matched_such a past all.1
  matched_such a (Unsubscribed b j ∷ past) all = matched_such a past all.1
  matched_such a (Gave b j item ∷ past) all = matched_such a past all.1
  matched_such a (Told w j total ∷ past) all = matched_such a past all.1
  matched_such a (Full b j ∷ past) all = matched_such a past all.1

  if_gone : (b : Bool) (g h : Gone) → AllByRecursion Fits g.unreported → AllByRecursion Fits h.unreported → AllByRecursion Fits (if b then g else h).unreported
  if_gone true g h all too = all
  if_gone false g h all too = too

  match_such : (cap : ℕ) (items : List StreamItem) (g : Gone) → AllByRecursion Fits items → AllByRecursion Fits g.unreported → AllByRecursion Fits (after_match cap items g).unreported
  match_such cap items g all too =
      if_gone (nat_lt g.count (length items - cap)) (record { count = length items - cap; unreported = g.unreported ++ option_to_list (slice_get items g.count) }) g
      (append_all Fits g.unreported (option_to_list (slice_get items g.count)) too (place_all Fits items g.count all)) too

  gift_such : (k : Key) (count : ℕ) (items : List StreamItem) → AllByRecursion Fits items → AllByRecursion Fits (after_gift k count items).unreported
  gift_such k count [] all = tt
  gift_such k count (item ∷ items) all = filter_all Fits (λ i. not (key_eq k (key_of_item i))) (item ∷ items) all

  gone_such : (cap a : ℕ) (now : StreamMoment) → AreSuch key_of_item Such now → AllByRecursion Fits (gone cap a now).unreported
  unfolding gone
  gone_such cap a [] all = tt
  gone_such cap a (Came k item ∷ past) all =
      if_gone (subscribed a k past) (after_match cap (matched a past ++ item ∷ []) (gone cap a past)) (gone cap a past)
      (match_such cap (matched a past ++ item ∷ []) (gone cap a past) (append_all Fits (matched a past) (item ∷ []) (matched_such a past all.1) (all.0.1, tt)) (gone_such cap a past all.1))
      (gone_such cap a past all.1)
  gone_such cap a (Gave b k item ∷ past) all =
      if_gone (nat_eq a b) (after_gift k (gone cap a past).count (gone cap a past).unreported) (gone cap a past) (gift_such k (gone cap a past).count (gone cap a past).unreported (gone_such cap a past all.1)) (gone_such cap a past all.1)
  gone_such cap a (Closed b ∷ past) all = if_gone (nat_eq a b) none_gone (gone cap a past) tt (gone_such cap a past all.1)
  gone_such cap a (Subscribed b j limit ∷ past) all = gone_such cap a past all.1
  gone_such cap a (Unsubscribed b j ∷ past) all = gone_such cap a past all.1
  gone_such cap a (Told w j total ∷ past) all = gone_such cap a past all.1
  gone_such cap a (Full b j ∷ past) all = gone_such cap a past all.1

  taken_such : (cap a most : ℕ) (now : StreamMoment) → AreSuch key_of_item Such now → AllByRecursion Fits (taken cap a most now)
  unfolding taken reports lossy_keys waiting
  taken_such cap a most now all =
      take_all Fits most (map (λ k. Lost k (loss_of cap a now k)) (fresh [] (map key_of_item (gone cap a now).unreported)) ++ drop (gone cap a now).count (matched a now))
      (append_all Fits (map (λ k. Lost k (loss_of cap a now k)) (fresh [] (map key_of_item (gone cap a now).unreported))) (drop (gone cap a now).count (matched a now))
      (map_all Fits (λ k. Lost k (loss_of cap a now k)) (fresh [] (map key_of_item (gone cap a now).unreported)) (fresh_all Such [] (map key_of_item (gone cap a now).unreported) (map_all Such key_of_item (gone cap a now).unreported (gone_such cap a now all))))
      (drop_all Fits (gone cap a now).count (matched a now) (matched_such a now all)))

  reply_such : (cap : ℕ) (now : StreamMoment) (op : StreamOp) → AreSuch key_of_item Such now → GivesSuch key_of_item Such (reply_to cap now op)
  unfolding reply_to
  reply_such cap now (Add agent subs) all =
      if_gives key_of_item Such (too_many_keys cap now subs.items) TooManyKeys (if too_many_subs cap now agent subs.items then TooManySubs else Done) tt (if_gives key_of_item Such (too_many_subs cap now agent subs.items) TooManySubs Done tt tt)
  reply_such cap now (Remove agent keys) all = tt
  reply_such cap now (Close agent) all = tt
  reply_such cap now (Put items) all = tt
  reply_such cap now (Take agent most out) all = taken_such cap agent most now all
  reply_such cap now (Watch watcher most out) all = watched_such key_of_item Such watcher most now all

  pub lawful_such : (cap : ℕ) (now : StreamMoment) (op : StreamOp) (reply : StreamReply) → AllByRecursion Such (op_keys key_of_item op) → AreSuch key_of_item Such now → IsLawful cap now op reply → AreSuch key_of_item Such (stream_acts now op reply)
  unfolding IsLawful
  lawful_such cap now op reply keys all (inl e) = acts_such key_of_item key_of_item Such now op reply keys all (subst (λ (r : StreamReply). GivesSuch key_of_item Such r) (sym e) (reply_such cap now op all))
  lawful_such cap now op reply keys all (inr want) = acts_such key_of_item key_of_item Such now op reply keys all (subst (λ (r : StreamReply). GivesSuch key_of_item Such r) (sym want.1) tt)

pub stream_keeps : KeepsStripes IsLegal moment_of key_of_item
unfolding moment_of Follows after_log
stream_keeps terms log stripes stripe k legal are out =
    unknown key_of_item (λ j. stripe_of j stripes ≡ stripe) k out (moment_of log)
    (log_such key_of_item (λ j. stripe_of j stripes ≡ stripe) stream_acts (IsLawful terms.cap) (lawful_such (λ j. stripe_of j stripes ≡ stripe) terms.cap) [] log (keys_by key_of_item stripes stripe log are) legal tt)
