-- In the logs of the ticker no key of another stripe is known.
use Rattle.std.proofs.Common.{◌≡◌, inl, inr, if◌then◌else◌, Option, Some, None, List, [], ◌∷◌, ◌++◌, take, sym, subst}
use Rattle.std.specs.List.{AllByRecursion, filter_map, cons_option}
use Rattle.qd_scheme.specs.declared.key.Key.{Key}
use Rattle.qd_scheme.specs.declared.key.Record.{Record}
use Rattle.qd_scheme.specs.Keys.{key_eq}
use Rattle.qd_scheme.specs.Stripes.{stripe_of}
use Rattle.qd_sub.specs.declared.op.Op.{Op}
use Rattle.qd_sub.specs.declared.op.Op.TheVariants.{Add, Remove, Close, Put, Take, Watch}
use Rattle.qd_sub.specs.declared.op.Reply.{Reply}
use Rattle.qd_sub.specs.declared.op.Reply.TheVariants.{Done, TooManyKeys, TooManySubs}
use Rattle.qd_sub.specs.Acts.{Act, Subscribed, Unsubscribed, Closed, Came, Gave, Told, Full}
use Rattle.qd_sub.specs.Subscriptions.{wanted, and_put, kept}
use Rattle.qd_ticker.specs.Pending.{TickerMoment, last, last_record, queue_of, taken}
use Rattle.qd_ticker.specs.Legal.{record_key, ticker_acts, moment_of, too_many_keys, too_many_subs, reply_to, IsLawful, Follows, IsLegal}
use Rattle.qd_sub.specs.Logs.{after_log}
use Rattle.qd_hub.specs.Hubs.{op_keys}
use Rattle.qd_hub.specs.OfStripe.{KeepsStripes}
use Rattle.qd_hub.proofs.Staying.{AreSuch, IsSuch, if_all, append_all, watched_such, log_such, unknown}
use Rattle.qd_hub.proofs.StayingLogs.{GivesSuch, acts_such, if_gives, keys_by}

module _ (Such : Key → Type 0) where
  put_such : (k : Key) (act : Act Record Record) (items : List Record) → IsSuch record_key Such act → AllByRecursion (λ (r : Record). Such r.key) items → AllByRecursion (λ (r : Record). Such r.key) (and_put k act items)
  put_such k (Came j item) items such all = if_all (λ (r : Record). Such r.key) (key_eq k j) (items ++ item ∷ []) items (append_all (λ (r : Record). Such r.key) items (item ∷ []) all (such.1, tt)) all
  put_such k (Subscribed b j limit) items such all = all
  put_such k (Unsubscribed b j) items such all = all
  put_such k (Closed b) items such all = all
  put_such k (Gave b j item) items such all = all
  put_such k (Told w j total) items such all = all
  put_such k (Full b j) items such all = all

  kept_such : (k : Key) (now : TickerMoment) → AreSuch record_key Such now → AllByRecursion (λ (r : Record). Such r.key) (kept k now)
  unfolding kept
  kept_such k [] all = tt
  kept_such k (act ∷ past) all = if_all (λ (r : Record). Such r.key) (wanted k (act ∷ past)) (and_put k act (kept k past)) [] (put_such k act (kept k past) all.0 (kept_such k past all.1)) tt

  abbrev IfRecord : Option Record → Type 0
  IfRecord None = Unit {0}
  IfRecord (Some r) = Such r.key

  last_such : (items : List Record) → AllByRecursion (λ (r : Record). Such r.key) items → IfRecord (last items)
  last_such [] all = tt
  last_such (r ∷ []) all = all.0
  last_such (r ∷ s ∷ rest) all = last_such (s ∷ rest) all.1

  record_such : (k : Key) (now : TickerMoment) → AreSuch record_key Such now → IfRecord (last_record k now)
  unfolding last_record
  record_such k now all = last_such (kept k now) (kept_such k now all)

  cons_such : (o : Option Record) (rs : List Record) → IfRecord o → AllByRecursion (λ (r : Record). Such r.key) rs → AllByRecursion (λ (r : Record). Such r.key) (cons_option o rs)
  cons_such None rs such all = all
  cons_such (Some r) rs such all = (such, all)

  records_such : (now : TickerMoment) → AreSuch record_key Such now → (ks : List Key) → AllByRecursion (λ (r : Record). Such r.key) (filter_map (λ k. last_record k now) ks)
  records_such now all [] = tt
  records_such now all (k ∷ ks) = cons_such (last_record k now) (filter_map (λ j. last_record j now) ks) (record_such k now all) (records_such now all ks)

  reply_such : (now : TickerMoment) (op : Op Record Record) → AreSuch record_key Such now → GivesSuch record_key Such (reply_to now op)
  unfolding reply_to taken
  reply_such now (Add agent subs) all =
      if_gives record_key Such (too_many_keys now subs.items) TooManyKeys (if too_many_subs now agent subs.items then TooManySubs else Done) tt (if_gives record_key Such (too_many_subs now agent subs.items) TooManySubs Done tt tt)
  reply_such now (Remove agent keys) all = tt
  reply_such now (Close agent) all = tt
  reply_such now (Put items) all = tt
  reply_such now (Take agent most out) all = records_such now all (take most (queue_of agent now))
  reply_such now (Watch watcher most out) all = watched_such record_key Such watcher most now all

  lawful_such : (now : TickerMoment) (op : Op Record Record) (reply : Reply Record) → AllByRecursion Such (op_keys record_key op) → AreSuch record_key Such now → IsLawful now op reply → AreSuch record_key Such (ticker_acts now op reply)
  unfolding IsLawful
  lawful_such now op reply keys all (inl e) = acts_such record_key record_key Such now op reply keys all (subst (λ (r : Reply Record). GivesSuch record_key Such r) (sym e) (reply_such now op all))
  lawful_such now op reply keys all (inr want) = acts_such record_key record_key Such now op reply keys all (subst (λ (r : Reply Record). GivesSuch record_key Such r) (sym want.1) tt)

pub ticker_keeps : KeepsStripes IsLegal moment_of record_key
unfolding moment_of Follows after_log
ticker_keeps terms log stripes stripe k legal are out =
    unknown record_key (λ j. stripe_of j stripes ≡ stripe) k out (moment_of log)
    (log_such record_key (λ j. stripe_of j stripes ≡ stripe) ticker_acts IsLawful (lawful_such (λ j. stripe_of j stripes ≡ stripe)) [] log (keys_by record_key stripes stripe log are) legal tt)
