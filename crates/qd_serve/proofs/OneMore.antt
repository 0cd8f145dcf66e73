-- The hub takes in the clients of one more link, and the link is served.
use Rattle.std.proofs.Common.{◌≡◌, ℕ, zero, suc, arith, slice_index_or, ◌^◌, ◌+◌, List, [], ◌∷◌, ◌++◌, Option, inl, inr, refl, sym, ap, ◌∙◌, subst, add-one}
use Rattle.std.specs.Prelude.{map, All}
use Rattle.std.proofs.lemmas.List.Elements.{All-append}
use Rattle.qd_gate.specs.declared.machine.Entry.{Entry}
use Rattle.qd_gate.specs.declared.machine.Terms.{Terms}
use Rattle.qd_gate.specs.Passes.{Pass, IsSamePass}
use Rattle.qd_scheme.specs.declared.defs.RecordDef.{RecordDef}
use Rattle.qd_net.specs.Meeting.{NetState, HangsUp}
use Rattle.qd_hub.specs.Clients.{Client}
use Rattle.qd_hub.specs.Configs.{Sizes}
use Rattle.qd_path.specs.declared.side.Side.{Side}
use Rattle.qd_path.specs.declared.side.Side.TheVariants.{Down}
use Rattle.qd_path.specs.Lists.{Lists, GrewBy}
use Rattle.qd_calls.proofs.Adding.{grew_more}
use Rattle.qd_session.specs.declared.ends.InEnd.{InEnd}
use Rattle.qd_session.specs.Ins.{Sourced}
use Rattle.qd_replies.specs.Outs.{Sunk}
use Rattle.qd_link.specs.declared.ends.OutEnd.{OutEnd}
use Rattle.qd_link.specs.Closing.{IsClosed}
use Rattle.qd_link.specs.LinkIns.{LinkedIn}
use Rattle.qd_link.specs.LinkOuts.{LinkedOut}
use Rattle.qd_serve.specs.declared.ends.Told.{Told}
use Rattle.qd_serve.specs.Homes.{IsOf, AreApart, AreSame}
use Rattle.qd_serve.specs.Serving.{Served, IsServed, numbers}
use Rattle.qd_serve.specs.Steps.{IsBack, HasTaken, TakesIn}
use Rattle.qd_serve.proofs.Listing.{AreFresh, AreUnions, lists_of, split_stands, split_fresh, split_again, split_apart, taken_stands, taken_unions, unions_grow, come_home, stay_home}
use Rattle.qd_serve.proofs.Counting.{ends_more}

module _ {O R : Type 0} where
  same_then : (p q r : Pass O R) → IsSamePass p q → IsSamePass q r → IsSamePass p r
  same_then p q r a b = (b.0 ∙ a.0, b.1 ∙ a.1, b.2 ∙ a.2)

  closed_same : (legal : Terms → List (Entry O R) → Type 0) (op : O) (p q : Pass O R) → IsClosed legal op p q → IsSamePass p q
  closed_same legal op p q (inl (reply, g)) = g.same
  closed_same legal op p q (inr (g, f)) = g.same

read_same : (defs : List RecordDef) (n k : ℕ) (end : InEnd) (l m : Lists) (s t : Sourced) → LinkedIn defs n (Down k) end l m s t → AreSame n l m
read_same defs n k end l m s t r = record {
  on_ticker = λ i h. same_then (l.ticker i) (r.behind.ticker i) (m.ticker i) (same_then (l.ticker i) (r.read.between.ticker i) (r.behind.ticker i) (r.read.grew.on_ticker i h).same (r.read.last.on_ticker i h).same) (closed_same _ _ (r.behind.ticker i) (m.ticker i) (r.left.on_ticker i h));
  on_stream = λ i h. same_then (l.stream i) (r.behind.stream i) (m.stream i) (same_then (l.stream i) (r.read.between.stream i) (r.behind.stream i) (r.read.grew.on_stream i h).same (r.read.last.on_stream i h).same) (closed_same _ _ (r.behind.stream i) (m.stream i) (r.left.on_stream i h));
  on_history = λ i h. same_then (l.history i) (r.behind.history i) (m.history i) (same_then (l.history i) (r.read.between.history i) (r.behind.history i) (r.read.grew.on_history i h).same (r.read.last.on_history i h).same) (closed_same _ _ (r.behind.history i) (m.history i) (r.left.on_history i h));
}

written_same : (defs : List RecordDef) (n : ℕ) (side : Side) (end : OutEnd) (limit : ℕ) (l m : Lists) (o w : Sunk) → LinkedOut defs n side end limit l m o w → AreSame n l m
written_same defs n side end limit l m o w r = record {
  on_ticker = λ i h. same_then (l.ticker i) (r.between.ticker i) (m.ticker i) (r.grew.on_ticker i h).same (r.last.on_ticker i h).same;
  on_stream = λ i h. same_then (l.stream i) (r.between.stream i) (m.stream i) (r.grew.on_stream i h).same (r.last.on_stream i h).same;
  on_history = λ i h. same_then (l.history i) (r.between.history i) (m.history i) (r.grew.on_history i h).same (r.last.on_history i h).same;
}

-- a link that was served is so while the log goes on
stays_served : (defs : List RecordDef) (n : ℕ) (coming : Option (List (List ℕ))) (l p q : Lists) (x : Served) → GrewBy n [] p q → IsServed defs n coming l p x → IsServed defs n coming l q x
stays_served defs n coming l p q x g s = record {
  reader = s.reader;
  reader_then = s.reader_then;
  writer = s.writer;
  writer_then = s.writer_then;
  source = s.source;
  source_then = s.source_then;
  sink = s.sink;
  sink_then = s.sink_then;
  read = s.read;
  written = s.written;
  reader_home = stay_home n l s.reader s.reader_then p q s.reader_home g;
  writer_home = stay_home n l s.writer s.writer_then p q s.writer_home g;
  apart = s.apart;
  comes = s.comes;
  sent = s.sent;
  unwritten = s.unwritten;
  sound = s.sound;
  wrote = s.wrote;
}

all_and : {A : Type 0} (P Q : A → Type 0) (xs : List A) (x : A) → ((y : A) → P y → Q y) → All P xs → Q x → All Q (xs ++ x ∷ [])
all_and P Q xs x f all q = All-append Q xs (x ∷ []) (λ k d h. f (slice_index_or xs k d) (all k d h)) (only q)
  where
    only : Q x → All Q (x ∷ [])
    only q zero d h = q
    only q (suc k) d h = absurd (omega (arith, h))

map_snoc : {A B : Type 0} (f : A → B) (xs : List A) (y : A) → map f (xs ++ y ∷ []) ≡ map f xs ++ f y ∷ []
map_snoc f [] y = refl
map_snoc {B = B} f (x ∷ xs) y = ap (λ (l : List B). f x ∷ l) (map_snoc f xs y)

-- what a link left, where all clients have so many stripes
record Ran (defs : List RecordDef) (n k : ℕ) (in_end : InEnd) (out_end : OutEnd) (l : Lists) (reader writer : Client) (s t : Sourced) (o w : Sunk) : Type 0 where
  lr : Lists
  mr : Lists
  lw : Lists
  mw : Lists
  fresh_reader : AreFresh n l lr
  fresh_writer : AreFresh n l lw
  apart : AreApart n lr lw
  reader_stands : IsOf reader mr
  writer_stands : IsOf writer mw
  read : LinkedIn defs n (Down k) in_end lr mr s t
  written : LinkedOut defs n (Down k) out_end (2 ^ 63) lw mw o w

ran : (c : Client) (defs : List RecordDef) (coming : Option (List (List ℕ))) (k : ℕ) (in_end : InEnd) (out_end : OutEnd) (reader writer : Client) (t : Sourced) (w : Sunk) (b : IsBack c defs coming k in_end out_end reader writer t w) (l : Lists)
    → IsOf c l → Ran defs c.sizes.stripes k in_end out_end l reader writer b.s t b.o w
ran c defs coming k in_end out_end reader writer t w b l are =
    let j = b.job.job in
    let lr : Lists = lists_of b.reader_first l in
    let lw : Lists = lists_of b.writer_first lr in
    let sr = split_stands c b.reader_first l j.first are in
    let sw = split_stands b.reader_first b.writer_first lr j.second sr in
    let n_r : b.reader_first.sizes.stripes ≡ c.sizes.stripes = ap (λ (z : Sizes). z.stripes) j.first.sizes in
    let n_w : b.writer_first.sizes.stripes ≡ c.sizes.stripes = ap (λ (z : Sizes). z.stripes) j.second.sizes ∙ n_r in
    let r = b.read.linked lr sr in
    let v = b.written.linked lw sw in
    let fr = split_fresh c b.reader_first l j.first are in
    let fw = split_again b.reader_first b.writer_first l lr j.second sr (subst (λ (n : ℕ). AreFresh n l lr) (sym n_r) fr) in
    record {
      lr = lr;
      mr = r.0;
      lw = lw;
      mw = v.0;
      fresh_reader = fr;
      fresh_writer = subst (λ (n : ℕ). AreFresh n l lw) n_r fw;
      apart = subst (λ (n : ℕ). AreApart n lr lw) n_r (split_apart b.reader_first b.writer_first lr j.second sr);
      reader_stands = r.1;
      writer_stands = v.1;
      read =
          subst (λ (x : Side). LinkedIn defs c.sizes.stripes x in_end lr r.0 b.s t) j.is_below
          (subst (λ (x : List RecordDef). LinkedIn x c.sizes.stripes b.side in_end lr r.0 b.s t) j.scheme
          (subst (λ (n : ℕ). LinkedIn b.from n b.side in_end lr r.0 b.s t) n_r r.2));
      written =
          subst (λ (x : Side). LinkedOut defs c.sizes.stripes x out_end (2 ^ 63) lw v.0 b.o w) j.is_below
          (subst (λ (x : List RecordDef). LinkedOut x c.sizes.stripes b.side out_end (2 ^ 63) lw v.0 b.o w) j.scheme
          (subst (λ (n : ℕ). LinkedOut b.from n b.side out_end (2 ^ 63) lw v.0 b.o w) n_w v.2));
    }

abbrev served_as : ℕ → InEnd → OutEnd → Option (List ℕ) → Option (List ℕ) → Served
served_as k in_end out_end list wrote = record { told = record { link = k; in_end = in_end; out_end = out_end }; list = list; wrote = wrote }

pub taken_next : (c : Client) (defs : List RecordDef) (coming : Option (List (List ℕ))) (told : List Told) (k : ℕ) (d between e : Client) (v w x : NetState) (in_end : InEnd) (out_end : OutEnd) (reader writer : Client) (t : Sourced) (o : Sunk)
    → HasTaken c defs coming told k d v w → IsBack c defs coming k in_end out_end reader writer t o → TakesIn d reader between → TakesIn between writer e → HangsUp t.faults o.faults o.written w x
    → HasTaken c defs coming (told ++ record { link = k; in_end = in_end; out_end = out_end } ∷ []) (k + 1) e v x
taken_next c defs coming told k d between e v w x in_end out_end reader writer t o h b i i' u = record {
  home = i'.home ∙ i.home ∙ h.home;
  sizes = i'.sizes ∙ i.sizes ∙ h.sizes;
  served = h.served ++ (served_as k in_end out_end b.job.list o.written) ∷ [];
  told_is = ap (λ (ts : List Told). ts ++ (record { link = k; in_end = in_end; out_end = out_end }) ∷ []) h.told_is ∙ sym (map_snoc (λ (y : Served). y.told) h.served (served_as k in_end out_end b.job.list o.written));
  numbered = map_snoc (λ (y : Served). y.told.link) h.served (served_as k in_end out_end b.job.list o.written) ∙ ap (λ (ks : List ℕ). ks ++ k ∷ []) h.numbered ∙ ap numbers (sym (add-one k));
  same = u.same ∙ ap (λ (y : NetState). record y { ended = x.ended; hang_up_faults = x.hang_up_faults }) h.same;
  ended = ends_more h.served (served_as k in_end out_end b.job.list o.written) v.ended w.ended x.ended h.ended u.ended;
  lists = lists;
}
  where
    n_d : d.sizes.stripes ≡ c.sizes.stripes
    n_d = ap (λ (z : Sizes). z.stripes) h.sizes

    n_b : between.sizes.stripes ≡ c.sizes.stripes
    n_b = ap (λ (z : Sizes). z.stripes) i.sizes ∙ n_d

    n_reader : reader.sizes.stripes ≡ c.sizes.stripes
    n_reader = b.read.same.stripes ∙ ap (λ (z : Sizes). z.stripes) b.job.job.first.sizes

    n_writer : writer.sizes.stripes ≡ c.sizes.stripes
    n_writer = b.written.same.stripes ∙ ap (λ (z : Sizes). z.stripes) b.job.job.second.sizes ∙ ap (λ (z : Sizes). z.stripes) b.job.job.first.sizes

    lists : (l : Lists) → IsOf c l → (m : Lists) × IsOf e m × GrewBy c.sizes.stripes [] l m × All (IsServed defs c.sizes.stripes coming l m) (h.served ++ (served_as k in_end out_end b.job.list o.written) ∷ [])
    lists l are =
        let before = h.lists l are in
        let r = ran c defs coming k in_end out_end reader writer t o b l are in
        let p = before.0 in
        let p' : Lists = lists_of between p in
        let q : Lists = lists_of e p' in
        let sp = taken_stands d reader between p r.mr i (n_reader ∙ sym n_d) before.1 r.reader_stands in
        let sq = taken_stands between writer e p' r.mw i' (n_writer ∙ sym n_b) sp r.writer_stands in
        let u1 = subst (λ (j : ℕ). AreUnions j p r.mr p') n_d (taken_unions d reader between p r.mr i (n_reader ∙ sym n_d) before.1 r.reader_stands) in
        let u2 = subst (λ (j : ℕ). AreUnions j p' r.mw q) n_b (taken_unions between writer e p' r.mw i' (n_writer ∙ sym n_b) sp r.writer_stands) in
        let g1 = unions_grow c.sizes.stripes p r.mr p' u1 in
        let g2 = unions_grow c.sizes.stripes p' r.mw q u2 in
        let so_far : GrewBy c.sizes.stripes [] l p' = grew_more c.sizes.stripes [] [] l p p' before.2 g1 in
        let later : GrewBy c.sizes.stripes [] p q = grew_more c.sizes.stripes [] [] p p' q g1 g2 in (
          q,
          sq,
          grew_more c.sizes.stripes [] [] l p' q so_far g2,
          all_and (IsServed defs c.sizes.stripes coming l p) (IsServed defs c.sizes.stripes coming l q) h.served (served_as k in_end out_end b.job.list o.written) (λ y s. stays_served defs c.sizes.stripes coming l p q y later s) before.3 (record {
            reader = r.lr;
            reader_then = r.mr;
            writer = r.lw;
            writer_then = r.mw;
            source = b.s;
            source_then = t;
            sink = b.o;
            sink_then = o;
            read = r.read;
            written = r.written;
            reader_home = stay_home c.sizes.stripes l r.lr r.mr p' q (come_home c.sizes.stripes l r.lr r.mr p p' r.fresh_reader (read_same defs c.sizes.stripes k in_end r.lr r.mr b.s t r.read) before.2 u1) g2;
            writer_home = come_home c.sizes.stripes l r.lw r.mw p' q r.fresh_writer (written_same defs c.sizes.stripes (Down k) out_end (2 ^ 63) r.lw r.mw b.o o r.written) so_far u2;
            apart = r.apart;
            comes = b.job.comes;
            sent = b.job.job.sent;
            unwritten = b.job.job.unwritten;
            sound = b.job.job.sound;
            wrote = refl;
          }),
        )
