-- The laws of links and paths of streams.
use Rattle.std.proofs.Common.{◌≡◌, List, [], ◌∷◌, ◌++◌, sym, ap, ◌∙◌, append_assoc, subst}
use Rattle.std.proofs.lemmas.List.{append-nil, append_cancel_left}
use Rattle.qd_scheme.specs.declared.key.Key.{Key}
use Rattle.qd_stream.specs.declared.item.StreamItem.{StreamItem}
use Rattle.qd_views.specs.Views.{IsStreamMoment, puts, given, IsSteady, Accounts}
use Rattle.qd_views.proofs.Accounting.{accounts-split, accounts-through}
use Rattle.qd_views.proofs.StreamViews.{stream_view}
use Rattle.qd_ways.specs.Links.{Delivers, StreamLink}
use Rattle.qd_ways.specs.Paths.{StreamStage, StreamPathView, StreamPath}

pub stream_link : StreamLink
stream_link terms up low a k m st d =
    let v = stream_view terms up m a k in
    let all = (v.1 st).all_given in
    let acc : Accounts k (puts k low ++ d.in_flight) v.0.told = subst (λ xs. Accounts k xs v.0.told) (all ∙ sym d.first_ones) v.0.accounts in
    let s = accounts-split k (puts k low) d.in_flight v.0.told acc in
    (s.front, s.back ++ v.0.untold, v.0.matched_is ∙ ap (λ xs. xs ++ v.0.untold) s.is ∙ append_assoc s.front s.back v.0.untold, s.first)

root-path : (k : Key) (leaf : StreamStage) → IsStreamMoment leaf.terms leaf.now → IsSteady leaf.agent k leaf.now → StreamPathView k leaf []
root-path k leaf m st =
    let v = stream_view leaf.terms leaf.now m leaf.agent k in
    record {
      before = [];
      told = v.0.told;
      untold = v.0.untold;
      matched_is = v.0.matched_is;
      accounts = subst (λ xs. Accounts k xs v.0.told) (v.1 st).all_given v.0.accounts;
      reaches = λ links waits. v.0.reaches waits;
    }

nothing-more : (k : Key) (all : List StreamItem) → Accounts k [] all → all ≡ []
nothing-more k all h = h

regroup : (b t x y u : List StreamItem) → (b ++ (t ++ (x ++ y))) ++ u ≡ ((b ++ t) ++ x) ++ (y ++ u)
regroup b t x y u = ap (λ xs. xs ++ u) (sym (append_assoc b t (x ++ y)) ∙ sym (append_assoc (b ++ t) x y)) ∙ append_assoc ((b ++ t) ++ x) y u

-- one stage more
step : (k : Key) (low up : StreamStage) (above : List StreamStage) → IsStreamMoment low.terms low.now → Delivers (given up.agent k up.now) (puts k low.now) → IsSteady low.agent k low.now → StreamPathView k up above → StreamPathView k low (up ∷ above)
step k low up above m d st ih =
    let v = stream_view low.terms low.now m low.agent k in
    let w = v.0 in
    let s = v.1 st in
    let parts : given up.agent k up.now ≡ s.before ++ (w.told ++ (w.untold ++ d.in_flight)) =
    sym d.first_ones ∙ ap (λ xs. xs ++ d.in_flight) (s.puts_is ∙ ap (λ xs. s.before ++ xs) w.matched_is)
    ∙ append_assoc s.before (w.told ++ w.untold) d.in_flight ∙ ap (λ xs. s.before ++ xs) (append_assoc w.told w.untold d.in_flight) in
    let one = accounts-split k s.before (w.told ++ (w.untold ++ d.in_flight)) ih.told (subst (λ xs. Accounts k xs ih.told) parts ih.accounts) in
    let two = accounts-split k w.told (w.untold ++ d.in_flight) one.back one.second in
    record {
      before = ih.before ++ one.front;
      told = two.front;
      untold = two.back ++ ih.untold;
      matched_is = ih.matched_is ∙ ap (λ xs. ih.before ++ xs ++ ih.untold) (one.is ∙ ap (λ xs. one.front ++ xs) two.is) ∙ regroup ih.before one.front two.front two.back ih.untold;
      accounts = accounts-through k (given low.agent k low.now) w.told two.front (subst (λ xs. Accounts k xs w.told) s.all_given w.accounts) two.first;
      reaches = λ links waits.
          let none : d.in_flight ≡ [] = append_cancel_left (puts k low.now) d.in_flight [] (d.first_ones ∙ sym links.0 ∙ sym (append-nil (puts k low.now))) in
          let owed : w.untold ≡ [] = w.reaches waits.0 in
          let gone : two.back ≡ [] = nothing-more k two.back (subst (λ xs. Accounts k xs two.back) (ap (λ xs. xs ++ d.in_flight) owed ∙ none) two.second) in
          ap (λ xs. xs ++ ih.untold) gone ∙ ih.reaches links.1 waits.1;
    }

pub stream_path : StreamPath
stream_path k leaf [] w st = root-path k leaf w st
stream_path k leaf (up ∷ above) w st = step k leaf up above w.0 w.1 st.0 (stream_path k up above w.2 st.1)
