-- An engine that goes on has something left to do.
use Rattle.std.proofs.Common.{◌≡◌, Bool, true, false, List, [], ◌∷◌, ◌++◌, length, map, refl, sym, ap, ◌∙◌, subst, arith, length-append}
use Rattle.qd_items.specs.Judging.{stop_of}
use Rattle.qd_items.specs.Judging.Stop.{Open}
use Rattle.qd_grammar.specs.declared.item.Mode.{Mode}
use Rattle.qd_path.specs.declared.call.Asked.{Asked}
use Rattle.qd_path.specs.Made.{asked_in}
use Rattle.qd_session.specs.Ins.{HasRead}
use Rattle.qd_session.specs.Laws.{EndsAtOnce}

-- what is behind a list that is all is nothing
none_behind : (xs ys : List Asked) → xs ≡ xs ++ ys → ys ≡ []
none_behind xs [] e = refl
none_behind xs (y ∷ ys) e =
    let longer = length-append xs (y ∷ ys) in
    let same : length xs ≡ length (xs ++ y ∷ ys) = ap (λ (l : List Asked). length l) e in
    absurd (omega (arith, longer, same))

pub ends_at_once : EndsAtOnce
ends_at_once defs n from left k p made s cut stopped all = go k.closing refl
  where
    go : (b : Bool) → k.closing ≡ b → ⊥
    go false e =
        let read = subst (λ (x : Bool). HasRead x defs k.side from k.items p left) e s.read in
        stopped (subst (λ (m : Mode). stop_of m defs p.lines ≡ Open) s.mode read.stands.is_open)
    go true e = cut.some e (none_behind (map asked_in made) k.due (sym all ∙ s.asked))
