use Rattle.std.proofs.Common.{sym, ◌∙◌, ap, subst, ◌∷◌, ◌++◌, [], List, map, take, arith}
use Rattle.qd_scheme.specs.declared.key.Key.{Key}
use Rattle.qd_load.specs.Counting.{Shelf, AreFed, script_keys}
use Rattle.qd_load.proofs.Lists.{keys_push, keys_more, fed_push}
use Rattle.qd_load.proofs.views.no_view.Goals as goal

pub loop-digit-preserved : goal.loop-digit-preserved
loop-digit-preserved c =
    let i = c.loop-digit.invariant in
    let t = c.loop-digit-test.true in
    let s : Shelf = record { key = c.key_of.result; listener = c.in_ok-new.field-0 } in (
      ap (λ (l : List Shelf). map (λ (x : Shelf). x.key) l) c.in_ok-push.ensures.items ∙ keys_push c.loop-digit.shelves.items s ∙ ap (λ (l : List Key). l ++ c.key_of.result ∷ []) i.0
          ∙ ap (λ (k : Key). take c.loop-digit.digit script_keys ++ k ∷ []) c.key_of.ensures ∙ sym (keys_more c.loop-digit.digit (omega (arith, t))),
      subst (λ (l : List Shelf). AreFed l []) (sym c.in_ok-push.ensures.items) (fed_push c.loop-digit.shelves.items s i.1 c.in_ok-new.ensures),
    )
