use Rattle.std.proofs.Common.{◌≡◌, ◌∙◌, ◌-◌, ◌++◌, ◌∷◌, [], ap, sym, subst, arith, length, vec_len, List, ℕ, refl}
use Rattle.std.proofs.lemmas.List.{length-append}
use Rattle.qd_pend.specs.Slots.{EachOnce}
use Rattle.qd_pend.proofs.ListLaws.{EachOnce-push}
use Rattle.qd_slots.specs.Names.{nones}
use Rattle.qd_slots.proofs.IndexLaws.{none-yet, one-more, vacant-more, vacant-absent}
use Rattle.qd_slots.proofs.names.add_vacant.Goals as goal

pub loop-slot-init : goal.loop-slot-init
loop-slot-init c = record {
  names = none-yet c.args.names.now.items (vec_len c.args.names.now) ∙ ap (λ n. c.args.names.now.items ++ nones (n - vec_len c.args.names.now)) (sym c.len-slot.ensures);
  len = sym c.len-slot.ensures;
  room = c.requires.room;
  vacant = c.requires.vacant;
  once = c.requires.once;
  count = let e = c.len-slot.ensures in omega arith;
  numbers = refl;
}

pub loop-slot-preserved : goal.loop-slot-preserved
loop-slot-preserved c =
    let here : c.loop-slot.slot ≡ length c.loop-slot.names.items = omega arith in
    let absent = vacant-absent c.loop-slot.names.items c.loop-slot.free.list c.loop-slot.slot c.loop-slot.invariant.vacant here in
    let list = ap (λ q. q.list) c.push_back.ensures in
    let len = ap length list ∙ length-append c.loop-slot.free.list (c.loop-slot.slot ∷ []) in
    record {
      names = one-more c.args.names.now.items c.loop-slot.names.items c.push_vacant.new.names.items (vec_len c.args.names.now) c.loop-slot.slot c.loop-slot.invariant.names c.push_vacant.ensures.items (omega arith);
      len = omega arith;
      room = omega arith;
      vacant = vacant-more c.loop-slot.names.items c.push_vacant.new.names.items c.loop-slot.free c.push_back.new.self c.loop-slot.slot here c.loop-slot.invariant.vacant c.push_vacant.ensures.items c.push_back.ensures;
      once = subst (λ (l : List ℕ). EachOnce l) (sym list) (EachOnce-push c.loop-slot.free.list c.loop-slot.slot c.loop-slot.invariant.once absent);
      count = omega arith;
      numbers = ap (λ q. q.slots) c.push_back.ensures ∙ c.loop-slot.invariant.numbers;
    }
