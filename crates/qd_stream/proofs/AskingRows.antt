-- What a stream may be asked, at its limits, and what it may not refuse for want of memory.
use Rattle.std.proofs.Common.{◌≡◌, ℕ, ◌≤◌, ◌<◌, List, [], ◌∷◌, length, refl, arith, inl, inr}
use Rattle.std.specs.Prelude.{All}
use Rattle.qd_scheme.specs.declared.key.Key.{Key}
use Rattle.qd_scheme.specs.declared.key.Record.{Record}
use Rattle.qd_buffer.specs.Filled.{Filled}
use Rattle.qd_gate.specs.declared.machine.Terms.{Terms}
use Rattle.qd_sub.specs.declared.sub.Sub.{Sub}
use Rattle.qd_sub.specs.declared.sub.Want.{Want}
use Rattle.qd_sub.specs.declared.op.Op.TheVariants.{Add, Remove, Close, Put, Take, Watch}
use Rattle.qd_sub.specs.declared.op.Reply.TheVariants.{NoMemory}
use Rattle.qd_stream.specs.declared.item.StreamItem.{StreamItem}
use Rattle.qd_stream.specs.declared.item.StreamItem.TheVariants.{Lost}
use Rattle.qd_stream.specs.Items.{weight}
use Rattle.qd_stream.specs.Waiting.{StreamMoment}
use Rattle.qd_stream.specs.Asking.{MayAsk}
use Rattle.qd_stream.specs.Legal.{reply_to, IsLawful}

a_list_too_long : (t : Terms) (a : ℕ) (subs : Filled Sub) (keys : Filled Key) (items : Filled StreamItem) → (length subs.items ≡ 4097) × (length keys.items ≡ 4097) × (length items.items ≡ 4097)
    → (MayAsk t (Add a subs) → ⊥) × (MayAsk t (Remove a keys) → ⊥) × (MayAsk t (Put items) → ⊥)
a_list_too_long t a subs keys items h = ((λ x. let e = h.0 in omega (arith, x, e)), (λ x. let e = h.1 in omega (arith, x, e)), (λ x. let l = x.0 in let e = h.2 in omega (arith, l, e)))

the_longest_lists : (t : Terms) (a : ℕ) (subs : Filled Sub) (keys : Filled Key) (items : Filled StreamItem) → (length subs.items ≡ 4096) × (length keys.items ≡ 4096) × (length items.items ≡ 4096)
    → All (λ item. 0 < weight item) items.items → MayAsk t (Add a subs) × MayAsk t (Remove a keys) × MayAsk t (Put items)
the_longest_lists t a subs keys items h w = let x = h.0 in let y = h.1 in let z = h.2 in (omega (arith, x), omega (arith, y), (omega (arith, z), w))

a_loss_of_none : (t : Terms) (k : Key) → MayAsk t (Put (record { items = Lost k 0 ∷ []; room = 1 })) → ⊥
a_loss_of_none t k h = let x = h.1 0 (Lost k 0) (omega arith) in omega (arith, x)

a_take_of_none : (t : Terms) (room : ℕ) → MayAsk t (Take 0 0 (record { items = []; room = room })) → ⊥
a_take_of_none t room h = let x = h.0 in omega (arith, x)

a_take_of_too_many : (t : Terms) (room : ℕ) → MayAsk t (Take 0 4097 (record { items = []; room = room })) → ⊥
a_take_of_too_many t room h = let x = h.1 in omega (arith, x)

a_take_without_room : (t : Terms) → MayAsk t (Take 0 4096 (record { items = []; room = 4095 })) → ⊥
a_take_without_room t h = let x = h.3 in omega (arith, x)

a_take_into_items : (t : Terms) (i : StreamItem) → MayAsk t (Take 0 1 (record { items = i ∷ []; room = 1 })) → ⊥
a_take_into_items t i h = cc h.2

the_greatest_take : (t : Terms) → MayAsk t (Take 0 4096 (record { items = []; room = 4096 }))
the_greatest_take t = (omega arith, omega arith, refl, omega arith)

a_watch_of_none : (t : Terms) (room : ℕ) → MayAsk t (Watch 0 0 (record { items = []; room = room })) → ⊥
a_watch_of_none t room h = let x = h.0 in omega (arith, x)

a_watch_of_too_many : (t : Terms) (room : ℕ) → MayAsk t (Watch 0 4097 (record { items = []; room = room })) → ⊥
a_watch_of_too_many t room h = let x = h.1 in omega (arith, x)

a_watch_without_room : (t : Terms) → MayAsk t (Watch 0 4096 (record { items = []; room = 4095 })) → ⊥
a_watch_without_room t h = let x = h.3 in omega (arith, x)

a_watch_into_wants : (t : Terms) (w : Want) → MayAsk t (Watch 0 1 (record { items = w ∷ []; room = 1 })) → ⊥
a_watch_into_wants t w h = cc h.2

the_greatest_watch : (t : Terms) → MayAsk t (Watch 0 4096 (record { items = []; room = 4096 }))
the_greatest_watch t = (omega arith, omega arith, refl, omega arith)

a_remove_wants_none : (cap : ℕ) (now : StreamMoment) (a : ℕ) (keys : Filled Key) → IsLawful cap now (Remove a keys) NoMemory → ⊥
unfolding IsLawful reply_to
a_remove_wants_none cap now a keys (inl h) = cc h
a_remove_wants_none cap now a keys (inr h) = h.0

a_close_wants_none : (cap : ℕ) (now : StreamMoment) (a : ℕ) → IsLawful cap now (Close a) NoMemory → ⊥
unfolding IsLawful reply_to
a_close_wants_none cap now a (inl h) = cc h
a_close_wants_none cap now a (inr h) = h.0

a_put_wants_none : (cap : ℕ) (now : StreamMoment) (items : Filled StreamItem) → IsLawful cap now (Put items) NoMemory → ⊥
unfolding IsLawful reply_to
a_put_wants_none cap now items (inl h) = cc h
a_put_wants_none cap now items (inr h) = h.0

a_take_wants_none : (cap : ℕ) (now : StreamMoment) (a most : ℕ) (out : Filled StreamItem) → IsLawful cap now (Take a most out) NoMemory → ⊥
unfolding IsLawful reply_to
a_take_wants_none cap now a most out (inl h) = cc h
a_take_wants_none cap now a most out (inr h) = h.0

a_watch_wants_none : (cap : ℕ) (now : StreamMoment) (w most : ℕ) (out : Filled Want) → IsLawful cap now (Watch w most out) NoMemory → ⊥
unfolding IsLawful reply_to
a_watch_wants_none cap now w most out (inl h) = cc h
a_watch_wants_none cap now w most out (inr h) = h.0
