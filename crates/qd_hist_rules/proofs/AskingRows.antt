-- What may be asked, at its limits.
use Rattle.std.proofs.Common.{◌≡◌, ℕ, ◌<◌, ◌^◌, [], ◌∷◌, length, refl, arith}
use Rattle.std.specs.Prelude.{All}
use Rattle.qd_scheme.specs.declared.key.Key.{Key}
use Rattle.qd_scheme.specs.declared.key.Event.{Event}
use Rattle.qd_buffer.specs.Filled.{Filled}
use Rattle.qd_gate.specs.declared.machine.Terms.{Terms}
use Rattle.qd_sub.specs.declared.sub.Sub.{Sub}
use Rattle.qd_sub.specs.declared.sub.Want.{Want}
use Rattle.qd_sub.specs.declared.op.Op.TheVariants.{Add, Remove, Put, Take, Watch}
use Rattle.qd_hist_rules.specs.declared.item.HistItem.{HistItem}
use Rattle.qd_hist_rules.specs.Asking.{MayAsk}

a_list_too_long : (t : Terms) (a : ℕ) (subs : Filled Sub) (keys : Filled Key) (events : Filled Event) → (length subs.items ≡ 4097) × (length keys.items ≡ 4097) × (length events.items ≡ 4097)
    → (MayAsk t (Add a subs) → ⊥) × (MayAsk t (Remove a keys) → ⊥) × (MayAsk t (Put events) → ⊥)
a_list_too_long t a subs keys events h = ((λ x. let l = x.0 in let e = h.0 in omega (arith, l, e)), (λ x. let e = h.1 in omega (arith, x, e)), (λ x. let l = x.0 in let e = h.2 in omega (arith, l, e)))

the_longest_lists : (t : Terms) (a : ℕ) (subs : Filled Sub) (keys : Filled Key) (events : Filled Event) → (length subs.items ≡ 4096) × (length keys.items ≡ 4096) × (length events.items ≡ 4096)
    → All (λ s. s.limit < 2 ^ 63) subs.items → All (λ e. e.index < 2 ^ 63) events.items → MayAsk t (Add a subs) × MayAsk t (Remove a keys) × MayAsk t (Put events)
the_longest_lists t a subs keys events h l i = let x = h.0 in let y = h.1 in let z = h.2 in ((omega (arith, x), l), omega (arith, y), (omega (arith, z), i))

a_limit_too_great : (t : Terms) (s : Sub) → s.limit ≡ 2 ^ 63 → MayAsk t (Add 0 (record { items = s ∷ []; room = 1 })) → ⊥
a_limit_too_great t s e h = let x = h.1 0 s (omega arith) in omega (arith, e, x)

an_index_too_great : (t : Terms) (e : Event) → e.index ≡ 2 ^ 63 → MayAsk t (Put (record { items = e ∷ []; room = 1 })) → ⊥
an_index_too_great t e q h = let x = h.1 0 e (omega arith) in omega (arith, q, x)

a_take_of_none : (t : Terms) (room : ℕ) → MayAsk t (Take 0 0 (record { items = []; room = room })) → ⊥
a_take_of_none t room h = let x = h.0 in omega (arith, x)

a_take_of_too_many : (t : Terms) (room : ℕ) → MayAsk t (Take 0 4097 (record { items = []; room = room })) → ⊥
a_take_of_too_many t room h = let x = h.1 in omega (arith, x)

a_take_without_room : (t : Terms) → MayAsk t (Take 0 4096 (record { items = []; room = 4095 })) → ⊥
a_take_without_room t h = let x = h.3 in omega (arith, x)

a_take_into_items : (t : Terms) (i : HistItem) → MayAsk t (Take 0 1 (record { items = i ∷ []; room = 1 })) → ⊥
a_take_into_items t i h = cc h.2

the_greatest_take : (t : Terms) → MayAsk t (Take 0 4096 (record { items = []; room = 4096 }))
the_greatest_take t = (omega arith, omega arith, refl, omega arith)

a_watch_of_none : (t : Terms) (room : ℕ) → MayAsk t (Watch 0 0 (record { items = []; room = room })) → ⊥
a_watch_of_none t room h = let x = h.0 in omega (arith, x)

a_watch_of_too_many : (t : Terms) (room : ℕ) → MayAsk t (Watch 0 4097 (record { items = []; room = room })) → ⊥
a_watch_of_too_many t room h = let x = h.1 in omega (arith, x)

a_watch_without_room : (t : Terms) → MayAsk t (Watch 0 4096 (record { items = []; room = 4095 })) → ⊥
a_watch_without_room t h = let x = h.3 in omega (arith, x)

a_watch_into_wants : (t : Terms) (w : Want) → MayAsk t (Watch 0 1 (record { items = w ∷ []; room = 1 })) → ⊥
a_watch_into_wants t w h = cc h.2

the_greatest_watch : (t : Terms) → MayAsk t (Watch 0 4096 (record { items = []; room = 4096 }))
the_greatest_watch t = (omega arith, omega arith, refl, omega arith)
