-- A group is cut into calls.
use Rattle.std.proofs.Common.{ℕ, Bool, cond, ◌++◌, suc, ◌≡◌, ◌+◌, ◌<◌, ◌≤◌, ◌^◌, true, false, nat_eq, Some, List, [], ◌∷◌, length, drop, get_or, refl, sym, ap, ◌∙◌, arith, append_assoc}
use Rattle.std.specs.Prelude.{All, slice_get}
use Rattle.std.proofs.lemmas.Bool.Decides.{nat_tests}
use Rattle.std.proofs.lemmas.List.{get_or-drop, drop-drop}
use Rattle.std.proofs.lemmas.List.Sums.{length-filter, count_by-le-length}
use Rattle.std.proofs.lemmas.List.Elements.{All-filter, All-push, filter_passes}
use Rattle.std.proofs.lemmas.Option.{slice_get-get_or}
use Rattle.qd_buffer.specs.Splitting.{of_stripe, AreStripes}
use Rattle.qd_path.specs.declared.call.Call.{Call}
use Rattle.qd_path.specs.declared.call.Asked.{Asked}
use Rattle.qd_path.specs.Calls.{asks, asks_up_to}
use Rattle.std.proofs.lemmas.List.Elements.{All-map}
use Rattle.qd_buffer.specs.Filled.{Filled}
use Rattle.qd_scheme.specs.declared.key.Key.{Key}
use Rattle.qd_scheme.specs.Stripes.{stripe_of}
use Rattle.qd_sub.specs.declared.sub.Sub.{Sub}
use Rattle.qd_grammar.specs.declared.item.Message.{Message}
use Rattle.qd_grammar.specs.declared.item.Message.TheVariants.{TickerData, StreamData, HistoryData, StreamLost, TickerAdd, StreamAdd, HistoryAdd, TickerRemove, StreamRemove, HistoryRemove}
use Rattle.qd_calls.specs.Cutting.{sub_call, AreAt}
use Rattle.qd_calls.specs.Dues.{IsDueOf}

-- a part of subscriptions may be asked of its stripe
pub sub_due : (n stripe : ℕ) (message : Message) (agent : ℕ) (part : Filled Sub) → stripe < n → length part.items ≤ 4096 → All (λ s. s.limit < 2 ^ 63) part.items → AreAt (λ s. s.key) n stripe part.items
    → IsDueOf n stripe (sub_call message agent part)
sub_due n stripe TickerData agent part h few sound at = (h, λ terms. few, All-map (λ (k : Key). stripe_of k n ≡ stripe) (λ (s : Sub). s.key) part.items at)
sub_due n stripe StreamData agent part h few sound at = (h, λ terms. few, All-map (λ (k : Key). stripe_of k n ≡ stripe) (λ (s : Sub). s.key) part.items at)
sub_due n stripe HistoryData agent part h few sound at = (h, λ terms. few, All-map (λ (k : Key). stripe_of k n ≡ stripe) (λ (s : Sub). s.key) part.items at)
sub_due n stripe StreamLost agent part h few sound at = (h, λ terms. few, All-map (λ (k : Key). stripe_of k n ≡ stripe) (λ (s : Sub). s.key) part.items at)
sub_due n stripe TickerAdd agent part h few sound at = (h, λ terms. few, All-map (λ (k : Key). stripe_of k n ≡ stripe) (λ (s : Sub). s.key) part.items at)
sub_due n stripe StreamAdd agent part h few sound at = (h, λ terms. few, All-map (λ (k : Key). stripe_of k n ≡ stripe) (λ (s : Sub). s.key) part.items at)
sub_due n stripe HistoryAdd agent part h few sound at = (h, λ terms. (few, sound), All-map (λ (k : Key). stripe_of k n ≡ stripe) (λ (s : Sub). s.key) part.items at)
sub_due n stripe TickerRemove agent part h few sound at = (h, λ terms. few, All-map (λ (k : Key). stripe_of k n ≡ stripe) (λ (s : Sub). s.key) part.items at)
sub_due n stripe StreamRemove agent part h few sound at = (h, λ terms. few, All-map (λ (k : Key). stripe_of k n ≡ stripe) (λ (s : Sub). s.key) part.items at)
sub_due n stripe HistoryRemove agent part h few sound at = (h, λ terms. few, All-map (λ (k : Key). stripe_of k n ≡ stripe) (λ (s : Sub). s.key) part.items at)

-- the part of a stripe
module _ {T : Type 0} (key : T → Key) (n : ℕ) (xs : List T) (parts : List (Filled T)) (are : AreStripes key n xs parts) (stripe : ℕ) (left : List (Filled T)) (part : Filled T)
    (left_is : left ≡ drop stripe parts) (count : stripe + length left ≡ n) (some : 0 < length left) (first : part ≡ get_or left 0 part) where
  pub within : stripe < n
  within = omega (arith, count, some)

  there : slice_get parts stripe ≡ Some part
  there =
      let m = are.count in
      let w = within in
      let below : stripe < length parts = omega (arith, m, w) in
      let same : part ≡ get_or parts stripe part = first ∙ ap (λ (l : List (Filled T)). get_or l 0 part) left_is ∙ get_or-drop stripe parts 0 part ∙ ap (λ (j : ℕ). get_or parts j part) (let z : stripe + 0 ≡ stripe = omega arith in z) in
      slice_get-get_or parts stripe part below ∙ ap (λ (x : Filled T). Some x) (sym same)

  pub items_are : part.items ≡ of_stripe key n stripe xs
  items_are = (are.each stripe part there).0

  -- it has room for its items and no more
  pub full_part : part.room ≡ length part.items
  full_part = (are.each stripe part there).1

  pub few : length xs ≤ 4096 → length part.items ≤ 4096
  few h = rw items_are (let l = length-filter (λ item. nat_eq (stripe_of (key item) n) stripe) xs in let m = count_by-le-length (λ item. nat_eq (stripe_of (key item) n) stripe) xs in omega (arith, l, m, h))

  pub sound_part : (P : T → Type 0) → All P xs → All P part.items
  sound_part P h = rw items_are (All-filter (λ item. nat_eq (stripe_of (key item) n) stripe) P xs h)

  pub at_part : AreAt key n stripe part.items
  at_part = rw items_are (λ i d h. let e = filter_passes (λ item. nat_eq (stripe_of (key item) n) stripe) xs i d h in grind (arith, nat_tests))

-- a part that is full and not empty is one call
pub asks_full : {T : Type 0} (call : Filled T → Call) (stripe : ℕ) (items : List T) (room : ℕ) → room ≡ length items → (items ≡ [] → ⊥)
    → asks call stripe items ≡ record { stripe = stripe; call = call (record { items = items; room = room }) } ∷ []
asks_full call stripe [] room e h = absurd (h refl)
asks_full call stripe (x ∷ xs) room e h = rw e refl

pub drop_one : {X : Type 0} (i : ℕ) (xs ys : List X) → ys ≡ drop i xs → drop 1 ys ≡ drop (i + 1) xs
drop_one i xs ys e = ap (drop 1) e ∙ drop-drop 1 i xs

pub pushed_all : {X : Type 0} (P : X → Type 0) (ok : Bool) (old new : List X) (x : X) → new ≡ cond ok (old ++ x ∷ []) old → All P old → P x → All P new
pushed_all P true old new x e h p = rw e (All-push P old x h p)
pushed_all P false old new x e h p = rw e h

pub asks_step : {T : Type 0} (key : T → Key) (call : Filled T → Call) (n : ℕ) (xs : List T) (k : ℕ) (first due new : List Asked) (items : List T) → due ≡ first ++ asks_up_to key call n xs k → items ≡ of_stripe key n k xs → new ≡ due ++ asks call k items
    → new ≡ first ++ asks_up_to key call n xs (k + 1)
asks_step key call n xs k first due new items d i e =
    e ∙ ap (λ (l : List Asked). l ++ asks call k items) d ∙ append_assoc first (asks_up_to key call n xs k) (asks call k items)
    ∙ ap (λ y. first ++ (asks_up_to key call n xs k ++ asks call k y)) i
    ∙ ap (λ (j : ℕ). first ++ asks_up_to key call n xs j) (let s : suc k ≡ k + 1 = omega arith in s)
