-- Watchers after each change.
use Rattle.std.proofs.Common.{◌≡◌, ◌≢◌, ℕ, zero, suc, ◌+◌, ◌-◌, ◌<◌, ◌≤◌, nat_eq, length, Bool, true, false, if◌then◌else◌, Option, List, ◌∷◌, [], ◌++◌, append_assoc, add-one, slice_set, subst, refl, ap, sym, ◌∙◌, arith}
use Rattle.std.proofs.lemmas.List.{append-nil}
use Rattle.qd_pend.specs.Slots.{SlotList, has, without}
use Rattle.qd_pend.proofs.ListLaws.{same, equal}
use Rattle.qd_slots.specs.declared.views.View.{View}
use Rattle.qd_slots.specs.Views.{no_view, no_views, view_told, view_differs, queued, queued_again, with_list, with_told, Viewing, viewing_at, IsWider, EachWider}

pub queued-out : (list : List ℕ) (slot : ℕ) → queued list slot false ≡ without list slot
unfolding queued
queued-out list slot = refl

pub queued-there : (list : List ℕ) (slot : ℕ) → has list slot ≡ true → queued list slot true ≡ list
unfolding queued
queued-there list slot h = rw h refl

pub queued-new : (list : List ℕ) (slot : ℕ) → has list slot ≡ false → queued list slot true ≡ list ++ slot ∷ []
unfolding queued
queued-new list slot h = rw h refl

pub view-none : (views : List View) → views ≡ views ++ no_views 0
unfolding no_views
view-none views = sym (append-nil views)

view-more : (n : ℕ) → no_views (n + 1) ≡ no_views n ++ no_view ∷ []
unfolding no_views
view-more zero = refl
view-more (suc n) = ap no_views (add-one (suc n)) ∙ ap (λ vs. no_view ∷ vs) (ap no_views (sym (add-one n)) ∙ view-more n)

pub views-none : (views : List View) (from : ℕ) → views ≡ views ++ no_views (from - from)
unfolding no_views
views-none views from = let e : from - from ≡ 0 = omega arith in rw e (sym (append-nil views))

pub views-more : (old views views' : List View) (from slot : ℕ) → views ≡ old ++ no_views (slot - from) → views' ≡ views ++ no_view ∷ [] → from ≤ slot → views' ≡ old ++ no_views (slot + 1 - from)
views-more old views views' from slot e n le =
    let count : slot + 1 - from ≡ (slot - from) + 1 = omega arith in
    n ∙ ap (λ vs. vs ++ no_view ∷ []) e ∙ append_assoc old (no_views (slot - from)) (no_view ∷ []) ∙ ap (λ vs. old ++ vs) (sym (view-more (slot - from)) ∙ ap no_views (sym count))

pub queue-of : (queue : SlotList) (list list' : List ℕ) → list ≡ list' → with_list queue list ≡ with_list queue list'
queue-of queue list list' e = ap (with_list queue) e

pub wider-queue : (now : Viewing) (views : List View) (queue queue' : SlotList) → (let x : Viewing = record { views = views; queue = queue } in x ≡ now) → queue'.list ≡ queue.list → queue.slots ≤ queue'.slots → (let y : Viewing = record { views = views; queue = queue' } in IsWider now y)
wider-queue now views queue queue' e l s =
    subst (λ (v : Viewing). IsWider v (record { views = views; queue = queue' })) e (record { views = (0, view-none views); list = l; slots = s })

-- a telling, shown
pub told-shown : (now : Viewing) (views views' : List View) (queue removed last : SlotList) (slot : ℕ) (told total : Option ℕ) (view : View) (waits : Bool) → (let x : Viewing = record { views = views; queue = queue } in x ≡ now) →
    view ≡ view_told told → views' ≡ slice_set views slot view → (let r : SlotList = record { list = without queue.list slot; slots = queue.slots } in removed ≡ r) → waits ≡ view_differs view total → last ≡ with_list removed (removed.list ++ (if waits then slot ∷ [] else [])) →
    (let y : Viewing = record { views = views'; queue = last } in y ≡ with_told now slot told total)
unfolding queued_again
told-shown now views views' queue removed last slot told total view waits e v vs r w l = rw (l, r, w, vs, v, sym e) refl

-- more room
pub wider-same : (v : Viewing) → IsWider v v
wider-same v = record { views = (0, view-none v.views); list = refl; slots = omega arith }

views-add : (m n : ℕ) → no_views m ++ no_views n ≡ no_views (m + n)
unfolding no_views
views-add zero n = let e : n ≡ 0 + n = omega arith in ap no_views e
views-add (suc m) n = let e : suc (m + n) ≡ suc m + n = omega arith in ap (λ vs. no_view ∷ vs) (views-add m n) ∙ ap no_views e

pub wider-both : (a b c : Viewing) → IsWider a b → IsWider b c → IsWider a c
wider-both a b c h k = record {
  views = (h.views.0 + k.views.0, k.views.1 ∙ ap (λ vs. vs ++ no_views k.views.0) h.views.1 ∙ append_assoc a.views (no_views h.views.0) (no_views k.views.0) ∙ ap (λ vs. a.views ++ vs) (views-add h.views.0 k.views.0));
  list = k.list ∙ h.list;
  slots = (let p = h.slots in let q = k.slots in omega arith);
}

apart-numbers : (i j : ℕ) → nat_eq i j ≡ false → i ≢ j
apart-numbers i j h e = let z : true ≡ false = sym (same i) ∙ ap (nat_eq i) e ∙ h in cc

pub wider-step : (old mid new : List Viewing) (watcher : ℕ) → ((w : ℕ) → w < 8 → IsWider (viewing_at old w) (viewing_at mid w)) → ((w : ℕ) → w ≢ watcher → viewing_at new w ≡ viewing_at mid w) → IsWider (viewing_at mid watcher) (viewing_at new watcher) →
    (w : ℕ) → w < 8 → IsWider (viewing_at old w) (viewing_at new w)
wider-step old mid new watcher h others own w l =
    let go : (c : Bool) → nat_eq w watcher ≡ c → IsWider (viewing_at old w) (viewing_at new w) =
    elim [
      | true ↦ λ e. subst (λ (i : ℕ). IsWider (viewing_at old w) (viewing_at new i)) (sym (equal w watcher e)) (wider-both (viewing_at old w) (viewing_at mid watcher) (viewing_at new watcher) (subst (λ (i : ℕ). IsWider (viewing_at old w) (viewing_at mid i)) (equal w watcher e) (h w l)) own)
      | false ↦ λ e. subst (λ (v : Viewing). IsWider (viewing_at old w) v) (sym (others w (apart-numbers w watcher e))) (h w l)
    ] in
    go (nat_eq w watcher) refl

abbrev HasRoom : ℕ → Viewing → Type 0
HasRoom slots v = (slots ≤ length v.views) × (slots ≤ v.queue.slots)

pub room-step : (mid new : List Viewing) (watcher slots : ℕ) → ((w : ℕ) → w < watcher → (slots ≤ length (viewing_at mid w).views) × (slots ≤ (viewing_at mid w).queue.slots)) → ((w : ℕ) → w ≢ watcher → viewing_at new w ≡ viewing_at mid w) →
    slots ≤ length (viewing_at new watcher).views → slots ≤ (viewing_at new watcher).queue.slots → (w : ℕ) → w < watcher + 1 → (slots ≤ length (viewing_at new w).views) × (slots ≤ (viewing_at new w).queue.slots)
room-step mid new watcher slots h others views queue w l =
    let go : (c : Bool) → nat_eq w watcher ≡ c → HasRoom slots (viewing_at new w) =
    elim [
      | true ↦ λ e. subst (λ (i : ℕ). HasRoom slots (viewing_at new i)) (sym (equal w watcher e)) (views, queue)
      | false ↦ λ e. (let n = apart-numbers w watcher e in subst (λ (v : Viewing). HasRoom slots v) (sym (others w n)) (h w (omega (arith, l, n))))
    ] in
    go (nat_eq w watcher) refl

pub each-wider-same : (viewings : List Viewing) → EachWider viewings viewings
each-wider-same viewings = record { count = refl; wider = λ w l. wider-same (viewing_at viewings w) }
