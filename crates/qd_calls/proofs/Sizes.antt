-- A group that is open has fewer than 4096 lines.
use Rattle.std.proofs.Common.{◌≡◌, ◌+◌, ◌<◌, ◌≤◌, Bool, true, false, nat_eq, Option, [], ◌∷◌, refl, arith, length-append, cond}
use Rattle.std.proofs.lemmas.Bool.{eqb-false}
use Rattle.qd_grammar.specs.declared.item.Item.{Item}
use Rattle.qd_grammar.specs.declared.item.Item.TheVariants as items
use Rattle.qd_grammar.specs.declared.item.Message.{Message}
use Rattle.qd_scheme.specs.declared.key.Event.{Event}
use Rattle.qd_scheme.specs.declared.key.Key.{Key}
use Rattle.qd_scheme.specs.declared.key.Record.{Record}
use Rattle.qd_stream.specs.declared.item.StreamItem.{StreamItem}
use Rattle.qd_stream.specs.declared.item.StreamItem.TheVariants as stream_items
use Rattle.qd_sub.specs.declared.sub.Sub.{Sub}
use Rattle.qd_path.specs.declared.kind.Kind.{Kind}
use Rattle.qd_path.specs.declared.kind.Kind.TheVariants.{Body, Description, Control}
use Rattle.qd_path.specs.Calls.{Place, after, after_kind, joined_by}
use Rattle.qd_path.specs.Groups.{Group, size, no_group, with_sub, with_key, with_record, with_item, with_event, plain_sub, group_with, is_full, is_foreign, is_adding, is_streaming, kind_of}

-- a body line adds one line at most
sub_few : (sub : Sub) (g : Group) → size (with_sub sub g) ≤ size g + 1
sub_few sub g = let n = length-append g.subs (sub ∷ []) in omega (arith, n)

key_few : (k : Key) (g : Group) → size (with_key k g) ≤ size g + 1
key_few k g = let n = length-append g.keys (k ∷ []) in omega (arith, n)

record_few : (r : Record) (g : Group) → size (with_record r g) ≤ size g + 1
record_few r g = let n = length-append g.records (r ∷ []) in omega (arith, n)

item_few : (i : StreamItem) (g : Group) → size (with_item i g) ≤ size g + 1
item_few i g = let n = length-append g.items (i ∷ []) in omega (arith, n)

event_few : (e : Event) (g : Group) → size (with_event e g) ≤ size g + 1
event_few e g = let n = length-append g.events (e ∷ []) in omega (arith, n)

either_few : (first : Bool) (g a b : Group) → size a ≤ size g + 1 → size b ≤ size g + 1 → size (cond first a b) ≤ size g + 1
either_few true g a b m n = m
either_few false g a b m n = n

pub group_few : (message : Option Message) (item : Item) (g : Group) → size (group_with message item g) ≤ size g + 1
group_few message (items.Rec r) g = either_few (is_streaming message) g (with_item (stream_items.Rec r) g) (with_record r g) (item_few (stream_items.Rec r) g) (record_few r g)
group_few message (items.Lost k count) g = item_few (stream_items.Lost k count) g
group_few message (items.Ev e) g = event_few e g
group_few message (items.HistSub s) g = sub_few s g
group_few message (items.Sub k) g = either_few (is_adding message) g (with_sub (plain_sub k) g) (with_key k g) (sub_few (plain_sub k) g) (key_few k g)
group_few message _ g = omega arith

called_few : (g : Group) (full : Bool) → nat_eq (size g) 4096 ≡ full → size g ≤ 4096 → size (cond full no_group g) < 4096
called_few g true e h = omega arith
called_few g false e h = let n = eqb-false (size g) 4096 e in omega (arith, n)

joined_few : (foreign : Bool) (item : Item) (p : Place) → size p.group < 4096 → size (cond {A = Place} foreign p (joined_by item p)).group < 4096
joined_few true item p h = h
joined_few false item p h = let n = group_few p.message item p.group in called_few (group_with p.message item p.group) (is_full (group_with p.message item p.group)) refl (omega (arith, n))

kind_few : (kind : Kind) (item : Item) (p : Place) → size p.group < 4096 → size (after_kind kind item p).group < 4096
kind_few Body item p h = joined_few (is_foreign p.message item) item p h
kind_few Description item p h = h
kind_few Control item p h = omega arith

pub after_few : (item : Item) (p : Place) → size p.group < 4096 → size (after item p).group < 4096
after_few item p h = kind_few (kind_of item) item p h
