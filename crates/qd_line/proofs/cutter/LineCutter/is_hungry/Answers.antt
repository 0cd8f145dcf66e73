use Rattle.std.proofs.Common.{◌≡◌, ◌-◌, ◌∙◌, ap, arith, min, true, take, drop, length, length-drop, List, ℕ}
use Rattle.qd_line.specs.Lines.{is_one_line}
use Rattle.qd_line.proofs.Feeds.{take_window, left_of, told_hungry}
use Rattle.qd_line.proofs.cutter.LineCutter.is_hungry.Goals as goal

pub invariant_of-self-2 : goal.invariant_of-self-2
invariant_of-self-2 c =
    let left : take (length c.deref.result.now - c.self.inside.start) (drop c.self.inside.start c.deref.result.now) ≡ drop c.self.inside.start c.self.inside.bytes.items = left_of c.self.inside.bytes.items c.deref.result.now c.self.inside.start c.deref.ensures.value in
    let window : c.min-self-inside.result ≡ min (length (drop c.self.inside.start c.self.inside.bytes.items)) 4097 = rw left at c.min-self-inside.ensures in
    let none : is_one_line (take 4097 (drop c.self.inside.start c.self.inside.bytes.items)) ≡ true = rw left at c.in_default.ensures.none in
    let size = length-drop c.self.inside.start c.self.inside.bytes.items in
    let sound = c.self.invariant in
    record {
      start = sound.start;
      searched = let s = sound.start in omega arith;
      most = omega arith;
      one = ap (λ (t : List ℕ). is_one_line t) (take_window (drop c.self.inside.start c.self.inside.bytes.items) c.min-self-inside.result 4097 window) ∙ none;
      text = let s = sound.text in omega arith;
      room = sound.room;
    }

pub returns-clause-tells : goal.returns-clause-tells
returns-clause-tells c =
    let left : take (length c.deref.result.now - c.self.inside.start) (drop c.self.inside.start c.deref.result.now) ≡ drop c.self.inside.start c.self.inside.bytes.items = left_of c.self.inside.bytes.items c.deref.result.now c.self.inside.start c.deref.ensures.value in
    let window : c.min-self-inside.result ≡ min (length (drop c.self.inside.start c.self.inside.bytes.items)) 4097 = rw left at c.min-self-inside.ensures in
    let none : is_one_line (take 4097 (drop c.self.inside.start c.self.inside.bytes.items)) ≡ true = rw left at c.in_default.ensures.none in
    rw (← c.self.view_is) (told_hungry (drop c.self.inside.start c.self.inside.bytes.items) c.min-self-inside.result window none)
