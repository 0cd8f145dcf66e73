use Rattle.std.proofs.Common.{◌≡◌, ℕ, ◌+◌, ◌-◌, ◌≤◌, ◌∙◌, sym, refl, ap, arith, min, true, take, drop, length, length-take, length-drop, List, ◌++◌, ◌∷◌}
use Rattle.std.proofs.lemmas.List.{drop-drop, take_all}
use Rattle.qd_line.specs.Lines.{is_one_line, without_cr}
use Rattle.qd_line.proofs.Feeds.{take_window, take_less, left_of}
use Rattle.qd_line.proofs.Pasts.{stands_line}
use Rattle.qd_line.proofs.cutter.LineCutter.next_line.Goals as goal
use Rattle.qd_line.proofs.cutter.LineCutter.next_line.Goals.{then-self-gt-MOST, else-self-gt-MOST}

pub invariant_of-self-in-None : goal.invariant_of-self-in-None
invariant_of-self-in-None c =
    let left : take (length c.deref.result.now - c.self.inside.start) (drop c.self.inside.start c.deref.result.now) ≡ drop c.self.inside.start c.self.inside.bytes.items = left_of c.self.inside.bytes.items c.deref.result.now c.self.inside.start c.deref.ensures.value in
    let window : c.min-self-inside.result ≡ min (length (drop c.self.inside.start c.self.inside.bytes.items)) 4097 = rw left at c.min-self-inside.ensures in
    let none : is_one_line (take 4097 (drop c.self.inside.start c.self.inside.bytes.items)) ≡ true = rw left at c.in-None.ensures.none in
    let size = length-drop c.self.inside.start c.self.inside.bytes.items in
    let sound = c.self.invariant in
    record {
      start = sound.start;
      searched = let s = sound.start in omega arith;
      most = omega arith;
      one = ap (λ (t : List ℕ). is_one_line t) (take_window (drop c.self.inside.start c.self.inside.bytes.items) c.min-self-inside.result 4097 window) ∙ none;
      text = let s = sound.text in omega arith;
      room = sound.room;
    }

pub returns-in-Some-clause-stands : goal.returns-in-Some-clause-stands
returns-in-Some-clause-stands c = λ past stands.
    let left : take (length c.deref.result.now - c.self.inside.start) (drop c.self.inside.start c.deref.result.now) ≡ drop c.self.inside.start c.self.inside.bytes.items = left_of c.self.inside.bytes.items c.deref.result.now c.self.inside.start c.deref.ensures.value in
    let one : is_one_line (take c.in-Some.at (drop c.self.inside.start c.self.inside.bytes.items)) ≡ true = rw left at c.in-Some.ensures.before in
    let feed : (drop c.self.inside.start c.self.inside.bytes.items) ≡ take c.in-Some.at (drop c.self.inside.start c.self.inside.bytes.items) ++ 10 ∷ drop (c.in-Some.at + 1) (drop c.self.inside.start c.self.inside.bytes.items) = rw left at c.in-Some.ensures.feed in
    let rest : drop (c.in-Some.at + 1) (drop c.self.inside.start c.self.inside.bytes.items) ≡ drop (c.self.inside.start + (c.in-Some.at + 1)) c.self.inside.bytes.items = drop-drop (c.in-Some.at + 1) c.self.inside.start c.self.inside.bytes.items in
    let text : take c.text_len-self-inside.result (take c.in-Some.at (drop c.self.inside.start c.self.inside.bytes.items)) ≡ without_cr (take c.in-Some.at (drop c.self.inside.start c.self.inside.bytes.items)) = rw left at c.text_len-self-inside.ensures.text in
    let within : c.text_len-self-inside.result ≤ length (take c.in-Some.at (drop c.self.inside.start c.self.inside.bytes.items)) = rw left at c.text_len-self-inside.ensures.within in
    let place = c.in-Some.ensures.place in
    let before = rw (← c.self.view_is) at stands in
    stands_line _ _ (take c.in-Some.at (drop c.self.inside.start c.self.inside.bytes.items)) (record {
      stood = feed ∙ ap (λ (t : List ℕ). take c.in-Some.at (drop c.self.inside.start c.self.inside.bytes.items) ++ 10 ∷ t) rest;
      one = one;
      short = let h = place.1 in omega (arith, length-take c.in-Some.at (drop c.self.inside.start c.self.inside.bytes.items));
      text = sym (take_less (drop c.self.inside.start c.self.inside.bytes.items) c.text_len-self-inside.result c.in-Some.at (omega (arith, length-take c.in-Some.at (drop c.self.inside.start c.self.inside.bytes.items)))) ∙ text;
      counted = refl;
    }) past before

pub returns-after-self-gt-MOST-clause-answer : goal.returns-after-self-gt-MOST-clause-answer
returns-after-self-gt-MOST-clause-answer c =
    let left : take (length c.deref.result.now - c.self.inside.start) (drop c.self.inside.start c.deref.result.now) ≡ drop c.self.inside.start c.self.inside.bytes.items = left_of c.self.inside.bytes.items c.deref.result.now c.self.inside.start c.deref.ensures.value in
    let window : c.min-self-inside.result ≡ min (length (drop c.self.inside.start c.self.inside.bytes.items)) 4097 = rw left at c.min-self-inside.ensures in
    let none : is_one_line (take 4097 (drop c.self.inside.start c.self.inside.bytes.items)) ≡ true = rw left at c.in-None.ensures.none in
    elim c.if-self-gt-MOST.branch [
      | then-self-gt-MOST w ↦ rw (w.result-is, ← c.self.view_is) (record { long = let k = w.if-self-gt-MOST.true in omega arith; one = none }, refl, refl)
      | else-self-gt-MOST w ↦ rw (w.result-is, ← c.self.view_is) (let k = w.if-self-gt-MOST.false in let few : length (drop c.self.inside.start c.self.inside.bytes.items) ≤ 4096 = omega arith in record { one = ap (λ (t : List ℕ). is_one_line t) (sym (take_all 4097 (drop c.self.inside.start c.self.inside.bytes.items) (omega arith))) ∙ none; short = few }, refl)
    ]
