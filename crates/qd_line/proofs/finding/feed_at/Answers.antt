use Rattle.std.proofs.Common.{◌≡◌, ◌+◌, ◌-◌, ◌≤◌, arith, true, take, length, length-take, length-drop, drop, slice_range}
use Rattle.memchr.specs.Find.{Nowhere, Passes, is_byte}
use Rattle.qd_line.specs.Lines.{is_one_line}
use Rattle.qd_line.proofs.Feeds.{searched_on, take_window}
use Rattle.qd_line.proofs.finding.feed_at.Goals as goal

pub returns-in_err-at-clause-none : goal.returns-in_err-at-clause-none
returns-in_err-at-clause-none c =
    let long : length (slice_range c.args.left.now c.args.searched c.min-window.result) ≡ c.min-window.result - c.args.searched = omega (arith, length-take (c.min-window.result - c.args.searched) (drop c.args.searched c.args.left.now), length-drop c.args.searched c.args.left.now) in
    let nowhere : Nowhere (Passes (is_byte 10) (slice_range c.args.left.now c.args.searched c.min-window.result)) 0 (c.min-window.result - c.args.searched) = λ k a b. c.in_err-at.ensures k a (omega arith) in
    let one : is_one_line (take (c.args.searched + (c.min-window.result - c.args.searched)) c.args.left.now) ≡ true = searched_on c.args.left.now c.args.searched c.min-window.result (c.min-window.result - c.args.searched) (omega arith) (omega arith) (omega arith) c.requires.searched nowhere in
    let e : c.args.searched + (c.min-window.result - c.args.searched) ≡ c.min-window.result = omega arith in
    let window : take c.min-window.result c.args.left.now ≡ take 4097 c.args.left.now = take_window c.args.left.now c.min-window.result 4097 (omega arith) in
    rw c.from_residual.ensures (rw (e, window) at one)

pub returns-clause-before : goal.returns-clause-before
returns-clause-before c =
    let first = c.in_ok-at.ensures.0 in
    let long : length (slice_range c.args.left.now c.args.searched c.min-window.result) ≡ c.min-window.result - c.args.searched = omega (arith, length-take (c.min-window.result - c.args.searched) (drop c.args.searched c.args.left.now), length-drop c.args.searched c.args.left.now) in
    let within : c.in_ok-at.at ≤ c.min-window.result - c.args.searched = omega (arith, first.high) in
    searched_on c.args.left.now c.args.searched c.min-window.result c.in_ok-at.at (omega arith) (omega arith) within c.requires.searched first.before
