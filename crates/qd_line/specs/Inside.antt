-- Where the bytes of a cutter of lines stand.
use Rattle.std.specs.Prelude.{◌≡◌, ◌+◌, ◌≤◌, true, take, drop, vec_len, vec_capacity}
use Rattle.qd_line.specs.Lines.{is_one_line}
use Rattle.qd_line.specs.declared.cutter.LineCutter.TheInside.{Inside}

-- the bytes from the start on are left, the first ones of them that were searched have no line feed, and the text
-- stands among the bytes; there is room for what may be left where no line comes next, and a piece of 64 KiB
pub record IsSound (c : Inside) : Type 0 where
  pub start : c.start ≤ vec_len c.bytes
  pub searched : c.start + c.searched ≤ vec_len c.bytes
  pub most : c.searched ≤ 4097
  pub one : is_one_line (take c.searched (drop c.start c.bytes.items)) ≡ true
  pub text : c.text_start + c.text_len ≤ vec_len c.bytes
  pub room : 69632 ≤ vec_capacity c.bytes
