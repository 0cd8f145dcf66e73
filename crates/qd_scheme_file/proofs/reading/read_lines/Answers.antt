use Rattle.std.proofs.Common.{◌≡◌, ◌+◌, ℕ, [], Err, Ok, sym, ◌∙◌, ap, subst, arith}
use Rattle.qd_line.specs.Held.{Held}
use Rattle.qd_text.specs.SchemeLines.{scheme_line}
use Rattle.qd_scheme_file.specs.declared.no_scheme.NoScheme.TheVariants.{LineTooLong}
use Rattle.qd_scheme_file.specs.Told.{read_on}
use Rattle.qd_scheme_file.specs.Reading.{IsOpen}
use Rattle.qd_scheme_file.proofs.EndLaws.{text_short, line_goes, line_refused, line_shorter, said_lines, hungry_open, hungry_not_long, line_not_long, long_refused, refuses_same}
use Rattle.qd_scheme_file.proofs.reading.read_lines.Goals as goal

pub read_line-requires-clause-short : goal.read_line-requires-clause-short
read_line-requires-clause-short c = let a = c.in-Line.ensures.answer in text_short _ _ a.0 a.1

pub lines-preserved : goal.lines-preserved
lines-preserved c =
    let a = c.in-Line.ensures.answer in
    let n = said_lines c.lines.reader c.read_line.new.reader (scheme_line c.next_line.new.self.text) c.in_default.ensures.read in
    let s = line_shorter c.lines.cutter c.next_line.new.self a.0 a.1 in
    let k = a.1.counted in
    let i = c.lines.invariant in
    record {
      same_said = line_goes c.lines.reader c.read_line.new.reader c.lines.cutter c.next_line.new.self a.0 a.1 c.in_default.ensures.read ∙ i.same_said;
      long = λ h. absurd (line_not_long c.lines.cutter c.next_line.new.self a.0 a.1 (i.long h).0);
      same = omega arith;
      few = omega arith;
    }

pub returns-in-Err : goal.returns-in-Err
returns-in-Err c =
    let a = c.in-Line.ensures.answer in
    record {
      read = refuses_same c.in-Err.end _ (read_on c.lines.reader [] c.lines.cutter.left) (sym c.lines.invariant.same_said) (line_refused c.in-Err.end c.lines.reader c.lines.cutter c.next_line.new.self a.0 a.1 c.in-Err.ensures.read);
      long = λ h. absurd (line_not_long c.lines.cutter c.next_line.new.self a.0 a.1 (c.lines.invariant.long h).0);
      opened = tt;
      same = tt;
      few = tt;
    }

pub returns-in-None-clause-read : goal.returns-in-None-clause-read
returns-in-None-clause-read c =
    let a = c.in-None.ensures.answer in
    sym c.lines.invariant.same_said ∙ hungry_open c.lines.reader c.lines.cutter.left a.0 ∙ ap (λ (h : Held). Ok (c.lines.reader, h.left)) (sym a.1)

pub returns-in-None-clause-long : goal.returns-in-None-clause-long
returns-in-None-clause-long c = λ h. let a = c.in-None.ensures.answer in absurd (hungry_not_long c.lines.cutter.left a.0 (c.lines.invariant.long h).0)

pub returns-in-None-clause-opened : goal.returns-in-None-clause-opened
returns-in-None-clause-opened c =
    let a = c.in-None.ensures.answer in
    subst (λ (h : Held). IsOpen c.lines.reader h.left) (sym a.1) (hungry_open c.lines.reader c.lines.cutter.left a.0)

pub returns-in-TooLong-clause-read : goal.returns-in-TooLong-clause-read
returns-in-TooLong-clause-read c =
    let a = c.in-TooLong.ensures.answer in
    let i = c.lines.invariant.same in
    let l = a.1 in
    let n : c.lines.reader.lines + 1 ≡ c.in-TooLong.line = omega arith in
    sym c.lines.invariant.same_said ∙ long_refused c.lines.reader c.lines.cutter.left a.0 ∙ ap (λ (n : ℕ). Err (LineTooLong n)) n

pub returns-in-TooLong-clause-long : goal.returns-in-TooLong-clause-long
returns-in-TooLong-clause-long c = λ h.
    let a = c.in-TooLong.ensures.answer in
    let i = c.lines.invariant.same in
    let f = (c.lines.invariant.long h).1 in
    let l = a.1 in
    ap (λ (n : ℕ). Err (LineTooLong n)) (omega (arith, i, f, l))
