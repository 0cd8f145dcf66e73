-- What is printed of the links that ran.
use Rattle.std.specs.Prelude.{ℕ, List, [], ◌∷◌, ◌++◌, codes}
use Rattle.std.specs.Fmt.{decimal}
use Rattle.qd_session.specs.declared.ends.InEnd.{InEnd}
use Rattle.qd_session.specs.declared.ends.InEnd.TheVariants as ins
use Rattle.qd_link.specs.declared.ends.OutEnd.{OutEnd}
use Rattle.qd_link.specs.declared.ends.OutEnd.TheVariants as outs
use Rattle.qd_serve.specs.declared.ends.Told.{Told}

-- the name of an end of the reading half
abbrev pub in_name : InEnd → List ℕ
in_name ins.End = codes "End"
in_name ins.CutOff = codes "CutOff"
in_name (ins.Bad bad) = codes "Bad"
in_name (ins.LineTooLong line) = codes "LineTooLong"
in_name (ins.Refused line limit) = codes "Refused"
in_name ins.TooMuch = codes "TooMuch"
in_name ins.ReadFault = codes "ReadFault"
in_name ins.Spent = codes "Spent"
in_name ins.NoMemory = codes "NoMemory"

-- the name of an end of the writing half
abbrev pub out_name : OutEnd → List ℕ
out_name outs.Shut = codes "Shut"
out_name outs.Turns = codes "Turns"
out_name outs.WriteFault = codes "WriteFault"
out_name outs.Spent = codes "Spent"
out_name outs.NoMemory = codes "NoMemory"

-- the line of a link, as `link 0 in End out Shut`
abbrev pub told_line : Told → List ℕ
told_line t = (((((codes "link " ++ decimal t.link) ++ codes " in ") ++ in_name t.in_end) ++ codes " out ") ++ out_name t.out_end) ++ 10 ∷ []

-- the lines of links, in order
abbrev pub told_text : List Told → List ℕ
told_text [] = []
told_text (t ∷ ts) = told_line t ++ told_text ts
