-- Which ends have which status.
use Rattle.std.proofs.Common.{◌≡◌, refl, inl, inr}
use Rattle.std.specs.Prelude.{◌⊎◌}
use Rattle.qd_items.specs.declared.ends.RunEnd.TheVariants as runs
use Rattle.qd_scheme_file.specs.declared.no_scheme.NoScheme.TheVariants as schemes
use Rattle.qds_tools.specs.declared.program_end.ProgramEnd.{ProgramEnd}
use Rattle.qds_tools.specs.declared.program_end.ProgramEnd.TheVariants.{Usage, Refused, Ran, NetFault}
use Rattle.qds_tools.specs.Statuses.{status_of}

-- status 0
pub done_at : (end : ProgramEnd) → status_of end ≡ 0 → end ≡ Ran runs.Done
done_at Usage e = absurd (cc)
done_at (Refused (schemes.Bad bad)) e = absurd (cc)
done_at (Refused (schemes.Wrong line why)) e = absurd (cc)
done_at (Refused (schemes.LineTooLong line)) e = absurd (cc)
done_at (Refused schemes.TooMuch) e = absurd (cc)
done_at (Refused schemes.ReadFault) e = absurd (cc)
done_at (Refused schemes.NoMemory) e = absurd (cc)
done_at (Ran runs.Done) e = refl
done_at (Ran (runs.CutOff line)) e = absurd (cc)
done_at (Ran (runs.Bad bad)) e = absurd (cc)
done_at (Ran (runs.LineTooLong line)) e = absurd (cc)
done_at (Ran (runs.BadStep line)) e = absurd (cc)
done_at (Ran (runs.Refused line limit)) e = absurd (cc)
done_at (Ran runs.TooMuch) e = absurd (cc)
done_at (Ran runs.ReadFault) e = absurd (cc)
done_at (Ran runs.WriteFault) e = absurd (cc)
done_at (Ran runs.Spent) e = absurd (cc)
done_at (Ran runs.NoMemory) e = absurd (cc)
done_at NetFault e = absurd (cc)

-- status 3
pub read_at : (end : ProgramEnd) → status_of end ≡ 3 → (end ≡ Refused schemes.ReadFault) ⊎ (end ≡ Ran runs.ReadFault)
read_at Usage e = absurd (cc)
read_at (Refused (schemes.Bad bad)) e = absurd (cc)
read_at (Refused (schemes.Wrong line why)) e = absurd (cc)
read_at (Refused (schemes.LineTooLong line)) e = absurd (cc)
read_at (Refused schemes.TooMuch) e = absurd (cc)
read_at (Refused schemes.ReadFault) e = inl refl
read_at (Refused schemes.NoMemory) e = absurd (cc)
read_at (Ran runs.Done) e = absurd (cc)
read_at (Ran (runs.CutOff line)) e = absurd (cc)
read_at (Ran (runs.Bad bad)) e = absurd (cc)
read_at (Ran (runs.LineTooLong line)) e = absurd (cc)
read_at (Ran (runs.BadStep line)) e = absurd (cc)
read_at (Ran (runs.Refused line limit)) e = absurd (cc)
read_at (Ran runs.TooMuch) e = absurd (cc)
read_at (Ran runs.ReadFault) e = inr refl
read_at (Ran runs.WriteFault) e = absurd (cc)
read_at (Ran runs.Spent) e = absurd (cc)
read_at (Ran runs.NoMemory) e = absurd (cc)
read_at NetFault e = absurd (cc)

-- status 4
pub written_at : (end : ProgramEnd) → status_of end ≡ 4 → end ≡ Ran runs.WriteFault
written_at Usage e = absurd (cc)
written_at (Refused (schemes.Bad bad)) e = absurd (cc)
written_at (Refused (schemes.Wrong line why)) e = absurd (cc)
written_at (Refused (schemes.LineTooLong line)) e = absurd (cc)
written_at (Refused schemes.TooMuch) e = absurd (cc)
written_at (Refused schemes.ReadFault) e = absurd (cc)
written_at (Refused schemes.NoMemory) e = absurd (cc)
written_at (Ran runs.Done) e = absurd (cc)
written_at (Ran (runs.CutOff line)) e = absurd (cc)
written_at (Ran (runs.Bad bad)) e = absurd (cc)
written_at (Ran (runs.LineTooLong line)) e = absurd (cc)
written_at (Ran (runs.BadStep line)) e = absurd (cc)
written_at (Ran (runs.Refused line limit)) e = absurd (cc)
written_at (Ran runs.TooMuch) e = absurd (cc)
written_at (Ran runs.ReadFault) e = absurd (cc)
written_at (Ran runs.WriteFault) e = refl
written_at (Ran runs.Spent) e = absurd (cc)
written_at (Ran runs.NoMemory) e = absurd (cc)
written_at NetFault e = absurd (cc)

-- status 6
pub net_at : (end : ProgramEnd) → status_of end ≡ 6 → end ≡ NetFault
net_at Usage e = absurd (cc)
net_at (Refused (schemes.Bad bad)) e = absurd (cc)
net_at (Refused (schemes.Wrong line why)) e = absurd (cc)
net_at (Refused (schemes.LineTooLong line)) e = absurd (cc)
net_at (Refused schemes.TooMuch) e = absurd (cc)
net_at (Refused schemes.ReadFault) e = absurd (cc)
net_at (Refused schemes.NoMemory) e = absurd (cc)
net_at (Ran runs.Done) e = absurd (cc)
net_at (Ran (runs.CutOff line)) e = absurd (cc)
net_at (Ran (runs.Bad bad)) e = absurd (cc)
net_at (Ran (runs.LineTooLong line)) e = absurd (cc)
net_at (Ran (runs.BadStep line)) e = absurd (cc)
net_at (Ran (runs.Refused line limit)) e = absurd (cc)
net_at (Ran runs.TooMuch) e = absurd (cc)
net_at (Ran runs.ReadFault) e = absurd (cc)
net_at (Ran runs.WriteFault) e = absurd (cc)
net_at (Ran runs.Spent) e = absurd (cc)
net_at (Ran runs.NoMemory) e = absurd (cc)
net_at NetFault e = refl
