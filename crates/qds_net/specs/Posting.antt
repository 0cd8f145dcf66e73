-- How `post` ends, and what it sends.
use Rattle.std.specs.Prelude.{ℕ, ◌≡◌, ◌⊎◌, true, false, List, Option, Some, None}
use Rattle.qd_client.specs.Posts.{Posts, AreFirstParts, IsDecided}
use Rattle.qd_items.specs.declared.ends.RunEnd.{RunEnd}
use Rattle.qd_items.specs.declared.ends.RunEnd.TheVariants as runs
use Rattle.qd_net.specs.Meeting.{NetState}
use Rattle.qd_outside.specs.Opening.{FilesState, OpensIn}
use Rattle.qd_scheme.specs.declared.defs.RecordDef.{RecordDef}
use Rattle.qds_tools.specs.declared.program_end.ProgramEnd.{ProgramEnd}
use Rattle.qds_tools.specs.declared.program_end.ProgramEnd.TheVariants.{Ran, NetFault}
use Rattle.qds_tools.specs.Program.{IsReadOn}
use Rattle.qds_net.specs.Worlds.{World}
use Rattle.qds_net.specs.Connections.{IsUnconnected, IsConnection}

-- the end of the program where a post ends so: what could not be written was to go to the connection
abbrev pub end_of_post : RunEnd → ProgramEnd
end_of_post runs.WriteFault = NetFault
end_of_post end = Ran end

-- a text that is read: the bytes left of it, where they are told, and the faults of reading it
pub record Text : Type 0 where
  pub left : Option (List ℕ)
  pub reads : ℕ

-- a text was posted over a connection
pub record IsPosted (defs : List RecordDef) (addr : List ℕ) (before : Text) (end : RunEnd) (after : Text) (net later : NetState) : Type 0 where
  pub list : Option (List ℕ)
  pub was : Option (List ℕ)
  pub sent : Option (List ℕ)
  pub sends : ℕ
  pub connection : IsConnection addr list was sent 0 sends net later
  pub posts : Posts defs (record { left = before.left; reads = before.reads; written = was; writes = 0 }) end (record { left = after.left; reads = after.reads; written = sent; writes = sends })
  pub first : AreFirstParts defs (record { left = before.left; reads = before.reads; written = was; writes = 0 }) (record { left = after.left; reads = after.reads; written = sent; writes = sends })
  pub decided : IsDecided defs (record { left = before.left; reads = before.reads; written = was; writes = 0 }) end (record { left = after.left; reads = after.reads; written = sent; writes = sends })

-- a text was posted to an address; or no connection came about, and nothing was read of it
abbrev pub PostsTo : List RecordDef → List ℕ → Text → ProgramEnd → Text → NetState → NetState → Type 0
PostsTo defs addr before end after net later =
    (IsUnconnected addr end net later × (after ≡ before))
    ⊎ ((ended : RunEnd) × (end ≡ end_of_post ended) × IsPosted defs addr before ended after net later)

-- the file of this name was opened and posted; or it could not be opened, and nothing was dialled
abbrev pub PostsFile : List RecordDef → List ℕ → List ℕ → ProgramEnd → FilesState → FilesState → NetState → NetState → Type 0
PostsFile defs addr name end before after net later =
    ((opened : FilesState) × OpensIn true name before opened
    × PostsTo defs addr (record { left = opened.left; reads = opened.read_faults }) end (record { left = after.left; reads = after.read_faults }) net later
    × IsReadOn opened after)
    ⊎ (OpensIn false name before after × (end ≡ Ran runs.ReadFault) × (later ≡ net))

-- the file of this name was posted, or standard input; nothing else changes
abbrev pub PostsOf : Option (List ℕ) → List RecordDef → List ℕ → ProgramEnd → World → World → Type 0
PostsOf None defs addr end o w =
    PostsTo defs addr (record { left = o.left; reads = o.reads }) end (record { left = w.left; reads = w.reads }) o.net w.net × (w ≡ record o { net = w.net; left = w.left; reads = w.reads })
PostsOf (Some name) defs addr end o w = PostsFile defs addr name end o.files w.files o.net w.net × (w ≡ record o { files = w.files; net = w.net })
