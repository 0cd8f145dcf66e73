use Rattle.std.proofs.Common.{[], ◌++◌, refl, ◌∙◌, arith, length-append}
use Rattle.qd_outside.proofs.Streams.{Took-none, Took-more}
use Rattle.qd_scheme_file.proofs.EndLaws.{nothing_taken, no_memory, refused_ends, full_ends, none_left, some_left, piece_ends, piece_taken, some_read}
use Rattle.qd_scheme_file.proofs.reading.read_all.Goals as goal

pub pieces-init : goal.pieces-init
pieces-init g c = record {
  past = ([], nothing_taken _ _ c.requires.nothing_cut c.requires.nothing_read, Took-none _, refl, omega arith);
  room = c.in-Ok.ensures;
  same = refl;
  kept = refl;
}

pub returns-in-Err-clause-reads : goal.returns-in-Err-clause-reads
returns-in-Err-clause-reads g c = no_memory _ _

pub returns-in-Err-read_lines-clause-reads : goal.returns-in-Err-read_lines-clause-reads
returns-in-Err-read_lines-clause-reads g c =
    let p = c.pieces.invariant.past in
    refused_ends _ c.pieces.reader c.pieces.cutter p.0 _ _ _ _ p.1 p.2 p.4 c.pieces.invariant.same c.in-Err-read_lines.ensures.read

pub returns-in-Err-left_to_read-clause-reads : goal.returns-in-Err-left_to_read-clause-reads
returns-in-Err-left_to_read-clause-reads g c =
    let p = c.pieces.invariant.past in
    let count = p.3 in
    let n = none_left c.pieces.taken c.in-Err-left_to_read.end c.in-Err-left_to_read.ensures in
    let full = n.0 in
    rw n.1 (full_ends c.pieces.reader c.read_lines.new.reader c.pieces.cutter c.read_lines.new.cutter.left p.0 _ _ _ _ p.1 c.in_default.ensures.read p.2 (omega arith) c.pieces.invariant.same)

pub read_piece-requires-clause-some : goal.read_piece-requires-clause-some
read_piece-requires-clause-some g c =
    let p = c.pieces.invariant.past in
    let count = p.3 in
    let within = p.4 in
    (some_left c.pieces.taken c.in-Ok-left_to_read.most (omega arith) c.in-Ok-left_to_read.ensures).0

pub pieces-preserved : goal.pieces-preserved
pieces-preserved g c =
    let p = c.pieces.invariant.past in
    let count = p.3 in
    let within = p.4 in
    let e = c.in_default.ensures in
    let r = c.in-Ok-read_piece.ensures in
    let s = some_read c.in-Ok-read_piece.n c.read_lines.new.cutter c.read_piece.new.cutter _ _ _ _ _ c.in-Ok-read_piece.n-test.1 r.reads in
    let most = s.4 in
    let left = (some_left c.pieces.taken c.in-Ok-left_to_read.most (omega arith) c.in-Ok-left_to_read.ensures).1 in
    let size = s.3 in
    record {
      past = (
        p.0 ++ s.0,
        piece_taken c.pieces.reader c.read_lines.new.reader c.pieces.cutter c.read_lines.new.cutter c.read_piece.new.cutter p.0 s.0 p.1 e.read e.opened e.same e.few s.1,
        Took-more _ _ _ p.0 s.0 p.2 s.2,
        simp length-append (omega arith),
        simp length-append (omega arith),
      );
      room = c.pieces.invariant.room;
      same = s.5 ∙ c.pieces.invariant.same;
      kept = r.kept ∙ c.pieces.invariant.kept;
    }

pub returns-in-Err-read_piece-clause-reads : goal.returns-in-Err-read_piece-clause-reads
returns-in-Err-read_piece-clause-reads g c =
    let p = c.pieces.invariant.past in
    let count = p.3 in
    let within = p.4 in
    let left = (some_left c.pieces.taken c.in-Ok-left_to_read.most (omega arith) c.in-Ok-left_to_read.ensures).1 in
    piece_ends c.in-Err-read_piece.end c.read_lines.new.cutter c.read_piece.new.cutter p.0 _ _ _ _ _ _ _ p.2 (omega arith) c.pieces.invariant.same c.in-Err-read_piece.ensures.reads
