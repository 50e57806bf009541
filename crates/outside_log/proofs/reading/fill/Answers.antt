use Rattle.std.proofs.Common.{◌≡◌, ◌∙◌, ℕ, ◌+◌, List, Ok, length, sym, ap, subst, arith, drop}
use Rattle.outside_log.specs.Files.{Contents, bytes_from}
use Rattle.outside_log.specs.Log.{standing}
use Rattle.outside_log.specs.Reading.{AddsRead}
use Rattle.outside_log.proofs.Filling.{read-on, read-end, no_room, bytes-on}
use Rattle.outside_log.proofs.Readings.{reads-before, reads-both, reads-same}
use Rattle.outside_log.proofs.reading.fill.Goals as goal

-- what was read behind the bytes so far, of a file that is as at the start
as-read : (at done count : ℕ) (name : List ℕ) (held now : Contents) (old new : List ℕ) → now ≡ held → AddsRead (bytes_from (at + done) (now name)) done old new count → AddsRead (drop done (bytes_from at (held name))) done old new count
as-read at done count name held now old new same read = subst (λ (there : List ℕ). AddsRead there done old new count) (ap (λ (c : Contents). bytes_from (at + done) (c name)) same ∙ sym (bytes-on at done (held name))) read

pub reads-preserved : goal.reads-preserved
reads-preserved g c = record {
  within = omega (arith, c.in_ok-count.ensures.within, c.read_more.ensures.len);
  size = c.read_more.ensures.len ∙ c.reads.invariant.size;
  reads = reads-both _ _ _ c.reads.invariant.reads c.read_more.ensures.reads;
  read = λ all. read-on (bytes_from c.args.at (standing (g.F.Files.log c.args.files.now) c.args.name.now)) c.reads.buf c.read_more.new.buf c.reads.done c.in_ok-count.count
      (c.reads.invariant.read (reads-before c.read_more.ensures.reads all))
      (as-read c.args.at c.reads.done c.in_ok-count.count c.args.name.now (standing (g.F.Files.log c.args.files.now)) (standing (g.F.Files.log c.reads.files)) c.reads.buf c.read_more.new.buf
      (reads-same c.reads.invariant.reads) (c.in_ok-count.ensures.read all));
  later = omega (arith, c.reads.invariant.later, c.read_more.ensures.cause.later);
  none = λ none. absurd (no_room c.args.buf.now c.reads.done none (omega (arith, c.reads-test.true, c.reads.invariant.size)));
}

pub returns-clause-empty : goal.returns-clause-empty
returns-clause-empty g c none =
    let no_more : c.reads.done ≡ 0 = omega (arith, c.reads.invariant.within, c.reads.invariant.size, ap length none) in
    (ap (λ n. Ok n) no_more, c.reads.invariant.none none)

pub returns-in_err-count-clause-reads : goal.returns-in_err-count-clause-reads
returns-in_err-count-clause-reads g c = reads-both _ _ _ c.reads.invariant.reads c.read_more.ensures.reads

pub returns-then-count-eq0-clause-fills : goal.returns-then-count-eq0-clause-fills
returns-then-count-eq0-clause-fills g c all =
    read-end (standing (g.F.Files.log c.args.files.now) c.args.name.now) c.args.at c.args.buf.now c.reads.buf c.read_more.new.buf c.reads.done c.reads-test.true c.reads.invariant.size
    (c.reads.invariant.read (reads-before c.read_more.ensures.reads all))
    (as-read c.args.at c.reads.done 0 c.args.name.now (standing (g.F.Files.log c.args.files.now)) (standing (g.F.Files.log c.reads.files)) c.reads.buf c.read_more.new.buf
    (reads-same c.reads.invariant.reads) (rw (c.if-count-eq0.true) at c.in_ok-count.ensures.read all))

pub returns-then-count-eq0-clause-reads : goal.returns-then-count-eq0-clause-reads
returns-then-count-eq0-clause-reads g c = reads-both _ _ _ c.reads.invariant.reads c.read_more.ensures.reads
