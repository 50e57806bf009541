use Rattle.std.proofs.Common.{◌≡◌, ℕ, ◌+◌, ◌-◌, ◌≤◌, ◌++◌, List, Result, Ok, Err, IfOk, length, take, drop, Option, arith, refl, length-drop, length-take}
use Rattle.outside_log.specs.Files.{Reads, bytes_from}
use Rattle.outside_log.specs.Reading.{AddsRead}
use Rattle.outside_log.specs.Log.{standing}
use Rattle.outside_log.proofs.Readings.{read-cause, read-reads, read-told}
use Rattle.outside_log.proofs.Filling.{read-front}
use Rattle.outside_log.proofs.reading.read_more.Goals as goal

-- what was read into the part of a buffer behind the first `done`
into : {E : Type 0} (r : Result ℕ E) (file : Option (List ℕ)) (at done room : ℕ) (old new : List ℕ) → done ≤ length old → room ≡ length old - done → length new ≡ length (take room (drop done old))
    → IfOk r (Reads file at (take room (drop done old)) new) → IfOk r (AddsRead (bytes_from at file) done old (take done old ++ (new ++ drop room (drop done old))))
into (Ok count) file at done room old new le size same reads =
    let fits : count ≤ length new = omega (arith, reads.room, same) in
    let part : length (take room (drop done old)) ≡ room = omega (arith, length-take room (drop done old), length-drop done old, size) in
    record {
      enough = reads.there;
      some = λ more there. reads.some (omega (arith, part, size, more)) there;
      front = read-front done count old new (drop room (drop done old)) (bytes_from at file) le fits reads.front;
    }
into (Err e) file at done room old new le size same reads = tt

pub returns-clause-read : goal.returns-clause-read
returns-clause-read g c all =
    let le : c.args.done ≤ length c.args.buf.now = omega (arith, c.requires.room) in
    into c.read_at.result (standing (g.F.Files.log c.args.files.now) c.args.name.now) (c.args.at + c.args.done) c.args.done (length c.args.buf.now - c.args.done) c.args.buf.now c.read_at.new.buf le refl c.read_at.auto.buf
    (read-told _ _ c.args.name.now (c.args.at + c.args.done) _ c.read_at.new.buf c.read_at.result c.read_at.ensures.log c.read_at.ensures.within c.read_at.auto.buf all)

pub returns-clause-reads : goal.returns-clause-reads
returns-clause-reads g c = read-reads _ _ _ _ _ _ c.read_at.result c.read_at.ensures.log

pub returns-clause-cause : goal.returns-clause-cause
returns-clause-cause g c = read-cause _ _ _ _ _ _ c.read_at.result c.read_at.ensures.log
