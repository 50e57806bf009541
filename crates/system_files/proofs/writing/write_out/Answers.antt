use Rattle.std.proofs.Common.{◌≡◌, ℕ, ◌-◌, List, length, take, drop, sym, subst, arith, length-drop}
use Rattle.std.proofs.Math.Seq.{take-add}
use Rattle.std.proofs.lemmas.List.{take_all}
use Rattle.std.specs.Io.KnownBytes.{Appends}
use Rattle.system_files.proofs.WriterLemmas.{Appends-then}
use Rattle.system_files.proofs.writing.write_out.Goals as goal

pub loop-preserved : goal.loop-preserved
loop-preserved g c =
    let rest : List ℕ = drop c.loop.done c.args.bytes.now in
    let whole : take (length c.args.bytes.now - c.loop.done) rest ≡ rest = take_all (length c.args.bytes.now - c.loop.done) rest (omega (arith, length-drop c.loop.done c.args.bytes.now)) in (
      omega (arith, c.in-Some.ensures.within, c.loop.invariant.0, length-drop c.loop.done c.args.bytes.now),
      subst (λ (taken : List ℕ). Appends (g.W.Write.contents c.args.writer.now) (g.W.Write.contents c.hand_over.new.writer) taken)
          (sym (take-add c.loop.done c.in-Some.count c.args.bytes.now))
          (Appends-then _ _ _ (take c.loop.done c.args.bytes.now) (take c.in-Some.count rest) c.loop.invariant.1 (subst (λ (part : List ℕ). Appends (g.W.Write.contents c.loop.writer) (g.W.Write.contents c.hand_over.new.writer) (take c.in-Some.count part)) whole c.in-Some.ensures.taken)),
    )
