use Rattle.std.specs.Io.KnownBytes.{Keeps}
use Rattle.system_files.proofs.opened.read_once.Given as goal

-- interrupted reads had nothing
abbrev pub invariant-loop : goal.invariant-loop
invariant-loop g l = Keeps (g.R.Read.remaining l.initial.reader) (g.R.Read.remaining l.reader)
