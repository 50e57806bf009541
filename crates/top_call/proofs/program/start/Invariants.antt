use Rattle.std.proofs.Common.{[]}
use Rattle.top_call.proofs.program.start.Given as goal

abbrev pub ghost-run_real : goal.ghost-run_real
ghost-run_real g a = []
