use Rattle.std.proofs.Common.{◌≡◌, ℕ, List, refl}
use Rattle.std.proofs.lemmas.Result.{IfErr-weaker}
use Rattle.game_record.specs.declared.fault.BadRecord.{BadRecord}
use Rattle.game_record.specs.declared.fault.RecordStop.{RecordStop}
use Rattle.game_record.specs.declared.fault.RecordStop.TheVariants.{Bad, NoMemory}
use Rattle.game_record.specs.Replay.{StopsBy}
use Rattle.record_text.specs.Faults.{IsBad}
use Rattle.record_text.proofs.read.read_record.Goals as goal

-- what nothing is wrong with stops for want of memory alone
only-memory : (text : List ℕ) (stop : RecordStop) → ((bad : BadRecord) → IsBad text bad → ⊥) → StopsBy (IsBad text) stop → stop ≡ NoMemory
only-memory text (Bad bad) right wrong = absurd (right bad wrong)
only-memory text NoMemory right wrong = refl

pub returns-clause-complete : goal.returns-clause-complete
returns-clause-complete c = λ rec is. IfErr-weaker c.read_text.result _ _ (λ stop wrong. only-memory c.args.text.now stop (λ bad. c.record_texts_have_no_fault.ensures c.args.text.now rec bad is) wrong) c.read_text.ensures.err
