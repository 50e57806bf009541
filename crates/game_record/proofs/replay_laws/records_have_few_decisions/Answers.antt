use Rattle.std.proofs.Common.{◌∷◌, [], arith, length-append}
use Rattle.game_record.specs.declared.line.Line.TheVariants.{Closed}
use Rattle.game_record.specs.Lines.{games_lines}
use Rattle.game_record.specs.Replay.{first_moment}
use Rattle.game_record.proofs.OneReplay.{few-told}
use Rattle.game_record.proofs.replay_laws.records_have_few_decisions.Goals as goal

pub returns : goal.returns
returns c = λ rec told valid replay.
    omega (arith, few-told (games_lines 1 rec.games) (first_moment rec) told replay.0 replay.1, valid.few, length-append (games_lines 1 rec.games) (Closed ∷ []))
