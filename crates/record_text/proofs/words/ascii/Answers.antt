use Rattle.std.proofs.lemmas.Str.{IsUtf8-from_ascii}
use Rattle.record_text.proofs.words.ascii.Goals as goal

pub returns-in-Err : goal.returns-in-Err
returns-in-Err c = λ ascii. c.in-Err.ensures.cases.0 (IsUtf8-from_ascii c.args.word.now ascii)
