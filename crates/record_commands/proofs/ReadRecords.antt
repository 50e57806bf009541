-- What is read of a record, and what stops reading it.
use Rattle.std.proofs.Common.{◌≡◌, ◌∙◌, List, ℕ, map, length, ◌<◌, ◌≤◌, get_or, All, Err, inr, sym, ap, subst}
use Rattle.std.proofs.lemmas.List.{length-map, get_or-map}
use Rattle.game_record.specs.Replay.{StopsBy}
use Rattle.game_record.specs.RightDecisions.{IsRightDecision}
use Rattle.game_record.specs.declared.decision.Decision.{Decision}
use Rattle.game_record.specs.declared.fault.RecordStop.{RecordStop}
use Rattle.game_record.specs.declared.fault.RecordStop.TheVariants as stops
use Rattle.game_record.specs.declared.record.Record.{Record as RecordRead}
use Rattle.plain_record.specs.Plain.{line_numbers, plain_text}
use Rattle.record_commands.specs.Records.{AnswersText, IsRightReplayed, IsWrongPlain, at_line, record_refusal}

-- another line changes nothing of what can be relied on
right-at-line : (rec : RecordRead) (numbers : List ℕ) (decision : Decision) → IsRightDecision rec decision → IsRightDecision rec (at_line numbers decision)
right-at-line rec numbers decision right = record { position = right.position; live = right.live; checkers = right.checkers; score = right.score; kind = right.kind; choice = right.choice }

-- nor of all decisions of a record
pub right-at-lines : (rec : RecordRead) (numbers : List ℕ) (told decisions : List Decision) → IsRightReplayed (record { rec = rec; decisions = told }) → decisions ≡ map (at_line numbers) told → IsRightReplayed (record { rec = rec; decisions = decisions })
right-at-lines rec numbers told decisions right lines = record {
  valid = right.valid;
  right = subst (All (IsRightDecision rec)) (sym lines) each;
  few = subst (λ (n : ℕ). n ≤ 131072) (sym (ap length lines ∙ length-map told (at_line numbers))) right.few;
} where
  each : All (IsRightDecision rec) (map (at_line numbers) told)
  each k d below =
      let inside : k < length told = subst (λ (n : ℕ). k < n) (length-map told (at_line numbers)) below in
      let first = get_or told k d in
      subst (IsRightDecision rec) (sym (get_or-map (at_line numbers) told k first d inside)) (right-at-line rec numbers (get_or told k first) (right.right k first inside))

-- what stops reading the plain text of a text refuses the text
pub stopped : (text read numbers : List ℕ) → length text ≤ 1048576 → read ≡ plain_text text → numbers ≡ line_numbers text → (stop : RecordStop) → StopsBy (IsWrongPlain read) stop → AnswersText text (Err (record_refusal numbers stop))
stopped text read numbers short is lines (stops.Bad bad) wrong = inr (record {
  short = short;
  plain = bad;
  wrong = subst (λ (t : List ℕ). IsWrongPlain t bad) is wrong;
  line = ap (λ (ns : List ℕ). record bad { line = get_or ns bad.line 0 }) lines;
})
stopped text read numbers short is lines stops.NoMemory wrong = tt
