-- How far a record has been read.
use Rattle.std.proofs.Common.{◌≡◌, ℕ, ◌+◌, ◌≤◌, false, List, [], ◌∷◌, ◌++◌, length, Some, sym, ◌∙◌, ap, subst, append_assoc, arith}
use Rattle.std.proofs.lemmas.List.{append-nil, length-append}
use Rattle.record_text.specs.declared.draft.Draft.{Draft}
use Rattle.game_record.specs.declared.line.Line.{Line}
use Rattle.game_record.specs.declared.stage.Next.{Next}
use Rattle.game_record.specs.declared.stage.Next.TheVariants.{Nothing}
use Rattle.game_record.specs.declared.stage.Stage.{Stage}
use Rattle.game_record.specs.Turns.{stage_after, first_stage}
use Rattle.game_record.specs.Lines.{Follow, record_lines}
use Rattle.record_text.specs.Texts.{line_text, lines_text, is_too_long, IsRecordText}
use Rattle.record_text.specs.Forms.{cut_at}
use Rattle.record_text.specs.Drafts.{added, lines_read, record_of, TakesLine, ReadsLines}
use Rattle.record_text.proofs.Printing.{lines_text_append}
use Rattle.record_text.proofs.FormLaws.{cut-text}
use Rattle.record_text.proofs.DraftLaws.{follow-more, stage-added}
use Rattle.record_text.proofs.TextLaws.{few-lines}

-- what is left is shorter
pub cut-length : (rest line more : List ℕ) → cut_at 10 rest ≡ Some (line, more) → length rest ≡ length line + (length more + 1)
cut-length rest line more cut =
    let whole : length (10 ∷ more) ≡ length more + 1 = omega arith in
    ap length (cut-text 10 rest line more cut) ∙ length-append line (10 ∷ more) ∙ ap (λ n. length line + n) whole

one-line : (line more : List ℕ) → ((line ++ 10 ∷ []) ++ []) ++ more ≡ line ++ 10 ∷ more
one-line line more = ap (λ l. l ++ more) (append-nil (line ++ 10 ∷ [])) ∙ append_assoc line (10 ∷ []) more

text-more : (lines : List Line) (line : Line) (more : List ℕ) → lines_text lines ++ (line_text line ++ 10 ∷ more) ≡ lines_text (lines ++ line ∷ []) ++ more
text-more lines line more =
    ap (λ t. lines_text lines ++ t) (sym (one-line (line_text line) more))
    ∙ sym (append_assoc (lines_text lines) (lines_text (line ∷ [])) more)
    ∙ ap (λ t. t ++ more) (sym (lines_text_append lines (line ∷ [])))

-- with one more line
pub reading-more : (text : List ℕ) (stage : Stage) (draft : Draft) (number : ℕ) (rest line more : List ℕ) (new_stage : Stage) (new_draft : Draft) → ReadsLines text stage draft number rest → cut_at 10 rest ≡ Some (line, more) → TakesLine stage draft line new_stage new_draft → ReadsLines text new_stage new_draft (number + 1) more
reading-more text stage draft number rest line more new_stage new_draft r cut t =
    let lines = lines_read stage.next stage.games draft in
    let new = stage_after stage t.line t.next in
    let a = stage-added stage draft t.line t.next r.counts t.comes t.fits in
    let long = cut-length rest line more cut in
    let longer = ap length a.0.0 ∙ length-append lines (t.line ∷ []) in
    let one : length (t.line ∷ []) ≡ 1 = omega arith in
    let moved : ReadsLines text new (added draft t.line) (number + 1) more = record {
      follow = subst (λ ls. Follow first_stage ls new) (sym a.0.0) (follow-more first_stage lines stage t.line t.next r.follow t.comes t.fits);
      counts = a.0.1;
      parts = r.parts ∙ ap (λ x. lines_text lines ++ x) (cut-text 10 rest line more cut ∙ ap (λ l. l ++ 10 ∷ more) t.says) ∙ text-more lines t.line more ∙ ap (λ ls. lines_text ls ++ more) (sym a.0.0);
      count = omega (arith, longer, one, r.count);
      room = omega (arith, long, r.room);
      games = omega (arith, a.1, r.games);
    } in
    rw (t.stage_is, t.draft_is) moved

-- all has been read
pub whole-read : (text : List ℕ) (stage : Stage) (draft : Draft) (number : ℕ) (rest : List ℕ) → ReadsLines text stage draft number rest → is_too_long text ≡ false → rest ≡ [] → stage.next ≡ Nothing → IsRecordText text (record_of draft)
whole-read text stage draft number rest r size none closed =
    let read = lines_read stage.next stage.games draft in
    let lines : read ≡ record_lines (record_of draft) = ap (λ (next : Next). lines_read next stage.games draft) closed in
    record {
      valid = record {
        end = stage;
        follow = subst (λ (ls : List Line). Follow first_stage ls stage) lines r.follow;
        closed = closed;
        few = subst (λ (ls : List Line). length ls ≤ 65536) lines (few-lines text read rest size r.parts);
      };
      printed = r.parts ∙ ap (λ (more : List ℕ). lines_text read ++ more) none ∙ append-nil (lines_text read) ∙ ap lines_text lines;
      size = size;
    }
