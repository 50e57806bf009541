-- A text is read in one way.
use Rattle.std.proofs.Common.{cond, ◌≡◌, ℕ, ◌+◌, ◌<◌, ◌≤◌, ◌^◌, Bool, true, false, ltb, ◌||◌, List, [], ◌∷◌, ◌++◌, length, Some, ◌⊎◌, inl, inr, refl, sym, ◌∙◌, ap, subst, append_assoc, arith}
use Rattle.std.proofs.lemmas.Bool.{ltb-false}
use Rattle.std.proofs.lemmas.List.{append-nil, length-append}
use Rattle.std.specs.List.{count_by}
use Rattle.std.proofs.lemmas.List.Sums.{sum_by-append}
use Rattle.std.proofs.lemmas.Option.{none-some, same_Some}
use Rattle.game_record.specs.declared.fault.BadRecord.{BadRecord}
use Rattle.game_record.specs.declared.fault.RecordFault.{RecordFault}
use Rattle.game_record.specs.declared.record.Record.{Record}
use Rattle.game_record.specs.declared.line.Line.{Line}
use Rattle.game_record.specs.declared.line.LineKind.{LineKind}
use Rattle.game_record.specs.declared.stage.Next.{Next}
use Rattle.game_record.specs.declared.stage.Next.TheVariants.{Nothing}
use Rattle.game_record.specs.declared.stage.Stage.{Stage}
use Rattle.game_record.specs.Turns.{allowed, kind_of, stage_after, first_stage}
use Rattle.game_record.specs.Lines.{record_lines, FitsStage, Follow}
use Rattle.record_text.specs.Texts.{line_text, lines_text, is_line_end, is_too_long, IsRecordText}
use Rattle.record_text.specs.Forms.{cut_at}
use Rattle.record_text.specs.Faults.{IsLineFault, IsWrongRest, IsFirstWrongLine, IsBad}
use Rattle.record_text.proofs.DraftLaws.{stage-games}
use Rattle.record_text.proofs.LineWords.{cut-some}
use Rattle.record_text.proofs.LineForms.{line-no-end}
use Rattle.record_text.proofs.LineLaws.{TellsPlays, same-line, no-fault}

-- ---- the first line of a text

first-apart : (line : Line) (lines : List Line) (rest : List ℕ) → lines_text (line ∷ lines) ++ rest ≡ line_text line ++ 10 ∷ (lines_text lines ++ rest)
first-apart line lines rest =
    append_assoc (line_text line ++ 10 ∷ []) (lines_text lines) rest ∙ append_assoc (line_text line) (10 ∷ []) (lines_text lines ++ rest)

first-cut : (stage : Stage) (line : Line) (lines : List Line) (rest : List ℕ) → stage.games < 2 ^ 32 → FitsStage stage line → cut_at 10 (lines_text (line ∷ lines) ++ rest) ≡ Some (line_text line, lines_text lines ++ rest)
first-cut stage line lines rest low fits = ap (cut_at 10) (first-apart line lines rest) ∙ cut-some 10 (line_text line) (lines_text lines ++ rest) (line-no-end stage line low fits)

-- ---- two ways to read a text: one goes on where the other stops

abbrev pub GoesOn : List Line → Stage → List ℕ → List Line → Stage → List ℕ → Type 0
GoesOn lines end rest others other_end other_rest = (more : List Line) × (others ≡ lines ++ more) × Follow end more other_end × (rest ≡ lines_text more ++ other_rest)

pub same-front : TellsPlays → (stage : Stage) (lines : List Line) (end : Stage) (rest : List ℕ) (others : List Line) (other_end : Stage) (other_rest : List ℕ) → stage.games + length lines < 2 ^ 32 → Follow stage lines end → Follow stage others other_end → lines_text lines ++ rest ≡ lines_text others ++ other_rest
    → GoesOn lines end rest others other_end other_rest ⊎ GoesOn others other_end other_rest lines end rest
same-front tells stage [] end rest others other_end other_rest low f g e = inl (others, refl, subst (λ (s : Stage). Follow s others other_end) (sym f) g, e)
same-front tells stage (line ∷ lines) end rest [] other_end other_rest low f g e = inr (line ∷ lines, refl, subst (λ (s : Stage). Follow s (line ∷ lines) end) (sym g) f, sym e)
same-front tells stage (line ∷ lines) end rest (other ∷ others) other_end other_rest low f g e =
    let small : stage.games < 2 ^ 32 = omega (arith, low) in
    let cuts = same_Some _ _ (sym (first-cut stage line lines rest small f.2) ∙ ap (cut_at 10) e ∙ first-cut stage other others other_rest small g.2) in
    let texts : line_text line ≡ line_text other = ap (λ (p : List ℕ × List ℕ). p.0) cuts in
    let rests : lines_text lines ++ rest ≡ lines_text others ++ other_rest = ap (λ (p : List ℕ × List ℕ). p.1) cuts in
    let same = same-line tells stage line other small f.2 g.2 texts in
    let nexts = same_Some f.0 g.0 (sym f.1 ∙ ap (λ l. allowed stage.in_match stage.next (kind_of l)) same ∙ g.1) in
    let stages : stage_after stage line f.0 ≡ stage_after stage other g.0 = (λ i. stage_after stage (same i) (nexts i)) in
    let fewer : (stage_after stage line f.0).games + length lines < 2 ^ 32 = omega (arith, low, stage-games stage line f.0) in
    elim (same-front tells (stage_after stage line f.0) lines end rest others other_end other_rest fewer f.3 (subst (λ (s : Stage). Follow s others other_end) (sym stages) g.3) rests) [
      | inl on ↦ inl (on.0, ap (λ ls. other ∷ ls) on.1 ∙ ap (λ l. l ∷ (lines ++ on.0)) (sym same), on.2, on.3)
      | inr on ↦ inr (on.0, ap (λ ls. line ∷ ls) on.1 ∙ ap (λ l. l ∷ (others ++ on.0)) same, on.2, on.3)
    ]

-- ---- what comes behind the end

nothing-after : (m : Bool) (kind : LineKind) (next : Next) → allowed m Nothing kind ≡ Some next → ⊥
nothing-after m kind next e = none-some next e

pub none-behind : (stage : Stage) (lines : List Line) (end : Stage) → stage.next ≡ Nothing → Follow stage lines end → lines ≡ []
none-behind stage [] end closed f = refl
none-behind stage (line ∷ lines) end closed f = absurd (nothing-after stage.in_match (kind_of line) f.0 (ap (λ n. allowed stage.in_match n (kind_of line)) (sym closed) ∙ f.1))

-- each line has its end
ends-many : (lines : List Line) → length lines ≤ count_by is_line_end (lines_text lines)
ends-many [] = omega arith
ends-many (line ∷ lines) =
    let ends = λ (byte : ℕ). cond (is_line_end byte) 1 0 in
    let one = sum_by-append ends (line_text line ++ 10 ∷ []) (lines_text lines) in
    let two = sum_by-append ends (line_text line) (10 ∷ []) in
    let end : count_by is_line_end (10 ∷ []) ≡ 1 = refl in
    omega (arith, one, two, end, ends-many lines)

pub few-lines : (text : List ℕ) (lines : List Line) (rest : List ℕ) → is_too_long text ≡ false → text ≡ lines_text lines ++ rest → length lines ≤ 65536
few-lines text lines rest size e =
    let ends = λ (byte : ℕ). cond (is_line_end byte) 1 0 in
    let many = neither (ltb 1048576 (length text)) (ltb 65536 (count_by is_line_end text)) size in
    let few : count_by is_line_end text ≤ 65536 = ltb-false 65536 (count_by is_line_end text) many in
    let parts = ap (λ t. count_by is_line_end t) e ∙ sum_by-append ends (lines_text lines) rest in
    omega (arith, few, parts, ends-many lines) where
      neither : (a b : Bool) → (a || b) ≡ false → b ≡ false
      neither true b e = absurd (cc)
      neither false b e = e

pub follow-games : (stage : Stage) (lines : List Line) (end : Stage) → Follow stage lines end → end.games ≤ stage.games + length lines
follow-games stage [] end f = let same = ap (λ (s : Stage). s.games) f in omega (arith, same)
follow-games stage (line ∷ lines) end f = omega (arith, stage-games stage line f.0, follow-games (stage_after stage line f.0) lines end f.3)

-- ---- where a right line, or the end, stands, nothing is wrong

pub right-line-there : (stage : Stage) (line : Line) (lines : List Line) (end : Stage) (behind rest : List ℕ) (fault : RecordFault) → stage.games < 2 ^ 32 → Follow stage (line ∷ lines) end → rest ≡ lines_text (line ∷ lines) ++ behind → IsWrongRest stage rest fault → ⊥
right-line-there stage line lines end behind rest fault low f e wrong =
    let there = ap (cut_at 10) e ∙ first-cut stage line lines behind low f.2 in
    elim wrong [
      | inl w ↦ (let text : line_text line ≡ w.0 = ap (λ (p : List ℕ × List ℕ). p.0) (same_Some _ _ (sym there ∙ w.2)) in
          no-fault stage line f.0 fault low f.1 f.2 (subst (λ t. IsLineFault stage t fault) (sym text) w.3))
      | inr w ↦ none-some _ (sym w.1 ∙ there)
    ]

end-there : (stage : Stage) (rest : List ℕ) (fault : RecordFault) → stage.next ≡ Nothing → rest ≡ [] → IsWrongRest stage rest fault → ⊥
end-there stage rest fault closed e wrong = elim wrong [
  | inl w ↦ none-some _ (ap (cut_at 10) (sym e) ∙ w.2)
  | inr w ↦ w.2 (e, closed)
]

-- a record's text has no fault
pub text-right : TellsPlays → (text : List ℕ) (rec : Record) (bad : BadRecord) → IsRecordText text rec → IsBad text bad → ⊥
text-right tells text rec bad is wrong = elim wrong [
  | inl long ↦ long.0 is.size
  | inr w ↦ first-right w.0 w.1
] where
  first-right : is_too_long text ≡ false → IsFirstWrongLine text bad → ⊥
  first-right size w =
      let lines = record_lines rec in
      let whole : lines_text lines ++ [] ≡ lines_text w.lines ++ w.rest = append-nil (lines_text lines) ∙ sym is.printed ∙ w.parts in
      let low : 0 + length lines < 2 ^ 32 = omega (arith, is.valid.few) in
      elim (same-front tells first_stage lines is.valid.end [] w.lines w.stage w.rest low is.valid.follow w.right whole) [
        | inl on ↦ (let none = none-behind is.valid.end on.0 w.stage is.valid.closed on.2 in
            let stage : w.stage ≡ is.valid.end = subst (λ ls. Follow is.valid.end ls w.stage) none on.2 in
            let rest : w.rest ≡ [] = sym (on.3 ∙ ap (λ ls. lines_text ls ++ w.rest) none) in
            end-there w.stage w.rest bad.fault (ap (λ (s : Stage). s.next) stage ∙ is.valid.closed) rest w.wrong)
        | inr on ↦ behind on.0 w on.1 on.2 on.3
      ] where
        behind : (more : List Line) (w : IsFirstWrongLine text bad) → record_lines rec ≡ w.lines ++ more → Follow w.stage more is.valid.end → w.rest ≡ lines_text more ++ [] → ⊥
        behind [] w all f e = end-there w.stage w.rest bad.fault (ap (λ (s : Stage). s.next) (sym f) ∙ is.valid.closed) e w.wrong
        behind (line ∷ more) w all f e =
            let long = ap length all ∙ length-append w.lines (line ∷ more) in
            let games = follow-games first_stage w.lines w.stage w.right in
            let low : w.stage.games < 2 ^ 32 = omega (arith, long, games, is.valid.few) in
            right-line-there w.stage line more is.valid.end [] w.rest bad.fault low f e w.wrong
