-- How long the text of a record is that is made.
use Rattle.std.proofs.Common.{◌≡◌, ◌+◌, ◌<◌, ◌≤◌, ◌^◌, ℕ, Bool, true, false, not, cond, eqb, ltb, ◌||◌, List, [], ◌∷◌, ◌++◌, Option, None, length, map, codes, decimal, refl, sym, ap, subst, arith}
use Rattle.std.proofs.lemmas.Bool.Decides.{nat_tests}
use Rattle.std.proofs.lemmas.List.{append-nil, length-append}
use Rattle.std.proofs.lemmas.List.Concat.{flat_map-append}
use Rattle.std.proofs.lemmas.List.Sums.{count_by_more_no, sum_by-append}
use Rattle.std.specs.List.{count_by}
use Rattle.itoa.proofs.Decimal.{length_one}
use Rattle.position_text.proofs.PlaceTexts.{both-true, lacks}
use Rattle.game_record.specs.declared.line.Line.{Line}
use Rattle.game_record.specs.declared.line.Line.TheVariants.{Title as TitleLine, Checkers as CheckersLine, Stakes as StakesLine, Game as GameLine, Acted, Ended as EndedLine, Stopped as StoppedLine, Closed}
use Rattle.game_record.specs.declared.record.Action.{Action}
use Rattle.game_record.specs.declared.record.Ending.{Ending}
use Rattle.game_record.specs.declared.record.Ending.TheVariants.{Ended, Stopped}
use Rattle.game_record.specs.declared.record.Game.{Game}
use Rattle.game_record.specs.declared.record.Record.{Record}
use Rattle.game_record.specs.declared.record.RecordStakes.{RecordStakes}
use Rattle.cube_actions.specs.declared.name.MoneyRule.TheVariants.{Jacoby}
use Rattle.game_record.specs.declared.record.RecordStakes.TheVariants.{Unlimited}
use Rattle.game_record.specs.declared.stage.Next.{Next}
use Rattle.game_record.specs.declared.stage.Stage.{Stage}
use Rattle.game_record.specs.Lines.{Follow, IsRecord, ending_line, game_lines, games_lines, record_lines}
use Rattle.record_text.specs.Texts.{IsRecordText, is_line_end, is_too_long, line_text, lines_text, record_text}
use Rattle.game_record.specs.Turns.{first_stage, stage_after}
use Rattle.record_text.proofs.LineForms.{line-no-end}
use Rattle.record_maker.specs.declared.size.Size.{Size}
use Rattle.record_maker.specs.Makers.{IsDrawn}
use Rattle.record_maker.specs.Making.{AllDo, AllMade, AddsGame, Moment, Sheet, begun, ending_text, first_sheet, game_line_text}
use Rattle.record_maker.specs.Sizes.{empty_size, with_line}
use Rattle.record_maker.proofs.Follows.{made-follows}

-- ---- sizes

-- a text has grown by these lines
abbrev pub Grows : Size → List Line → Size → Type 0
Grows old lines new = (new.lines ≡ old.lines + length lines) × (new.bytes ≡ old.bytes + length (lines_text lines))

none-grows : (size : Size) → Grows size [] size
none-grows size = (omega arith, omega arith)

line-grows : (size : Size) (line : Line) (text : List ℕ) → length text ≡ length (line_text line) → Grows size (line ∷ []) (with_line size text)
line-grows size line text long =
    let whole = ap length (append-nil (line_text line ++ 10 ∷ [])) in
    let parts = length-append (line_text line) (10 ∷ []) in
    (omega arith, omega (arith, whole, parts, long))

more-grow : (old : Size) (lines more : List Line) (between new : Size) → Grows old lines between → Grows between more new → Grows old (lines ++ more) new
more-grow old lines more between new first later =
    let count = length-append lines more in
    let text = ap length (flat_map-append (λ (line : Line). line_text line ++ 10 ∷ []) lines more) in
    let bytes = length-append (lines_text lines) (lines_text more) in
    (omega (arith, first.0, later.0, count), omega (arith, first.1, later.1, text, bytes))

by-line : (old : Size) (line : Line) (text : List ℕ) (between : Size) (more : List Line) (new : Size) → between ≡ with_line old text → length text ≡ length (line_text line) → Grows between more new → Grows old (line ∷ more) new
by-line old line text between more new same text_is later =
    more-grow old (line ∷ []) more (with_line old text) new (line-grows old line text text_is) (subst (λ (size : Size). Grows size more new) same later)

all-grow : (from : Moment) (actions : List Action) (to : Moment) → AllDo from actions to → Grows from.size (map Acted actions) to.size
all-grow from [] to all = subst (λ (m : Moment). Grows from.size [] m.size) (sym all) (none-grows from.size)
all-grow from (action ∷ actions) to (next, does, all) = by-line from.size (Acted action) (line_text (Acted action)) next.size (map Acted actions) to.size does.size refl (all-grow next actions to all)

ending-same : (ending : Ending) → ending_text ending ≡ line_text (ending_line ending)
ending-same (Ended winner points) = refl
ending-same Stopped = refl

game-same : (number : ℕ) → game_line_text number ≡ line_text (GameLine number None)
game-same number = ap (λ (digits : List ℕ). codes "game " ++ digits) (sym (append-nil (decimal number)))

game-grows : (sheet : Sheet) (game : Game) (next : Sheet) → AddsGame sheet game next → Grows sheet.size (game_lines (sheet.games + 1) game) next.size
game-grows sheet game next makes =
    let ending = by-line makes.end.size (ending_line game.ending) (ending_text game.ending) next.size [] next.size makes.size (ap length (ending-same game.ending)) (none-grows next.size) in
    let acts = more-grow (begun sheet).size (map Acted game.actions) (ending_line game.ending ∷ []) makes.end.size next.size (all-grow (begun sheet) game.actions makes.end makes.acts) ending in
    subst (λ (away : Option (ℕ × ℕ)). Grows sheet.size (GameLine (sheet.games + 1) away ∷ map Acted game.actions ++ ending_line game.ending ∷ []) next.size) (sym makes.away)
    (by-line sheet.size (GameLine (sheet.games + 1) None) (game_line_text (sheet.games + 1)) (begun sheet).size (map Acted game.actions ++ ending_line game.ending ∷ []) next.size refl (ap length (game-same (sheet.games + 1))) acts)

games-grow : (sheet : Sheet) (games : List Game) (end : Sheet) → AllMade sheet games end → Grows sheet.size (games_lines (sheet.games + 1) games) end.size
games-grow sheet [] end all = subst (λ (s : Sheet). Grows sheet.size [] s.size) (sym all) (none-grows sheet.size)
games-grow sheet (game ∷ games) end (next, makes, all) =
    let later = subst (λ (n : ℕ). Grows next.size (games_lines (n + 1) games) end.size) makes.games (games-grow next games end all) in
    more-grow sheet.size (game_lines (sheet.games + 1) game) (games_lines (sheet.games + 1 + 1) games) next.size end.size (game-grows sheet game next makes) later

-- ---- the ends of lines

no-ends : (text : List ℕ) → lacks 10 text ≡ true → count_by is_line_end text ≡ 0
no-ends [] none = refl
no-ends (byte ∷ text) none =
    let both = both-true (not (eqb byte 10)) (lacks 10 text) none in
    let ends = λ (other : ℕ). cond (is_line_end other) 1 0 in
    let parts = sum_by-append ends (byte ∷ []) text in
    let single = count_by_more_no is_line_end (byte ∷ text) 0 0 (omega arith) (by (eqb byte 10) both.0) in
    omega (arith, parts, single, no-ends text both.1) where
      by : (t : Bool) → not t ≡ true → t ≡ false
      by true e = absurd (cc)
      by false e = refl

more-games : (stage : Stage) (line : Line) (next : Next) → (stage_after stage line next).games ≤ stage.games + 1
more-games stage TitleLine next = omega arith
more-games stage (CheckersLine checkers) next = omega arith
more-games stage (StakesLine stakes) next = omega arith
more-games stage (GameLine number away) next = omega arith
more-games stage (Acted action) next = omega arith
more-games stage (EndedLine winner points) next = omega arith
more-games stage StoppedLine next = omega arith
more-games stage Closed next = omega arith

-- each line has one end
ends-few : (stage : Stage) (lines : List Line) (end : Stage) → stage.games + length lines < 2 ^ 32 → Follow stage lines end → count_by is_line_end (lines_text lines) ≡ length lines
ends-few stage [] end low follow = refl
ends-few stage (line ∷ lines) end low (next, comes, fits, later) =
    let ends = λ (byte : ℕ). cond (is_line_end byte) 1 0 in
    let one = sum_by-append ends (line_text line ++ 10 ∷ []) (lines_text lines) in
    let two = sum_by-append ends (line_text line) (10 ∷ []) in
    let last : count_by is_line_end (10 ∷ []) ≡ 1 = refl in
    let none = no-ends (line_text line) (line-no-end stage line (omega (arith, low)) fits) in
    omega (arith, one, two, last, none, ends-few (stage_after stage line next) lines end (omega (arith, low, more-games stage line next)) later)

-- ---- records

not-long : (text : List ℕ) → length text ≤ 1048576 → count_by is_line_end text ≤ 65536 → is_too_long text ≡ false
not-long text short few = by (ltb 1048576 (length text)) (ltb 65536 (count_by is_line_end text)) refl refl where
  by : (a b : Bool) → ltb 1048576 (length text) ≡ a → ltb 65536 (count_by is_line_end text) ≡ b → (a || b) ≡ false
  by true b e f = absurd (grind (arith, nat_tests))
  by false true e f = absurd (grind (arith, nat_tests))
  by false false e f = refl

-- a record that is drawn is one that can be printed and read
pub drawn-record : (number count : ℕ) (rec : Record) → 1 ≤ count → IsDrawn number count rec → IsRecordText (record_text rec) rec
drawn-record number count rec some drawn =
    let made = drawn.made in
    let follows = made-follows number count rec some made in
    let grown = games-grow (first_sheet number) rec.games made.end made.games in
    let closed = by-line made.end.size Closed (line_text Closed) (with_line made.end.size (line_text Closed)) [] (with_line made.end.size (line_text Closed)) refl refl (none-grows (with_line made.end.size (line_text Closed))) in
    let behind = more-grow (first_sheet number).size (games_lines 1 rec.games) (Closed ∷ []) made.end.size (with_line made.end.size (line_text Closed)) grown closed in
    let title = with_line empty_size (codes "hypergammon record 1") in
    let checkers = with_line title (codes "checkers 1") in
    let end = with_line made.end.size (line_text Closed) in
    let digit = length_one 1 (omega arith) in
    let checkers_long : length (codes "checkers 1") ≡ length (line_text (CheckersLine 1)) = (let parts = length-append (codes "checkers ") (decimal 1) in let one : length (codes "checkers ") ≡ 9 = refl in let all : length (codes "checkers 1") ≡ 10 = refl in omega (arith, parts, one, all, digit)) in
    let games = games_lines 1 rec.games ++ Closed ∷ [] in
    let plain : Grows empty_size (TitleLine ∷ CheckersLine 1 ∷ StakesLine (Unlimited Jacoby) ∷ games) end =
    by-line empty_size TitleLine (codes "hypergammon record 1") title (CheckersLine 1 ∷ StakesLine (Unlimited Jacoby) ∷ games) end refl refl
    (by-line title (CheckersLine 1) (codes "checkers 1") checkers (StakesLine (Unlimited Jacoby) ∷ games) end refl checkers_long
    (by-line checkers (StakesLine (Unlimited Jacoby)) (codes "stakes jacoby") (first_sheet number).size games end refl refl behind)) in
    let whole = subst (λ (stakes : RecordStakes). Grows empty_size (TitleLine ∷ CheckersLine rec.checkers ∷ StakesLine stakes ∷ games_lines 1 rec.games ++ Closed ∷ []) (with_line made.end.size (line_text Closed))) (sym made.stakes)
    (subst (λ (checkers : ℕ). Grows empty_size (TitleLine ∷ CheckersLine checkers ∷ StakesLine (Unlimited Jacoby) ∷ games_lines 1 rec.games ++ Closed ∷ []) (with_line made.end.size (line_text Closed))) (sym made.checkers) plain) in
    let close : length (line_text Closed) ≡ 5 = refl in
    let room = drawn.room in
    let lines : length (record_lines rec) ≤ 60004 = omega (arith, whole.0, room.0) in
    let ends = ends-few first_stage (record_lines rec) follows.0 (omega (arith, lines)) follows.1 in
    let valid : IsRecord rec = record { end = follows.0; follow = follows.1; closed = follows.2; few = omega (arith, lines) } in
    record {
      valid = valid;
      printed = refl;
      size = not-long (record_text rec) (omega (arith, whole.1, room.1, close)) (omega (arith, ends, lines));
    }
