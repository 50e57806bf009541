-- A right line has the form of what it says.
use Rattle.std.proofs.Common.{◌≡◌, ℕ, ◌+◌, ◌<◌, ◌^◌, true, false, cond, eqb, nat_le, List, [], ◌∷◌, ◌++◌, length, codes, decimal, Option, Some, None, refl, ◌∙◌, ap, subst, append_assoc, arith}
use Rattle.std.proofs.lemmas.Bool.{le-leb, ne_eqb}
use Rattle.std.proofs.lemmas.List.{append-nil}
use Rattle.cube_text.specs.Texts.{rule_text}
use Rattle.roll_table.specs.Rolls.{Dice, IsRoll}
use Rattle.roll_table.specs.Text.{roll_text}
use Rattle.position_text.proofs.PlaceTexts.{lacks, lacks-append}
use Rattle.cube_actions.specs.declared.name.MoneyRule.TheVariants.{Cubeless}
use Rattle.game_record.specs.declared.player.Player.{Player}
use Rattle.game_record.specs.declared.player.Player.TheVariants.{A, B}
use Rattle.game_record.specs.declared.record.RecordStakes.{RecordStakes}
use Rattle.game_record.specs.declared.record.RecordStakes.TheVariants.{Unlimited, Match}
use Rattle.game_record.specs.declared.record.What.{What}
use Rattle.game_record.specs.declared.record.What.TheVariants.{Rolled, Doubled, Took, Passed, Beavered}
use Rattle.game_record.specs.declared.line.Line.{Line}
use Rattle.game_record.specs.declared.line.Line.TheVariants.{Title, Checkers, Stakes, Game as GameLine, Acted, Ended, Stopped, Closed}
use Rattle.game_record.specs.declared.stage.Stage.{Stage}
use Rattle.game_record.specs.Lines.{UpTo, AreRecordStakes, IsWrittenPlay, FitsStage}
use Rattle.game_record.specs.Turns.{player_text}
use Rattle.record_text.specs.Texts.{stakes_word, steps_text, deed_text, line_text}
use Rattle.record_text.specs.Forms.{LineForm, TitleForm, CheckersForm, StakesForm, MatchForm, GameForm, AwayForm, RollForm, DoubleForm, TakeForm, PassForm, BeaverForm, EndForm, StopForm, CloseForm, form_of, deed_form, roll_form, game_form, needs_form, cut, same_text, are_words, begins_with_digit}
use Rattle.record_text.proofs.LineWords.{cut-none, cut-some, other-word, lacks-decimal, word-decimal, steps-words, steps-no-end}

abbrev pub form_of_stakes : RecordStakes → LineForm
form_of_stakes (Match length) = MatchForm (decimal length)
form_of_stakes (Unlimited rule) = StakesForm (rule_text rule)

abbrev pub form_of_game : ℕ → Option (ℕ × ℕ) → LineForm
form_of_game number None = GameForm (decimal number)
form_of_game number (Some needs) = AwayForm (decimal number) (decimal needs.0) (decimal needs.1)

abbrev pub form_of_deed : Player → What → LineForm
form_of_deed player (Rolled roll written) = RollForm player (roll_text roll) (steps_text written.items)
form_of_deed player Doubled = DoubleForm player
form_of_deed player Took = TakeForm player
form_of_deed player Passed = PassForm player
form_of_deed player Beavered = BeaverForm player

-- the form of what a line says
abbrev pub form_of_line : Line → LineForm
form_of_line Title = TitleForm
form_of_line (Checkers checkers) = CheckersForm (decimal checkers)
form_of_line (Stakes stakes) = form_of_stakes stakes
form_of_line (GameLine number away) = form_of_game number away
form_of_line (Acted action) = form_of_deed action.player action.what
form_of_line (Ended winner points) = EndForm winner (decimal points)
form_of_line Stopped = StopForm
form_of_line Closed = CloseForm

-- numbers that are small enough to be printed and read
small : (most n : ℕ) → most < 100 → UpTo most n → n < 2 ^ 64
small most n low h = omega (arith, h.1, low)

stakes-read : (stakes : RecordStakes) → (is_small : (length : ℕ) → stakes ≡ Match length → length < 2 ^ 64) → form_of (codes "stakes " ++ stakes_word stakes) ≡ Some (form_of_stakes stakes)
stakes-read (Unlimited Cubeless) h = refl
stakes-read (Unlimited _) h = refl
stakes-read (Match length) h = ap (λ b. cond b (Some (MatchForm (decimal length))) None) (word-decimal length (h length refl))

game-read : (number : ℕ) → number < 2 ^ 64 → form_of (codes "game " ++ decimal number) ≡ Some (GameForm (decimal number))
game-read number h =
    ap (game_form (decimal number)) (cut-none 32 (decimal number) (lacks-decimal 32 number (omega arith) h))
    ∙ ap (λ b. cond b (Some (GameForm (decimal number))) None) (word-decimal number h)

away-read : (number a b : ℕ) → number < 2 ^ 64 → a < 2 ^ 64 → b < 2 ^ 64 → form_of (codes "game " ++ decimal number ++ (codes " away " ++ decimal a ++ codes " " ++ decimal b)) ≡ Some (AwayForm (decimal number) (decimal a) (decimal b))
away-read number a b h ha hb =
    let needs = decimal a ++ codes " " ++ decimal b in
    let rest = decimal number ++ 32 ∷ (codes "away " ++ needs) in
    ap (λ t. form_of (codes "game " ++ t)) same
    ∙ ap (game_form rest) (cut-some 32 (decimal number) (codes "away " ++ needs) (lacks-decimal 32 number (omega arith) h))
    ∙ ap (λ w. cond w (needs_form (decimal number) (cut needs)) None) (word-decimal number h)
    ∙ ap (needs_form (decimal number)) (ap cut (append_assoc (decimal a) (codes " ") (decimal b)) ∙ cut-some 32 (decimal a) (decimal b) (lacks-decimal 32 a (omega arith) ha))
    ∙ rw (word-decimal a ha, word-decimal b hb) refl where
      same : decimal number ++ (codes " away " ++ decimal a ++ codes " " ++ decimal b) ≡ decimal number ++ 32 ∷ (codes "away " ++ (decimal a ++ codes " " ++ decimal b))
      same = refl

end-read : (winner : Player) (points : ℕ) → points < 2 ^ 64 → form_of (codes "end " ++ player_text winner ++ codes " " ++ decimal points) ≡ Some (EndForm winner (decimal points))
end-read A points h = ap (λ b. cond b (Some (EndForm A (decimal points))) None) (word-decimal points h)
end-read B points h = ap (λ b. cond b (Some (EndForm B (decimal points))) None) (word-decimal points h)

die-lacks : (byte n : ℕ) → byte < 48 → lacks byte ((48 + n) ∷ []) ≡ true
die-lacks byte n low = let other : eqb (48 + n) byte ≡ false = ne_eqb (48 + n) byte (λ e. omega (arith, low, e)) in rw other refl

pub roll-lacks : (byte : ℕ) (roll : Dice) → byte < 48 → lacks byte (roll_text roll) ≡ true
roll-lacks byte roll low = lacks-append byte ((48 + roll.high) ∷ []) ((48 + roll.low) ∷ []) (die-lacks byte roll.high low) (die-lacks byte roll.low low)

digit-first : (roll : Dice) → IsRoll roll → begins_with_digit (roll_text roll) ≡ true
digit-first roll valid =
    let low : nat_le 48 (48 + roll.high) ≡ true = le-leb 48 (48 + roll.high) (omega arith) in
    let high : nat_le (48 + roll.high) 57 ≡ true = le-leb (48 + roll.high) 57 (omega (arith, valid.to)) in
    rw (low, high) refl

no-deed : (roll : Dice) (rest : List ℕ) (y : ℕ) (ys : List ℕ) → IsRoll roll → 60 < y → same_text (roll_text roll ++ codes " " ++ rest) (y ∷ ys) ≡ false
no-deed roll rest y ys valid big = other-word (48 + roll.high) y ((48 + roll.low) ∷ (codes " " ++ rest)) ys (λ e. omega (arith, e, big, valid.to))

roll-read : (player : Player) (roll : Dice) (play : List ℕ) → IsRoll roll → are_words play ≡ true → deed_form (roll_text roll ++ codes " " ++ play) (Some player) ≡ Some (RollForm player (roll_text roll) play)
roll-read player roll play valid words =
    let rest = roll_text roll ++ codes " " ++ play in
    rw (no-deed roll play 100 (codes "ouble") valid (omega arith), no-deed roll play 116 (codes "ake") valid (omega arith), no-deed roll play 112 (codes "ass") valid (omega arith), no-deed roll play 98 (codes "eaver") valid (omega arith))
    (ap (roll_form player) (ap cut (append_assoc (roll_text roll) (codes " ") play) ∙ cut-some 32 (roll_text roll) play (roll-lacks 32 roll (omega arith)))
    ∙ rw (digit-first roll valid, words) refl)

roll-line-read : (player : Player) (roll : Dice) (play : List ℕ) → IsRoll roll → are_words play ≡ true → form_of (player_text player ++ codes " " ++ (roll_text roll ++ codes " " ++ play)) ≡ Some (RollForm player (roll_text roll) play)
roll-line-read A roll play valid words = roll-read A roll play valid words
roll-line-read B roll play valid words = roll-read B roll play valid words

deed-read : (player : Player) (what : What) → IsWrittenPlay what → form_of (player_text player ++ codes " " ++ deed_text what) ≡ Some (form_of_deed player what)
deed-read player (Rolled roll written) valid = roll-line-read player roll (steps_text written.items) valid.2 (steps-words written.items)
deed-read A Doubled valid = refl
deed-read A Took valid = refl
deed-read A Passed valid = refl
deed-read A Beavered valid = refl
deed-read B Doubled valid = refl
deed-read B Took valid = refl
deed-read B Passed valid = refl
deed-read B Beavered valid = refl

match-small : (stakes : RecordStakes) → AreRecordStakes stakes → (length : ℕ) → stakes ≡ Match length → length < 2 ^ 64
match-small stakes h length e = small 5 length (omega arith) (subst AreRecordStakes e h)

-- a right line has the form of what it says
pub line-read : (stage : Stage) (line : Line) → stage.games < 2 ^ 32 → FitsStage stage line → form_of (line_text line) ≡ Some (form_of_line line)
line-read stage Title low h = refl
line-read stage (Checkers checkers) low h = ap (λ b. cond b (Some (CheckersForm (decimal checkers))) None) (word-decimal checkers (small 3 checkers (omega arith) h))
line-read stage (Stakes stakes) low h = stakes-read stakes (match-small stakes h)
line-read stage (GameLine number None) low h = ap form_of (append-nil (codes "game " ++ decimal number)) ∙ game-read number (omega (arith, low, h.0))
line-read stage (GameLine number (Some needs)) low h = away-read number needs.0 needs.1 (omega (arith, low, h.0)) (small 5 needs.0 (omega arith) h.1.0) (small 5 needs.1 (omega arith) h.1.1)
line-read stage (Acted action) low h = deed-read action.player action.what h.1
line-read stage (Ended winner points) low h = end-read winner points (small 3 points (omega arith) h)
line-read stage Stopped low h = refl
line-read stage Closed low h = refl

-- ---- no line end stands in it

player-no-end : (player : Player) → lacks 10 (player_text player) ≡ true
player-no-end A = refl
player-no-end B = refl

number-no-end : (n : ℕ) → n < 2 ^ 64 → lacks 10 (decimal n) ≡ true
number-no-end n h = lacks-decimal 10 n (omega arith) h

stakes-no-end : (stakes : RecordStakes) → AreRecordStakes stakes → lacks 10 (stakes_word stakes) ≡ true
stakes-no-end (Unlimited Cubeless) h = refl
stakes-no-end (Unlimited _) h = refl
stakes-no-end (Match length) h = number-no-end length (small 5 length (omega arith) h)

deed-no-end : (what : What) → lacks 10 (deed_text what) ≡ true
deed-no-end (Rolled roll written) = lacks-append 10 (roll_text roll ++ codes " ") (steps_text written.items) (lacks-append 10 (roll_text roll) (codes " ") (roll-lacks 10 roll (omega arith)) refl) (steps-no-end written.items)
deed-no-end Doubled = refl
deed-no-end Took = refl
deed-no-end Passed = refl
deed-no-end Beavered = refl

pub line-no-end : (stage : Stage) (line : Line) → stage.games < 2 ^ 32 → FitsStage stage line → lacks 10 (line_text line) ≡ true
line-no-end stage Title low h = refl
line-no-end stage (Checkers checkers) low h = number-no-end checkers (small 3 checkers (omega arith) h)
line-no-end stage (Stakes stakes) low h = stakes-no-end stakes h
line-no-end stage (GameLine number None) low h = lacks-append 10 (decimal number) [] (number-no-end number (omega (arith, low, h.0))) refl
line-no-end stage (GameLine number (Some needs)) low h =
    lacks-append 10 (decimal number) (codes " away " ++ decimal needs.0 ++ codes " " ++ decimal needs.1) (number-no-end number (omega (arith, low, h.0)))
    (lacks-append 10 (decimal needs.0 ++ codes " ") (decimal needs.1) (lacks-append 10 (decimal needs.0) (codes " ") (number-no-end needs.0 (small 5 needs.0 (omega arith) h.1.0)) refl) (number-no-end needs.1 (small 5 needs.1 (omega arith) h.1.1)))
line-no-end stage (Acted action) low h = lacks-append 10 (player_text action.player ++ codes " ") (deed_text action.what) (lacks-append 10 (player_text action.player) (codes " ") (player-no-end action.player) refl) (deed-no-end action.what)
line-no-end stage (Ended winner points) low h = lacks-append 10 (player_text winner ++ codes " ") (decimal points) (lacks-append 10 (player_text winner) (codes " ") (player-no-end winner) refl) (number-no-end points (small 3 points (omega arith) h))
line-no-end stage Stopped low h = refl
line-no-end stage Closed low h = refl
