-- No text is that of two lines, and none is that of a right line and of a wrong one.
use Rattle.std.proofs.Common.{◌≡◌, ℕ, ◌+◌, ◌<◌, ◌^◌, List, [], codes, decimal, get_or, inl, inr, Option, Some, None, MatchOption, refl, sym, ◌∙◌, ap, subst, arith}
use Rattle.std.proofs.lemmas.Fmt.{decimal_is_IsNumeral}
use Rattle.std.specs.Str.Parse.{digits_value}
use Rattle.std.specs.Prelude.{if◌then◌else◌}
use Rattle.std.proofs.lemmas.Option.{same_Some}
use Rattle.roll_table.specs.Rolls.{Dice}
use Rattle.roll_table.specs.Text.{roll_text}
use Rattle.move_rules.specs.declared.written.Step.{Step}
use Rattle.play_text.specs.Notation.{IsPlayText}
use Rattle.cube_actions.specs.declared.name.MoneyRule.TheVariants.{Cubeless, Money, Jacoby, MoneyBeavers, JacobyBeavers}
use Rattle.game_record.specs.declared.player.Player.{Player}
use Rattle.game_record.specs.declared.player.Player.TheVariants.{A}
use Rattle.game_record.specs.declared.record.RecordStakes.{RecordStakes}
use Rattle.game_record.specs.declared.record.RecordStakes.TheVariants.{Unlimited, Match}
use Rattle.game_record.specs.declared.record.What.{What}
use Rattle.game_record.specs.declared.record.What.TheVariants.{Rolled, Doubled, Took, Passed, Beavered}
use Rattle.game_record.specs.declared.fault.RecordFault.{RecordFault}
use Rattle.game_record.specs.declared.fault.RecordFault.TheVariants.{Shape, Order}
use Rattle.game_record.specs.declared.line.Line.{Line}
use Rattle.game_record.specs.declared.line.Line.TheVariants.{Title, Checkers, Stakes, Game as GameLine, Acted, Ended, Stopped, Closed}
use Rattle.game_record.specs.declared.stage.Next.{Next}
use Rattle.game_record.specs.declared.stage.Stage.{Stage}
use Rattle.game_record.specs.Turns.{allowed, kind_of, kind_of_deed}
use Rattle.game_record.specs.Lines.{UpTo, AreRecordStakes, IsWrittenPlay, FitsStage}
use Rattle.record_text.specs.Texts.{steps_text, line_text}
use Rattle.record_text.specs.Forms.{LineForm, TitleForm, CheckersForm, StakesForm, MatchForm, GameForm, AwayForm, RollForm, DoubleForm, TakeForm, PassForm, BeaverForm, EndForm, StopForm, CloseForm, form_of, kind_of_form, same_text}
use Rattle.record_text.specs.Faults.{IsWrong, IsFormFault, IsLineFault}
use Rattle.record_text.proofs.LineForms.{form_of_line, form_of_stakes, form_of_game, form_of_deed, line-read}

-- ---- a right line has no fault

stakes-right : (stage : Stage) (stakes : RecordStakes) (fault : RecordFault) → AreRecordStakes stakes → IsWrong stage (form_of_stakes stakes) fault → ⊥
stakes-right stage (Unlimited rule) fault h wrong = wrong.1 rule refl
stakes-right stage (Match length) fault h wrong = wrong.1 length h refl

line-right : (stage : Stage) (line : Line) (fault : RecordFault) → FitsStage stage line → IsWrong stage (form_of_line line) fault → ⊥
line-right stage Title fault h wrong = wrong
line-right stage (Checkers checkers) fault h wrong = wrong.1 checkers h refl
line-right stage (Stakes stakes) fault h wrong = stakes-right stage stakes fault h wrong
line-right stage (GameLine number None) fault h wrong = wrong.1 (ap decimal h.0)
line-right stage (GameLine number (Some needs)) fault h wrong = elim wrong.1 [
  | inl other ↦ other (ap decimal h.0)
  | inr unfit ↦ elim unfit [ inl a ↦ a needs.0 h.1.0 refl | inr b ↦ b needs.1 h.1.1 refl ]
]
line-right stage (Acted action) fault h wrong = deed-right action.what h wrong where
  deed-right : (what : What) → FitsStage stage (Acted (record { player = action.player; what = what })) → IsWrong stage (form_of_deed action.player what) fault → ⊥
  deed-right (Rolled roll written) h wrong = elim wrong [
    | inl none ↦ none.1 roll (h.1.2, h.0, refl)
    | inr none ↦ none.2 written.items (record { words = refl; hits = h.1.0; few = h.1.1 })
  ]
  deed-right Doubled h wrong = wrong
  deed-right Took h wrong = wrong
  deed-right Passed h wrong = wrong
  deed-right Beavered h wrong = wrong
line-right stage (Ended winner points) fault h wrong = wrong.1 points h refl
line-right stage Stopped fault h wrong = wrong
line-right stage Closed fault h wrong = wrong

stakes-kind : (stakes : RecordStakes) → kind_of_form (form_of_stakes stakes) ≡ kind_of (Stakes stakes)
stakes-kind (Unlimited rule) = refl
stakes-kind (Match length) = refl

deed-kind : (player : Player) (what : What) → kind_of_form (form_of_deed player what) ≡ kind_of_deed player what
deed-kind player (Rolled roll written) = refl
deed-kind player Doubled = refl
deed-kind player Took = refl
deed-kind player Passed = refl
deed-kind player Beavered = refl

line-kind : (line : Line) → kind_of_form (form_of_line line) ≡ kind_of line
line-kind Title = refl
line-kind (Checkers checkers) = refl
line-kind (Stakes stakes) = stakes-kind stakes
line-kind (GameLine number None) = refl
line-kind (GameLine number (Some needs)) = refl
line-kind (Acted action) = deed-kind action.player action.what
line-kind (Ended winner points) = refl
line-kind Stopped = refl
line-kind Closed = refl

-- the text of a right line has no fault
pub no-fault : (stage : Stage) (line : Line) (next : Next) (fault : RecordFault) → stage.games < 2 ^ 32 → allowed stage.in_match stage.next (kind_of line) ≡ Some next → FitsStage stage line → IsLineFault stage (line_text line) fault → ⊥
no-fault stage line next fault low comes fits wrong =
    let formed = subst (λ (o : Option LineForm). MatchOption o (fault ≡ Shape) (λ form. IsFormFault stage form fault)) (line-read stage line low fits) wrong in
    let placed = subst (λ (o : Option Next). MatchOption o (fault ≡ Order) (λ next. IsWrong stage (form_of_line line) fault)) (ap (allowed stage.in_match stage.next) (line-kind line) ∙ comes) formed in
    line-right stage line fault fits placed

-- ---- what a form tells of its line

number-back : (n : ℕ) → n < 2 ^ 64 → digits_value 10 (decimal n) ≡ n
number-back n h = (decimal_is_IsNumeral n h).1

up-back : (most n : ℕ) → most < 100 → UpTo most n → digits_value 10 (decimal n) ≡ n
up-back most n low h = number-back n (omega (arith, h.1, low))

abbrev tag : LineForm → ℕ
tag TitleForm = 0
tag (CheckersForm checkers) = 1
tag (StakesForm stakes) = 2
tag (MatchForm length) = 2
tag (GameForm number) = 3
tag (AwayForm number a b) = 3
tag (RollForm player roll play) = 4
tag (DoubleForm player) = 4
tag (TakeForm player) = 4
tag (PassForm player) = 4
tag (BeaverForm player) = 4
tag (EndForm winner points) = 5
tag StopForm = 6
tag CloseForm = 7

abbrev number_in : LineForm → ℕ
number_in (CheckersForm checkers) = digits_value 10 checkers
number_in (GameForm number) = digits_value 10 number
number_in (AwayForm number a b) = digits_value 10 number
number_in (EndForm winner points) = digits_value 10 points
number_in form = 0

abbrev away_in : LineForm → Option (ℕ × ℕ)
away_in (AwayForm number a b) = Some (digits_value 10 a, digits_value 10 b)
away_in form = None

abbrev player_in : LineForm → Player
player_in (RollForm player roll play) = player
player_in (DoubleForm player) = player
player_in (TakeForm player) = player
player_in (PassForm player) = player
player_in (BeaverForm player) = player
player_in (EndForm winner points) = winner
player_in form = A

abbrev roll_in : LineForm → List ℕ
roll_in (RollForm player roll play) = roll
roll_in form = []

abbrev play_in : LineForm → List ℕ
play_in (RollForm player roll play) = play
play_in form = []

abbrev stakes_in : LineForm → RecordStakes
stakes_in (MatchForm length) = Match (digits_value 10 length)
stakes_in (StakesForm stakes) =
    Unlimited (if same_text stakes (codes "cubeless") then Cubeless
    else if same_text stakes (codes "money") then Money
    else if same_text stakes (codes "jacoby") then Jacoby
    else if same_text stakes (codes "money-beavers") then MoneyBeavers
    else JacobyBeavers)
stakes_in form = Unlimited Cubeless

abbrev line_tag : Line → ℕ
line_tag Title = 0
line_tag (Checkers checkers) = 1
line_tag (Stakes stakes) = 2
line_tag (GameLine number away) = 3
line_tag (Acted action) = 4
line_tag (Ended winner points) = 5
line_tag Stopped = 6
line_tag Closed = 7

abbrev deed_tag : What → ℕ
deed_tag (Rolled roll written) = 0
deed_tag Doubled = 1
deed_tag Took = 2
deed_tag Passed = 3
deed_tag Beavered = 4

abbrev deed_in : LineForm → ℕ
deed_in (DoubleForm player) = 1
deed_in (TakeForm player) = 2
deed_in (PassForm player) = 3
deed_in (BeaverForm player) = 4
deed_in form = 0

tag-is : (line : Line) → tag (form_of_line line) ≡ line_tag line
tag-is Title = refl
tag-is (Checkers checkers) = refl
tag-is (Stakes stakes) = stakes-tag stakes where
  stakes-tag : (stakes : RecordStakes) → tag (form_of_stakes stakes) ≡ 2
  stakes-tag (Unlimited rule) = refl
  stakes-tag (Match length) = refl
tag-is (GameLine number None) = refl
tag-is (GameLine number (Some needs)) = refl
tag-is (Acted action) = deed-tag action.what where
  deed-tag : (what : What) → tag (form_of_deed action.player what) ≡ 4
  deed-tag (Rolled roll written) = refl
  deed-tag Doubled = refl
  deed-tag Took = refl
  deed-tag Passed = refl
  deed-tag Beavered = refl
tag-is (Ended winner points) = refl
tag-is Stopped = refl
tag-is Closed = refl

stakes-back : (stakes : RecordStakes) → AreRecordStakes stakes → stakes_in (form_of_stakes stakes) ≡ stakes
stakes-back (Unlimited Cubeless) h = refl
stakes-back (Unlimited _) h = refl
stakes-back (Match length) h = ap Match (up-back 5 length (omega arith) h)

player-back : (player : Player) (what : What) → player_in (form_of_deed player what) ≡ player
player-back player (Rolled roll written) = refl
player-back player Doubled = refl
player-back player Took = refl
player-back player Passed = refl
player-back player Beavered = refl

deed-back : (player : Player) (what : What) → deed_in (form_of_deed player what) ≡ deed_tag what
deed-back player (Rolled roll written) = refl
deed-back player Doubled = refl
deed-back player Took = refl
deed-back player Passed = refl
deed-back player Beavered = refl

game-back : (number : ℕ) (away : Option (ℕ × ℕ)) → number < 2 ^ 64 → number_in (form_of_game number away) ≡ number
game-back number None h = number-back number h
game-back number (Some needs) h = number-back number h

away-back : (number : ℕ) (away : Option (ℕ × ℕ)) → MatchOption away (Unit {0}) (λ needs. UpTo 5 needs.0 × UpTo 5 needs.1) → away_in (form_of_game number away) ≡ away
away-back number None h = refl
away-back number (Some needs) h = λ i. Some (up-back 5 needs.0 (omega arith) h.0 i, up-back 5 needs.1 (omega arith) h.1 i)

same-roll : (a b : Dice) → roll_text a ≡ roll_text b → a ≡ b
same-roll a b e =
    let first : 48 + a.high ≡ 48 + b.high = ap (λ t. get_or t 0 0) e in
    let second : 48 + a.low ≡ 48 + b.low = ap (λ t. get_or t 1 0) e in
    let high : a.high ≡ b.high = omega (arith, first) in
    let low : a.low ≡ b.low = omega (arith, second) in
    λ i. record { high = high i; low = low i }

-- no text is that of two plays
abbrev pub TellsPlays : Type 0
TellsPlays = (text : List ℕ) (steps others : List Step) → IsPlayText text steps → IsPlayText text others → steps ≡ others

same-deed : TellsPlays → (player other : Player) (a b : What) → IsWrittenPlay a → IsWrittenPlay b → form_of_deed player a ≡ form_of_deed other b → a ≡ b
same-deed tells player other (Rolled roll written) (Rolled dice play) h k e =
    let steps = tells (steps_text written.items) written.items play.items (record { words = refl; hits = h.0; few = h.1 }) (record { words = ap play_in e; hits = k.0; few = k.1 }) in
    let rolls = same-roll roll dice (ap roll_in e) in
    λ i. Rolled (rolls i) (record { items = steps i })
same-deed tells player other Doubled Doubled h k e = refl
same-deed tells player other Took Took h k e = refl
same-deed tells player other Passed Passed h k e = refl
same-deed tells player other Beavered Beavered h k e = refl
same-deed tells player other a b h k e = let tags : deed_tag a ≡ deed_tag b = sym (deed-back player a) ∙ ap deed_in e ∙ deed-back other b in absurd (cc)

same-form : TellsPlays → (stage : Stage) (a b : Line) → stage.games < 2 ^ 32 → FitsStage stage a → FitsStage stage b → form_of_line a ≡ form_of_line b → a ≡ b
same-form tells stage Title Title low h k e = refl
same-form tells stage (Checkers n) (Checkers m) low h k e = ap Checkers (sym (up-back 3 n (omega arith) h) ∙ ap number_in e ∙ up-back 3 m (omega arith) k)
same-form tells stage (Stakes a) (Stakes b) low h k e = ap Stakes (sym (stakes-back a h) ∙ ap stakes_in e ∙ stakes-back b k)
same-form tells stage (GameLine n a) (GameLine m b) low h k e =
    let numbers = sym (game-back n a (omega (arith, low, h.0))) ∙ ap number_in e ∙ game-back m b (omega (arith, low, k.0)) in
    let aways = sym (away-back n a h.1) ∙ ap away_in e ∙ away-back m b k.1 in
    λ i. GameLine (numbers i) (aways i)
same-form tells stage (Acted a) (Acted b) low h k e =
    let players = sym (player-back a.player a.what) ∙ ap player_in e ∙ player-back b.player b.what in
    let deeds = same-deed tells a.player b.player a.what b.what h.1 k.1 e in
    λ i. Acted (record { player = players i; what = deeds i })
same-form tells stage (Ended a n) (Ended b m) low h k e =
    let points = sym (up-back 3 n (omega arith) h) ∙ ap number_in e ∙ up-back 3 m (omega arith) k in
    let winners = ap player_in e in
    λ i. Ended (winners i) (points i)
same-form tells stage Stopped Stopped low h k e = refl
same-form tells stage Closed Closed low h k e = refl
same-form tells stage a b low h k e = let tags : line_tag a ≡ line_tag b = sym (tag-is a) ∙ ap tag e ∙ tag-is b in absurd (cc)

-- no text is that of two lines
pub same-line : TellsPlays → (stage : Stage) (a b : Line) → stage.games < 2 ^ 32 → FitsStage stage a → FitsStage stage b → line_text a ≡ line_text b → a ≡ b
same-line tells stage a b low h k e = same-form tells stage a b low h k (same_Some _ _ (sym (line-read stage a low h) ∙ ap form_of e ∙ line-read stage b low k))
