-- Each decision of a replay is right.
use Rattle.std.proofs.Common.{◌≡◌, ◌<◌, ◌+◌, ℕ, Bool, true, false, not, ◌&&◌, cond, List, [], ◌∷◌, ◌++◌, length, Some, All, IsSome, refl, ap, sym, subst, ◌∙◌, add-one}
use Rattle.std.proofs.lemmas.List.Elements.{All-append, All-cons, All-nil}
use Rattle.cube_actions.specs.declared.action.Answer.{Answer}
use Rattle.cube_actions.specs.declared.action.Answer.TheVariants.{Take, Pass, Beaver}
use Rattle.turn_rule.specs.declared.choice.Choice.{Choice}
use Rattle.turn_rule.specs.declared.choice.Choice.TheVariants.{Played, Offered, Answered}
use Rattle.game_record.specs.declared.decision.Decision.{Decision}
use Rattle.cube_actions.specs.declared.action.Offer.TheVariants.{NoDouble, Double}
use Rattle.game_record.specs.declared.line.Line.{Line}
use Rattle.game_record.specs.declared.line.Line.TheVariants.{Title as TitleLine, Checkers as CheckersLine, Stakes as StakesLine, Game as GameLine, Acted, Ended, Stopped, Closed}
use Rattle.game_record.specs.declared.moment.Moment.{Moment}
use Rattle.game_record.specs.declared.player.Player.{Player}
use Rattle.game_record.specs.declared.record.Record.{Record}
use Rattle.game_record.specs.declared.record.RecordStakes.{RecordStakes}
use Rattle.game_record.specs.declared.record.RecordStakes.TheVariants.{Unlimited, Match}
use Rattle.game_record.specs.declared.record.What.{What}
use Rattle.game_record.specs.declared.record.What.TheVariants.{Rolled, Doubled, Took, Passed, Beavered}
use Rattle.game_record.specs.declared.stage.Next.{Next}
use Rattle.game_record.specs.declared.stage.Next.TheVariants.{Answer as AnswerNext}
use Rattle.game_record.specs.declared.stage.Stage.{Stage}
use Rattle.game_record.specs.declared.standing.Standing.{Standing}
use Rattle.cube_actions.specs.Stakes.{kind_at}
use Rattle.cube_actions.specs.Starts.{StartPairs}
use Rattle.game_record.specs.Games.{has_right, is_over}
use Rattle.game_record.specs.Kinds.{game_score, game_stakes, kind_number, kind_of_turn, stakes_at}
use Rattle.game_record.specs.Lines.{games_lines, FitsStage, Follow, IsRecord, IsWrittenPlay}
use Rattle.game_record.specs.Ready.{HasStanding}
use Rattle.game_record.specs.Replay.{Acts, AllTell, IsReplay, Reports, decided, first_moment, may_double_now, undoubled}
use Rattle.cube_actions.specs.Matches.{stakes_named}
use Rattle.game_record.specs.RightDecisions.{IsAnswerTo, IsRightChoice, IsRightDecision, IsScoreIn}
use Rattle.game_record.specs.Turns.{allowed, kind_of, kind_of_deed, other_player, stage_after}
use Rattle.game_record.proofs.Coming.{acts-within, pass-asked, take-asked}
use Rattle.game_record.proofs.Keeps.{Asked, Keeps, has-score, keep-line, kinds-ready, record-begins}
use Rattle.game_record.proofs.MatchPlaces.{both}
use Rattle.game_record.proofs.RightKinds.{kind-beavers, kind-right, number-below}

-- the record of these checkers and stakes
abbrev IsOf : Record → Moment → Type 0
IsOf rec now = (now.checkers ≡ rec.checkers) × (now.stakes ≡ rec.stakes)

score-in : (stakes : RecordStakes) (standing : Standing) → HasStanding stakes standing → IsScoreIn stakes (game_score stakes standing)
score-in (Match length) standing h = h.2
score-in (Unlimited rule) standing h = refl

-- the kind in which a decision is told
abbrev kind_now : Moment → Player → ℕ
kind_now now player = kind_number (game_stakes now.stakes now.standing) (kind_of_turn now.stakes now.standing player now.progress.cube)

right-here : (rec : Record) (next : Next) (games left : ℕ) (now : Moment) (on_turn player : Player) (choice : Choice) → Keeps next games left now → IsOf rec now → HasStanding now.stakes now.standing → is_over now.progress ≡ false
    → ((starts : StartPairs) → IsRightChoice now.progress.position (kind_at (stakes_named (game_stakes now.stakes now.standing) starts) (kind_now now on_turn)) choice) → IsRightDecision rec (decided now on_turn player choice)
right-here rec next games left now on_turn player choice keep of score going right = record {
  position = keep.board.position;
  live = keep.board.live going;
  checkers = keep.board.count ∙ of.0;
  score = subst (λ (s : RecordStakes). IsScoreIn s (game_score now.stakes now.standing)) of.1 (score-in now.stakes now.standing score);
  kind = λ starts. subst (λ (s : RecordStakes). kind_now now on_turn < length (stakes_named (stakes_at s (game_score now.stakes now.standing)) starts).kinds) of.1
      (number-below (game_stakes now.stakes now.standing) (kind_of_turn now.stakes now.standing on_turn now.progress.cube) starts (kinds-ready now.stakes now.standing on_turn now.progress.cube keep.place));
  choice = λ starts. subst (λ (s : RecordStakes). IsRightChoice now.progress.position (kind_at (stakes_named (stakes_at s (game_score now.stakes now.standing)) starts) (kind_now now on_turn)) choice) of.1 (right starts);
}

double-here : (next : Next) (games left : ℕ) (now : Moment) (player : Player) (starts : StartPairs) → Keeps next games left now → has_right now.stakes now.standing player now.progress.cube ≡ true → IsSome (kind_at (stakes_named (game_stakes now.stakes now.standing) starts) (kind_now now player)).double
double-here next games left now player starts keep right = kind-right now.stakes now.standing player now.progress.cube starts (kinds-ready now.stakes now.standing player now.progress.cube keep.place) right

has-right : (now : Moment) (player : Player) → may_double_now now player ≡ true → has_right now.stakes now.standing player now.progress.cube ≡ true
has-right now player may = (both (now.progress.opened && not now.progress.doubled) (has_right now.stakes now.standing player now.progress.cube) may).1

one : (rec : Record) (d : Decision) (told : List Decision) → told ≡ d ∷ [] → IsRightDecision rec d → All (IsRightDecision rec) told
one rec d told e right = subst (λ (ds : List Decision). All (IsRightDecision rec) ds) (sym e) (All-cons (IsRightDecision rec) d [] right (All-nil (IsRightDecision rec)))

right-undoubled : (rec : Record) (next : Next) (games left : ℕ) (now : Moment) (player : Player) → Keeps next games left now → IsOf rec now → HasStanding now.stakes now.standing → is_over now.progress ≡ false → All (IsRightDecision rec) (undoubled now player)
right-undoubled rec next games left now player keep of score going = by (may_double_now now player) refl where
  by : (b : Bool) → may_double_now now player ≡ b → All (IsRightDecision rec) (cond b (decided now player player (Offered NoDouble) ∷ []) [])
  by true may = one rec _ _ refl (right-here rec next games left now player player (Offered NoDouble) keep of score going (λ starts. double-here next games left now player starts keep (has-right now player may)))
  by false may = All-nil (IsRightDecision rec)

right-answer : (rec : Record) (next : Next) (games left : ℕ) (now : Moment) (player : Player) (answer : Answer) (told : List Decision) → Keeps next games left now → IsOf rec now → HasStanding now.stakes now.standing → next ≡ AnswerNext player
    → (has_right now.stakes now.standing (other_player player) now.progress.cube ≡ true → (starts : StartPairs) → IsAnswerTo (kind_at (stakes_named (game_stakes now.stakes now.standing) starts) (kind_now now (other_player player))).double answer)
    → told ≡ decided now (other_player player) player (Answered answer) ∷ [] → All (IsRightDecision rec) told
right-answer rec next games left now player answer told keep of score at right e =
    let asked : Asked (AnswerNext player) now = subst (λ (n : Next). Asked n now) at keep.asked in
    one rec (decided now (other_player player) player (Answered answer)) told e
    (right-here rec next games left now (other_player player) player (Answered answer) keep of score asked.0 (right asked.1))

right-act : (rec : Record) (in_match : Bool) (next x : Next) (games left : ℕ) (now : Moment) (player : Player) (what : What) (told : List Decision) (new : Moment)
    → Keeps next games left now → IsOf rec now → allowed in_match next (kind_of_deed player what) ≡ Some x → IsWrittenPlay what → Acts now player what told new → All (IsRightDecision rec) told
right-act rec im next x games left now player (Rolled roll written) told new keep of comes play h =
    let score = has-score now.stakes now.standing keep.stands (keep.needed (acts-within im next player (Rolled roll written) x comes)) in
    let played = decided now player player (Played roll h.1) in
    let last = one rec played (played ∷ []) refl (right-here rec next games left now player player (Played roll h.1) keep of score h.0 (λ starts. (play.2, (h.2.moves, h.2.legal)))) in
    subst (λ (ds : List Decision). All (IsRightDecision rec) ds) (sym h.3)
    (All-append (IsRightDecision rec) (undoubled now player) (played ∷ []) (right-undoubled rec next games left now player keep of score h.0) last)
right-act rec im next x games left now player Doubled told new keep of comes play h =
    let score = has-score now.stakes now.standing keep.stands (keep.needed (acts-within im next player Doubled x comes)) in
    one rec (decided now player player (Offered Double)) told h.2
    (right-here rec next games left now player player (Offered Double) keep of score h.0 (λ starts. double-here next games left now player starts keep (has-right now player h.1)))
right-act rec im next x games left now player Took told new keep of comes play h =
    let score = has-score now.stakes now.standing keep.stands (keep.needed (acts-within im next player Took x comes)) in
    right-answer rec next games left now player Take told keep of score (take-asked im next player x comes)
    (λ right starts. double-here next games left now (other_player player) starts keep right) h.0
right-act rec im next x games left now player Passed told new keep of comes play h =
    let score = has-score now.stakes now.standing keep.stands (keep.needed (acts-within im next player Passed x comes)) in
    right-answer rec next games left now player Pass told keep of score (pass-asked im next player x comes)
    (λ right starts. double-here next games left now (other_player player) starts keep right) h.0
right-act rec im next x games left now player Beavered told new keep of comes play h =
    let score = has-score now.stakes now.standing keep.stands (keep.needed (acts-within im next player Beavered x comes)) in
    right-answer rec next games left now player Beaver told keep of score (take-asked im next player x comes)
    (λ right starts. (double-here next games left now (other_player player) starts keep right, kind-beavers now.stakes now.standing (other_player player) now.progress.cube starts h.0 right)) h.1.0

none : (rec : Record) (told : List Decision) → told ≡ [] → All (IsRightDecision rec) told
none rec told e = subst (λ (ds : List Decision). All (IsRightDecision rec) ds) (sym e) (All-nil (IsRightDecision rec))

right-line : (rec : Record) (stage : Stage) (line : Line) (x : Next) (left : ℕ) (now : Moment) (told : List Decision) (new : Moment)
    → Keeps stage.next stage.games left now → IsOf rec now → allowed stage.in_match stage.next (kind_of line) ≡ Some x → FitsStage stage line → Reports now line told new → All (IsRightDecision rec) told
right-line rec stage TitleLine x left now told new keep of comes fits h = none rec told h.0
right-line rec stage (CheckersLine checkers) x left now told new keep of comes fits h = none rec told h.0
right-line rec stage (StakesLine stakes) x left now told new keep of comes fits h = none rec told h.0
right-line rec stage (GameLine number away) x left now told new keep of comes fits h = none rec told h.1
right-line rec stage (Acted action) x left now told new keep of comes fits h = right-act rec stage.in_match stage.next x stage.games left now action.player action.what told new keep of comes fits.1 h
right-line rec stage (Ended winner points) x left now told new keep of comes fits h = none rec told h.1
right-line rec stage Stopped x left now told new keep of comes fits h = none rec told h.1
right-line rec stage Closed x left now told new keep of comes fits h = none rec told h.0

-- a line leaves the checkers and the stakes
same-rest : (rec : Record) (now new then : Moment) → IsOf rec now → then.checkers ≡ now.checkers → then.stakes ≡ now.stakes → new ≡ then → IsOf rec new
same-rest rec now new then of checkers stakes e = (ap (λ (m : Moment). m.checkers) e ∙ checkers ∙ of.0, ap (λ (m : Moment). m.stakes) e ∙ stakes ∙ of.1)

act-of : (rec : Record) (now : Moment) (player : Player) (what : What) (told : List Decision) (new : Moment) → IsOf rec now → Acts now player what told new → IsOf rec new
act-of rec now player (Rolled roll written) told new of h = same-rest rec now new _ of refl refl h.4
act-of rec now player Doubled told new of h = same-rest rec now new _ of refl refl h.3
act-of rec now player Took told new of h = same-rest rec now new _ of refl refl h.1
act-of rec now player Passed told new of h = same-rest rec now new _ of refl refl h.1
act-of rec now player Beavered told new of h = same-rest rec now new _ of refl refl h.1.1

line-of : (rec : Record) (now : Moment) (line : Line) (told : List Decision) (new : Moment) → IsOf rec now → Reports now line told new → IsOf rec new
line-of rec now TitleLine told new of h = same-rest rec now new _ of refl refl h.1
line-of rec now (CheckersLine checkers) told new of h = same-rest rec now new _ of refl refl h.1
line-of rec now (StakesLine stakes) told new of h = same-rest rec now new _ of refl refl h.1
line-of rec now (GameLine number away) told new of h = same-rest rec now new _ of refl refl h.2
line-of rec now (Acted action) told new of h = act-of rec now action.player action.what told new of h
line-of rec now (Ended winner points) told new of h = same-rest rec now new _ of refl refl h.2
line-of rec now Stopped told new of h = same-rest rec now new _ of refl refl h.2
line-of rec now Closed told new of h = same-rest rec now new _ of refl refl h.1

right-lines : (rec : Record) (lines behind : List Line) (stage end : Stage) (now : Moment) (told : List Decision) (last : Moment)
    → Follow stage (lines ++ behind) end → Keeps stage.next stage.games (length (lines ++ behind)) now → IsOf rec now → AllTell now lines told last → All (IsRightDecision rec) told
right-lines rec [] behind stage end now told last follow keep of h = none rec told h.0
right-lines rec (line ∷ lines) behind stage end now told last (x, comes, fits, more) keep of (here, next, tells, later, rest, e) =
    let left = length (lines ++ behind) in
    let kept = subst (λ (n : ℕ). Keeps stage.next stage.games n now) (sym (add-one left)) keep in
    subst (λ (ds : List Decision). All (IsRightDecision rec) ds) (sym e)
    (All-append (IsRightDecision rec) here later (right-line rec stage line x (left + 1) now here next kept of comes fits tells)
    (right-lines rec lines behind (stage_after stage line x) end next later last more (keep-line stage line x left now here next kept comes fits tells) (line-of rec now line here next of tells) rest))

pub right-replay : (rec : Record) (told : List Decision) → IsRecord rec → IsReplay rec told → All (IsRightDecision rec) told
right-replay rec told valid h =
    let begins = record-begins rec valid in
    right-lines rec (games_lines 1 rec.games) (Closed ∷ []) begins.stage begins.end (first_moment rec) told h.0 begins.follow begins.keep (refl, refl) h.1
