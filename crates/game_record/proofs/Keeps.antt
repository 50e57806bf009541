-- The lines of a record that was read are ready.
use Rattle.std.proofs.Common.{◌≡◌, ◌≤◌, ◌+◌, ◌*◌, ℕ, zero, suc, Bool, true, false, not, ◌&&◌, nat_lt, is_some, cond, List, [], ◌∷◌, ◌++◌, length, sum, get_or, Option, Some, None, Contains, refl, sym, subst, ◌∙◌, arith, add-one}
use Rattle.std.proofs.lemmas.Bool.Decides.{nat_tests}
use Rattle.std.proofs.lemmas.Nat.{pow_pos}
use Rattle.std.specs.Option.{option_map, MatchOption}
use Rattle.cube_actions.specs.declared.name.MoneyRule.TheVariants.{Cubeless}
use Rattle.cube_actions.specs.Ladder.{IsOfMatch}
use Rattle.cube_actions.specs.Names.{money_names, names_of}
use Rattle.cube_actions.specs.declared.name.KindName.TheVariants.{Mine, Theirs}
use Rattle.move_rules.specs.Payoff.{points}
use Rattle.move_rules.specs.declared.payoff.Won.TheVariants.{Single, Gammon, Backgammon}
use Rattle.position_rank.specs.Placement.{Placement, IsLive, IsPosition, above}
use Rattle.position_rank.proofs.StartLive.{start-live, start-position, start-sum}
use Rattle.roll_table.specs.Rolls.{Dice, IsRoll}
use Rattle.move_rules.specs.Sequences.{IsLegalEnd}
use Rattle.move_rules.proofs.StayLive.{legal_end-stays}
use Rattle.game_record.specs.declared.cube.Cube.{Cube}
use Rattle.cube_actions.specs.declared.action.Answer.TheVariants.{Take, Pass, Beaver}
use Rattle.game_record.specs.declared.decision.Decision.{Decision}
use Rattle.game_record.specs.declared.line.Line.{Line}
use Rattle.game_record.specs.declared.line.Line.TheVariants.{Title as TitleLine, Checkers as CheckersLine, Stakes as StakesLine, Game as GameLine, Acted, Ended, Stopped, Closed}
use Rattle.game_record.specs.declared.line.LineKind.{LineKind}
use Rattle.game_record.specs.declared.line.LineKind.TheVariants.{OfTitle, OfCheckers, OfStakes, OfGame, OfRoll, OfDouble, OfTake, OfPass, OfEnd, OfStop, OfClose}
use Rattle.game_record.specs.declared.moment.Moment.{Moment}
use Rattle.game_record.specs.declared.player.Player.{Player}
use Rattle.game_record.specs.declared.progress.Progress.{Progress}
use Rattle.game_record.specs.declared.record.Record.{Record}
use Rattle.game_record.specs.declared.record.RecordStakes.{RecordStakes}
use Rattle.game_record.specs.declared.record.RecordStakes.TheVariants.{Unlimited, Match}
use Rattle.game_record.specs.declared.record.What.{What}
use Rattle.game_record.specs.declared.record.What.TheVariants.{Rolled, Doubled, Took, Passed, Beavered}
use Rattle.game_record.specs.declared.stage.Next.{Next}
use Rattle.game_record.specs.declared.stage.Next.TheVariants.{FirstGame, Answer}
use Rattle.game_record.specs.declared.stage.Stage.{Stage}
use Rattle.game_record.specs.declared.standing.Standing.{Standing}
use Rattle.game_record.specs.Cube.{shows}
use Rattle.game_record.specs.Games.{after_answer, game_after_double, game_after_play, records_beavers, has_right, is_over, opening}
use Rattle.game_record.specs.Kinds.{game_needs, game_stakes, kind_of_turn, money_kind}
use Rattle.game_record.specs.Lines.{games_lines, record_lines, AreRecordStakes, FitsStage, Follow, IsRecord, IsWrittenPlay, UpTo}
use Rattle.game_record.specs.Ready.{AreLinesReady, FitsMoment, HasStanding, IfMatch, IsSetFor}
use Rattle.game_record.specs.Replay.{Acts, Reports, after_game, first_moment, goes_on, standing_after}
use Rattle.game_record.specs.Standings.{first_standing, at_score, IsInRange}
use Rattle.game_record.specs.Turns.{allowed, first_stage, has_match, kind_of, kind_of_deed, other_player, same_player, stage_after, IsInGame}
use Rattle.game_record.proofs.Coming.{acts-within, coming, end-within, take-asked, what-comes}
use Rattle.game_record.proofs.GoOn.{ready-front}
use Rattle.game_record.proofs.MatchPlaces.{both, few-turns, first-stands, kinds-known, other-other, taken-place, won-in-range, won-stands, IsPlace, Stands}

-- ---- what holds at each line

-- the position has the record's checkers, and is live while the game goes on
pub record IsBoard (checkers : ℕ) (game : Progress) : Type 0 where
  pub position : IsPosition game.position
  pub count : sum game.position.mover ≡ checkers
  pub live : is_over game ≡ false → IsLive game.position

-- both still need points
abbrev pub NeedPoints : Standing → Type 0
NeedPoints standing = (1 ≤ standing.a) × (1 ≤ standing.b)

-- who has to answer was doubled by right
abbrev pub Asked : Next → Moment → Type 0
Asked (Answer player) now = (is_over now.progress ≡ false) × (has_right now.stakes now.standing (other_player player) now.progress.cube ≡ true)
Asked _ now = Unit {0}

-- where this may come next, so many games have begun, and so many lines are left
pub record Keeps (next : Next) (games left : ℕ) (now : Moment) : Type 0 where
  pub checkers_from : 1 ≤ now.checkers
  pub checkers_to : now.checkers ≤ 3
  pub games_are : games ≡ now.game
  pub in_range : IsInRange now.standing
  pub stands : IfMatch now.stakes (λ length. (1 ≤ length) × (length ≤ 5) × Stands length now.standing)
  pub place : IfMatch now.stakes (λ length. IsPlace now.standing now.progress.cube.turns now.progress.cube.owner)
  pub turns : now.progress.cube.turns ≤ 2 * now.line
  pub lines : now.line + left ≤ 65537
  pub games_low : now.game ≤ now.line
  pub asked : Asked next now
  pub needed : IsInGame next → IfMatch now.stakes (λ length. NeedPoints now.standing)
  pub board : IsBoard now.checkers now.progress

-- ---- where the stakes are a match

pub if-match : (stakes : RecordStakes) (P Q : ℕ → Type 0) → ((length : ℕ) → P length → Q length) → IfMatch stakes P → IfMatch stakes Q
if-match (Match length) P Q f p = f length p
if-match (Unlimited rule) P Q f p = tt

pub if-both : (stakes : RecordStakes) (P Q : ℕ → Type 0) → IfMatch stakes P → IfMatch stakes Q → IfMatch stakes (λ length. P length × Q length)
if-both (Match length) P Q p q = (p, q)
if-both (Unlimited rule) P Q p q = tt

no-beavers : (stakes : RecordStakes) (P : ℕ → Type 0) → records_beavers stakes ≡ true → IfMatch stakes P
no-beavers (Match length) P h = cc
no-beavers (Unlimited rule) P h = tt

taken : (stakes : RecordStakes) (standing : Standing) (player : Player) (cube : Cube) → IsInRange standing → IfMatch stakes (λ length. IsPlace standing cube.turns cube.owner) → has_right stakes standing (other_player player) cube ≡ true → IfMatch stakes (λ length. IsPlace standing (cube.turns + 1) (Some player))
taken (Match length) standing player cube range place right = taken-place length standing player cube range place right
taken (Unlimited rule) standing player cube range place right = tt

needs-told : (stakes : RecordStakes) (standing : Standing) (away : Option (ℕ × ℕ)) → away ≡ game_needs stakes standing → MatchOption away (Unit {0}) (λ n. UpTo 5 n.0 × UpTo 5 n.1) → IfMatch stakes (λ length. NeedPoints standing)
needs-told (Match length) standing away e fits =
    let told : UpTo 5 standing.a × UpTo 5 standing.b = subst (λ (o : Option (ℕ × ℕ)). MatchOption o (Unit {0}) (λ n. UpTo 5 n.0 × UpTo 5 n.1)) e fits in
    (told.0.0, told.1.0)
needs-told (Unlimited rule) standing away e fits = tt

-- in a game of a match the score is one of it
pub has-score : (stakes : RecordStakes) (standing : Standing) → IfMatch stakes (λ length. (1 ≤ length) × (length ≤ 5) × Stands length standing) → IfMatch stakes (λ length. NeedPoints standing) → HasStanding stakes standing
has-score stakes standing stands needed =
    if-match stakes (λ length. ((1 ≤ length) × (length ≤ 5) × Stands length standing) × NeedPoints standing) (λ length. (1 ≤ length) × (length ≤ 5) × IsOfMatch length (at_score standing))
    (λ length h. (h.0.0, h.0.1, h.0.2 h.1.0 h.1.1)) (if-both stakes (λ length. (1 ≤ length) × (length ≤ 5) × Stands length standing) (λ length. NeedPoints standing) stands needed)

-- ---- what is ready

money-known : (player : Player) (owner : Option Player) → Contains money_names (money_kind player owner)
money-known player None = (0, omega arith, refl)
money-known player (Some owner) = elim (same_player owner player) as (λ b. Contains money_names (cond b Mine Theirs)) [
  | true ↦ (1, omega arith, refl)
  | false ↦ (2, omega arith, refl)
]

pub kinds-ready : (stakes : RecordStakes) (standing : Standing) (player : Player) (cube : Cube) → IfMatch stakes (λ length. IsPlace standing cube.turns cube.owner) → Contains (names_of (game_stakes stakes standing)) (kind_of_turn stakes standing player cube)
kinds-ready (Match length) standing player cube place = kinds-known standing player cube.turns cube.owner place
kinds-ready (Unlimited Cubeless) standing player cube place = (0, omega arith, refl)
kinds-ready (Unlimited _) standing player cube place = money-known player cube.owner

fits-moment : (stage : Stage) (line : Line) (x : Next) (left : ℕ) (now : Moment) → Keeps stage.next stage.games left now → allowed stage.in_match stage.next (kind_of line) ≡ Some x → FitsStage stage line → FitsMoment now line
fits-moment stage TitleLine x left now keep comes fits = tt
fits-moment stage (CheckersLine checkers) x left now keep comes fits = tt
fits-moment stage (StakesLine stakes) x left now keep comes fits = tt
fits-moment stage (GameLine number away) x left now keep comes fits =
    (omega (arith, fits.0, keep.games_are), λ e. has-score now.stakes now.standing keep.stands (needs-told now.stakes now.standing away e fits.1))
fits-moment stage (Acted action) x left now keep comes fits =
    has-score now.stakes now.standing keep.stands (keep.needed (acts-within stage.in_match stage.next action.player action.what x comes))
fits-moment stage (Ended winner points) x left now keep comes fits = fits.1
fits-moment stage Stopped x left now keep comes fits = tt
fits-moment stage Closed x left now keep comes fits = tt

ready-here : (stage : Stage) (line : Line) (x : Next) (left : ℕ) (now : Moment) → Keeps stage.next stage.games (left + 1) now → allowed stage.in_match stage.next (kind_of line) ≡ Some x → FitsStage stage line → IsSetFor now line
ready-here stage line x left now keep comes fits = record {
  checkers_from = keep.checkers_from;
  checkers_to = keep.checkers_to;
  standing = keep.in_range;
  kinds = λ player. kinds-ready now.stakes now.standing player now.progress.cube keep.place;
  few_turns = if-match now.stakes (λ length. IsPlace now.standing now.progress.cube.turns now.progress.cube.owner) (λ length. now.progress.cube.turns ≤ 3)
      (λ length place. few-turns now.standing now.progress.cube.turns now.progress.cube.owner place) keep.place;
  turns = keep.turns;
  lines = omega (arith, keep.lines);
  games = keep.games_low;
  fits = fits-moment stage line x (left + 1) now keep comes fits;
}

-- ---- the board

going-on : {X Y : Type 0} (f : X → Y) (inside off deep : Bool) (a b c : X) → is_some (option_map f (cond inside None (cond off (Some a) (cond deep (Some b) (Some c))))) ≡ false → inside ≡ true
going-on f true off deep a b c h = refl
going-on f false true deep a b c h = cc
going-on f false false true a b c h = cc
going-on f false false false a b c h = cc

board-played : (checkers : ℕ) (stakes : RecordStakes) (player : Player) (roll : Dice) (end : Placement) (game : Progress) → IsBoard checkers game → is_over game ≡ false → IsRoll roll → IsLegalEnd game.position roll end → IsBoard checkers (game_after_play stakes player end game)
board-played checkers stakes player roll end game board going rolled legal =
    let stays = legal_end-stays game.position roll end rolled board.position (board.live going) legal in
    let whole = stays.0 in
    record {
      position = record { mover = whole.other; other = whole.mover; same = sym whole.same };
      count = sym whole.same ∙ stays.1 ∙ board.count;
      live = λ on.
          let inside : nat_lt (get_or end.mover 0 0) (sum end.mover) ≡ true = going-on _ (nat_lt (get_or end.mover 0 0) (sum end.mover)) (nat_lt 0 (get_or end.other 0 0)) (nat_lt 0 (above end.other 18)) Single Backgammon Gammon on in
          stays.2 (λ same. grind (arith, nat_tests, inside, same));
    }

board-opens : (checkers : ℕ) → 1 ≤ checkers → checkers ≤ 3 → IsBoard checkers (opening checkers)
board-opens checkers from to = record {
  position = start-position checkers from to;
  count = start-sum checkers to;
  live = λ _. start-live checkers from to;
}

-- ---- from line to line

-- a line that changes the game alone
moved : (next x : Next) (games left : ℕ) (now : Moment) (game : Progress) → Keeps next games (left + 1) now → (IsInGame x → IfMatch now.stakes (λ length. NeedPoints now.standing))
    → IfMatch now.stakes (λ length. IsPlace now.standing game.cube.turns game.cube.owner) → game.cube.turns ≤ now.progress.cube.turns + 2 → Asked x (goes_on now game) → IsBoard now.checkers game → Keeps x games left (goes_on now game)
moved next x games left now game keep needed place turns asked board = record {
  checkers_from = keep.checkers_from;
  checkers_to = keep.checkers_to;
  games_are = keep.games_are;
  in_range = keep.in_range;
  stands = keep.stands;
  place = place;
  turns = omega (arith, turns, keep.turns);
  lines = omega (arith, keep.lines);
  games_low = omega (arith, keep.games_low);
  asked = asked;
  needed = needed;
  board = board;
}

asked-there : (x : Next) (kind : LineKind) (now : Moment) → x ≡ coming kind → Asked (coming kind) now → Asked x now
asked-there x kind now e h = subst (λ (n : Next). Asked n now) (sym e) h

keep-act : (in_match : Bool) (next x : Next) (games left : ℕ) (now : Moment) (player : Player) (what : What) (told : List Decision) (new : Moment)
    → Keeps next games (left + 1) now → allowed in_match next (kind_of_deed player what) ≡ Some x → IsWrittenPlay what → Acts now player what told new → Keeps x games left new
keep-act im next x games left now player (Rolled roll written) told new keep comes play h =
    let needed = keep.needed (acts-within im next player (Rolled roll written) x comes) in
    let game = game_after_play now.stakes player h.1 now.progress in
    subst (λ (m : Moment). Keeps x games left m) (sym h.4)
    (moved next x games left now game keep (λ _. needed) keep.place (omega arith)
    (asked-there x (OfRoll player) (goes_on now game) (what-comes im next (OfRoll player) x comes) tt)
    (board-played now.checkers now.stakes player roll h.1 now.progress keep.board h.0 play.2 (h.2.moves, h.2.legal)))
keep-act im next x games left now player Doubled told new keep comes play h =
    let needed = keep.needed (acts-within im next player Doubled x comes) in
    let game = game_after_double now.progress in
    let right = both (now.progress.opened && not now.progress.doubled) (has_right now.stakes now.standing player now.progress.cube) h.1 in
    let by_other : has_right now.stakes now.standing (other_player (other_player player)) now.progress.cube ≡ true = rw (other-other player) right.1 in
    subst (λ (m : Moment). Keeps x games left m) (sym h.3)
    (moved next x games left now game keep (λ _. needed) keep.place (omega arith)
    (asked-there x (OfDouble player) (goes_on now game) (what-comes im next (OfDouble player) x comes) (h.0, by_other))
    (record { position = keep.board.position; count = keep.board.count; live = keep.board.live }))
keep-act im next x games left now player Took told new keep comes play h =
    let needed = keep.needed (acts-within im next player Took x comes) in
    let game = after_answer player Take now.progress in
    let asked : Asked (Answer player) now = subst (λ (n : Next). Asked n now) (take-asked im next player x comes) keep.asked in
    subst (λ (m : Moment). Keeps x games left m) (sym h.1)
    (moved next x games left now game keep (λ _. needed) (taken now.stakes now.standing player now.progress.cube keep.in_range keep.place asked.1) (omega arith)
    (asked-there x (OfTake player) (goes_on now game) (what-comes im next (OfTake player) x comes) tt)
    (record { position = keep.board.position; count = keep.board.count; live = keep.board.live }))
keep-act im next x games left now player Passed told new keep comes play h =
    let needed = keep.needed (acts-within im next player Passed x comes) in
    let game = after_answer player Pass now.progress in
    subst (λ (m : Moment). Keeps x games left m) (sym h.1)
    (moved next x games left now game keep (λ _. needed) keep.place (omega arith)
    (asked-there x (OfPass player) (goes_on now game) (what-comes im next (OfPass player) x comes) tt)
    (record { position = keep.board.position; count = keep.board.count; live = λ over. absurd (cc) }))
keep-act im next x games left now player Beavered told new keep comes play h =
    let needed = keep.needed (acts-within im next player Beavered x comes) in
    let game = after_answer player Beaver now.progress in
    subst (λ (m : Moment). Keeps x games left m) (sym h.1.1)
    (moved next x games left now game keep (λ _. needed) (no-beavers now.stakes (λ length. IsPlace now.standing game.cube.turns game.cube.owner) h.0) (omega arith)
    (asked-there x (OfTake player) (goes_on now game) (what-comes im next (OfTake player) x comes) tt)
    (record { position = keep.board.position; count = keep.board.count; live = keep.board.live }))

positive : (points shown : ℕ) → 1 ≤ points → 1 ≤ shown → 1 ≤ points * shown
positive zero shown some high = absurd (omega arith)
positive (suc n) shown some high = omega arith

ended-stands : (now : Moment) (winner : Player) (points : ℕ) (stakes : RecordStakes) → 1 ≤ points → IfMatch stakes (λ length. (1 ≤ length) × (length ≤ 5) × Stands length now.standing) → IfMatch stakes (λ length. NeedPoints now.standing)
    → IfMatch stakes (λ length. (1 ≤ length) × (length ≤ 5) × Stands length (standing_after now winner points stakes))
ended-stands now winner points (Match length) some stands needed =
    (stands.0, stands.1, won-stands length now.standing winner (points * shows now.progress.cube) stands.2 needed.0 needed.1 (positive points (shows now.progress.cube) some (pow_pos now.progress.cube.turns)))
ended-stands now winner points (Unlimited rule) some stands needed = tt

ended-in-range : (now : Moment) (winner : Player) (points : ℕ) (stakes : RecordStakes) → IsInRange now.standing → IsInRange (standing_after now winner points stakes)
ended-in-range now winner points (Match length) h = won-in-range now.standing winner (points * shows now.progress.cube) h
ended-in-range now winner points (Unlimited rule) h = h

not-within : (x : Next) (kind : LineKind) (P : Type 0) → x ≡ coming kind → (IsInGame (coming kind) → ⊥) → IsInGame x → P
not-within x kind P e none within = absurd (none (subst (λ (n : Next). IsInGame n) e within))

-- a line that changes nothing, and behind which no game goes on
passed-by : (next x : Next) (kind : LineKind) (games left : ℕ) (now new : Moment) → Keeps next games (left + 1) now → x ≡ coming kind → (IsInGame (coming kind) → ⊥) → Asked (coming kind) (goes_on now now.progress) → new ≡ goes_on now now.progress → Keeps x games left new
passed-by next x kind games left now new keep to none asked e =
    subst (λ (m : Moment). Keeps x games left m) (sym e)
    (moved next x games left now now.progress keep (not-within x kind _ to none) keep.place (omega arith) (asked-there x kind (goes_on now now.progress) to asked) keep.board)

pub keep-line : (stage : Stage) (line : Line) (x : Next) (left : ℕ) (now : Moment) (told : List Decision) (new : Moment)
    → Keeps stage.next stage.games (left + 1) now → allowed stage.in_match stage.next (kind_of line) ≡ Some x → FitsStage stage line → Reports now line told new → Keeps (stage_after stage line x).next (stage_after stage line x).games left new
keep-line stage TitleLine x left now told new keep comes fits tells = passed-by stage.next x OfTitle stage.games left now new keep (what-comes stage.in_match stage.next OfTitle x comes) (λ w. w) tt tells.1
keep-line stage (CheckersLine checkers) x left now told new keep comes fits tells = passed-by stage.next x OfCheckers stage.games left now new keep (what-comes stage.in_match stage.next OfCheckers x comes) (λ w. w) tt tells.1
keep-line stage (StakesLine stakes) x left now told new keep comes fits tells = passed-by stage.next x OfStakes stage.games left now new keep (what-comes stage.in_match stage.next OfStakes x comes) (λ w. w) tt tells.1
keep-line stage (GameLine number away) x left now told new keep comes fits tells =
    let kind = OfGame (is_some away) in
    let began = record now { game = number; line = now.line + 1 } in
    subst (λ (m : Moment). Keeps x (stage.games + 1) left m) (sym tells.2) (record {
      checkers_from = keep.checkers_from;
      checkers_to = keep.checkers_to;
      games_are = sym fits.0;
      in_range = keep.in_range;
      stands = keep.stands;
      place = keep.place;
      turns = omega (arith, keep.turns);
      lines = omega (arith, keep.lines);
      games_low = omega (arith, fits.0, keep.games_are, keep.games_low);
      asked = asked-there x kind began (what-comes stage.in_match stage.next kind x comes) tt;
      needed = λ _. needs-told now.stakes now.standing away tells.0 fits.1;
      board = keep.board;
    })
keep-line stage (Acted action) x left now told new keep comes fits tells =
    keep-act stage.in_match stage.next x stage.games left now action.player action.what told new keep comes fits.1 tells
keep-line stage (Ended winner points) x left now told new keep comes fits tells =
    let to = what-comes stage.in_match stage.next OfEnd x comes in
    let needed = keep.needed (end-within stage.in_match stage.next x comes) in
    subst (λ (m : Moment). Keeps x stage.games left m) (sym tells.2) (record {
      checkers_from = keep.checkers_from;
      checkers_to = keep.checkers_to;
      games_are = keep.games_are;
      in_range = ended-in-range now winner points now.stakes keep.in_range;
      stands = ended-stands now winner points now.stakes fits.0 keep.stands needed;
      place = if-match now.stakes (λ length. NeedPoints now.standing) (λ length. 0 ≡ 0) (λ length h. refl) needed;
      turns = omega arith;
      lines = omega (arith, keep.lines);
      games_low = omega (arith, keep.games_low);
      asked = asked-there x OfEnd (after_game now winner points) to tt;
      needed = not-within x OfEnd _ to (λ w. w);
      board = board-opens now.checkers keep.checkers_from keep.checkers_to;
    })
keep-line stage Stopped x left now told new keep comes fits tells = passed-by stage.next x OfStop stage.games left now new keep (what-comes stage.in_match stage.next OfStop x comes) (λ w. w) tt tells.2
keep-line stage Closed x left now told new keep comes fits tells = passed-by stage.next x OfClose stage.games left now new keep (what-comes stage.in_match stage.next OfClose x comes) (λ w. w) tt tells.1

-- ---- from the first game on

all-ready : (lines : List Line) (stage end : Stage) (now : Moment) → Follow stage lines end → Keeps stage.next stage.games (length lines) now → AreLinesReady now lines
all-ready [] stage end now follow keep = tt
all-ready (line ∷ lines) stage end now (next, comes, fits, more) keep =
    let here = subst (λ (n : ℕ). Keeps stage.next stage.games n now) (sym (add-one (length lines))) keep in (
      ready-here stage line next (length lines) now here comes fits,
      λ told new tells. all-ready lines (stage_after stage line next) end new more (keep-line stage line next (length lines) now told new here comes fits tells),
    )

first-in-range : (stakes : RecordStakes) → AreRecordStakes stakes → IsInRange (first_standing stakes)
first-in-range (Match length) h = (h.1, h.1)
first-in-range (Unlimited rule) h = (omega arith, omega arith)

first-score : (stakes : RecordStakes) → AreRecordStakes stakes → IfMatch stakes (λ length. (1 ≤ length) × (length ≤ 5) × Stands length (first_standing stakes))
first-score (Match length) h = (h.0, h.1, first-stands length h.0 h.1)
first-score (Unlimited rule) h = tt

centred-place : (stakes : RecordStakes) (standing : Standing) → IfMatch stakes (λ length. IsPlace standing 0 None)
centred-place (Match length) standing = refl
centred-place (Unlimited rule) standing = tt

-- before the first game's line
pub first-keeps : (rec : Record) (next : Next) (left : ℕ) → UpTo 3 rec.checkers → AreRecordStakes rec.stakes → next ≡ FirstGame → 4 + left ≤ 65537 → Keeps next 0 left (first_moment rec)
first-keeps rec next left checkers stakes first few = record {
  checkers_from = checkers.0;
  checkers_to = checkers.1;
  games_are = refl;
  in_range = first-in-range rec.stakes stakes;
  stands = first-score rec.stakes stakes;
  place = centred-place rec.stakes (first_standing rec.stakes);
  turns = omega arith;
  lines = few;
  games_low = omega arith;
  asked = subst (λ (n : Next). Asked n (first_moment rec)) (sym first) tt;
  needed = λ within. absurd (subst (λ (n : Next). IsInGame n) first within);
  board = board-opens rec.checkers checkers.0 checkers.1;
}

-- what a record's lines say from the first game's line on
pub record Begins (rec : Record) : Type 0 where
  pub stage : Stage
  pub end : Stage
  pub follow : Follow stage (games_lines 1 rec.games ++ Closed ∷ []) end
  pub keep : Keeps stage.next stage.games (length (games_lines 1 rec.games ++ Closed ∷ [])) (first_moment rec)

pub record-begins : (rec : Record) → IsRecord rec → Begins rec
record-begins rec valid = go valid.end valid.follow valid.few where
  go : (end : Stage) → Follow first_stage (record_lines rec) end → length (record_lines rec) ≤ 65536 → Begins rec
  go end (a, comes_a, fits_a, (b, comes_b, checkers, (c, comes_c, stakes, more))) few = record {
    stage = record { next = c; in_match = has_match rec.stakes; games = 0 };
    end = end;
    follow = more;
    keep = first-keeps rec c (length (games_lines 1 rec.games ++ Closed ∷ [])) checkers stakes (what-comes false b OfStakes c comes_c) (omega arith);
  }

pub ready-record : (rec : Record) → IsRecord rec → AreLinesReady (first_moment rec) (games_lines 1 rec.games)
ready-record rec valid =
    let begins = record-begins rec valid in
    ready-front (games_lines 1 rec.games) (Closed ∷ []) (first_moment rec) (all-ready (games_lines 1 rec.games ++ Closed ∷ []) begins.stage begins.end (first_moment rec) begins.follow begins.keep)
