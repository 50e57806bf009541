-- The decisions of a record that is printed have the lines of its text.
use Rattle.std.proofs.Common.{◌≡◌, ◌∙◌, ◌<◌, ◌≤◌, ◌+◌, ℕ, zero, suc, Bool, true, false, cond, List, [], ◌∷◌, ◌++◌, length, map, get_or, refl, sym, ap, subst, zero-add, arith}
use Rattle.std.specs.List.{range_with_len}
use Rattle.std.proofs.lemmas.List.{length-append, map-append}
use Rattle.game_record.specs.Lines.{games_lines, record_lines}
use Rattle.game_record.specs.Replay.{Acts, AllTell, IsReplay, Reports, decided, first_moment, may_double_now, undoubled}
use Rattle.turn_rule.specs.declared.choice.Choice.{Choice}
use Rattle.game_record.specs.declared.decision.Decision.{Decision}
use Rattle.game_record.specs.declared.line.Line.{Line}
use Rattle.game_record.specs.declared.line.Line.TheVariants.{Title, Checkers, Stakes, Game as GameLine, Acted, Ended, Stopped, Closed}
use Rattle.game_record.specs.declared.moment.Moment.{Moment}
use Rattle.game_record.specs.declared.player.Player.{Player}
use Rattle.game_record.specs.declared.record.Record.{Record as RecordRead}
use Rattle.game_record.specs.declared.record.What.{What}
use Rattle.game_record.specs.declared.record.What.TheVariants.{Rolled, Doubled, Took, Passed, Beavered}
use Rattle.record_commands.specs.Records.{at_line}

module _ (numbers : List ℕ) where
  abbrev moved : List Decision → List Decision
  moved told = map (at_line numbers) told

  -- these have lines of their own number
  abbrev Stay : List Decision → Type 0
  Stay told = moved told ≡ told

  stay-as : (told others : List Decision) → told ≡ others → Stay others → Stay told
  stay-as told others e h = subst Stay (sym e) h

  same-line : (decision : Decision) → get_or numbers decision.line 0 ≡ decision.line → at_line numbers decision ≡ decision
  same-line decision e = ap (λ (n : ℕ). record decision { line = n }) e

  module _ (now : Moment) (own : get_or numbers now.line 0 ≡ now.line) where
    one : (on_turn player : Player) (choice : Choice) → Stay (decided now on_turn player choice ∷ [])
    one on_turn player choice = ap (λ (d : Decision). d ∷ []) (same-line (decided now on_turn player choice) own)

    rolled : (player : Player) (choice : Choice) → Stay (undoubled now player ++ decided now player player choice ∷ [])
    rolled player choice = by_right (may_double_now now player) _ refl where
      by_right : (b : Bool) (passed : Decision) → passed.line ≡ now.line → Stay (cond b (passed ∷ []) [] ++ decided now player player choice ∷ [])
      by_right true passed at = ap (λ (d : Decision). d ∷ moved (decided now player player choice ∷ [])) (same-line passed (ap (λ (n : ℕ). get_or numbers n 0) at ∙ own ∙ sym at)) ∙ ap (λ (ds : List Decision). passed ∷ ds) (one player player choice)
      by_right false passed at = one player player choice

    -- what a line tells, and the number of the next one
    abbrev Goes : List Decision → Moment → Type 0
    Goes told next = Stay told × (next.line ≡ now.line + 1)

    acts : (player : Player) (what : What) (told : List Decision) (next : Moment) → Acts now player what told next → Goes told next
    acts player (Rolled roll written) told next a = (stay-as told _ a.3 (rolled player _), ap (λ (m : Moment). m.line) a.4)
    acts player Doubled told next a = (stay-as told _ a.2 (one player player _), ap (λ (m : Moment). m.line) a.3)
    acts player Took told next a = (stay-as told _ a.0 (one _ player _), ap (λ (m : Moment). m.line) a.1)
    acts player Passed told next a = (stay-as told _ a.0 (one _ player _), ap (λ (m : Moment). m.line) a.1)
    acts player Beavered told next a = (stay-as told _ a.1.0 (one _ player _), ap (λ (m : Moment). m.line) a.1.1)

    reports : (line : Line) (told : List Decision) (next : Moment) → Reports now line told next → Goes told next
    reports Title told next r = (stay-as told [] r.0 refl, ap (λ (m : Moment). m.line) r.1)
    reports (Checkers checkers) told next r = (stay-as told [] r.0 refl, ap (λ (m : Moment). m.line) r.1)
    reports (Stakes stakes) told next r = (stay-as told [] r.0 refl, ap (λ (m : Moment). m.line) r.1)
    reports (GameLine number away) told next r = (stay-as told [] r.1 refl, ap (λ (m : Moment). m.line) r.2)
    reports (Acted action) told next r = acts action.player action.what told next r
    reports (Ended winner points) told next r = (stay-as told [] r.1 refl, ap (λ (m : Moment). m.line) r.2)
    reports Stopped told next r = (stay-as told [] r.1 refl, ap (λ (m : Moment). m.line) r.2)
    reports Closed told next r = (stay-as told [] r.0 refl, ap (λ (m : Moment). m.line) r.1)

  -- lines from one on are those of their own number
  abbrev AreOwn : ℕ → ℕ → Type 0
  AreOwn from count = (k : ℕ) → from ≤ k → k < from + count → get_or numbers k 0 ≡ k

  all : (now : Moment) (lines : List Line) (told : List Decision) (end : Moment) → AreOwn now.line (length lines) → AllTell now lines told end → Stay told
  all now [] told end own t = stay-as told [] t.0 refl
  all now (line ∷ lines) told end own (here, next, r, later, rest, is) =
      let first = reports now (own now.line (omega arith) (omega arith)) line here next r in
      let others = all next lines later end (λ k from low. own k (omega (arith, first.1)) (omega (arith, first.1))) rest in
      stay-as told (here ++ later) is (map-append (at_line numbers) here later ∙ ap (λ (ds : List Decision). ds ++ moved later) first.0 ∙ ap (λ (ds : List Decision). here ++ ds) others)

counted : (from count k : ℕ) → k < count → get_or (range_with_len from count) k 0 ≡ from + k
counted from zero k low = absurd (omega arith)
counted from (suc count) zero low = omega arith
counted from (suc count) (suc k) low =
    let next : (from + 1) + k ≡ from + suc k = omega arith in
    counted (from + 1) count k (omega arith) ∙ next

-- where each line is that of its own number, the decisions of a replay stay
pub replay-stays : (rec : RecordRead) (told : List Decision) (numbers : List ℕ) → IsReplay rec told → numbers ≡ range_with_len 0 (length (record_lines rec) + 2) → map (at_line numbers) told ≡ told
replay-stays rec told numbers (end, tells) is =
    let games = games_lines 1 rec.games in
    let long : length (record_lines rec) ≡ suc (suc (suc (length games))) + 1 = length-append (Title ∷ Checkers rec.checkers ∷ Stakes rec.stakes ∷ games) (Closed ∷ []) in
    all numbers (first_moment rec) games told end (λ k from low. ap (λ (ns : List ℕ). get_or ns k 0) is ∙ counted 0 (length (record_lines rec) + 2) k (omega (arith, long, low)) ∙ zero-add k) tells
