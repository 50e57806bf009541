use Rattle.std.proofs.Common.{◌≡◌, ◌+◌, ◌*◌, ℕ, ℤ, List, [], ◌∷◌, ◌++◌, ap, subst, sym, ◌∙◌}
use Rattle.interval_words.specs.Seats.{WasHeld}
use Rattle.game_census.specs.Saved.{WereRead}
use Rattle.game_census.proofs.Reading.{one_more, value_of-word}
use Rattle.game_census.proofs.saving.add_words.Goals as goal

pub returns-clause-read : goal.returns-clause-read
returns-clause-read c =
    let game = c.args.board.now.game in
    let state = c.args.state in
    let lower = c.to_word-lower.result in
    let upper = c.to_word-upper.result in
    let items : c.push-2.new.self.items ≡ (c.args.list.now.items ++ lower ∷ []) ++ upper ∷ [] = c.in_ok-push-2.ensures.items ∙ ap (λ (xs : List ℕ). xs ++ upper ∷ []) c.in_ok-push.ensures.items in
    let before = c.args.seat.now.view in
    let between = c.read_lower.new.seat.view in
    subst (λ (xs : List ℕ). WereRead game (state + 1) xs) (sym items)
    (one_more game state c.args.list.now.items lower upper c.requires.before
    (before, subst (λ (z : ℤ). WasHeld game before (2 * state) z) (sym (value_of-word lower c.read_lower.result c.to_word-lower.ensures)) c.read_lower.ensures.held)
    (between, subst (λ (z : ℤ). WasHeld game between (2 * state + 1) z) (sym (value_of-word upper c.read_upper.result c.to_word-upper.ensures)) c.read_upper.ensures.held))
