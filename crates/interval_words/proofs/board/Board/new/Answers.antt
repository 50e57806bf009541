use Rattle.std.proofs.Common.{◌≡◌, ◌*◌, ℕ, List, ap, arith, sym, subst, ◌∙◌, length}
use Rattle.cube_actions.specs.Stakes.{Terms, IsValid}
use Rattle.turn_rule.specs.declared.game.Game.{Game}
use Rattle.interval_words.specs.declared.view.View.{View}
use Rattle.interval_words.specs.Seats.{Knows}
use Rattle.interval_words.specs.Core.{words_in, first_view}
use Rattle.interval_words.specs.Numbers.{AreBoundWords, states_in}
use Rattle.interval_words.proofs.Calls.{knows-first}
use Rattle.interval_words.proofs.EventLaws.{kept-new-board}
use Rattle.interval_words.proofs.board.Board.new.Goals as goal

pub of_words-requires : goal.of_words-requires
of_words-requires c =
    let valid : IsValid c.copied.result = subst (λ (s : Terms). IsValid s) (sym c.copied.ensures) c.bound.ensures.valid in
    let many : c.state_count.result ≡ states_in c.args.checkers (length c.copied.result.kinds) = c.state_count.ensures.count ∙ (ap (λ (n : ℕ). states_in n (length c.args.stakes.now.kinds)) c.in_ok-index.ensures ∙ ap (λ (s : Terms). states_in c.args.checkers (length s.kinds)) (sym c.copied.ensures)) in
    let words = subst (λ (list : List ℕ). AreBoundWords c.bound.result c.state_count.result list) (sym c.deref.ensures.value) c.in_ok-words.ensures in
    kept-new-board c.args.checkers c.copied.result c.requires.low c.requires.high valid c.deref.result.now c.bound.result c.state_count.result (c.bound.ensures.bound ∙ ap (λ (s : Terms). s.bound) (sym c.copied.ensures)) many words

pub invariant_of-result : goal.invariant_of-result
invariant_of-result c =
    let valid : IsValid c.copied.result = subst (λ (s : Terms). IsValid s) (sym c.copied.ensures) c.bound.ensures.valid in
    let game : Game = record { checkers = c.in_ok-index.index; stakes = c.copied.result } in
    let many : 2 * c.state_count.result ≡ words_in game = ap (λ (n : ℕ). 2 * n) (c.state_count.ensures.count ∙ ap (λ (s : Terms). states_in c.in_ok-index.index (length s.kinds)) (sym c.copied.ensures)) in
    let made = c.in_ok-table.ensures in
    record {
      valid = record { low = omega (arith, c.requires.low, c.in_ok-index.ensures); high = omega (arith, c.requires.high, c.in_ok-index.ensures); stakes = valid };
      same = made.5 ∙ ap (λ (n : ℕ). record { checkers = n; stakes = c.copied.result }) (sym c.in_ok-index.ensures);
      wide = made.0 ∙ (ap length c.deref.ensures.value ∙ (c.in_ok-words.ensures.long ∙ many));
      small = omega (arith, many, c.state_count.ensures.small);
      bare = made.1;
    }

pub invariant_of-result-2 : goal.invariant_of-result-2
invariant_of-result-2 c =
    let valid : IsValid c.copied.result = subst (λ (s : Terms). IsValid s) (sym c.copied.ensures) c.bound.ensures.valid in
    let made = c.in_ok-table.ensures in
    let knows : Knows (first_view (record { checkers = c.args.checkers; stakes = c.copied.result })) = knows-first (record { checkers = c.args.checkers; stakes = c.copied.result }) (record { low = c.requires.low; high = c.requires.high; stakes = valid }) in
    (ap (λ m. m.1) made.4, subst (λ (v : View). Knows v) (sym (ap (λ m. m.0) made.4)) knows)
