use Rattle.std.proofs.Common.{ℤ, ◌≡◌, ◌∙◌, ℕ, sym, ap, ap₂, subst}
use Rattle.cube_actions.specs.Stakes.{Terms}
use Rattle.turn_rule.specs.Games.{game_of}
use Rattle.word_pages.specs.Flaws.{LieWithin}
use Rattle.interval_words.specs.Core.{words_in}
use Rattle.database_file.specs.Texts.{game_in}
use Rattle.database_file.proofs.Bases.{bound-named, words-right}
use Rattle.database_file.proofs.load.base_of.Goals as goal

pub of_right_list-words-requires : goal.of_right_list-words-requires
of_right_list-words-requires c =
    let head = c.args.head in
    let list = c.args.list.items in
    let game : game_of c.in_ok-index.index c.stakes.result ≡ game_in head = ap₂ (λ (checkers : ℕ) (stakes : Terms). game_of checkers stakes) (c.in_ok-index.ensures ∙ c.checkers.ensures.checkers) c.stakes.ensures.stakes in
    let bound = bound-named head.name head.starts in
    words-right (game_of c.in_ok-index.index c.stakes.result) c.rounds.result list (c.requires.long ∙ sym (ap words_in game))
    (subst (λ (bound : ℤ). LieWithin bound list) (sym (ap (λ (stakes : Terms). stakes.bound) c.stakes.ensures.stakes ∙ bound)) c.requires.within)
