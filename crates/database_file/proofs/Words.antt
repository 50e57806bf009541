-- What is known of words that are right.
use Rattle.std.proofs.Common.{◌≤ℤ◌, All, sym, subst, arith}
use Rattle.directed_fixed.specs.declared.word.TheConstants.{WORD_OFFSET}
use Rattle.cube_actions.specs.declared.name.StakesName.{StakesName}
use Rattle.cube_actions.specs.declared.name.StakesName.TheVariants.{Unlimited, Match}
use Rattle.cube_actions.specs.Stakes.{Terms, IsValid, bound_of}
use Rattle.turn_rule.specs.Games.{IsGame}
use Rattle.interval_words.specs.Numbers.{value_of}
use Rattle.interval_words.specs.WordLists.{WordList, AreRight, states_of}
use Rattle.word_pages.specs.declared.version.Version.{Version}
use Rattle.word_pages.specs.Words.{Fits}
use Rattle.word_pages.specs.Flaws.{LieWithin}
use Rattle.word_pages.proofs.Within.{within-fit}

low : (name : StakesName) → bound_of name ≤ℤ WORD_OFFSET
low (Unlimited rule) = omega arith
low (Match score) = omega arith

pub bound-low : (stakes : Terms) → IsValid stakes → stakes.bound ≤ℤ WORD_OFFSET
bound-low stakes valid = subst (λ bound. bound ≤ℤ WORD_OFFSET) (sym valid.bound) (low stakes.name)

pub right-within : (words : WordList) → AreRight words → LieWithin words.game.stakes.bound words.list
unfolding value_of
right-within words right k lt = right.within k (omega (arith, lt, right.long))

-- right words fit in each version
pub right-fit : (version : Version) (words : WordList) → IsGame words.game → AreRight words → All (Fits version) words.list
right-fit version words game right = within-fit version words.game.stakes.bound (states_of words.game) words.list (bound-low words.game.stakes game.stakes) right.long (right-within words right)
