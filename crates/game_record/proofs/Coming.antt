-- What may come next in a record, read backwards.
use Rattle.std.proofs.Common.{◌≡◌, Bool, true, false, Some, refl, ap, sym, subst}
use Rattle.std.proofs.lemmas.Option.{same_Some}
use Rattle.game_record.specs.declared.player.Player.{Player}
use Rattle.game_record.specs.declared.player.Player.TheVariants.{A, B}
use Rattle.game_record.specs.declared.record.What.{What}
use Rattle.game_record.specs.declared.record.What.TheVariants.{Rolled, Doubled, Took, Passed, Beavered}
use Rattle.game_record.specs.declared.line.LineKind.{LineKind}
use Rattle.game_record.specs.declared.line.LineKind.TheVariants.{OfTitle, OfCheckers, OfStakes, OfGame, OfRoll, OfDouble, OfTake, OfPass, OfEnd, OfStop, OfClose}
use Rattle.game_record.specs.declared.stage.Next.{Next}
use Rattle.game_record.specs.declared.stage.Next.TheVariants.{Title, Checkers, Stakes, FirstGame, FirstRoll, Turn, Answer, Roll, End, NextGame, Close, Nothing}
use Rattle.game_record.specs.Turns.{allowed, kind_of_deed, on_game, on_turn, other_player, IsInGame}

-- what a line of each kind leads to
abbrev pub coming : LineKind → Next
coming OfTitle = Checkers
coming OfCheckers = Stakes
coming OfStakes = FirstGame
coming (OfGame away) = FirstRoll
coming (OfRoll player) = Turn (other_player player)
coming (OfDouble player) = Answer (other_player player)
coming (OfTake player) = Roll (other_player player)
coming (OfPass player) = End
coming OfEnd = NextGame
coming OfStop = Close
coming OfClose = Nothing

turn-next : (player other : Player) (next x : Next) → on_turn player other next ≡ Some x → (x ≡ next) × (player ≡ other)
turn-next A A next x e = (sym (same_Some next x e), refl)
turn-next B B next x e = (sym (same_Some next x e), refl)
turn-next A B next x e = absurd (cc)
turn-next B A next x e = absurd (cc)

game-next : (in_match away : Bool) (x : Next) → on_game in_match away ≡ Some x → x ≡ FirstRoll
game-next true true x e = sym (same_Some FirstRoll x e)
game-next true false x e = absurd (cc)
game-next false true x e = absurd (cc)
game-next false false x e = sym (same_Some FirstRoll x e)

pub what-comes : (in_match : Bool) (next : Next) (kind : LineKind) (x : Next) → allowed in_match next kind ≡ Some x → x ≡ coming kind
what-comes im Title OfTitle x e = sym (same_Some Checkers x e)
what-comes im Checkers OfCheckers x e = sym (same_Some Stakes x e)
what-comes im Stakes OfStakes x e = sym (same_Some FirstGame x e)
what-comes im FirstGame (OfGame away) x e = game-next im away x e
what-comes im FirstRoll (OfRoll player) x e = sym (same_Some (Turn (other_player player)) x e)
what-comes im (Turn player) (OfRoll other) x e = (turn-next player other (Turn (other_player other)) x e).0
what-comes im (Turn player) (OfDouble other) x e = (turn-next player other (Answer (other_player other)) x e).0
what-comes im (Turn player) OfEnd x e = sym (same_Some NextGame x e)
what-comes im (Turn player) OfStop x e = sym (same_Some Close x e)
what-comes im (Answer player) (OfTake other) x e = (turn-next player other (Roll (other_player other)) x e).0
what-comes im (Answer player) (OfPass other) x e = (turn-next player other End x e).0
what-comes im (Roll player) (OfRoll other) x e = (turn-next player other (Turn (other_player other)) x e).0
what-comes im (Roll player) OfStop x e = sym (same_Some Close x e)
what-comes im End OfEnd x e = sym (same_Some NextGame x e)
what-comes im NextGame (OfGame away) x e = game-next im away x e
what-comes im NextGame OfClose x e = sym (same_Some Nothing x e)
what-comes im Close OfClose x e = sym (same_Some Nothing x e)
what-comes im _ _ x e = absurd (cc)

-- a take, a pass or a beaver comes only from the one who was doubled
pub take-asked : (in_match : Bool) (next : Next) (player : Player) (x : Next) → allowed in_match next (OfTake player) ≡ Some x → next ≡ Answer player
take-asked im (Answer asked) player x e = ap Answer (turn-next asked player (Roll (other_player player)) x e).1
take-asked im _ player x e = absurd (cc)

pub pass-asked : (in_match : Bool) (next : Next) (player : Player) (x : Next) → allowed in_match next (OfPass player) ≡ Some x → next ≡ Answer player
pass-asked im (Answer asked) player x e = ap Answer (turn-next asked player End x e).1
pass-asked im _ player x e = absurd (cc)

roll-within : (in_match : Bool) (next : Next) (player : Player) (x : Next) → allowed in_match next (OfRoll player) ≡ Some x → IsInGame next
roll-within im FirstRoll player x e = tt
roll-within im (Turn asked) player x e = tt
roll-within im (Roll asked) player x e = tt
roll-within im _ player x e = absurd (cc)

double-within : (in_match : Bool) (next : Next) (player : Player) (x : Next) → allowed in_match next (OfDouble player) ≡ Some x → IsInGame next
double-within im (Turn asked) player x e = tt
double-within im _ player x e = absurd (cc)

-- what players do comes within a game
pub acts-within : (in_match : Bool) (next : Next) (player : Player) (what : What) (x : Next) → allowed in_match next (kind_of_deed player what) ≡ Some x → IsInGame next
acts-within im next player (Rolled roll written) x e = roll-within im next player x e
acts-within im next player Doubled x e = double-within im next player x e
acts-within im next player Took x e = subst (λ (n : Next). IsInGame n) (sym (take-asked im next player x e)) tt
acts-within im next player Passed x e = subst (λ (n : Next). IsInGame n) (sym (pass-asked im next player x e)) tt
acts-within im next player Beavered x e = subst (λ (n : Next). IsInGame n) (sym (take-asked im next player x e)) tt

-- and so does the end of a game
pub end-within : (in_match : Bool) (next x : Next) → allowed in_match next OfEnd ≡ Some x → IsInGame next
end-within im (Turn player) x e = tt
end-within im End x e = tt
end-within im _ x e = absurd (cc)
