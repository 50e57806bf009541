use Rattle.std.proofs.Common.{◌≡◌, ◌<◌, ◌*◌, length, sum, refl, arith, ◌∙◌, ap, sym, subst, ℕ}
use Rattle.std.proofs.lemmas.List.{get_or_read_under}
use Rattle.position_rank.specs.Placement.{Placement, IsPosition}
use Rattle.position_rank.specs.Ranks.{layouts, square_rank_of}
use Rattle.position_rank.specs.LiveRanks.{live_below, live_rank_of}
use Rattle.position_rank.proofs.LiveLaws.{live-rank-in}
use Rattle.turn_rule.specs.Layouts.{squares_of}
use Rattle.turn_rule.proofs.Squares.{square-below}
use Rattle.interval_words.proofs.live_index.LiveIndex.rank_at.Goals as goal

below : (p : Placement) (square : ℕ) → IsPosition p → square ≡ square_rank_of p → square < squares_of (sum p.mover)
below p square is at = subst (λ (n : ℕ). n < squares_of (sum p.mover)) (sym at) (square-below p (sum p.mover) is refl)

inside : (c : goal.After-from) → length c.self.inside.below.items ≡ layouts (sum c.args.position.now.mover) * layouts (sum c.args.position.now.mover)
inside c = c.self.invariant.many ∙ ap (λ n. layouts n * layouts n) (c.self.view_is ∙ sym c.requires.checkers)

same : (c : goal.After-from) → c.from.result ≡ live_rank_of c.args.position.now
same c =
    let here : c.args.square < length c.self.inside.below.items = omega (arith, below c.args.position.now c.args.square c.requires.valid c.requires.square, inside c) in
    c.from.ensures ∙ (get_or_read_under c.self.inside.below.items c.args.square (length c.self.inside.below.items) c.index.result.now 0 c.index.ensures here refl
    ∙ (c.self.invariant.each c.args.square here ∙ (ap (λ n. live_below n c.args.square) (c.self.view_is ∙ sym c.requires.checkers) ∙ ap (live_below (sum c.args.position.now.mover)) c.requires.square)))

pub returns-clause-below : goal.returns-clause-below
returns-clause-below c = rw (same c) (rw (← c.requires.checkers) (live-rank-in c.args.position.now c.requires.valid c.requires.live))

pub returns-clause-rank : goal.returns-clause-rank
returns-clause-rank c = same c

pub index-requires : goal.index-requires
index-requires c =
    omega (arith, below c.args.position.now c.args.square c.requires.valid c.requires.square, c.self.invariant.many ∙ ap (λ n. layouts n * layouts n) (c.self.view_is ∙ sym c.requires.checkers))
