use Rattle.std.proofs.Common.{◌≡◌, ◌<◌, ◌+◌, ◌*◌, ℕ, length, sum, ap, sym, subst, arith, ◌∙◌, refl, get_or}
use Rattle.std.proofs.lemmas.List.{get_or_read_under}
use Rattle.position_rank.specs.Placement.{Placement, IsPosition}
use Rattle.position_rank.specs.Ranks.{square_rank_of}
use Rattle.cube_actions.specs.Stakes.{nothing}
use Rattle.turn_rule.specs.Layouts.{squares_of}
use Rattle.plain_table.specs.Tables.{PairTable, IsFull, words_at}
use Rattle.turn_rule.specs.States.{pair_of}
use Rattle.plain_table.proofs.TableLemmas.{place-within}
use Rattle.turn_rule.proofs.Squares.{square-below}
use Rattle.plain_table.proofs.table.Table.pair_at.Goals as goal

-- the pair stands in the table
inside : (table mover_view : PairTable) (p : Placement) (square k : ℕ) → IsFull table → table ≡ mover_view → IsPosition p → sum p.mover ≡ mover_view.checkers → square ≡ square_rank_of p → k < mover_view.kinds → square * table.kinds + k < length table.pairs
inside table mover_view p square k full same is many at kind =
    place-within table square k full
    (subst (λ (n : ℕ). n < squares_of table.checkers) (sym at) (square-below p table.checkers is (many ∙ ap (λ (t : PairTable). t.checkers) (sym same))))
    (subst (λ (n : ℕ). k < n) (ap (λ (t : PairTable). t.kinds) (sym same)) kind)

pub overflow_mul-square : goal.overflow_mul-square
overflow_mul-square c = omega (arith, inside _ _ c.args.position.now c.args.square c.args.kind c.self.invariant c.self.view_is c.requires.valid c.requires.checkers c.requires.square c.requires.kind)

pub overflow_add-square : goal.overflow_add-square
overflow_add-square c = omega (arith, inside _ _ c.args.position.now c.args.square c.args.kind c.self.invariant c.self.view_is c.requires.valid c.requires.checkers c.requires.square c.requires.kind)

pub index-requires : goal.index-requires
index-requires c = omega (arith, inside _ _ c.args.position.now c.args.square c.args.kind c.self.invariant c.self.view_is c.requires.valid c.requires.checkers c.requires.square c.requires.kind)

pub returns : goal.returns
returns c =
    let items = c.self.inside.pairs.items in
    let here = inside _ _ c.args.position.now c.args.square c.args.kind c.self.invariant c.self.view_is c.requires.valid c.requires.checkers c.requires.square c.requires.kind in
    get_or_read_under items (c.args.square * c.self.inside.kinds + c.args.kind) (length items) c.index.result.now nothing c.index.ensures here refl
    ∙ (ap (λ (square : ℕ). get_or items (square * c.self.inside.kinds + c.args.kind) nothing) c.requires.square
    ∙ ap (λ (table : PairTable). pair_of (words_at table) c.args.position.now c.args.kind) c.self.view_is)
