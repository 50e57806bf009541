use Rattle.std.proofs.Common.{◌≡◌, ◌<◌, ◌∙◌, ℕ, ℤ, ◌≤ℤ◌, length, inl, inr, refl, ap, sym, subst, arith}
use Rattle.std.proofs.lemmas.Bool.{cases_lt}
use Rattle.position_rank.specs.Placement.{Placement}
use Rattle.directed_fixed.specs.declared.bounds.End.{End}
use Rattle.directed_fixed.specs.declared.bounds.End.TheVariants.{Lower, Upper}
use Rattle.directed_fixed.specs.Bounds.{Bounds}
use Rattle.turn_rule.specs.Games.{kinds_of}
use Rattle.turn_rule.specs.States.{IsState, pair_of}
use Rattle.interval_words.specs.WordLists.{WordList, words_in_list}
use Rattle.column_turns.specs.Columns.{position_in}
use Rattle.base_verify.specs.Findings.{WordHolds, turn_over}
use Rattle.base_verify.proofs.columns.kind_holds.Goals as goal

held : (words : WordList) (p : Placement) (k : ℕ) (stored found : Bounds) → stored ≡ pair_of (words_in_list words) p k → found ≡ pair_of (turn_over words) p k
    → stored.lower ≤ℤ found.lower → found.upper ≤ℤ stored.upper → (side : End) → WordHolds words side p k
held words p k stored found s t low high Lower =
    subst (λ (x : ℤ). x ≤ℤ turn_over words Lower p k) (ap (λ (b : Bounds). b.lower) s) (subst (λ (x : ℤ). stored.lower ≤ℤ x) (ap (λ (b : Bounds). b.lower) t) low)
held words p k stored found s t low high Upper =
    subst (λ (x : ℤ). x ≤ℤ words_in_list words Upper p k) (ap (λ (b : Bounds). b.upper) t) (subst (λ (x : ℤ). found.upper ≤ℤ x) (ap (λ (b : Bounds). b.upper) s) high)

pub pair_by_square-stored-requires-clause-state : goal.pair_by_square-stored-requires-clause-state
pair_by_square-stored-requires-clause-state c =
    let game = c.args.words.now.game in
    let here : c.loop-i.i < length c.args.turns.now.movers = omega (arith, c.loop-i-test.true, c.len-i-end.ensures) in
    let kind : c.args.kind < kinds_of game = omega (arith, c.requires.kind, c.requires.kinds) in
    subst (λ (p : Placement). IsState game p c.args.kind) (sym c.position.ensures.position) ((c.requires.turned c.loop-i.i here).states c.args.kind kind)

pub loop-i-preserved : goal.loop-i-preserved
loop-i-preserved c =
    let words = c.args.words.now in
    let column = c.args.turns.now in
    let at = c.loop-i.i in
    let here : at < length column.movers = omega (arith, c.loop-i-test.true, c.len-i-end.ensures) in
    let kind : c.args.kind < kinds_of words.game = omega (arith, c.requires.kind, c.requires.kinds) in
    let turned = c.requires.turned at here in
    let stored = rw c.position.ensures.position at c.pair_by_square-stored.ensures.pair in
    let found = c.pair.ensures ∙ turned.turns c.args.kind kind in
    λ side i below. elim (cases_lt i at) [
      | inl earlier ↦ c.loop-i.invariant side i earlier
      | inr from ↦ (
          let same : at ≡ i = omega (arith, below, from) in
          subst (λ (n : ℕ). WordHolds words side (position_in column n) c.args.kind) same
          (held words (position_in column at) c.args.kind c.pair_by_square-stored.result c.pair.result stored found (c.if-not-is_no_tighter.ensures.lower refl) (c.if-not-is_no_tighter.ensures.upper refl) side))
    ]
