use Rattle.std.proofs.Common.{◌≡◌, ◌≤ℤ◌, ◌∙◌, ap, sym, subst, arith, ℕ, pos, List}
use Rattle.std.proofs.lemmas.Int.{ints}
use Rattle.interval_words.specs.WordLists.{WordList, IsWidest, pair_at, width, states_of}
use Rattle.interval_words.proofs.Lists.{AreWidths, widths-more, found-is, width-is}
use Rattle.interval_words.proofs.words.Words.widest.Goals as goal

pub loop-state-preserved : goal.loop-state-preserved
loop-state-preserved c =
    let list = c.self.inside.list.items in
    let pair : c.unwrap-pair.result ≡ pair_at list c.loop-state.state = found-is _ _ _ c.pair_of_list.ensures.pair c.unwrap-pair.ensures ∙ ap (λ (xs : List ℕ). pair_at xs c.loop-state.state) c.deref.ensures.value in
    let wide : c.add.result ≡ width (pair_at list c.loop-state.state) = width-is list c.loop-state.state c.unwrap-pair.result c.lower.result c.upper.result c.neg.result c.add.result pair c.lower.ensures.lower c.upper.ensures.upper c.neg.ensures c.add.ensures in
    let positive : pos 0 ≤ℤ c.add.result = omega (arith, ints, c.lower.ensures.in_order, c.lower.ensures.lower, c.upper.ensures.upper, c.neg.ensures, c.add.ensures) in
    record {
      so_far = rw c.max-widest.ensures (widths-more list c.loop-state.state c.loop-state.widest c.add.result c.loop-state.invariant.so_far c.loop-state.invariant.none positive wide);
      none = λ no_state. absurd (omega arith);
    }

pub returns : goal.returns
returns c =
    let words : WordList = record { game = record { checkers = c.self.inside.index; stakes = c.self.inside.stakes }; rounds = c.self.inside.rounds; list = c.self.inside.list.items } in
    let all : states_of words.game ≡ c.loop-state.state = omega (arith, c.state_count-states.ensures.count) in
    let are : AreWidths words.list (states_of words.game) c.loop-state.widest = subst (λ (n : ℕ). AreWidths words.list n c.loop-state.widest) (sym all) c.loop-state.invariant.so_far in
    let is : IsWidest words c.loop-state.widest = record { each = are.each; reached = are.reached (omega (arith, c.state_count-states.ensures.count, c.state_count-states.ensures.some)) } in
    subst (λ (w : WordList). IsWidest w c.loop-state.widest) c.self.view_is is
