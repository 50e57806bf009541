-- Advice that was looked up in a list of words.
use Rattle.std.proofs.Common.{◌≡◌, ℕ, IsTrue, false, Result, Ok, Err, IsOkAnd, refl, sym, ap, subst, ◌∙◌}
use Rattle.std.proofs.lemmas.Bool.{false≢true}
use Rattle.position_rank.specs.Placement.{Placement}
use Rattle.directed_fixed.specs.declared.bounds.End.{End}
use Rattle.cube_actions.specs.Stakes.{Terms}
use Rattle.hyper_outside.specs.declared.outside.LookStop.{LookStop}
use Rattle.hyper_outside.specs.declared.outside.LookStop.TheVariants.{ReadFault, BadPage, NoMemory}
use Rattle.play_analyser.specs.declared.advice.CubeAdvice.{CubeAdvice}
use Rattle.turn_rule.specs.Turn.{Words}
use Rattle.turn_rule.specs.Looks.{all_told, Damage, Looked, MayFollowTurn, MayStop, Notes, Source}
use Rattle.turn_rule.proofs.Found.{look}
use Rattle.turn_rule.specs.Following.{AgreeOn}
use Rattle.play_analyser.specs.Advice.{IsCubeAdvice, IsCubeAdviceOver}
use Rattle.interval_words.specs.WordLists.{WordList, source_of, words_in_list}

-- it is advice over these words, since the list is sure
pub advised : (words : WordList) (p : Placement) (k : ℕ)
    → ((source : Source) (u : Notes) (stakes : Terms) (p : Placement) (k : ℕ) (advice : CubeAdvice)
    → IsTrue u.told → ((end : End) → AgreeOn (MayFollowTurn stakes p k) end source.floor u.words) → IsCubeAdvice stakes p k source u advice → IsCubeAdviceOver stakes u.words p k advice)
    → (source : Source) (stakes : Terms) (new : WordList) → source ≡ source_of words → stakes ≡ words.game.stakes → source_of new ≡ source
    → (before now : ℕ) (old : Notes) (meant : Damage → Type 0) (r : Result CubeAdvice LookStop)
    → Looked (look source old (all_told (words_in_list new)) before now) meant (IsCubeAdvice stakes p k source (all_told (words_in_list new))) r
    → IsOkAnd r (IsCubeAdviceOver words.game.stakes (words_in_list words) p k)
advised words p k law source stakes new at same there before now old meant (Err stop) looked = absurd (false≢true (sym (stops stop looked.stop) ∙ ap (λ (s : Source). s.sure) at)) where
  stops : (stop : LookStop) → MayStop source (all_told (words_in_list new)) before now meant stop → source.sure ≡ false
  stops ReadFault may = may.0
  stops (BadPage fault place) may = may.0
  stops NoMemory may = may
advised words p k law source stakes new at same there before now old meant (Ok advice) looked =
    let u = words_in_list new in
    let notes : u ≡ words_in_list words = ap (λ (s : Source). s.floor) (there ∙ at) in
    let over = law source (all_told u) stakes p k advice refl (λ end q j _. ap (λ (s : Source). s.floor end q j) (sym there)) looked.answer in
    subst (λ (t : Terms). IsCubeAdviceOver t (words_in_list words) p k advice) same (subst (λ (v : Words). IsCubeAdviceOver stakes v p k advice) notes over)
