-- Decisions that are judged one after another.
use Rattle.std.proofs.Common.{◌≡◌, ◌<◌, ◌+◌, ◌++◌, ◌∙◌, ℕ, zero, suc, List, [], ◌∷◌, length, take, drop, set, get_or, All, Option, None, Some, IsSomeAnd, IsTrue, inl, inr, ap, sym, subst, refl, arith}
use Rattle.std.proofs.lemmas.List.{take_more, take_more_set}
use Rattle.std.proofs.lemmas.List.Elements.{AllZip-push, All-head, All-tail, All-take}
use Rattle.position_rank.specs.Placement.{Placement}
use Rattle.directed_fixed.specs.declared.bounds.End.{End}
use Rattle.directed_fixed.specs.declared.bounds.End.TheVariants.{Lower, Upper}
use Rattle.directed_fixed.specs.Bounds.{Bounds, IsNoLooser, AreNoLooserPairs, at}
use Rattle.cube_actions.specs.Scores.{MatchScore}
use Rattle.cube_actions.specs.Stakes.{Terms, IsValid}
use Rattle.turn_rule.specs.declared.choice.Choice.{Choice}
use Rattle.turn_rule.specs.Games.{IsGame, game_of}
use Rattle.turn_rule.specs.States.{IsStateOf, IsState, AreNoLooserOf, AreNoLooser}
use Rattle.turn_rule.specs.Looks.{Source, Notes, AreLater, AreUndamaged, AreStakesOf, IsPairFor}
use Rattle.turn_rule.proofs.Monotone.{same-stakes}
use Rattle.play_analyser.specs.Choices.{IsChoice}
use Rattle.play_analyser.specs.Regrets.{loss_of}
use Rattle.move_rules.specs.Listing.{Among}
use Rattle.play_analyser.specs.Sought.{MayFollowChoice, of_loss}
use Rattle.play_analyser.proofs.PairLists.{Tightens, pair-later}
use Rattle.play_analyser.proofs.Tighter.{loss-of-tighter}
use Rattle.play_analyser.proofs.Weighing.{best-later}
use Rattle.play_analyser.specs.declared.best.Best.{Best}
use Rattle.record_analysis.specs.declared.analysis.Judged.{Judged}
use Rattle.record_analysis.specs.Judging.{CanBeJudged, IsAt, IsBestAt, Judges, JudgesAll, JudgesSome, MayFollowOne, of_decision}

-- the item at the front of what is left is the one at its place
pub rest-at : (olds news : List Judged) (i : ℕ) (d : Judged) → i < length olds → i < length news → drop i news ≡ drop i olds → get_or olds i d ≡ get_or news i d
rest-at olds news i d here there same = sym (first olds i here) ∙ (ap (λ (xs : List Judged). get_or xs 0 d) (sym same) ∙ first news i there) where
  first : (xs : List Judged) (j : ℕ) → j < length xs → get_or (drop j xs) 0 d ≡ get_or xs j d
  first xs zero h = refl
  first [] (suc j) h = absurd (omega arith)
  first (x ∷ xs) (suc j) h = first xs j (omega arith)

pub drop-next : (xs ys : List Judged) (i : ℕ) → drop i xs ≡ drop i ys → drop (i + 1) xs ≡ drop (i + 1) ys
drop-next xs ys i same = sym (next xs i) ∙ (ap (λ (zs : List Judged). drop 1 zs) same ∙ next ys i) where
  next : (zs : List Judged) (j : ℕ) → drop 1 (drop j zs) ≡ drop (j + 1) zs
  next zs zero = refl
  next [] (suc j) = let on : suc (suc j) ≡ suc j + 1 = omega arith in ap (λ (n : ℕ). drop n []) on
  next (z ∷ zs) (suc j) = let on : suc (j + 1) ≡ suc j + 1 = omega arith in next zs j ∙ ap (λ (n : ℕ). drop n (z ∷ zs)) on

module _ (s : Source) (stakes : Terms) (valid : IsValid stakes) (fits : AreStakesOf s stakes) where
  pub in-game : (p : Placement) (k : ℕ) → IsStateOf s.checkers s.kinds p k → IsState (game_of s.checkers stakes) p k
  in-game p k state = subst (λ (n : ℕ). IsStateOf s.checkers n p k) fits.kinds state

  pub is-game : (p : Placement) (k : ℕ) → IsStateOf s.checkers s.kinds p k → IsGame (game_of s.checkers stakes)
  is-game p k state = record {
    low = omega (arith, state.many, state.position.mover.at_least_one);
    high = omega (arith, state.many, state.position.mover.at_most_three);
    stakes = valid;
  }

  -- over tighter words, what a choice loses is as tight
  pub loss-tightens : (p : Placement) (k : ℕ) → IsStateOf s.checkers s.kinds p k → (choice : Choice) → IsChoice stakes p k choice → Tightens s (of_loss stakes p k choice)
  loss-tightens p k state choice is end u v tight = by_end end where
    words : AreNoLooser (game_of s.checkers stakes) u v
    words = subst (λ (n : ℕ). AreNoLooserOf s.checkers n u v) fits.kinds tight

    pairs : AreNoLooserPairs (loss_of stakes u p k choice) (loss_of stakes v p k choice)
    pairs = loss-of-tighter (game_of s.checkers stakes) (is-game p k state) stakes (same-stakes stakes) u v words p k (in-game p k state) choice is

    by_end : (e : End) → IsNoLooser e (at e (loss_of stakes u p k choice)) (at e (loss_of stakes v p k choice))
    by_end Lower = pairs.lower
    by_end Upper = pairs.upper

  module _ (score : Option MatchScore) where
    pub judges-later : (u v : Notes) → AreLater s u v → (old new : Judged) → (IsAt score old → CanBeJudged s stakes old.decision) → Judges score stakes s u old new → Judges score stakes s v old new
    judges-later u v tighter old new can is = record {
      decision = is.decision;
      judged = λ here. later (can here) new.loss (is.judged here);
      best = λ here. best-of (can here) new.best (is.best here);
      other = is.other;
    } where
      later : CanBeJudged s stakes old.decision → (loss : Option Bounds) → IsSomeAnd loss (IsPairFor (of_decision stakes old.decision) s u) → IsSomeAnd loss (IsPairFor (of_decision stakes old.decision) s v)
      later could None h = absurd h
      later could (Some pair) h = pair-later s (of_decision stakes old.decision) (loss-tightens old.decision.position old.decision.kind could.state old.decision.choice could.choice) u v tighter pair h

      best-of : CanBeJudged s stakes old.decision → (best : Option Best) → IsSomeAnd best (IsBestAt stakes old.decision s u) → IsSomeAnd best (IsBestAt stakes old.decision s v)
      best-of could None h = absurd h
      best-of could (Some best) h = best-later s stakes valid fits old.decision.position old.decision.kind could.state u v tighter old.decision.choice could.choice best h

    all-later : (u v : Notes) → AreLater s u v → (olds news : List Judged) → All (λ (judged : Judged). IsAt score judged → CanBeJudged s stakes judged.decision) olds → JudgesAll score stakes s u olds news → JudgesAll score stakes s v olds news
    all-later u v tighter [] [] can are = tt
    all-later u v tighter [] (new ∷ news) can are = absurd are
    all-later u v tighter (old ∷ olds) [] can are = absurd are
    all-later u v tighter (old ∷ olds) (new ∷ news) can are = (
      judges-later u v tighter old new (All-head (λ (judged : Judged). IsAt score judged → CanBeJudged s stakes judged.decision) old olds can) are.0,
      all-later u v tighter olds news (All-tail (λ (judged : Judged). IsAt score judged → CanBeJudged s stakes judged.decision) old olds can) are.1,
    )

    -- one more, after those before it
    pub judges-more : (u v : Notes) → AreLater s u v → (olds news : List Judged) (i : ℕ) (d new : Judged) → All (λ (judged : Judged). IsAt score judged → CanBeJudged s stakes judged.decision) olds → i < length olds → i < length news → drop i news ≡ drop i olds
        → JudgesAll score stakes s u (take i olds) (take i news) → Judges score stakes s v (get_or news i d) new → JudgesAll score stakes s v (take (i + 1) olds) (take (i + 1) (set news i new))
    judges-more u v tighter olds news i d new can here there rest before one =
        subst (λ (xs : List Judged). JudgesAll score stakes s v xs (take (i + 1) (set news i new))) (sym (take_more olds i d here ∙ ap (λ (x : Judged). take i olds ++ x ∷ []) (rest-at olds news i d here there rest)))
        (subst (λ (ys : List Judged). JudgesAll score stakes s v (take i olds ++ get_or news i d ∷ []) ys) (sym (take_more_set news i new there))
        (AllZip-push (Judges score stakes s v) (take i olds) (take i news) (get_or news i d) new
        (all-later u v tighter (take i olds) (take i news) (All-take (λ (judged : Judged). IsAt score judged → CanBeJudged s stakes judged.decision) i olds can) before) one))

    -- those before the place where it stopped
    pub judges-some : (u v : Notes) → AreLater s u v → (olds news : List Judged) (i : ℕ) → All (λ (judged : Judged). IsAt score judged → CanBeJudged s stakes judged.decision) olds → drop i news ≡ drop i olds
        → JudgesAll score stakes s u (take i olds) (take i news) → JudgesSome score stakes s v olds news
    judges-some u v tighter olds news i can rest before =
        (i, record { judged = all-later u v tighter (take i olds) (take i news) (All-take (λ (judged : Judged). IsAt score judged → CanBeJudged s stakes judged.decision) i olds can) before; rest = rest })

    -- no state is damaged on which a decision rests that was judged
    pub judged-undamaged : (u : Notes) → IsTrue u.told → (olds news : List Judged) → JudgesAll score stakes s u olds news → (old : Judged) → Among old olds → AreUndamaged s (MayFollowOne score stakes old)
    judged-undamaged u told [] news are old m q j may = absurd m
    judged-undamaged u told (first ∷ olds) [] are old m q j may = absurd are
    judged-undamaged u told (first ∷ olds) (new ∷ news) are old (inl is) q j may =
        let same = subst (λ (x : Judged). MayFollowOne score stakes x q j) is may in
        right new.loss (are.0.judged same.at) same.follows where
          right : (loss : Option Bounds) → IsSomeAnd loss (IsPairFor (of_decision stakes first.decision) s u) → MayFollowChoice stakes first.decision.position first.decision.kind first.decision.choice q j → s.damage q j ≡ None
          right None some follows = absurd some
          right (Some pair) some follows = some.right told q j follows
    judged-undamaged u told (first ∷ olds) (new ∷ news) are old (inr m) q j may = judged-undamaged u told olds news are.1 old m q j may
