-- Losses over words that are the same where they count.
use Rattle.std.proofs.Common.{◌≡◌, ◌↔◌, All, Contains, IsTrue, pos, ◌*ℤ◌, ◌∙◌, ℕ, neg_ℤ, List, [], ◌∷◌, map, Option, None, Some, inl, inr, ap, refl, sym}
use Rattle.position_rank.specs.Placement.{Placement, swap}
use Rattle.roll_table.specs.Rolls.{Dice}
use Rattle.move_rules.specs.Ends.{legal_ends}
use Rattle.move_rules.specs.Listing.{Among}
use Rattle.move_rules.specs.Sequences.{IsLegalEnd}
use Rattle.move_rules.proofs.Members.{Among-Contains, Among-map}
use Rattle.move_rules.proofs.EndsExact.{legal_ends-sound}
use Rattle.move_rules.specs.declared.payoff.Won.{Won}
use Rattle.move_rules.specs.Payoff.{points}
use Rattle.directed_fixed.specs.declared.bounds.End.{End}
use Rattle.directed_fixed.specs.declared.bounds.End.TheVariants.{Lower, Upper}
use Rattle.directed_fixed.specs.Bounds.{Bounds, at, other, negated}
use Rattle.cube_actions.specs.declared.kind.Double.{Double}
use Rattle.cube_actions.specs.declared.kind.Kind.{Kind}
use Rattle.cube_actions.specs.declared.kind.Taken.{Taken}
use Rattle.cube_actions.specs.Stakes.{Terms, kind_at}
use Rattle.turn_rule.specs.Turn.{Words, win, if_won, worth, roll_value, least}
use Rattle.turn_rule.specs.Looks.{Source, Notes, IsPairFor, of_roll, IsLeft, MayFollowTurn, MayFollow, MayFollowDouble, MayFollowRoll, roll_pair}
use Rattle.turn_rule.specs.Following.{AgreeOn}
use Rattle.turn_rule.specs.Found.{of_play}
use Rattle.turn_rule.proofs.Agreement.{roll-agree}
use Rattle.turn_rule.proofs.Follows.{answer-follows}
use Rattle.turn_rule.proofs.Sure.{exact-pair}
use Rattle.turn_rule.specs.declared.choice.Choice.{Choice}
use Rattle.turn_rule.specs.declared.choice.Choice.TheVariants.{Played, Offered, Answered}
use Rattle.cube_actions.specs.declared.action.Offer.{Offer}
use Rattle.cube_actions.specs.declared.action.Answer.{Answer}
use Rattle.play_analyser.specs.Losses.{loss}
use Rattle.play_analyser.specs.Choices.{IsChoice, all_but, offer_options, answer_options}
use Rattle.play_analyser.specs.Regrets.{play_pair, taken_pair, double_pair, loss_of, cube_loss, offer_pairs, answer_pairs}
use Rattle.play_analyser.specs.Sought.{ArePairsFor, MayFollowChoice, of_answer}
use Rattle.play_analyser.specs.declared.advice.CubeAction.{CubeAction}
use Rattle.play_analyser.specs.declared.advice.CubeAdvice.{CubeAdvice}
use Rattle.play_analyser.specs.declared.best.Best.{Best}
use Rattle.play_analyser.specs.declared.ranking.PlayRow.{PlayRow}
use Rattle.play_analyser.specs.declared.ranking.Ranking.{Ranking}
use Rattle.play_analyser.specs.Advice.{IsActionBy, IsAdviceOn, IsCubeAdvice, IsCubeAdviceOver, taken_of}
use Rattle.play_analyser.specs.Bests.{IsBest, IsBestOver}
use Rattle.play_analyser.specs.Rankings.{IsRanking, IsRankingOver}
use Rattle.play_analyser.proofs.PlayLosses.{all-of}
use Rattle.play_analyser.proofs.RowLemmas.{member}
use Rattle.play_analyser.proofs.LossLemmas.{both_ends}
use Rattle.play_analyser.proofs.OtherPlays.{left-in}

map-agree : {X : Type 0} {Y : Type 0} (f g : X → Y) (xs : List X) → ((x : X) → Among x xs → f x ≡ g x) → map f xs ≡ map g xs
map-agree f g [] h = refl
map-agree {X} {Y} f g (x ∷ xs) h = ap (λ (y : Y). y ∷ map f xs) (h x (inl refl)) ∙ ap (λ (ys : List Y). g x ∷ ys) (map-agree f g xs (λ y m. h y (inr m)))

pub worth-same : (end : End) (kind : Kind) (u v : Words) (q : Placement) → AgreeOn (IsLeft kind.next q) (other end) u v → worth end kind u q ≡ worth end kind v q
worth-same end kind u v q same = by_points (points q) refl where
  by_points : (o : Option Won) → points q ≡ o → if_won o (λ won. at end (win kind won)) (neg_ℤ (u (other end) (swap q) kind.next)) ≡ if_won o (λ won. at end (win kind won)) (neg_ℤ (v (other end) (swap q) kind.next))
  by_points None on = ap neg_ℤ (same (swap q) kind.next (record { goes_on = on; sides = refl; kind = refl }))
  by_points (Some won) over = refl

play-same : (kind : Kind) (u v : Words) (q : Placement) → ((end : End) → AgreeOn (IsLeft kind.next q) end u v) → play_pair kind u q ≡ play_pair kind v q
play-same kind u v q same = both_ends (play_pair kind u q) _ _ (worth-same Lower kind u v q (same Upper)) (worth-same Upper kind u v q (same Lower))

roll-same : (stakes : Terms) (u v : Words) (p : Placement) (k factor : ℕ) → ((end : End) → AgreeOn (MayFollow stakes p k) end u v) → roll_pair stakes u p k factor ≡ roll_pair stakes v p k factor
roll-same stakes u v p k factor same = both_ends (roll_pair stakes u p k factor) _ _ (roll-agree stakes u v Lower p k factor (same Upper)) (roll-agree stakes u v Upper p k factor (same Lower))

module _ (stakes : Terms) (u v : Words) (p : Placement) (k : ℕ) where
  module _ (double : Double) (is : (kind_at stakes k).double ≡ Some double) (same : (end : End) → AgreeOn (MayFollowDouble stakes p k) end u v) where
    answers-same : (taken : Taken) → Among taken double.answers.items → (end : End) → AgreeOn (MayFollow stakes p taken.kind) end u v
    answers-same taken m end q j after = same end q j (record { double = double; right = is; taken = taken; answer = Among-Contains taken double.answers.items m; after = after })

    doubled-same : double_pair stakes u p double ≡ double_pair stakes v p double
    doubled-same =
        both_ends (double_pair stakes u p double) _ _
        (ap (least double.pass.lower) (map-agree (λ (taken : Taken). roll_value Lower stakes u p taken.kind taken.factor) (λ (taken : Taken). roll_value Lower stakes v p taken.kind taken.factor) double.answers.items (λ taken m. roll-agree stakes u v Lower p taken.kind taken.factor (answers-same taken m Upper))))
        (ap (least double.pass.upper) (map-agree (λ (taken : Taken). roll_value Upper stakes u p taken.kind taken.factor) (λ (taken : Taken). roll_value Upper stakes v p taken.kind taken.factor) double.answers.items (λ taken m. roll-agree stakes u v Upper p taken.kind taken.factor (answers-same taken m Lower))))

    answered-same : (answer : Answer) → loss (answer_pairs stakes u p double answer) ≡ loss (answer_pairs stakes v p double answer)
    answered-same answer =
        ap (λ (pairs : List Bounds). loss (answer_options (negated double.pass) pairs answer))
        (map-agree (λ (taken : Taken). negated (taken_pair stakes u p taken)) (λ (taken : Taken). negated (taken_pair stakes v p taken)) double.answers.items
        (λ taken m. ap negated (roll-same stakes u v p taken.kind taken.factor (answers-same taken m))))

    offered-same : (offer : Offer) → ((end : End) → AgreeOn (MayFollow stakes p k) end u v) → loss (offer_pairs stakes u p k double offer) ≡ loss (offer_pairs stakes v p k double offer)
    offered-same offer rolls =
        ap (λ (rolling : Bounds). loss (offer_options rolling (double_pair stakes u p double) offer)) (roll-same stakes u v p k 1 rolls)
        ∙ ap (λ (doubling : Bounds). loss (offer_options (roll_pair stakes v p k 1) doubling offer)) doubled-same

  by_double : (o : Option Double) → (kind_at stakes k).double ≡ o → (f g : Double → Bounds) → ((double : Double) → (kind_at stakes k).double ≡ Some double → f double ≡ g double) → (F G : Option Double → Bounds) → (F None ≡ G None) → ((d : Double) → F (Some d) ≡ f d) → ((d : Double) → G (Some d) ≡ g d) → F (kind_at stakes k).double ≡ G (kind_at stakes k).double
  by_double None is f g same F G none left right = ap F is ∙ (none ∙ sym (ap G is))
  by_double (Some double) is f g same F G none left right = ap F is ∙ (left double ∙ (same double is ∙ (sym (right double) ∙ sym (ap G is))))

  module _ (roll : Dice) (end : Placement) (legal : IsLegalEnd p roll end) (same : (e : End) → AgreeOn (MayFollowRoll stakes p k roll) e u v) where
    one-same : (q : Placement) → IsLegalEnd p roll q → play_pair (kind_at stakes k) u q ≡ play_pair (kind_at stakes k) v q
    one-same q allowed = play-same (kind_at stakes k) u v q (λ e r j left. same e r j (record { end = q; legal = allowed; left = left }))

    played-same : loss_of stakes u p k (Played roll end) ≡ loss_of stakes v p k (Played roll end)
    played-same =
        let others = all_but end (legal_ends p roll) in
        ap (λ (chosen : Bounds). loss (record { chosen = chosen; others = map (play_pair (kind_at stakes k) u) others })) (one-same end legal)
        ∙ ap (λ (pairs : List Bounds). loss (record { chosen = play_pair (kind_at stakes k) v end; others = pairs }))
        (map-agree (play_pair (kind_at stakes k) u) (play_pair (kind_at stakes k) v) others
        (λ q m. one-same q (let left = left-in end (legal_ends p roll) q m in legal_ends-sound p roll q (Among-Contains q (legal_ends p roll) left.0))))

  pub loss-same : (choice : Choice) → IsChoice stakes p k choice → ((end : End) → AgreeOn (MayFollowChoice stakes p k choice) end u v) → loss_of stakes u p k choice ≡ loss_of stakes v p k choice
  loss-same (Played roll end) is same = played-same roll end is.1 same
  loss-same (Offered offer) is same =
      by_double (kind_at stakes k).double refl (λ d. loss (offer_pairs stakes u p k d offer)) (λ d. loss (offer_pairs stakes v p k d offer))
      (λ d some. offered-same d some (λ end q j after. same end q j (inr after)) offer (λ end q j after. same end q j (inl after)))
      (λ o. cube_loss o (λ d. offer_pairs stakes u p k d offer)) (λ o. cube_loss o (λ d. offer_pairs stakes v p k d offer)) refl (λ d. refl) (λ d. refl)
  loss-same (Answered answer) is same =
      by_double (kind_at stakes k).double refl (λ d. loss (answer_pairs stakes u p d answer)) (λ d. loss (answer_pairs stakes v p d answer))
      (λ d some. answered-same d some (λ end q j after. same end q j (inr after)) answer)
      (λ o. cube_loss o (λ d. answer_pairs stakes u p d answer)) (λ o. cube_loss o (λ d. answer_pairs stakes v p d answer)) refl (λ d. refl) (λ d. refl)

-- ---- rankings and advice

pub play-exact : (source : Source) (u : Notes) (kind : Kind) (q : Placement) (pair : Bounds) → IsTrue u.told → ((end : End) → AgreeOn (IsLeft kind.next q) end source.floor u.words) → IsPairFor (of_play kind q) source u pair → pair ≡ play_pair kind u.words q
play-exact source u kind q pair told same is =
    exact-pair source u (IsLeft kind.next q) source.bound (λ (end : End) (w : Words). worth end kind w q) pair told (λ end. worth-same end kind source.floor u.words q (same (other end))) is

pub roll-exact : (source : Source) (u : Notes) (stakes : Terms) (p : Placement) (k factor : ℕ) (pair : Bounds) → IsTrue u.told → ((end : End) → AgreeOn (MayFollow stakes p k) end source.floor u.words) → IsPairFor (of_roll stakes p k factor) source u pair → pair ≡ roll_pair stakes u.words p k factor
roll-exact source u stakes p k factor pair told same is =
    exact-pair source u (MayFollow stakes p k) (pos factor *ℤ source.bound) (λ (end : End) (w : Words). roll_value end stakes w p k factor) pair told (λ end. roll-agree stakes source.floor u.words end p k factor (same (other end))) is

pub rows-exact : (source : Source) (u : Notes) (stakes : Terms) (p : Placement) (k : ℕ) (roll : Dice) (rows : List PlayRow) → IsTrue u.told → ((end : End) → AgreeOn (MayFollowRoll stakes p k roll) end source.floor u.words) → ((q : Placement) → Contains (map (λ (row : PlayRow). row.entry.end) rows) q ↔ IsLegalEnd p roll q)
    → All (λ (row : PlayRow). IsPairFor (of_play (kind_at stakes k) row.entry.end) source u row.pair) rows → All (λ (row : PlayRow). row.pair ≡ play_pair (kind_at stakes k) u.words row.entry.end) rows
rows-exact source u stakes p k roll rows told same ends pairs = all-of (λ (row : PlayRow). row.pair ≡ play_pair (kind_at stakes k) u.words row.entry.end) rows of_row where
  of_row : (row : PlayRow) → Among row rows → row.pair ≡ play_pair (kind_at stakes k) u.words row.entry.end
  of_row row m =
      let end = row.entry.end in
      let legal = (ends end).0 (Among-Contains end (map (λ (r : PlayRow). r.entry.end) rows) (Among-map (λ (r : PlayRow). r.entry.end) row rows m)) in
      play-exact source u (kind_at stakes k) end row.pair told (λ e q j left. same e q j (record { end = end; legal = legal; left = left }))
      (member (λ (r : PlayRow). IsPairFor (of_play (kind_at stakes k) r.entry.end) source u r.pair) rows pairs row m)

answers-exact : (source : Source) (u : Notes) (stakes : Terms) (p : Placement) (answers : List Taken) → IsTrue u.told → ((taken : Taken) → Among taken answers → (end : End) → AgreeOn (MayFollow stakes p taken.kind) end source.floor u.words) → (pairs : List Bounds) → ArePairsFor (of_answer stakes p) answers source u pairs → pairs ≡ map (λ (taken : Taken). taken_pair stakes u.words p taken) answers
answers-exact source u stakes p [] told same [] are = refl
answers-exact source u stakes p [] told same (pair ∷ pairs) are = absurd are
answers-exact source u stakes p (taken ∷ answers) told same [] are = absurd are
answers-exact source u stakes p (taken ∷ answers) told same (pair ∷ pairs) are =
    ap (λ (b : Bounds). b ∷ pairs) (roll-exact source u stakes p taken.kind taken.factor pair told (same taken (inl refl)) are.0)
    ∙ ap (λ (bs : List Bounds). taken_pair stakes u.words p taken ∷ bs) (answers-exact source u stakes p answers told (λ t m. same t (inr m)) pairs are.1)

pub advice-exact : (source : Source) (u : Notes) (stakes : Terms) (p : Placement) (k : ℕ) (advice : CubeAdvice) → IsTrue u.told → ((end : End) → AgreeOn (MayFollowTurn stakes p k) end source.floor u.words) → IsCubeAdvice stakes p k source u advice → IsCubeAdviceOver stakes u.words p k advice
advice-exact source u stakes p k advice told same is = record {
  no_double = roll-exact source u stakes p k 1 advice.no_double told (λ end q j after. same end q j (inl after)) is.no_double;
  action = by_both (kind_at stakes k).double refl advice.action is.action;
} where
  over : List Taken → List Bounds → Type 0
  over answers pairs = pairs ≡ map (λ (taken : Taken). taken_pair stakes u.words p taken) answers

  by_both : (o : Option Double) → (kind_at stakes k).double ≡ o → (action : Option CubeAction) → IsAdviceOn o action (λ d a. IsActionBy (λ answers pairs. ArePairsFor (of_answer stakes p) answers source u pairs) advice.no_double d a) → IsAdviceOn o action (λ d a. IsActionBy over advice.no_double d a)
  by_both None none None h = tt
  by_both None none (Some action) h = absurd h
  by_both (Some double) some None h = absurd h
  by_both (Some double) some (Some action) h = record {
    taken = answers-exact source u stakes p double.answers.items told (λ taken m end q j after. same end q j (answer-follows stakes p k double some taken m q j after)) (taken_of action) h.taken;
    pass = h.pass;
    advised = h.advised;
  }

pub ranking-exact : (source : Source) (u : Notes) (stakes : Terms) (p : Placement) (k : ℕ) (roll : Dice) (ranking : Ranking) → IsTrue u.told → ((end : End) → AgreeOn (MayFollowRoll stakes p k roll) end source.floor u.words) → IsRanking stakes p k roll source u ranking → IsRankingOver stakes u.words p k roll ranking
ranking-exact source u stakes p k roll ranking told same is = record {
  some = is.some;
  ends = is.ends;
  distinct = is.distinct;
  first = is.first;
  pairs = rows-exact source u stakes p k roll ranking.rows.items told same is.ends is.pairs;
  in_order = is.in_order;
  bound = is.bound;
}

pub best-exact : (source : Source) (u : Notes) (stakes : Terms) (p : Placement) (k : ℕ) → IsTrue u.told → (choice : Choice) → ((end : End) → AgreeOn (MayFollowChoice stakes p k choice) end source.floor u.words) → (best : Best) → IsBest stakes p k choice source u best → IsBestOver stakes u.words p k choice best
best-exact source u stakes p k told (Played roll end) same best (ranking, ranked, first) = (ranking, ranking-exact source u stakes p k roll ranking told same ranked, first)
best-exact source u stakes p k told (Offered offer) same best (advice, advises, is) = (advice, advice-exact source u stakes p k advice told same advises, is)
best-exact source u stakes p k told (Answered answer) same best (advice, advises, is) = (advice, advice-exact source u stakes p k advice told same advises, is)
