-- What is looked up in a file is of its right pages, and so of all words that have the pairs of these.
use Rattle.std.proofs.Common.{◌≡◌, ◌<◌, ℕ, List, [], ◌∷◌, map, Option, Some, None, inl, inr, refl, sym, ap, subst, neg_ℤ}
use Rattle.position_rank.specs.Placement.{Placement, swap}
use Rattle.roll_table.specs.Rolls.{Dice, IsRoll}
use Rattle.move_rules.specs.Ends.{legal_ends}
use Rattle.move_rules.specs.Listing.{Among}
use Rattle.move_rules.specs.Sequences.{IsLegalEnd}
use Rattle.move_rules.proofs.EndsExact.{legal_ends-complete}
use Rattle.move_rules.proofs.Members.{Among-Contains, Among-map, Contains-Among, map-cases}
use Rattle.move_rules.specs.declared.payoff.Won.{Won}
use Rattle.move_rules.specs.Payoff.{points}
use Rattle.directed_fixed.specs.declared.bounds.End.{End}
use Rattle.directed_fixed.specs.Bounds.{Bounds, at, other}
use Rattle.cube_actions.specs.declared.kind.Double.{Double}
use Rattle.cube_actions.specs.declared.kind.Kind.{Kind}
use Rattle.cube_actions.specs.declared.kind.Taken.{Taken}
use Rattle.cube_actions.specs.Stakes.{kind_at}
use Rattle.turn_rule.specs.Games.{IsGame, kinds_of}
use Rattle.turn_rule.specs.Turn.{Words, win, if_won, worth}
use Rattle.turn_rule.specs.Looks.{all_told, IsLeft, IsPairFor, IsRollPair, MayFollow, MayFollowTurn, Sought, States, of_roll, MayFollowRoll}
use Rattle.turn_rule.specs.Following.{AgreeOn}
use Rattle.turn_rule.specs.Found.{of_play}
use Rattle.turn_rule.specs.States.{IsState}
use Rattle.turn_rule.proofs.Agreement.{roll-agree}
use Rattle.turn_rule.proofs.Within.{answer-kind, at_member, follow-state, follow-turn-state, next_state}
use Rattle.play_analyser.specs.declared.advice.CubeAction.{CubeAction}
use Rattle.play_analyser.specs.declared.advice.CubeAdvice.{CubeAdvice}
use Rattle.play_analyser.specs.declared.ranking.PlayRow.{PlayRow}
use Rattle.play_analyser.specs.declared.ranking.Ranking.{Ranking}
use Rattle.play_analyser.specs.Advice.{IsActionBy, IsAdviceOn, IsCubeAdvice, taken_of}
use Rattle.play_analyser.specs.Rankings.{IsRanking}
use Rattle.play_analyser.specs.Sought.{ArePairsFor, of_answer}
use Rattle.base_head.specs.Heads.{FileHead, stakes_of}
use Rattle.base_head.specs.Headers.{IsHeader}
use Rattle.database_file.specs.Faults.{header_of_file}
use Rattle.database_file.specs.Paged.{flaw_at}
use Rattle.database_file.specs.Texts.{game_in}
use Rattle.run_endings.specs.Pages.{AreOnRightPages, HavePairsOf}
use Rattle.run_endings.proofs.Pages.{all-of, flawless, noted_in, pair-over, source_in, told-agrees, told_in}

worth-same : (end : End) (kind : Kind) (u v : Words) (q : Placement) → AgreeOn (IsLeft kind.next q) (other end) u v → worth end kind u q ≡ worth end kind v q
worth-same end kind u v q same = by_points (points q) refl where
  by_points : (o : Option Won) → points q ≡ o → if_won o (λ won. at end (win kind won)) (neg_ℤ (u (other end) (swap q) kind.next)) ≡ if_won o (λ won. at end (win kind won)) (neg_ℤ (v (other end) (swap q) kind.next))
  by_points None on = ap neg_ℤ (same (swap q) kind.next (record { goes_on = on; sides = refl; kind = refl }))
  by_points (Some won) over = refl

module _ (bytes : List ℕ) (head : FileHead) (p : Placement) (k : ℕ) (valid : IsHeader (header_of_file bytes)) (game : IsGame (game_in head)) (checkers : (header_of_file bytes).checkers ≡ head.checkers) (kinds : (header_of_file bytes).kinds ≡ kinds_of (game_in head)) (state : IsState (game_in head) p k) where
  agrees : (u : Words) → HavePairsOf bytes u → (states : States) → ((q : Placement) (j : ℕ) → states q j → IsState (game_in head) q j) → AreOnRightPages bytes states → (end : End) → AgreeOn states end (told_in bytes) u
  agrees u have states are pages end q j is = told-agrees bytes head valid checkers kinds u have end q j (are q j is) (pages q j is)

  -- what was looked up rests on right pages
  pair-pages : (sought : Sought) (pair : Bounds) → IsPairFor sought (source_in bytes) (noted_in bytes) pair → AreOnRightPages bytes sought.states
  pair-pages sought pair is q j among = flawless (flaw_at (header_of_file bytes) (Some bytes) q) (is.right refl q j among)

  -- ---- the plays of a roll

  module _ (roll : Dice) (right : IsRoll roll) where
    left-state : (end : Placement) → IsLegalEnd p roll end → (q : Placement) (j : ℕ) → IsLeft (kind_at (stakes_of head) k).next end q j → IsState (game_in head) q j
    left-state end legal q j left =
        let there = next_state (game_in head) game.stakes p k state roll end right (Contains-Among end (legal_ends p roll) (legal_ends-complete p roll end legal)) left.goes_on in
        subst (λ (n : ℕ). IsState (game_in head) q n) (sym left.kind) (subst (λ (r : Placement). IsState (game_in head) r (kind_at (stakes_of head) k).next) (sym left.sides) there)

    pub roll-state : (q : Placement) (j : ℕ) → MayFollowRoll (stakes_of head) p k roll q j → IsState (game_in head) q j
    roll-state q j may = left-state may.end may.legal q j may.left

    play-over : (u : Words) → HavePairsOf bytes u → (end : Placement) (pair : Bounds) → IsLegalEnd p roll end
        → IsPairFor (of_play (kind_at (stakes_of head) k) end) (source_in bytes) (noted_in bytes) pair → IsPairFor (of_play (kind_at (stakes_of head) k) end) (source_in bytes) (all_told u) pair
    play-over u have end pair legal is =
        let kind = kind_at (stakes_of head) k in
        let pages = pair-pages (of_play kind end) pair is in
        pair-over (of_play kind end) (source_in bytes) (told_in bytes) u pair
        (λ e. worth-same e kind (told_in bytes) u end (agrees u have (IsLeft kind.next end) (λ q j left. left-state end legal q j left) pages (other e))) is

    abbrev end_of : PlayRow → Placement
    end_of row = row.entry.end

    module _ (ranking : Ranking) (is : IsRanking (stakes_of head) p k roll (source_in bytes) (noted_in bytes) ranking) where
      pub ranking-pages : AreOnRightPages bytes (MayFollowRoll (stakes_of head) p k roll)
      ranking-pages q j may =
          let kind = kind_at (stakes_of head) k in
          let row = map-cases end_of may.end ranking.rows.items (Contains-Among may.end (map end_of ranking.rows.items) ((is.ends may.end).1 may.legal)) in
          let pair = at_member (λ (r : PlayRow). IsPairFor (of_play kind r.entry.end) (source_in bytes) (noted_in bytes) r.pair) ranking.rows.items is.pairs row.0 row.1 in
          pair-pages (of_play kind row.0.entry.end) row.0.pair pair q j (subst (λ (e : Placement). IsLeft kind.next e q j) row.2 may.left)

      pub ranking-over : (u : Words) → HavePairsOf bytes u → IsRanking (stakes_of head) p k roll (source_in bytes) (all_told u) ranking
      ranking-over u have =
          let kind = kind_at (stakes_of head) k in
          record {
            some = is.some;
            ends = is.ends;
            distinct = is.distinct;
            first = is.first;
            pairs = all-of (λ (r : PlayRow). IsPairFor (of_play kind r.entry.end) (source_in bytes) (all_told u) r.pair) ranking.rows.items (λ row m.
                play-over u have row.entry.end row.pair ((is.ends row.entry.end).0 (Among-Contains row.entry.end (map end_of ranking.rows.items) (Among-map end_of row ranking.rows.items m)))
                (at_member (λ (r : PlayRow). IsPairFor (of_play kind r.entry.end) (source_in bytes) (noted_in bytes) r.pair) ranking.rows.items is.pairs row m));
            in_order = is.in_order;
            bound = is.bound;
          }

      pub ranking-agrees : (u : Words) → HavePairsOf bytes u → (end : End) → AgreeOn (MayFollowRoll (stakes_of head) p k roll) end (told_in bytes) u
      ranking-agrees u have = agrees u have (MayFollowRoll (stakes_of head) p k roll) roll-state ranking-pages

  -- ---- the cube

  roll-over : (u : Words) → HavePairsOf bytes u → (j factor : ℕ) (pair : Bounds) → j < kinds_of (game_in head)
      → IsRollPair (stakes_of head) p j factor (source_in bytes) (noted_in bytes) pair → IsRollPair (stakes_of head) p j factor (source_in bytes) (all_told u) pair
  roll-over u have j factor pair inside is =
      let stakes = stakes_of head in
      let pages = pair-pages (of_roll stakes p j factor) pair is in
      let there : IsState (game_in head) p j = record { position = state.position; many = state.many; live = state.live; kind = inside } in
      pair-over (of_roll stakes p j factor) (source_in bytes) (told_in bytes) u pair
      (λ e. roll-agree stakes (told_in bytes) u e p j factor (agrees u have (MayFollow stakes p j) (follow-state (game_in head) game.stakes p j there) pages (other e))) is

  answers-over : (u : Words) → HavePairsOf bytes u → (answers : List Taken) → ((taken : Taken) → Among taken answers → taken.kind < kinds_of (game_in head)) → (pairs : List Bounds)
      → ArePairsFor (of_answer (stakes_of head) p) answers (source_in bytes) (noted_in bytes) pairs → ArePairsFor (of_answer (stakes_of head) p) answers (source_in bytes) (all_told u) pairs
  answers-over u have [] inside [] are = tt
  answers-over u have [] inside (pair ∷ pairs) are = absurd are
  answers-over u have (taken ∷ answers) inside [] are = absurd are
  answers-over u have (taken ∷ answers) inside (pair ∷ pairs) are =
      (roll-over u have taken.kind taken.factor pair (inside taken (inl refl)) are.0, answers-over u have answers (λ t m. inside t (inr m)) pairs are.1)

  answers-pages : (answers : List Taken) (pairs : List Bounds) → ArePairsFor (of_answer (stakes_of head) p) answers (source_in bytes) (noted_in bytes) pairs
      → (taken : Taken) → Among taken answers → AreOnRightPages bytes (MayFollow (stakes_of head) p taken.kind)
  answers-pages [] pairs are taken m = absurd m
  answers-pages (first ∷ answers) [] are taken m = absurd are
  answers-pages (first ∷ answers) (pair ∷ pairs) are taken (inl e) = λ q j may.
      pair-pages (of_roll (stakes_of head) p first.kind first.factor) pair are.0 q j (subst (λ (t : Taken). MayFollow (stakes_of head) p t.kind q j) e may)
  answers-pages (first ∷ answers) (pair ∷ pairs) are taken (inr m) = answers-pages answers pairs are.1 taken m

  module _ (advice : CubeAdvice) (is : IsCubeAdvice (stakes_of head) p k (source_in bytes) (noted_in bytes) advice) where
    abbrev Taken_over : Words → List Taken → List Bounds → Type 0
    Taken_over u answers pairs = ArePairsFor (of_answer (stakes_of head) p) answers (source_in bytes) (all_told u) pairs

    pub advice-pages : AreOnRightPages bytes (MayFollowTurn (stakes_of head) p k)
    advice-pages q j (inl may) = pair-pages (of_roll (stakes_of head) p k 1) advice.no_double is.no_double q j may
    advice-pages q j (inr may) =
        by_action advice.action (subst (λ (o : Option Double). IsAdviceOn o advice.action (λ d a. IsActionBy (Taken_over (told_in bytes)) advice.no_double d a)) may.right is.action) where
          by_action : (action : Option CubeAction) → IsAdviceOn (Some may.double) action (λ d a. IsActionBy (Taken_over (told_in bytes)) advice.no_double d a) → flaw_at (header_of_file bytes) (Some bytes) q ≡ None
          by_action None h = absurd h
          by_action (Some action) h =
              answers-pages may.double.answers.items (taken_of action) h.taken may.taken (Contains-Among may.taken may.double.answers.items may.answer) q j may.after

    pub advice-over : (u : Words) → HavePairsOf bytes u → IsCubeAdvice (stakes_of head) p k (source_in bytes) (all_told u) advice
    advice-over u have = record {
      no_double = roll-over u have k 1 advice.no_double state.kind is.no_double;
      action = by_both (kind_at (stakes_of head) k).double refl advice.action is.action;
    } where
      by_both : (o : Option Double) → (kind_at (stakes_of head) k).double ≡ o → (action : Option CubeAction) → IsAdviceOn o action (λ d a. IsActionBy (Taken_over (told_in bytes)) advice.no_double d a) → IsAdviceOn o action (λ d a. IsActionBy (Taken_over u) advice.no_double d a)
      by_both None none None h = tt
      by_both None none (Some action) h = absurd h
      by_both (Some double) some None h = absurd h
      by_both (Some double) some (Some action) h = record {
        taken = answers-over u have double.answers.items (λ taken m. answer-kind (game_in head) game.stakes k state.kind double some taken (Among-Contains taken double.answers.items m)) (taken_of action) h.taken;
        pass = h.pass;
        advised = h.advised;
      }

    pub advice-agrees : (u : Words) → HavePairsOf bytes u → (end : End) → AgreeOn (MayFollowTurn (stakes_of head) p k) end (told_in bytes) u
    advice-agrees u have = agrees u have (MayFollowTurn (stakes_of head) p k) (follow-turn-state (game_in head) game.stakes p k state) advice-pages
