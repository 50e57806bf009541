-- The best of some plays, one after the other.
use Rattle.std.proofs.Common.{◌≡◌, ◌<◌, ◌+◌, ◌++◌, ℕ, zero, suc, max, ℤ, List, [], ◌∷◌, length, map, take, get_or, ap, sym, ◌∙◌, arith}
use Rattle.std.proofs.lemmas.List.{take_more, map-append}
use Rattle.position_rank.specs.Placement.{Placement}
use Rattle.directed_fixed.specs.declared.bounds.End.TheVariants.{Lower, Upper}
use Rattle.cube_actions.specs.Money.{alone}
use Rattle.turn_rule.specs.Turn.{worth}
use Rattle.turn_rule.proofs.Greatest.{greatest-append}
use Rattle.race_table.specs.declared.race.Race.{Race}
use Rattle.race_table.specs.FreePlays.{against}
use Rattle.race_table.specs.Tables.{race_after_play, best_race, better, turns_in, race_bounds}
use Rattle.race_table.specs.TurnsLeft.{left_after, most}

-- a race by its parts
pub race-is : (a b x y : ℤ) (m n : ℕ) → a ≡ x → b ≡ y → m ≡ n → ◌≡◌ {A = Race} (record { pair = record { lower = a; upper = b }; turns = m }) (record { pair = record { lower = x; upper = y }; turns = n })
race-is a b x y m n h k l =
    let with_lower : ℤ → Race = λ z. record { pair = record { lower = z; upper = b }; turns = m } in
    let with_upper : ℤ → Race = λ z. record { pair = record { lower = x; upper = z }; turns = m } in
    let with_turns : ℕ → Race = λ t. record { pair = record { lower = x; upper = y }; turns = t } in
    ap with_lower h ∙ (ap with_upper k ∙ ap with_turns l)

most-append : (f : Placement → ℕ) (qs : List Placement) (r : Placement) → most f (qs ++ r ∷ []) ≡ max (most f qs) (f r)
most-append f [] r = omega arith
most-append f (q ∷ qs) r = omega (arith, most-append f qs r)

best-append : (races : List Race) (q : Placement) (qs : List Placement) (r : Placement) → better (best_race races (q ∷ qs)) (race_after_play races r) ≡ best_race races ((q ∷ qs) ++ r ∷ [])
best-append races q qs r = race-is _ _ _ _ _ _ (sym (greatest-append (worth Lower alone (race_bounds races)) q r qs)) (sym (greatest-append (worth Upper alone (race_bounds races)) q r qs)) (sym (most-append (left_after (turns_in races)) (q ∷ qs) r))

-- one play more
pub best-more : (races : List Race) (other : List ℕ) (ends : List (List ℕ)) (i : ℕ) (end : List ℕ) → 0 < i → i < length ends → end ≡ get_or ends i end → better (best_race races (map (against other) (take i ends))) (race_after_play races (against other end)) ≡ best_race races (map (against other) (take (i + 1) ends))
best-more races other [] i end low high is = absurd (omega arith)
best-more races other (first ∷ rest) zero end low high is = absurd (omega arith)
best-more races other (first ∷ rest) (suc i) end low high is =
    let next = take_more (first ∷ rest) (suc i) end high ∙ ap (λ (x : List ℕ). take (suc i) (first ∷ rest) ++ x ∷ []) (sym is) in
    let ends = ap (map (against other)) next ∙ map-append (against other) (take (suc i) (first ∷ rest)) (end ∷ []) in
    best-append races (against other first) (map (against other) (take i rest)) (against other end) ∙ ap (best_race races) (sym ends)
