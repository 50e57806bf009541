-- What the plays of a side leave that nothing stands in the way of.
use Rattle.std.proofs.Common.{◌≡◌, ◌≤◌, ◌↔◌, ℕ, List, map, get_or, inl, inr, ap, sym, subst, ◌∙◌, arith}
use Rattle.std.specs.List.{Contains}
use Rattle.std.proofs.lemmas.Bool.{cases_lt}
use Rattle.position_rank.specs.Placement.{Placement}
use Rattle.roll_table.specs.Rolls.{Dice, IsRoll}
use Rattle.move_rules.specs.declared.play.Entry.{Entry}
use Rattle.move_rules.specs.Listing.{Among}
use Rattle.move_rules.specs.Order.{ends_of}
use Rattle.move_rules.specs.Sequences.{IsLegalEnd}
use Rattle.move_rules.proofs.Members.{Among-Contains, Contains-Among, Among-map, map-cases}
use Rattle.race_table.specs.FreePlays.{against, AreFreeEnds}
use Rattle.race_table.specs.Races.{HavePassed, IsRace}
use Rattle.race_table.proofs.Counts.{highest-held}
use Rattle.race_table.proofs.Lines.{legal-as_well, legal-came}

-- the mover's checkers after a play
abbrev pub mover_after : Entry → List ℕ
mover_after entry = entry.end.mover

-- where the other side has all its checkers off, it is passed
passed-off : (mover other off : List ℕ) → IsRace (against other mover) → ((place : ℕ) → 1 ≤ place → get_or off place 0 ≡ 0) → HavePassed (against off mover)
passed-off mover other off race none m o here there = elim (cases_lt 0 o) [
  | inl some ↦ absurd (omega (arith, none o some, there))
  | inr zero_there ↦ (let theirs = highest-held other race.live.other in omega (arith, race.passed m theirs.0 here theirs.2.held, theirs.1, zero_there))
]

pub free-ends : (mover off : List ℕ) (roll : Dice) (entries : List Entry) → IsRoll roll → ((place : ℕ) → 1 ≤ place → get_or off place 0 ≡ 0) → ((q : Placement) → Contains (ends_of entries) q ↔ IsLegalEnd (against off mover) roll q) → AreFreeEnds mover roll (map mover_after entries)
free-ends mover off roll entries right none ends other race q = (to, of) where
  passed : HavePassed (against off mover)
  passed = passed-off mover other off race none

  to : Contains (map (against other) (map mover_after entries)) q → IsLegalEnd (against other mover) roll q
  to h =
      let a = map-cases (against other) q (map mover_after entries) (Contains-Among q _ h) in
      let b = map-cases mover_after a.0 entries a.1 in
      let legal = (ends b.0.end).0 (Among-Contains b.0.end _ (Among-map (λ (entry : Entry). entry.end) b.0 entries b.1)) in
      let is : q ≡ against other b.0.end.mover = a.2 ∙ ap (against other) b.2 in
      subst (IsLegalEnd (against other mover) roll) (sym is) (legal-as_well roll right mover off other b.0.end race.position.mover.places passed race.passed legal)

  of : IsLegalEnd (against other mover) roll q → Contains (map (against other) (map mover_after entries)) q
  of legal =
      let came = legal-came roll right (against other mover) race q legal in
      let there = legal-as_well roll right mover other off q race.position.mover.places race.passed passed legal in
      let listed = (ends (against off q.mover)).1 there in
      let a = map-cases (λ (entry : Entry). entry.end) (against off q.mover) entries (Contains-Among _ _ listed) in
      let mover_is : mover_after a.0 ≡ q.mover = ap (λ (p : Placement). p.mover) (sym a.2) in
      let is : against other (mover_after a.0) ≡ q = ap (against other) mover_is ∙ ap (λ (o : List ℕ). against o q.mover) (sym came.other) in
      Among-Contains q _ (subst (λ (x : Placement). Among x (map (against other) (map mover_after entries))) is (Among-map (against other) (mover_after a.0) _ (Among-map mover_after a.0 entries a.1)))
