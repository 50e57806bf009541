-- Of lines in order that are added one after the other, the first to each end stays.
use Rattle.std.proofs.Common.{◌≡◌, ◌≢◌, List, [], ◌∷◌, ◌++◌, map, get_or, ◌⊎◌, inl, inr, refl, ap, subst, sym, ◌∙◌, arith, append_assoc}
use Rattle.std.proofs.lemmas.List.{append-nil}
use Rattle.std.specs.Prelude.{◌↔◌}
use Rattle.std.specs.List.{All, AllPairs, Contains}
use Rattle.position_rank.specs.Placement.{Placement}
use Rattle.roll_table.specs.Rolls.{Dice}
use Rattle.move_rules.specs.Sequences.{IsLegal, IsLegalEnd}
use Rattle.move_rules.specs.Ends.{Line}
use Rattle.move_rules.specs.Listing.{Among, HasEnd, AddsNewEnds, lines_of}
use Rattle.move_rules.specs.Order.{PlayComesBefore, IsFirst, ends_of, plays_of}
use Rattle.move_rules.specs.declared.play.Entry.{Entry}
use Rattle.move_rules.specs.declared.play.Move.{Move}
use Rattle.move_rules.proofs.Members.{Among-left, Among-right, Among-cases, Among-map, map-cases, Contains-Among, Among-Contains}
use Rattle.move_rules.proofs.EarlierAndLater.{Pairs, Pairs-push, Pairs-map, Pairs-of_map, Pairs-before, Among-at, AllPairs-of}
use Rattle.move_rules.proofs.FullLines.{Before}
use Rattle.move_rules.proofs.RollLines.{IsListing}

before-one_way : (one other : List Move) → PlayComesBefore one other → PlayComesBefore other one → ⊥
before-one_way [] other h k = absurd h
before-one_way (m ∷ one) [] h k = absurd h
before-one_way (m ∷ one) (n ∷ other) (inl a) (inl b) = omega (arith, a, b)
before-one_way (m ∷ one) (n ∷ other) (inl a) (inr (inl b)) = omega (arith, a, b.0)
before-one_way (m ∷ one) (n ∷ other) (inl a) (inr (inr b)) = omega (arith, a, ap (λ (x : Move). x.die) b.0)
before-one_way (m ∷ one) (n ∷ other) (inr (inl a)) (inl b) = omega (arith, a.0, b)
before-one_way (m ∷ one) (n ∷ other) (inr (inl a)) (inr (inl b)) = omega (arith, a.1, b.1)
before-one_way (m ∷ one) (n ∷ other) (inr (inl a)) (inr (inr b)) = omega (arith, a.1, ap (λ (x : Move). x.from) b.0)
before-one_way (m ∷ one) (n ∷ other) (inr (inr a)) (inl b) = omega (arith, b, ap (λ (x : Move). x.die) a.0)
before-one_way (m ∷ one) (n ∷ other) (inr (inr a)) (inr (inl b)) = omega (arith, b.1, ap (λ (x : Move). x.from) a.0)
before-one_way (m ∷ one) (n ∷ other) (inr (inr a)) (inr (inr b)) = before-one_way one other a.1 b.1

-- they lead to different ends
abbrev pub Apart : Line → Line → Type 0
Apart line other = line.1 ≢ other.1

-- these were found of those
pub record Found (lines found : List Line) : Type 0 where
  pub within : (line : Line) → Among line found → Among line lines
  pub reached : (line : Line) → Among line lines → HasEnd found line.1
  pub apart : Pairs Apart found
  pub ordered : Pairs Before found
  pub first : (line other : Line) → Among line found → Among other lines → other.1 ≡ line.1 → Before other line → ⊥

reaches : (found : List Line) (line : Line) → Among line found → HasEnd found line.1
reaches found line h = Among-map (λ (l : Line). l.1) line found h

reached-more : (found : List Line) (line : Line) (end : Placement) → HasEnd found end → HasEnd (found ++ line ∷ []) end
reached-more found line end h =
    let r = map-cases (λ (l : Line). l.1) end found h in
    subst (λ (q : Placement). HasEnd (found ++ line ∷ []) q) (sym r.2) (reaches (found ++ line ∷ []) r.0 (Among-left r.0 found (line ∷ []) r.1))

-- the last of them
last-cases : (x : Line) (lines : List Line) (line : Line) → Among x (lines ++ line ∷ []) → Among x lines ⊎ (x ≡ line)
last-cases x lines line h = elim (Among-cases x lines (line ∷ []) h) [ inl a ↦ inl a | inr b ↦ (elim b [ inl e ↦ inr e | inr k ↦ absurd k ]) ]

found-old : (done found : List Line) (line : Line) (more : List Line) → Pairs Before (done ++ line ∷ more) → Found done found → HasEnd found line.1 → Found (done ++ line ∷ []) found
found-old done found line more ordered was old = record {
  within = λ l h. Among-left l done (line ∷ []) (was.within l h);
  reached = λ l h. elim (last-cases l done line h) [ inl a ↦ was.reached l a | inr e ↦ subst (λ (x : Line). HasEnd found x.1) (sym e) old ];
  apart = was.apart;
  ordered = was.ordered;
  first = λ l other h i e before. elim (last-cases other done line i) [
    | inl a ↦ was.first l other h a e before
    | inr same ↦ before-one_way l.0 line.0 (Pairs-before Before done line more l ordered (was.within l h)) (subst (λ (x : Line). Before x l) same before)
  ];
}

found-new : (done found : List Line) (line : Line) (more : List Line) → Pairs Before (done ++ line ∷ more) → Found done found → (HasEnd found line.1 → ⊥) → Found (done ++ line ∷ []) (found ++ line ∷ [])
found-new done found line more ordered was new = record {
  within = λ l h. elim (last-cases l found line h) [ inl a ↦ Among-left l done (line ∷ []) (was.within l a) | inr e ↦ Among-right l done (line ∷ []) (inl e) ];
  reached = λ l h. elim (last-cases l done line h) [
    | inl a ↦ reached-more found line l.1 (was.reached l a)
    | inr e ↦ reaches (found ++ line ∷ []) l (Among-right l found (line ∷ []) (inl e))
  ];
  apart = Pairs-push Apart found line was.apart (λ l h e. new (subst (λ (q : Placement). HasEnd found q) e (reaches found l h)));
  ordered = Pairs-push Before found line was.ordered (λ l h. Pairs-before Before done line more l ordered (was.within l h));
  first = λ l other h i e before. elim (last-cases l found line h) [
    | inl a ↦ (elim (last-cases other done line i) [
      | inl b ↦ was.first l other a b e before
      | inr same ↦ before-one_way l.0 line.0 (Pairs-before Before done line more l ordered (was.within l a)) (subst (λ (x : Line). Before x l) same before)
    ])
    | inr is_line ↦ (elim (last-cases other done line i) [
      | inl b ↦ new (subst (λ (q : Placement). HasEnd found q) (e ∙ ap (λ (x : Line). x.1) is_line) (was.reached other b))
      | inr same ↦ (
          let twice : Before line line = subst (λ (x : Line). Before x line) same (subst (λ (x : Line). Before other x) is_line before) in
          before-one_way line.0 line.0 twice twice)
    ])
  ];
}

found-all : (lines done found after : List Line) → Pairs Before (done ++ lines) → Found done found → AddsNewEnds found lines after → Found (done ++ lines) after
found-all [] done found after ordered was e = subst (λ (x : List Line). Found (done ++ []) x) (sym e) (subst (λ (x : List Line). Found x found) (sym (append-nil done)) was)
found-all (line ∷ lines) done found after ordered was (inl (old, adds)) =
    let again : (done ++ line ∷ []) ++ lines ≡ done ++ line ∷ lines = append_assoc done (line ∷ []) lines in
    subst (λ (x : List Line). Found x after) again
    (found-all lines (done ++ line ∷ []) found after (subst (λ (x : List Line). Pairs Before x) (sym again) ordered) (found-old done found line lines ordered was old) adds)
found-all (line ∷ lines) done found after ordered was (inr (new, adds)) =
    let again : (done ++ line ∷ []) ++ lines ≡ done ++ line ∷ lines = append_assoc done (line ∷ []) lines in
    subst (λ (x : List Line). Found x after) again
    (found-all lines (done ++ line ∷ []) (found ++ line ∷ []) after (subst (λ (x : List Line). Pairs Before x) (sym again) ordered) (found-new done found line lines ordered was new) adds)

nothing-found : Found [] []
nothing-found = record { within = λ l h. h; reached = λ l h. absurd h; apart = tt; ordered = tt; first = λ l other h i e before. absurd h }

-- ---- the list of plays

-- a list of plays of a roll: each legal end once, with the first sequence that leaves it, in their order
pub record IsPlays (p : Placement) (roll : Dice) (entries : List Entry) : Type 0 where
  pub ends : (q : Placement) → Contains (ends_of entries) q ↔ IsLegalEnd p roll q
  pub distinct : AllPairs (λ one another. one ≢ another) (ends_of entries)
  pub first : All (λ entry. IsFirst p roll entry.play.items entry.end) entries
  pub in_order : AllPairs PlayComesBefore (plays_of entries)

abbrev line_of : Entry → Line
line_of entry = (entry.play.items, entry.end)

ends-are : (entries : List Entry) → map (λ (line : Line). line.1) (lines_of entries) ≡ ends_of entries
ends-are [] = refl
ends-are (entry ∷ entries) = ap (λ (x : List Placement). entry.end ∷ x) (ends-are entries)

pub plays-of_adds : (p : Placement) (roll : Dice) (lines : List Line) (entries : List Entry) → IsListing p roll lines → AddsNewEnds [] lines (lines_of entries) → IsPlays p roll entries
plays-of_adds p roll lines entries listing adds =
    let found : Found lines (lines_of entries) = found-all lines [] [] (lines_of entries) listing.ordered nothing-found adds in
    record {
      ends = λ q. (
        λ h. (
            let there : HasEnd (lines_of entries) q = subst (λ (x : List Placement). Among q x) (sym (ends-are entries)) (Contains-Among q (ends_of entries) h) in
            let r = map-cases (λ (line : Line). line.1) q (lines_of entries) there in
            (r.0.0, subst (λ (x : Placement). IsLegal p roll r.0.0 x) (sym r.2) (listing.sound r.0 (found.within r.0 r.1)))),
        λ h. Among-Contains q (ends_of entries) (subst (λ (x : List Placement). Among q x) (ends-are entries) (found.reached (h.0, q) (listing.complete h.0 q h.1))),
      );
      distinct = AllPairs-of _ (ends_of entries) (Pairs-map (λ (one another : Placement). one ≢ another) (λ (entry : Entry). entry.end) entries (Pairs-of_map Apart line_of entries found.apart));
      first = λ k d h. (
          let line : Line = line_of (get_or entries k d) in
          let there : Among line (lines_of entries) = Among-map line_of (get_or entries k d) entries (Among-at entries k d h) in
          record {
            legal = listing.sound line (found.within line there);
            first = λ others o before. found.first line (others, line.1) there (listing.complete others line.1 o) refl before;
          });
      in_order = AllPairs-of PlayComesBefore (plays_of entries) (Pairs-map PlayComesBefore (λ (entry : Entry). entry.play.items) entries (Pairs-of_map Before line_of entries found.ordered));
    }
