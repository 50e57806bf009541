-- The least of a pass and of the first few answers to a double, and turns from sums.
use Rattle.std.proofs.Common.{◌≡◌, ◌<◌, ◌≤◌, ◌+◌, ◌∙◌, ◌++◌, ℕ, ℤ, List, [], ◌∷◌, Option, Some, None, length, map, take, get_or, IfSome, ◌⊎◌, inl, inr, refl, ap, sym}
use Rattle.std.specs.Int.{int_max, int_min}
use Rattle.std.proofs.lemmas.List.{map-append, take_all, take_more}
use Rattle.position_rank.specs.Placement.{Placement}
use Rattle.directed_fixed.specs.declared.bounds.End.{End}
use Rattle.directed_fixed.specs.declared.bounds.End.TheVariants.{Lower, Upper}
use Rattle.directed_fixed.specs.Bounds.{Bounds, at}
use Rattle.cube_actions.specs.declared.kind.Double.{Double}
use Rattle.cube_actions.specs.declared.kind.Taken.{Taken}
use Rattle.cube_actions.specs.Stakes.{Terms, kind_at, no_kind, IsRightAnswer, IsRightDouble, IsValid}
use Rattle.turn_rule.specs.Turn.{Words, least}
use Rattle.move_rules.specs.Listing.{Among}
use Rattle.turn_rule.proofs.Within.{at_member}
use Rattle.best_reply.specs.Policies.{Policy}
use Rattle.best_reply.specs.ReplyPairs.{or_double_by, roll_value_by, turn_by}
use Rattle.best_reply.specs.Tables.{doubled_from, follow_sum, mean_pair, or_double_from, turn_from}

abbrev value_of : End → (ℕ → Bounds) → Taken → ℤ
value_of end sums taken = at end (mean_pair taken.factor (sums taken.kind))

-- of the pass and the first so many answers
abbrev pub least_to : End → (ℕ → Bounds) → Double → ℕ → ℤ
least_to end sums double n = least (at end double.pass) (map (value_of end sums) (take n double.answers.items))

least-append : (v w : ℤ) (vs : List ℤ) → least v (vs ++ w ∷ []) ≡ int_min (least v vs) w
least-append v w [] = refl
least-append v w (x ∷ vs) = least-append (int_min v x) w vs

-- one answer more
pub least-more : (end : End) (sums : ℕ → Bounds) (double : Double) (n : ℕ) (taken : Taken) → n < length double.answers.items → taken ≡ get_or double.answers.items n taken → least_to end sums double (n + 1) ≡ int_min (least_to end sums double n) (value_of end sums taken)
least-more end sums double n taken inside is =
    let answers = double.answers.items in
    ap (λ (xs : List Taken). least (at end double.pass) (map (value_of end sums) xs)) (take_more answers n taken inside ∙ ap (λ (t : Taken). take n answers ++ t ∷ []) (sym is))
    ∙ (ap (least (at end double.pass)) (map-append (value_of end sums) (take n answers) (taken ∷ []))
    ∙ least-append (at end double.pass) (value_of end sums taken) (map (value_of end sums) (take n answers)))

pub least-all : (end : End) (sums : ℕ → Bounds) (double : Double) (n : ℕ) → length double.answers.items ≤ n → least_to end sums double n ≡ doubled_from end sums double
least-all end sums double n past = ap (λ (xs : List Taken). least (at end double.pass) (map (value_of end sums) xs)) (take_all n double.answers.items past)

-- ---- turns from sums

least-same : (f g : Taken → ℤ) (v : ℤ) (xs : List Taken) → ((taken : Taken) → Among taken xs → f taken ≡ g taken) → least v (map f xs) ≡ least v (map g xs)
least-same f g v [] h = refl
least-same f g v (x ∷ xs) h = ap (λ (z : ℤ). least (int_min v z) (map f xs)) (h x (inl refl)) ∙ least-same f g (int_min v (g x)) xs (λ y m. h y (inr m))

module _ (stakes : Terms) (valid : IsValid stakes) (sums others : ℕ → Bounds) (same : (k : ℕ) → k < length stakes.kinds → sums k ≡ others k) where
  double-same : (end : End) (double : Option Double) → IfSome double (IsRightDouble stakes) → (plain other : ℤ) → plain ≡ other → or_double_from end sums plain double ≡ or_double_from end others other double
  double-same end None right plain other is = is
  double-same end (Some double) right plain other is =
      ap (λ (z : ℤ). int_max z (doubled_from end sums double)) is
      ∙ ap (λ (z : ℤ). int_max other z) (least-same (value_of end sums) (value_of end others) (at end double.pass) double.answers.items
      (λ taken m. ap (λ (b : Bounds). at end (mean_pair taken.factor b)) (same taken.kind (at_member (IsRightAnswer stakes) double.answers.items right.answers taken m).kind)))

  -- where the sums of all kinds are the same, so are the turns
  pub from-same : (k : ℕ) → k < length stakes.kinds → turn_from stakes sums k ≡ turn_from stakes others k
  from-same k inside =
      let right = (valid.kinds k no_kind inside).double in
      let double = (kind_at stakes k).double in
      let lower = double-same Lower double right (mean_pair 1 (sums k)).lower (mean_pair 1 (others k)).lower (ap (λ (b : Bounds). (mean_pair 1 b).lower) (same k inside)) in
      let upper = double-same Upper double right (mean_pair 1 (sums k)).upper (mean_pair 1 (others k)).upper (ap (λ (b : Bounds). (mean_pair 1 b).upper) (same k inside)) in
      ap (λ (z : ℤ). record { lower = z; upper = or_double_from Upper sums (mean_pair 1 (sums k)).upper double }) lower
      ∙ ap (λ (z : ℤ). record { lower = or_double_from Lower others (mean_pair 1 (others k)).lower double; upper = z }) upper

-- a turn of the follower from the sums of the policy's plays
module _ (stakes : Terms) (u : Words) (p : Placement) (policy : Policy) where
  followed-double : (end : End) → ((factor k : ℕ) → at end (mean_pair factor (follow_sum policy stakes u p k)) ≡ roll_value_by policy end stakes u p k factor) → (o : Option Double) (plain : ℤ) → or_double_from end (follow_sum policy stakes u p) plain o ≡ or_double_by policy end stakes u p plain o
  followed-double end means None plain = refl
  followed-double end means (Some double) plain =
      ap (λ (z : ℤ). int_max plain z) (least-same (value_of end (follow_sum policy stakes u p)) (λ taken. roll_value_by policy end stakes u p taken.kind taken.factor) (at end double.pass) double.answers.items (λ taken m. means taken.factor taken.kind))

  pub turn-followed : (k : ℕ) → turn_from stakes (follow_sum policy stakes u p) k ≡ record { lower = turn_by policy stakes u Lower p k; upper = turn_by policy stakes u Upper p k }
  unfolding turn_by
  turn-followed k =
      let double = (kind_at stakes k).double in
      ap (λ (z : ℤ). record { lower = z; upper = or_double_from Upper (follow_sum policy stakes u p) (roll_value_by policy Upper stakes u p k 1) double }) (followed-double Lower (λ factor k. refl) double (roll_value_by policy Lower stakes u p k 1))
      ∙ ap (λ (z : ℤ). record { lower = or_double_by policy Lower stakes u p (roll_value_by policy Lower stakes u p k 1) double; upper = z }) (followed-double Upper (λ factor k. refl) double (roll_value_by policy Upper stakes u p k 1))
