-- The lines of a record that is printed are plain, so its text is read as itself.
use Rattle.std.proofs.Common.{◌≡◌, ◌∙◌, ◌<◌, ◌≤◌, ◌+◌, ◌^◌, ◌%◌, ℕ, zero, suc, Bool, true, false, cond, ◌&&◌, ◌||◌, eqb, ltb, List, [], ◌∷◌, ◌++◌, length, map, codes, decimal, Some, None, All, append_assoc, refl, sym, ap, subst, inl, inr, arith}
use Rattle.std.specs.Fmt.{digits}
use Rattle.std.specs.List.{count_by, join_with_byte, list_all, range_with_len}
use Rattle.std.proofs.lemmas.Bool.{cases_lt}
use Rattle.std.proofs.lemmas.Bool.Decides.{nat_tests}
use Rattle.std.proofs.lemmas.Fmt.{decimal_by_steps, decimal_nonempty}
use Rattle.std.proofs.lemmas.List.{append-nil, length-map}
use Rattle.std.proofs.lemmas.List.Folds.{flat_map-map}
use Rattle.std.proofs.lemmas.List.Sums.{sum_by-append}
use Rattle.position_text.specs.Text.{place_text}
use Rattle.roll_table.specs.Rolls.{Dice}
use Rattle.roll_table.specs.Text.{roll_text}
use Rattle.play_text.specs.Notation.{mark, step_text}
use Rattle.move_rules.specs.declared.written.Step.{Step}
use Rattle.cube_actions.specs.declared.name.MoneyRule.{MoneyRule}
use Rattle.cube_actions.specs.declared.name.MoneyRule.TheVariants.{Cubeless}
use Rattle.cube_text.specs.Texts.{rule_text}
use Rattle.game_record.specs.Lines.{AreRecordStakes, FitsStage, Follow, IsRecord, UpTo, record_lines}
use Rattle.game_record.specs.Turns.{first_stage, player_text, stage_after}
use Rattle.record_text.specs.Texts.{IsRecordText, deed_text, is_line_end, is_too_long, line_text, stakes_word, steps_text}
use Rattle.game_record.specs.Replay.{IsReplay}
use Rattle.game_record.specs.declared.decision.Decision.{Decision}
use Rattle.game_record.specs.declared.line.Line.{Line}
use Rattle.game_record.specs.declared.line.Line.TheVariants.{Title, Checkers, Stakes, Game as GameLine, Acted, Ended, Stopped, Closed}
use Rattle.game_record.specs.declared.player.Player.{Player}
use Rattle.game_record.specs.declared.player.Player.TheVariants.{A, B}
use Rattle.game_record.specs.declared.record.Record.{Record as RecordRead}
use Rattle.game_record.specs.declared.record.RecordStakes.{RecordStakes}
use Rattle.game_record.specs.declared.record.RecordStakes.TheVariants.{Unlimited, Match}
use Rattle.game_record.specs.declared.record.What.{What}
use Rattle.game_record.specs.declared.record.What.TheVariants.{Rolled, Doubled, Took, Passed, Beavered}
use Rattle.game_record.specs.declared.stage.Next.{Next}
use Rattle.game_record.specs.declared.stage.Stage.{Stage}
use Rattle.plain_record.specs.Plain.{line_numbers, plain_text}
use Rattle.plain_record.specs.PlainLines.{IsPlainLine, ended_lines, is_plain_byte, is_plain_word, is_slash_byte}
use Rattle.record_commands.specs.Records.{HoldsRecord}
use Rattle.run_laws.proofs.DecisionLines.{replay-stays}

both : (a b : Bool) → (a && b) ≡ true → (a ≡ true) × (b ≡ true)
both true b e = (refl, e)
both false b e = absurd (cc)

-- ---- words

-- letters and digits
abbrev is_solid : List ℕ → Bool
is_solid word = list_all (λ byte. ltb 47 byte) word

solid-append : (a b : List ℕ) → is_solid a ≡ true → is_solid b ≡ true → is_solid (a ++ b) ≡ true
solid-append [] b h k = k
solid-append (x ∷ a) b h k = let (here, later) = both (ltb 47 x) (is_solid a) h in rw here (solid-append a b later k)

bytes-append : (a b : List ℕ) → list_all is_plain_byte a ≡ true → list_all is_plain_byte b ≡ true → list_all is_plain_byte (a ++ b) ≡ true
bytes-append [] b h k = k
bytes-append (x ∷ a) b h k = let (here, later) = both (ltb 40 x) (list_all is_plain_byte a) h in rw here (bytes-append a b later k)

solid-bytes : (word : List ℕ) → is_solid word ≡ true → list_all is_plain_byte word ≡ true
solid-bytes [] h = refl
solid-bytes (x ∷ word) h =
    let (here, later) = both (ltb 47 x) (is_solid word) h in
    let high : ltb 40 x ≡ true = grind (arith, nat_tests) in
    rw high (solid-bytes word later)

no-slash : (word : List ℕ) → is_solid word ≡ true → count_by is_slash_byte word ≡ 0
no-slash [] h = refl
no-slash (x ∷ word) h =
    let (here, later) = both (ltb 47 x) (is_solid word) h in
    let other : eqb x 47 ≡ false = grind (arith, nat_tests) in
    rw other (no-slash word later)

word-by : (word : List ℕ) → 0 < length word → list_all is_plain_byte word ≡ true → count_by is_slash_byte word < 2 → is_plain_word word ≡ true
word-by word some bytes few =
    let long : ltb 0 (length word) ≡ true = grind (arith, nat_tests) in
    let one : ltb (count_by is_slash_byte word) 2 ≡ true = grind (arith, nat_tests) in
    rw (long, bytes, one) refl

solid-word : (word : List ℕ) → 0 < length word → is_solid word ≡ true → is_plain_word word ≡ true
solid-word word some h = word-by word some (solid-bytes word h) (omega (arith, no-slash word h))

digit-solid : (n : ℕ) → is_solid ((48 + n) ∷ []) ≡ true
digit-solid n = let high : ltb 47 (48 + n) ≡ true = grind (arith, nat_tests) in rw high refl

number-solid : (n : ℕ) → n < 2 ^ 64 → is_solid (decimal n) ≡ true
number-solid n = decimal_by_steps (λ n ds. is_solid ds ≡ true) (λ n small. digit-solid n) (λ n ds big h. solid-append ds ((48 + n % 10) ∷ []) h (digit-solid (n % 10))) n

number-word : (n : ℕ) → n < 2 ^ 64 → is_plain_word (decimal n) ≡ true
number-word n h = solid-word (decimal n) (decimal_nonempty n h) (number-solid n h)

roll-word : (roll : Dice) → is_plain_word (roll_text roll) ≡ true
roll-word roll = solid-word (roll_text roll) (omega arith) (solid-append ((48 + roll.high) ∷ []) ((48 + roll.low) ∷ []) (digit-solid roll.high) (digit-solid roll.low))

-- ---- plays

all-places : list_all (λ p. is_solid (place_text p)) (range_with_len 0 26) ≡ true
unfolding digits
all-places = refl

each-in-range : (test : ℕ → Bool) (a n i : ℕ) → list_all test (range_with_len a n) ≡ true → a ≤ i → i < a + n → test i ≡ true
each-in-range test a zero i e low high = absurd (omega arith)
each-in-range test a (suc n) i e low high =
    let (here, later) = both (test a) (list_all test (range_with_len (a + 1) n)) e in
    elim (cases_lt a i) [
      | inl less ↦ each-in-range test (a + 1) n i later (omega arith) (omega arith)
      | inr not_less ↦ (let same : a ≡ i = omega arith in subst (λ j. test j ≡ true) same here)
    ]

place-solid : (p : ℕ) → p ≤ 25 → is_solid (place_text p) ≡ true
place-solid p low = each-in-range (λ p. is_solid (place_text p)) 0 26 p all-places (omega arith) (omega arith)

mark-bytes : (hit : Bool) → (list_all is_plain_byte (mark hit) ≡ true) × (count_by is_slash_byte (mark hit) ≡ 0)
mark-bytes true = (refl, refl)
mark-bytes false = (refl, refl)

behind-some : (a b : List ℕ) (x : ℕ) → 0 < length (a ++ x ∷ b)
behind-some [] b x = omega arith
behind-some (y ∷ a) b x = omega arith

count-append : (a b : List ℕ) → count_by is_slash_byte (a ++ b) ≡ count_by is_slash_byte a + count_by is_slash_byte b
count-append a b = sum_by-append (λ (byte : ℕ). cond (is_slash_byte byte) 1 0) a b

-- a step from one place to another
step-of : (from to : List ℕ) (hit : Bool) → is_solid from ≡ true → is_solid to ≡ true → is_plain_word (from ++ codes "/" ++ to ++ mark hit) ≡ true
step-of from to hit f t =
    let m = mark-bytes hit in
    let word = from ++ codes "/" ++ to ++ mark hit in
    let bytes = bytes-append (from ++ codes "/" ++ to) (mark hit) (bytes-append (from ++ codes "/") to (bytes-append from (codes "/") (solid-bytes from f) refl) (solid-bytes to t)) m.0 in
    let counted : count_by is_slash_byte word ≡ 1 = count-of in
    let joined : word ≡ from ++ 47 ∷ (to ++ mark hit) = append_assoc (from ++ codes "/") to (mark hit) ∙ append_assoc from (codes "/") (to ++ mark hit) in
    word-by word (subst (λ (w : List ℕ). 0 < length w) (sym joined) (behind-some from (to ++ mark hit) 47)) bytes (omega (arith, counted))
  where
    count-of : count_by is_slash_byte (from ++ codes "/" ++ to ++ mark hit) ≡ 1
    count-of =
        let a = count-append (from ++ codes "/" ++ to) (mark hit) in
        let b = count-append (from ++ codes "/") to in
        let c = count-append from (codes "/") in
        let one : count_by is_slash_byte (codes "/") ≡ 1 = refl in
        let m = (mark-bytes hit).1 in
        let x = no-slash from f in
        let y = no-slash to t in
        omega (arith, a, b, c, one, m, x, y)

step-word : (step : Step) → is_plain_word (step_text step) ≡ true
step-word step = step-of (place_text step.from) (place_text step.to) step.hit (place-solid step.from step.within) (place-solid step.to (omega (arith, step.within, step.falls)))

step-words : (steps : List Step) → list_all is_plain_word (map step_text steps) ≡ true
step-words [] = refl
step-words (step ∷ steps) = rw (step-word step) (step-words steps)

-- ---- lines

-- words with single spaces make a plain line
by-words : (line first : List ℕ) (later : List (List ℕ)) → list_all is_plain_word (first ∷ later) ≡ true → line ≡ join_with_byte 32 (first ∷ later) → IsPlainLine line
by-words line first later plain words = record { first = first; later = later; plain = plain; words = words }

small : (most n : ℕ) → most < 100 → UpTo most n → n < 2 ^ 64
small most n low h = omega (arith, h.1, low)

rule-word : (rule : MoneyRule) → is_plain_word (rule_text rule) ≡ true
rule-word Cubeless = refl
rule-word _ = refl

stakes-line : (stakes : RecordStakes) → AreRecordStakes stakes → IsPlainLine (codes "stakes " ++ stakes_word stakes)
stakes-line (Unlimited rule) h = by-words _ (codes "stakes") (rule_text rule ∷ []) (rw (rule-word rule) refl) refl
stakes-line (Match points) h = by-words _ (codes "stakes") (codes "match" ∷ decimal points ∷ []) (rw (number-word points (small 5 points (omega arith) h)) refl) refl

player-word : (player : Player) → is_plain_word (player_text player) ≡ true
player-word A = refl
player-word B = refl

play-line : (player : Player) (roll : Dice) (steps : List Step) → IsPlainLine (player_text player ++ codes " " ++ (roll_text roll ++ codes " " ++ steps_text steps))
play-line player roll [] =
    by-words _ (player_text player) (roll_text roll ∷ codes "-" ∷ []) (rw (player-word player, roll-word roll) refl)
    (append_assoc (player_text player) (codes " ") (roll_text roll ++ codes " " ++ steps_text []))
play-line player roll (step ∷ steps) =
    by-words _ (player_text player) (roll_text roll ∷ map step_text (step ∷ steps)) (rw (player-word player, roll-word roll) (step-words (step ∷ steps)))
    (append_assoc (player_text player) (codes " ") (roll_text roll ++ codes " " ++ steps_text (step ∷ steps)))

deed-line : (player : Player) (what : What) → IsPlainLine (player_text player ++ codes " " ++ deed_text what)
deed-line player (Rolled roll written) = play-line player roll written.items
deed-line A Doubled = by-words _ (codes "A") (codes "double" ∷ []) refl refl
deed-line A Took = by-words _ (codes "A") (codes "take" ∷ []) refl refl
deed-line A Passed = by-words _ (codes "A") (codes "pass" ∷ []) refl refl
deed-line A Beavered = by-words _ (codes "A") (codes "beaver" ∷ []) refl refl
deed-line B Doubled = by-words _ (codes "B") (codes "double" ∷ []) refl refl
deed-line B Took = by-words _ (codes "B") (codes "take" ∷ []) refl refl
deed-line B Passed = by-words _ (codes "B") (codes "pass" ∷ []) refl refl
deed-line B Beavered = by-words _ (codes "B") (codes "beaver" ∷ []) refl refl

end-line : (winner : Player) (points : ℕ) → points < 2 ^ 64 → IsPlainLine (codes "end " ++ player_text winner ++ codes " " ++ decimal points)
end-line A points low = by-words _ (codes "end") (codes "A" ∷ decimal points ∷ []) (rw (number-word points low) refl) refl
end-line B points low = by-words _ (codes "end") (codes "B" ∷ decimal points ∷ []) (rw (number-word points low) refl) refl

away-line : (number a b : ℕ) → number < 2 ^ 64 → a < 2 ^ 64 → b < 2 ^ 64 → IsPlainLine (codes "game " ++ decimal number ++ (codes " away " ++ decimal a ++ codes " " ++ decimal b))
away-line number a b n x y =
    by-words _ (codes "game") (decimal number ∷ codes "away" ∷ decimal a ∷ decimal b ∷ []) (rw (number-word number n, number-word a x, number-word b y) refl) (simp append_assoc)

fitting-line : (stage : Stage) (line : Line) → stage.games < 2 ^ 32 → FitsStage stage line → IsPlainLine (line_text line)
fitting-line stage Title low h = by-words _ (codes "hypergammon") (codes "record" ∷ codes "1" ∷ []) refl refl
fitting-line stage (Checkers checkers) low h = by-words _ (codes "checkers") (decimal checkers ∷ []) (rw (number-word checkers (small 3 checkers (omega arith) h)) refl) refl
fitting-line stage (Stakes stakes) low h = stakes-line stakes h
fitting-line stage (GameLine number None) low h =
    by-words _ (codes "game") (decimal number ∷ []) (rw (number-word number (omega (arith, low, h.0))) refl) (append-nil (codes "game " ++ decimal number))
fitting-line stage (GameLine number (Some needs)) low h = away-line number needs.0 needs.1 (omega (arith, low, h.0)) (small 5 needs.0 (omega arith) h.1.0) (small 5 needs.1 (omega arith) h.1.1)
fitting-line stage (Acted action) low h = deed-line action.player action.what
fitting-line stage (Ended winner points) low h = end-line winner points (small 3 points (omega arith) h)
fitting-line stage Stopped low h = by-words _ (codes "stop") [] refl refl
fitting-line stage Closed low h = by-words _ (codes "close") [] refl refl

-- ---- records

one-game : (stage : Stage) (line : Line) (next : Next) → (stage_after stage line next).games ≤ stage.games + 1
one-game stage Title next = omega arith
one-game stage (Checkers checkers) next = omega arith
one-game stage (Stakes stakes) next = omega arith
one-game stage (GameLine number away) next = omega arith
one-game stage (Acted action) next = omega arith
one-game stage (Ended winner points) next = omega arith
one-game stage Stopped next = omega arith
one-game stage Closed next = omega arith

following : (stage : Stage) (lines : List Line) (end : Stage) → stage.games + length lines < 2 ^ 32 → Follow stage lines end → All IsPlainLine (map line_text lines)
following stage [] end low f k d below = absurd (omega arith)
following stage (line ∷ lines) end low f zero d below = fitting-line stage line (omega (arith, low)) f.2
following stage (line ∷ lines) end low f (suc k) d below =
    following (stage_after stage line f.0) lines end (omega (arith, low, one-game stage line f.0)) f.3 k d (omega arith)

-- the laws
abbrev pub TextsStay : Type 0
TextsStay = (list : List (List ℕ)) → All IsPlainLine list → plain_text (ended_lines list) ≡ ended_lines list

abbrev pub NumbersStay : Type 0
NumbersStay = (list : List (List ℕ)) → All IsPlainLine list → line_numbers (ended_lines list) ≡ range_with_len 0 (length list + 2)

module _ (text : List ℕ) (rec : RecordRead) (is : IsRecordText text rec) where
  plain-lines : All IsPlainLine (map line_text (record_lines rec))
  plain-lines = following first_stage (record_lines rec) is.valid.end (omega (arith, is.valid.few)) is.valid.follow

  ended : text ≡ ended_lines (map line_text (record_lines rec))
  ended = is.printed ∙ sym (flat_map-map (λ (line : List ℕ). line ++ 10 ∷ []) line_text (record_lines rec))

  pub record-stays : TextsStay → plain_text text ≡ text
  record-stays law = ap plain_text ended ∙ law (map line_text (record_lines rec)) plain-lines ∙ sym ended

  pub record-numbers : NumbersStay → line_numbers text ≡ range_with_len 0 (length (record_lines rec) + 2)
  record-numbers law = ap line_numbers ended ∙ law (map line_text (record_lines rec)) plain-lines ∙ ap (λ (n : ℕ). range_with_len 0 (n + 2)) (length-map (record_lines rec) line_text)

  first-is : (a b : Bool) → (a || b) ≡ false → a ≡ false
  first-is true b e = absurd (cc)
  first-is false b e = refl

  short : length text ≤ 1048576
  short =
      let size = first-is (ltb 1048576 (length text)) (ltb 65536 (count_by is_line_end text)) is.size in
      grind (arith, nat_tests)

  pub record-held : TextsStay → NumbersStay → (told : List Decision) → IsReplay rec told → HoldsRecord text (record { rec = rec; decisions = told })
  record-held law numbers told replay = record {
    short = short;
    told = told;
    plain = record { text = subst (λ (t : List ℕ). IsRecordText t rec) (sym (record-stays law)) is; replay = replay };
    lines = sym (replay-stays rec told (line_numbers text) replay (record-numbers numbers));
  }
