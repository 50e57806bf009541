-- A line is the text of its form.
use Rattle.std.proofs.Common.{◌≡◌, ℕ, Bool, true, false, cond, ◌&&◌, eqb, nat_eq, List, [], ◌∷◌, ◌++◌, codes, ◌⊎◌, inl, inr, Option, Some, None, refl, sym, ◌∙◌, ap, append_assoc}
use Rattle.std.proofs.lemmas.Bool.{eqb-true}
use Rattle.std.proofs.lemmas.Option.{cond_some, none-some, same_Some}
use Rattle.position_text.proofs.PlaceTexts.{both-true}
use Rattle.game_record.specs.declared.player.Player.{Player}
use Rattle.game_record.specs.declared.player.Player.TheVariants.{A, B}
use Rattle.game_record.specs.Turns.{player_text}
use Rattle.record_text.specs.Forms.{LineForm, TitleForm, CheckersForm, StakesForm, MatchForm, GameForm, AwayForm, RollForm, DoubleForm, TakeForm, PassForm, BeaverForm, EndForm, StopForm, CloseForm, form_text, form_of, words_form, stakes_form, game_form, away_form, needs_form, end_form, winner_form, deed_form, roll_form, player_of, same_text, is_word, are_words, begins_with_digit, cut_at, cut, with_front}

pub chosen : {X : Type 0} (b : Bool) (x y z : X) → cond b x y ≡ z → ((b ≡ true) × (x ≡ z)) ⊎ ((b ≡ false) × (y ≡ z))
chosen true x y z e = inl (refl, e)
chosen false x y z e = inr (refl, e)

pub same-text : (a b : List ℕ) → same_text a b ≡ true → a ≡ b
same-text [] [] e = refl
same-text [] (y ∷ b) e = absurd (cc)
same-text (x ∷ a) [] e = absurd (cc)
same-text (x ∷ a) (y ∷ b) e =
    let both = both-true (nat_eq x y) (same_text a b) e in
    let first : x ≡ y = eqb-true x y both.0 in
    ap (λ z. z ∷ a) first ∙ ap (λ z. y ∷ z) (same-text a b both.1)

front-back : (x byte : ℕ) (text : List ℕ) (o : Option (List ℕ × List ℕ)) (a b : List ℕ) → ((c d : List ℕ) → o ≡ Some (c, d) → text ≡ c ++ byte ∷ d) → with_front x o ≡ Some (a, b) → x ∷ text ≡ a ++ byte ∷ b
front-back x byte text None a b f e = absurd (none-some (a, b) e)
front-back x byte text (Some parts) a b f e =
    let same = same_Some (x ∷ parts.0, parts.1) (a, b) e in
    ap (λ t. x ∷ t) (f parts.0 parts.1 refl) ∙ ap (λ (p : List ℕ × List ℕ). p.0 ++ byte ∷ p.1) same

-- a text is its parts with the byte between them
pub cut-text : (byte : ℕ) (text a b : List ℕ) → cut_at byte text ≡ Some (a, b) → text ≡ a ++ byte ∷ b
cut-text byte [] a b e = absurd (none-some (a, b) e)
cut-text byte (x ∷ text) a b e = elim (chosen (eqb x byte) (Some ([], text)) (with_front x (cut_at byte text)) (Some (a, b)) e) [
  | inl here ↦ (let same : x ≡ byte = eqb-true x byte here.0 in ap (λ y. y ∷ text) same ∙ ap (λ (p : List ℕ × List ℕ). p.0 ++ byte ∷ p.1) (same_Some ([], text) (a, b) here.1))
  | inr later ↦ front-back x byte text (cut_at byte text) a b (cut-text byte text) later.1
]

player-says : (word : List ℕ) (player : Player) → player_of word ≡ Some player → word ≡ player_text player
player-says word player e = elim (chosen (same_text word (codes "A")) (Some A) (cond (same_text word (codes "B")) (Some B) None) (Some player) e) [
  | inl a ↦ same-text word (codes "A") a.0 ∙ ap player_text (same_Some A player a.1)
  | inr other ↦ (let b = cond_some (same_text word (codes "B")) B player other.1 in same-text word (codes "B") b.0 ∙ ap player_text b.1)
]

stakes-say : (rest : List ℕ) (o : Option (List ℕ × List ℕ)) (f : LineForm) → cut rest ≡ o → stakes_form rest o ≡ Some f → codes "stakes " ++ rest ≡ form_text f
stakes-say rest None f c e = ap form_text (cond_some (is_word rest) (StakesForm rest) f e).1
stakes-say rest (Some parts) f c e =
    let p = cond_some (same_text parts.0 (codes "match") && is_word parts.1) (MatchForm parts.1) f e in
    let name = same-text parts.0 (codes "match") (both-true (same_text parts.0 (codes "match")) (is_word parts.1) p.0).0 in
    ap (λ t. codes "stakes " ++ t) (cut-text 32 rest parts.0 parts.1 c) ∙ ap (λ w. codes "stakes " ++ w ++ 32 ∷ parts.1) name ∙ ap form_text p.1

needs-say : (number rest : List ℕ) (o : Option (List ℕ × List ℕ)) (f : LineForm) → cut rest ≡ o → needs_form number o ≡ Some f → codes "game " ++ number ++ codes " away " ++ rest ≡ form_text f
needs-say number rest None f c e = absurd (none-some f e)
needs-say number rest (Some needs) f c e =
    let p = cond_some (is_word needs.0 && is_word needs.1) (AwayForm number needs.0 needs.1) f e in
    ap (λ t. codes "game " ++ number ++ codes " away " ++ t) (cut-text 32 rest needs.0 needs.1 c) ∙ sym (append_assoc (codes "game " ++ number ++ codes " away " ++ needs.0) (codes " ") needs.1 ∙ append_assoc (codes "game " ++ number ++ codes " away ") needs.0 (32 ∷ needs.1)) ∙ ap form_text p.1

away-say : (number rest : List ℕ) (o : Option (List ℕ × List ℕ)) (f : LineForm) → cut rest ≡ o → away_form number o ≡ Some f → codes "game " ++ number ++ codes " " ++ rest ≡ form_text f
away-say number rest None f c e = absurd (none-some f e)
away-say number rest (Some parts) f c e = elim (chosen (same_text parts.0 (codes "away") && is_word number) (needs_form number (cut parts.1)) None (Some f) e) [
  | inl named ↦ (let name = same-text parts.0 (codes "away") (both-true (same_text parts.0 (codes "away")) (is_word number) named.0).0 in
      ap (λ t. codes "game " ++ number ++ codes " " ++ t) (cut-text 32 rest parts.0 parts.1 c) ∙ ap (λ w. codes "game " ++ number ++ codes " " ++ (w ++ 32 ∷ parts.1)) name ∙ ap (λ t. codes "game " ++ t) (append_assoc number (codes " ") (codes "away " ++ parts.1) ∙ sym (append_assoc number (codes " away ") parts.1)) ∙ needs-say number parts.1 (cut parts.1) f refl named.1)
  | inr unnamed ↦ absurd (none-some f unnamed.1)
]

game-say : (rest : List ℕ) (o : Option (List ℕ × List ℕ)) (f : LineForm) → cut rest ≡ o → game_form rest o ≡ Some f → codes "game " ++ rest ≡ form_text f
game-say rest None f c e = ap form_text (cond_some (is_word rest) (GameForm rest) f e).1
game-say rest (Some parts) f c e = ap (λ t. codes "game " ++ t) (cut-text 32 rest parts.0 parts.1 c) ∙ ap (λ t. codes "game " ++ t) (sym (append_assoc parts.0 (codes " ") parts.1)) ∙ away-say parts.0 parts.1 (cut parts.1) f refl e

winner-say : (word points : List ℕ) (o : Option Player) (f : LineForm) → player_of word ≡ o → winner_form points o ≡ Some f → codes "end " ++ word ++ codes " " ++ points ≡ form_text f
winner-say word points None f c e = absurd (none-some f e)
winner-say word points (Some winner) f c e = ap (λ w. codes "end " ++ w ++ codes " " ++ points) (player-says word winner c) ∙ ap form_text (cond_some (is_word points) (EndForm winner points) f e).1

end-say : (rest : List ℕ) (o : Option (List ℕ × List ℕ)) (f : LineForm) → cut rest ≡ o → end_form o ≡ Some f → codes "end " ++ rest ≡ form_text f
end-say rest None f c e = absurd (none-some f e)
end-say rest (Some parts) f c e = ap (λ t. codes "end " ++ t) (cut-text 32 rest parts.0 parts.1 c) ∙ ap (λ t. codes "end " ++ t) (sym (append_assoc parts.0 (codes " ") parts.1)) ∙ winner-say parts.0 parts.1 (player_of parts.0) f refl e

roll-say : (player : Player) (rest : List ℕ) (o : Option (List ℕ × List ℕ)) (f : LineForm) → cut rest ≡ o → roll_form player o ≡ Some f → player_text player ++ codes " " ++ rest ≡ form_text f
roll-say player rest None f c e = absurd (none-some f e)
roll-say player rest (Some parts) f c e = ap (λ t. player_text player ++ codes " " ++ t) (cut-text 32 rest parts.0 parts.1 c) ∙ sym (append_assoc (player_text player ++ codes " " ++ parts.0) (codes " ") parts.1 ∙ append_assoc (player_text player ++ codes " ") parts.0 (32 ∷ parts.1)) ∙ ap form_text (cond_some (begins_with_digit parts.0 && are_words parts.1) (RollForm player parts.0 parts.1) f e).1

said : (player : Player) (rest word : List ℕ) (form f : LineForm) → same_text rest word ≡ true → Some form ≡ Some f → player_text player ++ codes " " ++ word ≡ form_text form → player_text player ++ codes " " ++ rest ≡ form_text f
said player rest word form f t e same = ap (λ w. player_text player ++ codes " " ++ w) (same-text rest word t) ∙ same ∙ ap form_text (same_Some form f e)

deed-say : (word rest : List ℕ) (o : Option Player) (f : LineForm) → player_of word ≡ o → deed_form rest o ≡ Some f → word ++ codes " " ++ rest ≡ form_text f
deed-say word rest None f c e = absurd (none-some f e)
deed-say word rest (Some player) f c e = ap (λ w. w ++ codes " " ++ rest) (player-says word player c) ∙ (elim (chosen (same_text rest (codes "double")) (Some (DoubleForm player)) _ (Some f) e) [
  | inl a ↦ said player rest (codes "double") (DoubleForm player) f a.0 a.1 (append_assoc (player_text player) (codes " ") (codes "double"))
  | inr no_double ↦ (elim (chosen (same_text rest (codes "take")) (Some (TakeForm player)) _ (Some f) no_double.1) [
    | inl a ↦ said player rest (codes "take") (TakeForm player) f a.0 a.1 (append_assoc (player_text player) (codes " ") (codes "take"))
    | inr no_take ↦ (elim (chosen (same_text rest (codes "pass")) (Some (PassForm player)) _ (Some f) no_take.1) [
      | inl a ↦ said player rest (codes "pass") (PassForm player) f a.0 a.1 (append_assoc (player_text player) (codes " ") (codes "pass"))
      | inr no_pass ↦ (elim (chosen (same_text rest (codes "beaver")) (Some (BeaverForm player)) _ (Some f) no_pass.1) [
        | inl a ↦ said player rest (codes "beaver") (BeaverForm player) f a.0 a.1 (append_assoc (player_text player) (codes " ") (codes "beaver"))
        | inr roll ↦ roll-say player rest (cut rest) f refl roll.1
      ])
    ])
  ])
])

words-say : (line : List ℕ) (o : Option (List ℕ × List ℕ)) (f : LineForm) → cut line ≡ o → words_form o ≡ Some f → line ≡ form_text f
words-say line None f c e = absurd (none-some f e)
words-say line (Some parts) f c e = cut-text 32 line parts.0 parts.1 c ∙ (elim (chosen (same_text parts.0 (codes "checkers")) (cond (is_word parts.1) (Some (CheckersForm parts.1)) None) _ (Some f) e) [
  | inl a ↦ ap (λ w. w ++ 32 ∷ parts.1) (same-text parts.0 (codes "checkers") a.0) ∙ ap form_text (cond_some (is_word parts.1) (CheckersForm parts.1) f a.1).1
  | inr no_checkers ↦ (elim (chosen (same_text parts.0 (codes "stakes")) (stakes_form parts.1 (cut parts.1)) _ (Some f) no_checkers.1) [
    | inl a ↦ ap (λ w. w ++ 32 ∷ parts.1) (same-text parts.0 (codes "stakes") a.0) ∙ stakes-say parts.1 (cut parts.1) f refl a.1
    | inr no_stakes ↦ (elim (chosen (same_text parts.0 (codes "game")) (game_form parts.1 (cut parts.1)) _ (Some f) no_stakes.1) [
      | inl a ↦ ap (λ w. w ++ 32 ∷ parts.1) (same-text parts.0 (codes "game") a.0) ∙ game-say parts.1 (cut parts.1) f refl a.1
      | inr no_game ↦ (elim (chosen (same_text parts.0 (codes "end")) (end_form (cut parts.1)) _ (Some f) no_game.1) [
        | inl a ↦ ap (λ w. w ++ 32 ∷ parts.1) (same-text parts.0 (codes "end") a.0) ∙ end-say parts.1 (cut parts.1) f refl a.1
        | inr deed ↦ sym (append_assoc parts.0 (codes " ") parts.1) ∙ deed-say parts.0 parts.1 (player_of parts.0) f refl deed.1
      ])
    ])
  ])
])

-- a line is the text of its form
pub form-says : (line : List ℕ) (f : LineForm) → form_of line ≡ Some f → line ≡ form_text f
form-says line f e = elim (chosen (same_text line (codes "hypergammon record 1")) (Some TitleForm) _ (Some f) e) [
  | inl a ↦ same-text line (codes "hypergammon record 1") a.0 ∙ ap form_text (same_Some TitleForm f a.1)
  | inr no_title ↦ (elim (chosen (same_text line (codes "stop")) (Some StopForm) _ (Some f) no_title.1) [
    | inl a ↦ same-text line (codes "stop") a.0 ∙ ap form_text (same_Some StopForm f a.1)
    | inr no_stop ↦ (elim (chosen (same_text line (codes "close")) (Some CloseForm) _ (Some f) no_stop.1) [
      | inl a ↦ same-text line (codes "close") a.0 ∙ ap form_text (same_Some CloseForm f a.1)
      | inr words ↦ words-say line (cut line) f refl words.1
    ])
  ])
]
