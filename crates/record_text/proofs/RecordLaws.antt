-- A text is that of one record or has one first fault, and goes on nowhere.
use Rattle.std.proofs.Common.{◌≡◌, ℕ, ◌+◌, ◌<◌, ◌^◌, false, List, [], ◌∷◌, ◌++◌, length, map, Option, Some, None, MatchOption, inl, inr, refl, sym, ◌∙◌, ap, subst, append_assoc, arith}
use Rattle.std.proofs.lemmas.List.{append-nil}
use Rattle.std.proofs.lemmas.Option.{none-some, same_Some}
use Rattle.game_record.specs.declared.fault.BadRecord.{BadRecord}
use Rattle.game_record.specs.declared.fault.RecordFault.{RecordFault}
use Rattle.game_record.specs.declared.fault.RecordFault.TheVariants.{Shape, Order}
use Rattle.game_record.specs.declared.record.Record.{Record}
use Rattle.game_record.specs.declared.record.Game.{Game}
use Rattle.game_record.specs.declared.record.Action.{Action}
use Rattle.game_record.specs.declared.record.Ending.{Ending}
use Rattle.game_record.specs.declared.record.Ending.TheVariants.{Ended as WasEnded, Stopped as WasStopped}
use Rattle.game_record.specs.declared.line.Line.{Line}
use Rattle.game_record.specs.declared.line.Line.TheVariants.{Acted, Closed}
use Rattle.game_record.specs.declared.stage.Stage.{Stage}
use Rattle.game_record.specs.Turns.{allowed, first_stage}
use Rattle.game_record.specs.Lines.{record_lines, ending_line, game_lines, games_lines, Follow}
use Rattle.record_text.specs.Texts.{lines_text, is_too_long, IsRecordText}
use Rattle.record_text.specs.Forms.{LineForm, TitleForm, CheckersForm, StakesForm, MatchForm, GameForm, AwayForm, RollForm, DoubleForm, TakeForm, PassForm, BeaverForm, EndForm, StopForm, CloseForm, form_of, kind_of_form}
use Rattle.record_text.specs.Faults.{IsWrong, IsFormFault, IsLineFault, IsWrongRest, IsFirstWrongLine, IsBad}
use Rattle.record_text.proofs.LineLaws.{TellsPlays}
use Rattle.record_text.proofs.TextLaws.{same-front, GoesOn, none-behind, few-lines, follow-games, right-line-there}

-- ---- a record is told by its lines

ending-same : (a b : Ending) → ending_line a ≡ ending_line b → a ≡ b
ending-same (WasEnded w p) (WasEnded x q) e =
    let winners : w ≡ x = cc in
    let points : p ≡ q = cc in
    λ i. WasEnded (winners i) (points i)
ending-same (WasEnded w p) WasStopped e = absurd (cc)
ending-same WasStopped (WasEnded x q) e = absurd (cc)
ending-same WasStopped WasStopped e = refl

no-action : (a : Ending) (action : Action) → ending_line a ≡ Acted action → ⊥
no-action (WasEnded w p) action e = absurd (cc)
no-action WasStopped action e = absurd (cc)

actions-apart : (a b : List Action) (e f : Ending) (xs ys : List Line) → (map Acted a ++ ending_line e ∷ []) ++ xs ≡ (map Acted b ++ ending_line f ∷ []) ++ ys → (a ≡ b) × (e ≡ f) × (xs ≡ ys)
actions-apart [] [] e f xs ys same =
    let lines : ending_line e ≡ ending_line f = cc in
    let rest : xs ≡ ys = cc in
    (refl, ending-same e f lines, rest)
actions-apart [] (y ∷ b) e f xs ys same = let lines : ending_line e ≡ Acted y = cc in absurd (no-action e y lines)
actions-apart (x ∷ a) [] e f xs ys same = let lines : ending_line f ≡ Acted x = cc in absurd (no-action f x lines)
actions-apart (x ∷ a) (y ∷ b) e f xs ys same =
    let here : x ≡ y = cc in
    let later : (map Acted a ++ ending_line e ∷ []) ++ xs ≡ (map Acted b ++ ending_line f ∷ []) ++ ys = cc in
    let rest = actions-apart a b e f xs ys later in
    (ap (λ z. z ∷ a) here ∙ ap (λ zs. y ∷ zs) rest.0, rest.1, rest.2)

game-apart : (n : ℕ) (g h : Game) (xs ys : List Line) → game_lines n g ++ xs ≡ game_lines n h ++ ys → (g ≡ h) × (xs ≡ ys)
game-apart n g h xs ys same =
    let aways : g.away ≡ h.away = cc in
    let later : (map Acted g.actions ++ ending_line g.ending ∷ []) ++ xs ≡ (map Acted h.actions ++ ending_line h.ending ∷ []) ++ ys = cc in
    let rest = actions-apart g.actions h.actions g.ending h.ending xs ys later in
    ((λ i. record { away = aways i; actions = rest.0 i; ending = rest.1 i }), rest.2)

games-same : (n : ℕ) (gs hs : List Game) → games_lines n gs ++ Closed ∷ [] ≡ games_lines n hs ++ Closed ∷ [] → gs ≡ hs
games-same n [] [] e = refl
games-same n [] (h ∷ hs) e = absurd (cc)
games-same n (g ∷ gs) [] e = absurd (cc)
games-same n (g ∷ gs) (h ∷ hs) e =
    let rest = game-apart n g h (games_lines (n + 1) gs ++ Closed ∷ []) (games_lines (n + 1) hs ++ Closed ∷ [])
    (sym (append_assoc (game_lines n g) (games_lines (n + 1) gs) (Closed ∷ [])) ∙ e ∙ append_assoc (game_lines n h) (games_lines (n + 1) hs) (Closed ∷ [])) in
    ap (λ z. z ∷ gs) rest.0 ∙ ap (λ zs. h ∷ zs) (games-same (n + 1) gs hs rest.1)

record-same : (a b : Record) → record_lines a ≡ record_lines b → a ≡ b
record-same a b e =
    let checkers : a.checkers ≡ b.checkers = cc in
    let stakes : a.stakes ≡ b.stakes = cc in
    let later : games_lines 1 a.games ++ Closed ∷ [] ≡ games_lines 1 b.games ++ Closed ∷ [] = cc in
    let games = games-same 1 a.games b.games later in
    λ i. record { checkers = checkers i; stakes = stakes i; games = games i }

-- ---- two records, where the text of one begins that of the other

no-text : (lines : List Line) (rest : List ℕ) → [] ≡ lines_text lines ++ rest → lines ≡ [] → rest ≡ []
no-text lines rest e none = sym (e ∙ ap (λ ls. lines_text ls ++ rest) none)

-- they are one, and nothing is behind
pub one-record : TellsPlays → (text more : List ℕ) (a b : Record) → IsRecordText text a → IsRecordText (text ++ more) b → (a ≡ b) × (more ≡ [])
one-record tells text more a b x y =
    let whole : lines_text (record_lines a) ++ more ≡ lines_text (record_lines b) ++ [] = ap (λ t. t ++ more) (sym x.printed) ∙ y.printed ∙ sym (append-nil (lines_text (record_lines b))) in
    let low : 0 + length (record_lines a) < 2 ^ 32 = omega (arith, x.valid.few) in
    elim (same-front tells first_stage (record_lines a) x.valid.end more (record_lines b) y.valid.end [] low x.valid.follow y.valid.follow whole) [
      | inl on ↦ (let none = none-behind x.valid.end on.0 y.valid.end x.valid.closed on.2 in
          let lines = on.1 ∙ ap (λ ls. record_lines a ++ ls) none ∙ append-nil (record_lines a) in
          (record-same a b (sym lines), on.3 ∙ ap (λ ls. lines_text ls ++ []) none))
      | inr on ↦ (let none = none-behind y.valid.end on.0 x.valid.end y.valid.closed on.2 in
          let lines = on.1 ∙ ap (λ ls. record_lines b ++ ls) none ∙ append-nil (record_lines b) in
          (record-same a b lines, no-text on.0 more on.3 none))
    ]

-- ---- one first fault

wrong-same : (stage : Stage) (form : LineForm) (f g : RecordFault) → IsWrong stage form f → IsWrong stage form g → f ≡ g
wrong-same stage TitleForm f g x y = absurd x
wrong-same stage (CheckersForm checkers) f g x y = x.0 ∙ sym y.0
wrong-same stage (StakesForm stakes) f g x y = x.0 ∙ sym y.0
wrong-same stage (MatchForm length) f g x y = x.0 ∙ sym y.0
wrong-same stage (GameForm number) f g x y = x.0 ∙ sym y.0
wrong-same stage (AwayForm number a b) f g x y = x.0 ∙ sym y.0
wrong-same stage (RollForm player roll play) f g x y = elim x [
  | inl a ↦ elim y [ inl b ↦ a.0 ∙ sym b.0 | inr b ↦ absurd (a.1 b.1.0 b.1.1) ]
  | inr a ↦ elim y [ inl b ↦ absurd (b.1 a.1.0 a.1.1) | inr b ↦ a.0 ∙ sym b.0 ]
]
wrong-same stage (DoubleForm player) f g x y = absurd x
wrong-same stage (TakeForm player) f g x y = absurd x
wrong-same stage (PassForm player) f g x y = absurd x
wrong-same stage (BeaverForm player) f g x y = absurd x
wrong-same stage (EndForm winner points) f g x y = x.0 ∙ sym y.0
wrong-same stage StopForm f g x y = absurd x
wrong-same stage CloseForm f g x y = absurd x

either-same : {X : Type 0} (o : Option X) (fault f g : RecordFault) (P : X → RecordFault → Type 0) → ((x : X) → P x f → P x g → f ≡ g) → MatchOption o (f ≡ fault) (λ x. P x f) → MatchOption o (g ≡ fault) (λ x. P x g) → f ≡ g
either-same None fault f g P one x y = x ∙ sym y
either-same (Some v) fault f g P one x y = one v x y

line-fault-same : (stage : Stage) (line : List ℕ) (f g : RecordFault) → IsLineFault stage line f → IsLineFault stage line g → f ≡ g
line-fault-same stage line f g x y =
    either-same (form_of line) Shape f g (λ form fault. IsFormFault stage form fault) (λ form u v.
    either-same (allowed stage.in_match stage.next (kind_of_form form)) Order f g (λ next fault. IsWrong stage form fault) (λ next. wrong-same stage form f g) u v) x y

rest-same : (stage : Stage) (rest : List ℕ) (f g : RecordFault) → IsWrongRest stage rest f → IsWrongRest stage rest g → f ≡ g
rest-same stage rest f g x y = elim x [
  | inl a ↦ elim y [
    | inl b ↦ (let lines : a.0 ≡ b.0 = ap (λ (p : List ℕ × List ℕ). p.0) (same_Some (a.0, a.1) (b.0, b.1) (sym a.2 ∙ b.2)) in
        line-fault-same stage b.0 f g (subst (λ l. IsLineFault stage l f) lines a.3) b.3)
    | inr b ↦ absurd (none-some (a.0, a.1) (sym b.1 ∙ a.2))
  ]
  | inr a ↦ elim y [
    | inl b ↦ absurd (none-some (b.0, b.1) (sym a.1 ∙ b.2))
    | inr b ↦ a.0 ∙ sym b.0
  ]
]

-- of two readings that stop at a fault, neither goes on behind the other
same-stop : (text : List ℕ) (a b : BadRecord) (x : IsFirstWrongLine text a) (y : IsFirstWrongLine text b) → is_too_long text ≡ false → GoesOn x.lines x.stage x.rest y.lines y.stage y.rest → a ≡ b
same-stop text a b x y size on = go on.0 on.1 on.2 on.3 where
  go : (more : List Line) → y.lines ≡ x.lines ++ more → Follow x.stage more y.stage → x.rest ≡ lines_text more ++ y.rest → a ≡ b
  go [] all f e =
      let lines : y.lines ≡ x.lines = all ∙ append-nil x.lines in
      let numbers : a.line ≡ b.line = (let longs = ap length lines in omega (arith, x.number, y.number, longs)) in
      let stage_there = subst (λ (s : Stage). IsWrongRest s y.rest b.fault) f y.wrong in
      let faults = rest-same x.stage x.rest a.fault b.fault x.wrong (subst (λ r. IsWrongRest x.stage r b.fault) (sym e) stage_there) in
      λ i. record { line = numbers i; fault = faults i }
  go (line ∷ more) all f e =
      let few = few-lines text x.lines x.rest size x.parts in
      let games = follow-games first_stage x.lines x.stage x.right in
      let low : x.stage.games < 2 ^ 32 = omega (arith, games, few) in
      absurd (right-line-there x.stage line more y.stage y.rest x.rest a.fault low f e x.wrong)

-- a text has one first fault
pub one-fault : TellsPlays → (text : List ℕ) (a b : BadRecord) → IsBad text a → IsBad text b → a ≡ b
one-fault tells text a b x y = elim x [
  | inl u ↦ elim y [ inl v ↦ u.1 ∙ sym v.1 | inr v ↦ absurd (u.0 v.0) ]
  | inr u ↦ elim y [
    | inl v ↦ absurd (v.0 u.0)
    | inr v ↦ (let few = few-lines text u.1.lines u.1.rest u.0 u.1.parts in
        let low : 0 + length u.1.lines < 2 ^ 32 = omega (arith, few) in
        elim (same-front tells first_stage u.1.lines u.1.stage u.1.rest v.1.lines v.1.stage v.1.rest low u.1.right v.1.right (sym u.1.parts ∙ v.1.parts)) [
          | inl on ↦ same-stop text a b u.1 v.1 u.0 on
          | inr on ↦ sym (same-stop text b a v.1 u.1 u.0 on)
        ])
  ]
]
