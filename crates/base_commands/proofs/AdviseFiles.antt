-- What is advised from a file, and what refuses it.
use Rattle.std.proofs.Common.{◌≡◌, ◌∙◌, ◌<◌, ℕ, List, Option, Some, None, Result, Ok, Err, IsTrue, inl, inr, sym, ap, refl, subst}
use Rattle.std.specs.Option.{option_map}
use Rattle.std.specs.Prelude.{⊤}
use Rattle.roll_table.specs.Rolls.{Dice, IsRoll}
use Rattle.hyper_outside.specs.declared.outside.LookStop.{LookStop}
use Rattle.hyper_outside.specs.declared.outside.LookStop.TheVariants as looks
use Rattle.hyper_outside.specs.declared.outside.PageFault.{PageFault}
use Rattle.turn_rule.specs.Games.{IsGame, kinds_of}
use Rattle.position_rank.specs.Placement.{Placement, IsPosition, IsLive}
use Rattle.cube_actions.specs.Stakes.{Terms}
use Rattle.turn_rule.specs.Looks.{Damage, HasDamage, Looked, Meets, Notes, Source}
use Rattle.turn_rule.proofs.Found.{look}
use Rattle.turn_rule.proofs.MetFirst.{met-on_roll, met-on_turn}
use Rattle.play_analyser.specs.declared.advice.CubeAdvice.{CubeAdvice}
use Rattle.play_analyser.specs.declared.ranking.Ranking.{Ranking}
use Rattle.play_analyser.specs.Advice.{IsCubeAdvice}
use Rattle.play_analyser.specs.Rankings.{IsRanking}
use Rattle.base_head.specs.Heads.{stakes_of}
use Rattle.base_head.specs.Headers.{IsHeader}
use Rattle.base_head.specs.declared.header.Header.{Header}
use Rattle.database_file.specs.Faults.{header_of_file, whole}
use Rattle.database_file.specs.Opened.{AnswersPaged}
use Rattle.database_file.specs.Paged.{paged_source, told_notes}
use Rattle.database_file.specs.PagedFiles.{PagedFile}
use Rattle.database_file.specs.Texts.{game_in}
use Rattle.run_endings.specs.declared.asked.AskedKind.{AskedKind}
use Rattle.command_line.specs.declared.command.Advise.{Advise as AdviseTask}
use Rattle.run_endings.specs.Loads.{look_refusal}
use Rattle.base_commands.specs.Advises.{Advises, AnswersAdvice, AnswersRanking, IsBadFor, IsStateIn, MeetsAdvising, Ranks, RefusesAdvice, RestsOn}
use Rattle.run_endings.specs.Games.{AnswersAsked}
use Rattle.run_endings.specs.Pages.{AnswersSought, IsOnBadPage, OfHeld, TellsFirst}
use Rattle.run_endings.proofs.Pages.{bad-page, noted_in, same-kinds, source_in}

pub state-opened : (task : AdviseTask) (held : Option (List ℕ)) (base : PagedFile) (kind : AskedKind) → AnswersPaged (option_map whole held) (Ok base)
    → IsPosition task.position → IsLive task.position → IsHeader base.header → base.head.checkers ≡ base.header.checkers → base.head.name ≡ base.header.name
    → AnswersAsked task.position task.kind base.head (Ok kind) → IsGame (game_in base.head) → kind.number < kinds_of (game_in base.head)
    → OfHeld held (λ bytes. IsStateIn task bytes base.head kind × (base.header ≡ header_of_file bytes))
state-opened task None base kind a position live valid many name asked game inside = absurd a
state-opened task (Some bytes) base kind a position live valid many name asked game inside = (
  record {
    asked = record { front = a.right; head_is = a.head; checkers = asked.0; kind_is = asked.1 };
    valid = subst IsHeader a.header valid;
    game = game;
    checkers = sym (many ∙ ap (λ (h : Header). h.checkers) a.header);
    kinds = ap (λ (h : Header). h.kinds) (sym a.header) ∙ same-kinds base.header base.head valid name;
    state = record { position = position; many = sym asked.0; live = live; kind = inside };
  },
  a.header,
)

-- what was looked up in a file, where all answers were faithful
pub sought-told : {A : Type 0} (header : Header) (file : Option (List ℕ)) (meets : Meets) (right : Source → Notes → A → Type 0) (s : Source) (old noted : Notes) (before now : ℕ) (result : Result A LookStop) → s ≡ paged_source header file → noted ≡ told_notes header file
    → Looked (look s old noted before now) (meets s) (right s noted) result → AnswersSought header file meets (right (paged_source header file) (told_notes header file)) result
sought-told header file meets right s old noted before now (Ok found) source notes looked = subst (λ (n : Notes). right (paged_source header file) n found) notes (subst (λ (t : Source). right t noted found) source looked.answer)
sought-told header file meets right s old noted before now (Err looks.ReadFault) source notes looked = tt
sought-told header file meets right s old noted before now (Err looks.NoMemory) source notes looked = tt
sought-told header file meets right s old noted before now (Err (looks.BadPage fault at)) source notes looked =
    subst (λ (t : Source). meets t (record { fault = fault; at = at })) source (looked.stop.1 (subst (λ (n : Notes). IsTrue n.told) (sym notes) refl))

met-advising : (s : Source) (damage : Damage) (roll : Option Dice) (stakes : Terms) (p : Placement) (k : ℕ) → MeetsAdvising roll stakes p k s damage → HasDamage s (RestsOn roll stakes p k) damage
met-advising s damage (Some roll) stakes p k met = met-on_roll s damage stakes p k roll met
met-advising s damage None stakes p k met = met-on_turn s damage stakes p k met

module _ (task : AdviseTask) (base : PagedFile) (kind : AskedKind) where
  abbrev Opened : Option (List ℕ) → Type 0
  Opened held = OfHeld held (λ bytes. IsStateIn task bytes base.head kind × (base.header ≡ header_of_file bytes))

  pub ranked : ((roll : Dice) (bytes : List ℕ) (ranking : Ranking) → IsStateIn task bytes base.head kind → IsRoll roll
      → IsRanking (stakes_of base.head) task.position kind.number roll (source_in bytes) (noted_in bytes) ranking → Ranks task roll bytes base.head kind ranking)
      → (roll : Dice) → IsRoll roll → (held : Option (List ℕ)) (ranking : Ranking) → Opened held
      → AnswersRanking base.header held (stakes_of base.head) task.position kind.number roll (Ok ranking) → OfHeld held (λ bytes. Ranks task roll bytes base.head kind ranking)
  ranked law roll right None ranking opened is = absurd opened
  ranked law roll right (Some bytes) ranking opened is =
      law roll bytes ranking opened.0 right (subst (λ (h : Header). IsRanking (stakes_of base.head) task.position kind.number roll (paged_source h (Some bytes)) (told_notes h (Some bytes)) ranking) opened.1 is)

  pub cube-advised : ((bytes : List ℕ) (advice : CubeAdvice) → IsStateIn task bytes base.head kind
      → IsCubeAdvice (stakes_of base.head) task.position kind.number (source_in bytes) (noted_in bytes) advice → Advises task bytes base.head kind advice)
      → (held : Option (List ℕ)) (advice : CubeAdvice) → Opened held
      → AnswersAdvice base.header held (stakes_of base.head) task.position kind.number (Ok advice) → OfHeld held (λ bytes. Advises task bytes base.head kind advice)
  cube-advised law None advice opened is = absurd opened
  cube-advised law (Some bytes) advice opened is =
      law bytes advice opened.0 (subst (λ (h : Header). IsCubeAdvice (stakes_of base.head) task.position kind.number (paged_source h (Some bytes)) (told_notes h (Some bytes)) advice) opened.1 is)

  -- the first damage that is met refuses the advice
  pub bad-advice : (roll : Option Dice) → task.roll ≡ roll → (held : Option (List ℕ)) (fault : PageFault) (at : ℕ) → Opened held
      → AnswersSought {A = Unit {0}} base.header held (MeetsAdvising roll (stakes_of base.head) task.position kind.number) (λ none. ⊤) (Err (looks.BadPage fault at)) → OfHeld held (λ bytes. IsBadFor task bytes (look_refusal (looks.BadPage fault at)))
  bad-advice roll is None fault at opened told = absurd opened
  bad-advice roll is (Some bytes) fault at opened told =
      let stakes = stakes_of base.head in
      let p = task.position in
      let k = kind.number in
      let damage : Damage = record { fault = fault; at = at } in
      let refusal = look_refusal (looks.BadPage fault at) in
      let met = subst (λ (h : Header). MeetsAdvising roll stakes p k (paged_source h (Some bytes)) damage) opened.1 told in
      let both = subst (λ (r : Option Dice). IsOnBadPage bytes (RestsOn r stakes p k) refusal × TellsFirst bytes (MeetsAdvising r stakes p k) refusal) (sym is)
      (bad-page bytes (RestsOn roll stakes p k) damage (met-advising (source_in bytes) damage roll stakes p k met), record { damage = damage; met = met; told = refl }) in
      record { head = base.head; kind = kind; asked = opened.0.asked; page = both.0; first = both.1 }

  pub not-looked-up : (roll : Option Dice) → task.roll ≡ roll → (held : Option (List ℕ)) (stop : LookStop) → Opened held
      → AnswersSought {A = Unit {0}} base.header held (MeetsAdvising roll (stakes_of base.head) task.position kind.number) (λ none. ⊤) (Err stop) → RefusesAdvice task (look_refusal stop) held
  not-looked-up roll is held looks.ReadFault opened told = inl (inl tt)
  not-looked-up roll is held looks.NoMemory opened told = inl (inl tt)
  not-looked-up roll is held (looks.BadPage fault at) opened told = inr (bad-advice roll is held fault at opened told)
