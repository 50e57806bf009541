-- What is planned by the file of a match's first game.
use Rattle.std.proofs.Common.{Bool, ◌≡◌, ◌≤◌, ◌+◌, ℕ, List, [], ◌∷◌, length, Option, Ok, sym, subst, arith, length-append}
use Rattle.directed_fixed.specs.Bounds.{Bounds}
use Rattle.cube_actions.specs.declared.name.StakesName.{StakesName}
use Rattle.cube_actions.specs.Ladder.{ladder}
use Rattle.cube_actions.specs.Starts.{StartPairs, ladder_place}
use Rattle.match_scores.specs.Ladders.{with_pair}
use Rattle.base_head.specs.Heads.{AreStartsBefore, AreStartsOf, FileHead, IsHead}
use Rattle.database_file.specs.FileBases.{FileBase}
use Rattle.command_line.specs.declared.command.Plan.{Plan}
use Rattle.whole_file_commands.specs.Plans.{AnswersFirst, EndsLadder, HasPlanned, HoldsInside, HoldsInTheEnd, IsOfFirstGame, first_score, planned_starts}
use Rattle.match_plan.specs.Plans.{plan_text}
use Rattle.interval_words.specs.WordLists.{WordList}
use Rattle.whole_file_commands.proofs.PlanLaws.{place-last}

-- with the pair of its own score a head of the first game has those of all scores
pub planned-whole : (match_length : ℕ) → 1 ≤ match_length → match_length ≤ 5 → (head : FileHead) → IsHead head → IsOfFirstGame match_length head → (pair : Bounds)
    → length (with_pair head.starts pair).pairs ≡ length (ladder head.starts.match_length)
planned-whole match_length from to head valid first pair =
    let before : AreStartsBefore (first_score match_length) head.starts = subst (λ (name : StakesName). AreStartsOf name head.starts) first.name valid.starts in
    let place : ladder_place head.starts.match_length (first_score match_length) + 1 ≡ length (ladder head.starts.match_length) =
    subst (λ (n : ℕ). ladder_place n (first_score match_length) + 1 ≡ length (ladder n)) (sym first.to) (place-last match_length from to) in
    omega (arith, length-append head.starts.pairs (pair ∷ []), before.held, place)

-- ---- what was planned

-- what the laws say of plans
abbrev InTheEnd : Type 0
InTheEnd =
    (base : FileBase) (starts : StartPairs) (words : ℕ → WordList) → 1 ≤ base.head.starts.match_length → base.head.starts.match_length ≤ 5 → EndsLadder base starts words
    → HoldsInTheEnd base.head.checkers (planned_starts base)

-- the plan was put of a base of the match's first game
pub has-planned : ((plan : StartPairs) → HoldsInside plan) → InTheEnd → (task : Plan) → 1 ≤ task.match_length → task.match_length ≤ 5 → (told : Bool) (held : Option (List ℕ)) (base : FileBase) → AnswersFirst task told held (Ok base)
    → (starts : StartPairs) → starts ≡ planned_starts base → length starts.pairs ≡ length (ladder starts.match_length)
    → (IsReport : List ℕ → Type 0) → IsReport (plan_text starts) → HasPlanned task told held IsReport
has-planned inside law task from to told held base first starts is whole IsReport report =
    let length_is = first.1.to in
    record {
      base = base;
      read = first.0;
      first = first.1;
      whole = subst (λ (n : ℕ). length (planned_starts base).pairs ≡ length (ladder n)) length_is (subst (λ (s : StartPairs). length s.pairs ≡ length (ladder s.match_length)) is whole);
      inside = inside (planned_starts base);
      in_the_end = λ starts words ends. law base starts words (subst (λ (n : ℕ). 1 ≤ n) (sym length_is) from) (subst (λ (n : ℕ). n ≤ 5) (sym length_is) to) ends;
      report = subst (λ (s : StartPairs). IsReport (plan_text s)) is report;
    }
