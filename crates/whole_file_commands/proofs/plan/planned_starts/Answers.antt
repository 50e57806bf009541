use Rattle.std.proofs.Common.{◌≡◌, ◌∙◌, length, ap, sym, subst}
use Rattle.base_head.specs.Heads.{FileHead, IsHead}
use Rattle.cube_actions.specs.Ladder.{ladder}
use Rattle.cube_actions.specs.Starts.{StartPairs}
use Rattle.match_scores.specs.Ladders.{with_pair}
use Rattle.whole_file_commands.proofs.PlanFiles.{planned-whole}
use Rattle.whole_file_commands.proofs.plan.planned_starts.Goals as goal

pub returns-clause-whole : goal.returns-clause-whole
returns-clause-whole c =
    let base = c.args.base.now in
    let pair = c.start_pair.result in
    let starts : c.add.new.self ≡ with_pair base.head.starts pair =
    c.add.ensures ∙ ap (λ (s : StartPairs). with_pair s pair) (c.copied-starts.ensures ∙ c.starts.ensures.starts ∙ ap (λ (h : FileHead). h.starts) c.head.ensures.head) in
    subst (λ (s : StartPairs). length s.pairs ≡ length (ladder s.match_length)) (sym starts)
    (planned-whole c.args.match_length c.requires.from c.requires.to base.head (subst IsHead c.head.ensures.head c.starts.ensures.valid) c.requires.first pair)
