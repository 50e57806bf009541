use Rattle.std.proofs.Common.{◌≡◌, ◌∙◌, true, List, sym, subst}
use Rattle.game_record.specs.declared.record.Action.{Action}
use Rattle.record_maker.specs.declared.due.Due.{Due}
use Rattle.record_maker.specs.declared.due.Due.TheVariants.{Start}
use Rattle.record_maker.specs.Makers.{moment_at, is_unfinished}
use Rattle.record_maker.specs.Making.{due_after}
use Rattle.record_maker.proofs.Playing.{HasPlayed, played-more}
use Rattle.record_maker.proofs.state.Maker.play_out.Goals as goal

-- the action that was due has been done
pub loop-due-preserved : goal.loop-due-preserved
loop-due-preserved c =
    let start = moment_at c.args.self.now Start in
    let action = c.act-action.result in
    let on : is_unfinished (moment_at c.loop-due.self c.loop-due.due) ≡ true = sym c.goes_on.ensures ∙ c.loop-due-test.true in
    let played = played-more start c.loop-due.actions c.loop-due.self c.loop-due.due action c.act-action.new.self c.loop-due.invariant on c.act-action.ensures in
    let listed = subst (λ (actions : List Action). HasPlayed start actions c.act-action.new.self (due_after action.player action.what)) (sym c.in_ok-push.ensures.ok) played in
    subst (λ (due : Due). HasPlayed start c.push.new.self c.act-action.new.self due) (sym c.after-due.ensures) listed
