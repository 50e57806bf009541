use Rattle.std.proofs.Common.{◌≡◌, ap, ◌∙◌}
use Rattle.cube_actions.specs.Names.{names_of}
use Rattle.game_record.specs.Kinds.{game_stakes, kind_number}
use Rattle.game_record.proofs.Numbers.{number-is}
use Rattle.game_record.proofs.moment.Moment.kind_number.Goals as goal

-- src/moment.rt:194:5
pub returns : goal.returns
returns c =
    let stakes = c.args.stakes.now.name in
    let name = c.kind_of_turn.result in
    let here : c.in-Some.number ≡ kind_number stakes name = number-is name (names_of stakes) c.in-Some.number (c.names_tell_kinds.ensures.distinct stakes) c.in-Some.ensures.found in
    here ∙ ap (λ s. kind_number s name) c.requires.name ∙ ap (kind_number (game_stakes c.args.self.now.stakes c.args.self.now.standing)) c.kind_of_turn.ensures
