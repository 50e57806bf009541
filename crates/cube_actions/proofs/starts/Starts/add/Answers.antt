use Rattle.std.proofs.Common.{arith}
use Rattle.cube_actions.proofs.LadderOfFive.{ladder_few}
use Rattle.cube_actions.proofs.starts.Starts.add.Goals as goal

pub push-requires : goal.push-requires
push-requires c =
    let starts = c.self.invariant in
    let few = ladder_few c.self.inside.match_length starts.from starts.to in
    (omega arith, omega (arith, few, rw (← c.self.view_is) at c.requires.room))
