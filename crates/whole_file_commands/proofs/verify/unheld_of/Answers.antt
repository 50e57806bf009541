use Rattle.std.proofs.Common.{◌≡◌, ◌∙◌, Some, refl, ap, subst}
use Rattle.std.specs.Prelude.{slice_get}
use Rattle.cube_actions.specs.declared.name.StakesName.{StakesName}
use Rattle.cube_actions.specs.Names.{names_of}
use Rattle.cube_actions.specs.Stakes.{Terms}
use Rattle.base_head.specs.Heads.{stakes_of}
use Rattle.run_endings.proofs.Loaded.{name-of-stakes}
use Rattle.whole_file_commands.proofs.verify.unheld_of.Goals as goal

pub returns : goal.returns
returns c =
    let head = c.args.base.now.head in
    let stakes : c.stakes-stakes.result.name ≡ head.name = ap (λ (s : Terms). s.name) (c.stakes-stakes.ensures.stakes ∙ ap stakes_of c.head.ensures.head) ∙ name-of-stakes head.name head.starts in
    record {
      side = refl;
      kind = subst (λ (name : StakesName). slice_get (names_of name) c.args.finding.now.kind ≡ Some c.kind_name.result) stakes c.kind_name.ensures;
      stored = refl;
      computed = refl;
      position = refl;
    }
