use Rattle.std.proofs.Common.{◌≡◌, ◌∙◌, inr, ap, refl, sym, subst, rules}
use Rattle.std.specs.Prelude.{Contains}
use Rattle.std.proofs.lemmas.Bool.{false≢true}
use Rattle.cube_actions.specs.declared.name.StakesName.{StakesName}
use Rattle.cube_actions.specs.Names.{names_of}
use Rattle.cube_actions.specs.Stakes.{Terms}
use Rattle.run_endings.proofs.Loaded.{name-of-stakes}
use Rattle.run_endings.proofs.asked.asked_kind.Goals as goal

pub returns-in-None-clause-asked : goal.returns-in-None-clause-asked
returns-in-None-clause-asked c =
    let head = c.args.head.now in
    let named : c.stakes-stakes.result.name ≡ head.name = ap (λ (t : Terms). t.name) c.stakes-stakes.ensures.stakes ∙ name-of-stakes head.name head.starts in
    inr (record {
      checkers = search rules;
      name = c.in-Some.name;
      is_asked = c.in-Some.is;
      none = λ has. false≢true (c.in-None.ensures.some.1 (subst (λ (n : StakesName). Contains (names_of n) c.in-Some.name) (sym named) has));
      line = rw (c.game_told-game.ensures) refl;
    })
