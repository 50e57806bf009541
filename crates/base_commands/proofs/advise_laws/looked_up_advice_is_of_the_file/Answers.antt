use Rattle.std.proofs.Common.{refl}
use Rattle.turn_rule.specs.Looks.{all_told}
use Rattle.base_head.specs.Heads.{stakes_of}
use Rattle.database_file.specs.Texts.{game_in}
use Rattle.base_commands.proofs.AdviseLaws.{advice-agrees, advice-over, advice-pages}
use Rattle.run_endings.proofs.Pages.{source_in}
use Rattle.base_commands.proofs.advise_laws.looked_up_advice_is_of_the_file.Goals as goal

pub returns : goal.returns
returns c = λ task bytes head kind advice is looked.
    let p = task.position in
    let k = kind.number in
    record {
      state = is;
      pages = advice-pages bytes head p k is.valid is.game is.checkers is.kinds is.state advice looked;
      over = λ u have.
          c.one_list_gives_the_advice.ensures (source_in bytes) (all_told u) (stakes_of head) p k advice refl
          (advice-agrees bytes head p k is.valid is.game is.checkers is.kinds is.state advice looked u have)
          (advice-over bytes head p k is.valid is.game is.checkers is.kinds is.state advice looked u have);
      losses = λ u have sound. (
        sound.0,
        λ turns more scoring within.
            c.advised_actions_lose_at_most_their_bounds.ensures.looked (game_in head) scoring turns (all_told u) (record { right = is.game; within = within; words = sound.1 turns more scoring within })
            p k is.state (source_in bytes) advice refl
            (advice-over bytes head p k is.valid is.game is.checkers is.kinds is.state advice looked u have),
      );
    }
