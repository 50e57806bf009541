use Rattle.std.proofs.Common.{refl}
use Rattle.turn_rule.specs.Looks.{all_told}
use Rattle.base_head.specs.Heads.{stakes_of}
use Rattle.database_file.specs.Texts.{game_in}
use Rattle.base_commands.proofs.AdviseLaws.{ranking-agrees, ranking-over, ranking-pages}
use Rattle.run_endings.proofs.Pages.{source_in}
use Rattle.base_commands.proofs.advise_laws.looked_up_rankings_are_of_the_file.Goals as goal

pub returns : goal.returns
returns c = λ task roll bytes head kind ranking is right looked.
    let p = task.position in
    let k = kind.number in
    record {
      state = is;
      pages = ranking-pages bytes head p k is.valid is.game is.checkers is.kinds is.state roll right ranking looked;
      over = λ u have.
          c.one_list_gives_the_ranking.ensures (source_in bytes) (all_told u) (stakes_of head) p k roll ranking refl
          (ranking-agrees bytes head p k is.valid is.game is.checkers is.kinds is.state roll right ranking looked u have)
          (ranking-over bytes head p k is.valid is.game is.checkers is.kinds is.state roll right ranking looked u have);
      losses = λ u have sound. (
        sound.0,
        λ turns more scoring within.
            c.best_plays_lose_at_most_their_bounds.ensures.looked (game_in head) scoring turns (all_told u) (record { right = is.game; within = within; words = sound.1 turns more scoring within })
            p k is.state roll right (source_in bytes) ranking refl
            (ranking-over bytes head p k is.valid is.game is.checkers is.kinds is.state roll right ranking looked u have),
      );
    }
