use Rattle.interval_words.specs.WordLists.{words_in_list}
use Rattle.best_reply.specs.Tables.{policy_of}
use Rattle.whole_file_commands.proofs.reply_laws.replies_hold_for_any_words.Goals as goal

pub returns : goal.returns
returns c = λ words game rounds p k state.
    let policy = policy_of words in
    let legal = c.one_play_is_advised.ensures.legal words.game.stakes (words_in_list words) in
    record {
      encloses = λ scoring ends scored turns most mover.
          c.reply_rounds_enclose_longer_games.ensures words.game game policy legal scoring ends scored rounds turns most mover p k state;
      between = λ scoring turns. c.following_gives_no_more_and_replying_no_less.ensures policy legal words.game.stakes scoring turns p k;
    }
