-- The file whose advice is followed, and why a reply is refused.
use Rattle.std.proofs.Common.{◌≡◌, ◌∙◌, ℕ, Bool, List, Option, Ok, subst}
use Rattle.position_rank.specs.Placement.{Placement}
use Rattle.turn_rule.specs.States.{pair_of}
use Rattle.interval_words.specs.WordLists.{WordList, words_in_list}
use Rattle.best_reply.specs.Replies.{Follower, Replier}
use Rattle.whole_file_reports.specs.Replies.{reply_text}
use Rattle.whole_file_commands.specs.declared.reply.FoundReply.{FoundReply}
use Rattle.whole_file_commands.specs.declared.reply.LoadedFile.{LoadedFile}
use Rattle.command_line.specs.declared.command.Reply.{Reply as ReplyTask}
use Rattle.whole_file_commands.specs.Replies.{AnswersLoaded, AreReplies, HasReplied, HoldsReplying, replies_to}

-- the pairs of a table after as many rounds are those that are asked for
pub after-rounds : (words : WordList) (rounds : ℕ) (p : Placement) (k : ℕ) (swept : WordList) (round : ℕ) → swept ≡ words → round ≡ rounds → (found : FoundReply)
    → found.follow ≡ pair_of (replies_to swept round Follower) p k → found.reply ≡ pair_of (replies_to swept round Replier) p k → found.base ≡ pair_of (words_in_list words) p k → AreReplies words rounds p k found
after-rounds words rounds p k swept round is last found follow reply base = record {
  follow = follow ∙ (λ i. pair_of (replies_to (is i) (last i) Follower) p k);
  reply = reply ∙ (λ i. pair_of (replies_to (is i) (last i) Replier) p k);
  base = base;
}

-- the report was put of a state of the file that was loaded
pub has-replied : (task : ReplyTask) (told : Bool) (held : Option (List ℕ)) (loaded : LoadedFile) → AnswersLoaded task told held (Ok loaded)
    → HoldsReplying loaded.base.words task.rounds task.position loaded.kind.number → (found : FoundReply) → AreReplies loaded.base.words task.rounds task.position loaded.kind.number found
    → (IsReport : List ℕ → Type 0) → IsReport (reply_text task.position loaded.kind.name found.follow found.reply found.base) → HasReplied task told held IsReport
has-replied task told held loaded answers holds found are IsReport report = record {
  base = loaded.base;
  read = answers.0;
  kind = loaded.kind;
  checkers = answers.1.0;
  kind_is = answers.1.1;
  holds = holds;
  report = subst IsReport (λ i. reply_text task.position loaded.kind.name (are.follow i) (are.reply i) (are.base i)) report;
}
