use Rattle.std.proofs.Common.{◌≡◌, Option, [], ◌∷◌, ◌++◌, IfSome, subst, sym}
use Rattle.turn_rule.specs.declared.game.Game.{Game}
use Rattle.interval_words.specs.WordLists.{AreRight, WordList, list_of, states_of}
use Rattle.word_pages.specs.declared.version.Version.TheVariants.{Three}
use Rattle.outside_log.specs.Log.{Adds, Started}
use Rattle.outside_log.specs.Readings.{ReadsOn, WritesFile}
use Rattle.outside_log.proofs.Readings.{reads-none}
use Rattle.database_file.specs.Texts.{file_text, game_in}
use Rattle.game_census.specs.Saved.{WereRead}
use Rattle.game_census.proofs.saving.save.Goals as goal

pub returns : goal.returns
returns g c ok =
    let head = c.args.head.now in
    let name = c.args.name.now in
    let list = c.in_ok-list.list.items in
    let before = g.F.Files.log c.args.files.now in
    let begun = g.F.Files.log c.start.new.self in
    let middle = g.F.Files.log c.append_base.new.files in
    let same : c.in-Some.words ≡ list_of (game_in head) head.rounds list =
    subst (λ (made : Option WordList). IfSome made (λ (words : WordList). words ≡ list_of (game_in head) head.rounds list)) c.in-Some.is c.in_ok-words.ensures in
    let text : WritesFile name (file_text Three head list) before (g.F.Files.log c.finish.new.self) = record {
      begun = begun;
      begins = subst (ReadsOn (before ++ Started name ∷ [])) (sym c.in_ok-start.ensures) (reads-none _);
      completes = record {
        middle = middle;
        adds = subst (λ (words : WordList). Adds name (file_text Three head words.list) begun middle) same c.in_ok-append_base.ensures.adds;
        ends = c.in_ok-finish.ensures;
      };
    } in
    record {
      list = list;
      read = subst (λ (game : Game). WereRead game (states_of game) list) c.requires.game c.in_ok-list.ensures;
      right = subst AreRight same c.right.ensures.right;
      text = text;
    }
