use Rattle.std.proofs.Common.{◌≡◌, ◌∙◌, Some, ap, sym, subst}
use Rattle.turn_rule.specs.Looks.{all_told}
use Rattle.interval_words.specs.WordLists.{WordList, source_of, words_in_list}
use Rattle.match_scores.specs.Ladders.{AreWordsAt}
use Rattle.match_scores.specs.Openings.{start_over}
use Rattle.record_analysis.specs.Judging.{Judges}
use Rattle.record_study.specs.Keeping.{JudgedMatch, decisions_in}
use Rattle.record_study.proofs.AtScore.{judged-by-words, zipped-decisions}
use Rattle.record_study.proofs.Keeping.{judged-next}
use Rattle.record_study.proofs.record_keep.RecordKeepKeep.keep.Goals as goal

pub invariant_of-self : goal.invariant_of-self
invariant_of-self c =
    let inside = c.self.inside in
    let judged : JudgedMatch = record { checkers = inside.checkers; rounds = inside.rounds; starts = inside.starts; list = inside.analysis } in
    let starts = c.args.starts.now in
    let score = c.args.score in
    let words = c.args.words.now in
    let same : c.words-words.result.now ≡ words = c.words-words.ensures.words in
    let stakes : c.stakes.result.now ≡ words.game.stakes = c.stakes.ensures ∙ ap (λ (w : WordList). w.game.stakes) same in
    let judges = judged-by-words c.sure_sources_judge.ensures words c.reader.result.words.now c.judge.new.pairs.words.now (c.reader.ensures.source ∙ ap source_of same) c.judge.ensures.source (Some score) c.stakes.result.now stakes inside.analysis c.judge.new.self c.judge.result c.judge.ensures.looked in
    let start : c.start_pair.result ≡ start_over words.game.checkers (words_in_list words) score = c.start_pair.ensures.start ∙ ap (λ (w : WordList). start_over w.game.checkers (words_in_list w) score) same in
    let valid = c.match_length-length.ensures.valid in
    judged-next judged score starts words c.self.invariant (c.requires.before ∙ ap (λ (j : JudgedMatch). j.starts) (sym c.self.view_is)) c.requires.more c.requires.is_next
    (subst (λ (j : JudgedMatch). AreWordsAt j.checkers j.rounds score starts words) (sym c.self.view_is) c.requires.closed)
    c.one_list_gives_the_loss.ensures c.one_list_gives_the_best.ensures (c.ladders_are_exact.ensures.order starts.match_length valid.from valid.to) c.judge.new.self judges c.start_pair.result start c.add.new.self c.add.ensures

pub returns-clause-stays : goal.returns-clause-stays
returns-clause-stays c =
    let words = c.args.words.now in
    let same : c.words-words.result.now ≡ words = c.words-words.ensures.words in
    let stakes : c.stakes.result.now ≡ words.game.stakes = c.stakes.ensures ∙ ap (λ (w : WordList). w.game.stakes) same in
    let judges = judged-by-words c.sure_sources_judge.ensures words c.reader.result.words.now c.judge.new.pairs.words.now (c.reader.ensures.source ∙ ap source_of same) c.judge.ensures.source (Some c.args.score) c.stakes.result.now stakes c.self.inside.analysis c.judge.new.self c.judge.result c.judge.ensures.looked in
    zipped-decisions (Judges (Some c.args.score) words.game.stakes (source_of words) (all_told (words_in_list words))) (λ old new is. is.decision) c.self.inside.analysis c.judge.new.self judges
    ∙ ap (λ (j : JudgedMatch). decisions_in j.list) c.self.view_is
