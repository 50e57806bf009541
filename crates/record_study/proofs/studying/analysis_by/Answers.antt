use Rattle.std.proofs.Common.{◌∙◌, None, refl, ap}
use Rattle.turn_rule.specs.Looks.{Source, all_told}
use Rattle.interval_words.specs.WordLists.{source_of, words_in_list}
use Rattle.record_analysis.specs.Judging.{JudgesAll}
use Rattle.record_study.proofs.Records.{answered, unjudged-can}
use Rattle.record_study.proofs.studying.analysis_by.Goals as goal

pub judge-requires-clause-can : goal.judge-requires-clause-can
judge-requires-clause-can c =
    let words = c.args.words.now in
    rw (c.in_ok-analysis.ensures, c.stakes.ensures, c.reader.ensures.source) (unjudged-can (source_of words) words.game.stakes c.args.decisions c.requires.can)

pub returns : goal.returns
returns c =
    let words = c.args.words.now in
    let old = c.reader.result.words.now in
    let new = c.judge.new.pairs.words.now in
    let before = c.in_ok-analysis.analysis in
    let after = c.judge.new.self in
    let stakes = c.stakes.result.now in
    let ok = c.sure_sources_judge.ensures (record { source = source_of old; notes = all_told (words_in_list old); faults = 0 }) (record { source = source_of new; notes = all_told (words_in_list new); faults = 0 })
    None stakes before after c.judge.result refl c.judge.ensures.looked in
    let judges = answered (JudgesAll None stakes (source_of old) (all_told (words_in_list new)) before after) c.judge.result ok c.judge.ensures.looked.answer in
    let notes = ap (λ (s : Source). s.floor) (c.judge.ensures.source ∙ c.reader.ensures.source) in
    c.one_list_gives_the_analysis.ensures (source_of words) (all_told (words_in_list words)) words.game.stakes c.args.decisions after refl c.requires.plain c.requires.can (λ end q j may. refl)
    (rw (c.in_ok-analysis.ensures, c.stakes.ensures, c.reader.ensures.source, notes) at judges)
