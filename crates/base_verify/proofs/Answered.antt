-- What may be answered of the same words.
use Rattle.std.proofs.Common.{◌≡◌, ◌⊎◌, Result, Ok, Err, ap, inl, inr, refl}
use Rattle.std.specs.Result.{IsOk}
use Rattle.turn_rule.specs.Truth.{AreConsistent}
use Rattle.interval_words.specs.WordLists.{WordList, words_in_list}
use Rattle.base_verify.specs.declared.finding.Finding.{Finding}
use Rattle.base_verify.specs.declared.finding.VerifyStop.{VerifyStop}
use Rattle.base_verify.specs.declared.finding.VerifyStop.TheVariants.{Inconsistent, NoMemory}
use Rattle.base_verify.specs.Findings.{IsFirstFinding, TellsConsistency}
use Rattle.base_verify.proofs.Whole.{never-holds, one-first}

never-both : (words : WordList) (f : Finding) → AreConsistent words.game (words_in_list words) → IsFirstFinding words f → ⊥
never-both words f consistent first = never-holds words f first.found (consistent f.side f.position f.kind first.found.state)

pub answers-agree : (words : WordList) (one other : Result (Unit {0}) VerifyStop) → TellsConsistency words one → TellsConsistency words other → (one ≡ other) ⊎ (one ≡ Err NoMemory) ⊎ (other ≡ Err NoMemory)
answers-agree words (Ok x) (Ok y) a b = inl refl
answers-agree words (Ok x) (Err (Inconsistent g)) a b = absurd (never-both words g a b)
answers-agree words (Ok x) (Err NoMemory) a b = inr (inr refl)
answers-agree words (Err (Inconsistent f)) (Ok y) a b = absurd (never-both words f b a)
answers-agree words (Err (Inconsistent f)) (Err (Inconsistent g)) a b = inl (ap (λ (h : Finding). Err (Inconsistent h)) (one-first words f g a b))
answers-agree words (Err (Inconsistent f)) (Err NoMemory) a b = inr (inr refl)
answers-agree words (Err NoMemory) other a b = inr (inl refl)

pub consistent-pass : (words : WordList) (answer : Result (Unit {0}) VerifyStop) → AreConsistent words.game (words_in_list words) → TellsConsistency words answer → IsOk answer ⊎ (answer ≡ Err NoMemory)
consistent-pass words (Ok x) consistent told = inl refl
consistent-pass words (Err (Inconsistent f)) consistent told = absurd (never-both words f consistent told)
consistent-pass words (Err NoMemory) consistent told = inr refl
