-- What is known of a file that was loaded, or wasn't.
use Rattle.std.proofs.Common.{◌≡◌, List, ℕ, Bool, true, false, IsTrue, Option, Some, None, Err, refl, sym, ap, subst, arith}
use Rattle.std.specs.Option.{option_map}
use Rattle.std.proofs.lemmas.Bool.{false≢true}
use Rattle.arrayvec.specs.ArrayString.{ArrayString}
use Rattle.cube_actions.specs.declared.name.StakesName.{StakesName}
use Rattle.cube_actions.specs.declared.name.StakesName.TheVariants.{Unlimited, Match}
use Rattle.cube_actions.specs.Starts.{StartPairs}
use Rattle.cube_actions.specs.Matches.{stakes_named}
use Rattle.base_head.specs.Heads.{TakesStakes}
use Rattle.word_pages.specs.declared.version.Version.{Version}
use Rattle.word_pages.specs.declared.version.Version.TheVariants.{One, Two, Three}
use Rattle.database_file.specs.declared.stop.LoadStop.{LoadStop}
use Rattle.database_file.specs.declared.stop.LoadStop.TheVariants as stops
use Rattle.database_file.specs.Bases.{AnswersFrom}
use Rattle.database_file.specs.Opened.{AnswersPaged}
use Rattle.database_file.specs.Faults.{Read as FileRead, whole}
use Rattle.equity_report.specs.declared.refusal.Refusal.{Refusal}
use Rattle.equity_report.specs.declared.refusal.Refusal.TheVariants.{Missing, File, Read, Memory}
use Rattle.run_endings.specs.Loads.{OfFile, TellsStop, RefusesFrom}
use Rattle.run_endings.specs.Pages.{RefusesOpening}

-- of the file that is held, where all answers were faithful, and else of some file
pub of-file : (told : Bool) (held : Option (List ℕ)) (P : Option FileRead → Type 0) → (IsTrue told → P (option_map whole held)) → ((file : Option FileRead) × P file) → OfFile told held P
of-file true held P known some = (option_map whole held, λ _. refl, known refl)
of-file false held P known some = (some.0, λ no. absurd (false≢true no), some.1)

refuses : (oldest : Version) (name : List ℕ) (file : Option FileRead) (refusal due : Refusal) → refusal ≡ due → RefusesFrom oldest name due file → RefusesFrom oldest name refusal file
refuses oldest name file refusal due is h = subst (λ (r : Refusal). RefusesFrom oldest name r file) (sym is) h

opens : (name : List ℕ) (held : Option (List ℕ)) (refusal due : Refusal) → refusal ≡ due → RefusesOpening name due held → RefusesOpening name refusal held
opens name held refusal due is h = subst (λ (r : Refusal). RefusesOpening name r held) (sym is) h

-- the refusal of a file that isn't there tells its name
tells-missing : (name : List ℕ) (refusal : Refusal) → TellsStop name stops.Missing refusal → (missing : ArrayString) × (refusal ≡ Missing missing) × (missing.bytes ≡ name)
tells-missing name (Missing missing) t = (missing, refl, t)
tells-missing name refusal t = absurd t

pub not-loaded : (oldest : Version) (name : List ℕ) (file : Option FileRead) (stop : LoadStop) (refusal : Refusal) → AnswersFrom oldest file (Err stop) → TellsStop name stop refusal → RefusesFrom oldest name refusal file
not-loaded oldest name None stops.Missing refusal a t =
    let (missing, is, named) = tells-missing name refusal t in
    refuses oldest name None refusal (Missing missing) is (named, refl)
not-loaded oldest name None (stops.BadFile bad) refusal a t = absurd a
not-loaded oldest name None stops.ReadFault refusal a t = refuses oldest name None refusal Read t tt
not-loaded oldest name None stops.NoMemory refusal a t = absurd a
not-loaded oldest name (Some file) stops.Missing refusal a t = absurd a
not-loaded oldest name (Some file) (stops.BadFile bad) refusal a t = refuses oldest name (Some file) refusal (File bad) t a
not-loaded oldest name (Some file) stops.ReadFault refusal a t = refuses oldest name (Some file) refusal Read t tt
not-loaded oldest name (Some file) stops.NoMemory refusal a t = refuses oldest name (Some file) refusal Memory t tt

-- a file whose pages are looked up is refused by what stands before them
pub not-opened : (name : List ℕ) (held : Option (List ℕ)) (stop : LoadStop) (refusal : Refusal) → AnswersPaged (option_map whole held) (Err stop) → TellsStop name stop refusal → RefusesOpening name refusal held
not-opened name None stops.Missing refusal a t =
    let (missing, is, named) = tells-missing name refusal t in
    opens name None refusal (Missing missing) is (named, refl)
not-opened name None (stops.BadFile bad) refusal a t = absurd a
not-opened name None stops.ReadFault refusal a t = opens name None refusal Read t tt
not-opened name None stops.NoMemory refusal a t = absurd a
not-opened name (Some bytes) stops.Missing refusal a t = absurd a
not-opened name (Some bytes) (stops.BadFile bad) refusal a t = opens name (Some bytes) refusal (File bad) t a
not-opened name (Some bytes) stops.ReadFault refusal a t = opens name (Some bytes) refusal Read t tt
not-opened name (Some bytes) stops.NoMemory refusal a t = opens name (Some bytes) refusal Memory t tt

-- stakes have the name that they are named by
pub name-of-stakes : (name : StakesName) (starts : StartPairs) → (stakes_named name starts).name ≡ name
name-of-stakes (Unlimited rule) starts = refl
name-of-stakes (Match score) starts = refl

-- version 3 isn't version 1, and so takes all stakes
abbrev number_of : Version → ℕ
number_of One = 1
number_of Two = 2
number_of Three = 3

pub three-takes : (stakes : StakesName) → TakesStakes Three stakes
three-takes stakes is = absurd (omega (arith, ap number_of is))
