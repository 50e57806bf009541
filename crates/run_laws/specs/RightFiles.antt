-- Which files are right for what is asked of them: nothing refuses it then but a fault of the files or want of memory.
use Rattle.std.specs.Prelude.{◌≡◌, ◌≤◌, ℕ, List, length, sum, IsFalse, Option, None, ⊤}
use Rattle.outside_log.specs.Files.{Contents}
use Rattle.outside_log.specs.Reading.{begins_otherwise}
use Rattle.turn_rule.specs.Looks.{States}
use Rattle.turn_rule.specs.Truth.{AreConsistent}
use Rattle.interval_words.specs.WordLists.{words_in_list}
use Rattle.word_pages.specs.declared.version.Version.{Version}
use Rattle.word_pages.specs.declared.version.Version.TheVariants.{One, Three}
use Rattle.base_head.specs.Fronts.{head_in}
use Rattle.base_head.specs.Heads.{FileHead, stakes_of}
use Rattle.base_head.specs.Headers.{magic}
use Rattle.database_file.specs.Bases.{IsBaseFrom}
use Rattle.database_file.specs.Faults.{fault_before_pages, header_of_file, whole}
use Rattle.database_file.specs.FileBases.{FileBase}
use Rattle.command_line.specs.declared.command.Advise.{Advise as AdviseTask}
use Rattle.command_line.specs.declared.command.Migrate.{Migrate}
use Rattle.command_line.specs.declared.command.Plan.{Plan}
use Rattle.command_line.specs.declared.command.Reply.{Reply as ReplyTask}
use Rattle.command_line.specs.declared.command.Scan.{Scan}
use Rattle.command_line.specs.declared.command.Show.{Show as ShowTask}
use Rattle.run_endings.specs.Pages.{AreOnRightPages, OfHeld}
use Rattle.run_endings.specs.declared.asked.AskedKind.{AskedKind}
use Rattle.base_commands.specs.Advises.{RestsOn}
use Rattle.run_endings.specs.Games.{HasState, IsKindAsked}
use Rattle.whole_file_commands.specs.Plans.{IsOfFirstGame}
use Rattle.whole_file_commands.specs.Scans.{IsConditionText}

-- Nothing is wrong with a file, where the versions from `oldest` on are read, and this is so of its head and words.
pub record CanLoad (oldest : Version) (Fits : FileBase → Type 0) (bytes : List ℕ) : Type 0 where
  pub base : FileBase
  pub read : IsBaseFrom oldest (whole bytes) base
  pub fits : Fits base

-- Nothing is wrong with what stands before a file's pages, this is so of its head, and the pages are right on which it rests what is sought.
pub record CanLookUp (Fits : FileHead → Type 0) (Rests : FileHead → States)
    (bytes : List ℕ) : Type 0 where
  pub front : fault_before_pages (whole bytes) ≡ None
  pub fits : Fits (head_in (header_of_file bytes) bytes)
  pub pages : AreOnRightPages bytes (Rests (head_in (header_of_file bytes) bytes))

-- ---- of each command

-- the file is of the position's number of checkers, and the position's page is right
abbrev pub IsRightForShowing : ShowTask → Option (List ℕ) → Type 0
IsRightForShowing task held = OfHeld held
    (CanLookUp (λ head. head.checkers ≡ sum task.position.mover) (λ head q k. q ≡ task.position))

-- a list is there, and isn't too long
abbrev pub IsRightList : Option (List ℕ) → Type 0
IsRightList held = OfHeld held (λ list. length list ≤ 67108864)

-- nothing is wrong with what stands before a file's pages
abbrev pub HasRightFront : Option (List ℕ) → Type 0
HasRightFront held = OfHeld held (λ bytes. fault_before_pages (whole bytes) ≡ None)

-- the same of a file of this name, and a list is there under that one
abbrev pub IsRightForListing : List ℕ → List ℕ → Contents → Type 0
IsRightForListing file list held = IsRightList (held list) × HasRightFront (held file)

-- the states on which the advice that is asked for rests
abbrev pub AdviceRestsOn : AdviseTask → FileHead → States
AdviceRestsOn task head = λ q j.
    (kind : AskedKind) × IsKindAsked head task.kind kind
    × RestsOn task.roll (stakes_of head) task.position kind.number q j

-- the file's game has the state in which advice is sought, and the pages are right on which the advice rests
abbrev pub IsRightForAdvising : AdviseTask → Option (List ℕ) → Type 0
IsRightForAdvising task held =
    OfHeld held (CanLookUp (HasState task.position task.kind) (AdviceRestsOn task))

abbrev pub HasConsistentWords : FileBase → Type 0
HasConsistentWords base = AreConsistent base.words.game (words_in_list base.words)

-- nothing is wrong with the file, and its words are consistent
abbrev pub IsRightForVerifying : Version → Option (List ℕ) → Type 0
IsRightForVerifying oldest held = OfHeld held (CanLoad oldest HasConsistentWords)

-- the same of the old file, of any version, and what stands under the new name may be replaced
abbrev pub IsRightForMigrating : Migrate → Contents → Type 0
IsRightForMigrating task held =
    IsRightForVerifying One (held task.old) × IsFalse (begins_otherwise magic (held task.new))

-- the text is that of a condition, and nothing is wrong with the file
abbrev pub IsRightForScanning : Scan → Option (List ℕ) → Type 0
IsRightForScanning task held =
    IsConditionText task.condition × OfHeld held (CanLoad Three (λ base. ⊤))

-- nothing is wrong with the file, and its game has the state of which a reply is asked for
abbrev pub IsRightForReplying : ReplyTask → Option (List ℕ) → Type 0
IsRightForReplying task held =
    OfHeld held (CanLoad Three (λ base. HasState task.position task.kind base.head))

-- nothing is wrong with the file, and it is of the first game of the match
abbrev pub IsRightForPlanning : Plan → Option (List ℕ) → Type 0
IsRightForPlanning task held =
    OfHeld held (CanLoad Three (λ base. IsOfFirstGame task.match_length base.head))
