-- What the commands that are read keep to.
use Rattle.std.specs.Prelude.{◌≢◌, ◌*◌, ◌^◌, ◌<◌, ◌≤◌, ℤ, pos, ◌<ℤ◌, ◌≤ℤ◌, length, IfSome, ⊤}
use Rattle.position_rank.specs.Placement.{IsPosition, IsLive}
use Rattle.roll_table.specs.Rolls.{IsRoll}
use Rattle.word_forms.specs.Form.{Bytes}
use Rattle.command_line.specs.declared.command.Board.{Board as BoardWords}
use Rattle.command_line.specs.declared.command.Bound.{Bound as BoundWords}
use Rattle.command_line.specs.declared.command.Race.{Race as RaceWords}
use Rattle.command_line.specs.declared.command.Solve.{Solve as SolveWords}
use Rattle.command_line.specs.declared.command.Show.{Show as ShowWords}
use Rattle.command_line.specs.declared.command.ShowList.{ShowList as ShowListWords}
use Rattle.command_line.specs.declared.command.Migrate.{Migrate as MigrateWords}
use Rattle.command_line.specs.declared.command.Advise.{Advise as AdviseWords}
use Rattle.command_line.specs.declared.command.AdviseList.{AdviseList as AdviseListWords}
use Rattle.command_line.specs.declared.command.Analyse.{Analyse as AnalyseWords}
use Rattle.command_line.specs.declared.command.Command.{Command}
use Rattle.command_line.specs.declared.command.Command.TheVariants.{Bound, Race, Solve, Show, ShowList, Migrate, Advise, AdviseList, Verify, Ladder, Analyse, Study, Make, Plan, Scan, Reply, Board}
use Rattle.command_line.specs.declared.command.Ladder.{Ladder as LadderWords}
use Rattle.command_line.specs.declared.command.Make.{Make as MakeWords}
use Rattle.command_line.specs.declared.command.Plan.{Plan as PlanWords}
use Rattle.command_line.specs.declared.command.Reply.{Reply as ReplyWords}
use Rattle.command_line.specs.declared.command.Scan.{Scan as ScanWords}
use Rattle.command_line.specs.declared.command.Shown.{Shown}
use Rattle.command_line.specs.declared.command.Shown.TheVariants.{Worst}
use Rattle.command_line.specs.declared.command.Study.{Study as StudyWords}
use Rattle.command_line.specs.declared.command.Verify.{Verify as VerifyWords}

-- a file's name has 1 to 255 bytes
pub record IsName (name : Bytes) : Type 0 where
  pub some : 1 ≤ length name
  pub short : length name ≤ 255

-- what the names of a ladder's files begin with has 1 to 240 bytes
pub record IsPrefix (prefix : Bytes) : Type 0 where
  pub some : 1 ≤ length prefix
  pub short : length prefix ≤ 240

pub record IsRightBound (bound : BoundWords) : Type 0 where
  pub some : 1 ≤ bound.checkers
  pub few : bound.checkers ≤ 3
  pub begun : 1 ≤ bound.rounds
  pub ended : bound.rounds ≤ 4096
  pub position : IsPosition bound.position
  pub live : IsLive bound.position

pub record IsRightRace (race : RaceWords) : Type 0 where
  pub some : 1 ≤ race.checkers
  pub few : race.checkers ≤ 3
  pub position : IsPosition race.position
  pub live : IsLive race.position

-- a width is above 0 and at most 64 points, in units of 2^-32 points
pub record IsWidth (width : ℤ) : Type 0 where
  pub above : pos 0 <ℤ width
  pub within : width ≤ℤ pos (64 * 2 ^ 32)

pub record IsRightSolve (solve : SolveWords) : Type 0 where
  pub file : IsName solve.file
  pub some : 1 ≤ solve.checkers
  pub few : solve.checkers ≤ 3
  pub begun : 1 ≤ solve.rounds
  pub ended : solve.rounds ≤ 4096
  pub one : 1 ≤ solve.workers
  pub most : solve.workers ≤ 64
  pub width : IfSome solve.width IsWidth

pub record IsRightShow (show : ShowWords) : Type 0 where
  pub file : IsName show.file
  pub position : IsPosition show.position
  pub live : IsLive show.position

pub record IsRightShowList (show : ShowListWords) : Type 0 where
  pub file : IsName show.file
  pub list : IsName show.list
  pub one : 1 ≤ show.workers
  pub most : show.workers ≤ 64

pub record IsRightMigrate (migrate : MigrateWords) : Type 0 where
  pub old : IsName migrate.old
  pub new : IsName migrate.new
  pub apart : migrate.old ≢ migrate.new
  pub one : 1 ≤ migrate.workers
  pub most : migrate.workers ≤ 64

pub record IsRightAdvise (advise : AdviseWords) : Type 0 where
  pub file : IsName advise.file
  pub position : IsPosition advise.position
  pub live : IsLive advise.position
  pub roll : IfSome advise.roll IsRoll

pub record IsRightAdviseList (advise : AdviseListWords) : Type 0 where
  pub file : IsName advise.file
  pub list : IsName advise.list
  pub one : 1 ≤ advise.workers
  pub most : advise.workers ≤ 64

pub record IsRightVerify (verify : VerifyWords) : Type 0 where
  pub file : IsName verify.file
  pub one : 1 ≤ verify.workers
  pub most : verify.workers ≤ 64

pub record IsRightLadder (ladder : LadderWords) : Type 0 where
  pub prefix : IsPrefix ladder.prefix
  pub some : 1 ≤ ladder.checkers
  pub few : ladder.checkers ≤ 3
  pub point : 1 ≤ ladder.match_length
  pub points : ladder.match_length ≤ 5
  pub begun : 1 ≤ ladder.rounds
  pub ended : ladder.rounds ≤ 4096
  pub one : 1 ≤ ladder.workers
  pub most : ladder.workers ≤ 64

-- of the decisions that lost most 1 to 100 are shown
abbrev pub IsRightShown : Shown → Type 0
IsRightShown (Worst most) = (1 ≤ most) × (most ≤ 100)
IsRightShown _ = ⊤

pub record IsRightAnalyse (analyse : AnalyseWords) : Type 0 where
  pub base : IsName analyse.base
  pub rec : IsName analyse.rec
  pub shown : IsRightShown analyse.shown

pub record IsRightStudy (study : StudyWords) : Type 0 where
  pub rec : IsName study.rec
  pub begun : 1 ≤ study.rounds
  pub ended : study.rounds ≤ 4096
  pub one : 1 ≤ study.workers
  pub most : study.workers ≤ 64
  pub shown : IsRightShown study.shown

pub record IsRightMake (make : MakeWords) : Type 0 where
  pub number : make.number < 2 ^ 64
  pub some : 1 ≤ make.games
  pub few : make.games ≤ 1000
  pub file : IsName make.file

pub record IsRightPlan (plan : PlanWords) : Type 0 where
  pub prefix : IsPrefix plan.prefix
  pub point : 1 ≤ plan.match_length
  pub points : plan.match_length ≤ 5

pub record IsRightScan (scan : ScanWords) : Type 0 where
  pub file : IsName scan.file
  pub one : 1 ≤ scan.workers
  pub most : scan.workers ≤ 64

pub record IsRightReply (reply : ReplyWords) : Type 0 where
  pub file : IsName reply.file
  pub position : IsPosition reply.position
  pub live : IsLive reply.position
  pub begun : 1 ≤ reply.rounds
  pub ended : reply.rounds ≤ 4096

pub record IsRightBoard (board : BoardWords) : Type 0 where
  pub position : IsPosition board.position
  pub live : IsLive board.position

-- numbers within their limits, names of files within theirs, live positions, and rolls of two dice
abbrev pub IsRightCommand : Command → Type 0
IsRightCommand (Bound bound) = IsRightBound bound
IsRightCommand (Race race) = IsRightRace race
IsRightCommand (Solve solve) = IsRightSolve solve
IsRightCommand (Show show) = IsRightShow show
IsRightCommand (ShowList show) = IsRightShowList show
IsRightCommand (Migrate migrate) = IsRightMigrate migrate
IsRightCommand (Advise advise) = IsRightAdvise advise
IsRightCommand (AdviseList advise) = IsRightAdviseList advise
IsRightCommand (Verify verify) = IsRightVerify verify
IsRightCommand (Ladder ladder) = IsRightLadder ladder
IsRightCommand (Analyse analyse) = IsRightAnalyse analyse
IsRightCommand (Study study) = IsRightStudy study
IsRightCommand (Make make) = IsRightMake make
IsRightCommand (Plan plan) = IsRightPlan plan
IsRightCommand (Scan scan) = IsRightScan scan
IsRightCommand (Reply reply) = IsRightReply reply
IsRightCommand (Board board) = IsRightBoard board
