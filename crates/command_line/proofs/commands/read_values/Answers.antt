use Rattle.command_line.proofs.commands.read_values.Goals as goal

pub returns-in-Bound : goal.returns-in-Bound
returns-in-Bound c = λ given has flags. rw c.in-Bound.is (c.read_bound.ensures given has (rw c.in-Bound.is at flags))

pub returns-in-Race : goal.returns-in-Race
returns-in-Race c = λ given has flags. rw c.in-Race.is (c.read_race.ensures given has (rw c.in-Race.is at flags))

pub returns-in-Solve : goal.returns-in-Solve
returns-in-Solve c = λ given has flags. rw c.in-Solve.is (c.read_solve.ensures given has)

pub returns-in-Show : goal.returns-in-Show
returns-in-Show c = λ given has flags. rw c.in-Show.is (c.read_show.ensures given has (rw c.in-Show.is at flags))

pub returns-in-ShowList : goal.returns-in-ShowList
returns-in-ShowList c = λ given has flags. rw c.in-ShowList.is (c.read_show_list.ensures given has)

pub returns-in-ShowMatch : goal.returns-in-ShowMatch
returns-in-ShowMatch c = λ given has flags. rw c.in-ShowMatch.is (c.read_show_match.ensures given has (rw c.in-ShowMatch.is at flags))

pub returns-in-Migrate : goal.returns-in-Migrate
returns-in-Migrate c = λ given has flags. rw c.in-Migrate.is (c.read_migrate.ensures given has)

pub returns-in-Advise : goal.returns-in-Advise
returns-in-Advise c = λ given has flags. rw c.in-Advise.is (c.read_advise.ensures given has (rw c.in-Advise.is at flags))

pub returns-in-AdviseList : goal.returns-in-AdviseList
returns-in-AdviseList c = λ given has flags. rw c.in-AdviseList.is (c.read_advise_list.ensures given has)

pub returns-in-AdviseMatch : goal.returns-in-AdviseMatch
returns-in-AdviseMatch c = λ given has flags. rw c.in-AdviseMatch.is (c.read_advise_match.ensures given has (rw c.in-AdviseMatch.is at flags))

pub returns-in-Verify : goal.returns-in-Verify
returns-in-Verify c = λ given has flags. rw c.in-Verify.is (c.read_verify.ensures given has)

pub returns-in-Ladder : goal.returns-in-Ladder
returns-in-Ladder c = λ given has flags. rw c.in-Ladder.is (c.read_ladder.ensures given has)

pub returns-in-Analyse : goal.returns-in-Analyse
returns-in-Analyse c = λ given has flags. rw c.in-Analyse.is (c.read_analyse.ensures given has (rw c.in-Analyse.is at flags))

pub returns-in-Study : goal.returns-in-Study
returns-in-Study c = λ given has flags. rw c.in-Study.is (c.read_study.ensures given has (rw c.in-Study.is at flags))

pub returns-in-Make : goal.returns-in-Make
returns-in-Make c = λ given has flags. rw c.in-Make.is (c.read_make.ensures given has)

pub returns-in-Plan : goal.returns-in-Plan
returns-in-Plan c = λ given has flags. rw c.in-Plan.is (c.read_plan.ensures given has)

pub returns-in-Scan : goal.returns-in-Scan
returns-in-Scan c = λ given has flags. rw c.in-Scan.is (c.read_scan.ensures given has)

pub returns-in-Reply : goal.returns-in-Reply
returns-in-Reply c = λ given has flags. rw c.in-Reply.is (c.read_reply.ensures given has)

pub returns-in-Board : goal.returns-in-Board
returns-in-Board c = λ given has flags. rw c.in-Board.is (c.read_board.ensures given has (rw c.in-Board.is at flags))
