-- The commands: their names, their forms, and what their values ask for.
use Rattle.std.specs.Prelude.{ℕ, Bool, [], ◌∷◌, codes, Option, Some, None, Result, Ok, Err, if◌then◌else◌}
use Rattle.std.specs.Option.{option_map_or}
use Rattle.std.specs.Str.{bytes_eq}
use Rattle.hyper_outside.specs.declared.outside.WordsKind.{WordsKind}
use Rattle.hyper_outside.specs.declared.outside.WordsKind.TheVariants.{Value}
use Rattle.cube_actions.specs.declared.name.MoneyRule.TheVariants.{Jacoby}
use Rattle.word_forms.specs.Form.{Bytes, Form, FormValues, given_value, is_set}
use Rattle.command_line.specs.declared.command.Command.{Command}
use Rattle.command_line.specs.declared.command.Command.TheVariants.{Bound, Race, Solve, Show, ShowList, Migrate, Advise, AdviseList, Verify, Ladder, Analyse, Study, Make, Plan, Scan, Reply, Board}
use Rattle.command_line.specs.declared.command.CommandName.{CommandName}
use Rattle.command_line.specs.declared.command.CommandName.TheVariants as name
use Rattle.command_line.specs.declared.stop.WordsFault.{WordsFault}
use Rattle.command_line.specs.declared.stop.WordsFault.TheVariants.{Words}
use Rattle.command_line.specs.Values.{long_number_given, number_given, number_or, rule_or, kind_given, file_name, other_name, prefix, position_given, roll_given, seen_by_doubler, shown_given, take_given, usual_rounds, width_given}
use Rattle.command_line.specs.Away.{away_given, file_at, kind_asked, owner_given, value_given}

-- what words ask for, or why for nothing
abbrev pub Asked : Type 0
Asked = Result Command WordsFault

abbrev pub refused : WordsKind → ℕ → Asked
refused kind place = Err (Words (record { kind = kind; place = place }))

-- with the value of this number, which is refused where it is out of its form
abbrev pub value_checked : {X : Type 0} → ℕ → Option X → (X → Asked) → Asked
value_checked number value next = option_map_or next value (refused Value number)

-- with what a text was read as, unless that was refused
abbrev pub value_read : {X : Type 0} → Result X WordsFault → (X → Asked) → Asked
value_read (Ok value) next = next value
value_read (Err fault) next = Err fault

-- ---- each command: its form, and its values in the order of their numbers; then its position, then
-- its roll. Behind `number_or` stand the limit and the number that is taken where none is given. There
-- are at most 3 checkers, 4,096 rounds, 64 workers, 5 points and 1,000 games.

abbrev pub bound_form : Form
bound_form = record {
  arguments = codes "CHECKERS" ∷ codes "ROUNDS" ∷ codes "POSITION" ∷ [];
  options = [];
  flags = codes "board" ∷ [];
}

abbrev pub bound_values : FormValues → Asked
bound_values given =
    value_checked 1 (number_given 3 (given_value (codes "CHECKERS") given)) (λ checkers.
    value_checked 2 (number_given 4096 (given_value (codes "ROUNDS") given)) (λ rounds.
    value_checked 3 (given_value (codes "POSITION") given) (λ text.
    value_read (position_given text) (λ position.
    Ok (Bound (record {
      checkers = checkers;
      rounds = rounds;
      position = position;
      board = is_set (codes "board") given;
    }))))))

abbrev pub race_form : Form
race_form = record {
  arguments = codes "CHECKERS" ∷ codes "POSITION" ∷ [];
  options = [];
  flags = codes "board" ∷ [];
}

abbrev pub race_values : FormValues → Asked
race_values given =
    value_checked 1 (number_given 3 (given_value (codes "CHECKERS") given)) (λ checkers.
    value_checked 2 (given_value (codes "POSITION") given) (λ text.
    value_read (position_given text) (λ position.
    Ok (Race (record {
      checkers = checkers;
      position = position;
      board = is_set (codes "board") given;
    })))))

abbrev pub solve_form : Form
solve_form = record {
  arguments = codes "FILE" ∷ [];
  options = codes "checkers" ∷ codes "stakes" ∷ codes "rounds" ∷ codes "workers"
      ∷ codes "width" ∷ [];
  flags = [];
}

abbrev pub solve_values : FormValues → Asked
solve_values given =
    value_checked 1 (file_name (given_value (codes "FILE") given)) (λ file.
    value_checked 2 (number_or 3 3 (given_value (codes "checkers") given)) (λ checkers.
    value_checked 3 (rule_or Jacoby (given_value (codes "stakes") given)) (λ rule.
    value_checked 4 (number_or 4096 (usual_rounds (given_value (codes "width") given))
    (given_value (codes "rounds") given)) (λ rounds.
    value_checked 5 (number_or 64 1 (given_value (codes "workers") given)) (λ workers.
    value_checked 6 (width_given (given_value (codes "width") given)) (λ width.
    Ok (Solve (record {
      file = file;
      checkers = checkers;
      rule = rule;
      rounds = rounds;
      workers = workers;
      width = width;
    }))))))))

abbrev pub show_form : Form
show_form = record {
  arguments = codes "FILE" ∷ codes "POSITION" ∷ [];
  options = [];
  flags = codes "board" ∷ codes "id" ∷ [];
}

abbrev pub show_values : FormValues → Asked
show_values given =
    value_checked 1 (file_name (given_value (codes "FILE") given)) (λ file.
    value_checked 2 (given_value (codes "POSITION") given) (λ text.
    value_read (position_given text) (λ position.
    Ok (Show (record {
      file = file;
      position = position;
      board = is_set (codes "board") given;
      id = is_set (codes "id") given;
    })))))

abbrev pub show_list_form : Form
show_list_form = record {
  arguments = codes "FILE" ∷ [];
  options = codes "positions" ∷ codes "workers" ∷ [];
  flags = [];
}

abbrev pub show_list_values : FormValues → Asked
show_list_values given =
    value_checked 1 (file_name (given_value (codes "FILE") given)) (λ file.
    value_checked 2 (file_name (given_value (codes "positions") given)) (λ list.
    value_checked 3 (number_or 64 1 (given_value (codes "workers") given)) (λ workers.
    Ok (ShowList (record { file = file; list = list; workers = workers })))))

-- A match is asked by its score and the names that its files begin with. The score is the side's that
-- asks, as the position is.
abbrev pub show_match_form : Form
show_match_form = record {
  arguments = codes "PREFIX" ∷ codes "POSITION" ∷ [];
  options = codes "away" ∷ [];
  flags = codes "crawford" ∷ codes "post" ∷ codes "board" ∷ codes "id" ∷ [];
}

abbrev pub show_at_score : (crawford post board id : Bool) → FormValues → Asked
show_at_score crawford post board id given =
    value_checked 1 (prefix (given_value (codes "PREFIX") given)) (λ prefix.
    value_checked 2 (given_value (codes "POSITION") given) (λ text.
    value_checked 3 (away_given (given_value (codes "away") given) crawford post) (λ away.
    value_read (position_given text) (λ position.
    Ok (Show (record {
      file = file_at prefix away.score;
      position = position;
      board = board;
      id = id;
    }))))))

abbrev pub show_match_values : FormValues → Asked
show_match_values given = show_at_score (is_set (codes "crawford") given)
    (is_set (codes "post") given) (is_set (codes "board") given) (is_set (codes "id") given) given

abbrev pub migrate_form : Form
migrate_form = record {
  arguments = codes "OLD" ∷ codes "NEW" ∷ [];
  options = codes "workers" ∷ [];
  flags = [];
}

-- the new name is another one
abbrev pub migrate_values : FormValues → Asked
migrate_values given =
    value_checked 1 (file_name (given_value (codes "OLD") given)) (λ old.
    value_checked 2 (other_name old (given_value (codes "NEW") given)) (λ new.
    value_checked 3 (number_or 64 1 (given_value (codes "workers") given)) (λ workers.
    Ok (Migrate (record { old = old; new = new; workers = workers })))))

abbrev pub advise_form : Form
advise_form = record {
  arguments = codes "FILE" ∷ codes "POSITION" ∷ [];
  options = codes "kind" ∷ codes "roll" ∷ [];
  flags = codes "board" ∷ codes "take" ∷ [];
}

-- Who asks whether to take gives the position as the side sees it that was doubled, and no roll.
abbrev pub advise_values : FormValues → Asked
advise_values given =
    let roll = given_value (codes "roll") given in
    value_checked 1 (file_name (given_value (codes "FILE") given)) (λ file.
    value_checked 2 (given_value (codes "POSITION") given) (λ text.
    value_checked 3 (kind_given (given_value (codes "kind") given)) (λ kind.
    value_checked 4 (take_given (is_set (codes "take") given) roll) (λ take.
    value_read (position_given text) (λ position.
    value_read (roll_given roll) (λ roll.
    Ok (Advise (record {
      file = file;
      position = seen_by_doubler take position;
      kind = kind;
      roll = roll;
      take = take;
      board = is_set (codes "board") given;
    }))))))))

abbrev pub advise_list_form : Form
advise_list_form = record {
  arguments = codes "FILE" ∷ [];
  options = codes "rolls" ∷ codes "kind" ∷ codes "workers" ∷ [];
  flags = [];
}

abbrev pub advise_list_values : FormValues → Asked
advise_list_values given =
    value_checked 1 (file_name (given_value (codes "FILE") given)) (λ file.
    value_checked 2 (file_name (given_value (codes "rolls") given)) (λ list.
    value_checked 3 (kind_given (given_value (codes "kind") given)) (λ kind.
    value_checked 4 (number_or 64 1 (given_value (codes "workers") given)) (λ workers.
    Ok (AdviseList (record { file = file; list = list; kind = kind; workers = workers }))))))

abbrev pub advise_match_form : Form
advise_match_form = record {
  arguments = codes "PREFIX" ∷ codes "POSITION" ∷ [];
  options = codes "away" ∷ codes "cube" ∷ codes "value" ∷ codes "roll" ∷ [];
  flags = codes "crawford" ∷ codes "post" ∷ codes "board" ∷ codes "take" ∷ [];
}

abbrev pub advise_at_score : (crawford post board take : Bool) → FormValues → Asked
advise_at_score crawford post board take given =
    let roll = given_value (codes "roll") given in
    value_checked 1 (prefix (given_value (codes "PREFIX") given)) (λ prefix.
    value_checked 2 (given_value (codes "POSITION") given) (λ text.
    value_checked 3 (away_given (given_value (codes "away") given) crawford post) (λ away.
    value_checked 4 (owner_given away.side (given_value (codes "cube") given)) (λ owner.
    value_checked 5 (value_given owner (given_value (codes "value") given)) (λ value.
    value_checked 6 (take_given take roll) (λ take.
    value_read (position_given text) (λ position.
    value_read (roll_given roll) (λ roll.
    Ok (Advise (record {
      file = file_at prefix away.score;
      position = seen_by_doubler take position;
      kind = Some (kind_asked take away.side value owner);
      roll = roll;
      take = take;
      board = board;
    }))))))))))

abbrev pub advise_match_values : FormValues → Asked
advise_match_values given = advise_at_score (is_set (codes "crawford") given)
    (is_set (codes "post") given) (is_set (codes "board") given) (is_set (codes "take") given) given

abbrev pub verify_form : Form
verify_form = record { arguments = codes "FILE" ∷ []; options = codes "workers" ∷ []; flags = [] }

abbrev pub verify_values : FormValues → Asked
verify_values given =
    value_checked 1 (file_name (given_value (codes "FILE") given)) (λ file.
    value_checked 2 (number_or 64 1 (given_value (codes "workers") given)) (λ workers.
    Ok (Verify (record { file = file; workers = workers }))))

abbrev pub ladder_form : Form
ladder_form = record {
  arguments = codes "PREFIX" ∷ [];
  options = codes "checkers" ∷ codes "length" ∷ codes "rounds" ∷ codes "workers" ∷ [];
  flags = [];
}

abbrev pub ladder_values : FormValues → Asked
ladder_values given =
    value_checked 1 (prefix (given_value (codes "PREFIX") given)) (λ prefix.
    value_checked 2 (number_or 3 3 (given_value (codes "checkers") given)) (λ checkers.
    value_checked 3 (number_or 5 3 (given_value (codes "length") given)) (λ points.
    value_checked 4 (number_or 4096 64 (given_value (codes "rounds") given)) (λ rounds.
    value_checked 5 (number_or 64 1 (given_value (codes "workers") given)) (λ workers.
    Ok (Ladder (record {
      prefix = prefix;
      checkers = checkers;
      match_length = points;
      rounds = rounds;
      workers = workers;
    })))))))

abbrev pub analyse_form : Form
analyse_form = record {
  arguments = codes "BASE" ∷ codes "RECORD" ∷ [];
  options = codes "worst" ∷ [];
  flags = codes "full" ∷ codes "board" ∷ [];
}

abbrev pub analyse_values : FormValues → Asked
analyse_values given =
    value_checked 1 (file_name (given_value (codes "BASE") given)) (λ base.
    value_checked 2 (file_name (given_value (codes "RECORD") given)) (λ rec.
    value_checked 3 (shown_given (is_set (codes "full") given) (is_set (codes "board") given)
    (given_value (codes "worst") given)) (λ shown.
    Ok (Analyse (record {
      base = base;
      rec = rec;
      shown = shown;
      board = is_set (codes "board") given;
    })))))

abbrev pub study_form : Form
study_form = record {
  arguments = codes "RECORD" ∷ [];
  options = codes "rounds" ∷ codes "workers" ∷ codes "worst" ∷ [];
  flags = codes "full" ∷ codes "board" ∷ [];
}

abbrev pub study_values : FormValues → Asked
study_values given =
    value_checked 1 (file_name (given_value (codes "RECORD") given)) (λ rec.
    value_checked 2 (number_or 4096 64 (given_value (codes "rounds") given)) (λ rounds.
    value_checked 3 (number_or 64 1 (given_value (codes "workers") given)) (λ workers.
    value_checked 4 (shown_given (is_set (codes "full") given) (is_set (codes "board") given)
    (given_value (codes "worst") given)) (λ shown.
    Ok (Study (record {
      rec = rec;
      rounds = rounds;
      workers = workers;
      shown = shown;
      board = is_set (codes "board") given;
    }))))))

abbrev pub make_form : Form
make_form = record {
  arguments = codes "NUMBER" ∷ codes "GAMES" ∷ codes "FILE" ∷ [];
  options = [];
  flags = [];
}

-- any number of 64 bits names a record, 0 too
abbrev pub make_values : FormValues → Asked
make_values given =
    value_checked 1 (long_number_given (given_value (codes "NUMBER") given)) (λ number.
    value_checked 2 (number_given 1000 (given_value (codes "GAMES") given)) (λ games.
    value_checked 3 (file_name (given_value (codes "FILE") given)) (λ file.
    Ok (Make (record { number = number; games = games; file = file })))))

abbrev pub plan_form : Form
plan_form = record { arguments = codes "PREFIX" ∷ []; options = codes "length" ∷ []; flags = [] }

abbrev pub plan_values : FormValues → Asked
plan_values given =
    value_checked 1 (prefix (given_value (codes "PREFIX") given)) (λ prefix.
    value_checked 2 (number_or 5 3 (given_value (codes "length") given)) (λ points.
    Ok (Plan (record { prefix = prefix; match_length = points }))))

abbrev pub scan_form : Form
scan_form = record {
  arguments = codes "FILE" ∷ codes "CONDITION" ∷ [];
  options = codes "workers" ∷ [];
  flags = [];
}

-- a condition has no form here
abbrev pub scan_values : FormValues → Asked
scan_values given =
    value_checked 1 (file_name (given_value (codes "FILE") given)) (λ file.
    value_checked 2 (given_value (codes "CONDITION") given) (λ condition.
    value_checked 3 (number_or 64 1 (given_value (codes "workers") given)) (λ workers.
    Ok (Scan (record { file = file; condition = condition; workers = workers })))))

abbrev pub reply_form : Form
reply_form = record {
  arguments = codes "FILE" ∷ codes "POSITION" ∷ [];
  options = codes "kind" ∷ codes "rounds" ∷ [];
  flags = [];
}

abbrev pub reply_values : FormValues → Asked
reply_values given =
    value_checked 1 (file_name (given_value (codes "FILE") given)) (λ file.
    value_checked 2 (given_value (codes "POSITION") given) (λ text.
    value_checked 3 (kind_given (given_value (codes "kind") given)) (λ kind.
    value_checked 4 (number_or 4096 16 (given_value (codes "rounds") given)) (λ rounds.
    value_read (position_given text) (λ position.
    Ok (Reply (record { file = file; position = position; kind = kind; rounds = rounds })))))))

abbrev pub board_form : Form
board_form = record { arguments = codes "POSITION" ∷ []; options = []; flags = codes "id" ∷ [] }

abbrev pub board_values : FormValues → Asked
board_values given =
    value_checked 1 (given_value (codes "POSITION") given) (λ text.
    value_read (position_given text) (λ position.
    Ok (Board (record { position = position; id = is_set (codes "id") given }))))

-- ---- all of them

abbrev pub command_named : Bytes → Option CommandName
command_named word =
    if bytes_eq word (codes "bound") then Some name.Bound
    else (if bytes_eq word (codes "race") then Some name.Race
    else (if bytes_eq word (codes "solve") then Some name.Solve
    else (if bytes_eq word (codes "show") then Some name.Show
    else (if bytes_eq word (codes "migrate") then Some name.Migrate
    else (if bytes_eq word (codes "advise") then Some name.Advise
    else (if bytes_eq word (codes "verify") then Some name.Verify
    else (if bytes_eq word (codes "ladder") then Some name.Ladder
    else (if bytes_eq word (codes "analyse") then Some name.Analyse
    else (if bytes_eq word (codes "study") then Some name.Study
    else (if bytes_eq word (codes "make") then Some name.Make
    else (if bytes_eq word (codes "plan") then Some name.Plan
    else (if bytes_eq word (codes "scan") then Some name.Scan
    else (if bytes_eq word (codes "reply") then Some name.Reply
    else (if bytes_eq word (codes "board") then Some name.Board else None))))))))))))))

abbrev pub command_form : CommandName → Form
command_form name.Bound = bound_form
command_form name.Race = race_form
command_form name.Solve = solve_form
command_form name.Show = show_form
command_form name.ShowList = show_list_form
command_form name.ShowMatch = show_match_form
command_form name.Migrate = migrate_form
command_form name.Advise = advise_form
command_form name.AdviseList = advise_list_form
command_form name.AdviseMatch = advise_match_form
command_form name.Verify = verify_form
command_form name.Ladder = ladder_form
command_form name.Analyse = analyse_form
command_form name.Study = study_form
command_form name.Make = make_form
command_form name.Plan = plan_form
command_form name.Scan = scan_form
command_form name.Reply = reply_form
command_form name.Board = board_form

abbrev pub command_values : CommandName → FormValues → Asked
command_values name.Bound given = bound_values given
command_values name.Race given = race_values given
command_values name.Solve given = solve_values given
command_values name.Show given = show_values given
command_values name.ShowList given = show_list_values given
command_values name.ShowMatch given = show_match_values given
command_values name.Migrate given = migrate_values given
command_values name.Advise given = advise_values given
command_values name.AdviseList given = advise_list_values given
command_values name.AdviseMatch given = advise_match_values given
command_values name.Verify given = verify_values given
command_values name.Ladder given = ladder_values given
command_values name.Analyse given = analyse_values given
command_values name.Study given = study_values given
command_values name.Make given = make_values given
command_values name.Plan given = plan_values given
command_values name.Scan given = scan_values given
command_values name.Reply given = reply_values given
command_values name.Board given = board_values given
