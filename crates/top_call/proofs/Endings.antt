-- How a run ends, and with what number.
use Rattle.std.proofs.Common.{◌⊎◌, Bool, true, false, List, Result, Ok, Err, inl, inr, refl, sym, subst}
use Rattle.outside_log.specs.Log.{Event}
use Rattle.outside_log.specs.Sink.{Output}
use Rattle.command_line.specs.declared.command.Command.{Command}
use Rattle.command_line.specs.declared.stop.WordsFault.{WordsFault}
use Rattle.command_line.specs.declared.stop.WordsStop.{WordsStop}
use Rattle.command_line.specs.declared.stop.WordsStop.TheVariants.{Bad, NoMemory}
use Rattle.command_line.specs.Reading.{Gives}
use Rattle.equity_report.specs.declared.refusal.Refusal.TheVariants.{Memory, Write}
use Rattle.run_endings.specs.Notes.{PutsNote, PutsNotes, WasNoted}
use Rattle.run_endings.specs.declared.ending.RunStop.{RunStop}
use Rattle.run_endings.specs.declared.ending.RunStop.TheVariants.{Refused, NotWritten}
use Rattle.run_endings.specs.Endings.{Ending, IsStatus, status_at}
use Rattle.top_call.specs.Outcomes.{DoesAsked, NotesBefore, RefusesWords, unread_refusal}

-- however a run ends, its status is 0 or that of a refusal
pub is-status : (ending : Ending) → IsStatus (status_at ending)
is-status (Ok done) = inl refl
is-status (Err NotWritten) = inr (Write, refl)
is-status (Err (Refused refusal)) = inr (refusal, refl)

-- words that weren't read are refused, or there was no memory for them
pub unread : (log : List Event) (out : Output) (expected : Result Command WordsFault) (stop : WordsStop) → Gives expected (Err stop)
    → DoesAsked expected log log out out (Err (Refused (unread_refusal stop))) ⊎ RefusesWords Memory log log out out (Err (Refused (unread_refusal stop)))
unread log out expected (Bad fault) is = inl (subst (λ (e : Result Command WordsFault). DoesAsked e log log out out (Err (Refused (unread_refusal (Bad fault))))) (sym is) (record { refused = refl; no_call = refl; nothing = refl }))
unread log out expected NoMemory is = inr (record { refused = refl; no_call = refl; nothing = refl })

-- what is noted of a list, and then of a refusal
pub notes-both : (lists : Bool) (ending : Ending) (old mid new : Output) → NotesBefore lists ending old mid → PutsNote ending mid new → PutsNotes lists ending old new
notes-both true (Ok done) old mid new before after = subst (WasNoted old) (sym after) before
notes-both true (Err stop) old mid new before after = subst (λ (o : Output). WasNoted o new) before after
notes-both false ending old mid new before after = subst (λ (o : Output). PutsNote ending o new) before after

-- a refusal is noted, whatever is asked for
pub noted-any : (lists : Bool) (stop : RunStop) (old new : Output) → WasNoted old new → PutsNotes lists (Err stop) old new
noted-any true stop old new noted = noted
noted-any false stop old new noted = noted
