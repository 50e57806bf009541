use Rattle.std.proofs.Common.{[], ◌++◌, inl, inr, subst, sym}
use contract.BorrowLft.{⊑_meet, ⊑_refl, ⊑_static}
use Rattle.equity_report.specs.declared.refusal.Refusal.TheVariants.{Memory}
use Rattle.run_endings.specs.Endings.{IsStatus, no_text}
use Rattle.top_call.proofs.Endings.{is-status}
use Rattle.top_call.proofs.program.start.Goals as goal

pub returns-in-Ok : goal.returns-in-Ok
returns-in-Ok g c = let (ending, runs, rest, note) = c.run_real.ensures in subst IsStatus (sym runs.is_status) (is-status ending)

pub returns : goal.returns
returns g c = elim c.refuse_unread.ensures.refused [
  | inl text ↦ inr (no_text, text)
  | inr memory ↦ inr (Memory, memory)
]

-- the runtime lives as long as the call that it is lent to
pub run_real-requires-sync-R : goal.run_real-requires-sync-R
run_real-requires-sync-R g c κs within =
    let κ = κs.1.1.1.1.0 in
    let lives = g.row.R.lives in (
      within.0,
      (
        ⊑_meet κ (lives ++ []) ((κ ++ lives) ++ []) (⊑_meet κ lives [] within.1.0 (⊑_static κ)) (⊑_meet κ (κ ++ lives) [] (⊑_meet κ κ lives (⊑_refl κ) within.1.0) (⊑_static κ)),
        (within.1.1.0, (within.1.1.1.0, (within.1.1.1.1, c.type_bounds.sync-R))),
      ),
    )
