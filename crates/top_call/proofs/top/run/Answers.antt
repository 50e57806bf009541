use Rattle.std.proofs.Common.{Err, inl, refl}
use Rattle.run_endings.specs.declared.ending.RunStop.TheVariants.{Refused}
use Rattle.top_call.specs.Outcomes.{asked, asks_list, is_list, unread_refusal}
use Rattle.top_call.proofs.Endings.{noted-any, notes-both, unread}
use Rattle.top_call.proofs.top.run.Goals as goal

pub returns-in-Ok : goal.returns-in-Ok
returns-in-Ok g c =
    let does = c.perform-ending.ensures in
    rw (c.in-Ok.ensures.reads) (
      c.perform-ending.result,
      record {
        behind = g.O.Sink.output c.perform-ending.new.out;
        does = inl (record { ends = does.ends; has_run = does.has_run; cause = does.cause; read_cause = does.read_cause; kept = does.kept });
        line = c.conclude.ensures.line;
        is_status = c.conclude.ensures.status;
      },
      does.untouched,
      notes-both (is_list c.in-Ok.command) c.perform-ending.result _ _ _ does.noted c.conclude.ensures.note,
    )

pub returns-in-Err : goal.returns-in-Err
returns-in-Err g c =
    let told = c.unread_refusal.ensures in (
      Err (Refused (unread_refusal c.in-Err.stop)),
      record {
        behind = g.O.Sink.output c.args.out.now;
        does = unread (g.F.Files.log c.args.files.now) (g.O.Sink.output c.args.out.now) (asked c.args.words.now) c.in-Err.stop c.in-Err.ensures.reads;
        line = rw (told) at c.conclude-in-Err.ensures.line;
        is_status = rw (told) at c.conclude-in-Err.ensures.status;
      },
      λ leaves. refl,
      noted-any (asks_list (asked c.args.words.now)) _ _ _ c.conclude-in-Err.ensures.note,
    )
