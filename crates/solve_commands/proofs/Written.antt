-- How a file is written and a report on it put, from its beginning on.
use Rattle.std.proofs.Common.{◌≡◌, List, ℕ, [], ◌∷◌, ◌++◌, Result, Ok, Err, IsErr, inl, inr, refl, sym, subst, arith}
use Rattle.hyper_outside.specs.declared.outside.Failed.{Failed as Failure}
use Rattle.outside_log.specs.Log.{Event, Started, Failed}
use Rattle.outside_log.specs.Readings.{ReadsOn}
use Rattle.outside_log.specs.Sink.{Output}
use Rattle.outside_log.proofs.Logs.{cause-of, failures-later, leaves-both, leaves-one}
use Rattle.outside_log.proofs.Readings.{reads-none}
use Rattle.run_endings.specs.Endings.{Completes}
use Rattle.solve_commands.specs.Ladders.{WritesAndTells}

module _ (name text report : List ℕ) (before begun : List Event) (old : Output) where
  -- it couldn't be begun
  pub not-begun : (result : Result (Unit {0}) Failure) → IsErr result → begun ≡ before ++ Failed name ∷ [] → WritesAndTells name text report before begun old old result
  not-begun (Ok x) wrong fails = cc
  not-begun (Err e) is fails =
      let cause = cause-of {T = Unit {0}} {E = Failure} before begun (Started name) name (Err e) fails in
      record {
        file = tt;
        told = tt;
        leaves = leaves-one before begun (Failed name) tt fails;
        front = inl refl;
        cause = record { files_later = cause.later; puts_later = omega arith; failed = inl cause.failed };
      }

  -- it was begun
  pub behind-start : begun ≡ before ++ Started name ∷ [] → (after : List Event) (new : Output) (result : Result (Unit {0}) Failure) → Completes name text report begun after old new result → WritesAndTells name text report before after old new result
  behind-start begins after new (Ok x) done =
      let earlier = failures-later before begun (Started name ∷ []) begins in
      let later = done.cause.files_later in
      record {
        file = record { begun = begun; begins = subst (ReadsOn (before ++ Started name ∷ [])) (sym begins) (reads-none _); completes = done.file };
        told = done.told;
        leaves = tt;
        front = tt;
        cause = record { files_later = omega (arith, earlier, later); puts_later = done.cause.puts_later; failed = tt };
      }
  behind-start begins after new (Err e) done =
      let earlier = failures-later before begun (Started name ∷ []) begins in
      let later = done.cause.files_later in
      record {
        file = tt;
        told = tt;
        leaves = leaves-both before begun after (leaves-one before begun (Started name) tt begins) done.leaves;
        front = done.front;
        cause = record {
          files_later = omega (arith, earlier, later);
          puts_later = done.cause.puts_later;
          failed = elim done.cause.failed [ inl rose ↦ inl (omega (arith, earlier, rose)) | inr rose ↦ inr rose ];
        };
      }
