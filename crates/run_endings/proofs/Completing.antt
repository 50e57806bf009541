-- How adding a file's text, putting its report and taking its name's place ends, by where it ends.
use Rattle.std.proofs.Common.{◌≤◌, List, ℕ, [], ◌∷◌, ◌++◌, map, Result, Ok, Err, IsErr, inl, inr, refl, sym, subst, arith}
use Rattle.std.proofs.lemmas.Bool.{false≢true}
use Rattle.hyper_outside.specs.declared.outside.Failed.{Failed as Failure}
use Rattle.outside_log.specs.Log.{Event, Started, Appended, Finished, GivenUp, Failed, Adds, AddsAll, failures}
use Rattle.outside_log.specs.Readings.{ReadsOn, WritesFile}
use Rattle.outside_log.specs.Sink.{Output, Puts}
use Rattle.outside_log.proofs.Logs.{adds-leaves, cause-of, failures-later, leaves-both, leaves-one}
use Rattle.run_endings.specs.Endings.{Completes, Settles}

-- adding is counted on
adds-later : (name text : List ℕ) (before middle : List Event) → Adds name text before middle → failures before ≤ failures middle
adds-later name text before middle adds = failures-later before middle (map (Appended name) adds.pieces) adds.grown

module _ (name text report : List ℕ) (before : List Event) where
  -- adding failed
  pub not-added : (after : List Event) (out : Output) (e : Failure) → AddsAll {T = Unit {0}} name text before after (Err e) → Completes {T = Unit {0}} {E = Failure} name text report before after out out (Err e)
  not-added after out e adds = record {
    file = tt;
    told = tt;
    leaves = adds.leaves;
    front = inl refl;
    cause = record { files_later = adds.cause.later; puts_later = omega arith; failed = inl adds.cause.failed };
  }

  -- all was added, and the rest goes by whether the report was put
  pub settled : (middle after : List Event) (old new : Output) (put result : Result (Unit {0}) Failure) → Adds name text before middle → Puts old new report put → Settles name put middle after result → Completes name text report before after old new result
  settled middle after old new (Err failed) (Ok x) adds puts (given, is) = absurd (false≢true (subst IsErr (sym is) refl))
  settled middle after old new (Err failed) (Err e) adds puts (given, is) =
      let earlier = adds-later name text before middle adds in
      let later = failures-later middle after (GivenUp name ∷ []) given in
      record {
        file = tt;
        told = tt;
        leaves = leaves-both before middle after (adds-leaves name text before middle adds) (leaves-one middle after (GivenUp name) tt given);
        front = inr (Err failed, puts);
        cause = record { files_later = omega (arith, earlier, later); puts_later = puts.cause.later; failed = inr puts.cause.failed };
      }
  settled middle after old new (Ok put) (Ok x) adds puts ends =
      let earlier = adds-later name text before middle adds in
      let later = failures-later middle after (Finished name ∷ []) ends in
      record {
        file = record { middle = middle; adds = adds; ends = ends };
        told = puts;
        leaves = tt;
        front = tt;
        cause = record { files_later = omega (arith, earlier, later); puts_later = puts.cause.later; failed = tt };
      }
  settled middle after old new (Ok put) (Err e) adds puts ends =
      let earlier = adds-later name text before middle adds in
      let cause = cause-of {T = Unit {0}} {E = Failure} middle after (Finished name) name (Err e) ends in
      let later = cause.later in
      let failed = cause.failed in
      record {
        file = tt;
        told = tt;
        leaves = leaves-both before middle after (adds-leaves name text before middle adds) (leaves-one middle after (Failed name) tt ends);
        front = inr (Ok put, puts);
        cause = record { files_later = omega (arith, earlier, later); puts_later = puts.cause.later; failed = inl (omega (arith, earlier, failed)) };
      }

-- ---- behind the beginning of the file

module _ (name text report : List ℕ) (before begun after : List Event) (begins : ReadsOn (before ++ Started name ∷ []) begun) (old new : Output) where
  -- the file was written
  pub written : (x : Unit {0}) → Completes {T = Unit {0}} {E = Failure} name text report begun after old new (Ok x) → WritesFile name text before after
  written x completes = record { begun = begun; begins = begins; completes = completes.file }
