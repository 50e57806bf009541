use Rattle.std.proofs.Common.{rules, ◌∙◌, ℕ, List, ◌++◌, Some, take, ap}
use Rattle.std.proofs.lemmas.List.{take_all}
use Rattle.outside_log.specs.Log.{put_bytes}
use Rattle.system_files.proofs.PutLemmas.{front-of, one-more-put}
use Rattle.system_files.proofs.real_sink.RealSinkSink.put.Goals as goal

pub returns-then-count-bytes-clause-put : goal.returns-then-count-bytes-clause-put
returns-then-count-bytes-clause-put g c =
    let taken = take c.write_out-count.result c.args.bytes.now in
    let left = front-of c.write_out-count.result c.args.bytes.now in
    record {
      gains = (taken, left.0, left.1, ap (λ (bytes : List ℕ). Some bytes) (one-more-put _ _ taken c.then-self.ensures));
      cause = search rules;
    }

pub returns-then-count-bytes-clause-taken : goal.returns-then-count-bytes-clause-taken
returns-then-count-bytes-clause-taken g c =
    let left = front-of c.write_out-count.result c.args.bytes.now in
    (take c.write_out-count.result c.args.bytes.now, left.0, left.1, c.write_out-count.ensures.taken)

pub returns-clause-put : goal.returns-clause-put
returns-clause-put g c =
    let taken = take c.write_out-count.result c.args.bytes.now in
    record {
      gains = ap (λ (bytes : List ℕ). Some bytes) (one-more-put _ _ taken c.then-self.ensures
          ∙ ap (λ (bytes : List ℕ). put_bytes c.args.self.now.log.events ++ bytes) (take_all c.write_out-count.result c.args.bytes.now c.if-count-bytes.false));
      cause = search rules;
    }
