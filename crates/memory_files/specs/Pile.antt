-- Pile in memory with room for more, and the sinks over them.
use Rattle.std.specs.Prelude.{ℕ, ◌+◌, ◌-◌, nat_lt, nat_le, Bool, ◌||◌, List, [], ◌++◌, length, Some, is_some, if◌then◌else◌}
use Rattle.outside_log.specs.Sink.{Output}
use Rattle.hyper_outside.specs.Causes.{risen_count}
use Rattle.memory_files.specs.Calls.{CallList, no_calls, called, listed, front_of}

-- the bytes, and how many more there is room for
pub record Pile : Type 0 where
  pub bytes : List ℕ
  pub room : ℕ

-- with room for so many bytes more
abbrev pub with_room : Pile → ℕ → Pile
with_room pile bytes = record pile { room = pile.room + bytes }

-- with these bytes at the end
abbrev pub more : Pile → List ℕ → Pile
more pile added = record { bytes = pile.bytes ++ added; room = pile.room - length added }

-- a sink that fails for want of room alone, with how often it failed
pub record Honest : Type 0 where
  pub pile : Pile
  pub faults : ℕ

-- no bytes, room for so many, no fault
abbrev pub honest_with : ℕ → Honest
honest_with room = record { pile = record { bytes = []; room = room }; faults = 0 }

abbrev pub honest_output : Honest → Output
honest_output sink = record { told = Some sink.pile.bytes; faults = sink.faults }

-- after a put of these bytes: where they don't fit nothing is added
abbrev pub after_honest : Honest → List ℕ → Honest
after_honest sink added =
    if nat_le (length added) sink.pile.room
    then record { pile = more sink.pile added; faults = sink.faults }
    else record { pile = sink.pile; faults = risen_count sink.faults }

-- a sink that fails on demand too
pub record Demanding : Type 0 where
  pub pile : Pile
  pub calls : CallList
  pub faults : ℕ

-- no bytes, no room, no call
abbrev pub no_bytes : Demanding
no_bytes = record { pile = record { bytes = []; room = 0 }; calls = no_calls; faults = 0 }

abbrev pub demanding_output : Demanding → Output
demanding_output sink = record { told = Some sink.pile.bytes; faults = sink.faults }

-- a put of these bytes fails: it is listed, or there is no room for them
abbrev pub put_fails : Demanding → List ℕ → Bool
put_fails sink bytes = nat_lt sink.pile.room (length bytes) || is_some (listed (called sink.calls))

-- what a put of these bytes adds: the front of a failing call that is listed, and nothing where there is no room for them
abbrev pub after_put : Demanding → List ℕ → Demanding
after_put sink bytes =
    let calls = called sink.calls in
    record {
      pile = if nat_le (length bytes) sink.pile.room
          then more sink.pile (front_of (listed calls) bytes)
          else sink.pile;
      calls = calls;
      faults = if put_fails sink bytes then risen_count sink.faults else sink.faults;
    }
