use Rattle.std.proofs.Common.{◌≡◌, drop}
use Rattle.memory_files.specs.Disks.{held_by}
use Rattle.memory_files.proofs.mem_disk.newest.Given as goal

-- no file so far is of the name
abbrev pub invariant-loop-file : goal.invariant-loop-file
invariant-loop-file l = held_by l.files l.name ≡ held_by (drop l.file-index l.files) l.name
