-- How files lie in memory: the newest first, and beside them the one that was begun.
use Rattle.std.specs.Prelude.{ℕ, List, [], ◌∷◌, Bool, false, Option, None}
use Rattle.std.specs.Option.{option_map, option_map_or}
use Rattle.std.specs.Str.{bytes_eq}
use Rattle.outside_log.specs.Files.{Contents}
use Rattle.outside_log.specs.Log.{Begun, Disk, with_bytes}
use Rattle.memory_files.specs.declared.mem_disk.File.{File}
use Rattle.memory_files.specs.declared.mem_disk.MemDisk.{MemDisk}

-- the bytes under each name are those of its newest file
abbrev pub held_by : List File → Contents
held_by [] = λ name. None
held_by (file ∷ files) = with_bytes (held_by files) file.name.items file.bytes.items

abbrev pub begun_of : Option File → Option Begun
begun_of file = option_map (λ f. record { name = f.name.items; bytes = f.bytes.items }) file

-- what a disk in memory has
abbrev pub disk_in : MemDisk → Disk
disk_in disk = record { held = held_by disk.files.items; begun = begun_of disk.begun }

-- a file was begun for this name, and didn't end
abbrev pub has_begun : Disk → List ℕ → Bool
has_begun disk name = option_map_or (λ (begun : Begun). bytes_eq begun.name name) disk.begun false
