-- What stands under a name once a file was written.
use Rattle.std.proofs.Common.{◌≡◌, ◌≢◌, ◌∙◌, ℕ, List, [], ◌∷◌, ◌++◌, map, Some, ap}
use Rattle.outside_log.specs.Log.{Event, Started, Appended, Finished, Disk, after_all, disk_of, empty_disk, in_place, standing, with_bytes}
use Rattle.outside_log.specs.Readings.{WritesFile}
use Rattle.outside_log.proofs.Logs.{added, after-both, aside, one-more, under}
use Rattle.outside_log.proofs.Readings.{reads-disk}

-- what was begun for a name and added to
begun-with : (name bytes : List ℕ) (old new : List Event) → (writes : WritesFile name bytes old new) → disk_of writes.completes.middle ≡ record { held = standing old; begun = Some (record { name = name; bytes = bytes }) }
begun-with name bytes old new writes =
    let adds = writes.completes.adds in
    ap disk_of adds.grown
    ∙ after-both empty_disk writes.begun (map (Appended name) adds.pieces)
    ∙ ap (λ (disk : Disk). after_all disk (map (Appended name) adds.pieces)) (reads-disk (old ++ Started name ∷ []) writes.begun writes.begins ∙ one-more old (Started name))
    ∙ added name adds.pieces (standing old) (record { name = name; bytes = [] })
    ∙ ap (λ (all : List ℕ). record { held = standing old; begun = Some (record { name = name; bytes = all }) }) adds.joined

-- once it was written whole
placed : (name bytes : List ℕ) (old new : List Event) → WritesFile name bytes old new → (other : List ℕ) → standing new other ≡ with_bytes (standing old) name bytes other
placed name bytes old new writes other =
    ap (λ (log : List Event). standing log other) writes.completes.ends
    ∙ ap (λ (disk : Disk). disk.held other) (one-more writes.completes.middle (Finished name))
    ∙ ap (λ (disk : Disk). in_place disk.held disk.begun other) (begun-with name bytes old new writes)

-- under its name it stands
pub stands : (name bytes : List ℕ) (old new : List Event) → WritesFile name bytes old new → standing new name ≡ Some bytes
stands name bytes old new writes = placed name bytes old new writes name ∙ under (standing old) name bytes

-- and no other changed
pub others-stay : (name bytes other : List ℕ) (old new : List Event) → WritesFile name bytes old new → other ≢ name → standing new other ≡ standing old other
others-stay name bytes other old new writes differs = placed name bytes old new writes other ∙ aside (standing old) name bytes other differs
