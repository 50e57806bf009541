use Rattle.outside_log.proofs.Readings.{size-cause, size-reads, size-told}
use Rattle.outside_log.proofs.reading.size_of.Goals as goal

pub returns-clause-size : goal.returns-clause-size
returns-clause-size g c = size-told _ _ _ c.size.result c.size.ensures

pub returns-clause-reads : goal.returns-clause-reads
returns-clause-reads g c = size-reads _ _ _ c.size.result c.size.ensures

pub returns-clause-cause : goal.returns-clause-cause
returns-clause-cause g c = size-cause _ _ _ c.size.result c.size.ensures
