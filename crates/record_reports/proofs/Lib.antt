mod ScoreKinds
mod LostMost
