pub mod Sink
pub mod Files
pub mod Log
pub mod Reading
pub mod Told
pub mod Readings
