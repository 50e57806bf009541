mod Follows
mod Games
mod Measures
mod OneList
mod OneRecord
mod Playing
mod Replays
mod Turning
