mod Loads
mod Recovers
mod Replays
mod Runs
mod Wanted
