pub mod Words
mod Queued
mod Opened
mod Parcels
mod Places
mod AnyRun
mod EngineRun
mod Replies
mod Again
mod Restored
mod Handed
mod TruePlaces
