mod Causes
mod Fetching
mod Flushing
mod FlushingAll
mod Stamped
mod Suffixes
mod TakenOver
