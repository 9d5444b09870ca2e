mod Between
mod Keys
mod Held
mod Noted
