mod Left
mod Answered
