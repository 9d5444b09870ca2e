pub mod Served
mod Contents
mod Turned
mod Turns
