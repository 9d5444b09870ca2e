pub mod Raid
