pub mod DevSet
pub mod Errno
pub mod Name
pub mod Pattern
pub mod ThreadSet
pub mod Word
