pub mod Lists
pub mod EachClosed
pub mod Opens
pub mod AllThere
