mod Least
mod Joined
mod Striped
mod Sets
