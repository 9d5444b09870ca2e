mod Counted
mod Least
mod Order
mod Rows
mod Taken
mod Totals
