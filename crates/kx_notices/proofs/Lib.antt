mod Calendar
mod Counting
mod Flat
mod Joined
mod Visible
