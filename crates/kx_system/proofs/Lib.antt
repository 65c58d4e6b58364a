pub mod ClientNumbers
pub mod ChangedClients
pub mod Numbers
mod Printing
mod SystemWorlds
mod ToldCommands
mod WorkedRuns
