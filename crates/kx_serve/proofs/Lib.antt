mod Books
mod Coordinators
mod Named
mod Opened
