pub mod Folder
pub mod Internal
pub mod Listing
