mod Above
mod Unused
