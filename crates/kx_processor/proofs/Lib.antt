mod LastBatch
mod Lefts
mod PageImages
mod Steps
mod Told
