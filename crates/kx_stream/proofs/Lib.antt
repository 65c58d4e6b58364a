mod Pieces
mod Replies
mod Rows
mod Streams
mod Writing
