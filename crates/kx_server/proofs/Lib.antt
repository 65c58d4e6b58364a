mod Queues
mod Stable
