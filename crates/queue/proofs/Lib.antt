pub mod Heap
mod Hole
mod Calls
