mod Cell
mod Large
mod Numbers
mod Room
mod Taken
mod Values
mod Walks
