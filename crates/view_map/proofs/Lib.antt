mod Among
mod Patterned
mod Counted
