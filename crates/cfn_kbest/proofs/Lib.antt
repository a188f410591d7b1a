mod Expansions
mod Marks
mod Turns
mod Words
