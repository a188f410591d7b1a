mod Functions
mod Parsing
mod Parts
mod Tables
mod Wording
